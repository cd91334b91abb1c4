-- A cut is a cut: what a run writes under limits is a beginning of what it writes without them, and a run is stopped at exactly the visit
-- that meets the condition of its stop. Assumes nothing.
use Prim.Native.Nat.{ℕ, suc, ◌+◌, ◌≤◌, max}
use native.Mathlib.Omega.{arith}
use mathlib.Core.Path.{◌≡◌, refl, sym, ◌∙◌, ap, subst}
use mathlib.Core.Bool.{Bool, true, false}
use mathlib.Core.List.{List, [], ◌∷◌, ◌++◌}
use lib.ListN.{length, length-append}
use lib.Dec.{ltb}
use Rattle.specification.specs.declared.Setting.{Setting}
use Rattle.specification.specs.declared.Tallies.{Tallies}
use Rattle.specification.specs.Bytes.{Bytes}
use Rattle.specification.specs.Lines.{Declared}
use Rattle.specification.specs.Listing.{answer_head, error_head, Block, block_of, block_text, listing_text}
use Rattle.specification.specs.Leaves.{Leaf, answer, error, fail, blocks}
use Rattle.specification.specs.Visits.{Event, node, leaf, Visit}
use Rattle.specification.specs.Run.{tallies, block_count, Conditions, conditions, Stop, spent, path, output, Run, going, stopped, scan}
use Rattle.specification.specs.Lists.{Each}
use Rattle.specification.proofs.Laws.Lists.{Begins}
use Rattle.specification.proofs.Laws.Settled.{unless}
use Rattle.specification.proofs.Laws.Stops.{due_text, added, added_under, counted, counted-nodes, at_stop, Meets, Passes}
use Rattle.specification.proofs.Laws.Run.{written_by, then-is-++, scan-append, scan-stops, scan-passes, scan-going, scan-induction, scan-nodes, scan-grows}
use Rattle.specification.proofs.Laws.Leaves.{leaf_of, leaves_in}

-- ---- a listing under limits is a beginning of the one without

-- the second run, after the same skip, meets no limit
module _ (C : Conditions) (S' : Setting) (size' : ℕ) (same : C.setting.skip ≡ S'.skip) where
  abbrev wide : Conditions
  wide = conditions C.declared S' size'

  pub cut-prefix : (vs : List Visit) (t t' : Tallies) (w w' : Bytes) →
      scan wide (going t w) vs ≡ going t' w' → Begins (written_by (scan C (going t w) vs)) w'
  cut-prefix vs t t' w w' =
      scan-induction C Goal (λ t w h. ahead [] t w h) (λ v vs t w e m h. ahead (v ∷ vs) t w h)
      (λ v vs t w r m ih h. ih (subst (λ n. scan wide (going (counted v.event t) (w ++ added C.declared n t v.event)) vs ≡ going t' w')
      (sym same) (scan-going wide v vs t w t' w' h).1)) vs t w
    where
      Goal : Tallies → Bytes → List Visit → Run → Type 0
      Goal t w vs r = scan wide (going t w) vs ≡ going t' w' → Begins (written_by r) w'

      ahead : (vs : List Visit) (t : Tallies) (w : Bytes) → scan wide (going t w) vs ≡ going t' w' → Begins w w'
      ahead vs t w h = rw h at (scan-grows wide (going t w) vs)

-- ---- a run that meets no limit

-- what a visit adds, and the blocks that come after it, take no more bytes than all blocks
due-size : (c : Bool) (b : Block) (bs : List Block) → length (due_text (unless c b)) + length (listing_text bs) ≤ length (listing_text (b ∷ bs))
unfolding listing_text
due-size true b bs = omega (arith, length-append (block_text b) (listing_text bs))
due-size false b bs = omega (arith, length-append (block_text b) (listing_text bs))

added-size : (D : Declared) (skip : ℕ) (t : Tallies) (ev : Event) (ls : List Leaf) →
    length (added D skip t ev) + length (listing_text (blocks D (counted ev t).answers (counted ev t).errors ls)) ≤
    length (listing_text (blocks D t.answers t.errors (leaf_of ev ++ ls)))
unfolding blocks
added-size D skip t node ls = omega arith
added-size D skip t (leaf fail) ls = omega arith
added-size D skip t (leaf (answer β)) ls =
    due-size (ltb (block_count t) skip) (block_of D (answer_head (suc t.answers)) β) (blocks D (suc t.answers) t.errors ls)
added-size D skip t (leaf (error κ i β)) ls =
    due-size (ltb (block_count t) skip) (block_of D (error_head (suc t.errors) κ i) β) (blocks D t.answers (suc t.errors) ls)

-- the bytes of all blocks of these visits
abbrev pub room_of : Declared → Tallies → List Visit → ℕ
room_of D t vs = length (listing_text (blocks D t.answers t.errors (leaves_in vs)))

module _ (C : Conditions) where
  -- budget, path limit and output are enough for these visits
  abbrev pub Ample : Tallies → Bytes → List Visit → Type 0
  Ample t w vs =
      (t.nodes + length vs ≤ C.setting.budget) × Each (λ v. v.depth ≤ C.setting.path) vs ×
      (length w + room_of C.declared t vs ≤ C.size)

  abbrev Goes : Tallies → Bytes → List Visit → Run → Type 0
  Goes t w vs r = Ample t w vs → (t' : Tallies) × (w' : Bytes) × (r ≡ going t' w')

  module _ (v : Visit) (vs : List Visit) (t : Tallies) (w : Bytes) (p : Ample t w (v ∷ vs)) where
    rest-fits :
        length w + (length (added_under C t v.event) + room_of C.declared (counted v.event t) vs) ≤ C.size
    unfolding leaves_in
    rest-fits = omega (arith, p.2, added-size C.declared C.setting.skip t v.event (leaves_in vs))

    none-met : (e : Stop) → ¬ Meets C e v t w
    unfolding Each
    none-met spent m = omega (arith, p.0)
    none-met path m = omega (arith, p.1.0, m.1)
    none-met output m = omega (arith, rest-fits, m.2.2, ap (λ o. length (due_text o)) m.2.1)

    still-ample : Ample (counted v.event t) (w ++ added_under C t v.event) vs
    unfolding Each
    still-ample = (
      omega (arith, counted-nodes v.event t, p.0),
      p.1.1,
      omega (arith, length-append w (added_under C t v.event), rest-fits),
    )

  pub ample-goes : (vs : List Visit) (t : Tallies) (w : Bytes) → Ample t w vs →
      (t' : Tallies) × (w' : Bytes) × (scan C (going t w) vs ≡ going t' w')
  ample-goes =
      scan-induction C Goes (λ t w p. (t, w, refl)) (λ v vs t w e m p. absurd (none-met v vs t w p e m))
      (λ v vs t w r m ih p. ih (still-ample v vs t w p))

-- the longest path to one of the visits
unfoldable pub deepest : List Visit → ℕ
deepest [] = 0
deepest (v ∷ vs) = max v.depth (deepest vs)

deepest-each : (n : ℕ) (vs : List Visit) → deepest vs ≤ n → Each (λ v. v.depth ≤ n) vs
unfolding Each deepest
deepest-each n [] h = tt
deepest-each n (v ∷ vs) h = (omega arith, deepest-each n vs (omega arith))

-- limits and room that are enough for these visits
abbrev pub no_limits : ℕ → Tallies → List Visit → Setting
no_limits skip t vs = record { path = deepest vs; budget = t.nodes + suc (length vs); skip = skip }

abbrev pub room_for : Declared → Tallies → Bytes → List Visit → ℕ
room_for D t w vs = length w + room_of D t vs

pub no-limits-goes : (D : Declared) (skip : ℕ) (vs : List Visit) (t : Tallies) (w : Bytes) →
    (t' : Tallies) × (w' : Bytes) × (scan (conditions D (no_limits skip t vs) (room_for D t w vs)) (going t w) vs ≡ going t' w')
no-limits-goes D skip vs t w =
    ample-goes (conditions D (no_limits skip t vs) (room_for D t w vs)) vs t w (omega arith, deepest-each (deepest vs) vs (omega arith), omega arith)

-- so every run's bytes are a beginning of those of a run that meets no limit
pub cut : (C : Conditions) (vs : List Visit) (t : Tallies) (w : Bytes) →
    (t' : Tallies) × (w' : Bytes) ×
    (scan (conditions C.declared (no_limits C.setting.skip t vs) (room_for C.declared t w vs)) (going t w) vs ≡ going t' w') ×
    Begins (written_by (scan C (going t w) vs)) w'
cut C vs t w =
    let g = no-limits-goes C.declared C.setting.skip vs t w in
    (g.0, g.1, g.2, cut-prefix C (no_limits C.setting.skip t vs) (room_for C.declared t w vs) refl vs t g.0 w g.1 g.2)

-- ---- the visit at which a run is stopped

module _ (C : Conditions) where
  -- the visits before it are passed, and it meets the condition of the stop
  pub record StoppedAt (t : Tallies) (w : Bytes) (vs : List Visit) (e : Stop) (t' : Tallies) (w' : Bytes) : Type 0 where
    pub passed : List Visit
    pub there : Visit
    pub unread : List Visit
    pub before : Tallies
    pub parts : vs ≡ passed ++ there ∷ unread
    pub goes : scan C (going t w) passed ≡ going before w'
    pub meets : Meets C e there before w'
    pub after : t' ≡ at_stop e before

  -- a run that is stopped is stopped at such a visit
  pub stopped-at : (vs : List Visit) (t t' : Tallies) (w w' : Bytes) (e : Stop) →
      scan C (going t w) vs ≡ stopped e t' w' → StoppedAt t w vs e t' w'
  unfolding scan
  stopped-at vs t t' w w' e h =
      subst (Holds t w vs) h (scan-induction C Holds (λ t w. tt)
      (λ v vs t w e m. record { passed = []; there = v; unread = vs; before = t; parts = refl; goes = refl; meets = m; after = refl })
      later vs t w)
    where
      Holds : Tallies → Bytes → List Visit → Run → Type 0
      Holds t w vs (going t' w') = Unit {0}
      Holds t w vs (stopped e t' w') = StoppedAt t w vs e t' w'

      later : (v : Visit) (vs : List Visit) (t : Tallies) (w : Bytes) (r : Run) → Passes C v t w →
          Holds (counted v.event t) (w ++ added_under C t v.event) vs r → Holds t w (v ∷ vs) r
      later v vs t w (going t' w') m c = tt
      later v vs t w (stopped e t' w') m c =
          record {
            passed = v ∷ c.passed;
            there = c.there;
            unread = c.unread;
            before = c.before;
            parts = ap (v ∷◌) c.parts;
            goes = scan-passes C v c.passed t w m ∙ c.goes;
            meets = c.meets;
            after = c.after;
          }

  -- and wherever the visits before are passed and the next meets the condition, the run is stopped there
  pub stops_at : (xs : List Visit) (v : Visit) (ys : List Visit) (t u : Tallies) (w w' : Bytes) (e : Stop) →
      scan C (going t w) xs ≡ going u w' → Meets C e v u w' →
      scan C (going t w) (xs ++ v ∷ ys) ≡ stopped e (at_stop e u) w'
  stops_at xs v ys t u w w' e h m =
      rw (← then-is-++ xs (v ∷ ys), scan-append C (going t w) xs (v ∷ ys), h) (scan-stops C v ys u w' e m)

-- ---- spent is given after exactly as many visits as the budget

abbrev pub untouched : Run
untouched = going (tallies 0 0 0 0) []

module _ (C : Conditions) where
  pub spent-after-budget : (vs : List Visit) (t' : Tallies) (w' : Bytes) → scan C untouched vs ≡ stopped spent t' w' →
      (xs : List Visit) × (v : Visit) × (ys : List Visit) ×
      (vs ≡ xs ++ v ∷ ys) × (length xs ≡ C.setting.budget) × (scan C untouched xs ≡ going t' w')
  spent-after-budget vs t' w' h =
      let c = stopped-at C vs (tallies 0 0 0 0) t' [] w' spent h in
      let k = scan-nodes C c.passed (tallies 0 0 0 0) c.before [] w' c.goes in
      (c.passed, c.there, c.unread, c.parts, omega (arith, c.meets), c.goes ∙ ap (λ u. going u w') (sym c.after))

  pub budget-then-spent : (xs : List Visit) (v : Visit) (ys : List Visit) (t' : Tallies) (w' : Bytes) →
      scan C untouched xs ≡ going t' w' → length xs ≡ C.setting.budget → scan C untouched (xs ++ v ∷ ys) ≡ stopped spent t' w'
  budget-then-spent xs v ys t' w' h l =
      let k = scan-nodes C xs (tallies 0 0 0 0) t' [] w' h in
      stops_at C xs v ys (tallies 0 0 0 0) t' [] w' spent h (omega arith)
