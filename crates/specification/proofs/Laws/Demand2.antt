-- The second demand (specs/Demand2.antt) holds of every sheet's run, whatever ended it and whatever was skipped; and a run can end at one
-- place and in one way only. Assumes nothing.
use Prim.Native.Nat.{ℕ, zero, suc, ◌+◌, ◌-◌, ◌≤◌, ◌<◌}
use native.Mathlib.Omega.{arith}
use mathlib.Core.Path.{◌≡◌, refl, sym, ◌∙◌, ap, subst}
use mathlib.Core.List.{List, [], ◌∷◌, ◌++◌, append_assoc, append-nil}
use lib.ListN.{length, take, drop, length-append}
use lib.Seq.{take_at, drop_at}
use Rattle.specification.specs.declared.Setting.{Setting}
use Rattle.specification.specs.declared.Tallies.{Tallies}
use Rattle.specification.specs.declared.End.{End}
use Rattle.specification.specs.declared.End.TheVariants.{Done, Spent, Path, Output}
use Rattle.specification.specs.Bytes.{Bytes}
use Rattle.specification.specs.Lines.{Declared}
use Rattle.specification.specs.Sheet.{Sheet}
use Rattle.specification.specs.Listing.{Block, block_text, listing_text}
use Rattle.specification.specs.Leaves.{Leaf, leaves, blocks}
use Rattle.specification.specs.Visits.{Visit}
use Rattle.specification.specs.Run.{Conditions, conditions, tallies, Stop, spent, path, output, Run, going, stopped, scan}
use Rattle.specification.specs.Outcome.{Result, refusal, ran, end_of, result_of, root_of, visits_of, run_of}
use Rattle.specification.specs.Demand2.{leaf_count, past, leaves_before, listed_before, Next, Ends, visited, ReadLeftToRight}
use Rattle.specification.proofs.Laws.Contradiction.{contradiction}
use Rattle.specification.proofs.Laws.Stops.{due_text, due, added, counted, at_stop, Meets, Passes}
use Rattle.specification.proofs.Laws.Run.{then-is-++, scan-append, scan-stopped, scan-going, scan-nodes, written_by}
use Rattle.specification.proofs.Laws.Leaves.{leaf_of, leaves_in, leaves_in-++, leaves_in-visits, leaf_count-is}
use Rattle.specification.proofs.Laws.Written.{text_after, text-none, added-text, scan-text, Counts, scan-counts}
use Rattle.specification.proofs.Laws.Cut.{stopped-at}
use Rattle.specification.proofs.Laws.Whole.{room, scan-fits}

-- ---- lists

-- the list around its n-th member
around : {A : Type 0} (n : ℕ) (xs : List A) → n < length xs → (ps : List A) × (x : A) × (bs : List A) × (xs ≡ ps ++ x ∷ bs) × (length ps ≡ n)
around n [] h = absurd (omega arith)
around zero (x ∷ xs) h = ([], x, xs, refl, refl)
around (suc n) (x ∷ xs) h = let (ps, y, bs, e, l) = around n xs (omega arith) in (x ∷ ps, y, bs, ap (x ∷◌) e, ap suc l)

-- ---- what lies before a place

module _ (s : Sheet) where
  -- the visits in two parts: the first lies before the place
  module _ (xs ys : List Visit) (parts : visits_of s ≡ xs ++ ys) where
    before : take (length xs) (visits_of s) ≡ xs
    before = ap (take (length xs)) parts ∙ take_at xs ys (length xs) refl

    after : drop (length xs) (visits_of s) ≡ ys
    after = ap (drop (length xs)) parts ∙ drop_at xs ys (length xs) refl

    pub leaves_before-is : leaves_before s (length xs) ≡ leaves_in xs
    unfolding leaves_before visits_of
    leaves_before-is =
        let all : leaves (root_of s) ≡ leaves_in xs ++ leaves_in ys = sym (leaves_in-visits (root_of s) 1) ∙ ap leaves_in parts ∙ leaves_in-++ xs ys in
        ap (λ vs. take (leaf_count vs) (leaves (root_of s))) before ∙
        ap (take (leaf_count xs)) all ∙ take_at (leaves_in xs) (leaves_in ys) (leaf_count xs) (leaf_count-is xs)

-- ---- a run

module _ (s : Sheet) (S : Setting) (size : ℕ) where
  abbrev D : Declared
  D = s.declared

  abbrev C : Conditions
  C = conditions D S size

  abbrev none : Tallies
  none = tallies 0 0 0 0

  -- the run over the first visits is still going
  abbrev GoesTo : List Visit → Tallies → Bytes → Type 0
  GoesTo xs t w = scan C (going none []) xs ≡ going t w

  -- ---- where the run passed the first visits

  module _ (xs ys : List Visit) (parts : visits_of s ≡ xs ++ ys) (t : Tallies) (w : Bytes) (goes : GoesTo xs t w) where
    -- whatever leaves come next
    written_then : (ls : List Leaf) → listing_text (past S.skip (blocks D 0 0 (leaves_in xs ++ ls))) ≡ w ++ text_after D S.skip t ls
    written_then ls =
        let k : S.skip ≡ S.skip - (0 + 0) = omega arith in
        ap (λ n. listing_text (past n (blocks D 0 0 (leaves_in xs ++ ls)))) k ∙ scan-text C xs none t [] w ls goes

    pub written-before : w ≡ listing_text (listed_before s S.skip (length xs))
    unfolding listed_before
    written-before =
        sym (append-nil w) ∙ ap (w ++◌) (sym (text-none D S.skip t)) ∙ sym (written_then []) ∙
        ap (λ ls. listing_text (past S.skip (blocks D 0 0 ls))) (append-nil (leaves_in xs) ∙ sym (leaves_before-is s xs ys parts))

    nodes-before : t.nodes ≡ length xs
    nodes-before = let k = scan-nodes C xs none t [] w goes in omega arith

    counts-before : Counts none t (leaves_before s (length xs))
    counts-before = rw (leaves_before-is s xs ys parts) (scan-counts C xs none t [] w goes)

  module _ (xs : List Visit) (v : Visit) (ys : List Visit) (parts : visits_of s ≡ xs ++ v ∷ ys) (t : Tallies) (w : Bytes) (goes : GoesTo xs t w) where
    next : Next s (length xs) v
    next = (ys, after s xs (v ∷ ys) parts)

    -- the bytes with the block of the next visit, if it has one
    written-with : w ++ added D S.skip t v.event ≡ listing_text (listed_before s S.skip (suc (length xs)))
    unfolding listed_before leaves_in
    written-with =
        let more : visits_of s ≡ (xs ++ v ∷ []) ++ ys = parts ∙ sym (append_assoc xs (v ∷ []) ys) in
        let long : length (xs ++ v ∷ []) ≡ suc (length xs) = omega (arith, length-append xs (v ∷ [])) in
        let those : leaves_in xs ++ (leaf_of v.event ++ []) ≡ leaves_before s (suc (length xs)) =
        sym (leaves_in-++ xs (v ∷ [])) ∙ sym (leaves_before-is s (xs ++ v ∷ []) ys more) ∙ ap (leaves_before s) long in
        ap (w ++◌) (sym (append-nil (added D S.skip t v.event)) ∙
        ap (added D S.skip t v.event ++◌) (sym (text-none D S.skip (counted v.event t))) ∙
        added-text D S.skip t v.event []) ∙
        sym (written_then xs (v ∷ ys) parts t w goes (leaf_of v.event ++ [])) ∙
        ap (λ ls. listing_text (past S.skip (blocks D 0 0 ls))) those

    -- a visit that meets the condition of a stop
    meets-ends : (e : Stop) → Meets C e v t w → Ends s S size (end_of e) (length xs)
    meets-ends spent m = (v, next, sym (nodes-before xs (v ∷ ys) parts t w goes) ∙ m)
    meets-ends path m = (v, next, (λ q. m.0 (nodes-before xs (v ∷ ys) parts t w goes ∙ q)), m.1)
    meets-ends output m =
        let long : length w + length (block_text m.2.0) ≡ length (listing_text (listed_before s S.skip (suc (length xs)))) =
        sym (length-append w (block_text m.2.0)) ∙ ap (λ o. length (w ++ due_text o)) (sym m.2.1) ∙ ap length written-with in
        (v, next, (λ q. m.0 (nodes-before xs (v ∷ ys) parts t w goes ∙ q)), m.1, omega (arith, m.2.2))

    -- one that passes meets none
    same-visit : (u : Visit) → Next s (length xs) u → u ≡ v
    same-visit u (later, e) = let q : u ∷ later ≡ v ∷ ys = sym e ∙ after s xs (v ∷ ys) parts in cc

    fits-with : Passes C v t w → length (listing_text (listed_before s S.skip (suc (length xs)))) ≤ size
    fits-with m =
        let fits : length w ≤ size = subst (λ r. length (written_by r) ≤ size) goes (scan-fits C xs none [] (omega arith)) in
        subst (λ x. length x ≤ size) written-with (room w (due D S.skip t v.event) size fits m.2)

    passes-no-end : Passes C v t w → (e : End) → ¬ Ends s S size e (length xs)
    passes-no-end m Done h =
        let long : length (visits_of s) ≡ length xs + suc (length ys) = ap length parts ∙ length-append xs (v ∷ ys) in
        omega arith
    passes-no-end m Spent h = m.0 (nodes-before xs (v ∷ ys) parts t w goes ∙ h.2)
    passes-no-end m Path h = let q = ap (λ (u : Visit). u.depth) (same-visit h.0 h.1) in omega (arith, m.1, h.3)
    passes-no-end m Output h = omega (arith, fits-with m, h.4)

  -- ---- before the place where it ended

  -- a run that is still going has passed each of its visits
  passed : (ps : List Visit) (x : Visit) (bs : List Visit) (t : Tallies) (w : Bytes) → GoesTo (ps ++ x ∷ bs) t w →
      (u : Tallies) × (b : Bytes) × GoesTo ps u b × Passes C x u b
  passed ps x bs t w h =
      go (scan C (going none []) ps) refl
      (sym (scan-append C (going none []) ps (x ∷ bs)) ∙ ap (scan C (going none [])) (then-is-++ ps (x ∷ bs)) ∙ h)
    where
      go : (r : Run) → scan C (going none []) ps ≡ r → scan C (scan C (going none []) ps) (x ∷ bs) ≡ going t w →
          (u : Tallies) × (b : Bytes) × GoesTo ps u b × Passes C x u b
      go (going u b) e k = (u, b, e, (scan-going C x bs u b t w (ap (λ r. scan C r (x ∷ bs)) (sym e) ∙ k)).0)
      go (stopped f u b) e k =
          let q : stopped f u b ≡ going t w = sym (scan-stopped C f u b (x ∷ bs)) ∙ ap (λ r. scan C r (x ∷ bs)) (sym e) ∙ k in
          contradiction cc

  no-end-before : (xs ys : List Visit) → visits_of s ≡ xs ++ ys → (t : Tallies) (w : Bytes) → GoesTo xs t w →
      (n : ℕ) → n < length xs → (e : End) → ¬ Ends s S size e n
  no-end-before xs ys parts t w goes n l e h =
      let (ps, x, bs, whole, at) = around n xs l in
      let (u, b, to, m) = passed ps x bs t w (subst (λ vs. GoesTo vs t w) whole goes) in
      let all : visits_of s ≡ ps ++ x ∷ (bs ++ ys) = parts ∙ ap (◌++ ys) whole ∙ append_assoc ps (x ∷ bs) ys in
      passes-no-end ps x (bs ++ ys) all u b to m e (subst (Ends s S size e) (sym at) h)

  -- ---- the demand

  -- the bytes are those of blocks of which the demand holds
  abbrev pub Holds : Result → Type 0
  Holds (refusal n p) = Unit {0}
  Holds (ran e t w) = (bs : List Block) × (w ≡ listing_text bs) × ReadLeftToRight s S size e t bs

  -- at the place before which these visits lie
  at_place : (xs ys : List Visit) → visits_of s ≡ xs ++ ys → (u : Tallies) (w : Bytes) → GoesTo xs u w → (e : End) → Ends s S size e (length xs) →
      (t : Tallies) → t.nodes ≡ visited e (length xs) → (t.answers ≡ u.answers) × (t.errors ≡ u.errors) × (t.fails ≡ u.fails) →
      Holds (ran e t w)
  at_place xs ys parts u w goes e ends t nodes same =
      let c = counts-before xs ys parts u w goes in (
        listed_before s S.skip (length xs),
        written-before xs ys parts u w goes,
        record {
          place = length xs;
          blocks = refl;
          ends = ends;
          nowhere_before = no-end-before xs ys parts u w goes;
          nodes = nodes;
          answers = omega (arith, same.0, c.answers);
          errors = omega (arith, same.1, c.errors);
          fails = omega (arith, same.2, c.fails);
        },
      )

  stop-nodes : (e : Stop) (t : Tallies) (n : ℕ) → t.nodes ≡ n → (at_stop e t).nodes ≡ visited (end_of e) n
  stop-nodes spent t n h = h
  stop-nodes path t n h = h
  stop-nodes output t n h = ap suc h

  stop-leaves : (e : Stop) (t : Tallies) →
      ((at_stop e t).answers ≡ t.answers) × ((at_stop e t).errors ≡ t.errors) × ((at_stop e t).fails ≡ t.fails)
  stop-leaves spent t = (refl, refl, refl)
  stop-leaves path t = (refl, refl, refl)
  stop-leaves output t = (refl, refl, refl)

  pub read-left-to-right : Holds (result_of (run_of s S size))
  unfolding run_of
  read-left-to-right = go (run_of s S size) refl
    where
      go : (r : Run) → scan C (going none []) (visits_of s) ≡ r → Holds (result_of r)
      go (going t w) h =
          let whole : visits_of s ≡ visits_of s ++ [] = sym (append-nil (visits_of s)) in
          at_place (visits_of s) [] whole t w h Done refl t (nodes-before (visits_of s) [] whole t w h) (refl, refl, refl)
      go (stopped e t w) h =
          let c = stopped-at C (visits_of s) none t [] w e h in
          let before = nodes-before c.passed (c.there ∷ c.unread) c.parts c.before w c.goes in
          rw c.after
          (at_place c.passed (c.there ∷ c.unread) c.parts c.before w c.goes (end_of e)
          (meets-ends c.passed c.there c.unread c.parts c.before w c.goes e c.meets)
          (at_stop e c.before) (stop-nodes e c.before (length c.passed) before) (stop-leaves e c.before))
