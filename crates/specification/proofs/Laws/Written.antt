-- What a run that is still going has written and counted: the blocks of the leaves that it passed, past the skipped ones, and how many leaves
-- of each kind there were. Assumes nothing.
use Prim.Native.Nat.{ℕ, suc, ◌+◌, ◌-◌}
use native.Mathlib.Omega.{arith}
use mathlib.Core.Path.{◌≡◌, refl, sym, ◌∙◌, ap}
use mathlib.Core.List.{List, [], ◌∷◌, ◌++◌, append_assoc}
use lib.Dec.{ltb}
use Rattle.specification.specs.declared.Tallies.{Tallies}
use Rattle.specification.specs.Bytes.{Bytes}
use Rattle.specification.specs.Lines.{Declared}
use Rattle.specification.specs.Listing.{answer_head, error_head, block_of, listing_text}
use Rattle.specification.specs.Leaves.{Leaf, answer, error, fail, is_answer, is_error, is_fail, how_many, blocks}
use Rattle.specification.specs.Visits.{Event, node, leaf, Visit}
use Rattle.specification.specs.Run.{add_answer, add_error, block_count, Conditions, going, scan}
use Rattle.specification.specs.Demand2.{past}
use Rattle.specification.proofs.Laws.Stops.{added, added_under, counted}
use Rattle.specification.proofs.Laws.Past.{past-none, skip-one}
use Rattle.specification.proofs.Laws.Run.{scan-going}
use Rattle.specification.proofs.Laws.Leaves.{leaf_of, leaves_in}

-- ---- bytes

-- the bytes of these leaves' blocks, after these tallies, past the first skip blocks of the whole run
abbrev pub text_after : Declared → ℕ → Tallies → List Leaf → Bytes
text_after D skip t ls = listing_text (past (skip - block_count t) (blocks D t.answers t.errors ls))

pub text-none : (D : Declared) (skip : ℕ) (t : Tallies) → text_after D skip t [] ≡ []
unfolding blocks listing_text
text-none D skip t = ap listing_text (past-none (skip - block_count t))

-- what a visit adds comes before the bytes of the leaves after it
pub added-text : (D : Declared) (skip : ℕ) (t : Tallies) (ev : Event) (ls : List Leaf) →
    added D skip t ev ++ text_after D skip (counted ev t) ls ≡ text_after D skip t (leaf_of ev ++ ls)
unfolding blocks
added-text D skip t node ls = refl
added-text D skip t (leaf fail) ls = refl
added-text D skip t (leaf (answer β)) ls =
    skip-one skip (block_count t) (block_count (add_answer t)) (omega arith) (block_of D (answer_head (suc t.answers)) β) (blocks D (suc t.answers) t.errors ls)
    (ltb (block_count t) skip) refl
added-text D skip t (leaf (error κ i β)) ls =
    skip-one skip (block_count t) (block_count (add_error t)) (omega arith) (block_of D (error_head (suc t.errors) κ i) β) (blocks D t.answers (suc t.errors) ls)
    (ltb (block_count t) skip) refl

module _ (C : Conditions) where
  -- whatever leaves come after the visits that were passed
  pub scan-text : (vs : List Visit) (t t' : Tallies) (w w' : Bytes) (ls : List Leaf) → scan C (going t w) vs ≡ going t' w' →
      w ++ text_after C.declared C.setting.skip t (leaves_in vs ++ ls) ≡ w' ++ text_after C.declared C.setting.skip t' ls
  unfolding scan leaves_in
  scan-text [] t t' w w' ls h =
      let p : w ≡ w' = cc in
      let q : t ≡ t' = cc in
      rw (p, q)
  scan-text (v ∷ vs) t t' w w' ls h =
      let b = added_under C t v.event in
      let u = counted v.event t in
      ap (λ x. w ++ text_after C.declared C.setting.skip t x) (append_assoc (leaf_of v.event) (leaves_in vs) ls) ∙
      ap (w ++◌) (sym (added-text C.declared C.setting.skip t v.event (leaves_in vs ++ ls))) ∙
      sym (append_assoc w b (text_after C.declared C.setting.skip u (leaves_in vs ++ ls))) ∙
      scan-text vs u t' (w ++ b) w' ls (scan-going C v vs t w t' w' h).1

-- ---- tallies

pub record Counts (t t' : Tallies) (ls : List Leaf) : Type 0 where
  pub answers : t'.answers ≡ t.answers + how_many is_answer ls
  pub errors : t'.errors ≡ t.errors + how_many is_error ls
  pub fails : t'.fails ≡ t.fails + how_many is_fail ls

counts-more : (t t' : Tallies) (ev : Event) (ls : List Leaf) → Counts (counted ev t) t' ls → Counts t t' (leaf_of ev ++ ls)
unfolding how_many
counts-more t t' node ls c = record { answers = c.answers; errors = c.errors; fails = c.fails }
counts-more t t' (leaf fail) ls c = record { answers = c.answers; errors = c.errors; fails = omega (arith, c.fails) }
counts-more t t' (leaf (answer β)) ls c = record { answers = omega (arith, c.answers); errors = c.errors; fails = c.fails }
counts-more t t' (leaf (error κ i β)) ls c = record { answers = c.answers; errors = omega (arith, c.errors); fails = c.fails }

module _ (C : Conditions) where
  pub scan-counts : (vs : List Visit) (t t' : Tallies) (w w' : Bytes) → scan C (going t w) vs ≡ going t' w' → Counts t t' (leaves_in vs)
  unfolding scan leaves_in how_many
  scan-counts [] t t' w w' h =
      let q : t ≡ t' = cc in
      rw (sym q) (record { answers = omega arith; errors = omega arith; fails = omega arith })
  scan-counts (v ∷ vs) t t' w w' h =
      counts-more t t' v.event (leaves_in vs)
      (scan-counts vs (counted v.event t) t' (w ++ added_under C t v.event) w' (scan-going C v vs t w t' w' h).1)
