-- Whether a record is that of a node with an inner tree, by its last word: the test, and what it tells. Assumes nothing.
use Prim.Native.Nat.{ℕ, ◌≤◌, ◌<◌}
use mathlib.Core.Path.{◌≡◌, refl}
use mathlib.Core.Bool.{Bool, true, false}
use mathlib.Core.Logic.{◌⊎◌, inl, inr}
use lib.Dec.{leb, eqb}
use borrow.Author.Tests.{le-leb, lt-leb, eq-eqb, ne_eqb, leb-false, eqb-true, eqb-false}
use Rattle.specification.specs.Bytes.{pick}
use Rattle.specification.proofs.Laws.Contradiction.{contradiction}
use Rattle.tables.specs.Layout.{cells_at}
use Rattle.tables.specs.Codes.{not_code, imp_code}
use Rattle.sheet.specs.Tables.{Words}
use Rattle.search.specs.Records.{at}
use Rattle.walker.specs.Climbing.{asking}

module _ (w : Words) (x : ℕ) where
  pub asking-slot : cells_at ≤ x → false ≡ asking w x
  asking-slot h = rw (le-leb cells_at x h) refl

  pub asking-not : x < cells_at → at w x ≡ not_code → true ≡ asking w x
  asking-not h e = rw (lt-leb cells_at x h, eq-eqb (at w x) not_code e) refl

  pub asking-imp : x < cells_at → ¬ (at w x ≡ not_code) → eqb (at w x) imp_code ≡ asking w x
  asking-imp h n = rw (lt-leb cells_at x h, ne_eqb (at w x) not_code n) refl

-- ---- what the answer tells, over the tests

answers-yes : (slot denies implies : Bool) → pick slot false (pick denies true implies) ≡ true → (slot ≡ false) × ((denies ≡ true) ⊎ (implies ≡ true))
answers-yes true d i e = contradiction cc
answers-yes false true i e = (refl, inl refl)
answers-yes false false i e = (refl, inr e)

answers-no : (slot denies implies : Bool) → pick slot false (pick denies true implies) ≡ false → slot ≡ false → (denies ≡ false) × (implies ≡ false)
answers-no true d i e h = contradiction cc
answers-no false true i e h = contradiction cc
answers-no false false i e h = (refl, e)

module _ (w : Words) (x : ℕ) where
  pub asking-yes : asking w x ≡ true → (x < cells_at) × ((at w x ≡ not_code) ⊎ (at w x ≡ imp_code))
  asking-yes e =
      let r = answers-yes (leb cells_at x) (eqb (at w x) not_code) (eqb (at w x) imp_code) e in
      (leb-false cells_at x r.0, either r.1)
    where
      either : (eqb (at w x) not_code ≡ true) ⊎ (eqb (at w x) imp_code ≡ true) → (at w x ≡ not_code) ⊎ (at w x ≡ imp_code)
      either (inl h) = inl (eqb-true (at w x) not_code h)
      either (inr h) = inr (eqb-true (at w x) imp_code h)

  pub asking-no : asking w x ≡ false → x < cells_at → (¬ (at w x ≡ not_code)) × (¬ (at w x ≡ imp_code))
  asking-no e h =
      let r = answers-no (leb cells_at x) (eqb (at w x) not_code) (eqb (at w x) imp_code) e (lt-leb cells_at x h) in
      (eqb-false (at w x) not_code r.0, eqb-false (at w x) imp_code r.1)
