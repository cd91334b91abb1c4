-- The words that hold the arrays' first cells and the given values, and the words beside them. Assumes nothing.
use Prim.Native.Nat.{ℕ, zero, suc, ◌+◌, ◌≤◌, ◌<◌}
use native.Mathlib.Omega.{arith}
use mathlib.Core.Path.{◌≡◌, refl, sym, ◌∙◌, ap}
use mathlib.Core.Bool.{Bool, true, false}
use mathlib.Core.Logic.{◌≢◌}
use mathlib.Core.List.{List, [], ◌∷◌}
use lib.ListN.{length, get_or, set, replicate, length-set}
use lib.Seq.{get_or-set_same, get_or-set_other}
use lib.Dec.{eqb}
use borrow.Author.Tests.{eqb-true, eqb-false}
use Rattle.specification.specs.Bytes.{pick}
use Rattle.specification.specs.Lists.{Each}
use Rattle.specification.specs.Lines.{Declared, first_of}
use Rattle.specification.specs.Given.{Item}
use Rattle.specification.specs.Place.{cell, put}
use Rattle.specification.specs.Value.{Slot, empty, full}
use Rattle.specification.specs.WellFormed.{Rising}
use Rattle.specification.specs.Outcome.{start}
use Rattle.specification.proofs.Laws.Lists.{each_map}
use Rattle.specification.proofs.Laws.ReadGiven.{rising-above}
use Rattle.values.specs.Word.{biased}
use Rattle.tables.specs.Layout.{max_cells, cell_slot, first_slot, locals_at}
use Rattle.sheet.specs.Tables.{Words, laid_firsts, laid_given}

pub zeros : (n j : ℕ) → ◌≡◌ {A = ℕ} (get_or (replicate n 0) j 0) 0
zeros zero j = refl
zeros (suc n) zero = refl
zeros (suc n) (suc j) = zeros n j

-- ---- arrays

module _ (D : Declared) where
  pub firsts-length : (a n : ℕ) (w : Words) → length (laid_firsts D a n w) ≡ length w
  unfolding laid_firsts
  firsts-length a zero w = refl
  firsts-length a (suc n) w = firsts-length (suc a) n (set w (first_slot a) (first_of D a)) ∙ length-set w (first_slot a) (first_of D a)

  pub firsts-other : (j a n : ℕ) (w : Words) → ((m : ℕ) → a ≤ m → m < a + n → j ≢ first_slot m) → get_or (laid_firsts D a n w) j 0 ≡ get_or w j 0
  unfolding laid_firsts
  firsts-other j a zero w h = refl
  firsts-other j a (suc n) w h =
      firsts-other j (suc a) n (set w (first_slot a) (first_of D a)) (λ m x y. h m (omega arith) (omega arith)) ∙
      get_or-set_other w (first_slot a) j (first_of D a) 0 (h a (omega arith) (omega arith))

  pub firsts-at : (m a n : ℕ) (w : Words) → a ≤ m → m < a + n → first_slot (a + n) ≤ length w →
      get_or (laid_firsts D a n w) (first_slot m) 0 ≡ first_of D m
  unfolding laid_firsts
  firsts-at m a zero w x y h = absurd (omega arith)
  firsts-at m a (suc n) w x y h = go (eqb a m) refl (firsts-at m (suc a) n v)
    where
      v : Words
      v = set w (first_slot a) (first_of D a)

      go : (b : Bool) → eqb a m ≡ b →
          (suc a ≤ m → m < suc a + n → first_slot (suc a + n) ≤ length v → get_or (laid_firsts D (suc a) n v) (first_slot m) 0 ≡ first_of D m) →
          get_or (laid_firsts D (suc a) n v) (first_slot m) 0 ≡ first_of D m
      go true e ih =
          let f = eqb-true a m e in
          firsts-other (first_slot m) (suc a) n v (λ k p q. omega arith) ∙
          ap (λ i. get_or v (first_slot i) 0) (sym f) ∙
          get_or-set_same w (first_slot a) (first_of D a) 0 (omega arith) ∙
          ap (first_of D) f
      go false e ih = let d = eqb-false a m e in ih (omega arith) (omega arith) (rw (length-set w (first_slot a) (first_of D a)) (omega arith))

-- ---- given values

-- one given value
abbrev gave : Item → Words → Words
gave i w = set (set w (cell_slot i.cell) 1) (cell_slot i.cell + 1) (biased i.value)

abbrev Beside : ℕ → Item → Type 0
Beside j i = (j ≢ cell_slot i.cell) × (j ≢ cell_slot i.cell + 1)

gave-length : (i : Item) (w : Words) → length (gave i w) ≡ length w
gave-length i w = simp length-set

gave-other : (j : ℕ) (i : Item) (w : Words) → Beside j i → get_or (gave i w) j 0 ≡ get_or w j 0
gave-other j i w h =
    let k = cell_slot i.cell in
    get_or-set_other (set w k 1) (k + 1) j (biased i.value) 0 h.1 ∙ get_or-set_other w k j 1 0 h.0

pub given-length : (is : List Item) (w : Words) → length (laid_given is w) ≡ length w
unfolding laid_given
given-length [] w = refl
given-length (i ∷ is) w = given-length is (gave i w) ∙ gave-length i w

pub given-other : (j : ℕ) (is : List Item) (w : Words) → Each (Beside j) is → get_or (laid_given is w) j 0 ≡ get_or w j 0
unfolding laid_given Each
given-other j [] w h = refl
given-other j (i ∷ is) w h = given-other j is (gave i w) h.1 ∙ gave-other j i w h.0

-- the two words of a slot with this mark
abbrev pub is_full : Slot → ℕ
is_full empty = 0
is_full (full z) = 1

abbrev pub word_of : ℕ → Slot → ℕ
word_of mark empty = mark
word_of mark (full z) = biased z

module _ (c mark : ℕ) where
  abbrev pub CellWords : Words → Slot → Type 0
  CellWords w s = (get_or w (cell_slot c) 0 ≡ is_full s) × (get_or w (cell_slot c + 1) 0 ≡ word_of mark s)

  gave_at : (i : Item) (w : Words) → c ≡ i.cell → c < max_cells → locals_at ≤ length w → CellWords (gave i w) (full i.value)
  gave_at i w e l h = rw e
      (let k = cell_slot i.cell in (
        get_or-set_other (set w k 1) (k + 1) k (biased i.value) 0 (omega arith) ∙ get_or-set_same w k 1 0 (omega arith),
        get_or-set_same (set w k 1) (k + 1) (biased i.value) 0 (rw (length-set w k 1) (omega arith)),
      ))

  -- the words of each cell, where each is given once and had its mark before
  pub given-at : (floor : ℕ) (is : List Item) (w : Words) → Rising floor is → c < max_cells → locals_at ≤ length w → CellWords w empty →
      CellWords (laid_given is w) (start is (cell c))
  unfolding laid_given start put Rising
  given-at floor [] w r l h x = x
  given-at floor (i ∷ is) w r l h x = go (eqb c i.cell) refl (given-at (suc i.cell) is (gave i w) r.1 l (rw (gave-length i w) h))
    where
      go : (b : Bool) → eqb c i.cell ≡ b → (CellWords (gave i w) empty → CellWords (laid_given is (gave i w)) (start is (cell c))) →
          CellWords (laid_given is (gave i w)) (pick b (full i.value) (start is (cell c)))
      go true e ih =
          let f = eqb-true c i.cell e in
          let g = gave_at i w f l h in
          let a = rising-above (suc i.cell) is r.1 in (
            given-other (cell_slot c) is (gave i w) (each_map (λ k above. (omega arith, omega arith)) is a) ∙ g.0,
            given-other (cell_slot c + 1) is (gave i w) (each_map (λ k above. (omega arith, omega arith)) is a) ∙ g.1,
          )
      go false e ih =
          let d = eqb-false c i.cell e in
          let still = gave-other (cell_slot c) i w (omega arith, omega arith) in
          let after = gave-other (cell_slot c + 1) i w (omega arith, omega arith) in
          ih (still ∙ x.0, after ∙ x.1)
