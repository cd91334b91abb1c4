-- Of the given items that are read, each value is of its cell's range, each cell is declared, and the cells rise strictly. Assumes nothing.
use Prim.Native.Nat.{ℕ, zero, suc, ◌≤◌, ◌<◌}
use native.Mathlib.Omega.{arith}
use mathlib.Core.Path.{◌≡◌}
use mathlib.Core.Bool.{true}
use mathlib.Core.List.{List, [], ◌∷◌}
use lib.ListN.{get_or}
use lib.Dec.{T}
use borrow.Author.Tests.{ltb-true, leb-true}
use Rattle.specification.specs.Bytes.{bytes, feed, comma, colon}
use Rattle.specification.specs.Parser.{Reader, give, next, mark, key}
use Rattle.specification.specs.Lines.{value, Declared, CellName, scalar, element, cells, first_of, length_of, is_declared, cell_of, in_range}
use Rattle.specification.specs.Given.{Item, name, item, items, given_line}
use Rattle.specification.specs.Lists.{Each}
use Rattle.specification.specs.WellFormed.{Rising}
use Rattle.specification.proofs.Laws.Elements.{sum-take}
use Rattle.specification.proofs.Laws.Lists.{each_map}
use Rattle.specification.proofs.Laws.Parser.{true-T, Post, holds, bind-post, after, require-post, choose-post}

-- ---- declared names have declared cells

module _ (D : Declared) where
  pub declared-cell : (n : CellName) → is_declared D n ≡ true → cell_of D n < cells D
  unfolding is_declared cell_of cells first_of length_of
  declared-cell (scalar n) h = omega (arith, ltb-true n D.scalars h)
  declared-cell (element a e) h = omega (arith, sum-take a e D.arrays (ltb-true e (get_or D.arrays a 0) h))

-- ---- rising cells

pub rising-above : (floor : ℕ) (is : List Item) → Rising floor is → Each (λ i. floor ≤ i.cell) is
unfolding Rising Each
rising-above floor [] h = tt
rising-above floor (i ∷ is) h = (h.0, each_map (λ j k. omega (arith, h.0)) is (rising-above (suc i.cell) is h.1))

-- no two items have the same cell
unfoldable pub Distinct : List Item → Type 0
Distinct [] = Unit {0}
Distinct (i ∷ is) = Each (λ j. ¬ (j.cell ≡ i.cell)) is × Distinct is

pub rising-distinct : (floor : ℕ) (is : List Item) → Rising floor is → Distinct is
unfolding Rising Distinct
rising-distinct floor [] h = tt
rising-distinct floor (i ∷ is) h =
    (each_map (λ j k e. omega arith) is (rising-above (suc i.cell) is h.1), rising-distinct (suc i.cell) is h.1)

-- ---- items

module _ (D : Declared) where
  item-post : (floor : ℕ) (r : Reader) →
      Post (λ i r'. T (in_range D i.cell i.value) × (i.cell < cells D) × (floor ≤ i.cell)) (item D floor r)
  unfolding item
  item-post floor r =
      after (name r) λ n r₁.
      after (mark colon r₁) λ u r₂.
      after (value r₂) λ z r₃.
      require-post _ _ _ _ _ tt λ d.
      require-post _ _ _ _ _ tt λ e.
      require-post _ _ _ _ _ tt λ i.
      holds (true-T (in_range D (cell_of D n) z) i, declared-cell D n d, leb-true floor (cell_of D n) e)

  -- each value of its cell's range, each cell declared, all rising
  abbrev pub Items : ℕ → List Item → Reader → Type 0
  Items floor is r = Each (λ i. T (in_range D i.cell i.value)) is × Each (λ i. i.cell < cells D) is × Rising floor is

  items-post : (k floor : ℕ) (r : Reader) → Post (Items floor) (items D k floor r)
  unfolding items Each Rising
  items-post zero floor r = bind-post (item-post floor r) λ i r₁ h. holds ((h.0, tt), (h.1, tt), (h.2, tt))
  items-post (suc k) floor r =
      bind-post (item-post floor r) λ i r₁ h.
      bind-post
      (choose-post (next comma r₁.rest) _ (give []) r₁
      (after (mark comma r₁) λ u r₂. items-post k _ r₂) (holds (tt, tt, tt))) λ is r₂ t.
      holds ((h.0, t.0), (h.1, t.1), (h.2, t.2))

  pub given-post : (r : Reader) → Post (Items 0) (given_line D r)
  unfolding given_line Each Rising
  given-post r =
      after (key (bytes "given=") r) λ u r₁.
      bind-post (choose-post (next feed r₁.rest) (give []) (items D 512 0) r₁ (holds (tt, tt, tt)) (items-post 512 0 r₁)) λ is r₂ h.
      after (mark feed r₂) λ u r₃. holds h
