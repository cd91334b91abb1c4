-- The names of all cells: their cells are 0, 1, 2 and so on up to the last, and each of them is declared. Assumes nothing.
use Prim.Native.Nat.{ℕ, zero, suc, ◌+◌, ◌≤◌, ◌<◌}
use native.Mathlib.Omega.{arith}
use native.Mathlib.Nat.{eq-or-lt_of_le, zero-add, suc-add}
use mathlib.Core.Path.{◌≡◌, refl, ◌∙◌, ap}
use mathlib.Core.Bool.{true}
use mathlib.Core.Logic.{⊎_map}
use mathlib.Core.List.{List, [], ◌∷◌, ◌++◌, map, map-append}
use lib.ListN.{take, drop, get_or}
use borrow.Author.Tests.{lt-ltb}
use Rattle.specification.specs.Lines.{Declared, CellName, sum, cells, first_of, length_of, is_declared, cell_of}
use Rattle.specification.specs.Listing.{scalar_names, element_names, array_names, cell_names}
use Rattle.specification.specs.Lists.{Each, Some}
use Rattle.specification.proofs.Laws.Contradiction.{contradiction}
use Rattle.specification.proofs.Laws.Lists.{each_map, each-++, each-of-map}

-- ---- numbers in a row

-- n numbers, from i on
unfoldable pub from : ℕ → ℕ → List ℕ
from i zero = []
from i (suc n) = i ∷ from (suc i) n

from-++ : (i j m n : ℕ) → j ≡ i + m → from i m ++ from j n ≡ from i (m + n)
unfolding from
from-++ i j zero n e = rw zero-add (ap (λ x. from x n) (omega arith))
from-++ i j (suc m) n e = rw suc-add (ap (i ∷◌) (from-++ (suc i) j m n (omega arith)))

pub each_from : (i n : ℕ) → Each (λ c. (i ≤ c) × (c < i + n)) (from i n)
unfolding from Each
each_from i zero = tt
each_from i (suc n) =
    ((omega arith, omega arith), each_map (λ c h. (omega (arith, h.0), omega (arith, h.1))) (from (suc i) n) (each_from (suc i) n))

pub some-from : (i n c : ℕ) → i ≤ c → c < i + n → Some (λ d. d ≡ c) (from i n)
unfolding from Some
some-from i zero c l m = absurd (omega arith)
some-from i (suc n) c l m = ⊎_map (λ e. e) (λ k. some-from (suc i) n c k (omega arith)) (eq-or-lt_of_le l)

-- ---- the a-th array and those after it

-- its length, the lengths up to it, and the arrays after it
next : (xs : List ℕ) (a n : ℕ) (ns : List ℕ) → drop a xs ≡ n ∷ ns →
    (get_or xs a 0 ≡ n) × (sum (take (suc a) xs) ≡ sum (take a xs) + n) × (drop (suc a) xs ≡ ns)
unfolding sum
next [] zero n ns e = contradiction cc
next [] (suc a) n ns e = contradiction cc
next (x ∷ xs) zero n ns e = let q : x ≡ n = cc in (q, omega arith, cc)
next (x ∷ xs) (suc a) n ns e = let (l, s, d) = next xs a n ns e in (l, omega (arith, s), d)

module _ (D : Declared) where
  -- ---- the numbers of the cells

  scalar-cells : (i n : ℕ) → map (cell_of D) (scalar_names i n) ≡ from i n
  unfolding scalar_names from cell_of
  scalar-cells i zero = refl
  scalar-cells i (suc n) = ap (i ∷◌) (scalar-cells (suc i) n)

  element-cells : (a i n c : ℕ) → first_of D a + i ≡ c → map (cell_of D) (element_names a i n) ≡ from c n
  unfolding element_names from cell_of
  element-cells a i zero c e = refl
  element-cells a i (suc n) c e = cc (e, element-cells a (suc i) n (suc c) (omega arith))

  first_next : (a n : ℕ) (ns : List ℕ) → drop a D.arrays ≡ n ∷ ns → first_of D (suc a) ≡ first_of D a + n
  unfolding first_of
  first_next a n ns e = omega (arith, (next D.arrays a n ns e).1)

  array-cells : (a : ℕ) (ns : List ℕ) → drop a D.arrays ≡ ns → map (cell_of D) (array_names a ns) ≡ from (first_of D a) (sum ns)
  unfolding array_names from sum
  array-cells a [] e = refl
  array-cells a (n ∷ ns) e =
      map-append (cell_of D) (element_names a 0 n) (array_names (suc a) ns) ∙
      rw (element-cells a 0 n (first_of D a) (omega arith), array-cells (suc a) ns (next D.arrays a n ns e).2)
      (from-++ (first_of D a) (first_of D (suc a)) n (sum ns) (first_next a n ns e))

  -- the names stand in cell order, one for each cell
  pub name-cells : map (cell_of D) (cell_names D) ≡ from 0 (cells D)
  unfolding cell_names cells first_of sum
  name-cells =
      map-append (cell_of D) (scalar_names 0 D.scalars) (array_names 0 D.arrays) ∙
      rw (scalar-cells 0 D.scalars, array-cells 0 D.arrays refl)
      (from-++ 0 (first_of D 0) D.scalars (sum D.arrays) (omega arith))

  -- ---- each of the names is declared, and its cell is below the number of cells

  abbrev pub Known : CellName → Type 0
  Known n = is_declared D n ≡ true

  scalars-known : (i n : ℕ) → i + n ≤ D.scalars → Each Known (scalar_names i n)
  unfolding scalar_names Each is_declared
  scalars-known i zero l = tt
  scalars-known i (suc n) l = (lt-ltb i D.scalars (omega arith), scalars-known (suc i) n (omega arith))

  elements-known : (a i n : ℕ) → i + n ≤ length_of D a → Each Known (element_names a i n)
  unfolding element_names Each is_declared
  elements-known a i zero l = tt
  elements-known a i (suc n) l = (lt-ltb i (length_of D a) (omega arith), elements-known a (suc i) n (omega arith))

  arrays-known : (a : ℕ) (ns : List ℕ) → drop a D.arrays ≡ ns → Each Known (array_names a ns)
  unfolding array_names Each length_of
  arrays-known a [] e = tt
  arrays-known a (n ∷ ns) e =
      let (l, s, d) = next D.arrays a n ns e in
      each-++ Known (element_names a 0 n) (array_names (suc a) ns)
      (elements-known a 0 n (omega (arith, l))) (arrays-known (suc a) ns d)

  pub names-declared : Each Known (cell_names D)
  unfolding cell_names
  names-declared =
      each-++ Known (scalar_names 0 D.scalars) (array_names 0 D.arrays)
      (scalars-known 0 D.scalars (omega arith)) (arrays-known 0 D.arrays refl)

  pub names-below : Each (λ n. cell_of D n < cells D) (cell_names D)
  names-below =
      each_map (λ n h. omega (arith, h.1)) (cell_names D)
      (each-of-map (λ c. (0 ≤ c) × (c < 0 + cells D)) (cell_of D) (cell_names D) (rw name-cells (each_from 0 (cells D))))
