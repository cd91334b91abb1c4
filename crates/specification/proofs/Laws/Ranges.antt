-- The range of a cell. A scalar has its own range of the line, and every element of an array has the array's; a value lies in a range between
-- its ends; and a sheet of edition 1 or 2 has no ranges, so its cells have all of 32 bits. Assumes nothing.
use Prim.Native.Nat.{ℕ, zero, suc, ◌+◌, ◌-◌, ◌≤◌, ◌<◌}
use native.Mathlib.Omega.{arith}
use mathlib.Core.Path.{◌≡◌, refl, ap, ◌∙◌}
use mathlib.Core.Bool.{Bool, true, false}
use mathlib.Core.Logic.{◌↔◌}
use mathlib.Core.List.{List, [], ◌∷◌}
use lib.ListN.{length, take, get_or}
use lib.Dec.{T, ltb}
use lib.IntN.{ℤ}
use lib.Signed.{◌≤ℤ◌, le_z}
use borrow.Author.Tests.{ltb-true, ltb-false, lt-ltb, le-ltb}
use mir.Facts.{and_yes, yes_and}
use Rattle.specification.specs.Bytes.{Bytes, pick}
use Rattle.specification.specs.Number.{within, in32}
use Rattle.specification.specs.Parser.{Reader, found}
use Rattle.specification.specs.Lines.{Declared, first_ranged, contains, everything, sum, array_of, scalar, element, cells, first_of, length_of, cell_of, range_number, range_of, in_range}
use Rattle.specification.specs.Sheet.{Sheet, read}
use Rattle.specification.specs.WellFormed.{Limits}
use Rattle.specification.specs.Plain.{Filling, Fills}
use Rattle.specification.proofs.Laws.Allowed.{allowed-in32, in32-in_range}
use Rattle.specification.proofs.Laws.ReadSheet.{read-well-formed}
use Rattle.specification.specs.Place.{cell}

-- ---- which array

array_at : (ns : List ℕ) (a i : ℕ) → i < get_or ns a 0 → array_of ns (sum (take a ns) + i) ≡ a
unfolding array_of sum
array_at [] a i h = absurd (omega arith)
array_at (n ∷ ns) zero i h = let z : 0 + i ≡ i = omega arith in rw (z, lt-ltb i n h)
array_at (n ∷ ns) (suc a) i h =
    let here = n + sum (take a ns) + i in
    let left : here - n ≡ sum (take a ns) + i = omega arith in
    rw (le-ltb here n (omega arith), left) (ap suc (array_at ns a i h))

-- an element lies in its array
pub record Own (ns : List ℕ) (i a : ℕ) : Type 0 where
  pub array : a < length ns
  pub begins : sum (take a ns) ≤ i
  pub ends : i < sum (take a ns) + get_or ns a 0

array-own : (ns : List ℕ) (i : ℕ) → i < sum ns → Own ns i (array_of ns i)
unfolding array_of sum
array-own [] i h = absurd (omega arith)
array-own (n ∷ ns) i h = go (array-own ns (i - n)) (ltb i n) refl
  where
    go : (i - n < sum ns → Own ns (i - n) (array_of ns (i - n))) → (b : Bool) → ltb i n ≡ b → Own (n ∷ ns) i (pick b 0 (suc (array_of ns (i - n))))
    go ih true e = let l = ltb-true i n e in record { array = omega arith; begins = omega arith; ends = omega arith }
    go ih false e =
        let l = ltb-false i n e in
        let o = ih (omega arith) in
        record { array = omega (arith, o.array); begins = omega (arith, o.begins, l); ends = omega (arith, o.ends, l) }

-- ---- a cell's range by its number in the line

module _ (D : Declared) where
  pub scalar-number : (n : ℕ) → n < D.scalars → range_number D n ≡ n
  unfolding range_number
  scalar-number n h = rw (lt-ltb n D.scalars h)

  pub element-number : (a e : ℕ) → e < length_of D a → range_number D (first_of D a + e) ≡ D.scalars + a
  unfolding range_number first_of length_of
  element-number a e h =
      let at = sum (take a D.arrays) in
      let left : D.scalars + at + e - D.scalars ≡ at + e = omega arith in
      rw (le-ltb (D.scalars + at + e) D.scalars (omega arith), left) (ap (D.scalars +◌) (array_at D.arrays a e h))

  -- the range of `v2`, and that of `a1.3`
  pub scalar-range : (n : ℕ) → n < D.scalars → range_of D (cell_of D (scalar n)) ≡ get_or D.ranges n everything
  unfolding range_of cell_of
  scalar-range n h = ap (λ k. get_or D.ranges k everything) (scalar-number n h)

  pub element-range : (a e : ℕ) → e < length_of D a → range_of D (cell_of D (element a e)) ≡ get_or D.ranges (D.scalars + a) everything
  unfolding range_of cell_of
  element-range a e h = ap (λ k. get_or D.ranges k everything) (element-number a e h)

  -- a declared cell that is no scalar lies in the array of its range
  pub cell-own : (c : ℕ) → c < cells D → D.scalars ≤ c → Own D.arrays (c - D.scalars) (range_number D c - D.scalars)
  unfolding range_number cells
  cell-own c h l =
      let a = array_of D.arrays (c - D.scalars) in
      let left : D.scalars + a - D.scalars ≡ a = omega arith in
      rw (le-ltb c D.scalars l, left) (array-own D.arrays (c - D.scalars) (omega arith))

  -- ---- the values of a range

  pub in-range : (c : ℕ) (z : ℤ) → T (in32 z) → T (in_range D c z) ↔ (((range_of D c).low ≤ℤ z) × (z ≤ℤ (range_of D c).high))
  unfolding in_range contains
  in-range c z t = (
    (λ h. let b = and_yes (le_z lo z) (le_z z hi) (and_yes (in32 z) (within lo hi z) h).1 in (record { le = b.0 }, record { le = b.1 })),
    (λ (p, q). yes_and (in32 z) (within lo hi z) t (yes_and (le_z lo z) (le_z z hi) p.le q.le)),
  )
    where
      lo : ℤ
      lo = (range_of D c).low

      hi : ℤ
      hi = (range_of D c).high

-- ---- before edition 3

no-ranges : (D : Declared) → Limits D → D.edition < first_ranged → D.ranges ≡ []
no-ranges D l h = go D.ranges (l.ranges ∙ rw (lt-ltb D.edition first_ranged h))
  where
    go : {A : Type 0} (xs : List A) → length xs ≡ 0 → xs ≡ []
    go [] e = refl
    go (x ∷ xs) e = absurd (omega arith)

-- the fillings of a sheet of edition 1 or 2 are those with all values of 32 bits
pub fillings-of-32 : (b : Bytes) (s : Sheet) (r : Reader) → read b ≡ found s r → s.declared.edition < first_ranged → (φ : Filling) →
    Fills s.declared φ ↔ ((c : ℕ) → c < cells s.declared → T (in32 (φ c)))
unfolding Fills
fillings-of-32 b s r e h φ =
    let D = s.declared in
    let none = no-ranges D (read-well-formed true b s r e).limits h in (
      (λ f c l. allowed-in32 D (cell c) (φ c) (f c l)),
      (λ f c l. in32-in_range D none c (φ c) (f c l)),
    )
