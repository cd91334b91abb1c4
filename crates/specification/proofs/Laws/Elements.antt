-- Where arrays begin and end. The cells of declared scalars and of elements inside declared arrays are declared. Assumes nothing.
use Prim.Native.Nat.{ℕ, zero, suc, ◌+◌, ◌≤◌, ◌<◌}
use native.Mathlib.Omega.{arith}
use mathlib.Core.Path.{◌≡◌, refl}
use mathlib.Core.List.{List, [], ◌∷◌}
use lib.ListN.{take, get_or}
use Rattle.specification.specs.Lines.{Declared, sum, cells, first_of, length_of}

-- an index inside the a-th of some lengths lies inside their sum
pub sum-take : (a i : ℕ) (ns : List ℕ) → i < get_or ns a 0 → sum (take a ns) + i < sum ns
unfolding sum
sum-take a i [] h = absurd (omega arith)
sum-take zero i (n ∷ ns) h = omega arith
sum-take (suc a) i (n ∷ ns) h = let r = sum-take a i ns h in omega arith

sum-next : (ns : List ℕ) (a : ℕ) → sum (take (suc a) ns) ≡ sum (take a ns) + get_or ns a 0
unfolding sum
sum-next [] zero = refl
sum-next [] (suc a) = refl
sum-next (n ∷ ns) zero = omega arith
sum-next (n ∷ ns) (suc a) = omega (arith, sum-next ns a)

sum-part : (ns : List ℕ) (a : ℕ) → sum (take a ns) ≤ sum ns
unfolding sum
sum-part [] zero = omega arith
sum-part [] (suc a) = omega arith
sum-part (n ∷ ns) zero = omega arith
sum-part (n ∷ ns) (suc a) = omega (arith, sum-part ns a)

module _ (D : Declared) where
  -- an array ends where the next begins, and none beyond the cells
  pub first_next : (a : ℕ) → first_of D (suc a) ≡ first_of D a + length_of D a
  unfolding first_of length_of
  first_next a = omega (arith, sum-next D.arrays a)

  pub first-limit : (a : ℕ) → first_of D a ≤ cells D
  unfolding first_of cells
  first-limit a = omega (arith, sum-part D.arrays a)

  pub scalar-declared : (c : ℕ) → c < D.scalars → c < cells D
  unfolding cells
  scalar-declared c h = omega arith

  pub element-declared : (a i : ℕ) → i < length_of D a → first_of D a + i < cells D
  unfolding cells first_of length_of
  element-declared a i h = let r = sum-take a i D.arrays h in omega arith
