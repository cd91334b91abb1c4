-- What a mark allows: that of a cell without a range and that of a local every value, that of a range its values; and nothing changes where
-- the words of the ranges stay. Assumes nothing.
use Prim.Native.Nat.{ℕ, suc, ◌-◌, ◌<◌, ◌≤◌}
use native.Mathlib.Omega.{arith}
use mathlib.Core.Path.{◌≡◌, refl}
use mathlib.Core.Bool.{Bool, true, false, ◌||◌}
use lib.Dec.{leb, eqb}
use borrow.Author.Tests.{le-leb, lt-leb, ne_eqb, eqb-false, leb-false}
use Rattle.tables.specs.Layout.{Words, max_ranges}
use Rattle.tables.specs.Ranges.{lowest_at, highest_at, unranged, range_mark, local_mark, inside, allows}

module _ (w : Words) (v : ℕ) where
  pub allows-every : allows w unranged v ≡ true
  unfolding allows
  allows-every = refl

  pub allows-local : (m : ℕ) → local_mark ≤ m → allows w m v ≡ true
  unfolding allows
  allows-local m h = rw (ne_eqb m 0 (λ e. omega arith), le-leb local_mark m h)

  pub allows-range : (k : ℕ) → k < max_ranges → allows w (range_mark k) v ≡ inside w k v
  unfolding allows
  allows-range k h =
      let one : suc k - 1 ≡ k = omega arith in
      rw (ne_eqb (suc k) 0 (λ e. omega arith), lt-leb local_mark (suc k) (omega arith), one)

-- the words of the ranges are the same
pub record SameRanges (w w' : Words) : Type 0 where
  pub lowest : (k : ℕ) → k < max_ranges → lowest_at w' k ≡ lowest_at w k
  pub highest : (k : ℕ) → k < max_ranges → highest_at w' k ≡ highest_at w k

pub allows-same : {w w' : Words} → SameRanges w w' → (m v : ℕ) → allows w' m v ≡ allows w m v
unfolding allows
allows-same {w} {w'} s m v = by-cell (eqb m unranged) refl
  where
    by-local : (b : Bool) → leb local_mark m ≡ b → (eqb m unranged ≡ false) → (b || inside w' (m - 1) v) ≡ (b || inside w (m - 1) v)
    by-local true e n = refl
    by-local false e n =
        let a = leb-false local_mark m e in
        let z = eqb-false m unranged n in
        rw (s.lowest (m - 1) (omega arith), s.highest (m - 1) (omega arith))

    by-cell : (b : Bool) → eqb m unranged ≡ b →
        (b || (leb local_mark m || inside w' (m - 1) v)) ≡ (b || (leb local_mark m || inside w (m - 1) v))
    by-cell true e = refl
    by-cell false e = by-local (leb local_mark m) refl e
