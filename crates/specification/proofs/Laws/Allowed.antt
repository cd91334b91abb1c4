-- The values that a place may have are values of 32 bits; an environment whose cells have values of their ranges gives each place one that it
-- may have; and a sheet without a line of ranges allows all of 32 bits. Assumes nothing.
use Prim.Native.Nat.{ℕ}
use mathlib.Core.Path.{◌≡◌, subst}
use mathlib.Core.List.{[]}
use lib.Dec.{T}
use lib.IntN.{ℤ}
use mir.Facts.{and_yes, yes_and}
use Rattle.specification.specs.Number.{within, in32}
use Rattle.specification.specs.Lines.{Declared, contains, range_of, in_range}
use Rattle.specification.specs.Place.{Place, cell, local}
use Rattle.specification.specs.Value.{allowed}
use Rattle.specification.specs.Plain.{Env}
use Rattle.specification.specs.WellFormed.{Scope}
use Rattle.specification.proofs.Laws.Scope.{In, Fits}

module _ (D : Declared) where
  pub in_range-in32 : (c : ℕ) (v : ℤ) → T (in_range D c v) → T (in32 v)
  unfolding in_range contains
  in_range-in32 c v t = let r = range_of D c in (and_yes (in32 v) (within r.low r.high v) t).0

  pub allowed-in32 : (p : Place) (v : ℤ) → T (allowed D p v) → T (in32 v)
  allowed-in32 (cell c) v t = in_range-in32 c v t
  allowed-in32 (local l) v t = t

  pub fits-allowed : (S : Scope) (ρ : Env) → Fits D ρ → (p : Place) → In D S p → (v : ℤ) → ρ p ≡ v → T (in32 v) → T (allowed D p v)
  fits-allowed S ρ f (cell c) i v e t = subst (λ z. T (in_range D c z)) e (f c i)
  fits-allowed S ρ f (local l) i v e t = t

  -- ---- where there is no line of ranges

  module _ (none : D.ranges ≡ []) where
    pub in32-in_range : (c : ℕ) (v : ℤ) → T (in32 v) → T (in_range D c v)
    unfolding in_range range_of contains
    in32-in_range c v t = rw none (yes_and (in32 v) (in32 v) t t)
