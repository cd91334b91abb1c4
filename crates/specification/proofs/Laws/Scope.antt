-- The leaves of a tree, and what holds of the places in scope: the words in which demand 3 over the tree is put. A place is in scope if it is
-- a declared cell or a local bound around the formula; of any other place nothing is said, since a local may keep a value from an earlier
-- round of `all`. Assumes nothing.
use Prim.Native.Nat.{ℕ, ◌<◌}
use mathlib.Core.Path.{◌≡◌}
use mathlib.Core.Logic.{◌⊎◌}
use lib.Dec.{T}
use lib.IntN.{ℤ}
use Rattle.specification.specs.Lines.{Declared, cells, in_range}
use Rattle.specification.specs.Place.{Place, cell, local}
use Rattle.specification.specs.Value.{full, Valuation}
use Rattle.specification.specs.Tree.{Tree, success_leaf, failure_leaf, error_leaf, step, fork, fan, ask}
use Rattle.specification.specs.WellFormed.{Scope}
use Rattle.specification.specs.Plain.{Env}

-- ---- the leaves of a tree

-- each success leaf
unfoldable pub Every : (Valuation → Type 0) → Tree → Type 0
Every P (success_leaf β) = P β
Every P failure_leaf = Unit {0}
Every P (error_leaf κ t β) = Unit {0}
Every P (step T) = Every P T
Every P (fork T U) = Every P T × Every P U
Every P (fan x n f) = (i : ℕ) → i < n → Every P (f i)
Every P (ask I T) = Every P T

-- some success or error leaf
unfoldable pub Any : (Valuation → Type 0) → Tree → Type 0
Any P (success_leaf β) = P β
Any P failure_leaf = ⊥
Any P (error_leaf κ t β) = P β
Any P (step T) = Any P T
Any P (fork T U) = Any P T ⊎ Any P U
Any P (fan x n f) = (i : ℕ) × (i < n) × Any P (f i)
Any P (ask I T) = Any P T

-- ---- places in scope

module _ (D : Declared) where
  abbrev pub In : Scope → Place → Type 0
  In S (cell c) = c < cells D
  In S (local l) = T (S l)

  -- an environment gives every cell a value of its range
  abbrev pub Fits : Env → Type 0
  Fits ρ = (c : ℕ) → c < cells D → T (in_range D c (ρ (cell c)))

  -- such an environment agrees with a valuation, and a valuation extends another, on the places in scope
  abbrev pub Agree : Scope → Env → Valuation → Type 0
  Agree S ρ α = Fits ρ × ((p : Place) → In S p → (v : ℤ) → α p ≡ full v → ρ p ≡ v)

  abbrev pub Ext : Scope → Valuation → Valuation → Type 0
  Ext S α β = (p : Place) → In S p → (v : ℤ) → α p ≡ full v → β p ≡ full v
