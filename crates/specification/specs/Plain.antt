-- The plain reading: when a sheet's formula is true of a filling of all cells. It never searches, and shares with the computation tree
-- only the syntax and the arithmetic. Assumes nothing.
use Rattle.std.specs.Prelude.{ℕ, ◌+◌, ◌<◌, ◌≡◌, ◌⊎◌, List, [], ◌∷◌, T, ltb, ℤ, pos, negsuc, ◌≤ℤ◌}
use Rattle.std.proofs.Math.Option.{Option, none, some as just}
use Rattle.specification.specs.Bytes.{pick}
use Rattle.specification.specs.Number.{in32}
use Rattle.specification.specs.Lines.{Declared, cells, first_of, length_of, in_range}
use Rattle.specification.specs.Given.{Item}
use Rattle.specification.specs.Ast.{Op, Term, constant, scalar_at, local_at, parameter, element_at, apply, Formula, truth, and, or, imp, neg, eq, compare, ex, some, all, call}
use Rattle.specification.specs.Sheet.{Sheet}
use Rattle.specification.specs.Place.{Place, cell, local, put}
use Rattle.specification.specs.Arithmetic.{Computed, value, fault, compute, test}

-- ---- terms, valued from a filling and the bound locals

-- a value for each cell and each local
abbrev pub Env : Type 0
Env = Place → ℤ

abbrev pub kept : Computed → Option ℤ
kept (value z) = just z
kept (fault κ) = none

abbrev pub applied : Op → Option ℤ → Option ℤ → Option ℤ
applied o (just x) (just y) = kept (compute o x y)
applied o (just x) none = none
applied o none y = none

module _ (D : Declared) (ρ : Env) where
  abbrev pub element_value : ℕ → Option ℤ → Option ℤ
  element_value a (just (pos i)) = pick (ltb i (length_of D a)) (just (ρ (cell (first_of D a + i)))) none
  element_value a (just (negsuc i)) = none
  element_value a none = none

  -- none where kind 2, 3 or 4 would arise; no parameter is left in a sheet's formula
  unfoldable pub value_of : Term → Option ℤ
  value_of (constant z) = just z
  value_of (scalar_at c) = just (ρ (cell c))
  value_of (local_at l) = just (ρ (local l))
  value_of (parameter n) = none
  value_of (element_at a t) = element_value a (value_of t)
  value_of (apply o s t) = applied o (value_of s) (value_of t)

  -- t has the value x
  abbrev pub Has : Term → ℤ → Type 0
  Has t x = value_of t ≡ just x

-- ---- formulas

-- true of some integer from the first to the second; of each of them
abbrev pub SomeFrom : ℤ → ℤ → (ℤ → Type 0) → Type 0
SomeFrom x y P = (v : ℤ) × (x ≤ℤ v) × (v ≤ℤ y) × P v

abbrev pub EachFrom : ℤ → ℤ → (ℤ → Type 0) → Type 0
EachFrom x y P = (v : ℤ) → x ≤ℤ v → v ≤ℤ y → P v

module _ (D : Declared) where
  unfoldable pub Truth : Env → Formula → Type 0
  Truth ρ truth = Unit {0}
  Truth ρ (and F G) = Truth ρ F × Truth ρ G
  Truth ρ (or F G) = Truth ρ F ⊎ Truth ρ G
  Truth ρ (imp tok F G) = Truth ρ F → Truth ρ G
  Truth ρ (neg tok F) = ¬ Truth ρ F
  Truth ρ (eq tok s t) = (x : ℤ) × Has D ρ s x × Has D ρ t x
  Truth ρ (compare tok r s t) = (x : ℤ) × (y : ℤ) × Has D ρ s x × Has D ρ t y × T (test r x y)
  Truth ρ (ex l F) = (v : ℤ) × T (in32 v) × Truth (put ρ (local l) v) F
  Truth ρ (some tok l a b F) =
      (x : ℤ) × (y : ℤ) × Has D ρ a x × Has D ρ b y × SomeFrom x y (λ v. Truth (put ρ (local l) v) F)
  Truth ρ (all tok l a b F) =
      (x : ℤ) × (y : ℤ) × Has D ρ a x × Has D ρ b y × EachFrom x y (λ v. Truth (put ρ (local l) v) F)
  -- a call is its procedure's formula, so filled
  Truth ρ (call K ts F) = Truth ρ F

-- ---- the sheet and a filling

-- a value for each cell
abbrev pub Filling : Type 0
Filling = ℕ → ℤ

-- no local is bound around the formula, so what stands for the locals is of no account
abbrev pub env : Filling → Env
env φ (cell c) = φ c
env φ (local l) = pos 0

-- every cell has a value of its range
unfoldable pub Fills : Declared → Filling → Type 0
Fills D φ = (c : ℕ) → c < cells D → T (in_range D c (φ c))

-- each given cell has its given value
unfoldable pub Keeps : List Item → Filling → Type 0
Keeps [] φ = Unit {0}
Keeps (i ∷ is) φ = (φ i.cell ≡ i.value) × Keeps is φ

-- the filling makes the sheet's formula true
unfoldable pub True : Sheet → Filling → Type 0
True s φ = Truth s.declared (env φ) s.formula
