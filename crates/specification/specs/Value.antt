-- Valuations, and what a term is under one (the paper, Definition 1): a value, a bare cell or local without value, or an
-- error kind. Operands go left to right, the operation last. Assumes nothing.
use Rattle.std.specs.Prelude.{ℕ, ◌+◌, Bool, true, false, ltb, ℤ, pos, negsuc}
use Rattle.specification.specs.Number.{in32}
use Rattle.specification.specs.Lines.{Declared, first_of, length_of, in_range}
use Rattle.specification.specs.Ast.{Op, Term, constant, scalar_at, local_at, parameter, element_at, apply}
use Rattle.specification.specs.Place.{Place, cell, local}
use Rattle.specification.specs.Arithmetic.{no_value, outside_array, Computed, value, fault, compute}

-- ---- valuations

pub data Slot : Type 0 where
  empty : Slot
  full : ℤ → Slot

abbrev pub Valuation : Type 0
Valuation = Place → Slot

-- the values that a place may have: a cell's range, and for a local all of 32 bits
abbrev pub allowed : Declared → Place → ℤ → Bool
allowed D (cell c) z = in_range D c z
allowed D (local l) z = in32 z

-- ---- terms

pub data Side : Type 0 where
  val : ℤ → Side
  bare : Place → Side
  err : ℕ → Side

abbrev pub look : Slot → Place → Side
look empty p = bare p
look (full v) p = val v

-- two values, or the error of the first side that has none
pub data Pair : Type 0 where
  values : ℤ → ℤ → Pair
  faulty : ℕ → Pair

unfoldable pub pair_of : Side → Side → Pair
pair_of (val x) (val y) = values x y
pair_of (val x) (bare q) = faulty no_value
pair_of (val x) (err κ) = faulty κ
pair_of (bare p) y = faulty no_value
pair_of (err κ) y = faulty κ

abbrev pub side_of : Computed → Side
side_of (value z) = val z
side_of (fault κ) = err κ

abbrev pub operate : Op → Pair → Side
operate o (values x y) = side_of (compute o x y)
operate o (faulty κ) = err κ

module _ (D : Declared) (α : Valuation) where
  abbrev pub in_array : Bool → ℕ → Side
  in_array true c = look (α (cell c)) (cell c)
  in_array false c = err outside_array

  -- an element is bare if its index has a value inside the array; another index raises its error
  unfoldable pub element_side : ℕ → Side → Side
  element_side a (val (pos i)) = in_array (ltb i (length_of D a)) (first_of D a + i)
  element_side a (val (negsuc i)) = err outside_array
  element_side a (bare p) = err no_value
  element_side a (err κ) = err κ

  -- no parameter is left in a formula that is walked
  unfoldable pub side : Term → Side
  side (constant z) = val z
  side (scalar_at c) = look (α (cell c)) (cell c)
  side (local_at l) = look (α (local l)) (local l)
  side (parameter n) = err no_value
  side (element_at a t) = element_side a (side t)
  side (apply o s t) = operate o (pair_of (side s) (side t))
