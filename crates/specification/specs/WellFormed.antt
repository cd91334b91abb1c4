-- Well-formed sheets: what holds of every sheet that is read (the theorem is in proofs/Laws/ReadSheet.antt), and what the contracts of the
-- walk lean on without looking at bytes again. Assumes nothing.
use Rattle.std.specs.Prelude.{ℕ, suc, ◌+◌, ◌≤◌, ◌<◌, ◌≡◌, Bool, true, false, not, List, [], ◌∷◌, length, take, T, ltb, eqb, ℤ}
use Rattle.specification.specs.Lists.{Each}
use Rattle.specification.specs.Bytes.{pick}
use Rattle.specification.specs.Number.{in32}
use Rattle.specification.specs.Lines.{Range, Declared, first_ranged, contains, cells, in_range, procedure_of}
use Rattle.specification.specs.Given.{Item}
use Rattle.specification.specs.Ast.{Term, constant, scalar_at, local_at, parameter, element_at, apply, Formula, truth, and, or, imp, neg, eq, compare, ex, some, all, call}
use Rattle.specification.specs.Fill.{fill}
use Rattle.specification.specs.Sheet.{Sheet}
use Rattle.specification.specs.Place.{Place}
use Rattle.specification.specs.Value.{full, Valuation, allowed}

-- ---- what is declared: the limits of documents 01 and 02

-- the ends of a range are values of it
abbrev pub Ordered : Range → Type 0
Ordered r = T (contains r r.low) × T (contains r r.high)

pub record Limits (D : Declared) : Type 0 where
  pub edition : (1 ≤ D.edition) × (D.edition ≤ 3)
  pub scalars : D.scalars ≤ 64
  pub locals : D.locals ≤ 32
  pub arrays : length D.arrays ≤ 16
  pub positive : Each (λ n. 1 ≤ n) D.arrays
  pub cells : cells D ≤ 512
  -- none before edition 3, then one for each scalar and each array
  pub ranges : length D.ranges ≡ pick (ltb D.edition first_ranged) 0 (D.scalars + length D.arrays)
  pub ordered : Each Ordered D.ranges
  pub procedures : length D.procedures ≤ 16
  -- the sheet's formula has no parameters
  pub parameters : D.parameters ≡ 0

-- ---- given items

-- each cell is at least the floor and above those before it
unfoldable pub Rising : ℕ → List Item → Type 0
Rising floor [] = Unit {0}
Rising floor (i ∷ is) = (floor ≤ i.cell) × Rising (suc i.cell) is

-- ---- scopes: the locals that are bound around a formula

abbrev pub Scope : Type 0
Scope = ℕ → Bool

-- no local
abbrev pub nowhere : Scope
nowhere l = false

unfoldable pub enter : Scope → ℕ → Scope
enter S l j = pick (eqb j l) true (S j)

-- ---- well-scoped formulas

module _ (D : Declared) where
  -- names are declared or bound, and constants lie in 32 bits
  unfoldable pub OkTerm : Scope → Term → Type 0
  OkTerm S (constant z) = T (in32 z)
  OkTerm S (scalar_at c) = c < D.scalars
  OkTerm S (local_at l) = T (S l)
  OkTerm S (parameter n) = n < D.parameters
  OkTerm S (element_at a t) = (a < length D.arrays) × OkTerm S t
  OkTerm S (apply o s t) = OkTerm S s × OkTerm S t

  -- the formula of a call is that of a procedure, with the arguments in place of its parameters
  pub record Called (K : ℕ) (ts : List Term) (F : Formula) : Type 0 where
    pub earlier : K < length D.procedures
    pub count : length ts ≡ (procedure_of D K).parameters
    pub filled : F ≡ fill ts (procedure_of D K).formula

  -- and each binder's local is declared and not bound around it
  unfoldable pub Ok : Scope → Formula → Type 0
  Ok S truth = Unit {0}
  Ok S (and F G) = Ok S F × Ok S G
  Ok S (or F G) = Ok S F × Ok S G
  Ok S (imp tok F G) = Ok S F × Ok S G
  Ok S (neg tok F) = Ok S F
  Ok S (eq tok s t) = OkTerm S s × OkTerm S t
  Ok S (compare tok r s t) = OkTerm S s × OkTerm S t
  Ok S (ex l F) = (l < D.locals) × T (not (S l)) × Ok (enter S l) F
  Ok S (some tok l a b F) = OkTerm S a × OkTerm S b × (l < D.locals) × T (not (S l)) × Ok (enter S l) F
  Ok S (all tok l a b F) = OkTerm S a × OkTerm S b × (l < D.locals) × T (not (S l)) × Ok (enter S l) F
  Ok S (call K ts F) = Called K ts F × Each (OkTerm S) ts × Ok S F

-- what is declared in the line of procedure K
abbrev pub line_of : Declared → ℕ → Declared
line_of D K = record {
  edition = D.edition;
  scalars = D.scalars;
  locals = D.locals;
  arrays = D.arrays;
  ranges = D.ranges;
  procedures = take K D.procedures;
  parameters = (procedure_of D K).parameters;
}

-- each procedure is well scoped in its line
abbrev pub OkProcedures : Declared → Type 0
OkProcedures D = (K : ℕ) → K < length D.procedures → Ok (line_of D K) nowhere (procedure_of D K).formula

-- ---- the sheet

pub record WellFormed (s : Sheet) : Type 0 where
  pub limits : Limits s.declared
  -- each given value is of its cell's range, each given cell is declared, and the cells rise strictly
  pub values : Each (λ i. T (in_range s.declared i.cell i.value)) s.given
  pub declared : Each (λ i. i.cell < cells s.declared) s.given
  pub rising : Rising 0 s.given
  pub procedures : OkProcedures s.declared
  -- at most eight parameters each
  pub parameters : Each (λ P. P.parameters ≤ 8) s.declared.procedures
  pub formula : Ok s.declared nowhere s.formula

-- ---- valuations

-- every value is one that its place may have
abbrev pub Valid : Declared → Valuation → Type 0
Valid D α = (p : Place) (v : ℤ) → α p ≡ full v → T (allowed D p v)
