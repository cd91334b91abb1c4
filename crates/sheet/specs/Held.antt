-- What the tables hold: which term or formula stands from a token on, the values of cells and locals, the arrays' first cells, the
-- procedures and the ranges. A walk leans on these and never looks at the sheet's bytes. Meaning is given by recursion on the term or formula.
-- Assumes nothing.
use Rattle.std.specs.Prelude.{ℕ, suc, ◌+◌, ◌<◌, ◌≤◌, max, ◌≡◌, List, [], ◌∷◌, length, get_or, T, ℤ}
use Rattle.specification.specs.Lists.{Each}
use Rattle.specification.specs.Number.{in32}
use Rattle.specification.specs.Lines.{Declared, cells, first_of, procedure_of, in_range}
use Rattle.specification.specs.Ast.{Term, constant, scalar_at, local_at, parameter, element_at, apply, Formula, truth, and, or, imp, neg, eq, compare, ex, some, all, call}
use Rattle.specification.specs.Place.{Place, cell, local}
use Rattle.specification.specs.Value.{Slot, empty, full, Valuation}
use Rattle.values.specs.Word.{biased}
use Rattle.tables.specs.Layout.{max_tokens, max_cells, max_locals, max_arrays, max_nesting, max_parameters, cell_slot, local_slot, first_slot}
pub use Rattle.tables.specs.Layout.{code_at, operand_at, end_at, proc_at}
use Rattle.tables.specs.Ranges.{local_mark, allows}
use Rattle.tables.specs.Codes.{true_code, and_code, or_code, imp_code, not_code, eq_code, ex_code, some_code, all_code, call_code, constant_code, scalar_code, local_code, array_code, parameter_code, procedure_code}
use Rattle.sheet.specs.Codes.{rel_code, op_code}
use Rattle.sheet.specs.Tables.{Words, mark_of}

-- ---- tokens

-- token i has this code, and its subtree ends at e, within the table
pub record TokenAt (w : Words) (i k e : ℕ) : Type 0 where
  pub code : code_at w i ≡ k
  pub end : end_at w i ≡ e
  pub after : i < e
  pub inside : e ≤ max_tokens

-- the term t stands from token i on
abbrev pub TermAt : Words → ℕ → Term → Type 0
TermAt w i (constant z) = TokenAt w i constant_code (suc i) × (operand_at w i ≡ biased z)
TermAt w i (scalar_at n) = TokenAt w i scalar_code (suc i) × (operand_at w i ≡ n)
TermAt w i (local_at l) = TokenAt w i local_code (suc i) × (operand_at w i ≡ l)
TermAt w i (parameter n) = TokenAt w i parameter_code (suc i) × (operand_at w i ≡ n)
TermAt w i (element_at a t) = TokenAt w i array_code (end_at w (suc i)) × (operand_at w i ≡ a) × TermAt w (suc i) t
TermAt w i (apply o s t) = TokenAt w i (op_code o) (end_at w (end_at w (suc i))) × TermAt w (suc i) s × TermAt w (end_at w (suc i)) t

-- two terms one after the other, from token i up to token e
abbrev pub TermsAt : Words → ℕ → ℕ → Term → Term → Type 0
TermsAt w i e s t = TermAt w i s × TermAt w (end_at w i) t × (end_at w (end_at w i) ≡ e)

-- terms one after the other, from token i up to token e
abbrev pub ArgumentsAt : Words → ℕ → ℕ → List Term → Type 0
ArgumentsAt w i e [] = i ≡ e
ArgumentsAt w i e (t ∷ ts) = TermAt w i t × ArgumentsAt w (end_at w i) e ts

-- the local l stands at token i
abbrev pub LocalAt : Words → ℕ → ℕ → Type 0
LocalAt w i l = TokenAt w i local_code (suc i) × (operand_at w i ≡ l)

-- the formula F stands from token i on, and carries the numbers of its tokens
abbrev pub FormulaAt : Words → ℕ → Formula → Type 0
FormulaAt w i truth = TokenAt w i true_code (suc i)
FormulaAt w i (and F G) = TokenAt w i and_code (end_at w (end_at w (suc i))) × FormulaAt w (suc i) F × FormulaAt w (end_at w (suc i)) G
FormulaAt w i (or F G) = TokenAt w i or_code (end_at w (end_at w (suc i))) × FormulaAt w (suc i) F × FormulaAt w (end_at w (suc i)) G
FormulaAt w i (imp n F G) = TokenAt w i imp_code (end_at w (end_at w (suc i))) × (n ≡ i) × FormulaAt w (suc i) F × FormulaAt w (end_at w (suc i)) G
FormulaAt w i (neg n F) = TokenAt w i not_code (end_at w (suc i)) × (n ≡ i) × FormulaAt w (suc i) F
FormulaAt w i (eq n s t) = TokenAt w i eq_code (end_at w (end_at w (suc i))) × (n ≡ i) × TermsAt w (suc i) (end_at w i) s t
FormulaAt w i (compare n r s t) = TokenAt w i (rel_code r) (end_at w (end_at w (suc i))) × (n ≡ i) × TermsAt w (suc i) (end_at w i) s t
FormulaAt w i (ex l F) = TokenAt w i ex_code (end_at w (suc (suc i))) × LocalAt w (suc i) l × FormulaAt w (suc (suc i)) F
FormulaAt w i (some n l a b F) =
    TokenAt w i some_code (end_at w (end_at w (end_at w (suc (suc i)))))
    × (n ≡ i)
    × LocalAt w (suc i) l
    × TermsAt w (suc (suc i)) (end_at w (end_at w (suc (suc i)))) a b
    × FormulaAt w (end_at w (end_at w (suc (suc i)))) F
FormulaAt w i (all n l a b F) =
    TokenAt w i all_code (end_at w (end_at w (end_at w (suc (suc i)))))
    × (n ≡ i)
    × LocalAt w (suc i) l
    × TermsAt w (suc (suc i)) (end_at w (end_at w (suc (suc i)))) a b
    × FormulaAt w (end_at w (end_at w (suc (suc i)))) F
FormulaAt w i (call K ts F) =
    TokenAt w i call_code (end_at w (suc i))
    × TokenAt w (suc i) (procedure_code + length ts) (end_at w (suc i))
    × (operand_at w (suc i) ≡ K)
    × ArgumentsAt w (suc (suc i)) (end_at w (suc i)) ts

-- ---- nesting: how deep a term goes, itself being 1

unfoldable pub height : Term → ℕ
height (constant z) = 1
height (scalar_at n) = 1
height (local_at l) = 1
height (parameter n) = 1
height (element_at a t) = suc (height t)
height (apply o s t) = suc (max (height s) (height t))

-- terms nest at most 64 deep, binders' locals have slots, and a call names one of the first m procedures, with at most 8 arguments
abbrev pub Shallow : ℕ → Formula → Type 0
Shallow m truth = Unit {0}
Shallow m (and F G) = Shallow m F × Shallow m G
Shallow m (or F G) = Shallow m F × Shallow m G
Shallow m (imp n F G) = Shallow m F × Shallow m G
Shallow m (neg n F) = Shallow m F
Shallow m (eq n s t) = (height s ≤ max_nesting) × (height t ≤ max_nesting)
Shallow m (compare n r s t) = (height s ≤ max_nesting) × (height t ≤ max_nesting)
Shallow m (ex l F) = (l < max_locals) × Shallow m F
Shallow m (some n l a b F) = (height a ≤ max_nesting) × (height b ≤ max_nesting) × (l < max_locals) × Shallow m F
Shallow m (all n l a b F) = (height a ≤ max_nesting) × (height b ≤ max_nesting) × (l < max_locals) × Shallow m F
Shallow m (call K ts F) = (K < m) × (length ts ≤ max_parameters) × Each (λ t. height t ≤ max_nesting) ts

-- ---- procedures

-- the formula F of procedure K stands from its first token on, and calls earlier procedures only
pub record BodyAt (w : Words) (K : ℕ) (F : Formula) : Type 0 where
  pub inside : proc_at w K < max_tokens
  pub formula : FormulaAt w (proc_at w K) F
  pub shallow : Shallow K F

abbrev pub ProceduresAt : Words → Declared → Type 0
ProceduresAt w D = (K : ℕ) → K < length D.procedures → BodyAt w K (procedure_of D K).formula

-- the formulas of the first n procedures stand one after the other from token 0 on, and what stands at token i follows them
pub record InOrder (w : Words) (n i : ℕ) : Type 0 where
  pub none : n ≡ 0 → i ≡ 0
  pub first : 0 < n → proc_at w 0 ≡ 0
  pub next : (K : ℕ) → suc K < n → proc_at w (suc K) ≡ end_at w (proc_at w K)
  pub last : (K : ℕ) → suc K ≡ n → i ≡ end_at w (proc_at w K)
  pub before : (K : ℕ) → K < n → proc_at w K < i

-- ---- values

-- a slot in the two words from j on
abbrev pub SlotAt : Words → ℕ → Slot → Type 0
SlotAt w j empty = get_or w j 0 ≡ 0
SlotAt w j (full z) = (get_or w j 0 ≡ 1) × (get_or w (suc j) 0 ≡ biased z)

-- the first word of a place's slot
abbrev pub slot_of : Place → ℕ
slot_of (cell c) = cell_slot c
slot_of (local l) = local_slot l

-- the words hold the valuation
pub record Holds (w : Words) (α : Valuation) : Type 0 where
  pub cells : (c : ℕ) → c < max_cells → SlotAt w (cell_slot c) (α (cell c))
  pub locals : (l : ℕ) → l < max_locals → SlotAt w (local_slot l) (α (local l))

-- the second word of a slot without a value is the cell's mark, and zero for a local
pub record Marked (w : Words) (D : Declared) (α : Valuation) : Type 0 where
  pub cells : (c : ℕ) → c < max_cells → α (cell c) ≡ empty → get_or w (suc (cell_slot c)) 0 ≡ mark_of D c
  pub locals : (l : ℕ) → l < max_locals → α (local l) ≡ empty → get_or w (suc (local_slot l)) 0 ≡ 0

-- the words hold the ranges: the marks of cells are below those of locals, and a cell's allows the values of its range
pub record RangesAt (w : Words) (D : Declared) : Type 0 where
  pub low : (c : ℕ) → mark_of D c < local_mark
  pub allowed : (c : ℕ) → c < cells D → (v : ℤ) → T (in32 v) → allows w (mark_of D c) (biased v) ≡ in_range D c v

-- the words hold the arrays' first cells, and the end of the cells after them
abbrev pub ArraysAt : Words → Declared → Type 0
ArraysAt w D = (a : ℕ) → a ≤ max_arrays → get_or w (first_slot a) 0 ≡ first_of D a
