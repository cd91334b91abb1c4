-- The tables that the reader leaves in the work words (tables/specs/Layout.antt has the layout): tokens with the ends of their subtrees, the
-- cells' given values, and the marks of the others, the arrays' first cells, the procedures and the ranges; every other word is zero.
-- Assumes nothing.
use Rattle.std.specs.Prelude.{ℕ, zero, suc, ◌+◌, ◌-◌, List, [], ◌∷◌, ◌++◌, length, set, replicate, ltb}
use Rattle.specification.specs.Bytes.{pick}
use Rattle.specification.specs.Lines.{Range, Declared, cells, first_of, length_of, range_number}
use Rattle.specification.specs.Given.{Item}
use Rattle.specification.specs.Ast.{Procedure}
use Rattle.specification.specs.Sheet.{Sheet}
use Rattle.values.specs.Word.{biased}
use Rattle.tables.specs.Layout.{max_arrays, cell_slot, first_slot, proc_slot, token_slot}
pub use Rattle.tables.specs.Layout.{Words}
use Rattle.tables.specs.Ranges.{range_slot, unranged, range_mark}
use Rattle.sheet.specs.declared.Token.{Token}
use Rattle.sheet.specs.Codes.{formula_tokens, procedures_tokens}
use Rattle.sheet.specs.Sorts.{arity}

-- ---- arrays

-- n first cells, from the a-th array's on; beyond the declared arrays it is the end of the cells
unfoldable pub laid_firsts : Declared → ℕ → ℕ → Words → Words
laid_firsts D a zero w = w
laid_firsts D a (suc n) w = laid_firsts D (suc a) n (set w (first_slot a) (first_of D a))

unfoldable pub laid_arrays : Declared → Words → Words
laid_arrays D w = laid_firsts D 0 (suc max_arrays) w

-- ---- ranges

-- the first cell of range k, and how many cells have it: a scalar, or the elements of an array
unfoldable pub range_first : Declared → ℕ → ℕ
range_first D k = pick (ltb k D.scalars) k (first_of D (k - D.scalars))

unfoldable pub range_width : Declared → ℕ → ℕ
range_width D k = pick (ltb k D.scalars) 1 (length_of D (k - D.scalars))

-- n cells from the c-th on have this mark
unfoldable pub laid_marks : ℕ → ℕ → ℕ → Words → Words
laid_marks mark c zero w = w
laid_marks mark c (suc n) w = laid_marks mark (suc c) n (set w (cell_slot c + 1) mark)

-- range k: the words of its ends, and the marks of its cells
abbrev pub laid_range : Declared → ℕ → Range → Words → Words
laid_range D k r w =
    laid_marks (range_mark k) (range_first D k) (range_width D k) (set (set w (range_slot k) (biased r.low)) (range_slot k + 1) (biased r.high))

-- from the k-th on
unfoldable pub laid_ranges : Declared → ℕ → List Range → Words → Words
laid_ranges D k [] w = w
laid_ranges D k (r ∷ rs) w = laid_ranges D (suc k) rs (laid_range D k r w)

-- the mark of a cell: that of its range, where the sheet has ranges
abbrev pub mark_from : List Range → ℕ → ℕ
mark_from [] k = unranged
mark_from (r ∷ rs) k = range_mark k

unfoldable pub mark_of : Declared → ℕ → ℕ
mark_of D c = pick (ltb c (cells D)) (mark_from D.ranges (range_number D c)) unranged

-- arrays and ranges
abbrev pub laid_cells : Declared → Words → Words
laid_cells D w = laid_ranges D 0 D.ranges (laid_arrays D w)

-- ---- given values

unfoldable pub laid_given : List Item → Words → Words
laid_given [] w = w
laid_given (i ∷ is) w = laid_given is (set (set w (cell_slot i.cell) 1) (cell_slot i.cell + 1) (biased i.value))

-- ---- procedures

-- from the K-th on, whose first token is the i-th: the first token of its formula, and how many parameters it has
unfoldable pub laid_procs : ℕ → ℕ → List Procedure → Words → Words
laid_procs K i [] w = w
laid_procs K i (P ∷ Ps) w =
    laid_procs (suc K) (i + length (formula_tokens P.formula)) Ps (set (set w (proc_slot K) i) (proc_slot K + 1) P.parameters)

-- ---- tokens

-- codes and operands, from the i-th token on
unfoldable pub laid_tokens : ℕ → List Token → Words → Words
laid_tokens i [] w = w
laid_tokens i (t ∷ ts) w = laid_tokens (suc i) ts (set (set w (token_slot i) t.code) (token_slot i + 1) t.operand)

-- the tokens after n whole subtrees
unfoldable pub after : List Token → ℕ → List Token
after [] n = []
after (t ∷ ts) zero = t ∷ ts
after (t ∷ ts) (suc n) = after ts (arity t.code + n)

-- the end of its subtree for each token from the i-th on: the number of the token after it
unfoldable pub laid_ends : ℕ → List Token → Words → Words
laid_ends i [] w = w
laid_ends i (t ∷ ts) w = laid_ends (suc i) ts (set w (token_slot i + 2) (suc i + length ts - length (after ts (arity t.code))))

-- ---- the tables, over so many work words

-- without tokens: of what is declared and the given items
abbrev pub declared_tables : Declared → List Item → ℕ → Words
declared_tables D is n = laid_procs 0 0 D.procedures (laid_given is (laid_cells D (replicate n 0)))

-- with a list of tokens
abbrev pub tables_of : Declared → List Item → List Token → ℕ → Words
tables_of D is ts n = laid_ends 0 ts (laid_tokens 0 ts (declared_tables D is n))

-- the tokens of a sheet: those of its procedures' lines, and then the formula's
abbrev pub sheet_tokens : Sheet → List Token
sheet_tokens s = procedures_tokens s.declared.procedures ++ formula_tokens s.formula

-- the first of the formula's
abbrev pub formula_start : Sheet → ℕ
formula_start s = length (procedures_tokens s.declared.procedures)

unfoldable pub tables : Sheet → ℕ → Words
tables s n = tables_of s.declared s.given (sheet_tokens s) n
