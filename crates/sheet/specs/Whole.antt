-- The lines in order: what was read after some of them, and what the reader's answer says of a sheet. The lines of arrays and of ranges are one
-- stage together, and those of procedures. Assumes nothing.
use Rattle.std.specs.Prelude.{ℕ, suc, pred, ◌-◌, ◌≤◌, ◌<◌, Bool, ◌&&◌, ◌≡◌, List, [], length, get_or, replicate, drop, ltb, Ok, Err}
use Rattle.specification.specs.declared.refusals.Refusal.{Refusal}
use Rattle.specification.specs.Refusals.{refusal_with}
use Rattle.specification.specs.Bytes.{Bytes, bytes, begins}
use Rattle.specification.specs.Parser.{Reader, Read, refused, found}
use Rattle.specification.specs.Lines.{Range, Declared}
use Rattle.specification.specs.Given.{Item}
use Rattle.specification.specs.Formula.{Locals}
use Rattle.specification.specs.Sheet.{most_procedures, Sheet, sheet}
use Rattle.tables.specs.Layout.{max_tokens, max_scalars, max_locals, max_parameters, path_at}
use Rattle.sheet.specs.declared.Reading.{Reading}
use Rattle.sheet.specs.declared.formula.Limits.{Limits}
use Rattle.sheet.specs.declared.reader.Progress.{Progress}
use Rattle.sheet.specs.Codes.{procedures_tokens}
use Rattle.sheet.specs.Reader.{reader_at, line_at}
use Rattle.sheet.specs.Tables.{Words, laid_arrays, laid_cells, laid_tokens, declared_tables, sheet_tokens, formula_start, tables}
use Rattle.sheet.specs.Stack.{Bits, Beside}
use Rattle.sheet.specs.Answers.{Answer}
use Rattle.sheet.specs.Items.{Declares, Vacant}
use Rattle.sheet.specs.FormulaLine.{refuses_in, Small, Counts}
use Rattle.sheet.specs.Rest.{from_procedures, from_body, from_given, from_ranges, declaring, limits, after_numbers}

-- ---- what a sheet is read as

-- a refusal's number and place, or how many scalars, arrays and tokens there are, and the formula's first token
abbrev pub reading_of : Read Sheet → Answer Reading
reading_of (refused k p) = Err (refusal_with k p)
reading_of (found s r) = Ok (record {
  scalars = s.declared.scalars;
  arrays = length s.declared.arrays;
  tokens = length (sheet_tokens s);
  formula = formula_start s;
})

-- n work words after it: all zero, or the sheet's tables
abbrev pub words_of : ℕ → Read Sheet → Words
words_of n (refused k p) = replicate n 0
words_of n (found s r) = tables s n

-- ---- words from one place up to another are zero, and the others as before

pub record Zeroed (w w' : Words) (from to : ℕ) : Type 0 where
  pub long : length w' ≡ length w
  pub inside : (j : ℕ) → from ≤ j → j < to → ◌≡◌ {A = ℕ} (get_or w' j 0) 0
  pub below : (j : ℕ) → j < from → get_or w' j 0 ≡ get_or w j 0
  pub above : (j : ℕ) → to ≤ j → get_or w' j 0 ≡ get_or w j 0

-- ---- how far a sheet was read

abbrev pub standing : Limits → ℕ → Progress
standing d at = record { limits = d; reached = record { first = 0; tokens = 0; bound = 0; at = at } }

-- before the first line
abbrev pub unread : Bool → Progress
unread strict = standing (limits strict 0 0 0 0 0 0) 0

-- the sheet is refused, with this number and place
abbrev pub Stopped : Bool → Bytes → Refusal → Type 0
Stopped strict s e = sheet strict (line_at s 0) ≡ refused e.number e.place

-- ---- what was read, over n words that were zero

-- numbers of the first k lines
pub record Headed (k : ℕ) (s : Bytes) (p : Progress) : Type 0 where
  pub rest : sheet p.limits.strict (line_at s 0) ≡ after_numbers k p.limits (line_at s p.reached.at)
  pub scalars : p.limits.scalars ≤ max_scalars
  pub locals : p.limits.locals ≤ max_locals
  pub procedures : p.limits.procedures ≡ 0
  pub parameters : p.limits.parameters ≡ 0

-- the arrays, of these lengths; what is declared with ranges as well has the same first cells
pub record Arrayed (s : Bytes) (n : ℕ) (d : Limits) (at : ℕ) (w : Words) : Type 0 where
  pub lengths : List ℕ
  pub rest : sheet d.strict (line_at s 0) ≡ from_ranges d lengths (line_at s at)
  pub counts : (rs : List Range) → Counts d (declaring d lengths rs)
  pub small : Small d
  pub declares : (rs : List Range) → Declares (declaring d lengths rs) d.scalars d.arrays w
  pub words : (rs : List Range) → w ≡ laid_arrays (declaring d lengths rs) (replicate n 0)
  pub long : length w ≡ n
  pub enough : path_at ≤ n

-- the ranges
pub record Ranged (s : Bytes) (n : ℕ) (p : Progress) (w : Words) : Type 0 where
  pub declared : Declared
  pub rest : sheet p.limits.strict (line_at s 0) ≡ from_given p.limits.strict declared (line_at s p.reached.at)
  pub none : declared.procedures ≡ []
  pub plain : declared.parameters ≡ 0
  pub counts : Counts p.limits declared
  pub small : Small p.limits
  pub vacant : Vacant declared p.limits.scalars p.limits.arrays 0 w
  pub words : w ≡ laid_cells declared (replicate n 0)
  pub long : length w ≡ n
  pub enough : path_at ≤ n

-- the given values and some procedures; up to k lines of procedures may follow
pub record Filled (k : ℕ) (s : Bytes) (n : ℕ) (p : Progress) (w : Words) : Type 0 where
  pub declared : Declared
  pub items : List Item
  pub locals : Locals
  pub rest : sheet p.limits.strict (line_at s 0) ≡
      from_procedures (refuses_in p.limits) k declared items (reader_at s p.reached.at p.reached.tokens locals)
  pub counts : Counts p.limits declared
  pub plain : declared.parameters ≡ 0
  pub small : Small p.limits
  pub set : Bits p.reached.bound locals
  pub tokens : length (procedures_tokens declared.procedures) ≡ p.reached.tokens
  pub few : p.reached.tokens ≤ max_tokens
  pub words : Beside (laid_tokens 0 (procedures_tokens declared.procedures) (declared_tables declared items n)) w
  pub long : length w ≡ n
  pub enough : path_at ≤ n

-- the whole sheet; what was due while formulas were read still stands in the words
pub record Tabled (s : Bytes) (n : ℕ) (p : Progress) (w : Words) : Type 0 where
  pub whole : Sheet
  pub after : Reader
  pub is : sheet p.limits.strict (line_at s 0) ≡ found whole after
  pub scalars : whole.declared.scalars ≡ p.limits.scalars
  pub arrays : length whole.declared.arrays ≡ p.limits.arrays
  pub tokens : length (sheet_tokens whole) ≡ p.reached.tokens
  pub first : formula_start whole ≡ p.reached.first
  pub words : Beside (tables whole n) w

-- how many lines of procedures may follow
abbrev pub left_lines : Limits → ℕ
left_lines d = most_procedures d.edition - d.procedures

-- ---- one line of a procedure

-- whether one follows
abbrev pub follows : Bytes → Progress → Bool
follows s p = ltb p.limits.procedures (most_procedures p.limits.edition) && begins (bytes "p") (drop p.reached.at s)

-- up to its formula, which begins at a place; it has m parameters
pub record Begun (s : Bytes) (n : ℕ) (p : Progress) (m from : ℕ) (w : Words) : Type 0 where
  pub more : p.limits.procedures < most_procedures p.limits.edition
  pub filled : Filled (left_lines p.limits) s n p w
  pub parameters : m ≤ max_parameters
  pub within : from ≤ length s
  pub rest : sheet p.limits.strict (line_at s 0) ≡
      from_body (refuses_in p.limits) (pred (left_lines p.limits)) filled.declared filled.items m
      (reader_at s from p.reached.tokens filled.locals)

-- after it, as q tells, there is one procedure more
pub record OneMore (s : Bytes) (p q : Progress) (w : Words) : Type 0 where
  pub strict : q.limits.strict ≡ p.limits.strict
  pub procedures : q.limits.procedures ≡ suc p.limits.procedures
  pub filled : Filled (left_lines q.limits) s (length w) q w
