-- A formula's line, and what the code's answers say of it: a refusal, or the tokens laid in the table, at the end of the sheet with the ends
-- of their subtrees. Assumes nothing.
use Rattle.std.specs.Prelude.{ℕ, ◌+◌, ◌≤◌, ◌<◌, ◌≡◌, Bool, List, [], ◌++◌, length, replicate, eqb, ltb, Option, Some, None, Ok, Err}
use Rattle.specification.specs.Bytes.{Bytes, bytes, pick, feed}
use Rattle.specification.specs.Parser.{Reader, Read, refused, found, Parser, give, ◌>>=◌, ◌>>◌, mark, key, finish}
use Rattle.specification.specs.declared.Reason.{Reason}
use Rattle.specification.specs.Refusals.{reason_number}
use Rattle.specification.specs.Lines.{Declared, procedure_of}
use Rattle.specification.specs.Ast.{truth, Formula}
use Rattle.specification.specs.Formula.{Locals, formula}
use Rattle.specification.specs.Sheet.{refuses}
use Rattle.tables.specs.Layout.{max_tokens, max_scalars, max_locals, max_arrays, max_nesting, max_procs, max_parameters, parameters_at}
use Rattle.sheet.specs.declared.Token.{Token}
use Rattle.sheet.specs.declared.formula.Limits.{Limits}
use Rattle.sheet.specs.declared.formula.Reached.{Reached}
use Rattle.sheet.specs.Codes.{formula_tokens}
use Rattle.sheet.specs.Reader.{reader_at}
use Rattle.sheet.specs.Answers.{Answer}
use Rattle.sheet.specs.Dues.{Due, due_formula, left_here}
use Rattle.sheet.specs.Turn.{Limited, room, fault_of, binds, word_for, token_in}
use Rattle.sheet.specs.Tables.{Words, laid_tokens, laid_ends}
use Rattle.sheet.specs.Ends.{tokens_in}
use Rattle.sheet.specs.Stack.{Bits, Entry, sort_of, Means, Beside}

-- a formula and the line feed after it
unfoldable pub line_formula : Bool → Declared → Parser Formula
line_formula refusing D = formula refusing D max_nesting [] >>= λ F. mark feed >> give F

-- the sheet from the formula's line on
unfoldable pub formula_rest : Bool → Declared → Parser Formula
formula_rest refusing D = key (bytes "formula=") >> (line_formula refusing D >>= λ F. finish >> give F)

-- ---- what is declared, by its numbers

-- whether empty ranges are refused
abbrev pub refuses_in : Limits → Bool
refuses_in d = refuses d.strict d.edition

-- within the documents' limits
pub record Small (d : Limits) : Type 0 where
  pub scalars : d.scalars ≤ max_scalars
  pub locals : d.locals ≤ max_locals
  pub arrays : d.arrays ≤ max_arrays
  pub procedures : d.procedures ≤ max_procs

-- no procedure in the words has more than eight parameters
abbrev pub Sized : Limits → Words → Type 0
Sized d w = (K : ℕ) → K < d.procedures → parameters_at w K ≤ max_parameters

-- the numbers are those of what is declared
pub record Counts (d : Limits) (D : Declared) : Type 0 where
  pub edition : D.edition ≡ d.edition
  pub scalars : D.scalars ≡ d.scalars
  pub locals : D.locals ≡ d.locals
  pub arrays : length D.arrays ≡ d.arrays
  pub procedures : length D.procedures ≡ d.procedures
  pub parameters : D.parameters ≡ d.parameters
  pub limited : Limited D

-- and the words have each procedure's number of parameters
pub record Known (d : Limits) (w : Words) (D : Declared) : Type 0 where
  pub counts : Counts d D
  pub supplied : (K : ℕ) → K < d.procedures → parameters_at w K ≡ (procedure_of D K).parameters

-- a declaration with these numbers: a token's refusal depends on no more
abbrev pub counted : Limits → Declared
counted d = record {
  edition = d.edition;
  scalars = d.scalars;
  locals = d.locals;
  arrays = replicate d.arrays 0;
  ranges = [];
  procedures = replicate d.procedures (record { parameters = 0; formula = truth });
  parameters = d.parameters;
}

-- ---- one token

-- t is the token that the bytes spell where something of this sort is due
abbrev pub Spells : Bytes → ℕ → Limits → Words → Token → Type 0
Spells bs sort l w t = (D : Declared) (d : Due) → Known l w D → sort ≡ sort_of d → t ≡ token_in D d (word_for D d bs)

-- the number of the reason why it is refused, 0 where it may stand
abbrev pub fault_number : Option Reason → ℕ
fault_number None = 0
fault_number (Some r) = reason_number r

-- its refusal where d is due: 9 where it nests too deep or is the 1,025th, then its own
abbrev pub refusal_of : Limits → Due → Locals → ℕ → Token → ℕ
refusal_of l d B n t = pick (eqb (room d) 0) 9 (pick (ltb n max_tokens) (fault_of (counted l) d B t) 9)

-- k is its refusal where the entry is due, and the set of locals have a binder
abbrev pub Refuses : Limits → Entry → ℕ → ℕ → Token → ℕ → Type 0
Refuses l e m n t k = (d : Due) (B : Locals) → Means e d → Bits m B → k ≡ refusal_of l d B n t

-- m' are the locals that have a binder after it
abbrev pub Binds : Entry → Token → ℕ → ℕ → Type 0
Binds e t m m' = (d : Due) (B : Locals) → Means e d → Bits m B → Bits m' (binds d t B)

-- ---- the tokens

-- where a formula or its line begins: the sheet and what is declared, the place, how many tokens were read before, and which locals have a
-- binder
pub record Begin : Type 0 where
  pub bytes : Bytes
  pub limits : Limits
  pub from : ℕ
  pub tokens : ℕ
  pub bound : Locals

abbrev pub begin : Bytes → Limits → ℕ → ℕ → Locals → Begin
begin s l p n B = record { bytes = s; limits = l; from = p; tokens = n; bound = B }

-- whether empty ranges are refused there
abbrev pub refusing_at : Begin → Bool
refusing_at b = refuses_in b.limits

-- the reader there
abbrev pub at_begin : Begin → Reader
at_begin b = reader_at b.bytes b.from b.tokens b.bound

-- the reading of the formula from there on
abbrev pub whole : Begin → Declared → Read (List Token)
whole b D = left_here (refusing_at b) D (due_formula max_nesting []) [] [] (at_begin b)

-- it was read up to the place e: n tokens were read then, and the set m of locals have a binder
pub record Through (b : Begin) (w w' : Words) (n e m : ℕ) : Type 0 where
  pub tokens : List Token
  pub locals : Locals
  pub count : b.tokens + length tokens ≡ n
  pub few : n ≤ max_tokens
  pub within : e ≤ length b.bytes
  pub set : Bits m locals
  pub words : Beside (laid_tokens b.tokens tokens w) w'
  pub all : (D : Declared) → Known b.limits w D → whole b D ≡ found tokens (reader_at b.bytes e n locals)

abbrev pub Scans : Begin → Words → Words → Answer Reached → Type 0
Scans b w w' (Err e) = (length w' ≡ length w) × ((D : Declared) → Known b.limits w D → whole b D ≡ refused e.number e.place)
Scans b w w' (Ok x) = Through b w w' x.tokens x.at x.bound

-- ---- the line

-- the formula and its line feed were read, up to the place e
pub record Closed (b : Begin) (D : Declared) (w w' : Words) (n e m : ℕ) : Type 0 where
  pub formula : Formula
  pub locals : Locals
  pub is : line_formula (refusing_at b) D (at_begin b) ≡ found formula (reader_at b.bytes e n locals)
  pub count : b.tokens + length (formula_tokens formula) ≡ n
  pub few : n ≤ max_tokens
  pub within : e ≤ length b.bytes
  pub set : Bits m locals
  pub words : Beside (laid_tokens b.tokens (formula_tokens formula) w) w'

-- no token and no byte was read beyond the last
abbrev pub Within : Bytes → Answer Reached → Type 0
Within s (Err e) = Unit {0}
Within s (Ok x) = (x.tokens ≤ max_tokens) × (x.at ≤ length s)

abbrev pub Closes : Begin → Declared → Words → Words → Answer Reached → Type 0
Closes b D w w' (Err e) = (line_formula (refusing_at b) D (at_begin b) ≡ refused e.number e.place) × (length w' ≡ length w)
Closes b D w w' (Ok x) = Closed b D w w' x.tokens x.at x.bound

-- the formula's line was read, and the table has n tokens: those before it, and its own
pub record Laid (b : Begin) (D : Declared) (w w' : Words) (n : ℕ) : Type 0 where
  pub formula : Formula
  pub after : Reader
  pub is : formula_rest (refusing_at b) D (at_begin b) ≡ found formula after
  pub count : b.tokens + length (formula_tokens formula) ≡ n
  pub few : n ≤ max_tokens
  pub long : length w' ≡ length w
  pub words :
      Beside (laid_ends 0 (tokens_in w 0 b.tokens ++ formula_tokens formula) (laid_tokens b.tokens (formula_tokens formula) w)) w'

abbrev pub LineRead : Begin → Declared → Words → Words → Answer ℕ → Type 0
LineRead b D w w' (Err e) = (formula_rest (refusing_at b) D (at_begin b) ≡ refused e.number e.place) × (length w' ≡ length w)
LineRead b D w w' (Ok n) = Laid b D w w' n
