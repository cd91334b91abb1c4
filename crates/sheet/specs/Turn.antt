-- One token's turn, by its code and operand: whether it may stand where something is due, what it makes due, and the locals that have a
-- binder after it. The laws that this is the specification's reading are in proofs/Turn.antt. Assumes nothing.
use Rattle.std.specs.Prelude.{ℕ, suc, pred, ◌+◌, ◌≤◌, Bool, true, false, not, ◌&&◌, List, [], ◌∷◌, ◌++◌, length, drop, replicate, ltb, eqb}
use Rattle.std.proofs.Math.Option.{Option, none, some as just}
use Rattle.specification.specs.Bytes.{Bytes, pick, between, in_token, run}
use Rattle.specification.specs.Parser.{Reader}
use Rattle.specification.specs.Lines.{Declared, procedure_of}
use Rattle.specification.specs.Words.{Word, word_of, number_of}
use Rattle.specification.specs.Formula.{Locals, has}
use Rattle.tables.specs.Layout.{max_tokens, max_scalars, max_locals, max_arrays, max_procs, max_parameters}
use Rattle.tables.specs.Codes.{first_formula, last_formula, first_term, last_term, constant_code, scalar_code, local_code, array_code, parameter_code, bad_constant_code, procedure_code, last_code}
use Rattle.sheet.specs.declared.Token.{Token}
use Rattle.sheet.specs.Codes.{token, token_of}
use Rattle.sheet.specs.Sorts.{formula_sort, term_sort, procedure_sort, ex_sort, Operands, operands_of}
use Rattle.sheet.specs.Dues.{Due, due_formula, due_term, due_procedure, due_ex, due_range, due_bounds, due_upper}

-- the documents' limits on what is declared
pub record Limited (D : Declared) : Type 0 where
  pub scalars : D.scalars ≤ max_scalars
  pub locals : D.locals ≤ max_locals
  pub arrays : length D.arrays ≤ max_arrays
  pub procedures : length D.procedures ≤ max_procs
  pub each : (K : ℕ) → (procedure_of D K).parameters ≤ max_parameters
  pub parameters : D.parameters ≤ max_parameters

-- ---- whether a token may stand where something is due

-- how much deeper nesting may go
abbrev pub room : Due → ℕ
room (due_formula k S) = k
room (due_term k S) = k
room (due_procedure k S) = k
room (due_ex k S) = k
room (due_range k S p) = k
room (due_bounds k S p) = k
room (due_upper k S p x) = k

-- the code is of the sort that is due
abbrev pub suits : Due → ℕ → Bool
suits (due_formula k S) c = between first_formula last_formula c
suits (due_term k S) c = between first_term last_term c
suits (due_procedure k S) c = between procedure_code last_code c
suits (due_ex k S) c = eqb c local_code
suits (due_range k S p) c = eqb c local_code
suits (due_bounds k S p) c = between first_term last_term c
suits (due_upper k S p x) c = between first_term last_term c

unfoldable pub declared : Declared → Token → Bool
declared D t =
    pick (eqb t.code scalar_code) (ltb t.operand D.scalars)
    (pick (eqb t.code local_code) (ltb t.operand D.locals)
    (pick (eqb t.code array_code) (ltb t.operand (length D.arrays))
    (pick (eqb t.code parameter_code) (ltb t.operand D.parameters)
    (pick (between procedure_code last_code t.code) (ltb t.operand (length D.procedures)) true))))

-- the refusal of what is not declared, by its code
unfoldable pub undeclared : ℕ → ℕ
undeclared c = pick (eqb c parameter_code) 12 (pick (between procedure_code last_code c) 11 7)

-- a local as a term is in scope; a local at its binder has no binder yet
abbrev pub placed : Due → Locals → ℕ → Bool
placed (due_formula k S) B l = true
placed (due_term k S) B l = has l S
placed (due_procedure k S) B l = true
placed (due_ex k S) B l = not (has l B)
placed (due_range k S p) B l = not (has l B)
placed (due_bounds k S p) B l = has l S
placed (due_upper k S p x) B l = has l S

-- the number of the token's refusal; 0 where it may stand
unfoldable pub fault_of : Declared → Due → Locals → Token → ℕ
fault_of D d B t =
    pick (eqb t.code bad_constant_code) 4
    (pick (suits d t.code)
    (pick (declared D t)
    (pick (eqb t.code local_code) (pick (placed d B t.operand) 0 8) 0)
    (undeclared t.code))
    6)

-- ---- an upper bound that makes a range empty

-- a constant below the lower one
abbrev pub empties : Bool → Due → Token → Bool
empties refusing (due_formula k S) t = false
empties refusing (due_term k S) t = false
empties refusing (due_procedure k S) t = false
empties refusing (due_ex k S) t = false
empties refusing (due_range k S p) t = false
empties refusing (due_bounds k S p) t = false
empties refusing (due_upper k S p x) t = refusing && (eqb t.code constant_code && ltb t.operand x)

-- its refusal is at the quantifier's word
abbrev pub word_place : Due → ℕ
word_place (due_formula k S) = 0
word_place (due_term k S) = 0
word_place (due_procedure k S) = 0
word_place (due_ex k S) = 0
word_place (due_range k S p) = p
word_place (due_bounds k S p) = p
word_place (due_upper k S p x) = p

-- ---- what a token at the place p makes due, and binds

unfoldable pub due_by : ℕ → ℕ → ℕ → Locals → Due
due_by p s k S =
    pick (eqb s formula_sort) (due_formula k S)
    (pick (eqb s term_sort) (due_term k S)
    (pick (eqb s procedure_sort) (due_procedure k S)
    (pick (eqb s ex_sort) (due_ex k S) (due_range k S p))))

-- k is how much deeper nesting may go at them
unfoldable pub dues : ℕ → ℕ → Locals → Operands → List Due
dues p k S o = replicate o.count (due_by p o.sort k S)

-- the upper bound after a token of the lower one
unfoldable pub upper : ℕ → Locals → ℕ → Token → Due
upper k S p t = pick (eqb t.code constant_code) (due_upper k S p t.operand) (due_term k S)

-- a binder's local makes due the other operands of the binder, beside it, and so does a procedure's number with the arguments
unfoldable pub opens : ℕ → Due → Token → List Due
opens p (due_formula k S) t = dues p (pred k) S (operands_of t.code)
opens p (due_term k S) t = dues p (pred k) S (operands_of t.code)
opens p (due_procedure k S) t = dues p k S (operands_of t.code)
opens p (due_ex k S) t = due_formula k (t.operand ∷ S) ∷ []
opens p (due_range k S q) t = due_bounds k S q ∷ due_formula k (t.operand ∷ S) ∷ []
opens p (due_bounds k S q) t = dues p (pred k) S (operands_of t.code) ++ (upper k S q t ∷ [])
opens p (due_upper k S q x) t = dues p (pred k) S (operands_of t.code)

abbrev pub binds : Due → Token → Locals → Locals
binds (due_formula k S) t B = B
binds (due_term k S) t B = B
binds (due_procedure k S) t B = B
binds (due_ex k S) t B = t.operand ∷ B
binds (due_range k S p) t B = t.operand ∷ B
binds (due_bounds k S p) t B = B
binds (due_upper k S p x) t B = B

-- ---- the token at a reader's place

abbrev pub spelling : Reader → Bytes
spelling r = run in_token r.rest

-- the word that bytes spell where d is due
abbrev pub word_for : Declared → Due → Bytes → Option Word
word_for D (due_formula k S) bs = word_of D.edition bs
word_for D (due_term k S) bs = word_of D.edition bs
word_for D (due_procedure k S) bs = number_of bs
word_for D (due_ex k S) bs = word_of D.edition bs
word_for D (due_range k S p) bs = word_of D.edition bs
word_for D (due_bounds k S p) bs = word_of D.edition bs
word_for D (due_upper k S p x) bs = word_of D.edition bs

-- the code of a procedure's number tells how many parameters it has
abbrev pub counting : Declared → Token → Token
counting D t = pick (eqb t.code procedure_code) (token (procedure_code + (procedure_of D t.operand).parameters) t.operand) t

-- a word's token where d is due
abbrev pub token_by : Declared → Due → Word → Token
token_by D (due_formula k S) w = token_of (just w)
token_by D (due_term k S) w = token_of (just w)
token_by D (due_procedure k S) w = counting D (token_of (just w))
token_by D (due_ex k S) w = token_of (just w)
token_by D (due_range k S p) w = token_of (just w)
token_by D (due_bounds k S p) w = token_of (just w)
token_by D (due_upper k S p x) w = token_of (just w)

abbrev pub token_in : Declared → Due → Option Word → Token
token_in D d none = token bad_constant_code 0
token_in D d (just w) = token_by D d w

unfoldable pub token_at : Declared → Due → Reader → Token
token_at D d r = token_in D d (word_for D d (spelling r))

-- its refusal where d is due: 9 where it nests too deep or is the 1,025th, then its own
unfoldable pub fault_at : Declared → Due → Reader → ℕ
fault_at D d r =
    pick (eqb (room d) 0) 9
    (pick (ltb r.tokens max_tokens) (fault_of D d r.bound (token_at D d r)) 9)

-- the reader behind it
abbrev pub behind : Declared → Due → Reader → Reader
behind D d r = record {
  place = r.place + length (spelling r);
  rest = drop (length (spelling r)) r.rest;
  tokens = suc r.tokens;
  bound = binds d (token_at D d r) r.bound;
}
