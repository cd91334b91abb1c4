-- The formula read with a list of what is due instead of recursive descent, giving the tokens that were read. The laws that this is the
-- specification's reading are in proofs/Dues.antt. Assumes nothing.
use Rattle.std.specs.Prelude.{ℕ, ◌+◌, Bool, List, [], ◌∷◌, ◌++◌, length}
use Rattle.specification.specs.Parser.{Parser, give, ◌>>=◌, ◌>>◌}
use Rattle.specification.specs.Lines.{Declared, procedure_of}
use Rattle.specification.specs.Ast.{constant}
use Rattle.specification.specs.Formula.{Locals, operand, binder, procedure, term, arguments, non_empty, formula}
use Rattle.values.specs.Word.{signed}
use Rattle.tables.specs.Codes.{local_code, procedure_code}
use Rattle.sheet.specs.declared.Token.{Token}
use Rattle.sheet.specs.Codes.{token, term_tokens, terms_tokens, formula_tokens}

-- what is due: nesting may go k deeper, and S is in scope. A binder's other operands become due when its local is read, and a call's
-- arguments when the procedure's number is read. The bounds of a range carry the place p of the quantifier's word; the upper one alone is due
-- after a lower one that is a constant, and carries the constant's word as well
pub data Due : Type 0 where
  due_formula due_term due_procedure due_ex : ℕ → Locals → Due
  due_range due_bounds : ℕ → Locals → ℕ → Due
  due_upper : ℕ → Locals → ℕ → ℕ → Due

-- where empty ranges are refused, or not
module _ (refusing : Bool) (D : Declared) where
  unfoldable pub parse : Due → Parser (List Token)
  parse (due_formula k S) = do
    F ← formula refusing D k S
    give (formula_tokens F)
  parse (due_term k S) = do
    t ← term D k S
    give (term_tokens t)
  parse (due_procedure k S) = do
    K ← procedure D k
    ts ← arguments D (term D k S) (procedure_of D K).parameters
    give (token (procedure_code + length ts) K ∷ terms_tokens ts)
  parse (due_ex k S) = do
    l ← binder D k
    F ← operand (formula refusing D k (l ∷ S))
    give (token local_code l ∷ formula_tokens F)
  parse (due_range k S p) = do
    l ← binder D k
    a ← operand (term D k S)
    b ← operand (term D k S)
    non_empty refusing p a b
    F ← operand (formula refusing D k (l ∷ S))
    give (token local_code l ∷ (term_tokens a ++ (term_tokens b ++ formula_tokens F)))
  parse (due_bounds k S p) = do
    a ← term D k S
    b ← operand (term D k S)
    non_empty refusing p a b
    give (term_tokens a ++ term_tokens b)
  parse (due_upper k S p x) = do
    b ← term D k S
    non_empty refusing p (constant (signed x)) b
    give (term_tokens b)

  -- each after its space
  unfoldable pub parse_all : List Due → Parser (List Token)
  parse_all [] r = give [] r
  parse_all (d ∷ ds) r = (operand (parse d) >>= λ xs. parse_all ds >>= λ ys. give (xs ++ ys)) r

  -- ---- what is left to read, after the tokens that were read

  -- where the space of the first that is due is still to come
  unfoldable pub left : List Due → List Token → Parser (List Token)
  left ds ts = parse_all ds >>= λ ys. give (ts ++ ys)

  -- where d is due here
  unfoldable pub left_here : Due → List Due → List Token → Parser (List Token)
  left_here d ds ts = parse d >>= λ xs. left ds (ts ++ xs)
