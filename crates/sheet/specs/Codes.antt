-- The code and operand of each word, and those of a whole term or formula in prefix order. Assumes nothing.
use Rattle.std.specs.Prelude.{ℕ, ◌+◌, min, List, [], ◌∷◌, ◌++◌, length}
use Rattle.std.proofs.Math.Option.{Option, none, some as just}
use Rattle.specification.specs.Ast.{Op, add, sub, mul, quo, rem, div, modulo, Rel, ne, lt, le, gt, ge, Term, constant, scalar_at, local_at, parameter, element_at, apply, Formula, truth, and, or, imp, neg, eq, compare, ex, some, all, call, Procedure}
use Rattle.specification.specs.Words.{FormulaWord, true_word, and_word, or_word, imp_word, not_word, eq_word, ex_word, some_word, all_word, call_word, rel_word, TermWord, constant_word, scalar_word, local_word, array_word, parameter_word, op_word, Word, formula_word, term_word, number_word, unknown}
use Rattle.values.specs.Word.{biased}
use Rattle.tables.specs.Codes.{true_code, and_code, or_code, imp_code, not_code, eq_code, ne_code, lt_code, le_code, gt_code, ge_code, ex_code, some_code, all_code, call_code, add_code, sub_code, mul_code, quo_code, rem_code, div_code, mod_code, constant_code, scalar_code, local_code, array_code, parameter_code, unknown_code, bad_constant_code, procedure_code}
use Rattle.sheet.specs.declared.Token.{Token}

abbrev pub token : ℕ → ℕ → Token
token c o = record { code = c; operand = o }

-- ---- codes

abbrev pub rel_code : Rel → ℕ
rel_code ne = ne_code
rel_code lt = lt_code
rel_code le = le_code
rel_code gt = gt_code
rel_code ge = ge_code

abbrev pub formula_code : FormulaWord → ℕ
formula_code true_word = true_code
formula_code and_word = and_code
formula_code or_word = or_code
formula_code imp_word = imp_code
formula_code not_word = not_code
formula_code eq_word = eq_code
formula_code (rel_word r) = rel_code r
formula_code ex_word = ex_code
formula_code some_word = some_code
formula_code all_word = all_code
formula_code call_word = call_code

abbrev pub op_code : Op → ℕ
op_code add = add_code
op_code sub = sub_code
op_code mul = mul_code
op_code quo = quo_code
op_code rem = rem_code
op_code div = div_code
op_code modulo = mod_code

-- an index too large for a word is not declared, so the largest word stands for it
abbrev pub index_word : ℕ → ℕ
index_word n = min n 4294967295

abbrev pub term_token : TermWord → Token
term_token (op_word o) = token (op_code o) 0
term_token (constant_word z) = token constant_code (biased z)
term_token (scalar_word n) = token scalar_code (index_word n)
term_token (local_word n) = token local_code (index_word n)
term_token (array_word n) = token array_code (index_word n)
term_token (parameter_word n) = token parameter_code (index_word n)

-- a constant in bad form or outside 32 bits is no word, and neither is a procedure's number in bad form
unfoldable pub token_of : Option Word → Token
token_of (just (formula_word w)) = token (formula_code w) 0
token_of (just (term_word w)) = term_token w
token_of (just (number_word n)) = token procedure_code (index_word n)
token_of (just unknown) = token unknown_code 0
token_of none = token bad_constant_code 0

-- ---- the tokens of terms and formulas, in prefix order

unfoldable pub term_tokens : Term → List Token
term_tokens (constant z) = token constant_code (biased z) ∷ []
term_tokens (scalar_at n) = token scalar_code n ∷ []
term_tokens (local_at l) = token local_code l ∷ []
term_tokens (parameter n) = token parameter_code n ∷ []
term_tokens (element_at a t) = token array_code a ∷ term_tokens t
term_tokens (apply o s t) = token (op_code o) 0 ∷ (term_tokens s ++ term_tokens t)

-- terms one after the other
unfoldable pub terms_tokens : List Term → List Token
terms_tokens [] = []
terms_tokens (t ∷ ts) = term_tokens t ++ terms_tokens ts

-- the code of a procedure's number in a call tells how many arguments follow; the procedure's own tokens stand in its line
unfoldable pub formula_tokens : Formula → List Token
formula_tokens truth = token true_code 0 ∷ []
formula_tokens (and F G) = token and_code 0 ∷ (formula_tokens F ++ formula_tokens G)
formula_tokens (or F G) = token or_code 0 ∷ (formula_tokens F ++ formula_tokens G)
formula_tokens (imp n F G) = token imp_code 0 ∷ (formula_tokens F ++ formula_tokens G)
formula_tokens (neg n F) = token not_code 0 ∷ formula_tokens F
formula_tokens (eq n s t) = token eq_code 0 ∷ (term_tokens s ++ term_tokens t)
formula_tokens (compare n r s t) = token (rel_code r) 0 ∷ (term_tokens s ++ term_tokens t)
formula_tokens (ex l F) = token ex_code 0 ∷ token local_code l ∷ formula_tokens F
formula_tokens (some n l a b F) = token some_code 0 ∷ token local_code l ∷ (term_tokens a ++ (term_tokens b ++ formula_tokens F))
formula_tokens (all n l a b F) = token all_code 0 ∷ token local_code l ∷ (term_tokens a ++ (term_tokens b ++ formula_tokens F))
formula_tokens (call K ts F) = token call_code 0 ∷ token (procedure_code + length ts) K ∷ terms_tokens ts

-- of procedures one after the other
unfoldable pub procedures_tokens : List Procedure → List Token
procedures_tokens [] = []
procedures_tokens (P ∷ Ps) = formula_tokens P.formula ++ procedures_tokens Ps
