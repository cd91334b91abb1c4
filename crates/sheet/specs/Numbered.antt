-- A formula carries the numbers of its own tokens, counted from i. Those of a call's formula are those of the procedure's line, so the call
-- itself carries none. Assumes nothing.
use Rattle.std.specs.Prelude.{ℕ, suc, ◌+◌, ◌≡◌, List, length}
use Rattle.specification.specs.Ast.{Term, Formula, truth, and, or, imp, neg, eq, compare, ex, some, all, call}
use Rattle.sheet.specs.Codes.{term_tokens, terms_tokens, formula_tokens}

-- how many tokens
abbrev pub term_size : Term → ℕ
term_size t = length (term_tokens t)

abbrev pub terms_size : List Term → ℕ
terms_size ts = length (terms_tokens ts)

abbrev pub formula_size : Formula → ℕ
formula_size F = length (formula_tokens F)

unfoldable pub Numbered : ℕ → Formula → Type 0
Numbered i truth = Unit {0}
Numbered i (and F G) = Numbered (suc i) F × Numbered (suc i + formula_size F) G
Numbered i (or F G) = Numbered (suc i) F × Numbered (suc i + formula_size F) G
Numbered i (imp n F G) = (n ≡ i) × Numbered (suc i) F × Numbered (suc i + formula_size F) G
Numbered i (neg n F) = (n ≡ i) × Numbered (suc i) F
Numbered i (eq n s t) = n ≡ i
Numbered i (compare n r s t) = n ≡ i
Numbered i (ex l F) = Numbered (suc (suc i)) F
Numbered i (some n l a b F) = (n ≡ i) × Numbered (suc (suc i) + term_size a + term_size b) F
Numbered i (all n l a b F) = (n ≡ i) × Numbered (suc (suc i) + term_size a + term_size b) F
Numbered i (call K ts F) = Unit {0}
