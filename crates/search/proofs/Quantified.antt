-- What stands in the tokens of the tables at entry stands in the present words too, since their tokens are the same: a quantifier's formula and
-- its local. The laws of terms have the same of single tokens and of terms. Assumes nothing.
use Prim.Native.Nat.{ℕ, suc}
use mathlib.Core.Path.{◌≡◌}
use Rattle.specification.specs.Lines.{Declared}
use Rattle.specification.specs.Ast.{Formula, truth, and, or, imp, neg, eq, compare, ex, some, all, call}
use Rattle.tables.specs.Kept.{SameTokens}
use Rattle.sheet.specs.Tables.{Words}
use Rattle.sheet.specs.Held.{operand_at, FormulaAt}
use Rattle.terms.specs.Environment.{Environment}
use Rattle.plan.specs.Next.{Next}
use Rattle.terms.proofs.Laws.Here.{Ends, token-ends, end-here, operand-kept}
use Rattle.search.specs.Stands.{body_of, Binds}

-- the tokens of a formula lie in the table
pub formula-ends : (t : Words) (i : ℕ) (F : Formula) → FormulaAt t i F → Ends t i
formula-ends t i truth q = token-ends q
formula-ends t i (and F G) q = token-ends q.0
formula-ends t i (or F G) q = token-ends q.0
formula-ends t i (imp n F G) q = token-ends q.0
formula-ends t i (neg n F) q = token-ends q.0
formula-ends t i (eq n x y) q = token-ends q.0
formula-ends t i (compare n r x y) q = token-ends q.0
formula-ends t i (ex l F) q = token-ends q.0
formula-ends t i (some n l a b F) q = token-ends q.0
formula-ends t i (all n l a b F) q = token-ends q.0
formula-ends t i (call K ts F) q = token-ends q.0

module _ (t w : Words) (s : SameTokens t w) {D : Declared} {E : Environment} {h l : ℕ} {F : Formula} {n : Next} (b : Binds D t E h l F n) where
  pub body-here : body_of w h ≡ body_of t h
  body-here = rw (end-here t w s b.near) (end-here t w s b.middle)

  pub local-operand : operand_at w (suc h) ≡ l
  local-operand = operand-kept t w s b.local.0 b.local.1
