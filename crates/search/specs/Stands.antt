-- A formula that stands in the tables with its plan, in an environment that says what its parameters stand for; the formula under a quantifier, and the
-- values left to it. Assumes nothing.
use Rattle.std.specs.Prelude.{ℕ, suc, ◌-◌, ◌≤◌, ◌<◌, ◌≡◌, T, ℤ, pos, ◌+ℤ◌}
use Rattle.specification.specs.Lines.{Declared}
use Rattle.specification.specs.Ast.{Formula}
use Rattle.specification.specs.Fill.{fill}
use Rattle.specification.specs.WellFormed.{Scope, Ok}
use Rattle.values.specs.Word.{signed}
use Rattle.tables.specs.Layout.{max_tokens, max_locals, token_slot}
use Rattle.sheet.specs.Tables.{Words}
use Rattle.sheet.specs.Held.{end_at, LocalAt, FormulaAt, Shallow}
use Rattle.terms.specs.Environment.{Environment, terms_of, number_of}
use Rattle.tables.specs.Layout.{plan_at}
use Rattle.plan.specs.Next.{Next}
use Rattle.plan.specs.Planned.{Line, FormulaPlanned}
use Rattle.terms.specs.Environment.{pointer_of}

-- F with the environment's terms in place of its parameters
abbrev pub filled : Environment → Formula → Formula
filled E F = fill (terms_of E) F

-- the line that a formula of this environment stands in
abbrev pub line_of : Environment → Line
line_of E = record { number = number_of E; around = pointer_of E }

pub record Good (D : Declared) (E : Environment) (F : Formula) : Type 0 where
  pub scope : Scope
  pub locals : (l : ℕ) → T (scope l) → l < max_locals
  pub ok : Ok D scope (filled E F)
  -- it calls procedures earlier than the environment's only
  pub shallow : Shallow (number_of E) F

-- F stands from token i of the tables t on, and n comes after it
pub record Stands (D : Declared) (t : Words) (E : Environment) (i : ℕ) (F : Formula) (n : Next) : Type 0 where
  pub held : FormulaAt t i F
  pub good : Good D E F
  pub planned : FormulaPlanned t (line_of E) i F n

-- the formula under a `some` or `all` whose token is h
abbrev pub body_of : Words → ℕ → ℕ
body_of t h = end_at t (end_at t (suc (suc h)))

-- token h is a quantifier over the local l, of F, which n comes after
pub record Binds (D : Declared) (t : Words) (E : Environment) (h l : ℕ) (F : Formula) (n : Next) : Type 0 where
  pub near : suc (suc h) < max_tokens
  pub middle : end_at t (suc (suc h)) < max_tokens
  pub local : LocalAt t (suc h) l
  pub small : l < max_locals
  pub inside : body_of t h < max_tokens
  pub leads : plan_at t (suc h) ≡ token_slot (body_of t h)
  pub body : Stands D t E (body_of t h) F n
  -- the local is in scope there
  pub scoped : T (body.good.scope l)

-- n values are left after the word `current`, up to the word `last`, and v is the lowest
pub record LeftAfter (current last n : ℕ) (v : ℤ) : Type 0 where
  pub fits : last < 4294967296
  pub order : current ≤ last
  pub count : n ≡ last - current
  pub lowest : v ≡ signed current +ℤ pos 1
