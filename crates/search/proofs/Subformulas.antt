-- What stands under a formula's token, and what the token's code says of it. The law is in ByCode.antt. Assumes nothing.
use Prim.Native.Nat.{ℕ, suc, ◌≤◌, ◌<◌}
use mathlib.Core.Path.{◌≡◌}
use mathlib.Core.Bool.{Bool, true, false, not}
use mathlib.Core.List.{List}
use lib.Dec.{T, eqb}
use Rattle.specification.specs.Lines.{Declared}
use Rattle.specification.specs.Ast.{Rel, Term, Formula, truth, and, or, imp, neg, eq, compare, ex, some, all, call}
use Rattle.specification.specs.Fill.{fill_term, fill_terms}
use Rattle.specification.specs.WellFormed.{Scope, enter, OkTerm, Called, Ok}
use Rattle.tables.specs.Layout.{max_tokens, max_locals, max_nesting, token_slot}
use Rattle.tables.specs.Codes.{true_code, and_code, or_code, imp_code, not_code, eq_code, ex_code, some_code, all_code, call_code}
use Rattle.sheet.specs.Tables.{Words}
use Rattle.sheet.specs.Codes.{rel_code}
use Rattle.sheet.specs.Held.{operand_at, end_at, TermsAt, LocalAt, height}
use Rattle.terms.specs.Environment.{Environment, terms_of, number_of, CallAt, Arguments}
use Rattle.search.specs.Stands.{filled, Stands, body_of, Binds}
use Rattle.tables.specs.Layout.{plan_at}
use Rattle.plan.specs.Next.{Next, end, token, place_of}
use Rattle.plan.specs.Planned.{TermsPlanned, ArgumentsPlanned}
use Rattle.terms.specs.Environment.{pointer_of}

abbrev Either : Bool → Type 0 → Type 0 → Type 0
Either true A B = A
Either false A B = B

-- ---- what stands under a token

module _ (D : Declared) (t : Words) (E : Environment) (n : Next) (S : Scope) where
  -- two terms of the formula at token h, from token i up to token e, in a scope
  pub record TermsIn (h i e : ℕ) (x y : Term) : Type 0 where
    pub terms : TermsAt t i e x y
    pub scope : Scope
    pub locals : (l : ℕ) → T (scope l) → l < max_locals
    pub left : OkTerm D scope (fill_term (terms_of E) x)
    pub right : OkTerm D scope (fill_term (terms_of E) y)
    pub left_low : height x ≤ max_nesting
    pub right_low : height y ≤ max_nesting
    pub planned : TermsPlanned t (number_of E) h i x y

  module _ (h : ℕ) where
    -- two formulas one after the other begin within the table
    pub record Parts : Type 0 where
      pub near : suc h < max_tokens
      pub far : end_at t (suc h) < max_tokens

    -- `and`: the second comes after the first
    pub record Joined (F : Formula) : Type 0 where
      pub parts : Parts
      pub first : Formula
      pub second : Formula
      pub is : F ≡ and first second
      pub left : Stands D t E (suc h) first (token (end_at t (suc h)))
      pub right : Stands D t E (end_at t (suc h)) second n
      pub left-scope : left.good.scope ≡ S
      pub right-scope : right.good.scope ≡ S

    -- `or`
    pub record Choice (F : Formula) : Type 0 where
      pub parts : Parts
      pub first : Formula
      pub second : Formula
      pub is : F ≡ or first second
      pub left : Stands D t E (suc h) first n
      pub right : Stands D t E (end_at t (suc h)) second n
      pub left-scope : left.good.scope ≡ S
      pub right-scope : right.good.scope ≡ S
      pub leads : operand_at t h ≡ token_slot (end_at t (suc h))

    -- `imp`
    pub record Implied (F : Formula) : Type 0 where
      pub parts : Parts
      pub first : Formula
      pub second : Formula
      pub is : F ≡ imp h first second
      pub left : Stands D t E (suc h) first end
      pub right : Stands D t E (end_at t (suc h)) second n
      pub left-scope : left.good.scope ≡ S
      pub right-scope : right.good.scope ≡ S
      pub leads : operand_at t h ≡ token_slot (end_at t (suc h))
      pub next : plan_at t h ≡ place_of n

    -- `not`: one
    pub record Denied (F : Formula) : Type 0 where
      pub first : Formula
      pub is : F ≡ neg h first
      pub under : Stands D t E (suc h) first end
      pub scope : under.good.scope ≡ S
      pub near : suc h < max_tokens
      pub next : plan_at t h ≡ place_of n

    -- an atom: two terms
    pub record Atom (make : Term → Term → Formula) (F : Formula) : Type 0 where
      pub left : Term
      pub right : Term
      pub is : F ≡ make left right
      pub terms : TermsIn h (suc h) (end_at t h) left right
      pub near : suc h < max_tokens
      pub next : plan_at t h ≡ place_of n

    -- `ex`: a local and a formula
    pub record Hides (F : Formula) : Type 0 where
      pub l : ℕ
      pub body : Formula
      pub is : F ≡ ex l body
      pub local : LocalAt t (suc h) l
      pub small : l < max_locals
      pub under : Stands D t E (suc (suc h)) body n
      pub scope : under.good.scope ≡ enter S l
      pub fresh : T (not (S l))
      pub near : suc (suc h) < max_tokens

    -- `some`: a local, two bounds and a formula
    pub record Tries (F : Formula) : Type 0 where
      pub l : ℕ
      pub low : Term
      pub high : Term
      pub body : Formula
      pub is : F ≡ some h l low high body
      pub binds : Binds D t E h l body n
      pub scope : binds.body.good.scope ≡ enter S l
      pub fresh : T (not (S l))
      pub terms : TermsIn h (suc (suc h)) (body_of t h) low high

    -- `all`
    pub record Covers (F : Formula) : Type 0 where
      pub l : ℕ
      pub low : Term
      pub high : Term
      pub body : Formula
      pub is : F ≡ all h l low high body
      pub binds : Binds D t E h l body (token (suc h))
      pub scope : binds.body.good.scope ≡ enter S l
      pub fresh : T (not (S l))
      pub terms : TermsIn h (suc (suc h)) (body_of t h) low high
      pub next : plan_at t h ≡ place_of n

    -- `call`: a procedure's number and its arguments; the procedure's formula filled with these does not stand here
    pub record Calls (F : Formula) : Type 0 where
      pub number : ℕ
      pub terms : List Term
      pub body : Formula
      pub is : F ≡ call number terms body
      pub held : CallAt t h number terms
      pub arguments : Arguments D E terms
      pub scope : arguments.scope ≡ S
      pub earlier : number < number_of E
      pub called : Called D number (fill_terms (terms_of E) terms) (filled E body)
      pub ok : Ok D arguments.scope (filled E body)
      pub next : plan_at t h ≡ place_of n
      pub around : plan_at t (suc h) ≡ pointer_of E
      pub planned : ArgumentsPlanned t (number_of E) (suc (suc h)) terms

    -- the atoms that compare
    abbrev pub Compared : ℕ → Formula → Type 0
    Compared k F = (r : Rel) × (k ≡ rel_code r) × Atom (compare h r) F

    -- what the code k says of the formula at token h; the other codes of formulas are those of the atoms that compare
    abbrev pub Says : ℕ → Formula → Type 0
    Says k F =
        Either (eqb k true_code) ((F ≡ truth) × (plan_at t h ≡ place_of n))
        (Either (eqb k and_code) (Joined F)
        (Either (eqb k or_code) (Choice F)
        (Either (eqb k imp_code) (Implied F)
        (Either (eqb k not_code) (Denied F)
        (Either (eqb k eq_code) (Atom (eq h) F)
        (Either (eqb k ex_code) (Hides F)
        (Either (eqb k some_code) (Tries F)
        (Either (eqb k all_code) (Covers F)
        (Either (eqb k call_code) (Calls F)
        (Compared k F))))))))))
