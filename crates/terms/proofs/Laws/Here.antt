-- What stands in tokens stands in all words that have the same tokens. Assumes nothing.
use Prim.Native.Nat.{ℕ, suc, ◌+◌, ◌≤◌, ◌<◌}
use native.Mathlib.Omega.{arith}
use mathlib.Core.Path.{◌≡◌, ◌∙◌}
use mathlib.Core.List.{List, [], ◌∷◌}
use Rattle.specification.specs.Lines.{Declared}
use Rattle.specification.specs.Ast.{Term, constant, scalar_at, local_at, parameter, element_at, apply}
use Rattle.tables.specs.Layout.{token_slot, plan_at, max_tokens}
use Rattle.tables.specs.Kept.{SameTokens}
use Rattle.sheet.specs.Tables.{Words}
use Rattle.sheet.specs.Held.{code_at, operand_at, end_at, TokenAt, TermAt, TermsAt, ArgumentsAt}
use Rattle.terms.specs.Environment.{Level, Environment, CallAt, Calls}

-- ---- the tokens of a term lie in the table

-- token i's subtree ends after it, within the table
pub record Ends (t : Words) (i : ℕ) : Type 0 where
  pub after : i < end_at t i
  pub inside : end_at t i ≤ max_tokens

pub token-ends : {t : Words} {i k e : ℕ} → TokenAt t i k e → Ends t i
token-ends q = record { after = omega (arith, q.end, q.after); inside = omega (arith, q.end, q.inside) }

pub term-ends : (t : Words) (i : ℕ) (x : Term) → TermAt t i x → Ends t i
term-ends t i (constant z) q = token-ends q.0
term-ends t i (scalar_at n) q = token-ends q.0
term-ends t i (local_at l) q = token-ends q.0
term-ends t i (parameter n) q = token-ends q.0
term-ends t i (element_at a x) q = token-ends q.0
term-ends t i (apply o x y) q = token-ends q.0

-- ---- the same in other words

module _ (t w : Words) (s : SameTokens t w) where
  pub code_here : {i : ℕ} → i < max_tokens → code_at w i ≡ code_at t i
  code_here {i} h = s (token_slot i) (omega arith)

  pub operand-here : {i : ℕ} → i < max_tokens → operand_at w i ≡ operand_at t i
  operand-here {i} h = s (token_slot i + 1) (omega arith)

  pub end-here : {i : ℕ} → i < max_tokens → end_at w i ≡ end_at t i
  end-here {i} h = s (token_slot i + 2) (omega arith)

  pub plan-here : {i : ℕ} → i < max_tokens → plan_at w i ≡ plan_at t i
  plan-here {i} h = s (token_slot i + 3) (omega arith)

  pub ended_here : {i : ℕ} → Ends t i → end_at w i ≡ end_at t i
  ended_here q = end-here (omega (arith, q.after, q.inside))

  pub token-here : {i k e : ℕ} → TokenAt t i k e → TokenAt w i k e
  token-here {i} {k} {e} q =
      let h : i < max_tokens = omega (arith, q.after, q.inside) in
      record { code = code_here h ∙ q.code; end = end-here h ∙ q.end; after = q.after; inside = q.inside }

  -- a token with its operand
  pub operand-kept : {i k e n : ℕ} → TokenAt t i k e → operand_at t i ≡ n → operand_at w i ≡ n
  operand-kept {i} q o = let h : i < max_tokens = omega (arith, q.after, q.inside) in operand-here h ∙ o

  pub term-here : (x : Term) (i : ℕ) → TermAt t i x → TermAt w i x
  term-here (constant z) i q = (token-here q.0, operand-kept q.0 q.1)
  term-here (scalar_at n) i q = (token-here q.0, operand-kept q.0 q.1)
  term-here (local_at l) i q = (token-here q.0, operand-kept q.0 q.1)
  term-here (parameter n) i q = (token-here q.0, operand-kept q.0 q.1)
  term-here (element_at a x) i q =
      let e = ended_here (term-ends t (suc i) x q.2) in
      (rw e (token-here q.0), operand-kept q.0 q.1, term-here x (suc i) q.2)
  term-here (apply o x y) i q =
      let e = ended_here (term-ends t (suc i) x q.1) in
      let e2 = ended_here (term-ends t (end_at t (suc i)) y q.2) in
      (rw (e, e2) (token-here q.0), term-here x (suc i) q.1, rw e (term-here y (end_at t (suc i)) q.2))

  pub terms-here : (i e : ℕ) (x y : Term) → TermsAt t i e x y → TermsAt w i e x y
  terms-here i e x y q =
      let e1 = ended_here (term-ends t i x q.0) in
      let e2 = ended_here (term-ends t (end_at t i) y q.1) in
      (term-here x i q.0, rw e1 (term-here y (end_at t i) q.1), rw (e1, e2) q.2)

  pub arguments-here : (ts : List Term) (i e : ℕ) → ArgumentsAt t i e ts → ArgumentsAt w i e ts
  arguments-here [] i e q = q
  arguments-here (x ∷ ts) i e q = (term-here x i q.0, rw (ended_here (term-ends t i x q.0)) (arguments-here ts (end_at t i) e q.1))

  pub call-here : {h K : ℕ} {ts : List Term} → CallAt t h K ts → CallAt w h K ts
  call-here {h} {K} {ts} q =
      let e = ended_here (token-ends q.token) in
      record {
        token = rw e (token-here q.token);
        number = operand-kept q.token q.number;
        arguments = rw e (arguments-here ts (suc (suc h)) (end_at t (suc h)) q.arguments);
      }

  -- the call of an active procedure
  pub calls-here : {D : Declared} {h : ℕ} {L : Level} {E : Environment} → Calls D t h L E → Calls D w h L E
  calls-here {h = h} q =
      let ends = token-ends q.call.token in
      let inside : suc h < max_tokens = omega (arith, ends.after, ends.inside) in
      record {
        earlier = q.earlier;
        call = call-here q.call;
        around = plan-here inside ∙ q.around;
        arguments = q.arguments;
        count = q.count;
        arity = q.arity;
      }
