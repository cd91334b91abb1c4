-- Parameters in the tokens of terms: where none stands, filling changes nothing; each has a slot in its procedure's frame. Assumes nothing.
use Prim.Native.Nat.{ℕ, zero, suc, ◌+◌, ◌≤◌, ◌<◌}
use native.Mathlib.Omega.{arith}
use mathlib.Core.Path.{◌≡◌, refl, sym, ◌∙◌, ap, subst}
use mathlib.Core.Bool.{Bool, true, false}
use mathlib.Core.List.{List, [], ◌∷◌}
use lib.ListN.{length, get_or}
use lib.Dec.{ltb}
use borrow.Author.Tests.{ltb-true, ltb-false}
use Rattle.specification.specs.Lines.{Declared}
use Rattle.specification.specs.Ast.{Term, constant, scalar_at, local_at, parameter, element_at, apply}
use Rattle.specification.specs.Fill.{fill_term}
use Rattle.specification.specs.WellFormed.{Scope, OkTerm}
use Rattle.tables.specs.Layout.{token_slot, plan_at, max_parameters}
use Rattle.tables.specs.Codes.{parameter_code}
use Rattle.tables.specs.Frames.{argument_slot}
use Rattle.sheet.specs.Tables.{Words}
use Rattle.sheet.specs.Held.{code_at, end_at, TermAt}
use Rattle.plan.specs.Planned.{entry, TermPlanned}
use Rattle.plan.proofs.Laws.Carried.{sides-inside}
use Rattle.plan.proofs.Laws.Simple.{op-codes}
use Rattle.terms.specs.Environment.{Environment, terms_of, number_of, pointer_of, EnvAt}
use Rattle.walker.specs.Terms.{frame_of, NoneIn}

-- ---- none

module _ (w : Words) (ts : List Term) where
  pub no-parameter : (t : Term) (i : ℕ) → TermAt w i t → NoneIn w i (end_at w i) → fill_term ts t ≡ t
  unfolding fill_term
  no-parameter (constant z) i q m = refl
  no-parameter (scalar_at c) i q m = refl
  no-parameter (local_at l) i q m = refl
  no-parameter (parameter n) i q m = absurd (m i (omega arith) (omega (arith, q.0.end)) q.0.code)
  no-parameter (element_at a t) i q m = ap (element_at a) (no-parameter t (suc i) q.2 (λ j x y. m j (omega arith) (omega (arith, q.0.end))))
  no-parameter (apply o s t) i q m =
      let f = sides-inside w i o s t q in
      let left = no-parameter s (suc i) q.1 (λ j x y. m j (omega arith) (omega arith)) in
      let right = no-parameter t (end_at w (suc i)) q.2 (λ j x y. m j (omega arith) (omega arith)) in
      rw (left, right)

-- ---- one, at token j

pub record ParameterAt (w : Words) (ts : List Term) (K j : ℕ) : Type 0 where
  pub n : ℕ
  pub slot : plan_at w j ≡ argument_slot K n
  pub few : n < length ts

past : (ts : List Term) (n : ℕ) (d : Term) → length ts ≤ n → get_or ts n d ≡ d
unfolding get_or
past [] n d h = refl
past (t ∷ ts) zero d h = absurd (omega arith)
past (t ∷ ts) (suc n) d h = past ts n d (omega arith)

module _ (w : Words) (D : Declared) (S : Scope) (ts : List Term) (K j : ℕ) (none : D.parameters ≡ 0) (code : code_at w j ≡ parameter_code) where
  -- a parameter that is filled is among the terms
  among : (n : ℕ) → OkTerm D S (get_or ts n (parameter n)) → n < length ts
  unfolding OkTerm
  among n o = by (ltb n (length ts)) refl
    where
      by : (b : Bool) → ltb n (length ts) ≡ b → n < length ts
      by true e = ltb-true n (length ts) e
      by false e =
          let z : n < D.parameters = subst (OkTerm D S) (past ts n (parameter n) (ltb-false n (length ts) e)) o in
          absurd (omega arith)

  -- not the first token
  later : {i k : ℕ} → code_at w i ≡ k → (k ≡ parameter_code → ⊥) → i ≤ j → (suc i ≤ j → ParameterAt w ts K j) → ParameterAt w ts K j
  later {i} {k} e m l f = by (ltb i j) refl
    where
      by : (b : Bool) → ltb i j ≡ b → ParameterAt w ts K j
      by true z = f (ltb-true i j z)
      by false z = let same : j ≡ i = omega (arith, ltb-false i j z) in absurd (m (sym e ∙ ap (code_at w) (sym same) ∙ code))

  -- in one part or the other
  pub either : (k : ℕ) → (j < k → ParameterAt w ts K j) → (k ≤ j → ParameterAt w ts K j) → ParameterAt w ts K j
  either k f g = by (ltb j k) refl
    where
      by : (b : Bool) → ltb j k ≡ b → ParameterAt w ts K j
      by true z = f (ltb-true j k z)
      by false z = g (ltb-false j k z)

  pub parameter-at : (t : Term) (i n : ℕ) → TermAt w i t → TermPlanned w K i t n → OkTerm D S (fill_term ts t) → i ≤ j → j < end_at w i → ParameterAt w ts K j
  unfolding fill_term OkTerm
  parameter-at (constant z) i n q p o l h = later q.0.code (λ e. omega arith) l (λ m. absurd (omega (arith, q.0.end)))
  parameter-at (scalar_at c) i n q p o l h = later q.0.code (λ e. omega arith) l (λ m. absurd (omega (arith, q.0.end)))
  parameter-at (local_at c) i n q p o l h = later q.0.code (λ e. omega arith) l (λ m. absurd (omega (arith, q.0.end)))
  parameter-at (parameter m) i n q p o l h =
      let same : j ≡ i = omega (arith, q.0.end) in
      record { n = m; slot = ap (plan_at w) same ∙ p; few = among m o }
  parameter-at (element_at a t) i n q p o l h =
      later q.0.code (λ e. omega arith) l (λ m. parameter-at t (suc i) (token_slot i) q.2 p.1 o.1 m (omega (arith, q.0.end)))
  parameter-at (apply u s t) i n q p o l h =
      let f = sides-inside w i u s t q in
      later q.0.code (λ e. omega (arith, op-codes u)) l (λ m.
      either (end_at w (suc i)) (λ z. parameter-at s (suc i) (token_slot i) q.1 p.1 o.0 m z)
      (λ z. parameter-at t (end_at w (suc i)) (entry w (suc i) s (token_slot i)) q.2 p.2 o.1 z (omega (arith, f.2))))

-- so there is a procedure, and the slot tells which
pub one-procedure : (D : Declared) (w : Words) (j : ℕ) (E : Environment) → EnvAt D w E →
    ParameterAt w (terms_of E) (number_of E) j → frame_of (plan_at w j) + 1 ≡ pointer_of E
one-procedure D w j [] e q = absurd (omega (arith, q.few))
one-procedure D w j (L ∷ E) e q =
    let few : q.n < max_parameters = omega (arith, q.few, e.0.calls.count, e.0.calls.arguments.few) in
    let slot : plan_at w j ≡ argument_slot L.number q.n = q.slot in
    omega arith
