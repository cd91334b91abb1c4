-- The arguments of a call, one after the other: the next one, and their end. Assumes nothing.
use Prim.Native.Nat.{ℕ, zero, suc, ◌<◌, ◌≤◌}
use native.Mathlib.Omega.{arith}
use mathlib.Core.List.{List, [], ◌∷◌}
use lib.ListN.{length, get_or, drop}
use Rattle.specification.specs.Lines.{Declared}
use Rattle.specification.specs.Ast.{Term, parameter}
use Rattle.specification.specs.Fill.{fill_term, fill_terms}
use Rattle.specification.specs.WellFormed.{OkTerm}
use Rattle.specification.proofs.Laws.Fill.{length-fill, fill-at, each_at}
use Rattle.tables.specs.Layout.{max_nesting}
use Rattle.sheet.specs.Tables.{Words}
use Rattle.sheet.specs.Held.{end_at, TermAt, ArgumentsAt, height}
use Rattle.terms.specs.Environment.{Environment, terms_of, Arguments}
use Rattle.terms.proofs.Laws.Here.{Ends, term-ends}

module _ (w : Words) where
  arguments-le : (ts : List Term) (i e : ℕ) → ArgumentsAt w i e ts → i ≤ e
  arguments-le [] i e h = omega arith
  arguments-le (t ∷ ts) i e h = omega (arith, (term-ends w i t h.0).after, arguments-le ts (end_at w i) e h.1)

  -- the n-th of the arguments stands at token i
  pub record Next (i e n : ℕ) (ts : List Term) : Type 0 where
    pub inside : n < length ts
    pub term : TermAt w i (get_or ts n (parameter n))
    pub ends : Ends w i
    pub rest : ArgumentsAt w (end_at w i) e (drop (suc n) ts)

  pub next-argument : (ts : List Term) (n k i e : ℕ) → ArgumentsAt w i e (drop n ts) → i < e →
      (n < length ts) × TermAt w i (get_or ts n (parameter k)) × ArgumentsAt w (end_at w i) e (drop (suc n) ts)
  next-argument [] zero k i e h l = absurd (omega arith)
  next-argument [] (suc n) k i e h l = absurd (omega arith)
  next-argument (t ∷ ts) zero k i e h l = (omega arith, h.0, h.1)
  next-argument (t ∷ ts) (suc n) k i e h l = let r = next-argument ts n k i e h l in (omega (arith, r.0), r.1, r.2)

  pub next_of : (ts : List Term) (n i e : ℕ) → ArgumentsAt w i e (drop n ts) → i < e → Next i e n ts
  next_of ts n i e h l =
      let r = next-argument ts n n i e h l in
      record { inside = r.0; term = r.1; ends = term-ends w i (get_or ts n (parameter n)) r.1; rest = r.2 }

  -- after the last one
  pub arguments-end : (ts : List Term) (n i e : ℕ) → ArgumentsAt w i e (drop n ts) → e ≤ i → length ts ≤ n
  arguments-end [] n i e h l = omega arith
  arguments-end (t ∷ ts) zero i e h l = absurd (omega (arith, (term-ends w i t h.0).after, arguments-le ts (end_at w i) e h.1))
  arguments-end (t ∷ ts) (suc n) i e h l = omega (arith, arguments-end ts n i e h l)

-- ---- each can be valued

module _ {D : Declared} {E : Environment} {ts : List Term} (a : Arguments D E ts) (n : ℕ) (inside : n < length ts) where
  pub argument-ok : OkTerm D a.scope (fill_term (terms_of E) (get_or ts n (parameter n)))
  argument-ok =
      rw (fill-at (terms_of E) ts n (parameter n) (parameter n) inside) at
      (each_at (OkTerm D a.scope) (fill_terms (terms_of E) ts) n (parameter n) (omega (arith, length-fill (terms_of E) ts)) a.ok)

  pub argument-low : height (get_or ts n (parameter n)) ≤ max_nesting
  argument-low = each_at (λ t. height t ≤ max_nesting) ts n (parameter n) inside a.low
