-- Nodes whose parts are the same are the same, and a formula without parameters is the same filled with nothing. Assumes nothing.
use Prim.Native.Nat.{ℕ}
use mathlib.Core.Path.{◌≡◌, refl, ◌∙◌, ap, ap₂}
use mathlib.Core.Bool.{Bool, true, false}
use mathlib.Core.List.{List, [], ◌∷◌}
use lib.IntN.{ℤ}
use Rattle.specification.specs.Ast.{Rel, Term, constant, scalar_at, local_at, parameter, element_at, apply, Formula, truth, and, or, imp, neg, eq, compare, ex, some, all, call}
use Rattle.specification.specs.Fill.{fill_term, fill_terms, fill}
use Rattle.specification.specs.Arithmetic.{test}
use Rattle.specification.specs.Value.{Valuation, Pair, values, faulty}
use Rattle.specification.specs.Tree.{Verdict, succeeds, fails, undecided, verdict, ask, Rest, check, compared, bounded, denied, implied, enquire}

-- ---- nodes

pub check-same : (b : Bool) (k k' : Rest) (α : Valuation) → k α ≡ k' α → check b k α ≡ check b k' α
check-same true k k' α e = e
check-same false k k' α e = refl

pub compared_same : (tok : ℕ) (r : Rel) (p : Pair) (k k' : Rest) (α : Valuation) → k α ≡ k' α → compared tok r p k α ≡ compared tok r p k' α
unfolding compared
compared_same tok r (values x y) k k' α e = check-same (test r x y) k k' α e
compared_same tok r (faulty κ) k k' α e = refl

pub bounded-same :
    (tok : ℕ) (p : Pair) (k k' : ℤ → ℤ → Rest) (α : Valuation) → ((x y : ℤ) → k x y α ≡ k' x y α) →
    bounded tok p k α ≡ bounded tok p k' α
unfolding bounded
bounded-same tok (values x y) k k' α e = e x y
bounded-same tok (faulty κ) k k' α e = refl

pub enquire-same :
    (I I' : Rest) (k k' : Verdict → Rest) (α : Valuation) → I α ≡ I' α → ((v : Verdict) → k v α ≡ k' v α) →
    enquire I k α ≡ enquire I' k' α
unfolding enquire
enquire-same I I' k k' α e f = ap (λ J. ask J (k (verdict J) α)) e ∙ ap (ask (I' α)) (f (verdict (I' α)))

pub denied-same : (tok : ℕ) (v : Verdict) (k k' : Rest) (α : Valuation) → k α ≡ k' α → denied tok v k α ≡ denied tok v k' α
denied-same tok succeeds k k' α e = refl
denied-same tok fails k k' α e = e
denied-same tok undecided k k' α e = refl

pub implied-same :
    (tok : ℕ) (v : Verdict) (g g' k k' : Rest) (α : Valuation) → g α ≡ g' α → k α ≡ k' α →
    implied tok v g k α ≡ implied tok v g' k' α
implied-same tok succeeds g g' k k' α d e = d
implied-same tok fails g g' k k' α d e = e
implied-same tok undecided g g' k k' α d e = refl

-- ---- formulas filled with nothing

term-none : (t : Term) → fill_term [] t ≡ t
unfolding fill_term
term-none (constant z) = refl
term-none (scalar_at c) = refl
term-none (local_at l) = refl
term-none (parameter n) = refl
term-none (element_at a t) = ap (element_at a) (term-none t)
term-none (apply o s t) = ap₂ (apply o) (term-none s) (term-none t)

terms-none : (ts : List Term) → fill_terms [] ts ≡ ts
unfolding fill_terms
terms-none [] = refl
terms-none (t ∷ ts) = ap₂ ◌∷◌ (term-none t) (terms-none ts)

pub fill_none : (F : Formula) → fill [] F ≡ F
unfolding fill
fill_none truth = refl
fill_none (and F G) = ap₂ and (fill_none F) (fill_none G)
fill_none (or F G) = ap₂ or (fill_none F) (fill_none G)
fill_none (imp tok F G) = ap₂ (imp tok) (fill_none F) (fill_none G)
fill_none (neg tok F) = ap (neg tok) (fill_none F)
fill_none (eq tok s t) = ap₂ (eq tok) (term-none s) (term-none t)
fill_none (compare tok r s t) = ap₂ (compare tok r) (term-none s) (term-none t)
fill_none (ex l F) = ap (ex l) (fill_none F)
fill_none (some tok l a b F) = rw (term-none a, term-none b, fill_none F)
fill_none (all tok l a b F) = rw (term-none a, term-none b, fill_none F)
fill_none (call K ts F) = ap₂ (call K) (terms-none ts) (fill_none F)
