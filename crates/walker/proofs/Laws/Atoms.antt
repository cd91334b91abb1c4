-- The steps into atoms whose two terms have values: the test of their words. Assumes nothing.
use Prim.Native.Nat.{ℕ, ◌+◌, ◌≤◌}
use native.Mathlib.Omega.{arith}
use mathlib.Core.Path.{◌≡◌, refl, sym, ◌∙◌, ap}
use mathlib.Core.Bool.{Bool, not}
use mathlib.Core.List.{List}
use mathlib.Core.Logic.{inl, inr}
use lib.ListN.{get_or}
use lib.Dec.{leb, ltb, eqb}
use Rattle.specification.specs.Bytes.{Bytes}
use lib.IntN.{ℤ}
use Rattle.specification.specs.Lines.{Declared}
use Rattle.specification.specs.Ast.{Rel, ne, lt, le, gt, ge, Term, Formula, compare}
use Rattle.specification.specs.Fill.{fill_term, fill}
use Rattle.specification.specs.Arithmetic.{test}
use Rattle.specification.specs.Value.{Valuation, val, side, pair_of}
use Rattle.specification.specs.Tree.{step, check, compared}
use Rattle.values.specs.Word.{signed}
use Rattle.values.proofs.Laws.Word.{signed-eq, signed_lt, signed_le}
use Rattle.tables.specs.Codes.{eq_code, ne_code, lt_code, le_code, gt_code, ge_code, some_code, all_code}
use Rattle.sheet.specs.Tables.{Words}
use Rattle.sheet.specs.Codes.{rel_code}
use Rattle.terms.specs.Environment.{Environment, terms_of}
use Rattle.search.specs.declared.Go.{Go}
use Rattle.search.specs.Frame.{Item, the, failure, tree_items, site_in, store_in}
use Rattle.search.specs.Site.{Site, RestAt, son_site, grow_at, equate_at}
use Rattle.search.specs.Stands.{filled}
use Rattle.search.specs.Path.{World, Job}
use Rattle.search.specs.Sim.{tree, son, In}
use Rattle.search.specs.Steps.{Visited, TermsOf, Valued, HasTerms}
use Rattle.search.proofs.ByCode.{says-compared}
use Rattle.search.proofs.Heads.{at-form, form-tree}
use Rattle.search.proofs.Simple.{next-job}
use Rattle.walker.specs.Steps.{Checks}

-- a test of words that is the test of their values for the code n
abbrev Tests : ℕ → ℕ → ℕ → Bool → Type 0
Tests n x y b = (r : Rel) → n ≡ rel_code r → b ≡ test r (signed x) (signed y)

-- an atom that compares
module _ {F : Formula} {h : ℕ} {r : Rel} {s t : Term} where
  compared-terms : F ≡ compare h r s t → TermsOf F s t
  compared-terms e = rw e (refl, refl)

  compared-tree : (D : Declared) (E : Environment) (k : RestAt) (u : Site) (α : Valuation) (x y : ℤ) → F ≡ compare h r s t →
      side D α (fill_term (terms_of E) s) ≡ val x → side D α (fill_term (terms_of E) t) ≡ val y → grow_at D (filled E F) k u α ≡ step (check (test r x y) (k (son_site u)) α)
  unfolding grow_at compared pair_of fill
  compared-tree D E k u α x y e p q = rw (e, p, q)

module _ {w : Words} {g : Go} where
  checks : {b : Bool} → Visited w g →
      ((c : World) (o : Bytes) (i : In c o w g) →
      (is : List Item)
      × (tree c i.fr i.x i.α ≡ step (check b (λ β. son c i.fr (the is) β) i.α))
      × Job c w (store_in i.fr) i.α (get_or w (g.due + 3) 0) (the is)) →
      Checks w g b
  checks at f = record {
    yes = λ e. record { at = at; son = λ c o i. let q = f c o i in (q.0, q.1 ∙ rw e, q.2) };
    no = λ e. record { at = at; son = λ c o i. let q = f c o i in (failure, q.1 ∙ rw e, refl) };
  }

  pub eq-checks : {x y : ℕ} → Valued w g eq_code x y → Checks w g (eqb x y)
  unfolding grow_at equate_at fill
  eq-checks {x} {y} v = checks v.at.at (λ c o i.
      let a = at-form i v.at.code (omega arith) (omega arith) in
      let u = a.under in
      let s = v.sides c o i a.E a.F a.is a.x-is u.left u.right (rw u.is (refl, refl)) in
      (a.is, form-tree i a ∙ rw (u.is, s.0, s.1, signed-eq x y), next-job i a u.next))

  compare-checks : {n x y : ℕ} {b : Bool} → ne_code ≤ n → n ≤ ge_code → Valued w g n x y → Tests n x y b → Checks w g b
  compare-checks {n} {x} {y} {b} low high v t = checks v.at.at (λ c o i.
      let a = at-form i v.at.code (omega arith) (omega arith) in
      let (r, code, u) = says-compared a.form.stands a.code low high in
      let s = v.sides c o i a.E a.F a.is a.x-is u.left u.right (compared-terms u.is) in
      let k : RestAt = λ s β. tree_items c.declared a.is s β in
      let e = compared-tree c.declared a.E k (site_in i.fr) i.α (signed x) (signed y) u.is s.0 s.1 in
      (a.is, form-tree i a ∙ e ∙ ap (λ d. step (check d (k (son_site (site_in i.fr))) i.α)) (sym (t r code)), next-job i a u.next))

  module _ {x y : ℕ} where
    pub ne-checks : Valued w g ne_code x y → Checks w g (not (eqb x y))
    unfolding test
    ne-checks v = compare-checks (omega arith) (omega arith) v go
      where
        go : Tests ne_code x y (not (eqb x y))
        go ne e = ap not (sym (signed-eq x y))
        go lt e = absurd (omega arith)
        go le e = absurd (omega arith)
        go gt e = absurd (omega arith)
        go ge e = absurd (omega arith)

    pub lt-checks : Valued w g lt_code x y → Checks w g (ltb x y)
    unfolding test
    lt-checks v = compare-checks (omega arith) (omega arith) v go
      where
        go : Tests lt_code x y (ltb x y)
        go ne e = absurd (omega arith)
        go lt e = sym (signed_lt x y)
        go le e = absurd (omega arith)
        go gt e = absurd (omega arith)
        go ge e = absurd (omega arith)

    pub le-checks : Valued w g le_code x y → Checks w g (leb x y)
    unfolding test
    le-checks v = compare-checks (omega arith) (omega arith) v go
      where
        go : Tests le_code x y (leb x y)
        go ne e = absurd (omega arith)
        go lt e = absurd (omega arith)
        go le e = sym (signed_le x y)
        go gt e = absurd (omega arith)
        go ge e = absurd (omega arith)

    pub gt-checks : Valued w g gt_code x y → Checks w g (ltb y x)
    unfolding test
    gt-checks v = compare-checks (omega arith) (omega arith) v go
      where
        go : Tests gt_code x y (ltb y x)
        go ne e = absurd (omega arith)
        go lt e = absurd (omega arith)
        go le e = absurd (omega arith)
        go gt e = sym (signed_lt y x)
        go ge e = absurd (omega arith)

    pub ge-checks : Valued w g ge_code x y → Checks w g (leb y x)
    unfolding test
    ge-checks v = compare-checks (omega arith) (omega arith) v go
      where
        go : Tests ge_code x y (leb y x)
        go ne e = absurd (omega arith)
        go lt e = absurd (omega arith)
        go le e = absurd (omega arith)
        go gt e = absurd (omega arith)
        go ge e = sym (signed_le y x)

no-atom : (n : ℕ) → eq_code ≤ n → n ≤ ge_code → ¬ (n ≡ eq_code) → ¬ (n ≡ ne_code) → ¬ (n ≡ lt_code) → ¬ (n ≡ le_code) → ¬ (n ≡ gt_code) → ¬ (n ≡ ge_code) → ⊥
no-atom n low high a b c d e f = omega arith

-- the code of a formula with two terms that is none of the others is that of `all`
pub all_left : (n : ℕ) → HasTerms n → ¬ (n ≡ eq_code) → ¬ (n ≡ ne_code) → ¬ (n ≡ lt_code) → ¬ (n ≡ le_code) → ¬ (n ≡ gt_code) → ¬ (n ≡ ge_code) → ¬ (n ≡ some_code) →
    n ≡ all_code
all_left n (inl h) a b c d e f s = absurd (no-atom n h.0 h.1 a b c d e f)
all_left n (inr (inl h)) a b c d e f s = absurd (s h)
all_left n (inr (inr h)) a b c d e f s = h
