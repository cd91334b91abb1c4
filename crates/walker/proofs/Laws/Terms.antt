-- A formula with two terms that is entered: where its terms stand, and its tree where one of them has no value. Assumes nothing.
use Prim.Native.Nat.{ℕ, suc, ◌≤◌, ◌<◌}
use native.Mathlib.Omega.{arith}
use mathlib.Core.Path.{◌≡◌, refl, sym, ◌∙◌, subst}
use mathlib.Core.Bool.{Bool, true, false}
use mathlib.Core.List.{List, ◌∷◌}
use mathlib.Core.Logic.{◌⊎◌, inl, inr}
use lib.ListN.{get_or}
use lib.Dec.{eqb}
use borrow.Author.Tests.{eqb-true, eqb-false}
use Rattle.specification.specs.Bytes.{Bytes}
use Rattle.specification.specs.Lines.{Declared}
use Rattle.specification.specs.Ast.{Rel, Term, Formula, truth, and, or, imp, neg, eq, compare, ex, some, all, call}
use Rattle.specification.specs.Fill.{fill_term, fill}
use Rattle.specification.specs.Value.{Side, Valuation, side, faulty, pair_of}
use Rattle.specification.specs.Tree.{step, error_leaf, compared, bounded}
use Rattle.tables.specs.Layout.{token_slot, plan_at}
use Rattle.tables.specs.Codes.{eq_code, ne_code, ge_code, ex_code, some_code, all_code}
use Rattle.sheet.specs.Tables.{Words}
use Rattle.sheet.specs.Held.{end_at}
use Rattle.terms.specs.Environment.{Environment, terms_of}
use Rattle.search.specs.declared.Go.{Go}
use Rattle.search.specs.Site.{Site, RestAt, grow_at}
use Rattle.search.specs.Frame.{Item, form, the, tree_items, site_in, store_in}
use Rattle.search.specs.Stands.{filled}
use Rattle.search.specs.Path.{World}
use Rattle.search.specs.Sim.{tree, In}
use Rattle.search.specs.Steps.{Entered, TermsOf, HasTerms}
use Rattle.search.proofs.Subformulas.{TermsIn}
use Rattle.search.proofs.ByCode.{says-compared}
use Rattle.search.proofs.Heads.{FormHead, at-form, form-tree}

-- ---- the formula, by what its terms are

-- they have not both values
abbrev pub Pairs : Declared → Environment → Valuation → Term → Term → ℕ → Type 0
Pairs D E α s t κ = pair_of (side D α (fill_term (terms_of E) s)) (side D α (fill_term (terms_of E) t)) ≡ faulty κ

module _ (D : Declared) (E : Environment) (k : RestAt) (u : Site) (α : Valuation) (s t : Term) where
  -- an error leaf
  abbrev Faults : Formula → ℕ → Type 0
  Faults F h = (κ : ℕ) → Pairs D E α s t κ → grow_at D (filled E F) k u α ≡ step (error_leaf κ h α)

  compare-faults : {F : Formula} {h : ℕ} {r : Rel} → F ≡ compare h r s t → Faults F h
  unfolding grow_at compared fill
  compare-faults e κ p = rw (e, p)

  some-faults : {F G : Formula} {h l : ℕ} → F ≡ some h l s t G → Faults F h
  unfolding grow_at bounded fill
  some-faults e κ p = rw (e, p)

  all-faults : {F G : Formula} {h l : ℕ} → F ≡ all h l s t G → Faults F h
  unfolding grow_at bounded fill
  all-faults e κ p = rw (e, p)

module _ {F : Formula} {h : ℕ} {s t : Term} where
  pub terms-eq : F ≡ eq h s t → TermsOf F s t
  terms-eq e = rw e (refl, refl)

  terms-compare : {r : Rel} → F ≡ compare h r s t → TermsOf F s t
  terms-compare e = rw e (refl, refl)

  terms-some : {l : ℕ} {G : Formula} → F ≡ some h l s t G → TermsOf F s t
  terms-some e = rw e (refl, refl)

  terms-all : {l : ℕ} {G : Formula} → F ≡ all h l s t G → TermsOf F s t
  terms-all e = rw e (refl, refl)

-- ---- at a node

-- the tokens of the terms, by the code n of the formula's token h
abbrev pub Spans : Words → ℕ → ℕ → ℕ → ℕ → Type 0
Spans t n h first end =
    ((n < ex_code) × (first ≡ suc h) × (end ≡ end_at t h)) ⊎ ((ex_code ≤ n) × (first ≡ suc (suc h)) × (plan_at t (suc h) ≡ token_slot end))

module _ {c : World} {b : Bytes} {w : Words} {g : Go} (i : In c b w g) where
  pub record TermsHere (n : ℕ) : Type 0 where
    pub E : Environment
    pub F : Formula
    pub is : List Item
    pub x-is : i.x ≡ the (form E F ∷ is)
    pub form : FormHead c (store_in i.fr) i.α g.due E F is
    pub left : Term
    pub right : Term
    pub terms-of : TermsOf F left right
    pub first : ℕ
    pub end : ℕ
    pub spans : Spans c.tables n form.h first end
    pub terms : TermsIn c.declared c.tables E form.n form.stands.good.scope form.h first end left right
    pub faults : ¬ (n ≡ eq_code) → (κ : ℕ) → Pairs c.declared E i.α left right κ → tree c i.fr i.x i.α ≡ step (error_leaf κ form.h i.α)

  eq-here : {n : ℕ} → get_or w g.due 0 ≡ n → n ≡ eq_code → TermsHere n
  eq-here {n} e z =
      let a = at-form i (e ∙ z) (omega arith) (omega arith) in
      let u = a.under in
      record {
        E = a.E;
        F = a.F;
        is = a.is;
        x-is = a.x-is;
        form = a.form;
        left = u.left;
        right = u.right;
        terms-of = terms-eq u.is;
        first = _;
        end = _;
        spans = inl (omega arith, refl, refl);
        terms = u.terms;
        faults = λ m. absurd (m z);
      }

  compare-here : {n : ℕ} → get_or w g.due 0 ≡ n → ne_code ≤ n → n ≤ ge_code → TermsHere n
  compare-here {n} e low high =
      let a = at-form i e (omega arith) (omega arith) in
      let (r, code, u) = says-compared a.form.stands a.code low high in
      let k : RestAt = λ s β. tree_items c.declared a.is s β in
      record {
        E = a.E;
        F = a.F;
        is = a.is;
        x-is = a.x-is;
        form = a.form;
        left = u.left;
        right = u.right;
        terms-of = terms-compare u.is;
        first = _;
        end = _;
        spans = inl (omega arith, refl, refl);
        terms = u.terms;
        faults = λ m κ p. form-tree i a ∙ compare-faults c.declared a.E k (site_in i.fr) i.α u.left u.right u.is κ p;
      }

  some-here : {n : ℕ} → get_or w g.due 0 ≡ n → n ≡ some_code → TermsHere n
  some-here {n} e z =
      let a = at-form i (e ∙ z) (omega arith) (omega arith) in
      let u = a.under in
      let k : RestAt = λ s β. tree_items c.declared a.is s β in
      record {
        E = a.E;
        F = a.F;
        is = a.is;
        x-is = a.x-is;
        form = a.form;
        left = u.low;
        right = u.high;
        terms-of = terms-some u.is;
        first = _;
        end = _;
        spans = inr (omega arith, refl, u.binds.leads);
        terms = u.terms;
        faults = λ m κ p. form-tree i a ∙ some-faults c.declared a.E k (site_in i.fr) i.α u.low u.high u.is κ p;
      }

  all_here : {n : ℕ} → get_or w g.due 0 ≡ n → n ≡ all_code → TermsHere n
  all_here {n} e z =
      let a = at-form i (e ∙ z) (omega arith) (omega arith) in
      let u = a.under in
      let k : RestAt = λ s β. tree_items c.declared a.is s β in
      record {
        E = a.E;
        F = a.F;
        is = a.is;
        x-is = a.x-is;
        form = a.form;
        left = u.low;
        right = u.high;
        terms-of = terms-all u.is;
        first = _;
        end = _;
        spans = inr (omega arith, refl, u.binds.leads);
        terms = u.terms;
        faults = λ m κ p. form-tree i a ∙ all-faults c.declared a.E k (site_in i.fr) i.α u.low u.high u.is κ p;
      }

  pub terms-here : {n : ℕ} → get_or w g.due 0 ≡ n → HasTerms n → TermsHere n
  terms-here {n} e (inr (inl z)) = some-here e z
  terms-here {n} e (inr (inr z)) = all_here e z
  terms-here {n} e (inl h) = by (eqb n eq_code) refl
    where
      by : (d : Bool) → eqb n eq_code ≡ d → TermsHere n
      by true z = eq-here e (eqb-true n eq_code z)
      by false z = compare-here e (let m = eqb-false n eq_code z in omega (arith, h.0)) h.1

-- ---- no others

terms-same : (F : Formula) {s t s' t' : Term} → TermsOf F s t → TermsOf F s' t' → (s ≡ s') × (t ≡ t')
terms-same truth p q = absurd p
terms-same (and F G) p q = absurd p
terms-same (or F G) p q = absurd p
terms-same (imp n F G) p q = absurd p
terms-same (neg n F) p q = absurd p
terms-same (eq n a b) p q = (sym p.0 ∙ q.0, sym p.1 ∙ q.1)
terms-same (compare n r a b) p q = (sym p.0 ∙ q.0, sym p.1 ∙ q.1)
terms-same (ex l F) p q = absurd p
terms-same (some n l a b F) p q = (sym p.0 ∙ q.0, sym p.1 ∙ q.1)
terms-same (all n l a b F) p q = (sym p.0 ∙ q.0, sym p.1 ∙ q.1)
terms-same (call K ts F) p q = absurd p

form-same : {E E' : Environment} {F F' : Formula} {is is' : List Item} → the (form E F ∷ is) ≡ the (form E' F' ∷ is') → (E ≡ E') × (F ≡ F')
form-same e = (cc, cc)

-- so what holds of these terms holds of all that stand there
module _ {w : Words} {g : Go} {n : ℕ} (x : Entered w g n) (h : HasTerms n) where
  abbrev pub Each : (Side → Side → Type 0) → Type 0
  Each P =
      (c : World) (b : Bytes) (i : In c b w g) (E : Environment) (F : Formula) (is : List Item) → i.x ≡ the (form E F ∷ is) → (s t : Term) → TermsOf F s t →
      P (side c.declared i.α (fill_term (terms_of E) s)) (side c.declared i.α (fill_term (terms_of E) t))

  pub each : (P : Side → Side → Type 0) →
      ((c : World) (b : Bytes) (i : In c b w g) (a : TermsHere i n) →
      P (side c.declared i.α (fill_term (terms_of a.E) a.left)) (side c.declared i.α (fill_term (terms_of a.E) a.right))) →
      Each P
  each P f c b i E F is e s t q =
      let a = terms-here i x.code h in
      let same = form-same (sym e ∙ a.x-is) in
      let (es, et) = terms-same a.F (subst (λ G. TermsOf G s t) same.1 q) a.terms-of in
      rw (same.0, es, et) (f c b i a)
