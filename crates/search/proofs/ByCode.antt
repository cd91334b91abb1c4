-- The law that the formula at a token is as the token's code says, with what stands under it. Assumes nothing.
use Prim.Native.Nat.{ℕ, suc, ◌≤◌, ◌<◌}
use native.Mathlib.Omega.{arith}
use mathlib.Core.Path.{◌≡◌, refl, sym, ap, subst}
use mathlib.Core.Bool.{Bool, true, false}
use lib.Dec.{T, eqb}
use borrow.Author.Tests.{eqb-true, eq-eqb, ne_eqb}
use Rattle.specification.specs.Bytes.{pick}
use Rattle.specification.specs.Lines.{Declared}
use Rattle.specification.specs.Ast.{Rel, ne, lt, le, gt, ge, Term, Formula, truth, and, or, imp, neg, eq, compare, ex, some, all, call}
use Rattle.specification.specs.Fill.{fill_term, fill}
use Rattle.specification.specs.WellFormed.{Scope, enter, OkTerm, Ok}
use Rattle.tables.specs.Layout.{max_locals, max_nesting, token_slot}
use Rattle.tables.specs.Codes.{first_formula, all_code, true_code, and_code, or_code, imp_code, not_code, eq_code, ex_code, some_code, call_code, ne_code, ge_code}
use Rattle.sheet.specs.Tables.{Words}
use Rattle.sheet.specs.Codes.{rel_code}
use Rattle.sheet.specs.Held.{code_at, end_at, TermsAt, LocalAt, FormulaAt, height, Shallow}
use Rattle.terms.specs.Environment.{Environment, terms_of, number_of}
use Rattle.terms.proofs.Laws.Here.{term-ends}
use Rattle.tables.specs.Layout.{plan_at}
use Rattle.plan.specs.Next.{Next, token, place_of}
use Rattle.plan.specs.Planned.{TermsPlanned}
use Rattle.search.specs.Stands.{filled, Good, Stands, body_of, Binds}
use Rattle.search.proofs.Quantified.{formula-ends}
use Rattle.search.proofs.Subformulas.{TermsIn, Parts, Atom, Compared, Says}

-- ---- the scope under a binder

enter-locals : (S : Scope) (l : ℕ) → ((j : ℕ) → T (S j) → j < max_locals) → l < max_locals → (j : ℕ) → T (enter S l j) → j < max_locals
unfolding enter
enter-locals S l f h j q = go (eqb j l) refl q
  where
    go : (b : Bool) → eqb j l ≡ b → T (pick b true (S j)) → j < max_locals
    go true e x = let z : j ≡ l = eqb-true j l e in omega arith
    go false e x = f j x

module _ {D : Declared} {E : Environment} where
  -- a part in the same scope, or in that of a binder
  abbrev same-scope : {F : Formula} (g : Good D E F) (G : Formula) → Ok D g.scope (filled E G) → Shallow (number_of E) G → Good D E G
  same-scope g G o s = record { scope = g.scope; locals = g.locals; ok = o; shallow = s }

  abbrev in_scope : {F : Formula} (g : Good D E F) (l : ℕ) (G : Formula) → l < max_locals → Ok D (enter g.scope l) (filled E G) →
      Shallow (number_of E) G → Good D E G
  in_scope g l G h o s =
      record { scope = enter g.scope l; locals = enter-locals g.scope l g.locals h; ok = o; shallow = s }

enter-same : (S : Scope) (l : ℕ) → T (enter S l l)
unfolding enter
enter-same S l = rw (eq-eqb l l refl) tt

-- ---- the inversion

terms-in : {D : Declared} {t : Words} {E : Environment} {n : Next} {F : Formula} {h : ℕ} (g : Good D E F) (i e : ℕ) (x y : Term) → TermsAt t i e x y →
    OkTerm D g.scope (fill_term (terms_of E) x) → OkTerm D g.scope (fill_term (terms_of E) y) → height x ≤ max_nesting → height y ≤ max_nesting →
    TermsPlanned t (number_of E) h i x y → TermsIn D t E n g.scope h i e x y
terms-in g i e x y q ox oy hx hy p =
    record { terms = q; scope = g.scope; locals = g.locals; left = ox; right = oy; left_low = hx; right_low = hy; planned = p }

module _ {D : Declared} {t : Words} {E : Environment} {h : ℕ} where
  -- a bounded quantifier, whose formula m comes after
  abbrev binds : (l : ℕ) (a b : Term) (A : Formula) (m : Next) → LocalAt t (suc h) l → l < max_locals → TermsAt t (suc (suc h)) (body_of t h) a b →
      plan_at t (suc h) ≡ token_slot (body_of t h) → (f : Stands D t E (body_of t h) A m) → T (f.good.scope l) → Binds D t E h l A m
  binds l a b A m q s ts p f sc =
      let z = term-ends t (suc (suc h)) a ts.0 in
      let y = term-ends t (end_at t (suc (suc h))) b ts.1 in
      let x = formula-ends t (body_of t h) A f.held in
      record {
        near = omega (arith, z.after, z.inside);
        middle = omega (arith, y.after, y.inside);
        local = q;
        small = s;
        inside = omega (arith, x.after, x.inside);
        leads = p;
        body = f;
        scoped = sc;
      }

module _ {D : Declared} {t : Words} {E : Environment} {h : ℕ} {n : Next} where
  parts : {S : Scope} (A B : Formula) → FormulaAt t (suc h) A → FormulaAt t (end_at t (suc h)) B → Parts D t E n S h
  parts A B a b =
      let ea = formula-ends t (suc h) A a in
      let eb = formula-ends t (end_at t (suc h)) B b in
      record { near = omega (arith, ea.after, ea.inside); far = omega (arith, eb.after, eb.inside) }

  atom : {S : Scope} (make : Term → Term → Formula) (x y : Term) (F : Formula) → F ≡ make x y → TermsIn D t E n S h (suc h) (end_at t h) x y →
      plan_at t h ≡ place_of n → Atom D t E n S h make F
  atom make x y F e q p =
      let z = term-ends t (suc h) x q.terms.0 in
      record { left = x; right = y; is = e; terms = q; near = omega (arith, z.after, z.inside); next = p }

  says-rel : {S : Scope} (r : Rel) (F : Formula) → Atom D t E n S h (compare h r) F → Says D t E n S h (rel_code r) F
  says-rel ne F a = (ne, refl, a)
  says-rel lt F a = (lt, refl, a)
  says-rel le F a = (le, refl, a)
  says-rel gt F a = (gt, refl, a)
  says-rel ge F a = (ge, refl, a)

  code-says : (F : Formula) (s : Stands D t E h F n) → Says D t E n s.good.scope h (code_at t h) F
  unfolding Ok fill
  code-says truth s = rw s.held.code (refl, s.planned)
  code-says (and A B) s =
      let g = s.good in
      rw s.held.0.code
      (record {
        parts = parts A B s.held.1 s.held.2;
        first = A;
        second = B;
        is = refl;
        left = record { held = s.held.1; good = same-scope g A g.ok.0 g.shallow.0; planned = s.planned.0 };
        right = record { held = s.held.2; good = same-scope g B g.ok.1 g.shallow.1; planned = s.planned.1 };
        left-scope = refl;
        right-scope = refl;
      })
  code-says (or A B) s =
      let g = s.good in
      rw s.held.0.code
      (record {
        parts = parts A B s.held.1 s.held.2;
        first = A;
        second = B;
        is = refl;
        left = record { held = s.held.1; good = same-scope g A g.ok.0 g.shallow.0; planned = s.planned.1 };
        right = record { held = s.held.2; good = same-scope g B g.ok.1 g.shallow.1; planned = s.planned.2 };
        left-scope = refl;
        right-scope = refl;
        leads = s.planned.0;
      })
  code-says (imp k A B) s =
      let g = s.good in
      rw s.held.0.code
      (record {
        parts = parts A B s.held.2 s.held.3;
        first = A;
        second = B;
        is = ap (λ k. imp k A B) s.held.1;
        left = record { held = s.held.2; good = same-scope g A g.ok.0 g.shallow.0; planned = s.planned.2 };
        right = record { held = s.held.3; good = same-scope g B g.ok.1 g.shallow.1; planned = s.planned.3 };
        left-scope = refl;
        right-scope = refl;
        leads = s.planned.0;
        next = s.planned.1;
      })
  code-says (neg k A) s =
      let g = s.good in
      let z = formula-ends t (suc h) A s.held.2 in
      rw s.held.0.code
      (record {
        first = A;
        is = ap (λ k. neg k A) s.held.1;
        under = record { held = s.held.2; good = same-scope g A g.ok g.shallow; planned = s.planned.1 };
        scope = refl;
        near = omega (arith, z.after, z.inside);
        next = s.planned.0;
      })
  code-says (eq k x y) s =
      let g = s.good in
      rw s.held.0.code
      (atom (eq h) x y (eq k x y) (ap (λ k. eq k x y) s.held.1)
      (terms-in g (suc h) (end_at t h) x y s.held.2 g.ok.0 g.ok.1 g.shallow.0 g.shallow.1 s.planned.1) s.planned.0)
  code-says (compare k r x y) s =
      let g = s.good in
      subst (λ k'. Says D t E n g.scope h k' (compare k r x y)) (sym s.held.0.code)
      (says-rel r (compare k r x y)
      (atom (compare h r) x y (compare k r x y) (ap (λ k. compare k r x y) s.held.1)
      (terms-in g (suc h) (end_at t h) x y s.held.2 g.ok.0 g.ok.1 g.shallow.0 g.shallow.1 s.planned.1) s.planned.0))
  code-says (ex l A) s =
      let g = s.good in
      let z = formula-ends t (suc (suc h)) A s.held.2 in
      rw s.held.0.code
      (record {
        l = l;
        body = A;
        is = refl;
        local = s.held.1;
        small = g.shallow.0;
        under = record { held = s.held.2; good = in_scope g l A g.shallow.0 g.ok.2 g.shallow.1; planned = s.planned };
        scope = refl;
        fresh = g.ok.1;
        near = omega (arith, z.after, z.inside);
      })
  code-says (some k l a b A) s =
      let g = s.good in
      let f : Stands D t E (body_of t h) A n = record {
        held = s.held.4;
        good = in_scope g l A g.shallow.2 g.ok.4 g.shallow.3;
        planned = s.planned.2;
      } in
      rw s.held.0.code
      (record {
        l = l;
        low = a;
        high = b;
        body = A;
        is = ap (λ k. some k l a b A) s.held.1;
        binds = binds l a b A n s.held.2 g.shallow.2 s.held.3 s.planned.1 f (enter-same g.scope l);
        scope = refl;
        fresh = g.ok.3;
        terms = terms-in g (suc (suc h)) (body_of t h) a b s.held.3 g.ok.0 g.ok.1 g.shallow.0 g.shallow.1 s.planned.0;
      })
  code-says (all k l a b A) s =
      let g = s.good in
      let f : Stands D t E (body_of t h) A (token (suc h)) = record {
        held = s.held.4;
        good = in_scope g l A g.shallow.2 g.ok.4 g.shallow.3;
        planned = s.planned.3;
      } in
      rw s.held.0.code
      (record {
        l = l;
        low = a;
        high = b;
        body = A;
        is = ap (λ k. all k l a b A) s.held.1;
        binds = binds l a b A (token (suc h)) s.held.2 g.shallow.2 s.held.3 s.planned.1 f (enter-same g.scope l);
        scope = refl;
        fresh = g.ok.3;
        terms = terms-in g (suc (suc h)) (body_of t h) a b s.held.3 g.ok.0 g.ok.1 g.shallow.0 g.shallow.1 s.planned.0;
        next = s.planned.2;
      })
  code-says (call K ts A) s =
      let g = s.good in
      rw s.held.0.code
      (record {
        number = K;
        terms = ts;
        body = A;
        is = refl;
        held = record { token = s.held.1; number = s.held.2; arguments = s.held.3 };
        arguments = record { few = g.shallow.1; low = g.shallow.2; scope = g.scope; locals = g.locals; ok = g.ok.1 };
        scope = refl;
        earlier = g.shallow.0;
        called = g.ok.0;
        ok = g.ok.2;
        next = s.planned.0;
        around = s.planned.1;
        planned = s.planned.2;
      })

  -- the law for a code that is known
  pub says : {F : Formula} {k : ℕ} (s : Stands D t E h F n) → code_at t h ≡ k → Says D t E n s.good.scope h k F
  says {F} s e = subst (λ k. Says D t E n s.good.scope h k F) e (code-says F s)

  -- and for an atom that compares
  pub says-compared : {F : Formula} {k : ℕ} (s : Stands D t E h F n) → code_at t h ≡ k → ne_code ≤ k → k ≤ ge_code →
      Compared D t E n s.good.scope h k F
  says-compared {F} {k} s e a b =
      rw (
        ne_eqb k true_code (λ x. omega arith),
        ne_eqb k and_code (λ x. omega arith),
        ne_eqb k or_code (λ x. omega arith),
        ne_eqb k imp_code (λ x. omega arith),
        ne_eqb k not_code (λ x. omega arith),
        ne_eqb k eq_code (λ x. omega arith),
        ne_eqb k ex_code (λ x. omega arith),
        ne_eqb k some_code (λ x. omega arith),
        ne_eqb k all_code (λ x. omega arith),
        ne_eqb k call_code (λ x. omega arith),
      ) at (says s e)

-- ---- no other codes

rel-code : (r : Rel) → (ne_code ≤ rel_code r) × (rel_code r ≤ ge_code)
rel-code ne = (omega arith, omega arith)
rel-code lt = (omega arith, omega arith)
rel-code le = (omega arith, omega arith)
rel-code gt = (omega arith, omega arith)
rel-code ge = (omega arith, omega arith)

pub code-range : (D : Declared) (t : Words) (E : Environment) (h : ℕ) (F : Formula) (n : Next) → Stands D t E h F n →
    (first_formula ≤ code_at t h) × (code_at t h ≤ call_code)
code-range D t E h truth n s = (omega (arith, s.held.code), omega (arith, s.held.code))
code-range D t E h (and A B) n s = (omega (arith, s.held.0.code), omega (arith, s.held.0.code))
code-range D t E h (or A B) n s = (omega (arith, s.held.0.code), omega (arith, s.held.0.code))
code-range D t E h (imp k A B) n s = (omega (arith, s.held.0.code), omega (arith, s.held.0.code))
code-range D t E h (neg k A) n s = (omega (arith, s.held.0.code), omega (arith, s.held.0.code))
code-range D t E h (eq k x y) n s = (omega (arith, s.held.0.code), omega (arith, s.held.0.code))
code-range D t E h (compare k r x y) n s =
    let z = rel-code r in (omega (arith, s.held.0.code, z.0), omega (arith, s.held.0.code, z.1))
code-range D t E h (ex l A) n s = (omega (arith, s.held.0.code), omega (arith, s.held.0.code))
code-range D t E h (some k l a b A) n s = (omega (arith, s.held.0.code), omega (arith, s.held.0.code))
code-range D t E h (all k l a b A) n s = (omega (arith, s.held.0.code), omega (arith, s.held.0.code))
code-range D t E h (call K ts A) n s = (omega (arith, s.held.0.code), omega (arith, s.held.0.code))
