-- Formulas with terms in place of their parameters: what they bind, filling twice, and that a procedure's formula is well scoped wherever it
-- is called. Assumes nothing.
use Prim.Native.Nat.{ℕ, zero, suc, ◌<◌}
use native.Mathlib.Omega.{arith}
use mathlib.Core.Path.{◌≡◌, refl, sym, ◌∙◌, ap, ap₂}
use mathlib.Core.Bool.{Bool, true, false, not, ◌||◌}
use mathlib.Core.List.{List, [], ◌∷◌}
use lib.ListN.{length, get_or, take, length-take}
use lib.Dec.{T, T_not, not_T, eqb}
use Rattle.specification.specs.Lists.{Each}
use Rattle.specification.specs.Bytes.{pick}
use Rattle.specification.specs.Lines.{Declared, procedure_of}
use Rattle.specification.specs.Ast.{Term, constant, scalar_at, local_at, parameter, element_at, apply, Formula, truth, and, or, imp, neg, eq, compare, ex, some, all, call}
use Rattle.specification.specs.Fill.{fill_term, fill_terms, fill}
use Rattle.specification.specs.Outside.{binds}
use Rattle.specification.specs.WellFormed.{Scope, nowhere, enter, OkTerm, Called, Ok, line_of, OkProcedures}
use Rattle.specification.proofs.Laws.Outside.{Within, and-within, or-within, imp-within, ex-within, some-within, all-within}

-- ---- lists

pub length-fill : (ts us : List Term) → length (fill_terms ts us) ≡ length us
unfolding fill_terms
length-fill ts [] = refl
length-fill ts (u ∷ us) = ap suc (length-fill ts us)

-- the n-th of terms that are filled
pub fill-at : (ts us : List Term) (n : ℕ) (d e : Term) → n < length us → get_or (fill_terms ts us) n d ≡ fill_term ts (get_or us n e)
unfolding fill_terms
fill-at ts [] n d e h = absurd (omega arith)
fill-at ts (u ∷ us) zero d e h = refl
fill-at ts (u ∷ us) (suc n) d e h = fill-at ts us n d e (omega arith)

pub each_at : {A : Type 0} (P : A → Type 0) (xs : List A) (n : ℕ) (d : A) → n < length xs → Each P xs → P (get_or xs n d)
unfolding Each
each_at P [] n d h e = absurd (omega arith)
each_at P (x ∷ xs) zero d h e = e.0
each_at P (x ∷ xs) (suc n) d h e = each_at P xs n d (omega arith) e.1

pub each-fill : (P Q : Term → Type 0) (ts us : List Term) → ((u : Term) → P u → Q (fill_term ts u)) → Each P us → Each Q (fill_terms ts us)
unfolding fill_terms Each
each-fill P Q ts [] f e = tt
each-fill P Q ts (u ∷ us) f e = (f u e.0, each-fill P Q ts us f e.1)

pub get_d_take : {A : Type 0} (k n : ℕ) (xs : List A) (d : A) → n < k → get_or (take k xs) n d ≡ get_or xs n d
get_d_take zero n xs d h = absurd (omega arith)
get_d_take (suc k) n [] d h = refl
get_d_take (suc k) zero (x ∷ xs) d h = refl
get_d_take (suc k) (suc n) (x ∷ xs) d h = get_d_take k n xs d (omega arith)

-- ---- what a filled formula binds

pub fill-binds : (ts : List Term) (F : Formula) (l : ℕ) → binds (fill ts F) l ≡ binds F l
unfolding fill binds
fill-binds ts truth l = refl
fill-binds ts (and F G) l = ap₂ ◌||◌ (fill-binds ts F l) (fill-binds ts G l)
fill-binds ts (or F G) l = ap₂ ◌||◌ (fill-binds ts F l) (fill-binds ts G l)
fill-binds ts (imp tok F G) l = ap₂ ◌||◌ (fill-binds ts F l) (fill-binds ts G l)
fill-binds ts (neg tok F) l = fill-binds ts F l
fill-binds ts (eq tok s t) l = refl
fill-binds ts (compare tok r s t) l = refl
fill-binds ts (ex j F) l = ap (λ b. eqb l j || b) (fill-binds ts F l)
fill-binds ts (some tok j a b F) l = ap (λ b. eqb l j || b) (fill-binds ts F l)
fill-binds ts (all tok j a b F) l = ap (λ b. eqb l j || b) (fill-binds ts F l)
fill-binds ts (call K us F) l = fill-binds ts F l

-- ---- filling twice, where each parameter has its term

module _ (D : Declared) (ts us : List Term) (count : D.parameters ≡ length us) where
  abbrev vs : List Term
  vs = fill_terms ts us

  term-twice : (S : Scope) (t : Term) → OkTerm D S t → fill_term ts (fill_term us t) ≡ fill_term vs t
  unfolding fill_term OkTerm
  term-twice S (constant z) o = refl
  term-twice S (scalar_at c) o = refl
  term-twice S (local_at l) o = refl
  term-twice S (parameter n) o = sym (fill-at ts us n (parameter n) (parameter n) (omega (arith, count, o)))
  term-twice S (element_at a t) o = ap (element_at a) (term-twice S t o.1)
  term-twice S (apply p s t) o = ap₂ (apply p) (term-twice S s o.0) (term-twice S t o.1)

  terms-twice : (S : Scope) (ws : List Term) → Each (OkTerm D S) ws → fill_terms ts (fill_terms us ws) ≡ fill_terms vs ws
  unfolding fill_terms Each
  terms-twice S [] o = refl
  terms-twice S (w ∷ ws) o = ap₂ ◌∷◌ (term-twice S w o.0) (terms-twice S ws o.1)

  pub fill-fill : (S : Scope) (F : Formula) → Ok D S F → fill ts (fill us F) ≡ fill vs F
  unfolding fill Ok
  fill-fill S truth o = refl
  fill-fill S (and F G) o = ap₂ and (fill-fill S F o.0) (fill-fill S G o.1)
  fill-fill S (or F G) o = ap₂ or (fill-fill S F o.0) (fill-fill S G o.1)
  fill-fill S (imp tok F G) o = ap₂ (imp tok) (fill-fill S F o.0) (fill-fill S G o.1)
  fill-fill S (neg tok F) o = ap (neg tok) (fill-fill S F o)
  fill-fill S (eq tok s t) o = ap₂ (eq tok) (term-twice S s o.0) (term-twice S t o.1)
  fill-fill S (compare tok r s t) o = ap₂ (compare tok r) (term-twice S s o.0) (term-twice S t o.1)
  fill-fill S (ex l F) o = ap (ex l) (fill-fill (enter S l) F o.2)
  fill-fill S (some tok l a b F) o =
      rw (term-twice S a o.0, term-twice S b o.1, fill-fill (enter S l) F o.4)
  fill-fill S (all tok l a b F) o =
      rw (term-twice S a o.0, term-twice S b o.1, fill-fill (enter S l) F o.4)
  fill-fill S (call K ws F) o = ap₂ (call K) (terms-twice S ws o.1) (fill-fill S F o.2)

-- ---- a term in a larger scope

abbrev pub Larger : Scope → Scope → Type 0
Larger A S = (l : ℕ) → T (A l) → T (S l)

pub larger-enter : (A S : Scope) (l : ℕ) → Larger A S → Larger (enter A l) (enter S l)
unfolding enter
larger-enter A S l h j t = go (eqb j l) t
  where
    go : (b : Bool) → T (pick b true (A j)) → T (pick b true (S j))
    go true t = tt
    go false t = h j t

pub larger-more : (A S : Scope) (l : ℕ) → Larger A S → Larger A (enter S l)
unfolding enter
larger-more A S l h j t = go (eqb j l)
  where
    go : (b : Bool) → T (pick b true (S j))
    go true = tt
    go false = h j t

module _ (D : Declared) (A S : Scope) (h : Larger A S) where
  pub ok-term-larger : (t : Term) → OkTerm D A t → OkTerm D S t
  unfolding OkTerm
  ok-term-larger (constant z) o = o
  ok-term-larger (scalar_at c) o = o
  ok-term-larger (local_at l) o = h l o
  ok-term-larger (parameter n) o = o
  ok-term-larger (element_at a t) o = (o.0, ok-term-larger t o.1)
  ok-term-larger (apply p s t) o = (ok-term-larger s o.0, ok-term-larger t o.1)

-- ---- a procedure's formula where it is called

-- the locals of S beside those of R are not bound in F
abbrev pub Apart : Scope → Scope → Formula → Type 0
Apart R S F = (l : ℕ) → T (binds F l) → T (S l) → T (R l)

apart-within : (R S : Scope) (F G : Formula) → Within F G → Apart R S F → Apart R S G
apart-within R S F G w h l b = h l (w l b)

apart-enter : (R S : Scope) (j : ℕ) (F : Formula) → Apart R S F → Apart (enter R j) (enter S j) F
unfolding enter
apart-enter R S j F h l b t = go (eqb l j) t
  where
    go : (c : Bool) → T (pick c true (S l)) → T (pick c true (R l))
    go true t = tt
    go false t = h l b t

-- what is not bound around the one is not bound around the other
fresh-apart : (R S : Scope) (F : Formula) (l : ℕ) → Apart R S F → T (binds F l) → T (not (R l)) → T (not (S l))
fresh-apart R S F l h b n = not_T (S l) (λ t. T_not (R l) n (h l b t))

-- in D, a formula of the line of procedure K, with terms that are well scoped in A for its parameters
module _ (D : Declared) (procedures : OkProcedures D) (K : ℕ) (ts : List Term) (count : length ts ≡ (procedure_of D K).parameters)
    (A : Scope) (given : Each (OkTerm D A) ts) where
  abbrev L : Declared
  L = line_of D K

  ok-fill-term : (R S : Scope) → Larger R S → Larger A S → (t : Term) → OkTerm L R t → OkTerm D S (fill_term ts t)
  unfolding fill_term OkTerm
  ok-fill-term R S h a (constant z) o = o
  ok-fill-term R S h a (scalar_at c) o = o
  ok-fill-term R S h a (local_at l) o = h l o
  ok-fill-term R S h a (parameter n) o =
      ok-term-larger D A S a (get_or ts n (parameter n)) (each_at (OkTerm D A) ts n (parameter n) (omega (arith, count, o)) given)
  ok-fill-term R S h a (element_at b t) o = (o.0, ok-fill-term R S h a t o.1)
  ok-fill-term R S h a (apply p s t) o = (ok-fill-term R S h a s o.0, ok-fill-term R S h a t o.1)

  called-fill : (J : ℕ) (us : List Term) (F : Formula) → Called L J us F → Called D J (fill_terms ts us) (fill ts F)
  called-fill J us F c =
      let short = length-take K D.procedures in
      let low : J < K = omega (arith, short, c.earlier) in
      let earlier : J < length D.procedures = omega (arith, short, c.earlier) in
      let same : procedure_of L J ≡ procedure_of D J = get_d_take K J D.procedures _ low in
      let many : (procedure_of D J).parameters ≡ length us = sym (c.count ∙ ap (λ P. P.parameters) same) in
      record {
        earlier = earlier;
        count = length-fill ts us ∙ sym many;
        filled =
            ap (fill ts) (c.filled ∙ ap (λ P. fill us P.formula) same) ∙
            fill-fill (line_of D J) ts us many nowhere (procedure_of D J).formula (procedures J earlier);
      }

  pub ok-fill : (R S : Scope) (F : Formula) → Ok L R F → Larger R S → Larger A S → Apart R S F → Ok D S (fill ts F)
  unfolding fill Ok binds
  ok-fill R S truth o h a p = tt
  ok-fill R S (and F G) o h a p =
      let w = and-within F G in
      (ok-fill R S F o.0 h a (apart-within R S (and F G) F w.0 p), ok-fill R S G o.1 h a (apart-within R S (and F G) G w.1 p))
  ok-fill R S (or F G) o h a p =
      let w = or-within F G in
      (ok-fill R S F o.0 h a (apart-within R S (or F G) F w.0 p), ok-fill R S G o.1 h a (apart-within R S (or F G) G w.1 p))
  ok-fill R S (imp tok F G) o h a p =
      let w = imp-within tok F G in
      (ok-fill R S F o.0 h a (apart-within R S (imp tok F G) F w.0 p), ok-fill R S G o.1 h a (apart-within R S (imp tok F G) G w.1 p))
  ok-fill R S (neg tok F) o h a p = ok-fill R S F o h a p
  ok-fill R S (eq tok s t) o h a p = (ok-fill-term R S h a s o.0, ok-fill-term R S h a t o.1)
  ok-fill R S (compare tok r s t) o h a p = (ok-fill-term R S h a s o.0, ok-fill-term R S h a t o.1)
  ok-fill R S (ex l F) o h a p =
      let w = ex-within l F in
      (o.0, fresh-apart R S (ex l F) l p w.0 o.1, ok-fill (enter R l) (enter S l) F o.2 (larger-enter R S l h) (larger-more A S l a) (apart-enter R S l F (apart-within R S (ex l F) F w.1 p)))
  ok-fill R S (some tok l x y F) o h a p =
      let w = some-within tok l x y F in (
        ok-fill-term R S h a x o.0,
        ok-fill-term R S h a y o.1,
        o.2,
        fresh-apart R S (some tok l x y F) l p w.0 o.3,
        ok-fill (enter R l) (enter S l) F o.4 (larger-enter R S l h) (larger-more A S l a) (apart-enter R S l F (apart-within R S (some tok l x y F) F w.1 p)),
      )
  ok-fill R S (all tok l x y F) o h a p =
      let w = all-within tok l x y F in (
        ok-fill-term R S h a x o.0,
        ok-fill-term R S h a y o.1,
        o.2,
        fresh-apart R S (all tok l x y F) l p w.0 o.3,
        ok-fill (enter R l) (enter S l) F o.4 (larger-enter R S l h) (larger-more A S l a) (apart-enter R S l F (apart-within R S (all tok l x y F) F w.1 p)),
      )
  ok-fill R S (call J us F) o h a p = (
    called-fill J us F o.0,
    each-fill (OkTerm L R) (OkTerm D S) ts us (λ u e. ok-fill-term R S h a u e) o.1,
    ok-fill R S F o.2 h a p,
  )
