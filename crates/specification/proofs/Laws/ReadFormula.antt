-- A formula that is read is well scoped: its terms are, each binder's local is declared and not bound around it, and a call has the formula of
-- an earlier procedure, well scoped where it is called, since no local has a binder in two lines. Assumes nothing.
use Prim.Native.Nat.{ℕ, zero, suc, ◌<◌}
use mathlib.Core.Path.{◌≡◌, refl, sym, ap, subst}
use mathlib.Core.Bool.{Bool, true, false, not, ◌&&◌, ◌||◌}
use mathlib.Core.List.{List, [], ◌∷◌}
use mathlib.Core.Logic.{⊎_elim}
use lib.ListN.{length}
use lib.Dec.{T, ltb, eqb, eqb_refl}
use borrow.Author.Tests.{ltb-true}
use mir.Facts.{or_yes, eqb_yes}
use Rattle.specification.specs.Lists.{Each}
use Rattle.specification.specs.Parser.{Reader, Read, Parser, give, ◌>>=◌, ◌>>◌}
use Rattle.specification.specs.Lines.{Declared, procedure_of}
use Rattle.specification.specs.Ast.{Term, Formula, and, or, imp, eq, compare, ex, some, all, call}
use Rattle.specification.specs.Fill.{fill}
use Rattle.specification.specs.Words.{FormulaWord, true_word, and_word, or_word, imp_word, not_word, eq_word, ex_word, some_word, all_word, call_word, rel_word, TermWord, constant_word, scalar_word, local_word, array_word, parameter_word, op_word, Word, formula_word, term_word, number_word, unknown, word_of, number_of}
use Rattle.specification.specs.Formula.{Token, operand, Locals, has, bind, binder_of, binder_with, binder, procedure_with, procedure, term, arguments, empty_range, non_empty, formula_of, formula_with, formula}
use Rattle.specification.specs.Outside.{binds}
use Rattle.specification.specs.WellFormed.{nowhere, enter, OkTerm, Ok, OkProcedures}
use Rattle.specification.proofs.Laws.Contradiction.{contradiction}
use Rattle.specification.proofs.Laws.Parser.{T_true, false-T, Post, refusal, holds, bind-post, require-post, pick_post}
use Rattle.specification.proofs.Laws.Fill.{fill-binds, ok-fill}
use Rattle.specification.proofs.Laws.ReadWords.{word_ok, number_ok}
use Rattle.specification.proofs.Laws.ReadTerm.{scope, scope-enter, Sub, sub-less, sub-both, fresh, Scoped, token-post, operand-post, term-post}

-- ---- binders

module _ (D : Declared) (S : Locals) where
  -- a binder's local is declared, is not in scope before, and has a binder after
  abbrev Binds : ℕ → Reader → Type 0
  Binds l r = (l < D.locals) × (has l S ≡ false) × Sub (l ∷ S) r.bound

  bind-local : (p l : ℕ) (r : Reader) → l < D.locals → Sub S r.bound → Post Binds (bind p l r)
  bind-local p l r d s =
      pick_post (has l r.bound) _ _ (λ e. refusal tt) (λ e. holds (d, fresh S r.bound l s e, sub-both S r.bound l s))

  binder-of : (p : ℕ) (w : TermWord) (r : Reader) → Sub S r.bound → Post Binds (binder_of D p w r)
  binder-of p (local_word l) r s = require-post (ltb l D.locals) _ _ _ _ tt λ e. bind-local p l r (ltb-true l D.locals e) s
  binder-of p (constant_word z) r s = refusal tt
  binder-of p (scalar_word n) r s = refusal tt
  binder-of p (array_word a) r s = refusal tt
  binder-of p (parameter_word n) r s = refusal tt
  binder-of p (op_word o) r s = refusal tt

  binder-with : (t : Token) (w : Word) (r : Reader) → Sub S r.bound → Post Binds (binder_with D t w r)
  binder-with t (term_word w) r s = binder-of t.place w r s
  binder-with t (formula_word w) r s = refusal tt
  binder-with t (number_word n) r s = refusal tt
  binder-with t unknown r s = refusal tt

  binder-post : (k : ℕ) (r : Reader) → Sub S r.bound → Post Binds (binder D k r)
  unfolding binder
  binder-post zero r s = refusal tt
  binder-post (suc k) r s =
      bind-post (token-post S (word_of D.edition) (word_ok D.edition) r s) λ t r₁ h. binder-with t t.word r₁ h.1

-- ---- the procedure of a call, and its arguments

module _ (D : Declared) (R : Locals) where
  abbrev Earlier : ℕ → Type 0
  Earlier K = K < length D.procedures

  procedure-with : (t : Token) (w : Word) (r : Reader) → Sub R r.bound → Post (Scoped R Earlier) (procedure_with D t w r)
  procedure-with t (number_word K) r s =
      require-post (ltb K (length D.procedures)) _ _ _ _ tt λ e. holds (ltb-true K (length D.procedures) e, s)
  procedure-with t (formula_word w) r s = refusal tt
  procedure-with t (term_word w) r s = refusal tt
  procedure-with t unknown r s = refusal tt

  procedure-post : (k : ℕ) (r : Reader) → Sub R r.bound → Post (Scoped R Earlier) (procedure D k r)
  unfolding procedure
  procedure-post zero r s = refusal tt
  procedure-post (suc k) r s = bind-post (token-post R number_of number_ok r s) λ t r₁ h. procedure-with t t.word r₁ h.1

  module _ (S : Locals) (k : ℕ) where
    -- n of them
    abbrev Arguments : ℕ → List Term → Type 0
    Arguments n ts = (length ts ≡ n) × Each (OkTerm D (scope S)) ts

    arguments-post : (n : ℕ) (r : Reader) → Sub R r.bound → Post (Scoped R (Arguments n)) (arguments D (term D k S) n r)
    unfolding arguments Each
    arguments-post zero r s = holds ((refl, tt), s)
    arguments-post (suc n) r s =
        bind-post (operand-post R (term D k S) (term-post D S R k) r s) λ t r₁ h₁.
        bind-post (arguments-post n r₁ h₁.1) λ ts r₂ h₂.
        holds ((ap suc h₂.0.0, (h₁.0, h₂.0.1)), h₂.1)

-- ---- what is known where a line begins

sub_trans : (A B C : Locals) → Sub A B → Sub B C → Sub A C
sub_trans A B C f g j h = g j (f j h)

-- the locals that F binds have binders
abbrev pub Bounds : Formula → Locals → Type 0
Bounds F B = (l : ℕ) → T (binds F l) → has l B ≡ true

-- the procedures of the lines before are well scoped, and the locals of B have their binders
pub record Known (D : Declared) (B : Locals) : Type 0 where
  pub scoped : OkProcedures D
  pub binders : (K : ℕ) → K < length D.procedures → Bounds (procedure_of D K).formula B

-- ---- formulas

module _ (D : Declared) (B : Locals) (known : Known D B) where
  abbrev FormulaIn : Locals → Formula → Type 0
  FormulaIn S = Ok D (scope S)

  -- where a formula is read in the scope S: the locals in scope have binders, in this line
  record Around (S : Locals) (r : Reader) : Type 0 where
    inside : Sub S r.bound
    before : Sub B r.bound
    apart : (l : ℕ) → has l S ≡ true → has l B ≡ false

  around-more : {S : Locals} {r r' : Reader} → Around S r → Sub r.bound r'.bound → Around S r'
  around-more {S} {r} {r'} a m = record {
    inside = sub_trans S r.bound r'.bound a.inside m;
    before = sub_trans B r.bound r'.bound a.before m;
    apart = a.apart;
  }

  -- and what is read from r on
  pub record FormulaRead (S : Locals) (r : Reader) (F : Formula) (r' : Reader) : Type 0 where
    pub ok : FormulaIn S F
    pub binders : Bounds F r'.bound
    pub more : Sub r.bound r'.bound

  -- from an earlier place on
  post-more : {S : Locals} {r₁ : Reader} {x : Read Formula} (r : Reader) → Sub r.bound r₁.bound → Post (FormulaRead S r₁) x → Post (FormulaRead S r) x
  post-more r s (refusal h) = refusal tt
  post-more {r₁ = r₁} r s (holds {r = r₂} h) =
      holds (record { ok = h.ok; binders = h.binders; more = sub_trans r.bound r₁.bound r₂.bound s h.more })

  -- the formula under a binder of l
  leave : (S : Locals) (l : ℕ) (F : Formula) → FormulaIn (l ∷ S) F → Ok D (enter (scope S) l) F
  leave S l F h = subst (λ σ. Ok D σ F) (sym (scope-enter S l)) h

  -- below a binder of l that was read from r on, after more was read
  around-bound : {S : Locals} {r r' : Reader} (l : ℕ) → Around S r → has l r.bound ≡ false → Sub (l ∷ r.bound) r'.bound →
      Around (l ∷ S) r'
  unfolding has
  around-bound {S} {r} {r'} l a n m = record {
    inside = λ j h. m j (sub-both S r.bound l a.inside j h);
    before = sub_trans B r.bound r'.bound a.before (sub-less r.bound r'.bound l m);
    apart = λ j h. go j (eqb j l) (λ e. eqb_yes e) h;
  }
    where
      go : (j : ℕ) (b : Bool) → (T b → j ≡ l) → b || has j S ≡ true → has j B ≡ false
      go j true e h = subst (λ (i : ℕ). has i B ≡ false) (sym (e tt)) (fresh B r.bound l a.before n)
      go j false e h = a.apart j h

  -- the binder's local and the locals that its formula binds
  bounds-under : (l : ℕ) (F : Formula) (R : Locals) → has l R ≡ true → Bounds F R → (j : ℕ) → T (eqb j l || binds F j) → has j R ≡ true
  bounds-under l F R h b j t =
      ⊎_elim (λ e. subst (λ (i : ℕ). has i R ≡ true) (sym (eqb_yes e)) h) (b j) (or_yes (eqb j l) (binds F j) t)

  has_first : (l : ℕ) (R : Locals) → has l (l ∷ R) ≡ true
  unfolding has
  has_first l R = go (eqb l l) (eqb_refl l)
    where
      go : (b : Bool) → T b → b || has l R ≡ true
      go true t = refl
      go false t = absurd t

  -- H, a binder of l over the formula f, where more was read between the two
  bound-read : {S : Locals} {r r₁ r₂ : Reader} (l : ℕ) (f H : Formula) → Around S r → has l r.bound ≡ false → Sub (l ∷ r.bound) r₁.bound →
      FormulaRead (l ∷ S) r₁ f r₂ → (T (not (has l S)) → Ok D (enter (scope S) l) f → FormulaIn S H) →
      ((j : ℕ) → T (binds H j) → T (eqb j l || binds f j)) → FormulaRead S r H r₂
  bound-read {S} {r} {r₁} {r₂} l f H a n m h ok parts =
      let s : Sub (l ∷ r.bound) r₂.bound = sub_trans (l ∷ r.bound) r₁.bound r₂.bound m h.more in
      record {
        ok = ok (false-T (has l S) (fresh S r.bound l a.inside n)) (leave S l f h.ok);
        binders = λ j b. bounds-under l f r₂.bound (s l (has_first l r.bound)) h.binders j (parts j b);
        more = sub-less r.bound r₂.bound l s;
      }

  -- a call of procedure J
  call-read : {S : Locals} {r r' : Reader} (J : ℕ) (ts : List Term) → J < length D.procedures → length ts ≡ (procedure_of D J).parameters →
      Each (OkTerm D (scope S)) ts → Around S r → Sub r.bound r'.bound →
      FormulaRead S r (call J ts (fill ts (procedure_of D J).formula)) r'
  unfolding Ok binds
  call-read {S} {r} {r'} J ts early count each a m =
      let G : Formula = (procedure_of D J).formula in
      let b = known.binders J early in
      record {
        ok = (
          record { earlier = early; count = count; filled = refl },
          each,
          ok-fill D known.scoped J ts count (scope S) each nowhere (scope S) G (known.scoped J early) (λ l t. absurd t) (λ l t. t)
              (λ l c t. let e = a.apart l (T_true (has l S) t) in let f = b l c in contradiction cc),
        );
        binders = λ l c. m l (a.before l (b l (subst T (fill-binds ts G l) c)));
        more = m;
      }

  -- a formula whose operands are nested at most k deep
  module _ (refusing : Bool) (k : ℕ)
      (ih : (S : Locals) (r : Reader) → Around S r → Post (FormulaRead S r) (formula refusing D k S r)) (S : Locals) where
    abbrev F : Locals → Parser Formula
    F S' r = formula refusing D k S' r

    abbrev T' : Parser Term
    T' r = term D k S r

    abbrev L : Parser ℕ
    L r = binder D k r

    abbrev K : Parser ℕ
    K r = procedure D k r

    sub_refl : (R : Locals) → Sub R R
    sub_refl R j h = h

    -- a formula after its space
    sub-formula : (S' : Locals) (r : Reader) → Around S' r → Post (FormulaRead S' r) (operand (F S') r)
    sub-formula S' r a =
        operand-post r.bound (F S') (λ r₁ s₁. post-more r s₁ (ih S' r₁ (around-more a s₁))) r (sub_refl r.bound)

    two-formulas : (g : Formula → Formula → Formula) → ((G H : Formula) → FormulaIn S G → FormulaIn S H → FormulaIn S (g G H)) →
        ((G H : Formula) (l : ℕ) → T (binds (g G H) l) → T (binds G l || binds H l)) →
        (r : Reader) → Around S r → Post (FormulaRead S r) ((operand (F S) >>= λ f. operand (F S) >>= λ h. give (g f h)) r)
    two-formulas g ok parts r a =
        bind-post (sub-formula S r a) λ f r₁ h₁.
        bind-post (sub-formula S r₁ (around-more a h₁.more)) λ h r₂ h₂.
        holds (record {
          ok = ok f h h₁.ok h₂.ok;
          binders = λ l b. ⊎_elim (λ c. h₂.more l (h₁.binders l c)) (h₂.binders l) (or_yes (binds f l) (binds h l) (parts f h l b));
          more = sub_trans r.bound r₁.bound r₂.bound h₁.more h₂.more;
        })

    two-terms : (g : Term → Term → Formula) →
        ((x y : Term) → OkTerm D (scope S) x → OkTerm D (scope S) y → FormulaIn S (g x y)) → ((x y : Term) (l : ℕ) → ¬ (T (binds (g x y) l))) →
        (r : Reader) → Post (FormulaRead S r) ((operand T' >>= λ x. operand T' >>= λ y. give (g x y)) r)
    two-terms g ok none r =
        bind-post (operand-post r.bound T' (term-post D S r.bound k) r (sub_refl r.bound)) λ x r₁ h₁.
        bind-post (operand-post r.bound T' (term-post D S r.bound k) r₁ h₁.1) λ y r₂ h₂.
        holds (record { ok = ok x y h₁.0 h₂.0; binders = λ l b. absurd (none x y l b); more = h₂.1 })

    quantified : (p : ℕ) (g : ℕ → Term → Term → Formula → Formula) →
        ((l : ℕ) (a b : Term) (G : Formula) → OkTerm D (scope S) a → OkTerm D (scope S) b → l < D.locals → T (not (has l S)) →
        Ok D (enter (scope S) l) G → FormulaIn S (g l a b G)) →
        ((l : ℕ) (a b : Term) (G : Formula) (j : ℕ) → T (binds (g l a b G) j) → T (eqb j l || binds G j)) →
        (r : Reader) → Around S r →
        Post (FormulaRead S r) ((operand L >>= λ l. operand T' >>= λ a. operand T' >>= λ b.
        non_empty refusing p a b >> (operand (F (l ∷ S)) >>= λ f. give (g l a b f))) r)
    quantified p g ok parts r a =
        bind-post (operand-post r.bound L (binder-post D r.bound k) r (sub_refl r.bound)) λ l r₁ h₁.
        bind-post (operand-post (l ∷ r.bound) T' (term-post D S (l ∷ r.bound) k) r₁ h₁.2) λ x r₂ h₂.
        bind-post (operand-post (l ∷ r.bound) T' (term-post D S (l ∷ r.bound) k) r₂ h₂.1) λ y r₃ h₃.
        bind-post (require-post (not (refusing && empty_range x y)) 17 p (give tt) r₃ tt λ e. holds {r = r₃} h₃.1) λ u r₄ s₄.
        bind-post (sub-formula (l ∷ S) r₄ (around-bound l a h₁.1 s₄)) λ f r₅ h₅.
        holds (bound-read l f (g l x y f) a h₁.1 s₄ h₅ (ok l x y f h₂.0 h₃.0 h₁.0) (parts l x y f))

    formula-of : (p n : ℕ) (w : FormulaWord) (r : Reader) → Around S r → Post (FormulaRead S r) (formula_of refusing D F T' L K S p n w r)
    unfolding Ok binds
    formula-of p n true_word r a = holds (record { ok = tt; binders = λ l b. absurd b; more = sub_refl r.bound })
    formula-of p n and_word r a = two-formulas and (λ G H x y. (x, y)) (λ G H l b. b) r a
    formula-of p n or_word r a = two-formulas or (λ G H x y. (x, y)) (λ G H l b. b) r a
    formula-of p n imp_word r a = two-formulas (imp n) (λ G H x y. (x, y)) (λ G H l b. b) r a
    formula-of p n not_word r a =
        bind-post (sub-formula S r a) λ f r₁ h. holds (record { ok = h.ok; binders = h.binders; more = h.more })
    formula-of p n eq_word r a = two-terms (eq n) (λ x y b c. (b, c)) (λ x y l b. b) r
    formula-of p n (rel_word c) r a = two-terms (compare n c) (λ x y b c. (b, c)) (λ x y l b. b) r
    formula-of p n ex_word r a =
        bind-post (operand-post r.bound L (binder-post D r.bound k) r (sub_refl r.bound)) λ l r₁ h₁.
        bind-post (sub-formula (l ∷ S) r₁ (around-bound l a h₁.1 h₁.2)) λ f r₂ h₂.
        holds (bound-read l f (ex l f) a h₁.1 h₁.2 h₂ (λ z o. (h₁.0, z, o)) (λ j b. b))
    formula-of p n some_word r a = quantified p (some n) (λ l x y G hx hy d z h. (hx, hy, d, z, h)) (λ l x y G j b. b) r a
    formula-of p n all_word r a = quantified p (all n) (λ l x y G hx hy d z h. (hx, hy, d, z, h)) (λ l x y G j b. b) r a
    formula-of p n call_word r a =
        bind-post (operand-post r.bound K (procedure-post D r.bound k) r (sub_refl r.bound)) λ J r₁ h₁.
        bind-post (arguments-post D r.bound S k (procedure_of D J).parameters r₁ h₁.1) λ ts r₂ h₂.
        holds (call-read J ts h₁.0 h₂.0.0 h₂.0.1 a h₂.1)

    formula-with : (t : Token) (w : Word) (r : Reader) → Around S r → Post (FormulaRead S r) (formula_with refusing D F T' L K S t w r)
    formula-with t (formula_word w) r a = formula-of t.place t.number w r a
    formula-with t (term_word w) r a = refusal tt
    formula-with t (number_word n) r a = refusal tt
    formula-with t unknown r a = refusal tt

  formula-around : (refusing : Bool) (k : ℕ) (S : Locals) (r : Reader) → Around S r → Post (FormulaRead S r) (formula refusing D k S r)
  unfolding formula
  formula-around refusing zero S r a = refusal tt
  formula-around refusing (suc k) S r a =
      bind-post (token-post r.bound (word_of D.edition) (word_ok D.edition) r (λ j h. h)) λ t r₁ h.
      post-more r h.1 (formula-with refusing k (λ S' r'. formula-around refusing k S' r') S t t.word r₁ (around-more a h.1))

  -- a line's formula
  pub formula-post : (refusing : Bool) (k : ℕ) (r : Reader) → Sub B r.bound → Post (FormulaRead [] r) (formula refusing D k [] r)
  unfolding has
  formula-post refusing k r s =
      formula-around refusing k [] r (record { inside = λ j h. contradiction cc; before = s; apart = λ l h. contradiction cc })
