-- A formula that is read is shallow: its terms nest no deeper than the limit, its binders' locals have slots, and its calls name procedures of
-- the lines before, with few arguments. Assumes nothing.
use Prim.Native.Nat.{ℕ, zero, suc, ◌≤◌, ◌<◌, max}
use native.Mathlib.Omega.{arith}
use mathlib.Core.Path.{◌≡◌, refl, ap}
use mathlib.Core.Bool.{Bool}
use mathlib.Core.List.{List, [], ◌∷◌}
use lib.ListN.{length}
use lib.Dec.{ltb}
use borrow.Author.Tests.{ltb-true}
use Rattle.specification.specs.Bytes.{space}
use Rattle.specification.specs.Parser.{Reader, Parser, give, ◌>>=◌, ◌>>◌, mark}
use Rattle.specification.specs.Lists.{Each}
use Rattle.specification.specs.Lines.{Declared, procedure_of}
use Rattle.specification.specs.Ast.{Term, Formula, and, or, imp, eq, compare, some, all as every}
use Rattle.specification.specs.Words.{FormulaWord, true_word, and_word, or_word, imp_word, not_word, eq_word, ex_word, some_word, all_word, call_word, rel_word, TermWord, constant_word, scalar_word, local_word, array_word, parameter_word, op_word, Word, formula_word, term_word, number_word, unknown, word_of, number_of}
use Rattle.specification.specs.Formula.{Token, token, operand, Locals, has, binder_of, binder_with, binder, procedure_with, procedure, term_of, term_with, term, arguments, non_empty, formula_of, formula_with, formula}
use Rattle.specification.proofs.Laws.Parser.{Post, refusal, holds, bind-post, after, require-post, pick_post}
use Rattle.specification.proofs.Laws.Lists.{each_map}
use Rattle.tables.specs.Layout.{max_nesting, max_locals, max_parameters}
use Rattle.sheet.specs.Held.{height, Shallow}

module _ {A : Type 0} {P : A → Reader → Type 0} (p : Parser A) (h : (r : Reader) → Post P (p r)) where
  operand-post : (r : Reader) → Post P (operand p r)
  operand-post r = after (mark space r) (λ u r₁. h r₁)

module _ (D : Declared) where
  -- ---- terms

  abbrev Low : ℕ → Term → Reader → Type 0
  Low k t r = height t ≤ k

  module _ (k : ℕ) (S : Locals) (p : Parser Term) (h : (r : Reader) → Post (Low k) (p r)) where
    term-of : (q : ℕ) (w : TermWord) (r : Reader) → Post (Low (suc k)) (term_of D p S q w r)
    unfolding height
    term-of q (constant_word z) r = let h : 1 ≤ suc k = omega arith in holds h
    term-of q (scalar_word n) r = let h : 1 ≤ suc k = omega arith in require-post (ltb n D.scalars) _ _ _ _ tt λ e. holds h
    term-of q (local_word l) r =
        let h : 1 ≤ suc k = omega arith in
        require-post (ltb l D.locals) _ _ _ _ tt λ d. require-post (has l S) _ _ _ _ tt λ e. holds h
    term-of q (parameter_word n) r = let h : 1 ≤ suc k = omega arith in require-post (ltb n D.parameters) _ _ _ _ tt λ e. holds h
    term-of q (array_word a) r =
        require-post (ltb a (length D.arrays)) _ _ _ _ tt λ e.
        bind-post (operand-post p h r) λ i r₁ h₁. let e : suc (height i) ≤ suc k = omega (arith, h₁) in holds e
    term-of q (op_word o) r =
        bind-post (operand-post p h r) λ s r₁ h₁.
        bind-post (operand-post p h r₁) λ t r₂ h₂. let e : suc (max (height s) (height t)) ≤ suc k = omega (arith, h₁, h₂) in holds e

    term-with : (t : Token) (w : Word) (r : Reader) → Post (Low (suc k)) (term_with D p S t w r)
    term-with t (term_word w) r = term-of t.place w r
    term-with t (formula_word w) r = refusal tt
    term-with t (number_word n) r = refusal tt
    term-with t unknown r = refusal tt

  term-low : (k : ℕ) (S : Locals) (r : Reader) → Post (Low k) (term D k S r)
  unfolding term
  term-low zero S r = refusal tt
  term-low (suc k) S r =
      after (token (word_of D.edition) r) λ t r₁.
      term-with k S (λ r. term D k S r) (λ r₂. term-low k S r₂) t t.word r₁

  -- ---- binders

  abbrev Small : ℕ → Reader → Type 0
  Small l r = l < D.locals

  binder-of : (p : ℕ) (w : TermWord) (r : Reader) → Post Small (binder_of D p w r)
  binder-of p (local_word l) r =
      require-post (ltb l D.locals) _ _ _ _ tt λ e.
      pick_post (has l r.bound) _ _ (λ b. refusal tt) (λ b. holds (ltb-true l D.locals e))
  binder-of p (constant_word z) r = refusal tt
  binder-of p (scalar_word n) r = refusal tt
  binder-of p (array_word a) r = refusal tt
  binder-of p (parameter_word n) r = refusal tt
  binder-of p (op_word o) r = refusal tt

  binder-with : (t : Token) (w : Word) (r : Reader) → Post Small (binder_with D t w r)
  binder-with t (term_word w) r = binder-of t.place w r
  binder-with t (formula_word w) r = refusal tt
  binder-with t (number_word n) r = refusal tt
  binder-with t unknown r = refusal tt

  binder-small : (k : ℕ) (r : Reader) → Post Small (binder D k r)
  unfolding binder
  binder-small zero r = refusal tt
  binder-small (suc k) r = after (token (word_of D.edition) r) λ t r₁. binder-with t t.word r₁

  -- ---- calls

  -- so many arguments, none too high
  abbrev Lows : ℕ → ℕ → List Term → Reader → Type 0
  Lows k n ts r = (length ts ≡ n) × Each (λ t. height t ≤ k) ts

  arguments-low : (k : ℕ) (S : Locals) (n : ℕ) (r : Reader) → Post (Lows k n) (arguments D (term D k S) n r)
  unfolding arguments Each
  arguments-low k S zero r = holds {a = []} {r = r} (refl, tt)
  arguments-low k S (suc n) r =
      bind-post (operand-post (term D k S) (term-low k S) r) λ t r₁ h₁.
      bind-post (arguments-low k S n r₁) λ ts r₂ h₂. holds {a = t ∷ ts} {r = r₂} (ap suc h₂.0, (h₁, h₂.1))

  abbrev Earlier : ℕ → Reader → Type 0
  Earlier K r = K < length D.procedures

  procedure-with : (t : Token) (w : Word) (r : Reader) → Post Earlier (procedure_with D t w r)
  procedure-with t (number_word K) r = require-post (ltb K (length D.procedures)) _ _ _ _ tt λ e. holds (ltb-true K _ e)
  procedure-with t (formula_word w) r = refusal tt
  procedure-with t (term_word w) r = refusal tt
  procedure-with t unknown r = refusal tt

  procedure-earlier : (k : ℕ) (r : Reader) → Post Earlier (procedure D k r)
  unfolding procedure
  procedure-earlier zero r = refusal tt
  procedure-earlier (suc k) r = after (token number_of r) λ t r₁. procedure-with t t.word r₁

  -- ---- formulas, where m procedures may be called

  module _ (m : ℕ) where
    abbrev Flat : Formula → Reader → Type 0
    Flat F r = Shallow m F

  module _ (refusing : Bool) (m : ℕ) (all : length D.procedures ≤ m) (each : (K : ℕ) → (procedure_of D K).parameters ≤ max_parameters)
      (few : D.locals ≤ max_locals) (k : ℕ) (deep : k ≤ max_nesting) (ih : (S : Locals) (r : Reader) → Post (Flat m) (formula refusing D k S r))
      (S : Locals) where
    abbrev sub : Locals → Parser Formula
    sub S' r = formula refusing D k S' r

    abbrev side : Parser Term
    side r = term D k S r

    abbrev local : Parser ℕ
    local r = binder D k r

    abbrev number : Parser ℕ
    number r = procedure D k r

    two-formulas : (g : Formula → Formula → Formula) → ((F G : Formula) → Shallow m F → Shallow m G → Shallow m (g F G)) → (r : Reader) →
        Post (Flat m) ((operand (sub S) >>= λ f. operand (sub S) >>= λ h. give (g f h)) r)
    two-formulas g ok r =
        bind-post (operand-post (sub S) (ih S) r) λ f r₁ h₁.
        bind-post (operand-post (sub S) (ih S) r₁) λ h r₂ h₂. holds (ok f h h₁ h₂)

    two-terms : (g : Term → Term → Formula) → ((s t : Term) → height s ≤ max_nesting → height t ≤ max_nesting → Shallow m (g s t)) → (r : Reader) →
        Post (Flat m) ((operand side >>= λ s. operand side >>= λ t. give (g s t)) r)
    two-terms g ok r =
        bind-post (operand-post side (term-low k S) r) λ s r₁ h₁.
        bind-post (operand-post side (term-low k S) r₁) λ t r₂ h₂. holds (ok s t (omega (arith, h₁)) (omega (arith, h₂)))

    quantified : (p : ℕ) (g : ℕ → Term → Term → Formula → Formula) →
        ((l : ℕ) (a b : Term) (F : Formula) → height a ≤ max_nesting → height b ≤ max_nesting → l < max_locals → Shallow m F → Shallow m (g l a b F)) → (r : Reader) →
        Post (Flat m) ((operand local >>= λ l. operand side >>= λ a. operand side >>= λ b. non_empty refusing p a b >>
        (operand (sub (l ∷ S)) >>= λ f. give (g l a b f))) r)
    quantified p g ok r =
        bind-post (operand-post local (binder-small k) r) λ l r₁ h₁.
        bind-post (operand-post side (term-low k S) r₁) λ a r₂ h₂.
        bind-post (operand-post side (term-low k S) r₂) λ b r₃ h₃.
        after (non_empty refusing p a b r₃) λ u r₄.
        bind-post (operand-post (sub (l ∷ S)) (ih (l ∷ S)) r₄) λ f r₅ h₅.
        holds (ok l a b f (omega (arith, h₂)) (omega (arith, h₃)) (omega (arith, h₁)) h₅)

    formula-of : (p n : ℕ) (w : FormulaWord) (r : Reader) → Post (Flat m) (formula_of refusing D sub side local number S p n w r)
    formula-of p n true_word r = holds tt
    formula-of p n and_word r = two-formulas and (λ F G a b. (a, b)) r
    formula-of p n or_word r = two-formulas or (λ F G a b. (a, b)) r
    formula-of p n imp_word r = two-formulas (imp n) (λ F G a b. (a, b)) r
    formula-of p n not_word r = bind-post (operand-post (sub S) (ih S) r) λ f r₁ h. holds h
    formula-of p n eq_word r = two-terms (eq n) (λ s t a b. (a, b)) r
    formula-of p n (rel_word c) r = two-terms (compare n c) (λ s t a b. (a, b)) r
    formula-of p n ex_word r =
        bind-post (operand-post local (binder-small k) r) λ l r₁ h₁.
        bind-post (operand-post (sub (l ∷ S)) (ih (l ∷ S)) r₁) λ f r₂ h₂. holds (omega (arith, h₁), h₂)
    formula-of p n some_word r = quantified p (some n) (λ l a b F x y z h. (x, y, z, h)) r
    formula-of p n all_word r = quantified p (every n) (λ l a b F x y z h. (x, y, z, h)) r
    formula-of p n call_word r =
        bind-post (operand-post number (procedure-earlier k) r) λ K r₁ h₁.
        bind-post (arguments-low k S (procedure_of D K).parameters r₁) λ ts r₂ h₂.
        holds (omega (arith, h₁), omega (arith, h₂.0, each K), each_map (λ t h. omega (arith, h)) ts h₂.1)

    formula-with : (t : Token) (w : Word) (r : Reader) → Post (Flat m) (formula_with refusing D sub side local number S t w r)
    formula-with t (formula_word w) r = formula-of t.place t.number w r
    formula-with t (term_word w) r = refusal tt
    formula-with t (number_word n) r = refusal tt
    formula-with t unknown r = refusal tt

  pub formula-shallow : (refusing : Bool) (m : ℕ) → length D.procedures ≤ m → ((K : ℕ) → (procedure_of D K).parameters ≤ max_parameters) →
      D.locals ≤ max_locals →
      (k : ℕ) → k ≤ max_nesting → (S : Locals) (r : Reader) → Post (Flat m) (formula refusing D k S r)
  unfolding formula
  formula-shallow refusing m all each few zero deep S r = refusal tt
  formula-shallow refusing m all each few (suc k) deep S r =
      after (token (word_of D.edition) r) λ t r₁.
      formula-with refusing m all each few k (omega arith) (λ S' r'. formula-shallow refusing m all each few k (omega arith) S' r') S t t.word r₁
