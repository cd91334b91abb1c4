-- The locals in scope while a sheet is read, and the tokens, operands and terms that are read: a term's names are declared or bound around
-- it, and its constants lie in 32 bits. Assumes nothing.
use Prim.Native.Nat.{ℕ, zero, suc}
use mathlib.Core.Path.{◌≡◌, refl, sym, ◌∙◌, fun_ext}
use mathlib.Core.Bool.{Bool, true, false, ◌||◌}
use mathlib.Core.List.{◌∷◌}
use mathlib.Core.Option.{Option, some as just}
use lib.ListN.{length}
use lib.Dec.{ltb, eqb}
use borrow.Author.Tests.{ltb-true}
use Rattle.specification.specs.Bytes.{Bytes, Class, pick, space, in_token}
use Rattle.specification.specs.Parser.{Reader, Parser, give, ◌>>=◌, next, mark, taken}
use Rattle.specification.specs.Lines.{Declared}
use Rattle.specification.specs.Ast.{Term, apply}
use Rattle.specification.specs.Words.{TermWord, constant_word, scalar_word, local_word, array_word, parameter_word, op_word, Word, formula_word, term_word, number_word, unknown, word_of}
use Rattle.specification.specs.Formula.{Token, token, numbered, operand, Locals, has, term_of, term_with, term}
use Rattle.specification.specs.WellFormed.{Scope, enter, OkTerm}
use Rattle.specification.proofs.Laws.Parser.{true-T, Post, refusal, holds, bind-post, require-post, present-post, pick_post}
use Rattle.specification.proofs.Laws.ReadWords.{WordOk, word_ok}

-- ---- locals in scope

-- the scope of a list of locals
abbrev pub scope : Locals → Scope
scope S l = has l S

pub scope-enter : (S : Locals) (l : ℕ) → enter (scope S) l ≡ scope (l ∷ S)
unfolding enter has
scope-enter S l = fun_ext λ j. go j (eqb j l)
  where
    go : (j : ℕ) (b : Bool) → pick b true (has j S) ≡ b || has j S
    go j true = refl
    go j false = refl

-- each local of the first list is in the second
abbrev pub Sub : Locals → Locals → Type 0
Sub S B = (j : ℕ) → has j S ≡ true → has j B ≡ true

pub sub-less : (S B : Locals) (l : ℕ) → Sub (l ∷ S) B → Sub S B
unfolding has
sub-less S B l s j h = s j (go (eqb j l))
  where
    go : (b : Bool) → b || has j S ≡ true
    go true = refl
    go false = h

pub sub-both : (S B : Locals) (l : ℕ) → Sub S B → Sub (l ∷ S) (l ∷ B)
unfolding has
sub-both S B l s j h = go (eqb j l) h
  where
    go : (b : Bool) → b || has j S ≡ true → b || has j B ≡ true
    go true e = refl
    go false e = s j e

-- what has no binder is not in scope
pub fresh : (S B : Locals) (l : ℕ) → Sub S B → has l B ≡ false → has l S ≡ false
fresh S B l s n = go (has l S) refl
  where
    go : (b : Bool) → has l S ≡ b → b ≡ false
    go true e = sym (s l e) ∙ n
    go false e = refl

-- ---- tokens and operands, which keep what has a binder

module _ (S : Locals) where
  -- the property holds of what is read, and the locals in scope have binders
  abbrev pub Scoped : {A : Type 0} → (A → Type 0) → A → Reader → Type 0
  Scoped P a r = P a × Sub S r.bound

  mark-post : (c : Class) (r : Reader) → Sub S r.bound → Post (λ u r'. Sub S r'.bound) (mark c r)
  unfolding mark
  mark-post c r s = pick_post (next c r.rest) _ _ (λ e. holds s) (λ e. refusal tt)

  numbered-post : (r : Reader) → Sub S r.bound → Post (λ n r'. Sub S r'.bound) (numbered r)
  numbered-post r s = pick_post (ltb r.tokens 1024) _ _ (λ e. holds s) (λ e. refusal tt)

  taken-post : (r : Reader) → Sub S r.bound → Post (λ bs r'. Sub S r'.bound) (taken in_token r)
  unfolding taken
  taken-post r s = holds s

  pub token-post : (word : Bytes → Option Word) → ((bs : Bytes) (w : Word) → word bs ≡ just w → WordOk w) → (r : Reader) →
      Sub S r.bound → Post (Scoped (λ t. WordOk t.word)) (token word r)
  unfolding token
  token-post word ok r s =
      bind-post (numbered-post r s) λ n r₁ s₁.
      bind-post (taken-post r₁ s₁) λ bs r₂ s₂.
      bind-post (present-post 4 r.place (word bs) r₂ tt (λ w e. (ok bs w e, s₂))) λ w r₃ h.
      holds h

  module _ {A : Type 0} {P : A → Reader → Type 0} (p : Parser A) (h : (r : Reader) → Sub S r.bound → Post P (p r)) where
    pub operand-post : (r : Reader) → Sub S r.bound → Post P (operand p r)
    operand-post r s = bind-post (mark-post space r s) λ u r₁ s₁. h r₁ s₁

  -- two operands of one sort
  module _ {A B : Type 0} {P : A → Type 0} (p : Parser A) (h : (r : Reader) → Sub S r.bound → Post (Scoped P) (p r))
      (Q : B → Type 0) where
    pub two_post : (g : A → A → B) → ((a b : A) → P a → P b → Q (g a b)) → (r : Reader) → Sub S r.bound →
        Post (Scoped Q) ((operand p >>= λ a. operand p >>= λ b. give (g a b)) r)
    two_post g ok r s =
        bind-post (operand-post p h r s) λ a r₁ h₁.
        bind-post (operand-post p h r₁ h₁.1) λ b r₂ h₂.
        holds (ok a b h₁.0 h₂.0, h₂.1)

-- ---- terms: read in the scope S, where the locals of R have binders

module _ (D : Declared) (S R : Locals) where
  abbrev TermIn : Term → Type 0
  TermIn = OkTerm D (scope S)

  module _ (p : Parser Term) (h : (r : Reader) → Sub R r.bound → Post (Scoped R TermIn) (p r)) where
    term-of : (q : ℕ) (w : TermWord) (r : Reader) → WordOk (term_word w) → Sub R r.bound →
        Post (Scoped R TermIn) (term_of D p S q w r)
    unfolding OkTerm
    term-of q (constant_word z) r k s = holds (k.in_bits, s)
    term-of q (scalar_word n) r k s = require-post (ltb n D.scalars) _ _ _ _ tt λ e. holds (ltb-true n D.scalars e, s)
    term-of q (local_word l) r k s =
        require-post (ltb l D.locals) _ _ _ _ tt λ d.
        require-post (has l S) _ _ _ _ tt λ e.
        holds (true-T (has l S) e, s)
    term-of q (parameter_word n) r k s = require-post (ltb n D.parameters) _ _ _ _ tt λ e. holds (ltb-true n D.parameters e, s)
    term-of q (array_word a) r k s =
        require-post (ltb a (length D.arrays)) _ _ _ _ tt λ e.
        bind-post (operand-post R p h r s) λ i r₁ h₁.
        holds ((ltb-true a (length D.arrays) e, h₁.0), h₁.1)
    term-of q (op_word o) r k s = two_post R p h TermIn (apply o) (λ x y a b. (a, b)) r s

    term-with : (t : Token) (w : Word) (r : Reader) → WordOk w → Sub R r.bound →
        Post (Scoped R TermIn) (term_with D p S t w r)
    term-with t (term_word w) r k s = term-of t.place w r k s
    term-with t (formula_word w) r k s = refusal tt
    term-with t (number_word n) r k s = refusal tt
    term-with t unknown r k s = refusal tt

  pub term-post : (k : ℕ) (r : Reader) → Sub R r.bound → Post (Scoped R TermIn) (term D k S r)
  unfolding term
  term-post zero r s = refusal tt
  term-post (suc k) r s =
      bind-post (token-post R (word_of D.edition) (word_ok D.edition) r s) λ t r₁ h.
      term-with (λ r. term D k S r) (λ r₂ s₂. term-post k r₂ s₂) t t.word r₁ h.0 h.1
