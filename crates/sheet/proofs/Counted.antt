-- Readers count the tokens that they read, at most 1,024 in all: tokens, operands, terms, arguments, binders' locals and procedures' numbers.
-- Assumes nothing.
use Prim.Native.Nat.{ℕ, zero, suc, ◌+◌, ◌≤◌, ◌<◌}
use native.Mathlib.Omega.{arith}
use mathlib.Core.Path.{◌≡◌, refl, ap, subst}
use lib.ListN.{length, length-append}
use lib.Dec.{ltb}
use borrow.Author.Tests.{ltb-true}
use mathlib.Core.List.{List, [], ◌∷◌}
use mathlib.Core.Option.{Option}
use Rattle.specification.specs.Bytes.{Bytes, space, in_token, run}
use Rattle.specification.specs.Parser.{Reader, refused, found, past, Parser, next, mark, taken}
use Rattle.specification.specs.Lines.{Declared}
use Rattle.specification.specs.Ast.{Term}
use Rattle.specification.specs.Words.{TermWord, constant_word, scalar_word, local_word, array_word, parameter_word, op_word, Word, formula_word, term_word, number_word, unknown, word_of, number_of}
use Rattle.specification.specs.Formula.{Token, token, operand, Locals, has, binder_of, binder_with, binder, procedure_with, procedure, term_of, term_with, term, arguments}
use Rattle.specification.proofs.Laws.Parser.{Post, refusal, holds, bind-post, require-post, present-post, pick_post}
use Rattle.tables.specs.Layout.{max_tokens}
use Rattle.sheet.specs.Codes.{term_tokens, terms_tokens}
use Rattle.sheet.specs.Numbered.{term_size, terms_size}

-- ---- readers that count

-- of m tokens, n were read before and so many since
pub record Counted (n size m : ℕ) : Type 0 where
  pub tokens : m ≡ n + size
  pub few : m ≤ max_tokens

module _ {A : Type 0} (size : A → ℕ) (P : ℕ → A → Type 0) where
  -- what is read from token n on has the property
  abbrev pub Counting : ℕ → A → Reader → Type 0
  Counting n a r = P n a × Counted n (size a) r.tokens

  pub operand-counts : (p : Parser A) → ((r : Reader) → Post (Counting r.tokens) (p r)) →
      (r : Reader) → Post (Counting r.tokens) (operand p r)
  unfolding mark
  operand-counts p h r =
      let space-first = pick_post (next space r.rest) (found tt (past 1 r)) (refused 5 r.place) (λ e. holds refl) (λ e. refusal tt) in
      bind-post {P = λ u r₁. r₁.tokens ≡ r.tokens} space-first λ u r₁ e.
      subst (λ n. Post (Counting n) (p r₁)) e (h r₁)

-- its number is that of the tokens before it
abbrev Next : ℕ → Token → Reader → Type 0
Next n t r = (t.number ≡ n) × Counted n 1 r.tokens

pub token-counts : (word : Bytes → Option Word) (r : Reader) → Post (Next r.tokens) (token word r)
unfolding token taken
token-counts word r =
    bind-post {P = λ n r₁. (n ≡ r.tokens) × Counted r.tokens 1 r₁.tokens}
    (pick_post (ltb r.tokens max_tokens) _ _
    (λ e. holds (refl, record { tokens = omega arith; few = ltb-true r.tokens max_tokens e })) (λ e. refusal tt)) λ n r₁ h.
    bind-post (present-post 4 r.place (word (run in_token r₁.rest)) _ tt (λ w e. h)) λ w r₂ h₂.
    holds h₂

-- ---- terms

abbrev Anything : {A : Type 0} → ℕ → A → Type 0
Anything n a = Unit {0}

abbrev pub TermFrom : ℕ → Term → Reader → Type 0
TermFrom = Counting term_size Anything

module _ (D : Declared) (S : Locals) where
  module _ (p : Parser Term) (h : (r : Reader) → Post (TermFrom r.tokens) (p r)) (n : ℕ) (r : Reader) (c : Counted n 1 r.tokens) where
    term-of : (q : ℕ) (w : TermWord) → Post (TermFrom n) (term_of D p S q w r)
    unfolding term_tokens
    term-of q (constant_word z) = holds (tt, c)
    term-of q (scalar_word m) = require-post (ltb m D.scalars) _ _ _ _ tt λ e. holds (tt, c)
    term-of q (local_word l) = require-post (ltb l D.locals) _ _ _ _ tt λ e. require-post (has l S) _ _ _ _ tt λ f. holds (tt, c)
    term-of q (parameter_word m) = require-post (ltb m D.parameters) _ _ _ _ tt λ e. holds (tt, c)
    term-of q (array_word a) =
        require-post (ltb a (length D.arrays)) _ _ _ _ tt λ e.
        bind-post (operand-counts term_size Anything p h r) λ i r₁ h₁.
        holds (tt, record { tokens = omega arith; few = h₁.1.few })
    term-of q (op_word o) =
        bind-post (operand-counts term_size Anything p h r) λ s r₁ h₁.
        bind-post (operand-counts term_size Anything p h r₁) λ t r₂ h₂.
        holds (tt, record { tokens = omega (arith, length-append (term_tokens s) (term_tokens t)); few = h₂.1.few })

    term-with : (t : Token) (w : Word) → Post (TermFrom n) (term_with D p S t w r)
    term-with t (term_word w) = term-of t.place w
    term-with t (formula_word w) = refusal tt
    term-with t (number_word m) = refusal tt
    term-with t unknown = refusal tt

  term-counts : (k : ℕ) (r : Reader) → Post (TermFrom r.tokens) (term D k S r)
  unfolding term
  term-counts zero r = refusal tt
  term-counts (suc k) r =
      bind-post (token-counts (word_of D.edition) r) λ t r₁ h.
      term-with (λ r. term D k S r) (λ r₂. term-counts k r₂) r.tokens r₁ h.1 t t.word

  -- as an operand
  pub term-operand-counts : (k : ℕ) (r : Reader) → Post (TermFrom r.tokens) (operand (term D k S) r)
  term-operand-counts k = operand-counts term_size Anything (term D k S) (term-counts k)

-- the arguments of a call, so many
abbrev pub TermsFrom : ℕ → ℕ → List Term → Reader → Type 0
TermsFrom m n ts r = (length ts ≡ m) × Counted n (terms_size ts) r.tokens

module _ (D : Declared) (k : ℕ) (S : Locals) where
  pub arguments-count : (m : ℕ) (r : Reader) → r.tokens ≤ max_tokens → Post (TermsFrom m r.tokens) (arguments D (term D k S) m r)
  unfolding arguments terms_tokens
  arguments-count zero r few = holds {a = []} {r = r} (refl, record { tokens = omega arith; few = few })
  arguments-count (suc m) r few =
      bind-post (term-operand-counts D S k r) λ t r₁ h₁.
      bind-post (arguments-count m r₁ h₁.1.few) λ ts r₂ h₂.
      holds {a = t ∷ ts} {r = r₂} (ap suc h₂.0, record { tokens = omega (arith, h₂.1.tokens, h₁.1.tokens, length-append (term_tokens t) (terms_tokens ts)); few = h₂.1.few })

-- ---- a binder's local, a procedure's number

abbrev pub LocalFrom : ℕ → ℕ → Reader → Type 0
LocalFrom = Counting (λ l. 1) Anything

module _ (D : Declared) where
  module _ (n : ℕ) (r : Reader) (c : Counted n 1 r.tokens) where
    binder-of : (p : ℕ) (w : TermWord) → Post (LocalFrom n) (binder_of D p w r)
    binder-of p (local_word l) =
        require-post (ltb l D.locals) _ _ _ _ tt λ e.
        pick_post (has l r.bound) _ _ (λ e. refusal tt) (λ e. holds (tt, c))
    binder-of p (constant_word z) = refusal tt
    binder-of p (scalar_word m) = refusal tt
    binder-of p (array_word a) = refusal tt
    binder-of p (parameter_word m) = refusal tt
    binder-of p (op_word o) = refusal tt

    binder-with : (t : Token) (w : Word) → Post (LocalFrom n) (binder_with D t w r)
    binder-with t (term_word w) = binder-of t.place w
    binder-with t (formula_word w) = refusal tt
    binder-with t (number_word m) = refusal tt
    binder-with t unknown = refusal tt

  binder-counts : (k : ℕ) (r : Reader) → Post (LocalFrom r.tokens) (binder D k r)
  unfolding binder
  binder-counts zero r = refusal tt
  binder-counts (suc k) r = bind-post (token-counts (word_of D.edition) r) λ t r₁ h. binder-with r.tokens r₁ h.1 t t.word

  pub local-operand-counts : (k : ℕ) (r : Reader) → Post (LocalFrom r.tokens) (operand (binder D k) r)
  local-operand-counts k = operand-counts (λ l. 1) Anything (binder D k) (binder-counts k)

  abbrev pub NumberFrom : ℕ → ℕ → Reader → Type 0
  NumberFrom = Counting (λ K. 1) (λ n K. K < length D.procedures)

  module _ (n : ℕ) (r : Reader) (c : Counted n 1 r.tokens) where
    procedure-with : (t : Token) (w : Word) → Post (NumberFrom n) (procedure_with D t w r)
    procedure-with t (number_word K) = require-post (ltb K (length D.procedures)) _ _ _ _ tt λ e. holds (ltb-true K _ e, c)
    procedure-with t (formula_word w) = refusal tt
    procedure-with t (term_word w) = refusal tt
    procedure-with t unknown = refusal tt

  procedure-counts : (k : ℕ) (r : Reader) → Post (NumberFrom r.tokens) (procedure D k r)
  unfolding procedure
  procedure-counts zero r = refusal tt
  procedure-counts (suc k) r = bind-post (token-counts number_of r) λ t r₁ h. procedure-with r.tokens r₁ h.1 t t.word

  pub number-operand-counts : (k : ℕ) (r : Reader) → Post (NumberFrom r.tokens) (operand (procedure D k) r)
  number-operand-counts k = operand-counts (λ K. 1) (λ n K. K < length D.procedures) (procedure D k) (procedure-counts k)
