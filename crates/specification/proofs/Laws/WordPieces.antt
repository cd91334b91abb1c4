-- The words of a formula that are read: the bytes are their text, the edition has them, and what they make is legible. First words one after
-- the other, then a token, then a law for each reader of specs/Formula.antt but that of formulas, which is in FormulaPieces. Assumes nothing.
use Prim.Native.Nat.{ℕ, zero, suc, ◌+◌, ◌≤◌}
use native.Mathlib.Omega.{arith}
use mathlib.Core.Path.{◌≡◌, refl, sym, ◌∙◌, ap, subst}
use mathlib.Core.Bool.{true, false}
use mathlib.Core.List.{List, [], ◌∷◌, ◌++◌, append_assoc}
use mathlib.Core.Logic.{◌⊎◌, inl, inr}
use mathlib.Core.Option.{Option, some as just}
use lib.ListN.{length, drop, length-append}
use lib.Dec.{ltb}
use borrow.Author.Tests.{ltb-true}
use Rattle.specification.specs.Lists.{Each}
use Rattle.specification.specs.Bytes.{Bytes, bytes, space, class_of, class_number, is_in, in_token, run}
use Rattle.specification.specs.Parser.{Reader, Read, Parser, taken}
use Rattle.specification.specs.Lines.{Declared}
use Rattle.specification.specs.Ast.{Term}
use Rattle.specification.specs.Words.{TermWord, constant_word, scalar_word, local_word, array_word, parameter_word, op_word, Word, formula_word, term_word, number_word, unknown, word_of, number_of}
use Rattle.specification.specs.Formula.{Token, token, operand, Locals, has, binder_of, binder_with, binder, procedure_with, procedure, term_of, term_with, term, arguments}
use Rattle.specification.specs.Text.{led, parted, word_text, term_words, argument_words, binder_word, spelt}
use Rattle.specification.proofs.Laws.Contradiction.{contradiction}
use Rattle.specification.proofs.Laws.Lists.{each-++}
use Rattle.specification.proofs.Laws.Parser.{Post, refusal, holds, map-post, both_post, bind-post, require-post, present-post, pick_post}
use Rattle.specification.proofs.Laws.Canonical.{starts, run-split}
use Rattle.specification.proofs.Laws.Spelling.{Belongs, word_of-spelt, number-spelt}
use Rattle.specification.proofs.Laws.Pieces.{space-piece}
use Rattle.specification.proofs.Laws.LinePieces.{stays}
use Rattle.specification.proofs.Laws.Legible.{Shape, shape_of, counts-length, Deep, LegibleTerm, added, Fresh}
use Rattle.specification.proofs.Laws.Taken.{most_tokens, Taken, taken_none, taken-both, taken-same, still-taken}

-- ---- words one after the other

-- what comes next is no byte of a token
abbrev pub NoToken : Bytes → Type 0
NoToken w = starts in_token w ≡ false

-- an edition has the word; a procedure's number is the same in all
abbrev pub Fits : ℕ → Word → Type 0
Fits edition (formula_word w) = Belongs edition (formula_word w)
Fits edition (term_word w) = Belongs edition (term_word w)
Fits edition (number_word n) = Unit {0}
Fits edition unknown = ⊥

-- each word after a space
abbrev pub led_in : ℕ → List Word → Bytes
led_in e ws = led (bytes " ") (word_text e) ws

pub led-token : (e : ℕ) (ws : List Word) (w : Bytes) → NoToken w → NoToken (led_in e ws ++ w)
unfolding led starts in_token is_in class_number class_of
led-token e [] w h = h
led-token e (x ∷ xs) w h = refl

pub led-++ : (e : ℕ) (ws us : List Word) → led_in e ws ++ led_in e us ≡ led_in e (ws ++ us)
unfolding led
led-++ e [] us = refl
led-++ e (w ∷ ws) us =
    ap (λ (x : Bytes). 32 ∷ x) (append_assoc (word_text e w) (led_in e ws) (led_in e us) ∙ ap (λ (x : Bytes). word_text e w ++ x) (led-++ e ws us))

pub led-some : (e : ℕ) (ws : List Word) → ¬ (ws ≡ []) → bytes " " ++ spelt e ws ≡ led_in e ws
unfolding led parted
led-some e [] h = absurd (h refl)
led-some e (w ∷ ws) h = refl

module _ (D : Declared) where
  abbrev edition : ℕ
  edition = D.edition

  -- words that were read, each after a space
  pub record Led (ws : List Word) (ls : List ℕ) (r r' : Reader) : Type 0 where
    pub fits : Each (Fits edition) ws
    pub taken : Taken (led_in edition ws) (length ws) ls r r'

  -- the same, the first without the space
  pub record Spelt (ws : List Word) (ls : List ℕ) (r r' : Reader) : Type 0 where
    pub some : ¬ (ws ≡ [])
    pub fits : Each (Fits edition) ws
    pub taken : Taken (spelt edition ws) (length ws) ls r r'

  pub led-none : (r : Reader) → Led [] [] r r
  unfolding Each led
  led-none r = record { fits = tt; taken = taken_none r }

  pub led-both : {ws us : List Word} {ls ms : List ℕ} {r r₁ r₂ : Reader} → Led ws ls r r₁ → Led us ms r₁ r₂ → Led (ws ++ us) (ls ++ ms) r r₂
  led-both {ws} {us} h k = record {
    fits = each-++ (Fits edition) ws us h.fits k.fits;
    taken = taken-same (led-++ edition ws us) (sym (length-append ws us)) (taken-both h.taken k.taken);
  }

  -- ---- a sort of thing that is read: its words, its binders, and what holds of it where n tokens were read before

  pub record Sort (A : Type 0) : Type 1 where
    pub words : A → List Word
    pub binders : A → List ℕ
    pub Good : ℕ → A → Type 0

  -- a thing of this sort is read
  abbrev pub Is : {A : Type 0} → Sort A → Reader → A → Reader → Type 0
  Is X r a r' = Spelt (X.words a) (X.binders a) r r' × X.Good r.tokens a

  -- and after a space
  abbrev pub IsLed : {A : Type 0} → Sort A → Reader → A → Reader → Type 0
  IsLed X r a r' = Led (X.words a) (X.binders a) r r' × X.Good r.tokens a

  pub operand-led : {A : Type 0} (X : Sort A) (q : Parser A) → ((r : Reader) → Post (Is X r) (q r)) → (r : Reader) → Post (IsLed X r) (operand q r)
  operand-led X q f r =
      bind-post (both_post (space-piece r) (stays.mark space r)) λ u r₁ (h, s).
      map-post (λ a r₂ (k, g). (
        record {
          fits = k.fits;
          taken = taken-same (led-some edition (X.words a) k.some) (omega arith) (taken-both (still-taken h s) k.taken);
        },
        subst (λ (n : ℕ). X.Good n a) (sym s.0) g,
      )) (f r₁)

  -- ---- a token

  pub record TokenRead (word : Bytes → Option Word) (r : Reader) (t : Token) (r' : Reader) : Type 0 where
    pub letters : Bytes
    pub is : word letters ≡ just t.word
    pub number : t.number ≡ r.tokens
    pub next : r'.tokens ≡ suc r.tokens
    pub read : Taken letters 1 [] r r'

  pub token-read : (word : Bytes → Option Word) (r : Reader) → Post (TokenRead word r) (token word r)
  unfolding token taken added Fresh
  token-read word r =
      bind-post {P = λ n r₁. (n ≡ r.tokens) × (ltb r.tokens most_tokens ≡ true) × (r₁ ≡ counted)}
      (pick_post (ltb r.tokens most_tokens) _ _ (λ e. holds (refl, e, refl)) (λ e. refusal tt)) λ n r₁ (e, f, g).
      rw g
      (bind-post {P = λ w r₂. (word letters ≡ just w) × (r₂ ≡ passed)} (present-post 4 r.place (word letters) _ tt λ w k. (k, refl)) λ w r₂ (k, l).
      let few : suc r.tokens ≤ most_tokens = ltb-true r.tokens most_tokens f in
      rw l (holds {r = passed} (record {
        letters = letters;
        is = k;
        number = e;
        next = refl;
        read = record { rest = run-split in_token r.rest; tokens = omega arith; few = λ h. few; fresh = tt; bound = refl };
      })))
    where
      letters : Bytes
      letters = run in_token r.rest

      counted : Reader
      counted = record { place = r.place; rest = r.rest; tokens = suc r.tokens; bound = r.bound }

      passed : Reader
      passed = record { place = r.place + length letters; rest = drop (length letters) r.rest; tokens = suc r.tokens; bound = r.bound }

  abbrev pub tok : ℕ → ℕ → Word → Token
  tok p n w = record { place = p; number = n; word = w }

  -- w was the n-th token, and then the words of its operands were read
  abbrev pub After : {A : Type 0} → Sort A → Word → ℕ → Reader → A → Reader → Type 0
  After X w n r a r' = (us : List Word) × (X.words a ≡ w ∷ us) × Led us (X.binders a) r r' × X.Good n a

  token-spelt : {A : Type 0} (X : Sort A) {word : Bytes → Option Word} {r r₁ : Reader} (p n : ℕ) (w : Word) →
      (h : TokenRead word r (tok p n w) r₁) → (h.letters ≡ word_text edition w) → Fits edition w →
      {x : Read A} → Post (After X w n r₁) x → Post (Is X r) x
  unfolding Each parted
  token-spelt X {r = r} {r₁} p n w h s fits =
      map-post λ a r₂ (us, e, k, good). (
        subst (λ (ws : List Word). Spelt ws (X.binders a) r r₂) (sym e) (record {
          some = λ f. contradiction cc;
          fits = (fits, k.fits);
          taken = taken-same refl (omega arith) (taken-both (taken-same s refl h.read) k.taken);
        }),
        subst (λ (m : ℕ). X.Good m a) h.number good,
      )

  -- these letters are the word's, and the edition has it
  abbrev Known : Word → Bytes → Type 0
  Known w letters = (letters ≡ word_text edition w) × Belongs edition w

  -- a token that is a word of the set
  pub word-spelt : {A : Type 0} (X : Sort A) {r r₁ : Reader} (p n : ℕ) (w : Word) → TokenRead (word_of edition) r (tok p n w) r₁ → ¬ (w ≡ unknown) →
      (Belongs edition w → Fits edition w) → {x : Read A} → Post (After X w n r₁) x → Post (Is X r) x
  word-spelt X p n w h k fits = let (s, b) = known (word_of-spelt edition h.letters w h.is) in token-spelt X p n w h s (fits b)
    where
      known : {t : Bytes} → (w ≡ unknown) ⊎ Known w t → Known w t
      known (inl u) = absurd (k u)
      known (inr x) = x

  -- ---- terms

  abbrev H : Shape
  H = shape_of D

  abbrev pub terms : ℕ → Locals → Sort Term
  terms k S = record { words = term_words; binders = λ t. []; Good = λ n t. LegibleTerm H k S t }

  module _ (k : ℕ) (S : Locals) (T : Parser Term) (h : (r : Reader) → Post (Is (terms k S) r) (T r)) where
    term-of : (q n : ℕ) (w : TermWord) (r : Reader) → Post (After (terms (suc k) S) (term_word w) n r) (term_of D T S q w r)
    unfolding term_words LegibleTerm
    term-of q n (constant_word z) r = holds ([], refl, led-none r, tt)
    term-of q n (scalar_word c) r = require-post (ltb c D.scalars) _ _ _ _ tt λ e. holds ([], refl, led-none r, e)
    term-of q n (local_word l) r =
        require-post (ltb l D.locals) _ _ _ _ tt λ d.
        require-post (has l S) _ _ _ _ tt λ e. holds ([], refl, led-none r, (d, e))
    term-of q n (parameter_word m) r = require-post (ltb m D.parameters) _ _ _ _ tt λ e. holds ([], refl, led-none r, e)
    term-of q n (array_word a) r =
        require-post (ltb a (length D.arrays)) _ _ _ _ tt λ e.
        bind-post (operand-led (terms k S) T h r) λ i r₁ (k₁, g₁). holds (term_words i, refl, k₁, (e, g₁))
    term-of q n (op_word o) r =
        bind-post (operand-led (terms k S) T h r) λ s r₁ (k₁, g₁).
        bind-post (operand-led (terms k S) T h r₁) λ t r₂ (k₂, g₂).
        holds (term_words s ++ term_words t, refl, led-both k₁ k₂, (g₁, g₂))

    term-with : (p n : ℕ) (w : Word) {r r₁ : Reader} → TokenRead (word_of edition) r (tok p n w) r₁ →
        Post (Is (terms (suc k) S) r) (term_with D T S (tok p n w) w r₁)
    term-with p n (term_word w) {r₁ = r₁} h = word-spelt (terms (suc k) S) p n (term_word w) h (λ e. contradiction cc) (λ b. b) (term-of p n w r₁)
    term-with p n (formula_word w) h = refusal tt
    term-with p n (number_word m) h = refusal tt
    term-with p n unknown h = refusal tt

  pub term-spelt : (k : ℕ) (S : Locals) (r : Reader) → Post (Is (terms k S) r) (term D k S r)
  unfolding term
  term-spelt zero S r = refusal tt
  term-spelt (suc k) S r =
      bind-post (token-read (word_of edition) r) λ t r₁ h.
      term-with k S (λ x. term D k S x) (λ r₂. term-spelt k S r₂) t.place t.number t.word h

  -- ---- binders

  abbrev pub locals : Sort ℕ
  locals = record { words = λ l. binder_word l ∷ []; binders = λ l. l ∷ []; Good = λ n l. ltb l D.locals ≡ true }

  binder-of : (q n : ℕ) (w : TermWord) (r : Reader) → Post (After locals (term_word w) n r) (binder_of D q w r)
  unfolding Each led added Fresh
  binder-of q n (local_word l) r =
      require-post (ltb l D.locals) _ _ _ _ tt λ e.
      pick_post (has l r.bound) _ _ (λ f. refusal tt) (λ f. holds {r = bound-in} (
        [],
        refl,
        record { fits = tt; taken = record { rest = refl; tokens = omega arith; few = λ h. h; fresh = (f, tt); bound = refl } },
        e,
      ))
    where
      bound-in : Reader
      bound-in = record { place = r.place; rest = r.rest; tokens = r.tokens; bound = l ∷ r.bound }
  binder-of q n (constant_word z) r = refusal tt
  binder-of q n (scalar_word c) r = refusal tt
  binder-of q n (array_word a) r = refusal tt
  binder-of q n (parameter_word m) r = refusal tt
  binder-of q n (op_word o) r = refusal tt

  binder-with : (p n : ℕ) (w : Word) {r r₁ : Reader} → TokenRead (word_of edition) r (tok p n w) r₁ →
      Post (Is locals r) (binder_with D (tok p n w) w r₁)
  binder-with p n (term_word w) {r₁ = r₁} h = word-spelt locals p n (term_word w) h (λ e. contradiction cc) (λ b. b) (binder-of p n w r₁)
  binder-with p n (formula_word w) h = refusal tt
  binder-with p n (number_word m) h = refusal tt
  binder-with p n unknown h = refusal tt

  pub binder-spelt : (k : ℕ) (r : Reader) → Post (Is locals r) (binder D k r)
  unfolding binder
  binder-spelt zero r = refusal tt
  binder-spelt (suc k) r = bind-post (token-read (word_of edition) r) λ t r₁ h. binder-with t.place t.number t.word h

  -- ---- the procedure of a call, and its arguments

  abbrev pub called : ℕ → Sort ℕ
  called k = record { words = λ K. number_word K ∷ []; binders = λ K. []; Good = λ n K. Deep k × (ltb K (length H.called) ≡ true) }

  procedure-with : (k p n : ℕ) (w : Word) {r r₁ : Reader} → TokenRead number_of r (tok p n w) r₁ →
      Post (Is (called (suc k)) r) (procedure_with D (tok p n w) w r₁)
  unfolding word_text
  procedure-with k p n (number_word K) {r₁ = r₁} h =
      token-spelt (called (suc k)) p n (number_word K) h (number-spelt h.letters K h.is) tt
      (require-post (ltb K (length D.procedures)) _ _ _ _ tt λ e.
      holds ([], refl, led-none r₁, (tt, ap (ltb K) (counts-length D.procedures) ∙ e)))
  procedure-with k p n (formula_word w) h = refusal tt
  procedure-with k p n (term_word w) h = refusal tt
  procedure-with k p n unknown h = refusal tt

  pub procedure-spelt : (k : ℕ) (r : Reader) → Post (Is (called k) r) (procedure D k r)
  unfolding procedure
  procedure-spelt zero r = refusal tt
  procedure-spelt (suc k) r = bind-post (token-read number_of r) λ t r₁ h. procedure-with k t.place t.number t.word h

  pub arguments-led : (k : ℕ) (S : Locals) (n : ℕ) (r : Reader) →
      Post (λ ts r'. Led (argument_words ts) [] r r' × (length ts ≡ n) × Each (LegibleTerm H k S) ts) (arguments D (term D k S) n r)
  unfolding arguments argument_words Each
  arguments-led k S zero r = holds (led-none r, refl, tt)
  arguments-led k S (suc n) r =
      bind-post (operand-led (terms k S) (term D k S) (term-spelt k S) r) λ t r₁ (k₁, g).
      bind-post (arguments-led k S n r₁) λ ts r₂ (k₂, e, gs).
      holds (led-both k₁ k₂, ap suc e, (g, gs))
