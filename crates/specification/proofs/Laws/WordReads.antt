-- The words of a legible formula are read in any edition that has them: what a reader needs for words one after the other, then a token, then a
-- law for each reader of specs/Formula.antt but that of formulas, which is in FormulaReads. Assumes nothing.
use Prim.Native.Nat.{ℕ, zero, suc, ◌+◌, ◌≤◌, ◌<◌}
use native.Mathlib.Omega.{arith}
use mathlib.Core.Path.{◌≡◌, refl, sym, ◌∙◌, ap, subst}
use mathlib.Core.Bool.{Bool, true, false}
use mathlib.Core.List.{List, [], ◌∷◌, ◌++◌, append_assoc}
use mathlib.Core.Option.{Option, some as just}
use lib.ListN.{length, length-append}
use lib.Dec.{ltb}
use lib.Seq.{drop-append_seam}
use borrow.Author.Tests.{lt-ltb}
use Rattle.specification.specs.Lists.{Each}
use Rattle.specification.specs.Bytes.{Bytes, in_token}
use Rattle.specification.specs.Parser.{Reader, found, Parser, give, require, and_then, ◌>>=◌, ◌>>◌, taken}
use Rattle.specification.specs.Lines.{Declared}
use Rattle.specification.specs.Ast.{Term, constant, scalar_at, local_at, parameter, element_at, apply}
use Rattle.specification.specs.Words.{Word, number_word, word_of, number_of}
use Rattle.specification.specs.Formula.{Token, token, operand, Locals, has, binder, procedure, term, arguments}
use Rattle.specification.specs.Text.{led, parted, word_text, term_words, argument_words, binder_word, spelt}
use Rattle.specification.proofs.Laws.Contradiction.{contradiction}
use Rattle.specification.proofs.Laws.Lists.{each-parts}
use Rattle.specification.proofs.Laws.Canonical.{run-whole, printℕ-token}
use Rattle.specification.proofs.Laws.Spelling.{Belongs, word_of-text, word_text-token, spelt-number}
use Rattle.specification.proofs.Laws.Pieces.{at, Reads, give-reads, bind-reads, then-reads, space-reads}
use Rattle.specification.proofs.Laws.Legible.{Shape, shape_of, counts-length, Deep, LegibleTerm, added, Fresh, added-++, fresh-parts}
use Rattle.specification.proofs.Laws.Taken.{most_tokens}
use Rattle.specification.proofs.Laws.WordPieces.{NoToken, Fits, led_in, led-token, led-++, led-some}

-- ---- what a reader needs, and what it has afterwards

-- the reader with so many tokens and these binders
abbrev having : ℕ → Locals → Reader → Reader
having n B r = record { place = r.place; rest = r.rest; tokens = n; bound = B }

-- so many tokens more, and these binders
abbrev pub grown : ℕ → List ℕ → Reader → Reader
grown n ls r = having (r.tokens + n) (added ls r.bound) r

-- one token more
abbrev pub counted : Reader → Reader
counted r = having (suc r.tokens) r.bound r

module _ (D : Declared) where
  abbrev edition : ℕ
  edition = D.edition

  -- the edition has the words, there is room for them, and the locals have no binder
  pub record Ready (ws : List Word) (ls : List ℕ) (r : Reader) : Type 0 where
    pub fits : Each (Fits edition) ws
    pub room : r.tokens + length ws ≤ most_tokens
    pub fresh : Fresh r.bound ls

  pub ready-parts : (ws us : List Word) (ls ms : List ℕ) (r : Reader) → Ready (ws ++ us) (ls ++ ms) r →
      Ready ws ls r × Ready us ms (grown (length ws) ls r)
  ready-parts ws us ls ms r h =
      let (f, g) = each-parts (Fits edition) ws us h.fits in
      let (x, y) = fresh-parts ls ms r.bound h.fresh in
      let e = length-append ws us in
      (record { fits = f; room = omega (arith, e, h.room); fresh = x }, record { fits = g; room = omega (arith, e, h.room); fresh = y })

  module _ {A : Type 0} where
    -- words are read as a, each after a space
    abbrev pub Goes : Parser A → List Word → List ℕ → A → Reader → Type 0
    Goes q ws ls a r = Reads NoToken q (led_in edition ws) a r (grown (length ws) ls r)

    -- the first without the space
    abbrev pub Starts : Parser A → List Word → List ℕ → A → Reader → Type 0
    Starts q ws ls a r = Reads NoToken q (spelt edition ws) a r (grown (length ws) ls r)

    reads-to : {E : Bytes → Type 0} {q : Parser A} {t u : Bytes} {a : A} {r r₁ r₂ : Reader} → t ≡ u → r₁ ≡ r₂ →
        Reads E q t a r r₁ → Reads E q u a r r₂
    reads-to {E} {q} {t} {u} {a} {r} {r₁} {r₂} e f h =
        subst (λ (x : Bytes). Reads E q x a r r₂) e (subst (λ x. Reads E q t a r x) f h)

    pub operand-goes : (q : Parser A) (ws : List Word) (ls : List ℕ) (a : A) (r : Reader) → ¬ (ws ≡ []) →
        Starts q ws ls a r → Goes (operand q) ws ls a r
    operand-goes q ws ls a r n h =
        reads-to (led-some edition ws n) refl (bind-reads (λ u. q) (λ w e. tt) (space-reads r) h)

    -- nothing but the word itself
    pub none-goes : (a : A) (r : Reader) → Goes (give a) [] [] a r
    unfolding led added
    none-goes a r = reads-to refl (ap (λ (n : ℕ). having n r.bound r) (omega arith)) (give-reads a r)

    required : {q : Parser A} {t : Bytes} {a : A} {r r' : Reader} (b : Bool) (n p : ℕ) → b ≡ true →
        Reads NoToken q t a r r' → Reads NoToken (require b n p q) t a r r'
    required true n p e h = h
    required false n p e h = contradiction cc

    -- a test before a reader that reads nothing of its own
    pub guarded : {q : Parser A} {t : Bytes} {a : A} {r r' : Reader} (b : Bool) (n p : ℕ) → b ≡ true →
        Reads NoToken q t a r r' → Reads NoToken (require b n p (give {A = Unit {0}} tt) >> q) t a r r'
    guarded true n p e h = h
    guarded false n p e h = contradiction cc

  module _ {A B : Type 0} where
    pub both : (q : Parser A) (f : A → Parser B) (ws us : List Word) (ls ms : List ℕ) (a : A) (b : B) (r : Reader) →
        Goes q ws ls a r → Goes (f a) us ms b (grown (length ws) ls r) → Goes (q >>= f) (ws ++ us) (ls ++ ms) b r
    both q f ws us ls ms a b r h k =
        let n : r.tokens + length ws + length us ≡ r.tokens + length (ws ++ us) = omega (arith, length-append ws us) in
        reads-to (led-++ edition ws us)
        (ap (λ (m : ℕ). having m (added ms (added ls r.bound)) r) n
        ∙ ap (λ B. having (r.tokens + length (ws ++ us)) B r) (added-++ ls ms r.bound))
        (bind-reads f (λ w e. led-token edition us w e) h k)

    pub into : {q : Parser A} {t : Bytes} {a : A} {r r' : Reader} (g : A → B) → Reads NoToken q t a r r' →
        Reads NoToken (q >>= λ x. give (g x)) t (g a) r r'
    into g h = then-reads (λ x. give (g x)) h (λ p w. refl)

  -- ---- a token

  abbrev tok : ℕ → ℕ → Word → Token
  tok p n w = record { place = p; number = n; word = w }

  token-reads : (word : Bytes → Option Word) (w : Word) (t : Bytes) → word t ≡ just w → Each (λ b. in_token b ≡ true) t →
      (r : Reader) → r.tokens < most_tokens → (p : ℕ) (v : Bytes) → NoToken v →
      token word (at p (t ++ v) r) ≡ found (tok p r.tokens w) (at (p + length t) v (counted r))
  unfolding token taken
  token-reads word w t e h r few p v n = rw (lt-ltb r.tokens most_tokens few, run-whole in_token t v h n, e, drop-append_seam t v)

  -- and the words after it
  token-starts : {A : Type 0} (word : Bytes → Option Word) (w : Word) → word (word_text edition w) ≡ just w →
      Each (λ b. in_token b ≡ true) (word_text edition w) → (f : Token → Parser A) (us : List Word) (ls : List ℕ) (a : A) (r : Reader) →
      r.tokens + length (w ∷ us) ≤ most_tokens → ((p : ℕ) → Goes (f (tok p r.tokens w)) us ls a (counted r)) →
      Starts (token word >>= f) (w ∷ us) ls a r
  unfolding parted
  token-starts word w e h f us ls a r room k = record {
    is = λ p v n.
        let t = word_text edition w in
        let few : r.tokens < most_tokens = omega (arith, room) in
        let read =
        ap (λ (b : Bytes). token word (at p b r)) (append_assoc t (led_in edition us) v)
        ∙ token-reads word w t e h r few p (led_in edition us ++ v) (led-token edition us v n) in
        ap (and_then f) read ∙ (k p).is (p + length t) v n
        ∙ ap (λ (m : ℕ). found a (at m v (grown (length us) ls (counted r)))) (omega (arith, length-append t (led_in edition us)))
        ∙ ap (λ (m : ℕ). found a (at (p + length (t ++ led_in edition us)) v (having m (added ls r.bound) r))) (omega arith);
  }

  -- a word of the set
  pub word-starts : {A : Type 0} (w : Word) → (Fits edition w → Belongs edition w) →
      (f : Token → Parser A) (us : List Word) (ls : List ℕ) (a : A) (r : Reader) →
      Ready (w ∷ us) ls r → (Ready us ls (counted r) → (p : ℕ) → Goes (f (tok p r.tokens w)) us ls a (counted r)) →
      Starts (token (word_of edition) >>= f) (w ∷ us) ls a r
  unfolding Each
  word-starts w belongs f us ls a r h k =
      token-starts (word_of edition) w (word_of-text edition w (belongs h.fits.0)) (word_text-token edition w) f us ls a r h.room
      (k (record { fits = h.fits.1; room = omega (arith, h.room); fresh = h.fresh }))

  -- ---- terms

  abbrev H : Shape
  H = shape_of D

  term-some : (t : Term) → ¬ (term_words t ≡ [])
  unfolding term_words
  term-some (constant z) e = contradiction cc
  term-some (scalar_at n) e = contradiction cc
  term-some (local_at l) e = contradiction cc
  term-some (parameter n) e = contradiction cc
  term-some (element_at a t) e = contradiction cc
  term-some (apply o s t) e = contradiction cc

  -- each term of its words
  abbrev pub TermReads : ℕ → Locals → Type 0
  TermReads k S = (t : Term) (r : Reader) → LegibleTerm H k S t → Ready (term_words t) [] r → Starts (term D k S) (term_words t) [] t r

  module _ (k : ℕ) (S : Locals) (T : TermReads k S) where
    pub one-term : (t : Term) (r : Reader) → LegibleTerm H k S t → Ready (term_words t) [] r → Goes (operand (term D k S)) (term_words t) [] t r
    one-term t r h k = operand-goes _ (term_words t) [] t r (term-some t) (T t r h k)

    -- two terms, and what is made of them
    pub two-terms : {A : Type 0} (g : Term → Term → A) (s t : Term) (r : Reader) → LegibleTerm H k S s → LegibleTerm H k S t →
        Ready (term_words s ++ term_words t) [] r →
        Goes (operand (term D k S) >>= λ x. operand (term D k S) >>= λ y. give (g x y)) (term_words s ++ term_words t) [] (g s t) r
    two-terms g s t r hs ht ready =
        let (x, y) = ready-parts (term_words s) (term_words t) [] [] r ready in
        both _ _ (term_words s) (term_words t) [] [] s (g s t) r (one-term s r hs x) (into (g s) (one-term t _ ht y))

    term-of : (t : Term) (r : Reader) → LegibleTerm H (suc k) S t → Ready (term_words t) [] r → Starts (term D (suc k) S) (term_words t) [] t r
    unfolding term term_words LegibleTerm
    term-of (constant z) r h ready = word-starts _ (λ b. b) _ [] [] (constant z) r ready λ ok p. none-goes (constant z) (counted r)
    term-of (scalar_at n) r h ready =
        word-starts _ (λ b. b) _ [] [] (scalar_at n) r ready λ ok p. required (ltb n D.scalars) 7 p h (none-goes (scalar_at n) (counted r))
    term-of (local_at l) r h ready =
        word-starts _ (λ b. b) _ [] [] (local_at l) r ready λ ok p.
        required (ltb l D.locals) 7 p h.0 (required (has l S) 8 p h.1 (none-goes (local_at l) (counted r)))
    term-of (parameter n) r h ready =
        word-starts _ (λ b. b) _ [] [] (parameter n) r ready λ ok p. required (ltb n D.parameters) 12 p h (none-goes (parameter n) (counted r))
    term-of (element_at a t) r h ready =
        word-starts _ (λ b. b) _ (term_words t) [] (element_at a t) r ready λ ok p.
        required (ltb a (length D.arrays)) 7 p h.0 (into (element_at a) (one-term t (counted r) h.1 ok))
    term-of (apply o s t) r h ready =
        word-starts _ (λ b. b) _ (term_words s ++ term_words t) [] (apply o s t) r ready λ ok p.
        two-terms (apply o) s t (counted r) h.0 h.1 ok

  pub term-starts : (k : ℕ) (S : Locals) → TermReads k S
  unfolding LegibleTerm
  term-starts zero S t r h ready = absurd h
  term-starts (suc k) S t r h ready = term-of k S (term-starts k S) t r h ready

  -- ---- binders, the procedure of a call, and its arguments

  pub binder-goes : (k l : ℕ) (r : Reader) → Deep k → ltb l D.locals ≡ true → Ready (binder_word l ∷ []) (l ∷ []) r →
      Goes (operand (binder D k)) (binder_word l ∷ []) (l ∷ []) l r
  unfolding binder led added Fresh
  binder-goes zero l r d e ready = absurd d
  binder-goes (suc k) l r d e ready =
      operand-goes _ (binder_word l ∷ []) (l ∷ []) l r (λ f. contradiction cc)
      (word-starts (binder_word l) (λ b. b) _ [] (l ∷ []) l r ready λ ok p.
      required (ltb l D.locals) 7 p e (record {
        is = λ m w n.
            rw ready.fresh.0 (ap (λ (x : ℕ). found l (at x w (having (suc r.tokens) (l ∷ r.bound) r))) (omega arith)
            ∙ ap (λ (x : ℕ). found l (at (m + 0) w (having x (l ∷ r.bound) r))) (omega arith));
      }))

  pub procedure-goes : (k K : ℕ) (r : Reader) → Deep k → ltb K (length H.called) ≡ true → r.tokens + 1 ≤ most_tokens →
      Goes (operand (procedure D k)) (number_word K ∷ []) [] K r
  unfolding procedure word_text
  procedure-goes zero K r d e room = absurd d
  procedure-goes (suc k) K r d e room =
      operand-goes _ (number_word K ∷ []) [] K r (λ f. contradiction cc)
      (token-starts number_of (number_word K) (spelt-number K) (printℕ-token K) _ [] [] K r room λ p.
      required (ltb K (length D.procedures)) 11 p (ap (ltb K) (sym (counts-length D.procedures)) ∙ e) (none-goes K (counted r)))

  pub arguments-goes : (k : ℕ) (S : Locals) (ts : List Term) (r : Reader) → Each (LegibleTerm H k S) ts → Ready (argument_words ts) [] r →
      Goes (arguments D (term D k S) (length ts)) (argument_words ts) [] ts r
  unfolding arguments argument_words Each
  arguments-goes k S [] r h ready = none-goes [] r
  arguments-goes k S (t ∷ ts) r h ready =
      let (x, y) = ready-parts (term_words t) (argument_words ts) [] [] r ready in
      both _ _ (term_words t) (argument_words ts) [] [] t (t ∷ ts) r (one-term k S (term-starts k S) t r h.0 x)
      (into (λ (us : List Term). t ∷ us) (arguments-goes k S ts _ h.1 y))
