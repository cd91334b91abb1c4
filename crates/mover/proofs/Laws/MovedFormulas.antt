-- The words of a formula that stands in the table of tokens, rewritten: division in the spelling of the edition that is written, and what stands
-- for an empty range in place of it. Assumes nothing.
use Prim.Native.Nat.{ℕ, suc, ◌+◌, ◌≤◌}
use native.Mathlib.Omega.{arith}
use mathlib.Core.Path.{◌≡◌, refl, sym, ◌∙◌, ap, subst}
use mathlib.Core.Bool.{Bool, true, false, and-false}
use mathlib.Core.List.{List, [], ◌∷◌, ◌++◌, append_assoc, append-nil}
use lib.ListN.{length}
use lib.Dec.{leb}
use borrow.Author.Tests.{lt-ltb, le-ltb, lt-leb, ne_eqb}
use Rattle.specification.specs.Bytes.{Bytes, bytes, pick, between, begins, class_of, class_number, is_in, in_number}
use Rattle.specification.specs.Number.{digits, printℕ, printℤ}
use Rattle.specification.specs.Lines.{Declared}
use Rattle.specification.specs.Ast.{Op, add, sub, mul, quo, rem, div, modulo, Rel, ne, lt, le, gt, ge, Term, constant, scalar_at, local_at, parameter, element_at, apply, Formula, truth, and, or, imp, neg, eq, compare, ex, some, all, call}
use Rattle.specification.specs.Words.{true_word, and_word, or_word, imp_word, not_word, eq_word, ex_word, some_word, all_word, call_word, rel_word, constant_word, scalar_word, local_word, array_word, parameter_word, op_word, Word, formula_word, term_word, number_word}
use Rattle.specification.specs.Formula.{empty_range}
use Rattle.specification.specs.WellFormed.{Scope, enter, OkTerm, Ok}
use Rattle.specification.specs.Text.{led, parted, op_text, formula_word_text, term_word_text, word_text, term_words, argument_words, binder_word, formula_words, spelt}
use Rattle.specification.specs.Moves.{older, newer}
use Rattle.specification.specs.Tidy.{falsehood, dropped}
use Rattle.tables.specs.Layout.{Words, end_at}
use Rattle.tables.specs.Codes.{some_code, all_code, quo_code, rem_code, procedure_code}
use Rattle.sheet.specs.Codes.{rel_code, op_code}
use Rattle.sheet.specs.Held.{TokenAt, TermAt, TermsAt, ArgumentsAt, LocalAt, FormulaAt}
use Rattle.mover.specs.Model.{in_word, is_key, chunks, token_code, empty_at, stand_in, spelling, until_after, word_piece, mark_piece, rewritten}
use Rattle.mover.proofs.Laws.MovedChunks.{word-letters, Mark, word-rewritten, rewritten-past}
use Rattle.mover.proofs.Laws.MovedTokens.{token-code, none-empty, range-empty, formula-end}

-- which edition has the spelling
abbrev pub edition_of : Bool → ℕ
edition_of true = newer
edition_of false = older

-- ---- words

-- one at least
pub data Filled : List Word → Type 0 where
  filled : (x : Word) (ws : List Word) → Filled (x ∷ ws)

filled-++ : {us : List Word} (vs : List Word) → Filled us → Filled (us ++ vs)
filled-++ vs (filled x ws) = filled x (ws ++ vs)

led-++ : (e : ℕ) (us vs : List Word) →
    led (bytes " ") (word_text e) (us ++ vs) ≡ led (bytes " ") (word_text e) us ++ led (bytes " ") (word_text e) vs
unfolding led
led-++ e [] vs = refl
led-++ e (x ∷ us) vs =
    rw (led-++ e us vs, append_assoc (word_text e x) (led (bytes " ") (word_text e) us) (led (bytes " ") (word_text e) vs))

-- a space between
spelt-++ : (e : ℕ) (us vs : List Word) → Filled us → Filled vs → spelt e (us ++ vs) ≡ spelt e us ++ 32 ∷ spelt e vs
unfolding parted led
spelt-++ e us vs (filled x xs) (filled y ys) =
    let l = led (bytes " ") (word_text e) in
    rw (led-++ e xs (y ∷ ys), append_assoc (word_text e x) (l xs) (32 ∷ (word_text e y ++ l ys)))

space : Mark false 32
unfolding in_word is_in class_number class_of in_number is_key begins
space = record { outside = refl; ends = λ t. refl }

-- ---- spelling

-- the word of a token with this code is spelt anew, from the text of any edition
abbrev Respells : Bool → ℕ → Word → Type 0
Respells newer k x = (e : ℕ) → spelling newer k (word_text e x) ≡ word_text (edition_of newer) x

-- and it is no quantifier
abbrev Plain : Bool → ℕ → Word → Type 0
Plain newer k x = (between some_code all_code k ≡ false) × Respells newer k x

op-plain : (newer : Bool) (o : Op) → Plain newer (op_code o) (term_word (op_word o))
unfolding spelling word_text term_word_text op_text
op-plain newer add = (refl, λ e. refl)
op-plain newer sub = (refl, λ e. refl)
op-plain newer mul = (refl, λ e. refl)
op-plain newer div = (refl, λ e. refl)
op-plain newer modulo = (refl, λ e. refl)
op-plain true quo = (refl, λ e. refl)
op-plain false quo = (refl, λ e. refl)
op-plain true rem = (refl, λ e. refl)
op-plain false rem = (refl, λ e. refl)

rel-plain : (newer : Bool) (r : Rel) → Plain newer (rel_code r) (formula_word (rel_word r))
unfolding spelling word_text
rel-plain newer ne = (refl, λ e. refl)
rel-plain newer lt = (refl, λ e. refl)
rel-plain newer le = (refl, λ e. refl)
rel-plain newer gt = (refl, λ e. refl)
rel-plain newer ge = (refl, λ e. refl)

number-plain : (newer : Bool) (K n : ℕ) → Plain newer (procedure_code + n) (number_word K)
unfolding spelling word_text
number-plain newer K n =
    let k = procedure_code + n in (
      rw (lt-leb k all_code (omega arith)) (and-false (leb some_code k)),
      λ e. rw (ne_eqb k quo_code (λ h. omega (arith, h)), ne_eqb k rem_code (λ h. omega (arith, h))),
    )

-- ---- what is written, with the text of edition e

module _ (w : Words) (newer : Bool) (e : ℕ) where
  -- for the words us of the tokens from i up to j the words vs
  pub record Writes (us vs : List Word) (i j : ℕ) : Type 0 where
    pub from : Filled us
    pub to : Filled vs
    pub is : (m : ℕ) → Mark false m → (rest : Bytes) →
        rewritten w newer i 0 (chunks (spelt e us ++ m ∷ rest)) ≡ spelt (edition_of newer) vs ++ m ∷ rewritten w newer j 0 (chunks rest)

  up_to : {us vs : List Word} {i j k : ℕ} → j ≡ k → Writes us vs i j → Writes us vs i k
  up_to {us} {vs} {i} f h = subst (λ k. Writes us vs i k) f h

  -- one after the other
  then : {us vs us' vs' : List Word} {i j k : ℕ} → Writes us us' i j → Writes vs vs' j k → Writes (us ++ vs) (us' ++ vs') i k
  then {us} {vs} {us'} {vs'} {i} {j} {k} h l = record {
    from = filled-++ vs h.from;
    to = filled-++ vs' h.to;
    is = λ m mark rest.
        rw (
          spelt-++ e us vs h.from l.from,
          append_assoc (spelt e us) (32 ∷ spelt e vs) (m ∷ rest),
          h.is 32 space (spelt e vs ++ m ∷ rest),
          l.is m mark rest,
          spelt-++ (edition_of newer) us' vs' h.to l.to,
          append_assoc (spelt (edition_of newer) us') (32 ∷ spelt (edition_of newer) vs') (m ∷ rewritten w newer k 0 (chunks rest)),
        );
  }

  -- a word that is no empty range's
  word : (x : Word) (i : ℕ) → empty_at w i ≡ false → Respells newer (token_code w i) x → Writes (x ∷ []) (x ∷ []) i (suc i)
  unfolding parted led word_piece mark_piece until_after
  word x i f s = record {
    from = filled x [];
    to = filled x [];
    is = λ m mark rest.
        rw (append-nil (word_text e x), append-nil (word_text (edition_of newer) x))
        (word-rewritten w newer (word_text e x) m rest (word-letters e x) i 0 mark
        ∙ rw (le-ltb i 0 (omega arith), f, s e, le-ltb (suc i) 0 (omega arith)));
  }

  token : {i k j : ℕ} (x : Word) → TokenAt w i k j → Plain newer k x → Writes (x ∷ []) (x ∷ []) i (suc i)
  token {i} x t (b, s) = word x i (none-empty w t b) (subst (λ c. Respells newer c x) (sym (token-code w t)) s)

  -- ---- terms

  term-writes : (t : Term) (i : ℕ) → TermAt w i t → Writes (term_words t) (term_words t) i (end_at w i)
  unfolding term_words spelling word_text term_word_text
  term-writes (constant z) i h = up_to (sym h.0.end) (token (term_word (constant_word z)) h.0 (refl, λ e. refl))
  term-writes (scalar_at n) i h = up_to (sym h.0.end) (token (term_word (scalar_word n)) h.0 (refl, λ e. refl))
  term-writes (local_at l) i h = up_to (sym h.0.end) (token (term_word (local_word l)) h.0 (refl, λ e. refl))
  term-writes (parameter n) i h = up_to (sym h.0.end) (token (term_word (parameter_word n)) h.0 (refl, λ e. refl))
  term-writes (element_at a t) i h =
      up_to (sym h.0.end) (then (token (term_word (array_word a)) h.0 (refl, λ e. refl)) (term-writes t (suc i) h.2))
  term-writes (apply o s t) i h =
      up_to (sym h.0.end)
      (then (token (term_word (op_word o)) h.0 (op-plain newer o))
      (then (term-writes s (suc i) h.1) (term-writes t (end_at w (suc i)) h.2)))

  terms-write : (s t : Term) (i j : ℕ) → TermsAt w i j s t → Writes (term_words s ++ term_words t) (term_words s ++ term_words t) i j
  terms-write s t i j h = up_to h.2 (then (term-writes s i h.0) (term-writes t (end_at w i) h.1))

  -- terms after other words
  arguments-write : (ts : List Term) {us vs : List Word} {i : ℕ} (j k : ℕ) → Writes us vs i j → ArgumentsAt w j k ts →
      Writes (us ++ argument_words ts) (vs ++ argument_words ts) i k
  unfolding argument_words
  arguments-write [] {us} {vs} j k h a = rw (append-nil us, append-nil vs) (up_to a h)
  arguments-write (t ∷ ts) {us} {vs} j k h a =
      rw (← append_assoc us (term_words t) (argument_words ts), ← append_assoc vs (term_words t) (argument_words ts))
      (arguments-write ts (end_at w j) k (then h (term-writes t j a.0)) a.1)

  -- ---- an empty range

  -- the tokens before `until` are dropped, with the marks between them
  passed : (ws : List Word) → Filled ws → (i until : ℕ) → until ≡ i + length ws → (m : ℕ) → Mark false m → (rest : Bytes) →
      rewritten w newer i until (chunks (spelt e ws ++ m ∷ rest)) ≡ m ∷ rewritten w newer until 0 (chunks rest)
  unfolding parted led word_piece mark_piece until_after
  passed [] f i until h m mark rest = elim f [ ]
  passed (x ∷ []) f i until h m mark rest =
      let last : suc i ≡ until = omega arith in
      rw (append-nil (word_text e x))
      (word-rewritten w newer (word_text e x) m rest (word-letters e x) i until mark
      ∙ rw (lt-ltb i until (omega arith), le-ltb (suc i) until (omega arith))
      (ap (m ∷◌) (rewritten-past w newer (chunks rest) (suc i) until (omega arith) ∙ ap (λ k. rewritten w newer k 0 (chunks rest)) last)))
  passed (x ∷ y ∷ ws) f i until h m mark rest =
      rw (append_assoc (word_text e x) (32 ∷ spelt e (y ∷ ws)) (m ∷ rest))
      (word-rewritten w newer (word_text e x) 32 (spelt e (y ∷ ws) ++ m ∷ rest) (word-letters e x) i until space
      ∙ rw (lt-ltb i until (omega arith), lt-ltb (suc i) until (omega arith)) (passed (y ∷ ws) (filled y ws) (suc i) until (omega arith) m mark rest))

  stands-in : (x : Word) (ws vs : List Word) (i : ℕ) → Filled ws → Filled vs → empty_at w i ≡ true → stand_in w i ≡ spelt (edition_of newer) vs →
      end_at w i ≡ i + suc (length ws) → Writes (x ∷ ws) vs i (end_at w i)
  unfolding word_piece mark_piece until_after parted led
  stands-in x ws vs i f g h s l = record {
    from = filled x ws;
    to = g;
    is = λ m mark rest.
        rw (spelt-++ e (x ∷ []) ws (filled x []) f, append-nil (word_text e x), append_assoc (word_text e x) (32 ∷ spelt e ws) (m ∷ rest))
        (word-rewritten w newer (word_text e x) 32 (spelt e ws ++ m ∷ rest) (word-letters e x) i 0 space
        ∙ rw (le-ltb i 0 (omega arith), h, s, lt-ltb (suc i) (end_at w i) (omega (arith, some_words ws f)))
        (ap (spelt (edition_of newer) vs ++◌) (passed ws f (suc i) (end_at w i) (omega arith) m mark rest)));
  }
    where
      some_words : (ws : List Word) → Filled ws → 1 ≤ length ws
      some_words ws (filled x xs) = omega arith

  -- ---- formulas

  -- a quantifier's words after the first
  abbrev bound : ℕ → Term → Term → Formula → List Word
  bound l a b F = binder_word l ∷ (term_words a ++ (term_words b ++ formula_words F))

  -- a quantifier, with the words of what stands for it
  range-writes : (D : Declared) (S : Scope) (x : Word) (vs : List Word) (l : ℕ) (a b : Term) (F : Formula) {i k : ℕ} (j : ℕ) →
      between some_code all_code k ≡ true → Respells newer k x → Filled vs → stand_in w i ≡ spelt (edition_of newer) vs →
      TokenAt w i k (end_at w j) → LocalAt w (suc i) l → TermsAt w (suc (suc i)) j a b → OkTerm D S a → OkTerm D S b →
      end_at w i ≡ i + suc (length (bound l a b F)) → Writes (formula_words F) (formula_words (dropped F)) j (end_at w j) →
      Writes (x ∷ bound l a b F) (pick (empty_range a b) vs (x ∷ bound l a b (dropped F))) i (end_at w i)
  unfolding spelling word_text term_word_text
  range-writes D S x vs l a b F {i} {k} j range spells full stand at binds bounds low high end body =
      go (empty_range a b) (range-empty w D S a b at range low high bounds)
    where
      go : (c : Bool) → empty_at w i ≡ c → Writes (x ∷ bound l a b F) (pick c vs (x ∷ bound l a b (dropped F))) i (end_at w i)
      go true c = stands-in x (bound l a b F) vs i (filled (binder_word l) _) full c stand end
      go false c =
          up_to (sym at.end)
          (then (word x i c (subst (λ z. Respells newer z x) (sym (token-code w at)) spells))
          (then (token (binder_word l) binds.0 (refl, λ e. refl))
          (then (term-writes a (suc (suc i)) bounds.0) (then (up_to bounds.2 (term-writes b (end_at w (suc (suc i))) bounds.1)) body))))

  stand-some : {i j : ℕ} (n : ℕ) → TokenAt w i some_code j → stand_in w i ≡ spelt (edition_of newer) (formula_words (falsehood n))
  unfolding stand_in formula_words term_words parted led word_text formula_word_text term_word_text printℤ printℕ digits
  stand-some n t = rw (token-code w t)

  stand-all : {i j : ℕ} → TokenAt w i all_code j → stand_in w i ≡ spelt (edition_of newer) (formula_words truth)
  unfolding stand_in formula_words parted led word_text formula_word_text
  stand-all t = rw (token-code w t)

  pick-words : (c : Bool) (F G : Formula) → pick c (formula_words F) (formula_words G) ≡ formula_words (pick c F G)
  pick-words true F G = refl
  pick-words false F G = refl

  pub formula-writes : (D : Declared) (S : Scope) (F : Formula) (i : ℕ) → FormulaAt w i F → Ok D S F →
      Writes (formula_words F) (formula_words (dropped F)) i (end_at w i)
  unfolding formula_words dropped Ok spelling word_text term_word_text
  formula-writes D S truth i h k = up_to (sym h.end) (token (formula_word true_word) h (refl, λ e. refl))
  formula-writes D S (and F G) i h k =
      up_to (sym h.0.end)
      (then (token (formula_word and_word) h.0 (refl, λ e. refl))
      (then (formula-writes D S F (suc i) h.1 k.0) (formula-writes D S G (end_at w (suc i)) h.2 k.1)))
  formula-writes D S (or F G) i h k =
      up_to (sym h.0.end)
      (then (token (formula_word or_word) h.0 (refl, λ e. refl))
      (then (formula-writes D S F (suc i) h.1 k.0) (formula-writes D S G (end_at w (suc i)) h.2 k.1)))
  formula-writes D S (imp n F G) i h k =
      up_to (sym h.0.end)
      (then (token (formula_word imp_word) h.0 (refl, λ e. refl))
      (then (formula-writes D S F (suc i) h.2 k.0) (formula-writes D S G (end_at w (suc i)) h.3 k.1)))
  formula-writes D S (neg n F) i h k =
      up_to (sym h.0.end) (then (token (formula_word not_word) h.0 (refl, λ e. refl)) (formula-writes D S F (suc i) h.2 k))
  formula-writes D S (eq n s t) i h k = then (token (formula_word eq_word) h.0 (refl, λ e. refl)) (terms-write s t (suc i) (end_at w i) h.2)
  formula-writes D S (compare n r s t) i h k =
      then (token (formula_word (rel_word r)) h.0 (rel-plain newer r)) (terms-write s t (suc i) (end_at w i) h.2)
  formula-writes D S (ex l F) i h k =
      up_to (sym h.0.end)
      (then (token (formula_word ex_word) h.0 (refl, λ e. refl))
      (then (token (binder_word l) h.1.0 (refl, λ e. refl)) (formula-writes D (enter S l) F (suc (suc i)) h.2 k.2)))
  formula-writes D S (some n l a b F) i h k =
      let j = end_at w (end_at w (suc (suc i))) in
      let body = formula-writes D (enter S l) F j h.4 k.4 in
      let end = formula-end w (some n l a b F) i h in
      subst (λ vs. Writes (formula_words (some n l a b F)) vs i (end_at w i)) (pick-words (empty_range a b) (falsehood n) (some n l a b (dropped F)))
      (range-writes D S (formula_word some_word) (formula_words (falsehood n)) l a b F j refl (λ e. refl) (filled _ _) (stand-some n h.0)
      h.0 h.2 h.3 k.0 k.1 end body)
  formula-writes D S (all n l a b F) i h k =
      let j = end_at w (end_at w (suc (suc i))) in
      let body = formula-writes D (enter S l) F j h.4 k.4 in
      let end = formula-end w (all n l a b F) i h in
      subst (λ vs. Writes (formula_words (all n l a b F)) vs i (end_at w i)) (pick-words (empty_range a b) truth (all n l a b (dropped F)))
      (range-writes D S (formula_word all_word) (formula_words truth) l a b F j refl (λ e. refl) (filled _ _) (stand-all h.0)
      h.0 h.2 h.3 k.0 k.1 end body)
  formula-writes D S (call K ts F) i h k =
      up_to (sym h.0.end)
      (arguments-write ts (suc (suc i)) (end_at w (suc i))
      (then (token (formula_word call_word) h.0 (refl, λ e. refl)) (token (number_word K) h.1 (number-plain newer K (length ts))))
      h.3)
