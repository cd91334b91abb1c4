-- A formula that is read is the text of its words, which its edition has; it is legible, its tokens have the numbers that they get, and where
-- empty ranges are refused it has none. Assumes nothing.
use Prim.Native.Nat.{ℕ, zero, suc, ◌+◌}
use native.Mathlib.Omega.{arith}
use mathlib.Core.Path.{◌≡◌, refl, sym, ◌∙◌, ap, subst}
use mathlib.Core.Bool.{Bool, true, false, not, ◌&&◌, ◌||◌}
use mathlib.Core.List.{[], ◌∷◌, ◌++◌}
use lib.ListN.{length, length-append}
use lib.Dec.{ltb}
use Rattle.specification.specs.Parser.{Reader, Parser, give, require, ◌>>=◌, ◌>>◌}
use Rattle.specification.specs.Lines.{Declared, procedure_of}
use Rattle.specification.specs.Ast.{Term, Formula, and, or, imp, neg, eq, compare, ex, some, all}
use Rattle.specification.specs.Words.{FormulaWord, true_word, and_word, or_word, imp_word, not_word, eq_word, ex_word, some_word, all_word, call_word, rel_word, Word, formula_word, term_word, number_word, unknown, word_of}
use Rattle.specification.specs.Formula.{operand, Locals, binder, procedure, term, empty_range, non_empty, formula_of, formula_with, formula}
use Rattle.specification.specs.Text.{term_words, argument_words, binder_word, formula_words}
use Rattle.specification.specs.Tidy.{has_empty, token_count, numbered}
use Rattle.specification.proofs.Laws.Contradiction.{contradiction}
use Rattle.specification.proofs.Laws.Parser.{Post, refusal, holds, bind-post}
use Rattle.specification.proofs.Laws.Legible.{shape_of, counts-at, LegibleTerm, Legible, binders}
use Rattle.specification.proofs.Laws.WordPieces.{Led, Spelt, led-none, led-both, Sort, Is, IsLed, operand-led, TokenRead, token-read, tok, After, word-spelt, terms, term-spelt, locals, binder-spelt, called, procedure-spelt, arguments-led}

-- ---- formulas

neither : {a b : Bool} → a ≡ false → b ≡ false → a || b ≡ false
neither e f = rw (e, f)

-- a test before a reader that reads nothing of its own
guarded : {A : Type 0} {P : A → Reader → Type 0} (b : Bool) (n p : ℕ) (q : Parser A) (r : Reader) →
    (b ≡ true → Post P (q r)) → Post P ((require b n p (give {A = Unit {0}} tt) >> q) r)
guarded true n p q r h = h refl
guarded false n p q r h = refusal tt

quiet : (a b : Bool) → not (a && b) ≡ true → a ≡ true → b ≡ false
quiet true true e f = contradiction cc
quiet true false e f = refl
quiet false b e f = contradiction cc

module _ (refusing : Bool) (D : Declared) where
  abbrev numbered_here : ℕ → Formula → Formula
  numbered_here n F = numbered D.procedures n F

  -- as it is read where n tokens came before
  pub record AsRead (k : ℕ) (S : Locals) (n : ℕ) (F : Formula) : Type 0 where
    pub legible : Legible (shape_of D) k S F
    pub same : numbered_here n F ≡ F
    pub orderly : refusing ≡ true → has_empty F ≡ false

  renumbered : {F : Formula} {n m : ℕ} → n ≡ m → numbered_here n F ≡ F → numbered_here m F ≡ F
  renumbered {F} e h = subst (λ (i : ℕ). numbered_here i F ≡ F) e h

  abbrev formulas : ℕ → Locals → Sort D Formula
  formulas k S = record { words = formula_words; binders = binders; Good = λ n F. AsRead k S n F }

  module _ (k : ℕ) (S : Locals) (F : Locals → Parser Formula) (f : (S' : Locals) (r : Reader) → Post (Is D (formulas k S') r) (F S' r)) where
    abbrev one : (S' : Locals) (r : Reader) → Post (IsLed D (formulas k S') r) (operand (F S') r)
    one S' r = operand-led D (formulas k S') (F S') (f S') r

    abbrev T : Parser Term
    T = term D k S

    abbrev one_term : (r : Reader) → Post (IsLed D (terms D k S) r) (operand T r)
    one_term r = operand-led D (terms D k S) T (term-spelt D k S) r

    -- a word with two formulas
    joined : (w : Word) (g : Formula → Formula → Formula) (n : ℕ) →
        ((x y : Formula) → formula_words (g x y) ≡ w ∷ (formula_words x ++ formula_words y)) →
        ((x y : Formula) → binders (g x y) ≡ binders x ++ binders y) →
        ((x y : Formula) → Legible (shape_of D) k S x → Legible (shape_of D) k S y → Legible (shape_of D) (suc k) S (g x y)) →
        ((x y : Formula) → numbered_here n (g x y) ≡ g (numbered_here (suc n) x) (numbered_here (suc n + token_count x) y)) →
        ((x y : Formula) → has_empty (g x y) ≡ has_empty x || has_empty y) →
        (r : Reader) → r.tokens ≡ suc n →
        Post (After D (formulas (suc k) S) w n r) ((operand (F S) >>= λ x. operand (F S) >>= λ y. give (g x y)) r)
    joined w g n words bs legible numbers empties r e =
        bind-post (one S r) λ x r₁ (k₁, g₁).
        bind-post (one S r₁) λ y r₂ (k₂, g₂).
        let x-same = renumbered e g₁.same in
        let y-same = renumbered (k₁.taken.tokens ∙ ap (λ (m : ℕ). m + token_count x) e) g₂.same in
        holds (
          formula_words x ++ formula_words y,
          words x y,
          subst (λ ls. Led D (formula_words x ++ formula_words y) ls r r₂) (sym (bs x y)) (led-both D k₁ k₂),
          record {
            legible = legible x y g₁.legible g₂.legible;
            same = numbers x y ∙ ap (λ z. g z (numbered_here (suc n + token_count x) y)) x-same ∙ ap (g x) y-same;
            orderly = λ h. empties x y ∙ neither (g₁.orderly h) (g₂.orderly h);
          },
        )

    -- a word with two terms
    related : (w : Word) (g : Term → Term → Formula) (n : ℕ) → ((x y : Term) → formula_words (g x y) ≡ w ∷ (term_words x ++ term_words y)) →
        ((x y : Term) → binders (g x y) ≡ []) →
        ((x y : Term) → LegibleTerm (shape_of D) k S x → LegibleTerm (shape_of D) k S y → Legible (shape_of D) (suc k) S (g x y)) →
        ((x y : Term) → numbered_here n (g x y) ≡ g x y) → ((x y : Term) → has_empty (g x y) ≡ false) →
        (r : Reader) → Post (After D (formulas (suc k) S) w n r) ((operand T >>= λ x. operand T >>= λ y. give (g x y)) r)
    related w g n words bs legible same empty r =
        bind-post (one_term r) λ x r₁ (k₁, g₁).
        bind-post (one_term r₁) λ y r₂ (k₂, g₂).
        holds (
          term_words x ++ term_words y,
          words x y,
          subst (λ ls. Led D (term_words x ++ term_words y) ls r r₂) (sym (bs x y)) (led-both D k₁ k₂),
          record { legible = legible x y g₁ g₂; same = same x y; orderly = λ h. empty x y },
        )

    -- a binder with bounds
    quantified : (w : Word) (g : ℕ → Term → Term → Formula → Formula) (p n : ℕ) →
        ((l : ℕ) (a b : Term) (x : Formula) → formula_words (g l a b x) ≡ w ∷ binder_word l ∷ (term_words a ++ (term_words b ++ formula_words x))) →
        ((l : ℕ) (a b : Term) (x : Formula) → binders (g l a b x) ≡ l ∷ binders x) →
        ((l : ℕ) (a b : Term) (x : Formula) → ltb l D.locals ≡ true → LegibleTerm (shape_of D) k S a → LegibleTerm (shape_of D) k S b →
        Legible (shape_of D) k (l ∷ S) x → Legible (shape_of D) (suc k) S (g l a b x)) →
        ((l : ℕ) (a b : Term) (x : Formula) →
        numbered_here n (g l a b x) ≡ g l a b (numbered_here (2 + n + length (term_words a ++ term_words b)) x)) →
        ((l : ℕ) (a b : Term) (x : Formula) → has_empty (g l a b x) ≡ empty_range a b || has_empty x) →
        (r : Reader) → r.tokens ≡ suc n →
        Post (After D (formulas (suc k) S) w n r)
        ((operand (binder D k) >>= λ l. operand T >>= λ a. operand T >>= λ b.
        non_empty refusing p a b >> (operand (F (l ∷ S)) >>= λ x. give (g l a b x))) r)
    quantified w g p n words bs legible numbers empties r e =
        bind-post (operand-led D (locals D) (binder D k) (binder-spelt D k) r) λ l r₁ (k₁, d).
        bind-post (one_term r₁) λ a r₂ (k₂, g₂).
        bind-post (one_term r₂) λ b r₃ (k₃, g₃).
        guarded (not (refusing && empty_range a b)) 17 p _ r₃ λ range.
        bind-post (one (l ∷ S) r₃) λ x r₄ (k₄, g₄).
        let count : r₃.tokens ≡ 2 + n + length (term_words a ++ term_words b) =
        omega (arith, e, k₁.taken.tokens, k₂.taken.tokens, k₃.taken.tokens, length-append (term_words a) (term_words b)) in
        let us = binder_word l ∷ (term_words a ++ (term_words b ++ formula_words x)) in
        holds (
          us,
          words l a b x,
          subst (λ ls. Led D us ls r r₄) (sym (bs l a b x)) (led-both D k₁ (led-both D k₂ (led-both D k₃ k₄))),
          record {
            legible = legible l a b x d g₂ g₃ g₄.legible;
            same = numbers l a b x ∙ ap (g l a b) (renumbered count g₄.same);
            orderly = λ h. empties l a b x ∙ neither (quiet refusing (empty_range a b) range h) (g₄.orderly h);
          },
        )

    formula-of : (p n : ℕ) (w : FormulaWord) (r : Reader) → r.tokens ≡ suc n →
        Post (After D (formulas (suc k) S) (formula_word w) n r) (formula_of refusing D F T (binder D k) (procedure D k) S p n w r)
    unfolding formula_words binders Legible numbered has_empty
    formula-of p n true_word r e = holds ([], refl, led-none D r, record { legible = tt; same = refl; orderly = λ h. refl })
    formula-of p n and_word r e = joined (formula_word and_word) and n (λ x y. refl) (λ x y. refl) (λ x y h j. (h, j)) (λ x y. refl) (λ x y. refl) r e
    formula-of p n or_word r e = joined (formula_word or_word) or n (λ x y. refl) (λ x y. refl) (λ x y h j. (h, j)) (λ x y. refl) (λ x y. refl) r e
    formula-of p n imp_word r e =
        joined (formula_word imp_word) (imp n) n (λ x y. refl) (λ x y. refl) (λ x y h j. (h, j)) (λ x y. refl) (λ x y. refl) r e
    formula-of p n not_word r e =
        bind-post (one S r) λ x r₁ (k₁, g₁).
        holds (
          formula_words x,
          refl,
          k₁,
          record {
            legible = g₁.legible;
            same = ap (neg n) (renumbered e g₁.same);
            orderly = g₁.orderly;
          },
        )
    formula-of p n eq_word r e = related (formula_word eq_word) (eq n) n (λ x y. refl) (λ x y. refl) (λ x y h j. (h, j)) (λ x y. refl) (λ x y. refl) r
    formula-of p n (rel_word c) r e =
        related (formula_word (rel_word c)) (compare n c) n (λ x y. refl) (λ x y. refl) (λ x y h j. (h, j)) (λ x y. refl) (λ x y. refl) r
    formula-of p n ex_word r e =
        bind-post (operand-led D (locals D) (binder D k) (binder-spelt D k) r) λ l r₁ (k₁, d).
        bind-post (one (l ∷ S) r₁) λ x r₂ (k₂, g₂).
        let count : r₁.tokens ≡ 2 + n = omega (arith, e, k₁.taken.tokens) in
        holds (
          binder_word l ∷ formula_words x,
          refl,
          led-both D k₁ k₂,
          record {
            legible = (d, g₂.legible);
            same = ap (ex l) (renumbered count g₂.same);
            orderly = g₂.orderly;
          },
        )
    formula-of p n some_word r e =
        quantified (formula_word some_word) (some n) p n (λ l a b x. refl) (λ l a b x. refl) (λ l a b x d i j h. (d, i, j, h)) (λ l a b x. refl)
        (λ l a b x. refl) r e
    formula-of p n all_word r e =
        quantified (formula_word all_word) (all n) p n (λ l a b x. refl) (λ l a b x. refl) (λ l a b x d i j h. (d, i, j, h)) (λ l a b x. refl)
        (λ l a b x. refl) r e
    formula-of p n call_word r e =
        bind-post (operand-led D (called D k) (procedure D k) (procedure-spelt D k) r) λ J r₁ (k₁, g₁).
        bind-post (arguments-led D k S (procedure_of D J).parameters r₁) λ ts r₂ (k₂, many, g₂).
        holds (
          number_word J ∷ argument_words ts,
          refl,
          led-both D k₁ k₂,
          record {
            legible = (g₁.0, g₁.1, many ∙ sym (counts-at D.procedures J _), g₂);
            same = refl;
            orderly = λ h. refl;
          },
        )

    formula-with : (p n : ℕ) (w : Word) {r r₁ : Reader} → TokenRead D (word_of D.edition) r (tok D p n w) r₁ →
        Post (Is D (formulas (suc k) S) r) (formula_with refusing D F T (binder D k) (procedure D k) S (tok D p n w) w r₁)
    formula-with p n (formula_word w) {r₁ = r₁} h =
        word-spelt D (formulas (suc k) S) p n (formula_word w) h (λ e. contradiction cc) (λ b. b)
        (formula-of p n w r₁ (h.next ∙ ap suc (sym h.number)))
    formula-with p n (term_word w) h = refusal tt
    formula-with p n (number_word m) h = refusal tt
    formula-with p n unknown h = refusal tt

  pub formula-spelt : (k : ℕ) (S : Locals) (r : Reader) →
      Post (λ F r'. Spelt D (formula_words F) (binders F) r r' × AsRead k S r.tokens F) (formula refusing D k S r)
  unfolding formula
  formula-spelt zero S r = refusal tt
  formula-spelt (suc k) S r =
      bind-post (token-read D (word_of D.edition) r) λ u r₁ h.
      formula-with k S (λ S' x. formula refusing D k S' x) (λ S' r₂. formula-spelt k S' r₂) u.place u.number u.word h
