-- A formula that is read carries the numbers of its tokens, and the reader has counted them. Assumes nothing.
use Prim.Native.Nat.{ℕ, zero, suc, ◌+◌}
use native.Mathlib.Omega.{arith}
use mathlib.Core.Path.{◌≡◌, refl, subst}
use mathlib.Core.Bool.{Bool, not, ◌&&◌}
use mathlib.Core.List.{◌∷◌, ◌++◌}
use lib.ListN.{length, length-append}
use Rattle.specification.specs.Parser.{Reader, Parser, give, ◌>>=◌, ◌>>◌}
use Rattle.specification.specs.Lines.{Declared, procedure_of}
use Rattle.specification.specs.Ast.{Term, Formula, and, or, imp, eq, compare, some, all}
use Rattle.specification.specs.Words.{FormulaWord, true_word, and_word, or_word, imp_word, not_word, eq_word, ex_word, some_word, all_word, call_word, rel_word, Word, formula_word, term_word, number_word, unknown, word_of}
use Rattle.specification.specs.Formula.{Token, operand, Locals, binder, procedure, term, empty_range, non_empty, formula_of, formula_with, formula}
use Rattle.specification.proofs.Laws.Parser.{Post, refusal, holds, bind-post, require-post}
use Rattle.sheet.specs.Codes.{term_tokens, formula_tokens}
use Rattle.sheet.specs.Numbered.{term_size, formula_size, Numbered}
use Rattle.sheet.proofs.Counted.{Counted, Counting, operand-counts, token-counts, term-operand-counts, arguments-count, local-operand-counts, number-operand-counts}

-- counted from a number that is equal
pub renumbered : {m n : ℕ} (F : Formula) → m ≡ n → Numbered m F → Numbered n F
renumbered F e h = subst (λ i. Numbered i F) e h

abbrev pub FormulaFrom : ℕ → Formula → Reader → Type 0
FormulaFrom = Counting formula_size Numbered

-- a range that is not empty is no token
non_empty-counts : (refusing : Bool) (p : ℕ) (a b : Term) (r : Reader) → Post (λ u r'. r'.tokens ≡ r.tokens) (non_empty refusing p a b r)
non_empty-counts refusing p a b r = require-post (not (refusing && empty_range a b)) 17 p (give tt) r tt λ e. holds refl

-- ---- each word

module _ (refusing : Bool) (D : Declared) (k : ℕ) (ih : (S : Locals) (r : Reader) → Post (FormulaFrom r.tokens) (formula refusing D k S r))
    (S : Locals) (n : ℕ) (r : Reader) (c : Counted n 1 r.tokens) where
  abbrev F : Locals → Parser Formula
  F S' r = formula refusing D k S' r

  abbrev T : Parser Term
  T r = term D k S r

  abbrev L : Parser ℕ
  L r = binder D k r

  abbrev K : Parser ℕ
  K r = procedure D k r

  formula-operand-counts : (S : Locals) (r : Reader) → Post (FormulaFrom r.tokens) (operand (F S) r)
  formula-operand-counts S = operand-counts formula_size Numbered (F S) (ih S)

  two-formulas : (make : Formula → Formula → Formula) →
      ((f g : Formula) → Numbered (suc n) f → Numbered (suc n + formula_size f) g → Numbered n (make f g)) →
      ((f g : Formula) → formula_size (make f g) ≡ suc (length (formula_tokens f ++ formula_tokens g))) →
      Post (FormulaFrom n) ((operand (F S) >>= λ f. operand (F S) >>= λ g. give (make f g)) r)
  two-formulas make put size =
      bind-post (formula-operand-counts S r) λ f r₁ h₁.
      bind-post (formula-operand-counts S r₁) λ g r₂ h₂.
      holds (
        put f g (renumbered f (omega arith) h₁.0) (renumbered g (omega arith) h₂.0),
        record { tokens = omega (arith, size f g, length-append (formula_tokens f) (formula_tokens g)); few = h₂.1.few },
      )

  two-terms : (make : Term → Term → Formula) → ((s t : Term) → Numbered n (make s t)) →
      ((s t : Term) → formula_size (make s t) ≡ suc (length (term_tokens s ++ term_tokens t))) →
      Post (FormulaFrom n) ((operand T >>= λ s. operand T >>= λ t. give (make s t)) r)
  two-terms make put size =
      bind-post (term-operand-counts D S k r) λ s r₁ h₁.
      bind-post (term-operand-counts D S k r₁) λ t r₂ h₂.
      holds (put s t, record { tokens = omega (arith, size s t, length-append (term_tokens s) (term_tokens t)); few = h₂.1.few })

  quantified : (p : ℕ) (make : ℕ → Term → Term → Formula → Formula) →
      ((l : ℕ) (a b : Term) (f : Formula) → Numbered (suc (suc n) + term_size a + term_size b) f → Numbered n (make l a b f)) →
      ((l : ℕ) (a b : Term) (f : Formula) →
      formula_size (make l a b f) ≡ suc (suc (length (term_tokens a ++ (term_tokens b ++ formula_tokens f))))) →
      Post (FormulaFrom n) ((operand L >>= λ l. operand T >>= λ a. operand T >>= λ b. non_empty refusing p a b >>
      (operand (F (l ∷ S)) >>= λ f. give (make l a b f))) r)
  quantified p make put size =
      bind-post (local-operand-counts D k r) λ l r₁ h₁.
      bind-post (term-operand-counts D S k r₁) λ a r₂ h₂.
      bind-post (term-operand-counts D S k r₂) λ b r₃ h₃.
      bind-post (non_empty-counts refusing p a b r₃) λ u r₄ e.
      bind-post (formula-operand-counts (l ∷ S) r₄) λ f r₅ h₅.
      let whole = length-append (term_tokens a) (term_tokens b ++ formula_tokens f) in
      let part = length-append (term_tokens b) (formula_tokens f) in
      holds (
        put l a b f (renumbered f (omega arith) h₅.0),
        record { tokens = omega (arith, size l a b f, whole, part); few = h₅.1.few },
      )

  formula-of : (p m : ℕ) (w : FormulaWord) → m ≡ n → Post (FormulaFrom n) (formula_of refusing D F T L K S p m w r)
  unfolding Numbered formula_tokens
  formula-of p m true_word e = holds (tt, c)
  formula-of p m and_word e = two-formulas and (λ f g x y. (x, y)) (λ f g. refl)
  formula-of p m or_word e = two-formulas or (λ f g x y. (x, y)) (λ f g. refl)
  formula-of p m imp_word e = two-formulas (imp m) (λ f g x y. (e, x, y)) (λ f g. refl)
  formula-of p m not_word e =
      bind-post (formula-operand-counts S r) λ f r₁ h₁.
      holds ((e, renumbered f (omega arith) h₁.0), record { tokens = omega arith; few = h₁.1.few })
  formula-of p m eq_word e = two-terms (eq m) (λ s t. e) (λ s t. refl)
  formula-of p m (rel_word c) e = two-terms (compare m c) (λ s t. e) (λ s t. refl)
  formula-of p m ex_word e =
      bind-post (local-operand-counts D k r) λ l r₁ h₁.
      bind-post (formula-operand-counts (l ∷ S) r₁) λ f r₂ h₂.
      holds (renumbered f (omega arith) h₂.0, record { tokens = omega arith; few = h₂.1.few })
  formula-of p m some_word e = quantified p (some m) (λ l a b f x. (e, x)) (λ l a b f. refl)
  formula-of p m all_word e = quantified p (all m) (λ l a b f x. (e, x)) (λ l a b f. refl)
  formula-of p m call_word e =
      bind-post (number-operand-counts D k r) λ J r₁ h₁.
      bind-post (arguments-count D k S (procedure_of D J).parameters r₁ h₁.1.few) λ ts r₂ h₂.
      holds (tt, record { tokens = omega (arith, h₁.1.tokens, h₂.1.tokens); few = h₂.1.few })

  formula-with : (t : Token) (w : Word) → t.number ≡ n → Post (FormulaFrom n) (formula_with refusing D F T L K S t w r)
  formula-with t (formula_word w) e = formula-of t.place t.number w e
  formula-with t (term_word w) e = refusal tt
  formula-with t (number_word n) e = refusal tt
  formula-with t unknown e = refusal tt

-- ---- the formula

module _ (refusing : Bool) (D : Declared) where
  pub formula-counts : (k : ℕ) (S : Locals) (r : Reader) → Post (FormulaFrom r.tokens) (formula refusing D k S r)
  unfolding formula
  formula-counts zero S r = refusal tt
  formula-counts (suc k) S r =
      bind-post (token-counts (word_of D.edition) r) λ t r₁ h.
      formula-with refusing D k (λ S' r'. formula-counts k S' r') S r.tokens r₁ h.1 t t.word h.0
