-- The reading with a list of what is due is the specification's reading: where something is due and nesting may go deeper, a token is
-- read, and then what it makes due. Assumes nothing.
use Prim.Native.Nat.{ℕ, suc, ◌+◌, ◌≤◌}
use native.Mathlib.Omega.{arith}
use mathlib.Core.Path.{◌≡◌, refl, ◌∙◌}
use mathlib.Core.Bool.{Bool}
use mathlib.Core.List.{List, [], ◌∷◌}
use mathlib.Core.Option.{some as just}
use lib.ListN.{length, replicate}
use lib.Dec.{ltb}
use borrow.Author.Tests.{ne_eqb}
use Rattle.specification.specs.Bytes.{pick}
use Rattle.specification.specs.Parser.{Reader, refused, Parser, give, require, and_then, ◌>>=◌}
use Rattle.specification.specs.Lines.{Declared, procedure_of}
use Rattle.specification.specs.Ast.{Term, Formula, ne, lt, le, gt, ge, add, sub, mul, quo, rem, div, modulo}
use Rattle.specification.specs.Words.{FormulaWord, true_word, and_word, or_word, imp_word, not_word, eq_word, ex_word, some_word, all_word, call_word, rel_word, TermWord, constant_word, scalar_word, local_word, array_word, parameter_word, op_word, Word, formula_word, term_word, number_word, unknown, word_of, number_of}
use Rattle.specification.specs.Formula.{Token as WordToken, token as read_token, Locals, binder_with, binder, procedure_with, procedure, term_of, term_with, term, formula_with, formula}
use Rattle.specification.proofs.Laws.ReadWords.{InBits, word_ok}
use Rattle.specification.proofs.Laws.ReadTerm.{token-post}
use Rattle.tables.specs.Layout.{max_parameters}
use Rattle.tables.specs.Codes.{first_formula, last_formula, first_term, last_term, scalar_code, local_code, array_code, parameter_code, bad_constant_code, procedure_code, last_code}
use Rattle.sheet.specs.declared.Token.{Token}
use Rattle.sheet.specs.Codes.{token, index_word, formula_code, term_token, token_of}
use Rattle.sheet.specs.Dues.{Due, due_formula, due_term, due_procedure, due_ex, due_range, due_bounds, due_upper, parse, left}
use Rattle.sheet.specs.Turn.{Limited, declared, undeclared, fault_of, due_by, dues, opens, token_by}
use Rattle.sheet.proofs.Left.{then-assoc, then_same}
use Rattle.sheet.proofs.Operands.{admitted, spell_formula, spell_term}
use Rattle.text.proofs.Laws.Ranges.{inside, under, over}
use Rattle.sheet.proofs.CodeOperands.{number-operands}
use Rattle.sheet.proofs.FormulaWord.{read_ex, read_range, ex-brings, range-brings, read_call, call-brings, formula-word}
use Rattle.sheet.proofs.TermWord.{declared-index, term-word, admit_local, binder-word}
use Rattle.sheet.proofs.RangeBounds.{then-where, read_upper, bounds-word, close_upper, upper-word}

-- ---- words of another sort

formula-code : (w : FormulaWord) → formula_code w ≤ last_formula
formula-code true_word = omega arith
formula-code and_word = omega arith
formula-code or_word = omega arith
formula-code imp_word = omega arith
formula-code not_word = omega arith
formula-code eq_word = omega arith
formula-code ex_word = omega arith
formula-code some_word = omega arith
formula-code all_word = omega arith
formula-code call_word = omega arith
formula-code (rel_word ne) = omega arith
formula-code (rel_word lt) = omega arith
formula-code (rel_word le) = omega arith
formula-code (rel_word gt) = omega arith
formula-code (rel_word ge) = omega arith

term-code : (w : TermWord) → (first_term ≤ (term_token w).code) × ((term_token w).code ≤ last_term)
term-code (constant_word z) = (omega arith, omega arith)
term-code (scalar_word n) = (omega arith, omega arith)
term-code (local_word l) = (omega arith, omega arith)
term-code (array_word a) = (omega arith, omega arith)
term-code (parameter_word n) = (omega arith, omega arith)
term-code (op_word add) = (omega arith, omega arith)
term-code (op_word sub) = (omega arith, omega arith)
term-code (op_word mul) = (omega arith, omega arith)
term-code (op_word quo) = (omega arith, omega arith)
term-code (op_word rem) = (omega arith, omega arith)
term-code (op_word div) = (omega arith, omega arith)
term-code (op_word modulo) = (omega arith, omega arith)

-- ---- the step: where something is due and nesting may go deeper, a token is read, and then what it makes due

module _ (refusing : Bool) (D : Declared) where
  abbrev pub admits : Due → WordToken → Parser (List Token)
  admits d t = admitted refusing D d t.place (token_by D d t.word)

module _ (refusing : Bool) (D : Declared) (small : Limited D) (k : ℕ) (S : Locals) where
  pub step-formula : (r : Reader) →
      parse refusing D (due_formula (suc k) S) r ≡ (read_token (word_of D.edition) >>= admits refusing D (due_formula (suc k) S)) r
  unfolding parse formula admitted fault_of token_of
  step-formula r =
      then-assoc (λ t. with-word t t.word) spell_formula (read_token (word_of D.edition) r) ∙
      then_same (λ t r'. by_word t t.word r') (read_token (word_of D.edition) r)
    where
      with-word : WordToken → Word → Parser Formula
      with-word = formula_with refusing D (λ S' r. formula refusing D k S' r) (λ r. term D k S r) (λ r. binder D k r) (λ r. procedure D k r) S

      by_word : (t : WordToken) (w : Word) (r : Reader) →
          and_then spell_formula (with-word t w r) ≡ admitted refusing D (due_formula (suc k) S) t.place (token_of (just w)) r
      by_word t (formula_word w) r = formula-word refusing D k S t.place t.number w r
      by_word t (term_word w) r =
          let c = term-code w in
          rw (ne_eqb (term_token w).code bad_constant_code (λ q. omega arith), over first_formula last_formula (term_token w).code (omega arith))
      by_word t (number_word n) r = refl
      by_word t unknown r = refl

  -- a term, after which κ comes, where d is due: each of its words, and the words of another sort
  step_words : (d : Due) (κ : Term → Parser (List Token)) →
      ((B : Locals) (t : Token) → fault_of D d B t ≡ fault_of D (due_term (suc k) S) B t) →
      ((p : ℕ) (w : TermWord) → InBits (term_word w) → (r : Reader) →
      and_then κ (term_of D (λ r₁. term D k S r₁) S p w r) ≡ admitted refusing D d p (token_of (just (term_word w))) r) →
      (r : Reader) → (term D (suc k) S >>= κ) r ≡
      (read_token (word_of D.edition) >>= λ t. admitted refusing D d t.place (token_of (just t.word))) r
  unfolding term admitted fault_of token_of
  step_words d κ alike each r =
      then-assoc (λ t. term_with D (λ r₁. term D k S r₁) S t t.word) κ (read_token (word_of D.edition) r) ∙
      then-where (λ t r' h. by_word t t.word h.0.in_bits r') (token-post r.bound (word_of D.edition) (word_ok D.edition) r (λ j h. h))
    where
      other : (t : WordToken) (w : Word) (r : Reader) → fault_of D (due_term (suc k) S) r.bound (token_of (just w)) ≡ 6 →
          refused 6 t.place ≡ admitted refusing D d t.place (token_of (just w)) r
      other t w r e = rw (alike r.bound (token_of (just w)), e)

      by_word : (t : WordToken) (w : Word) → InBits w → (r : Reader) →
          and_then κ (term_with D (λ r₁. term D k S r₁) S t w r) ≡ admitted refusing D d t.place (token_of (just w)) r
      by_word t (term_word w) i r = each t.place w i r
      by_word t (formula_word w) i r =
          let c = formula-code w in
          let off = ne_eqb (formula_code w) bad_constant_code (λ q. omega arith) in
          other t (formula_word w) r (rw (off, under first_term last_term (formula_code w) (omega arith)))
      by_word t (number_word n) i r = other t (number_word n) r refl
      by_word t unknown i r = other t unknown r refl

  pub step-term : (r : Reader) →
      parse refusing D (due_term (suc k) S) r ≡ (read_token (word_of D.edition) >>= admits refusing D (due_term (suc k) S)) r
  unfolding parse
  step-term r = step_words (due_term (suc k) S) spell_term (λ B t. refl) (λ p w i. term-word refusing D small k S p w) r

  pub step-bounds : (q : ℕ) (r : Reader) →
      parse refusing D (due_bounds (suc k) S q) r ≡ (read_token (word_of D.edition) >>= admits refusing D (due_bounds (suc k) S q)) r
  unfolding parse fault_of
  step-bounds q r =
      step_words (due_bounds (suc k) S q) (read_upper refusing D small k S q) (λ B t. refl) (λ p w i. bounds-word refusing D small k S q p w i) r

  pub step-upper : (q x : ℕ) (r : Reader) →
      parse refusing D (due_upper (suc k) S q x) r ≡ (read_token (word_of D.edition) >>= admits refusing D (due_upper (suc k) S q x)) r
  unfolding parse fault_of
  step-upper q x r =
      step_words (due_upper (suc k) S q x) (close_upper refusing D small k S q x) (λ B t. refl) (λ p w i. upper-word refusing D small k S q p x w i) r

  step-binder : (κ : ℕ → Parser (List Token)) (ds : ℕ → List Due) →
      ((l : ℕ) (r : Reader) → κ l r ≡ left refusing D (ds l) (token local_code l ∷ []) r) →
      (r : Reader) → (binder D (suc k) >>= κ) r ≡
      (read_token (word_of D.edition) >>= λ t. admit_local refusing D ds t.place (token_of (just t.word))) r
  unfolding binder fault_of token_of
  step-binder κ ds brings r =
      then-assoc (λ t. binder_with D t t.word) κ (read_token (word_of D.edition) r) ∙
      then_same (λ t r'. by_word t t.word r') (read_token (word_of D.edition) r)
    where
      by_word : (t : WordToken) (w : Word) (r : Reader) →
          and_then κ (binder_with D t w r) ≡ admit_local refusing D ds t.place (token_of (just w)) r
      by_word t (term_word w) r = binder-word refusing D ds small κ brings t.place w r
      by_word t (formula_word w) r =
          let c = formula-code w in
          rw (ne_eqb (formula_code w) bad_constant_code (λ q. omega arith), ne_eqb (formula_code w) local_code (λ q. omega arith))
      by_word t (number_word n) r = refl
      by_word t unknown r = refl

  pub step-ex : (r : Reader) → parse refusing D (due_ex (suc k) S) r ≡ (read_token (word_of D.edition) >>= admits refusing D (due_ex (suc k) S)) r
  unfolding parse admitted opens fault_of
  step-ex r = step-binder (read_ex refusing D (suc k) S) (λ l. due_formula (suc k) (l ∷ S) ∷ []) (ex-brings refusing D (suc k) S) r

  pub step_range : (q : ℕ) (r : Reader) →
      parse refusing D (due_range (suc k) S q) r ≡ (read_token (word_of D.edition) >>= admits refusing D (due_range (suc k) S q)) r
  unfolding parse admitted opens fault_of
  step_range q r =
      step-binder (read_range refusing D (suc k) S q) (λ l. due_bounds (suc k) S q ∷ due_formula (suc k) (l ∷ S) ∷ [])
      (range-brings refusing D (suc k) S q) r

  -- ---- a procedure's number

  -- its refusal: only 11
  fault-number : (n K : ℕ) (B : Locals) → n ≤ max_parameters →
      fault_of D (due_procedure (suc k) S) B (token (procedure_code + n) K) ≡ pick (ltb K (length D.procedures)) 0 11
  unfolding fault_of declared undeclared
  fault-number n K B h =
      rw (
        ne_eqb (procedure_code + n) bad_constant_code (λ q. omega arith),
        ne_eqb (procedure_code + n) scalar_code (λ q. omega arith),
        ne_eqb (procedure_code + n) local_code (λ q. omega arith),
        ne_eqb (procedure_code + n) array_code (λ q. omega arith),
        ne_eqb (procedure_code + n) parameter_code (λ q. omega arith),
        inside procedure_code last_code (procedure_code + n) (omega arith) (omega arith),
      )

  number-opens : (p n K : ℕ) → opens p (due_procedure (suc k) S) (token (procedure_code + n) K) ≡ replicate n (due_term (suc k) S)
  unfolding opens dues due_by
  number-opens p n K = rw (number-operands n)

  -- the token of a procedure's number
  abbrev number : ℕ → Token
  number K = token (procedure_code + (procedure_of D K).parameters) K

  number-word : (p K : ℕ) (r : Reader) →
      and_then (read_call refusing D (suc k) S) (require (ltb K (length D.procedures)) 11 p (give K) r) ≡
      admitted refusing D (due_procedure (suc k) S) p (number (index_word K)) r
  unfolding admitted
  number-word p K r =
      rw (fault-number (procedure_of D (index_word K)).parameters (index_word K) r.bound (small.each (index_word K)))
      (declared-index (read_call refusing D (suc k) S) p 10 K (length D.procedures) (give K) (λ i. 0)
      (λ i. left refusing D (opens p (due_procedure (suc k) S) (number i)) (number i ∷ []) r) r (omega (arith, small.procedures))
      (call-brings refusing D (suc k) S K r ∙ rw (number-opens p (procedure_of D K).parameters K)))

  pub step-procedure : (r : Reader) →
      parse refusing D (due_procedure (suc k) S) r ≡ (read_token number_of >>= admits refusing D (due_procedure (suc k) S)) r
  unfolding parse procedure admitted fault_of token_of
  step-procedure r =
      then-assoc (λ t. procedure_with D t t.word) (read_call refusing D (suc k) S) (read_token number_of r) ∙
      then_same (λ t r'. by_word t t.word r') (read_token number_of r)
    where
      by_word : (t : WordToken) (w : Word) (r : Reader) →
          and_then (read_call refusing D (suc k) S) (procedure_with D t w r) ≡
          admitted refusing D (due_procedure (suc k) S) t.place (token_by D (due_procedure (suc k) S) w) r
      by_word t (number_word K) r = number-word t.place K r
      by_word t (formula_word w) r =
          let c = formula-code w in
          rw (
            ne_eqb (formula_code w) procedure_code (λ q. omega arith),
            ne_eqb (formula_code w) bad_constant_code (λ q. omega arith),
            under procedure_code last_code (formula_code w) (omega arith),
          )
      by_word t (term_word w) r =
          let c = term-code w in
          rw (
            ne_eqb (term_token w).code procedure_code (λ q. omega arith),
            ne_eqb (term_token w).code bad_constant_code (λ q. omega arith),
            under procedure_code last_code (term_token w).code (omega arith),
          )
      by_word t unknown r = refl
