-- The operands of each formula word, and what a binder's local or a procedure's number brings, are what is made due. Assumes nothing.
use Prim.Native.Nat.{ℕ, suc, ◌+◌}
use mathlib.Core.Path.{◌≡◌, refl, sym, ◌∙◌}
use mathlib.Core.Bool.{Bool}
use mathlib.Core.List.{List, [], ◌∷◌, ◌++◌, append_assoc}
use mathlib.Core.Option.{some as just}
use lib.ListN.{length, replicate}
use Rattle.specification.specs.Bytes.{space}
use Rattle.specification.specs.Parser.{Reader, Parser, give, and_then, ◌>>=◌, ◌>>◌, mark}
use Rattle.specification.specs.Lines.{Declared, procedure_of}
use Rattle.specification.specs.Ast.{Rel, ne, lt, le, gt, ge, Term, Formula, and, or, imp, neg, eq, compare, ex, some, all, call}
use Rattle.specification.specs.Fill.{fill}
use Rattle.specification.specs.Words.{FormulaWord, true_word, and_word, or_word, imp_word, not_word, eq_word, ex_word, some_word, all_word, call_word, rel_word, formula_word}
use Rattle.specification.specs.Formula.{Locals, operand, binder, procedure, term, arguments, non_empty, formula_of, formula}
use Rattle.tables.specs.Codes.{true_code, and_code, or_code, imp_code, not_code, eq_code, ex_code, some_code, all_code, call_code, local_code, procedure_code}
use Rattle.sheet.specs.declared.Token.{Token}
use Rattle.sheet.specs.Codes.{token, rel_code, token_of, term_tokens, terms_tokens, formula_tokens}
use Rattle.sheet.specs.Sorts.{word_operands, operands_of}
use Rattle.sheet.specs.Dues.{due_formula, due_term, due_procedure, due_ex, due_range, due_bounds, parse, left}
use Rattle.sheet.specs.Turn.{declared, undeclared, fault_of, due_by, dues, opens}
use Rattle.sheet.proofs.Left.{then_same, then-split, then-both, then-give, left-none}
use Rattle.sheet.proofs.Operands.{admitted, spell_formula, first-due, first_then, one-due, two-formulas, two-terms, arguments-due}

module _ (refusing : Bool) (D : Declared) (k : ℕ) (S : Locals) where
  -- ---- binders

  -- a binder's formula, and each of its bounds
  abbrev pub body : ℕ → Parser Formula
  body l = operand (formula refusing D k (l ∷ S))

  abbrev pub bound : Parser Term
  bound = operand (term D k S)

  -- the tokens from a binder's local on
  abbrev pub spell_ex : ℕ → Formula → Parser (List Token)
  spell_ex l F = give (token local_code l ∷ formula_tokens F)

  abbrev pub spell_range : ℕ → Term → Term → Formula → Parser (List Token)
  spell_range l a b F = give (token local_code l ∷ (term_tokens a ++ (term_tokens b ++ formula_tokens F)))

  abbrev pub read_ex : ℕ → Parser (List Token)
  read_ex l = body l >>= λ F. spell_ex l F

  -- behind the bounds, where the quantifier's word stands at p
  abbrev bounded : ℕ → Term → Term → Parser (Unit {0})
  bounded p a b = non_empty refusing p a b

  abbrev pub read_range : ℕ → ℕ → Parser (List Token)
  read_range p l = bound >>= λ a. bound >>= λ b. bounded p a b >> (body l >>= λ F. spell_range l a b F)

  -- what the local of `ex` brings, and of `some` and `all`
  pub ex-brings : (l : ℕ) (r : Reader) → read_ex l r ≡ left refusing D (due_formula k (l ∷ S) ∷ []) (token local_code l ∷ []) r
  unfolding parse
  ex-brings l =
      first-due refusing D (due_formula k (l ∷ S)) (formula refusing D k (l ∷ S)) spell_formula (λ r. refl) (λ F. spell_ex l F) []
      (token local_code l ∷ []) λ F r.
      sym (left-none refusing D (token local_code l ∷ formula_tokens F) r)

  -- both bounds at once
  abbrev read_bounds : ℕ → Parser (List Token)
  read_bounds p = term D k S >>= λ a. bound >>= λ b. bounded p a b >> give (term_tokens a ++ term_tokens b)

  abbrev behind_bounds : ℕ → List Token → Parser (List Token)
  behind_bounds l xs = body l >>= λ F. give (token local_code l ∷ (xs ++ formula_tokens F))

  range-bounds : (p l : ℕ) (r : Reader) → read_range p l r ≡ (operand (read_bounds p) >>= behind_bounds l) r
  range-bounds p l r =
      then-both (λ u. term D k S) (λ a. bound >>= λ b. bounded p a b >> (body l >>= λ F. spell_range l a b F))
      (λ u. read_bounds p) (behind_bounds l)
      (λ u r₁. then-split (λ a. bound >>= λ b. bounded p a b >> (body l >>= λ F. spell_range l a b F))
      (λ a. bound >>= λ b. bounded p a b >> give (term_tokens a ++ term_tokens b)) (behind_bounds l)
      (λ a r₂. then-split (λ b. bounded p a b >> (body l >>= λ F. spell_range l a b F))
      (λ b. bounded p a b >> give (term_tokens a ++ term_tokens b)) (behind_bounds l)
      (λ b r₃. then-split (λ u. body l >>= λ F. spell_range l a b F) (λ u. give (term_tokens a ++ term_tokens b)) (behind_bounds l)
      (λ u r₄. then_same (λ F r₅. rw append_assoc) (body l r₄)) (bounded p a b r₃)) (bound r₂)) (term D k S r₁)) (mark space r)

  pub range-brings : (p l : ℕ) (r : Reader) →
      read_range p l r ≡ left refusing D (due_bounds k S p ∷ due_formula k (l ∷ S) ∷ []) (token local_code l ∷ []) r
  unfolding parse
  range-brings p l r =
      range-bounds p l r ∙
      first-due refusing D (due_bounds k S p) (read_bounds p) give (λ r₁. sym (then-give (read_bounds p r₁)))
      (behind_bounds l) (due_formula k (l ∷ S) ∷ []) (token local_code l ∷ [])
      (λ xs. first-due refusing D (due_formula k (l ∷ S)) (formula refusing D k (l ∷ S)) spell_formula (λ r₁. refl)
      (λ F. give (token local_code l ∷ (xs ++ formula_tokens F))) [] (token local_code l ∷ xs) λ F r₁.
      sym (left-none refusing D (token local_code l ∷ (xs ++ formula_tokens F)) r₁)) r

  existential : (r : Reader) →
      and_then spell_formula ((operand (binder D k) >>= λ l. body l >>= λ F. give (ex l F)) r) ≡
      left refusing D (due_ex k S ∷ []) (token ex_code 0 ∷ []) r
  unfolding parse formula_tokens
  existential =
      first_then refusing D (due_ex k S) (binder D k) read_ex (λ r. refl) spell_formula
      (λ l. body l >>= λ F. give (ex l F)) [] (token ex_code 0 ∷ []) λ l r.
      then-both (λ F. give (ex l F)) spell_formula (λ F. spell_ex l F) (λ xs. left refusing D [] (token ex_code 0 ∷ xs))
      (λ F r₁. sym (left-none refusing D (token ex_code 0 ∷ token local_code l ∷ formula_tokens F) r₁)) (body l r)

  quantified : (p : ℕ) (make : ℕ → Term → Term → Formula → Formula) (t : Token) →
      ((l : ℕ) (a b : Term) (F : Formula) →
      formula_tokens (make l a b F) ≡ t ∷ token local_code l ∷ (term_tokens a ++ (term_tokens b ++ formula_tokens F))) →
      (r : Reader) →
      and_then spell_formula
      ((operand (binder D k) >>= λ l. bound >>= λ a. bound >>= λ b. bounded p a b >> (body l >>= λ F. give (make l a b F))) r) ≡
      left refusing D (due_range k S p ∷ []) (t ∷ []) r
  unfolding parse
  quantified p make t h =
      first_then refusing D (due_range k S p) (binder D k) (read_range p) (λ r. refl) spell_formula
      (λ l. bound >>= λ a. bound >>= λ b. bounded p a b >> (body l >>= λ F. give (make l a b F))) [] (t ∷ []) λ l r.
      then-both (λ a. bound >>= λ b. bounded p a b >> (body l >>= λ F. give (make l a b F))) spell_formula
      (λ a. bound >>= λ b. bounded p a b >> (body l >>= λ F. spell_range l a b F)) rest
      (λ a r₁. then-both (λ b. bounded p a b >> (body l >>= λ F. give (make l a b F))) spell_formula
      (λ b. bounded p a b >> (body l >>= λ F. spell_range l a b F)) rest
      (λ b r₂. then-both (λ u. body l >>= λ F. give (make l a b F)) spell_formula (λ u. body l >>= λ F. spell_range l a b F) rest
      (λ u r₃. then-both (λ F. give (make l a b F)) spell_formula (λ F. spell_range l a b F) rest
      (λ F r₄. rw (left-none, h)) (body l r₃)) (bounded p a b r₂)) (bound r₁)) (bound r)
    where
      rest : List Token → Parser (List Token)
      rest xs = left refusing D [] (t ∷ xs)

  -- ---- calls

  -- the arguments of a call of procedure J, and the tokens from its number on
  abbrev pub given : ℕ → Parser (List Term)
  given J = arguments D (term D k S) (procedure_of D J).parameters

  abbrev pub spell_call : ℕ → List Term → Parser (List Token)
  spell_call J ts = give (token (procedure_code + length ts) J ∷ terms_tokens ts)

  abbrev pub read_call : ℕ → Parser (List Token)
  read_call J = given J >>= λ ts. spell_call J ts

  pub call-brings : (J : ℕ) (r : Reader) → let n = (procedure_of D J).parameters in
      read_call J r ≡ left refusing D (replicate n (due_term k S)) (token (procedure_code + n) J ∷ []) r
  call-brings J r =
      let n = (procedure_of D J).parameters in
      arguments-due refusing D k S n (λ ts. spell_call J ts) (token (procedure_code + n) J ∷ []) (λ ts r₁ e. rw e) r

  calling : (r : Reader) →
      and_then spell_formula ((operand (procedure D k) >>= λ J. given J >>= λ ts. give (call J ts (fill ts (procedure_of D J).formula))) r) ≡
      left refusing D (due_procedure k S ∷ []) (token call_code 0 ∷ []) r
  unfolding parse formula_tokens
  calling =
      first_then refusing D (due_procedure k S) (procedure D k) read_call (λ r. refl) spell_formula
      (λ J. given J >>= λ ts. give (call J ts (fill ts (procedure_of D J).formula))) [] (token call_code 0 ∷ []) λ J r.
      then-both (λ ts. give (call J ts (fill ts (procedure_of D J).formula))) spell_formula (λ ts. spell_call J ts)
      (λ xs. left refusing D [] (token call_code 0 ∷ xs))
      (λ ts r₁. sym (left-none refusing D (token call_code 0 ∷ token (procedure_code + length ts) J ∷ terms_tokens ts) r₁)) (given J r)

  -- ---- each word

  relation : (n : ℕ) (c : Rel) (r : Reader) → and_then spell_formula ((bound >>= λ x. bound >>= λ y. give (compare n c x y)) r) ≡
      left refusing D (due_term k S ∷ due_term k S ∷ []) (token (rel_code c) 0 ∷ []) r
  unfolding formula_tokens
  relation n c = two-terms refusing D k S formula_tokens (compare n c) (token (rel_code c) 0) (λ x y. refl)

  pub formula-word : (p n : ℕ) (w : FormulaWord) (r : Reader) →
      and_then spell_formula
      (formula_of refusing D (λ S' r. formula refusing D k S' r) (λ r. term D k S r) (λ r. binder D k r) (λ r. procedure D k r) S p n w r) ≡
      admitted refusing D (due_formula (suc k) S) p (token_of (just (formula_word w))) r
  unfolding admitted fault_of declared undeclared opens operands_of word_operands dues due_by token_of parse formula_tokens
  formula-word p n true_word r = sym (left-none refusing D (token true_code 0 ∷ []) r)
  formula-word p n and_word r = two-formulas refusing D k S and (token and_code 0) (λ F G. refl) r
  formula-word p n or_word r = two-formulas refusing D k S or (token or_code 0) (λ F G. refl) r
  formula-word p n imp_word r = two-formulas refusing D k S (imp n) (token imp_code 0) (λ F G. refl) r
  formula-word p n not_word r =
      one-due refusing D (due_formula k S) (formula refusing D k S) formula_tokens (λ r'. refl) formula_tokens (token not_code 0 ∷ []) (neg n)
      (λ F. refl) r
  formula-word p n eq_word r = two-terms refusing D k S formula_tokens (eq n) (token eq_code 0) (λ x y. refl) r
  formula-word p n (rel_word ne) r = relation n ne r
  formula-word p n (rel_word lt) r = relation n lt r
  formula-word p n (rel_word le) r = relation n le r
  formula-word p n (rel_word gt) r = relation n gt r
  formula-word p n (rel_word ge) r = relation n ge r
  formula-word p n ex_word r = existential r
  formula-word p n some_word r = quantified p (some n) (token some_code 0) (λ l a b F. refl) r
  formula-word p n all_word r = quantified p (all n) (token all_code 0) (λ l a b F. refl) r
  formula-word p n call_word r = calling r
