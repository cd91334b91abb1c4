-- Where the words of the tokens of a term or formula stand, the term or formula stands. Assumes nothing.
use Prim.Native.Nat.{ℕ, suc, ◌+◌, ◌≤◌}
use native.Mathlib.Omega.{arith}
use mathlib.Core.Path.{◌≡◌, refl, sym, ◌∙◌, subst}
use mathlib.Core.List.{List, [], ◌∷◌, ◌++◌, append_assoc}
use lib.ListN.{length, length-append}
use Rattle.specification.specs.Ast.{Term, constant, scalar_at, local_at, parameter, element_at, apply, Formula, truth, and, or, imp, neg, eq, compare, ex, some, all, call}
use Rattle.values.specs.Word.{biased}
use Rattle.tables.specs.Layout.{max_tokens}
use Rattle.tables.specs.Codes.{true_code, and_code, or_code, imp_code, not_code, eq_code, ex_code, some_code, all_code, call_code, constant_code, scalar_code, local_code, array_code, parameter_code, procedure_code}
use Rattle.sheet.specs.declared.Token.{Token}
use Rattle.sheet.specs.Codes.{token, op_code, rel_code, term_tokens, terms_tokens, formula_tokens}
use Rattle.sheet.specs.Tables.{Words}
use Rattle.sheet.specs.Held.{operand_at, end_at, TokenAt, TermAt, TermsAt, ArgumentsAt, LocalAt, FormulaAt}
use Rattle.sheet.specs.Numbered.{term_size, terms_size, formula_size, Numbered}
use Rattle.sheet.proofs.After.{Subtrees, term-subtree, number-subtree, formula-subtree}
use Rattle.sheet.proofs.Numbered.{renumbered}
use Rattle.sheet.proofs.Laid.{Along, Entry, subtree}

module _ (w : Words) where
  abbrev pub Laid : ℕ → List Token → Type 0
  Laid = Along (Entry w)

  -- ---- a token by the number of its operands

  -- its subtree has so many tokens
  token-at : (t : Token) (xs rest : List Token) (i e : ℕ) →
      Subtrees 1 (t ∷ xs) → Laid i (t ∷ xs ++ rest) → e ≡ i + suc (length xs) → e ≤ max_tokens → TokenAt w i t.code e
  unfolding Along
  token-at t xs rest i e s a f h =
      record { code = a.0.code; end = (subtree w (t ∷ xs) rest i s a).0 ∙ sym f; after = omega arith; inside = h }

  leaf : (t : Token) (rest : List Token) (i : ℕ) → Subtrees 1 (t ∷ []) → Laid i (t ∷ rest) → i + 1 ≤ max_tokens →
      TokenAt w i t.code (suc i) × (operand_at w i ≡ t.operand)
  unfolding Along
  leaf t rest i s a h = (token-at t [] rest i (suc i) s a (omega arith) (omega arith), a.0.operand)

  one-operand : (t : Token) (xs rest : List Token) (i : ℕ) → Subtrees 1 (t ∷ xs) → Subtrees 1 xs →
      Laid i (t ∷ xs ++ rest) → i + suc (length xs) ≤ max_tokens → TokenAt w i t.code (end_at w (suc i))
  unfolding Along
  one-operand t xs rest i s x a h =
      let e = (subtree w xs rest (suc i) x a.1).0 in
      token-at t xs rest i (end_at w (suc i)) s a (omega arith) (omega arith)

  -- two operands, and where each of them stands
  record Operands (i c : ℕ) (xs ys rest : List Token) : Type 0 where
    head : TokenAt w i c (end_at w (end_at w (suc i)))
    middle : suc i + length xs ≡ end_at w (suc i)
    first : Laid (suc i) (xs ++ (ys ++ rest))
    second : Laid (end_at w (suc i)) (ys ++ rest)
    few : suc i + length xs ≤ max_tokens
    fewer : end_at w (suc i) + length ys ≤ max_tokens

  two_operands : (t : Token) (xs ys rest : List Token) (i : ℕ) → Subtrees 1 (t ∷ (xs ++ ys)) → Subtrees 1 xs → Subtrees 1 ys →
      Laid i (t ∷ (xs ++ ys) ++ rest) → i + suc (length (xs ++ ys)) ≤ max_tokens → Operands i t.code xs ys rest
  unfolding Along
  two_operands t xs ys rest i s x y a h =
      let b : Laid (suc i) (xs ++ (ys ++ rest)) = rw (append_assoc xs ys rest) at a.1 in
      let first = subtree w xs (ys ++ rest) (suc i) x b in
      let second = subtree w ys rest (end_at w (suc i)) y first.1 in
      let l = length-append xs ys in
      let e : end_at w (end_at w (suc i)) ≡ i + suc (length (xs ++ ys)) = omega (arith, l, first.0, second.0) in
      record {
        head = token-at t (xs ++ ys) rest i (end_at w (end_at w (suc i))) s a e (omega arith);
        middle = sym first.0;
        first = b;
        second = first.1;
        few = omega arith;
        fewer = omega (arith, first.0);
      }

  -- ---- terms

  pub term-at : (t : Term) (rest : List Token) (i : ℕ) → Laid i (term_tokens t ++ rest) → i + term_size t ≤ max_tokens → TermAt w i t
  unfolding term_tokens Along
  term-at (constant z) rest i a h = leaf (token constant_code (biased z)) rest i (term-subtree (constant z)) a h
  term-at (scalar_at c) rest i a h = leaf (token scalar_code c) rest i (term-subtree (scalar_at c)) a h
  term-at (local_at l) rest i a h = leaf (token local_code l) rest i (term-subtree (local_at l)) a h
  term-at (parameter n) rest i a h = leaf (token parameter_code n) rest i (term-subtree (parameter n)) a h
  term-at (element_at b t) rest i a h = (
    one-operand (token array_code b) (term_tokens t) rest i (term-subtree (element_at b t)) (term-subtree t) a h,
    a.0.operand,
    term-at t rest (suc i) a.1 (omega arith),
  )
  term-at (apply o s t) rest i a h =
      let whole = term-subtree (apply o s t) in
      let p = two_operands (token (op_code o) 0) (term_tokens s) (term_tokens t) rest i whole (term-subtree s) (term-subtree t) a h in
      (p.head, term-at s (term_tokens t ++ rest) (suc i) p.first p.few, term-at t rest (end_at w (suc i)) p.second p.fewer)

  -- one after the other
  arguments-at : (ts : List Term) (rest : List Token) (i e : ℕ) → Laid i (terms_tokens ts ++ rest) → e ≡ i + terms_size ts → e ≤ max_tokens →
      ArgumentsAt w i e ts
  unfolding terms_tokens
  arguments-at [] rest i e a q h = omega arith
  arguments-at (t ∷ ts) rest i e a q h =
      let l = length-append (term_tokens t) (terms_tokens ts) in
      let b : Laid i (term_tokens t ++ (terms_tokens ts ++ rest)) = rw (append_assoc (term_tokens t) (terms_tokens ts) rest) at a in
      let first = subtree w (term_tokens t) (terms_tokens ts ++ rest) i (term-subtree t) b in (
        term-at t (terms_tokens ts ++ rest) i b (omega (arith, l)),
        arguments-at ts rest (end_at w i) e first.1 (omega (arith, l, first.0)) h,
      )

  -- ---- formulas

  two-formulas : (t : Token) (F G : Formula) (rest : List Token) (i : ℕ) → Subtrees 1 (t ∷ (formula_tokens F ++ formula_tokens G)) →
      Laid i (t ∷ (formula_tokens F ++ formula_tokens G) ++ rest) → i + suc (length (formula_tokens F ++ formula_tokens G)) ≤ max_tokens →
      Operands i t.code (formula_tokens F) (formula_tokens G) rest
  two-formulas t F G rest i s a h = two_operands t (formula_tokens F) (formula_tokens G) rest i s (formula-subtree F) (formula-subtree G) a h

  two-terms : (t : Token) (x y : Term) (rest : List Token) (i : ℕ) → Subtrees 1 (t ∷ (term_tokens x ++ term_tokens y)) →
      Laid i (t ∷ (term_tokens x ++ term_tokens y) ++ rest) → i + suc (length (term_tokens x ++ term_tokens y)) ≤ max_tokens →
      TokenAt w i t.code (end_at w (end_at w (suc i))) × TermsAt w (suc i) (end_at w i) x y
  two-terms t x y rest i s a h =
      let p = two_operands t (term_tokens x) (term_tokens y) rest i s (term-subtree x) (term-subtree y) a h in (
        p.head,
        (
          term-at x (term_tokens y ++ rest) (suc i) p.first p.few,
          term-at y rest (end_at w (suc i)) p.second p.fewer,
          sym p.head.end,
        ),
      )

  local-subtree : (l : ℕ) → Subtrees 1 (token local_code l ∷ [])
  unfolding term_tokens
  local-subtree l = term-subtree (local_at l)

  -- a binder with bounds, and where its formula stands
  record Range (i c l : ℕ) (x y : Term) (xs rest : List Token) : Type 0 where
    head : TokenAt w i c (end_at w (end_at w (end_at w (suc (suc i)))))
    binds : LocalAt w (suc i) l
    bounds : TermsAt w (suc (suc i)) (end_at w (end_at w (suc (suc i)))) x y
    start : suc (suc i) + term_size x + term_size y ≡ end_at w (end_at w (suc (suc i)))
    body : Laid (end_at w (end_at w (suc (suc i)))) (xs ++ rest)
    few : end_at w (end_at w (suc (suc i))) + length xs ≤ max_tokens

  range : (c l : ℕ) (x y : Term) (xs rest : List Token) (i : ℕ) →
      Subtrees 1 (token c 0 ∷ token local_code l ∷ (term_tokens x ++ (term_tokens y ++ xs))) → Subtrees 1 xs →
      Laid i (token c 0 ∷ token local_code l ∷ (term_tokens x ++ (term_tokens y ++ xs)) ++ rest) →
      i + suc (suc (length (term_tokens x ++ (term_tokens y ++ xs)))) ≤ max_tokens →
      Range i c l x y xs rest
  unfolding Along
  range c l x y xs rest i s z a h =
      let ts = term_tokens x ++ (term_tokens y ++ xs) in
      let regroup : term_tokens x ++ (term_tokens y ++ xs) ++ rest ≡ term_tokens x ++ (term_tokens y ++ (xs ++ rest)) = simp append_assoc in
      let b : Laid (suc (suc i)) (term_tokens x ++ (term_tokens y ++ (xs ++ rest))) = subst (Laid (suc (suc i))) regroup a.1.1 in
      let first = subtree w (term_tokens x) (term_tokens y ++ (xs ++ rest)) (suc (suc i)) (term-subtree x) b in
      let second = subtree w (term_tokens y) (xs ++ rest) (end_at w (suc (suc i))) (term-subtree y) first.1 in
      let third = subtree w xs rest (end_at w (end_at w (suc (suc i)))) z second.1 in
      let e : end_at w (end_at w (end_at w (suc (suc i)))) ≡ i + suc (suc (length (term_tokens x ++ (term_tokens y ++ xs)))) =
      omega (arith, length-append (term_tokens x) (term_tokens y ++ xs), length-append (term_tokens y) xs, first.0, second.0, third.0) in
      record {
        head = token-at (token c 0) (token local_code l ∷ ts) rest i (end_at w (end_at w (end_at w (suc (suc i))))) s a e (omega arith);
        binds = leaf (token local_code l) (term_tokens x ++ (term_tokens y ++ xs) ++ rest) (suc i) (local-subtree l) a.1 (omega arith);
        bounds = (
          term-at x (term_tokens y ++ (xs ++ rest)) (suc (suc i)) b (omega (arith, third.0)),
          term-at y (xs ++ rest) (end_at w (suc (suc i))) first.1 (omega (arith, third.0)),
          refl,
        );
        start = omega (arith, first.0, second.0);
        body = second.1;
        few = omega (arith, third.0);
      }

  pub formula-at : (F : Formula) (rest : List Token) (i : ℕ) → Laid i (formula_tokens F ++ rest) → Numbered i F →
      i + formula_size F ≤ max_tokens → FormulaAt w i F
  unfolding formula_tokens Along Numbered
  formula-at truth rest i a n h = (leaf (token true_code 0) rest i (formula-subtree truth) a h).0
  formula-at (and F G) rest i a n h =
      let p = two-formulas (token and_code 0) F G rest i (formula-subtree (and F G)) a h in (
        p.head,
        formula-at F (formula_tokens G ++ rest) (suc i) p.first n.0 p.few,
        formula-at G rest (end_at w (suc i)) p.second (renumbered G p.middle n.1) p.fewer,
      )
  formula-at (or F G) rest i a n h =
      let p = two-formulas (token or_code 0) F G rest i (formula-subtree (or F G)) a h in (
        p.head,
        formula-at F (formula_tokens G ++ rest) (suc i) p.first n.0 p.few,
        formula-at G rest (end_at w (suc i)) p.second (renumbered G p.middle n.1) p.fewer,
      )
  formula-at (imp m F G) rest i a n h =
      let p = two-formulas (token imp_code 0) F G rest i (formula-subtree (imp m F G)) a h in (
        p.head,
        n.0,
        formula-at F (formula_tokens G ++ rest) (suc i) p.first n.1 p.few,
        formula-at G rest (end_at w (suc i)) p.second (renumbered G p.middle n.2) p.fewer,
      )
  formula-at (neg m F) rest i a n h = (
    one-operand (token not_code 0) (formula_tokens F) rest i (formula-subtree (neg m F)) (formula-subtree F) a h,
    n.0,
    formula-at F rest (suc i) a.1 n.1 (omega arith),
  )
  formula-at (eq m s t) rest i a n h =
      let p = two-terms (token eq_code 0) s t rest i (formula-subtree (eq m s t)) a h in
      (p.0, n, p.1)
  formula-at (compare m c s t) rest i a n h =
      let p = two-terms (token (rel_code c) 0) s t rest i (formula-subtree (compare m c s t)) a h in
      (p.0, n, p.1)
  formula-at (ex l F) rest i a n h =
      let whole = formula-subtree (ex l F) in
      let e = (subtree w (formula_tokens F) rest (suc (suc i)) (formula-subtree F) a.1.1).0 in (
        token-at (token ex_code 0) (token local_code l ∷ formula_tokens F) rest i (end_at w (suc (suc i))) whole a (omega arith) (omega arith),
        leaf (token local_code l) (formula_tokens F ++ rest) (suc i) (local-subtree l) a.1 (omega arith),
        formula-at F rest (suc (suc i)) a.1.1 n (omega arith),
      )
  formula-at (some m l x y F) rest i a n h =
      let p = range some_code l x y (formula_tokens F) rest i (formula-subtree (some m l x y F)) (formula-subtree F) a h in
      let f = formula-at F rest (end_at w (end_at w (suc (suc i)))) p.body (renumbered F p.start n.1) p.few in
      (p.head, n.0, p.binds, p.bounds, f)
  formula-at (all m l x y F) rest i a n h =
      let p = range all_code l x y (formula_tokens F) rest i (formula-subtree (all m l x y F)) (formula-subtree F) a h in
      let f = formula-at F rest (end_at w (end_at w (suc (suc i)))) p.body (renumbered F p.start n.1) p.few in
      (p.head, n.0, p.binds, p.bounds, f)
  formula-at (call K ts F) rest i a n h =
      let number = token (procedure_code + length ts) K in
      let e = (subtree w (number ∷ terms_tokens ts) rest (suc i) (number-subtree K ts) a.1).0 in (
        token-at (token call_code 0) (number ∷ terms_tokens ts) rest i (end_at w (suc i)) (formula-subtree (call K ts F)) a (omega arith) (omega arith),
        token-at number (terms_tokens ts) rest (suc i) (end_at w (suc i)) (number-subtree K ts) a.1 (omega arith) (omega arith),
        a.1.0.operand,
        arguments-at ts rest (suc (suc i)) (end_at w (suc i)) a.1.1 (omega arith) (omega arith),
      )
