-- Each word where a term or a binder's local is due: its refusals, and its operands. Assumes nothing.
use Prim.Native.Nat.{ℕ, suc, ◌≤◌}
use native.Mathlib.Omega.{arith}
use mathlib.Core.Path.{◌≡◌, refl, sym}
use mathlib.Core.Bool.{Bool, true, false, not}
use mathlib.Core.List.{List, [], ◌∷◌}
use mathlib.Core.Option.{some as just}
use lib.ListN.{length}
use lib.Dec.{leb, ltb}
use borrow.Author.Tests.{leb-true, leb-false, le-ltb}
use Rattle.specification.specs.Bytes.{pick}
use Rattle.specification.specs.Parser.{Reader, Read, refused, found, Parser, give, require, and_then, ◌>>=◌}
use Rattle.specification.specs.Lines.{Declared}
use Rattle.specification.specs.Ast.{Op, add, sub, mul, quo, rem, div, modulo, Term, scalar_at, local_at, parameter, element_at, apply}
use Rattle.specification.specs.Words.{TermWord, constant_word, scalar_word, local_word, array_word, parameter_word, op_word, term_word}
use Rattle.specification.specs.Formula.{Locals, operand, has, bind, binder_of, term_of, term}
use Rattle.values.specs.Word.{biased}
use Rattle.tables.specs.Codes.{constant_code, scalar_code, local_code, array_code, parameter_code}
use Rattle.sheet.specs.declared.Token.{Token}
use Rattle.sheet.specs.Codes.{token, op_code, index_word, term_token, token_of, term_tokens}
use Rattle.sheet.specs.Sorts.{word_operands, operands_of}
use Rattle.sheet.specs.Dues.{Due, due_term, due_ex, parse, left}
use Rattle.sheet.specs.Turn.{Limited, declared, undeclared, fault_of, due_by, dues, opens}
use Rattle.sheet.proofs.Left.{left-none}
use Rattle.sheet.proofs.Operands.{judged, admitted, spell_term, one-due, two-terms}

-- ---- tests of an index

module _ {C : Type 0} (g : C → Parser (List Token)) (p : ℕ) where
  -- an index is declared if and only if its word is; the refusal's number is one more than m
  pub declared-index : (m l n : ℕ) (q : Parser C) (fault : ℕ → ℕ) (x : ℕ → Read (List Token)) (r : Reader) → n ≤ 4294967295 →
      and_then g (q r) ≡ judged (fault l) p (x l) →
      and_then g (require (ltb l n) (suc m) p q r) ≡ judged (pick (ltb (index_word l) n) (fault (index_word l)) (suc m)) p (x (index_word l))
  declared-index m l n q fault x r h same = fits (leb l 4294967295) refl
    where
      test : (b : Bool) → and_then g (require b (suc m) p q r) ≡ judged (pick b (fault l) (suc m)) p (x l)
      test true = same
      test false = refl

      fits : (b : Bool) → leb l 4294967295 ≡ b →
          and_then g (require (ltb l n) (suc m) p q r) ≡ judged (pick (ltb (index_word l) n) (fault (index_word l)) (suc m)) p (x (index_word l))
      fits true e = let i : index_word l ≡ l = omega (arith, leb-true l 4294967295 e) in rw i (test (ltb l n))
      fits false e =
          let large : n ≤ l = omega (arith, leb-false l 4294967295 e) in
          let too : n ≤ index_word l = omega (arith, leb-false l 4294967295 e) in
          rw (le-ltb l n large, le-ltb (index_word l) n too)

  -- a local stands where it may
  placed_local : (b : Bool) (q : Parser C) (x : Read (List Token)) (r : Reader) → and_then g (q r) ≡ x →
      and_then g (require b 8 p q r) ≡ judged (pick b 0 8) p x
  placed_local true q x r h = h
  placed_local false q x r h = refl

-- ---- terms

module _ (refusing : Bool) (D : Declared) (small : Limited D) (k : ℕ) (S : Locals) where
  abbrev T : Parser Term
  T = operand (term D k S)

  operation : (o : Op) (r : Reader) →
      and_then spell_term ((T >>= λ s. T >>= λ t. give (apply o s t)) r) ≡ left refusing D (due_term k S ∷ due_term k S ∷ []) (token (op_code o) 0 ∷ []) r
  unfolding term_tokens
  operation o = two-terms refusing D k S term_tokens (apply o) (token (op_code o) 0) (λ x y. refl)

  pub term-word : (p : ℕ) (w : TermWord) (r : Reader) →
      and_then spell_term (term_of D (λ r. term D k S r) S p w r) ≡ admitted refusing D (due_term (suc k) S) p (token_of (just (term_word w))) r
  unfolding admitted fault_of declared undeclared opens operands_of word_operands dues due_by token_of parse term_tokens
  term-word p (constant_word z) r = sym (left-none refusing D (token constant_code (biased z) ∷ []) r)
  term-word p (scalar_word n) r =
      declared-index spell_term p 6 n D.scalars (give (scalar_at n)) (λ i. 0) (λ i. left refusing D [] (token scalar_code i ∷ []) r) r (omega arith)
      (sym (left-none refusing D (token scalar_code n ∷ []) r))
  term-word p (local_word l) r =
      declared-index spell_term p 6 l D.locals (require (has l S) 8 p (give (local_at l))) (λ i. pick (has i S) 0 8)
      (λ i. left refusing D [] (token local_code i ∷ []) r) r (omega arith)
      (placed_local spell_term p (has l S) (give (local_at l)) (left refusing D [] (token local_code l ∷ []) r) r
      (sym (left-none refusing D (token local_code l ∷ []) r)))
  term-word p (parameter_word n) r =
      declared-index spell_term p 11 n D.parameters (give (parameter n)) (λ i. 0) (λ i. left refusing D [] (token parameter_code i ∷ []) r) r
      (omega (arith, small.parameters))
      (sym (left-none refusing D (token parameter_code n ∷ []) r))
  term-word p (array_word a) r =
      declared-index spell_term p 6 a (length D.arrays) (T >>= λ i. give (element_at a i)) (λ i. 0)
      (λ i. left refusing D (due_term k S ∷ []) (token array_code i ∷ []) r) r (omega arith)
      (one-due refusing D (due_term k S) (term D k S) term_tokens (λ r'. refl) term_tokens (token array_code a ∷ []) (element_at a) (λ t. refl) r)
  term-word p (op_word add) r = operation add r
  term-word p (op_word sub) r = operation sub r
  term-word p (op_word mul) r = operation mul r
  term-word p (op_word quo) r = operation quo r
  term-word p (op_word rem) r = operation rem r
  term-word p (op_word div) r = operation div r
  term-word p (op_word modulo) r = operation modulo r

-- ---- a binder's local, and then what it brings

abbrev bind_in : Reader → ℕ → Reader
bind_in r l = record { place = r.place; rest = r.rest; tokens = r.tokens; bound = l ∷ r.bound }

module _ (refusing : Bool) (D : Declared) (ds : ℕ → List Due) where
  -- the token t, which begins at p, and what its local makes due
  abbrev pub admit_local : ℕ → Token → Parser (List Token)
  admit_local p t r = judged (fault_of D (due_ex 0 []) r.bound t) p (left refusing D (ds t.operand) (t ∷ []) (bind_in r t.operand))

  module _ (small : Limited D) (κ : ℕ → Parser (List Token))
      (brings : (l : ℕ) (r : Reader) → κ l r ≡ left refusing D (ds l) (token local_code l ∷ []) r) where
    free_local : (p l : ℕ) (r : Reader) →
        and_then κ (bind p l r) ≡ judged (pick (not (has l r.bound)) 0 8) p (left refusing D (ds l) (token local_code l ∷ []) (bind_in r l))
    free_local p l r = go (has l r.bound)
      where
        go : (b : Bool) →
            and_then κ (pick b (refused 8 p) (found l (bind_in r l))) ≡
            judged (pick (not b) 0 8) p (left refusing D (ds l) (token local_code l ∷ []) (bind_in r l))
        go true = refl
        go false = brings l (bind_in r l)

    pub binder-word : (p : ℕ) (w : TermWord) (r : Reader) → and_then κ (binder_of D p w r) ≡ admit_local p (term_token w) r
    unfolding fault_of declared undeclared
    binder-word p (local_word l) r =
        declared-index κ p 6 l D.locals (bind p l) (λ i. pick (not (has i r.bound)) 0 8)
        (λ i. left refusing D (ds i) (token local_code i ∷ []) (bind_in r i)) r (omega arith) (free_local p l r)
    binder-word p (constant_word z) r = refl
    binder-word p (scalar_word n) r = refl
    binder-word p (array_word a) r = refl
    binder-word p (parameter_word n) r = refl
    binder-word p (op_word add) r = refl
    binder-word p (op_word sub) r = refl
    binder-word p (op_word mul) r = refl
    binder-word p (op_word quo) r = refl
    binder-word p (op_word rem) r = refl
    binder-word p (op_word div) r = refl
    binder-word p (op_word modulo) r = refl
