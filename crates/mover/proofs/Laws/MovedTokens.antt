-- What the table of tokens says of a formula that stands in it: the codes of its words, where empty ranges begin, and that the tokens of a
-- formula are its words. Assumes nothing.
use Prim.Native.Nat.{ℕ, suc, ◌+◌}
use native.Mathlib.Omega.{arith}
use mathlib.Core.Path.{◌≡◌, subst}
use mathlib.Core.Bool.{Bool, true, false, not, ◌&&◌}
use mathlib.Core.List.{List, [], ◌∷◌, ◌++◌}
use lib.ListN.{length, length-append}
use lib.Dec.{T, eqb, leb, ltb}
use lib.IntN.{ℤ}
use lib.Signed.{le_z}
use borrow.Author.Tests.{leb-true, leb-false, lt-ltb, le-ltb}
use Rattle.specification.specs.Bytes.{between}
use Rattle.specification.specs.Number.{in32}
use Rattle.specification.specs.Lines.{Declared}
use Rattle.specification.specs.Ast.{add, sub, mul, quo, rem, div, modulo, Term, constant, scalar_at, local_at, parameter, element_at, apply, Formula, truth, and, or, imp, neg, eq, compare, ex, some, all, call}
use Rattle.specification.specs.Formula.{above, empty_range}
use Rattle.specification.specs.WellFormed.{Scope, OkTerm}
use Rattle.specification.specs.Text.{term_words, argument_words, formula_words}
use Rattle.tables.specs.Layout.{Words, max_tokens, operand_at, end_at}
use Rattle.tables.specs.Codes.{some_code, all_code, constant_code}
use Rattle.sheet.specs.Held.{TokenAt, TermAt, TermsAt, ArgumentsAt, FormulaAt}
use Rattle.sheet.proofs.Ranged.{biased-le}
use Rattle.mover.specs.Model.{token_code, empty_at}

-- the other way round
below-not : (a b : ℕ) (t : Bool) → leb a b ≡ t → ltb b a ≡ not t
below-not a b true e = le-ltb b a (leb-true a b e)
below-not a b false e = lt-ltb b a (leb-false a b e)

abbrev is_constant : Term → Bool
is_constant (constant z) = true
is_constant (scalar_at n) = false
is_constant (local_at l) = false
is_constant (parameter n) = false
is_constant (element_at a t) = false
is_constant (apply o s t) = false

module _ (w : Words) where
  pub token-code : {i k e : ℕ} → TokenAt w i k e → token_code w i ≡ k
  unfolding token_code
  token-code {i} t = rw (lt-ltb i max_tokens (omega (arith, t.after, t.inside))) t.code

  -- ---- empty ranges

  -- none begins at another word
  pub none-empty : {i k e : ℕ} → TokenAt w i k e → between some_code all_code k ≡ false → empty_at w i ≡ false
  unfolding empty_at
  none-empty t h = rw (token-code t, h)

  constant-coded : (t : Term) (i : ℕ) → TermAt w i t → eqb (token_code w i) constant_code ≡ is_constant t
  constant-coded (constant z) i h = rw (token-code h.0)
  constant-coded (scalar_at n) i h = rw (token-code h.0)
  constant-coded (local_at l) i h = rw (token-code h.0)
  constant-coded (parameter n) i h = rw (token-code h.0)
  constant-coded (element_at a t) i h = rw (token-code h.0)
  constant-coded (apply add s t) i h = rw (token-code h.0)
  constant-coded (apply sub s t) i h = rw (token-code h.0)
  constant-coded (apply mul s t) i h = rw (token-code h.0)
  constant-coded (apply quo s t) i h = rw (token-code h.0)
  constant-coded (apply rem s t) i h = rw (token-code h.0)
  constant-coded (apply div s t) i h = rw (token-code h.0)
  constant-coded (apply modulo s t) i h = rw (token-code h.0)

  module _ (D : Declared) (S : Scope) where
    above-coded : (x : ℤ) (b : Term) (i j : ℕ) → T (in32 x) → TermAt w j (constant x) → OkTerm D S b → TermAt w i b →
        eqb (token_code w i) constant_code && ltb (operand_at w i) (operand_at w j) ≡ above x b
    unfolding above OkTerm
    above-coded x (constant y) i j s e t h =
        let words : leb (operand_at w j) (operand_at w i) ≡ le_z x y = rw (e.1, h.1) (biased-le x y s t) in
        rw (constant-coded (constant y) i h) (below-not (operand_at w j) (operand_at w i) (le_z x y) words)
    above-coded x (scalar_at n) i j s e t h = rw (constant-coded (scalar_at n) i h)
    above-coded x (local_at l) i j s e t h = rw (constant-coded (local_at l) i h)
    above-coded x (parameter n) i j s e t h = rw (constant-coded (parameter n) i h)
    above-coded x (element_at a b) i j s e t h = rw (constant-coded (element_at a b) i h)
    above-coded x (apply o a b) i j s e t h = rw (constant-coded (apply o a b) i h)

    bounds-coded : (a b : Term) (i j : ℕ) → OkTerm D S a → OkTerm D S b → TermsAt w i j a b →
        eqb (token_code w i) constant_code && (eqb (token_code w (suc i)) constant_code && ltb (operand_at w (suc i)) (operand_at w i)) ≡ empty_range a b
    unfolding empty_range OkTerm
    bounds-coded (constant x) b i j s t h =
        let next : TermAt w (suc i) b = subst (λ k. TermAt w k b) h.0.0.end h.1 in
        rw (constant-coded (constant x) i h.0) (above-coded x b (suc i) i s h.0 t next)
    bounds-coded (scalar_at n) b i j s t h = rw (constant-coded (scalar_at n) i h.0)
    bounds-coded (local_at l) b i j s t h = rw (constant-coded (local_at l) i h.0)
    bounds-coded (parameter n) b i j s t h = rw (constant-coded (parameter n) i h.0)
    bounds-coded (element_at c a) b i j s t h = rw (constant-coded (element_at c a) i h.0)
    bounds-coded (apply o c a) b i j s t h = rw (constant-coded (apply o c a) i h.0)

    -- and at a quantifier's where its range is one
    pub range-empty : {i k e j : ℕ} (a b : Term) → TokenAt w i k e → between some_code all_code k ≡ true →
        OkTerm D S a → OkTerm D S b → TermsAt w (suc (suc i)) j a b → empty_at w i ≡ empty_range a b
    unfolding empty_at
    range-empty {i} {j = j} a b t q x y h =
        let first : i + 2 ≡ suc (suc i) = omega arith in
        let second : i + 3 ≡ suc (suc (suc i)) = omega arith in
        rw (token-code t, q, first, second) (bounds-coded a b (suc (suc i)) j x y h)

  -- ---- as many tokens as words

  term-end : (t : Term) (i : ℕ) → TermAt w i t → end_at w i ≡ i + length (term_words t)
  unfolding term_words
  term-end (constant z) i h = omega (arith, h.0.end)
  term-end (scalar_at n) i h = omega (arith, h.0.end)
  term-end (local_at l) i h = omega (arith, h.0.end)
  term-end (parameter n) i h = omega (arith, h.0.end)
  term-end (element_at a t) i h = omega (arith, h.0.end, term-end t (suc i) h.2)
  term-end (apply o s t) i h =
      omega (arith, h.0.end, term-end s (suc i) h.1, term-end t (end_at w (suc i)) h.2, length-append (term_words s) (term_words t))

  arguments-end : (ts : List Term) (i e : ℕ) → ArgumentsAt w i e ts → e ≡ i + length (argument_words ts)
  unfolding argument_words
  arguments-end [] i e h = omega (arith, h)
  arguments-end (t ∷ ts) i e h =
      omega (arith, term-end t i h.0, arguments-end ts (end_at w i) e h.1, length-append (term_words t) (argument_words ts))

  terms-end : (s t : Term) (i e : ℕ) → TermsAt w i e s t → e ≡ i + length (term_words s ++ term_words t)
  terms-end s t i e h =
      omega (arith, h.2, term-end s i h.0, term-end t (end_at w i) h.1, length-append (term_words s) (term_words t))

  -- a word and two formulas
  formulas-end : (F G : Formula) (i : ℕ) → end_at w i ≡ end_at w (end_at w (suc i)) → end_at w (suc i) ≡ suc i + length (formula_words F) →
      end_at w (end_at w (suc i)) ≡ end_at w (suc i) + length (formula_words G) → end_at w i ≡ i + suc (length (formula_words F ++ formula_words G))
  formulas-end F G i e f g = omega (arith, e, f, g, length-append (formula_words F) (formula_words G))

  -- a quantifier
  range-end : (a b : Term) (F : Formula) (i j : ℕ) → end_at w i ≡ end_at w j → TermsAt w (suc (suc i)) j a b →
      end_at w j ≡ j + length (formula_words F) → end_at w i ≡ i + suc (suc (length (term_words a ++ (term_words b ++ formula_words F))))
  range-end a b F i j e h f =
      omega (
        arith,
        e,
        f,
        terms-end a b (suc (suc i)) j h,
        length-append (term_words a) (term_words b),
        length-append (term_words a) (term_words b ++ formula_words F),
        length-append (term_words b) (formula_words F),
      )

  pub formula-end : (F : Formula) (i : ℕ) → FormulaAt w i F → end_at w i ≡ i + length (formula_words F)
  unfolding formula_words
  formula-end truth i h = omega (arith, h.end)
  formula-end (and F G) i h = formulas-end F G i h.0.end (formula-end F (suc i) h.1) (formula-end G (end_at w (suc i)) h.2)
  formula-end (or F G) i h = formulas-end F G i h.0.end (formula-end F (suc i) h.1) (formula-end G (end_at w (suc i)) h.2)
  formula-end (imp n F G) i h = formulas-end F G i h.0.end (formula-end F (suc i) h.2) (formula-end G (end_at w (suc i)) h.3)
  formula-end (neg n F) i h = omega (arith, h.0.end, formula-end F (suc i) h.2)
  formula-end (eq n s t) i h = omega (arith, terms-end s t (suc i) (end_at w i) h.2)
  formula-end (compare n r s t) i h = omega (arith, terms-end s t (suc i) (end_at w i) h.2)
  formula-end (ex l F) i h = omega (arith, h.0.end, formula-end F (suc (suc i)) h.2)
  formula-end (some n l a b F) i h =
      let j = end_at w (end_at w (suc (suc i))) in
      range-end a b F i j h.0.end h.3 (formula-end F j h.4)
  formula-end (all n l a b F) i h =
      let j = end_at w (end_at w (suc (suc i))) in
      range-end a b F i j h.0.end h.3 (formula-end F j h.4)
  formula-end (call K ts F) i h = omega (arith, h.0.end, arguments-end ts (suc (suc i)) (end_at w (suc i)) h.3)
