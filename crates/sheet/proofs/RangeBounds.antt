-- The bounds of a range: where both are due, the first token of the lower one tells whether it is a constant; where the upper one is due after
-- a constant, a constant below that makes the range empty. Assumes nothing.
use Prim.Native.Nat.{ℕ, zero, suc}
use native.Mathlib.Omega.{arith}
use mathlib.Core.Path.{◌≡◌, refl, sym, ap, ◌∙◌}
use mathlib.Core.Bool.{Bool, true, false, not, ◌&&◌}
use mathlib.Core.List.{List, [], ◌∷◌, ◌++◌}
use mathlib.Core.Option.{some as just}
use lib.ListN.{length}
use lib.Dec.{T, eqb, leb, ltb}
use lib.IntN.{ℤ}
use lib.Signed.{le_z}
use borrow.Author.Tests.{leb-true, leb-false, le-ltb, lt-ltb}
use Rattle.specification.specs.Bytes.{pick}
use Rattle.specification.specs.Number.{in32}
use Rattle.specification.specs.Parser.{Reader, Read, refused, Parser, give, require, and_then, ◌>>=◌, ◌>>◌}
use Rattle.specification.specs.Lines.{Declared}
use Rattle.specification.specs.Ast.{add, sub, mul, quo, rem, div, modulo, Term, constant}
use Rattle.specification.specs.Words.{TermWord, constant_word, scalar_word, local_word, array_word, parameter_word, op_word, term_word}
use Rattle.specification.specs.Formula.{Locals, operand, has, above, empty_range, non_empty, term_of, term}
use Rattle.specification.proofs.Laws.Parser.{Post, refusal, holds, require-post, after}
use Rattle.specification.proofs.Laws.ReadWords.{InBits}
use Rattle.values.specs.Word.{signed, biased}
use Rattle.values.proofs.Laws.Word.{signed-biased, signed_le}
use Rattle.tables.specs.Codes.{constant_code}
use Rattle.sheet.specs.declared.Token.{Token}
use Rattle.sheet.specs.Codes.{token, term_token, token_of, term_tokens}
use Rattle.sheet.specs.Sorts.{word_operands, operands_of}
use Rattle.sheet.specs.Dues.{Due, due_term, due_bounds, due_upper, parse, left}
use Rattle.sheet.specs.Turn.{Limited, declared, undeclared, fault_of, due_by, dues, upper, opens}
use Rattle.sheet.proofs.Left.{then_same, then-split, left-none, left-++}
use Rattle.sheet.proofs.Operands.{judged, admitted, spell_term, first-due}
use Rattle.sheet.proofs.TermWord.{term-word}

-- ---- readings

module _ {A B : Type 0} {P : A → Reader → Type 0} {f g : A → Parser B} where
  -- what follows is the same wherever P holds of what is read first
  pub then-where : ((a : A) (r : Reader) → P a r → f a r ≡ g a r) → {x : Read A} → Post P x → and_then f x ≡ and_then g x
  then-where e (refusal h) = refl
  then-where e (holds h) = e _ _ h

and_none : (b : Bool) → b && false ≡ false
and_none true = refl
and_none false = refl

-- ---- terms that are no constants

-- they make no range empty
record Loose (t : Term) : Type 0 where
  lower : (b : Term) → empty_range t b ≡ false
  upper : (x : ℤ) → above x t ≡ false

abbrev Other : TermWord → Type 0
Other (constant_word z) = ⊥
Other (scalar_word n) = Unit {0}
Other (local_word l) = Unit {0}
Other (array_word a) = Unit {0}
Other (parameter_word n) = Unit {0}
Other (op_word o) = Unit {0}

other-code : (w : TermWord) → Other w → eqb (term_token w).code constant_code ≡ false
other-code (constant_word z) n = absurd n
other-code (scalar_word m) n = refl
other-code (local_word l) n = refl
other-code (array_word a) n = refl
other-code (parameter_word m) n = refl
other-code (op_word add) n = refl
other-code (op_word sub) n = refl
other-code (op_word mul) n = refl
other-code (op_word quo) n = refl
other-code (op_word rem) n = refl
other-code (op_word div) n = refl
other-code (op_word modulo) n = refl

module _ (D : Declared) (T : Parser Term) (S : Locals) (p : ℕ) where
  other-loose : (w : TermWord) → Other w → (r : Reader) → Post (λ t r'. Loose t) (term_of D T S p w r)
  unfolding empty_range above
  other-loose (constant_word z) n r = absurd n
  other-loose (scalar_word m) n r = require-post (ltb m D.scalars) _ _ _ _ tt λ e. holds (record { lower = λ b. refl; upper = λ x. refl })
  other-loose (local_word l) n r =
      require-post (ltb l D.locals) _ _ _ _ tt λ e. require-post (has l S) _ _ _ _ tt λ f. holds (record { lower = λ b. refl; upper = λ x. refl })
  other-loose (parameter_word m) n r = require-post (ltb m D.parameters) _ _ _ _ tt λ e. holds (record { lower = λ b. refl; upper = λ x. refl })
  other-loose (array_word a) n r =
      require-post (ltb a (length D.arrays)) _ _ _ _ tt λ e. after (operand T r) λ i r₁. holds (record { lower = λ b. refl; upper = λ x. refl })
  other-loose (op_word o) n r =
      after (operand T r) λ s r₁. after (operand T r₁) λ t r₂. holds (record { lower = λ b. refl; upper = λ x. refl })

-- ---- constants, by their words

above_word : (x : ℕ) (y : ℤ) → T (in32 y) → above (signed x) (constant y) ≡ ltb (biased y) x
unfolding above
above_word x y i =
    ap (λ z. not (le_z (signed x) z)) (sym (signed-biased y i)) ∙ rw signed_le (by (leb x (biased y)) refl)
  where
    by : (b : Bool) → leb x (biased y) ≡ b → not b ≡ ltb (biased y) x
    by true e = sym (le-ltb (biased y) x (leb-true x (biased y) e))
    by false e = sym (lt-ltb (biased y) x (omega (arith, leb-false x (biased y) e)))

-- ---- each word

module _ (refusing : Bool) (D : Declared) (small : Limited D) (k : ℕ) (S : Locals) (q : ℕ) where
  -- the upper bound after the lower one, and what follows it
  abbrev close_bounds : Term → Term → Parser (List Token)
  close_bounds a b = non_empty refusing q a b >> give (term_tokens a ++ term_tokens b)

  abbrev pub read_upper : Term → Parser (List Token)
  read_upper a = operand (term D (suc k) S) >>= λ b. close_bounds a b

  -- what follows the upper bound after a constant
  abbrev pub close_upper : ℕ → Term → Parser (List Token)
  close_upper x b = non_empty refusing q (constant (signed x)) b >> give (term_tokens b)

  loose-lower : (a : Term) (r : Reader) → Loose a → read_upper a r ≡ left refusing D (due_term (suc k) S ∷ []) (term_tokens a) r
  unfolding parse
  loose-lower a r l =
      then_same {f = close_bounds a} {g = λ b. give (term_tokens a ++ term_tokens b)} (λ b r₁. rw (l.lower b, and_none))
      (operand (term D (suc k) S) r) ∙
      first-due refusing D (due_term (suc k) S) (term D (suc k) S) spell_term (λ r₁. refl) (λ b. give (term_tokens a ++ term_tokens b)) [] (term_tokens a)
      (λ b r₁. sym (left-none refusing D (term_tokens a ++ term_tokens b) r₁)) r

  -- a token of a term, and then what was due besides
  admitted-more : (es : List Due) (p : ℕ) (t : Token) (r : Reader) →
      and_then (left refusing D es) (admitted refusing D (due_term (suc k) S) p t r) ≡
      judged (fault_of D (due_term (suc k) S) r.bound t) p (left refusing D (opens p (due_term (suc k) S) t ++ es) (t ∷ []) r)
  unfolding admitted
  admitted-more es p t r = by (fault_of D (due_term (suc k) S) r.bound t)
    where
      by : (n : ℕ) →
          and_then (left refusing D es) (judged n p (left refusing D (opens p (due_term (suc k) S) t) (t ∷ []) r)) ≡
          judged n p (left refusing D (opens p (due_term (suc k) S) t ++ es) (t ∷ []) r)
      by zero = sym (left-++ refusing D (opens p (due_term (suc k) S) t) es (t ∷ []) r)
      by (suc n) = refl

  module _ (p : ℕ) where
    abbrev reads : TermWord → Reader → Read Term
    reads w r = term_of D (λ r₁. term D k S r₁) S p w r

    bounds-other : (w : TermWord) → Other w → (r : Reader) →
        and_then read_upper (reads w r) ≡ admitted refusing D (due_bounds (suc k) S q) p (token_of (just (term_word w))) r
    unfolding admitted fault_of opens upper token_of
    bounds-other w n r =
        then-where {P = λ t r'. Loose t} loose-lower (other-loose D (λ r₁. term D k S r₁) S p w n r) ∙
        then-split (λ a. left refusing D (due_term (suc k) S ∷ []) (term_tokens a)) spell_term (left refusing D (due_term (suc k) S ∷ [])) (λ a r₁. refl)
        (reads w r) ∙
        ap (and_then (left refusing D (due_term (suc k) S ∷ []))) (term-word refusing D small k S p w r) ∙
        admitted-more (due_term (suc k) S ∷ []) p (term_token w) r ∙
        rw (other-code w n)

    bounds-constant : (z : ℤ) → T (in32 z) → (r : Reader) →
        read_upper (constant z) r ≡ left refusing D (due_upper (suc k) S q (biased z) ∷ []) (token constant_code (biased z) ∷ []) r
    unfolding parse term_tokens
    bounds-constant z i =
        first-due refusing D (due_upper (suc k) S q (biased z)) (term D (suc k) S) (close_upper (biased z)) (λ r. refl) (close_bounds (constant z)) []
        (token constant_code (biased z) ∷ []) λ b r.
        ap (λ y. and_then (λ u. give (token constant_code (biased z) ∷ term_tokens b)) (non_empty refusing q (constant y) b r))
        (sym (signed-biased z i)) ∙
        then-split (λ u. give (token constant_code (biased z) ∷ term_tokens b)) (λ u. give (term_tokens b))
        (λ xs. left refusing D [] (token constant_code (biased z) ∷ xs))
        (λ u r₁. sym (left-none refusing D (token constant_code (biased z) ∷ term_tokens b) r₁))
        (non_empty refusing q (constant (signed (biased z))) b r)

    pub bounds-word : (w : TermWord) → InBits (term_word w) → (r : Reader) →
        and_then read_upper (reads w r) ≡ admitted refusing D (due_bounds (suc k) S q) p (token_of (just (term_word w))) r
    unfolding admitted fault_of declared undeclared opens upper operands_of word_operands dues due_by token_of
    bounds-word (constant_word z) i r = bounds-constant z i r
    bounds-word (scalar_word n) i r = bounds-other (scalar_word n) tt r
    bounds-word (local_word l) i r = bounds-other (local_word l) tt r
    bounds-word (array_word a) i r = bounds-other (array_word a) tt r
    bounds-word (parameter_word n) i r = bounds-other (parameter_word n) tt r
    bounds-word (op_word o) i r = bounds-other (op_word o) tt r

    module _ (x : ℕ) where
      upper-other : (w : TermWord) → Other w → (r : Reader) →
          and_then (close_upper x) (reads w r) ≡ admitted refusing D (due_upper (suc k) S q x) p (token_of (just (term_word w))) r
      unfolding admitted fault_of opens token_of empty_range
      upper-other w n r =
          then-where {P = λ t r'. Loose t} {g = spell_term} (λ b r₁ l. rw (l.upper (signed x), and_none))
          (other-loose D (λ r₁. term D k S r₁) S p w n r) ∙
          term-word refusing D small k S p w r ∙ rw (other-code w n, and_none)

      upper-constant : (y : ℤ) → T (in32 y) → (r : Reader) →
          close_upper x (constant y) r ≡
          pick (refusing && ltb (biased y) x) (refused 17 q) (left refusing D [] (token constant_code (biased y) ∷ []) r)
      unfolding empty_range term_tokens
      upper-constant y i r =
          ap (λ b. and_then (λ u. give (token constant_code (biased y) ∷ [])) (require (not (refusing && b)) 17 q (give tt) r)) (above_word x y i) ∙
          by (refusing && ltb (biased y) x)
        where
          by : (b : Bool) →
              and_then (λ (u : Unit {0}). give (token constant_code (biased y) ∷ [])) (require (not b) 17 q (give tt) r) ≡
              pick b (refused 17 q) (left refusing D [] (token constant_code (biased y) ∷ []) r)
          by true = refl
          by false = sym (left-none refusing D (token constant_code (biased y) ∷ []) r)

      pub upper-word : (w : TermWord) → InBits (term_word w) → (r : Reader) →
          and_then (close_upper x) (reads w r) ≡ admitted refusing D (due_upper (suc k) S q x) p (token_of (just (term_word w))) r
      unfolding admitted fault_of declared undeclared opens operands_of word_operands dues due_by token_of
      upper-word (constant_word y) i r = upper-constant y i r
      upper-word (scalar_word n) i r = upper-other (scalar_word n) tt r
      upper-word (local_word l) i r = upper-other (local_word l) tt r
      upper-word (array_word a) i r = upper-other (array_word a) tt r
      upper-word (parameter_word n) i r = upper-other (parameter_word n) tt r
      upper-word (op_word o) i r = upper-other (op_word o) tt r
