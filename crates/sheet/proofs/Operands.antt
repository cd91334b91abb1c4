-- A token where something is due, and its operands: what is due first is read first, and the rest follows it. Assumes nothing.
use Prim.Native.Nat.{ℕ, zero, suc}
use mathlib.Core.Path.{◌≡◌, refl, sym, ◌∙◌, ap}
use mathlib.Core.Bool.{Bool}
use mathlib.Core.List.{List, [], ◌∷◌, ◌++◌, append-nil, append_assoc}
use lib.ListN.{length, replicate}
use Rattle.specification.specs.Bytes.{pick, space}
use Rattle.specification.specs.Parser.{Reader, Read, refused, found, Parser, give, and_then, ◌>>=◌, mark}
use Rattle.specification.specs.Lines.{Declared}
use Rattle.specification.specs.Ast.{Term, Formula}
use Rattle.specification.specs.Formula.{Locals, operand, term, arguments, formula}
use Rattle.sheet.specs.declared.Token.{Token}
use Rattle.sheet.specs.Codes.{term_tokens, terms_tokens, formula_tokens}
use Rattle.sheet.specs.Dues.{Due, due_formula, due_term, parse, left, left_here}
use Rattle.sheet.specs.Turn.{fault_of, empties, word_place, opens, binds}
use Rattle.sheet.proofs.Left.{then-assoc, left-none, left-cons}

-- ---- a token where something is due

module _ {A : Type 0} where
  -- a refusal, unless its number is 0
  abbrev pub judged : ℕ → ℕ → Read A → Read A
  judged zero p x = x
  judged (suc n) p x = refused (suc n) p

-- the token t, which begins at p, and what it makes due
unfoldable pub admitted : Bool → Declared → Due → ℕ → Token → Parser (List Token)
admitted refusing D d p t r =
    judged (fault_of D d r.bound t) p
    (pick (empties refusing d t) (refused 17 (word_place d))
    (left refusing D (opens p d t) (t ∷ []) (record { place = r.place; rest = r.rest; tokens = r.tokens; bound = binds d t r.bound })))

-- ---- what is read, given as its tokens

abbrev pub spell_formula : Formula → Parser (List Token)
spell_formula F = give (formula_tokens F)

abbrev pub spell_term : Term → Parser (List Token)
spell_term t = give (term_tokens t)

-- ---- operands

-- d is read by p, and then by κ
module _ (refusing : Bool) (D : Declared) {A : Type 0} (d : Due) (p : Parser A) (κ : A → Parser (List Token))
    (e : (r : Reader) → parse refusing D d r ≡ and_then κ (p r)) where
  -- the first operand is what is due first, and the rest follows it
  pub first-due : (q : A → Parser (List Token)) (ds : List Due) (ts : List Token) →
      ((a : A) (r : Reader) → q a r ≡ and_then (λ xs. left refusing D ds (ts ++ xs)) (κ a r)) →
      (r : Reader) → (operand p >>= q) r ≡ left refusing D (d ∷ ds) ts r
  unfolding left_here
  first-due q ds ts h r = at-space (mark space r) ∙ sym (left-cons refusing D d ds ts r)
    where
      at_first : (x : Read A) → and_then q x ≡ and_then (λ xs. left refusing D ds (ts ++ xs)) (and_then κ x)
      at_first (refused n p) = refl
      at_first (found a r) = h a r

      at-space : (x : Read (Unit {0})) → and_then q (and_then (λ u. p) x) ≡ and_then (λ u. left_here refusing D d ds ts) x
      at-space (refused n p) = refl
      at-space (found u r) = rw (e r) (at_first (p r))

  module _ {C : Type 0} (g : C → Parser (List Token)) where
    -- where all that is read goes on to g
    pub first_then : (q : A → Parser C) (ds : List Due) (ts : List Token) →
        ((a : A) (r : Reader) → and_then g (q a r) ≡ and_then (λ xs. left refusing D ds (ts ++ xs)) (κ a r)) →
        (r : Reader) → and_then g ((operand p >>= q) r) ≡ left refusing D (d ∷ ds) ts r
    first_then q ds ts h r = then-assoc q g (operand p r) ∙ first-due (λ a r'. and_then g (q a r')) ds ts h r

-- one or two operands of one sort
module _ (refusing : Bool) (D : Declared) {A C : Type 0} (d : Due) (p : Parser A) (tokens : A → List Token)
    (e : (r : Reader) → parse refusing D d r ≡ and_then (λ a. give (tokens a)) (p r)) (out : C → List Token) (ts : List Token) where
  abbrev spell : A → Parser (List Token)
  spell a = give (tokens a)

  pub one-due : (make : A → C) → ((a : A) → out (make a) ≡ ts ++ tokens a) →
      (r : Reader) → and_then (λ c. give (out c)) ((operand p >>= λ a. give (make a)) r) ≡ left refusing D (d ∷ []) ts r
  one-due make h = first_then refusing D d p spell e (λ c. give (out c)) (λ a. give (make a)) [] ts (λ a r. rw (left-none, h))

  pub two-dues : (make : A → A → C) → ((a b : A) → out (make a b) ≡ ts ++ tokens a ++ tokens b) →
      (r : Reader) → and_then (λ c. give (out c)) ((operand p >>= λ a. operand p >>= λ b. give (make a b)) r) ≡ left refusing D (d ∷ d ∷ []) ts r
  two-dues make h =
      first_then refusing D d p spell e (λ c. give (out c)) (λ a. operand p >>= λ b. give (make a b)) (d ∷ []) ts λ a.
      first_then refusing D d p spell e (λ c. give (out c)) (λ b. give (make a b)) [] (ts ++ tokens a) (λ b r. rw (left-none, h))

module _ (refusing : Bool) (D : Declared) (k : ℕ) (S : Locals) where
  pub two-formulas : (make : Formula → Formula → Formula) (t : Token) →
      ((F G : Formula) → formula_tokens (make F G) ≡ t ∷ (formula_tokens F ++ formula_tokens G)) →
      (r : Reader) → and_then spell_formula ((operand (formula refusing D k S) >>= λ F. operand (formula refusing D k S) >>= λ G. give (make F G)) r) ≡
      left refusing D (due_formula k S ∷ due_formula k S ∷ []) (t ∷ []) r
  unfolding parse
  two-formulas make t h = two-dues refusing D (due_formula k S) (formula refusing D k S) formula_tokens (λ r. refl) formula_tokens (t ∷ []) make h

  pub two-terms : {C : Type 0} (out : C → List Token) (make : Term → Term → C) (t : Token) →
      ((x y : Term) → out (make x y) ≡ t ∷ (term_tokens x ++ term_tokens y)) →
      (r : Reader) → and_then (λ c. give (out c)) ((operand (term D k S) >>= λ x. operand (term D k S) >>= λ y. give (make x y)) r) ≡
      left refusing D (due_term k S ∷ due_term k S ∷ []) (t ∷ []) r
  unfolding parse
  two-terms out make t h = two-dues refusing D (due_term k S) (term D k S) term_tokens (λ r. refl) out (t ∷ []) make h

  -- the arguments of a call, after which comes g
  pub arguments-due : (n : ℕ) (g : List Term → Parser (List Token)) (xs : List Token) →
      ((ts : List Term) (r : Reader) → length ts ≡ n → g ts r ≡ found (xs ++ terms_tokens ts) r) →
      (r : Reader) → and_then g (arguments D (term D k S) n r) ≡ left refusing D (replicate n (due_term k S)) xs r
  unfolding parse arguments terms_tokens
  arguments-due zero g xs h r = h [] r refl ∙ rw (append-nil, left-none)
  arguments-due (suc n) g xs h r =
      first_then refusing D (due_term k S) (term D k S) spell_term (λ r₁. refl) g (λ t. arguments D (term D k S) n >>= λ ts. give (t ∷ ts))
      (replicate n (due_term k S)) xs
      (λ t r₁.
      then-assoc (λ ts. give (t ∷ ts)) g (arguments D (term D k S) n r₁) ∙
      arguments-due n (λ ts r₂. g (t ∷ ts) r₂) (xs ++ term_tokens t) (λ ts r₂ e. h (t ∷ ts) r₂ (ap suc e) ∙ rw append_assoc) r₁) r
