-- A formula: tokens in prefix order, one space between, at most 1,024 of them in all lines, nested at most 64 deep. At one token come 9, then
-- 4 for a constant or a procedure's number in bad form, then 6, then 7, 11 or 12, then 8, then at an upper bound 17; the byte after it is
-- looked at only after these. Assumes nothing.
use Rattle.std.specs.Prelude.{ℕ, zero, suc, Bool, false, not, ◌&&◌, ◌||◌, List, [], ◌∷◌, length, ltb, eqb, ℤ}
use Rattle.std.proofs.Math.Option.{Option}
use Rattle.std.specs.Int.Signed.{le_z}
use Rattle.specification.specs.Bytes.{Bytes, pick, space, in_token}
use Rattle.specification.specs.Parser.{Parser, refused, found, give, refuse, require, present, ◌>>=◌, ◌>>◌, here, mark, taken}
use Rattle.specification.specs.Lines.{Declared, procedure_of}
use Rattle.specification.specs.Ast.{Term, constant, scalar_at, local_at, parameter, element_at, apply, Formula, truth, and, or, imp, neg, eq, compare, ex, some, all, call}
use Rattle.specification.specs.Fill.{fill}
use Rattle.specification.specs.Words.{FormulaWord, true_word, and_word, or_word, imp_word, not_word, eq_word, ex_word, some_word, all_word, call_word, rel_word, TermWord, constant_word, scalar_word, local_word, array_word, parameter_word, op_word, Word, formula_word, term_word, number_word, unknown, word_of, number_of}

-- ---- tokens

-- a token's first byte, its number from 0, and its word
pub record Token : Type 0 where
  pub place : ℕ
  pub number : ℕ
  pub word : Word

-- the number of the token that begins here; the 1,025th is 9
abbrev pub numbered : Parser ℕ
numbered r =
    pick (ltb r.tokens 1024)
    (found r.tokens (record { place = r.place; rest = r.rest; tokens = suc r.tokens; bound = r.bound }))
    (refused 9 r.place)

-- the token that begins here, its word by the bytes of it
unfoldable pub token : (Bytes → Option Word) → Parser Token
token word = do
  p ← here
  n ← numbered
  bs ← taken in_token
  w ← present 4 p (word bs)
  give (record { place = p; number = n; word = w })

module _ {A : Type 0} where
  -- an operand, after its space
  abbrev pub operand : Parser A → Parser A
  operand p = mark space >> p

  -- nesting 65
  abbrev pub too_deep : Parser A
  too_deep = here >>= refuse 9

-- ---- locals

-- locals by their numbers: those in scope, and those that have a binder
abbrev pub Locals : Type 0
Locals = List ℕ

unfoldable pub has : ℕ → Locals → Bool
has l [] = false
has l (m ∷ ms) = eqb l m || has l ms

-- gives the local its binder; a second one is 8
abbrev pub bind : ℕ → ℕ → Parser ℕ
bind p l r =
    pick (has l r.bound) (refused 8 p)
    (found l (record { place = r.place; rest = r.rest; tokens = r.tokens; bound = l ∷ r.bound }))

-- ---- empty ranges, which are typing slips (document 02, Nine)

-- the bound is a constant, and x is above it
unfoldable pub above : ℤ → Term → Bool
above x (constant y) = not (le_z x y)
above x (scalar_at n) = false
above x (local_at l) = false
above x (parameter n) = false
above x (element_at a t) = false
above x (apply o s t) = false

-- both bounds are constants, and the lower is above the upper
unfoldable pub empty_range : Term → Term → Bool
empty_range (constant x) b = above x b
empty_range (scalar_at n) b = false
empty_range (local_at l) b = false
empty_range (parameter n) b = false
empty_range (element_at a t) b = false
empty_range (apply o s t) b = false

-- the range of a quantifier at p; where empty ones are refused, it is 17
abbrev pub non_empty : Bool → ℕ → Term → Term → Parser (Unit {0})
non_empty refusing p a b = require (not (refusing && empty_range a b)) 17 p (give tt)

-- ---- a token of each sort; k is how much deeper nesting may go

module _ (D : Declared) where
  -- L, a binder's local
  abbrev pub binder_of : ℕ → TermWord → Parser ℕ
  binder_of p (local_word l) = require (ltb l D.locals) 7 p (bind p l)
  binder_of p (constant_word z) = refuse 6 p
  binder_of p (scalar_word n) = refuse 6 p
  binder_of p (array_word a) = refuse 6 p
  binder_of p (parameter_word n) = refuse 6 p
  binder_of p (op_word o) = refuse 6 p

  abbrev pub binder_with : Token → Word → Parser ℕ
  binder_with t (term_word w) = binder_of t.place w
  binder_with t (formula_word w) = refuse 6 t.place
  binder_with t (number_word n) = refuse 6 t.place
  binder_with t unknown = refuse 6 t.place

  unfoldable pub binder : ℕ → Parser ℕ
  binder zero = too_deep
  binder (suc k) = token (word_of D.edition) >>= λ t. binder_with t t.word

  -- K, the number of the procedure that a call names: an earlier one
  abbrev pub procedure_with : Token → Word → Parser ℕ
  procedure_with t (number_word K) = require (ltb K (length D.procedures)) 11 t.place (give K)
  procedure_with t (formula_word w) = refuse 6 t.place
  procedure_with t (term_word w) = refuse 6 t.place
  procedure_with t unknown = refuse 6 t.place

  unfoldable pub procedure : ℕ → Parser ℕ
  procedure zero = too_deep
  procedure (suc k) = token number_of >>= λ t. procedure_with t t.word

  -- T, a term, with the locals in scope
  abbrev pub term_of : Parser Term → Locals → ℕ → TermWord → Parser Term
  term_of T S p (constant_word z) = give (constant z)
  term_of T S p (scalar_word n) = require (ltb n D.scalars) 7 p (give (scalar_at n))
  term_of T S p (local_word l) = require (ltb l D.locals) 7 p (require (has l S) 8 p (give (local_at l)))
  term_of T S p (parameter_word n) = require (ltb n D.parameters) 12 p (give (parameter n))
  term_of T S p (array_word a) = require (ltb a (length D.arrays)) 7 p (do i ← operand T; give (element_at a i))
  term_of T S p (op_word o) = do s ← operand T; t ← operand T; give (apply o s t)

  abbrev pub term_with : Parser Term → Locals → Token → Word → Parser Term
  term_with T S t (term_word w) = term_of T S t.place w
  term_with T S t (formula_word w) = refuse 6 t.place
  term_with T S t (number_word n) = refuse 6 t.place
  term_with T S t unknown = refuse 6 t.place

  unfoldable pub term : ℕ → Locals → Parser Term
  term zero S = too_deep
  term (suc k) S = token (word_of D.edition) >>= λ t. term_with (λ r. term k S r) S t t.word

  -- n of them, the arguments of a call
  unfoldable pub arguments : Parser Term → ℕ → Parser (List Term)
  arguments T zero = give []
  arguments T (suc n) = do t ← operand T; ts ← arguments T n; give (t ∷ ts)

-- F, a formula: each word with its own operands. A binder's local is in scope in its F, not in its bounds
module _ (refusing : Bool) (D : Declared) where
  abbrev pub formula_of : (Locals → Parser Formula) → Parser Term → Parser ℕ → Parser ℕ → Locals → ℕ → ℕ → FormulaWord → Parser Formula
  formula_of F T L K S p n true_word = give truth
  formula_of F T L K S p n and_word = do f ← operand (F S); g ← operand (F S); give (and f g)
  formula_of F T L K S p n or_word = do f ← operand (F S); g ← operand (F S); give (or f g)
  formula_of F T L K S p n imp_word = do f ← operand (F S); g ← operand (F S); give (imp n f g)
  formula_of F T L K S p n not_word = do f ← operand (F S); give (neg n f)
  formula_of F T L K S p n eq_word = do s ← operand T; t ← operand T; give (eq n s t)
  formula_of F T L K S p n (rel_word r) = do s ← operand T; t ← operand T; give (compare n r s t)
  formula_of F T L K S p n ex_word = do l ← operand L; f ← operand (F (l ∷ S)); give (ex l f)
  formula_of F T L K S p n some_word = do
    l ← operand L
    a ← operand T
    b ← operand T
    non_empty refusing p a b
    f ← operand (F (l ∷ S))
    give (some n l a b f)
  formula_of F T L K S p n all_word = do
    l ← operand L
    a ← operand T
    b ← operand T
    non_empty refusing p a b
    f ← operand (F (l ∷ S))
    give (all n l a b f)
  formula_of F T L K S p n call_word = do
    J ← operand K
    ts ← arguments D T (procedure_of D J).parameters
    give (call J ts (fill ts (procedure_of D J).formula))

  abbrev pub formula_with : (Locals → Parser Formula) → Parser Term → Parser ℕ → Parser ℕ → Locals → Token → Word → Parser Formula
  formula_with F T L K S t (formula_word w) = formula_of F T L K S t.place t.number w
  formula_with F T L K S t (term_word w) = refuse 6 t.place
  formula_with F T L K S t (number_word n) = refuse 6 t.place
  formula_with F T L K S t unknown = refuse 6 t.place

  unfoldable pub formula : ℕ → Locals → Parser Formula
  formula zero S = too_deep
  formula (suc k) S =
      token (word_of D.edition) >>= λ t.
      formula_with (λ S' r. formula k S' r) (λ r. term D k S r) (λ r. binder D k r) (λ r. procedure D k r) S t t.word
