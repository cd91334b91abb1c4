-- What holds of the readers that others are put together from (LineReaders), of a token and of noting a binder, holds of a formula's reader and
-- of the procedures' lines: a law for each reader of specs/Formula.antt and specs/Sheet.antt, in their order. Assumes nothing.
use Prim.Native.Nat.{ℕ, zero, suc}
use mathlib.Core.Path.{refl}
use mathlib.Core.Bool.{Bool, not, ◌&&◌}
use mathlib.Core.List.{List, [], ◌∷◌, ◌++◌}
use mathlib.Core.Option.{Option}
use lib.ListN.{length}
use lib.Dec.{ltb}
use Rattle.specification.specs.Bytes.{Bytes, bytes, space, feed, colon}
use Rattle.specification.specs.Parser.{Parser, give, refuse, ◌>>=◌, ◌>>◌}
use Rattle.specification.specs.Lines.{Declared, procedure_of}
use Rattle.specification.specs.Ast.{Procedure, Term, constant, scalar_at, local_at, parameter, element_at, apply, Formula, truth, and, or, imp, neg, eq, compare, ex, some, all, call}
use Rattle.specification.specs.Fill.{fill}
use Rattle.specification.specs.Words.{FormulaWord, true_word, and_word, or_word, imp_word, not_word, eq_word, ex_word, some_word, all_word, call_word, rel_word, TermWord, constant_word, scalar_word, local_word, array_word, parameter_word, op_word, Word, formula_word, term_word, number_word, unknown, word_of, number_of}
use Rattle.specification.specs.Formula.{Token, token, operand, too_deep, Locals, has, bind, binder_of, binder_with, binder, procedure_with, procedure, term_of, term_with, term, arguments, empty_range, non_empty, formula_of, formula_with, formula}
use Rattle.specification.specs.Sheet.{with_parameters, with_procedures, procedure_line, procedure_lines}
use Rattle.specification.proofs.Laws.LineReaders.{Composed, then, require-by, pick-by, count_by}

-- a token begins at a place that is read from
pub record Tokened (P : ℕ → Type 0) (Q : (A : Type 0) → Parser A → Type 0) : Type 1 where
  pub composed : Composed P Q
  pub token : (word : Bytes → Option Word) (B : Type 0) (f : Token → Parser B) → ((t : Token) → P t.place → Q B (f t)) → Q B (token word >>= f)
  pub bind : (p l : ℕ) → P p → Q ℕ (bind p l)

module _ {P : ℕ → Type 0} {Q : (A : Type 0) → Parser A → Type 0} (k : Tokened P Q) where
  abbrev c : Composed P Q
  c = k.composed

  -- ---- operands, and nesting 65

  module _ {A : Type 0} {p : Parser A} (h : Q A p) where
    operand-by : Q A (operand p)
    operand-by = then c (c.mark space) λ u. h

    -- two operands of one sort
    two-by : {B : Type 0} (g : A → A → B) → Q B (operand p >>= λ x. operand p >>= λ y. give (g x y))
    two-by {B} g = then c operand-by λ x. then c operand-by λ y. c.give B (g x y)

  deep-by : (A : Type 0) → Q A too_deep
  deep-by A = c.here A (refuse 9) λ p i. c.refuse A 9 p refl i

  -- ---- binders and terms

  module _ (D : Declared) where
    binder-of : (p : ℕ) (w : TermWord) → P p → Q ℕ (binder_of D p w)
    binder-of p (local_word l) i = require-by c (ltb l D.locals) 7 p refl i (k.bind p l i)
    binder-of p (constant_word z) i = c.refuse ℕ 6 p refl i
    binder-of p (scalar_word n) i = c.refuse ℕ 6 p refl i
    binder-of p (array_word a) i = c.refuse ℕ 6 p refl i
    binder-of p (parameter_word n) i = c.refuse ℕ 6 p refl i
    binder-of p (op_word o) i = c.refuse ℕ 6 p refl i

    binder-with : (t : Token) (w : Word) → P t.place → Q ℕ (binder_with D t w)
    binder-with t (term_word w) i = binder-of t.place w i
    binder-with t (formula_word w) i = c.refuse ℕ 6 t.place refl i
    binder-with t (number_word n) i = c.refuse ℕ 6 t.place refl i
    binder-with t unknown i = c.refuse ℕ 6 t.place refl i

    binder-by : (n : ℕ) → Q ℕ (binder D n)
    unfolding binder
    binder-by zero = deep-by ℕ
    binder-by (suc n) = k.token (word_of D.edition) ℕ (λ t. binder_with D t t.word) λ t i. binder-with t t.word i

    procedure-with : (t : Token) (w : Word) → P t.place → Q ℕ (procedure_with D t w)
    procedure-with t (number_word J) i = require-by c (ltb J (length D.procedures)) 11 t.place refl i (c.give ℕ J)
    procedure-with t (formula_word w) i = c.refuse ℕ 6 t.place refl i
    procedure-with t (term_word w) i = c.refuse ℕ 6 t.place refl i
    procedure-with t unknown i = c.refuse ℕ 6 t.place refl i

    procedure-by : (n : ℕ) → Q ℕ (procedure D n)
    unfolding procedure
    procedure-by zero = deep-by ℕ
    procedure-by (suc n) = k.token number_of ℕ (λ t. procedure_with D t t.word) λ t i. procedure-with t t.word i

    module _ (T' : Parser Term) (h : Q Term T') (S : Locals) where
      term-of : (p : ℕ) (w : TermWord) → P p → Q Term (term_of D T' S p w)
      term-of p (constant_word z) i = c.give Term (constant z)
      term-of p (scalar_word n) i = require-by c (ltb n D.scalars) 7 p refl i (c.give Term (scalar_at n))
      term-of p (local_word l) i =
          require-by c (ltb l D.locals) 7 p refl i (require-by c (has l S) 8 p refl i (c.give Term (local_at l)))
      term-of p (parameter_word n) i = require-by c (ltb n D.parameters) 12 p refl i (c.give Term (parameter n))
      term-of p (array_word a) i =
          require-by c (ltb a (length D.arrays)) 7 p refl i (then c (operand-by h) λ t. c.give Term (element_at a t))
      term-of p (op_word o) i = two-by h (apply o)

      term-with : (t : Token) (w : Word) → P t.place → Q Term (term_with D T' S t w)
      term-with t (term_word w) i = term-of t.place w i
      term-with t (formula_word w) i = c.refuse Term 6 t.place refl i
      term-with t (number_word n) i = c.refuse Term 6 t.place refl i
      term-with t unknown i = c.refuse Term 6 t.place refl i

    term-by : (n : ℕ) (S : Locals) → Q Term (term D n S)
    unfolding term
    term-by zero S = deep-by Term
    term-by (suc n) S =
        k.token (word_of D.edition) Term (λ t. term_with D (λ r. term D n S r) S t t.word) λ t i.
        term-with (λ r. term D n S r) (term-by n S) S t t.word i

    -- ---- formulas

    arguments-by : (T' : Parser Term) → Q Term T' → (n : ℕ) → Q (List Term) (arguments D T' n)
    unfolding arguments
    arguments-by T' h zero = c.give (List Term) []
    arguments-by T' h (suc n) = then c (operand-by h) λ t. then c (arguments-by T' h n) λ ts. c.give (List Term) (t ∷ ts)

    module _ (refusing : Bool) (F : Locals → Parser Formula) (T' : Parser Term) (L K : Parser ℕ)
        (f : (S : Locals) → Q Formula (F S)) (h : Q Term T') (b : Q ℕ L) (j : Q ℕ K) (S : Locals) where
      quantified : (p : ℕ) → P p → (g : ℕ → Term → Term → Formula → Formula) →
          Q Formula (operand L >>= λ l. operand T' >>= λ x. operand T' >>= λ y.
          non_empty refusing p x y >> (operand (F (l ∷ S)) >>= λ z. give (g l x y z)))
      quantified p i g =
          then c (operand-by b) λ l.
          then c (operand-by h) λ x.
          then c (operand-by h) λ y.
          then c (require-by c (not (refusing && empty_range x y)) 17 p refl i (c.give (Unit {0}) tt)) λ u.
          then c (operand-by (f (l ∷ S))) λ z. c.give Formula (g l x y z)

      formula-of : (p n : ℕ) (w : FormulaWord) → P p → Q Formula (formula_of refusing D F T' L K S p n w)
      formula-of p n true_word i = c.give Formula truth
      formula-of p n and_word i = two-by (f S) and
      formula-of p n or_word i = two-by (f S) or
      formula-of p n imp_word i = two-by (f S) (imp n)
      formula-of p n not_word i = then c (operand-by (f S)) λ x. c.give Formula (neg n x)
      formula-of p n eq_word i = two-by h (eq n)
      formula-of p n (rel_word r) i = two-by h (compare n r)
      formula-of p n ex_word i = then c (operand-by b) λ l. then c (operand-by (f (l ∷ S))) λ x. c.give Formula (ex l x)
      formula-of p n some_word i = quantified p i (some n)
      formula-of p n all_word i = quantified p i (all n)
      formula-of p n call_word i =
          then c (operand-by j) λ J.
          then c (arguments-by T' h (procedure_of D J).parameters) λ ts. c.give Formula (call J ts (fill ts (procedure_of D J).formula))

      formula-with : (t : Token) (w : Word) → P t.place → Q Formula (formula_with refusing D F T' L K S t w)
      formula-with t (formula_word w) i = formula-of t.place t.number w i
      formula-with t (term_word w) i = c.refuse Formula 6 t.place refl i
      formula-with t (number_word n) i = c.refuse Formula 6 t.place refl i
      formula-with t unknown i = c.refuse Formula 6 t.place refl i

    pub formula-by : (refusing : Bool) (n : ℕ) (S : Locals) → Q Formula (formula refusing D n S)
    unfolding formula
    formula-by refusing zero S = deep-by Formula
    formula-by refusing (suc n) S =
        let F : Locals → Parser Formula = λ S' r. formula refusing D n S' r in
        k.token (word_of D.edition) Formula
        (λ t. formula_with refusing D F (λ r. term D n S r) (λ r. binder D n r) (λ r. procedure D n r) S t t.word) λ t i.
        formula-with refusing F (λ r. term D n S r) (λ r. binder D n r) (λ r. procedure D n r)
        (λ S'. formula-by refusing n S') (term-by n S) (binder-by n) (procedure-by n) S t t.word i

  -- ---- the procedures' lines

  procedure-line-by : (refusing : Bool) (D : Declared) → Q Procedure (procedure_line refusing D)
  unfolding procedure_line
  procedure-line-by refusing D =
      then c (c.exactly 3 (bytes "proc=") refl) λ u.
      then c (count_by c 0 8) λ n.
      then c (c.mark colon) λ u.
      then c (formula-by (with_parameters n D) refusing 64 []) λ F.
      then c (c.mark feed) λ u. c.give Procedure (record { parameters = n; formula = F })

  pub procedures-by : (refusing : Bool) (n : ℕ) (D : Declared) → Q (List Procedure) (procedure_lines refusing n D)
  unfolding procedure_lines
  procedures-by refusing zero D = c.give (List Procedure) D.procedures
  procedures-by refusing (suc n) D =
      then c (c.spells _) λ more.
      pick-by c more (then c (procedure-line-by refusing D) λ P. procedures-by refusing n (with_procedures (D.procedures ++ (P ∷ [])) D))
      (c.give (List Procedure) D.procedures)
