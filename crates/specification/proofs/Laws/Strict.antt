-- Reading strictly and not: the two agree but for refusal 17, so what is read strictly is read as the same without that; and a sheet of an
-- edition that refuses no empty ranges is read alike. Assumes nothing.
use Prim.Native.Nat.{ℕ, zero, suc, ◌+◌}
use mathlib.Core.Path.{◌≡◌, refl, sym, ◌∙◌, ap, subst}
use mathlib.Core.Bool.{Bool, true, false, not, ◌&&◌}
use mathlib.Core.List.{List, [], ◌∷◌, ◌++◌}
use mathlib.Core.Logic.{◌⊎◌, inl, inr}
use lib.ListN.{length}
use lib.Dec.{ltb}
use borrow.Author.Tests.{ltb-true, lt-leb}
use Rattle.specification.specs.Bytes.{Bytes, bytes, pick, space, feed, colon, begins}
use Rattle.specification.specs.Parser.{Reader, Read, refused, found, Parser, give, require, and_then, ◌>>=◌, ◌>>◌, mark, key, finish}
use Rattle.specification.specs.Lines.{count, line, Declared, arrays_line, ranges_line}
use Rattle.specification.specs.Given.{given_line}
use Rattle.specification.specs.Ast.{Procedure, Term, Formula, and, or, imp, ex, some, all, neg}
use Rattle.specification.specs.Words.{FormulaWord, true_word, and_word, or_word, imp_word, not_word, eq_word, ex_word, some_word, all_word, call_word, rel_word, Word, formula_word, term_word, number_word, unknown, word_of}
use Rattle.specification.specs.Formula.{Token, token, operand, Locals, binder, procedure, term, empty_range, non_empty, formula_of, formula_with, formula}
use Rattle.specification.specs.Sheet.{with_parameters, with_procedures, procedure_line, procedure_lines, most_procedures, Sheet, beginning, first_strict, refuses, sheet, opened, read_with}
use Rattle.specification.proofs.Laws.Contradiction.{contradiction}
use Rattle.specification.proofs.Laws.SheetLines.{Lines, sheet-lines, lines-sheet}

-- ---- readings that agree

module _ {A : Type 0} where
  -- they are the same, or the first is refused with 17
  abbrev pub Agree : Read A → Read A → Type 0
  Agree x y = (x ≡ y) ⊎ ((p : ℕ) × (x ≡ refused 17 p))

  abbrev Alike : Parser A → Parser A → Type 0
  Alike q q' = (r : Reader) → Agree (q r) (q' r)

  same : (q : Parser A) → Alike q q
  same q r = inl refl

module _ {A B : Type 0} where
  -- one after the other
  agree_then : {f g : A → Parser B} {x y : Read A} → Agree x y → ((a : A) → Alike (f a) (g a)) → Agree (and_then f x) (and_then g y)
  agree_then {f} {g} {x} {y} (inl e) h = subst (λ z. Agree (and_then f z) (and_then g y)) (sym e) (go y)
    where
      go : (z : Read A) → Agree (and_then f z) (and_then g z)
      go (refused n p) = inl refl
      go (found a r) = h a r
  agree_then {f} (inr (p, e)) h = inr (p, ap (and_then f) e)

  then : {q q' : Parser A} {f g : A → Parser B} → Alike q q' → ((a : A) → Alike (f a) (g a)) → Alike (q >>= f) (q' >>= g)
  then h k r = agree_then (h r) k

  -- after the same
  after : (q : Parser A) {f g : A → Parser B} → ((a : A) → Alike (f a) (g a)) → Alike (q >>= f) (q >>= g)
  after q k r = agree_then {x = q r} {y = q r} (inl refl) k

operand-alike : {A : Type 0} {q q' : Parser A} → Alike q q' → Alike (operand q) (operand q')
operand-alike h = after (mark space) λ u. h

-- ---- formulas

module _ (refusing : Bool) where
  range-alike : (p : ℕ) (a b : Term) → Alike (non_empty refusing p a b) (non_empty false p a b)
  range-alike p a b r = go refusing (empty_range a b)
    where
      go : (x y : Bool) → Agree (require (not (x && y)) 17 p (give {A = Unit {0}} tt) r) (found tt r)
      go true true = inr (p, refl)
      go true false = inl refl
      go false y = inl refl

  module _ (D : Declared) (F F' : Locals → Parser Formula) (h : (S : Locals) → Alike (F S) (F' S))
      (T : Parser Term) (L K : Parser ℕ) (S : Locals) where
    joined : (g : Formula → Formula → Formula) →
        Alike (operand (F S) >>= λ x. operand (F S) >>= λ y. give (g x y)) (operand (F' S) >>= λ x. operand (F' S) >>= λ y. give (g x y))
    joined g = then (operand-alike (h S)) λ x. then (operand-alike (h S)) λ y. same (give (g x y))

    quantified : (p : ℕ) (g : ℕ → Term → Term → Formula → Formula) →
        Alike (operand L >>= λ l. operand T >>= λ a. operand T >>= λ b. non_empty refusing p a b >> (operand (F (l ∷ S)) >>= λ x. give (g l a b x)))
        (operand L >>= λ l. operand T >>= λ a. operand T >>= λ b. non_empty false p a b >> (operand (F' (l ∷ S)) >>= λ x. give (g l a b x)))
    quantified p g =
        after (operand L) λ l. after (operand T) λ a. after (operand T) λ b.
        then (range-alike p a b) λ u. then (operand-alike (h (l ∷ S))) λ x. same (give (g l a b x))

    formula-of : (p n : ℕ) (w : FormulaWord) → Alike (formula_of refusing D F T L K S p n w) (formula_of false D F' T L K S p n w)
    formula-of p n true_word = same _
    formula-of p n and_word = joined and
    formula-of p n or_word = joined or
    formula-of p n imp_word = joined (imp n)
    formula-of p n not_word = then (operand-alike (h S)) λ x. same (give (neg n x))
    formula-of p n eq_word = same _
    formula-of p n (rel_word c) = same _
    formula-of p n ex_word = after (operand L) λ l. then (operand-alike (h (l ∷ S))) λ x. same (give (ex l x))
    formula-of p n some_word = quantified p (some n)
    formula-of p n all_word = quantified p (all n)
    formula-of p n call_word = same _

    formula-with : (t : Token) (w : Word) → Alike (formula_with refusing D F T L K S t w) (formula_with false D F' T L K S t w)
    formula-with t (formula_word w) = formula-of t.place t.number w
    formula-with t (term_word w) = same _
    formula-with t (number_word n) = same _
    formula-with t unknown = same _

  formula-alike : (D : Declared) (k : ℕ) (S : Locals) → Alike (formula refusing D k S) (formula false D k S)
  unfolding formula
  formula-alike D zero S = same _
  formula-alike D (suc k) S =
      after (token (word_of D.edition)) λ t.
      formula-with D (λ S' x. formula refusing D k S' x) (λ S' x. formula false D k S' x) (λ S'. formula-alike D k S') (λ x. term D k S x)
      (λ x. binder D k x) (λ x. procedure D k x) S t t.word

  -- ---- lines

  line-alike : (D : Declared) → Alike (procedure_line refusing D) (procedure_line false D)
  unfolding procedure_line
  line-alike D =
      after (key (bytes "proc=")) λ u.
      after (count 0 8) λ n.
      after (mark colon) λ u.
      then (formula-alike (with_parameters n D) 64 []) λ F. same (mark feed >> give (record { parameters = n; formula = F }))

  lines-alike : (k : ℕ) (D : Declared) → Alike (procedure_lines refusing k D) (procedure_lines false k D)
  unfolding procedure_lines
  lines-alike zero D r = inl refl
  lines-alike (suc k) D r = go (begins (bytes "p") r.rest) (λ P. lines-alike k (with_procedures (D.procedures ++ (P ∷ [])) D))
    where
      more : Bool → Parser (List Procedure)
      more b = procedure_line b D >>= λ P. procedure_lines b k (with_procedures (D.procedures ++ (P ∷ [])) D)

      go : (b : Bool) →
          ((P : Procedure) → Alike (procedure_lines refusing k (with_procedures (D.procedures ++ (P ∷ [])) D))
          (procedure_lines false k (with_procedures (D.procedures ++ (P ∷ [])) D))) →
          Agree (pick b (more refusing) (give D.procedures) r) (pick b (more false) (give D.procedures) r)
      go true h = then (line-alike D) h r
      go false h = inl refl

-- ---- the sheet

sheet-alike : Alike (sheet true) (sheet false)
unfolding sheet
sheet-alike =
    after (line (bytes "edition=") 1 3) λ edition.
    after (line (bytes "scalars=") 0 64) λ scalars.
    after (line (bytes "locals=") 0 32) λ locals.
    after (arrays_line scalars) λ arrays.
    after (ranges_line edition (scalars + length arrays)) λ ranges.
    let E : Declared = beginning edition scalars locals arrays ranges in
    after (given_line E) λ given.
    then (lines-alike (refuses true edition) (most_procedures edition) E) λ Ps.
    let D : Declared = with_procedures Ps E in
    after (key (bytes "formula=")) λ u.
    then (formula-alike (refuses true edition) D 64 []) λ F.
    same (mark feed >> (finish >> give (record { declared = D; given = given; formula = F })))

pub strict-agrees : (b : Bytes) → Agree (read_with true b) (read_with false b)
unfolding read_with
strict-agrees b = sheet-alike (opened b)

-- what is read strictly
pub strict-read : (b : Bytes) {s : Sheet} {r : Reader} → read_with true b ≡ found s r → read_with false b ≡ found s r
strict-read b {s} {r} e = go (strict-agrees b)
  where
    go : Agree (read_with true b) (read_with false b) → read_with false b ≡ found s r
    go (inl f) = sym f ∙ e
    go (inr (p, f)) = contradiction cc

-- an edition before the first that refuses empty ranges
pub older-alike : (b : Bytes) {s : Sheet} {r : Reader} → read_with false b ≡ found s r → ltb s.declared.edition first_strict ≡ true →
    read_with true b ≡ found s r
unfolding read_with
older-alike b {s} {r} e h =
    let l : Lines false (opened b) s = sheet-lines e in
    let k : refuses true s.declared.edition ≡ false = lt-leb first_strict s.declared.edition (ltb-true s.declared.edition first_strict h) in
    let l' : Lines true (opened b) s = record {
      edition = l.edition;
      scalars = l.scalars;
      locals = l.locals;
      arrays = l.arrays;
      ranges = l.ranges;
      given = l.given;
      procedures = record { after = l.procedures.after; is = rw k l.procedures.is };
      parameters = l.parameters;
      start = l.start;
      formula = record { after = l.formula.after; is = rw k l.formula.is };
      feed = l.feed;
      end = l.end;
    } in
    let end : l.end.after ≡ r = cc (lines-sheet l, e) in
    lines-sheet l' ∙ ap (found s) end
