-- A tidied sheet has no empty range, and tidying it again changes nothing; nor does tidying any sheet without one whose tokens have the numbers
-- that they get. Assumes nothing.
use Prim.Native.Nat.{ℕ}
use mathlib.Core.Path.{◌≡◌, refl, sym, ◌∙◌, ap, subst}
use mathlib.Core.Bool.{false}
use mathlib.Core.List.{List, [], ◌∷◌, ◌++◌, append_assoc, append-nil}
use Rattle.specification.specs.Ast.{Formula, Procedure}
use Rattle.specification.specs.Sheet.{with_procedures, Sheet}
use Rattle.specification.specs.Tidy.{has_empty, any_empty, has_empty_range, dropped, numbered, tokens_before, tidied_formula, tidied_procedure, tidied_procedures, tidied}
use Rattle.specification.proofs.Laws.Legible.{counts}
use Rattle.specification.proofs.Laws.Tidied.{numbered-twice, empty-numbered, dropped-orderly, or-false, dropped-same}

-- ---- the lines of procedures

-- one line more
abbrev pub with_line : List Procedure → Procedure → List Procedure
with_line done P = done ++ (P ∷ [])

-- those of the second list, tidied behind the first
unfoldable pub tidied_after : List Procedure → List Procedure → List Procedure
tidied_after done [] = []
tidied_after done (P ∷ Ps) = tidied_procedure done P ∷ tidied_after (with_line done (tidied_procedure done P)) Ps

pub tidied-after : (done Ps : List Procedure) → tidied_procedures done Ps ≡ done ++ tidied_after done Ps
unfolding tidied_procedures tidied_after
tidied-after done [] = sym (append-nil done)
tidied-after done (P ∷ Ps) =
    let Q = tidied_procedure done P in
    tidied-after (with_line done Q) Ps ∙ append_assoc done (Q ∷ []) (tidied_after (with_line done Q) Ps)

-- ---- token numbers

-- the tokens of a formula behind these lines have the numbers that they get, and its calls mean what these say
abbrev NumberedHere : List Procedure → Formula → Type 0
NumberedHere Ps F = numbered Ps (tokens_before Ps) F ≡ F

-- those of each line of the second list, behind the first
unfoldable pub NumberedLines : List Procedure → List Procedure → Type 0
NumberedLines done [] = Unit {0}
NumberedLines done (P ∷ Ps) = NumberedHere done P.formula × NumberedLines (with_line done P) Ps

pub record NumberedSheet (s : Sheet) : Type 0 where
  pub lines : NumberedLines [] s.declared.procedures
  pub formula : NumberedHere s.declared.procedures s.formula

formula-same : (Ps : List Procedure) (F : Formula) → NumberedHere Ps F → has_empty F ≡ false → tidied_formula Ps F ≡ F
formula-same Ps F h e = ap (numbered Ps (tokens_before Ps)) (dropped-same F e) ∙ h

lines_same : (done Ps : List Procedure) → NumberedLines done Ps → any_empty Ps ≡ false → tidied_after done Ps ≡ Ps
unfolding tidied_after NumberedLines any_empty
lines_same done [] h e = refl
lines_same done (P ∷ Ps) h e =
    let (x, y) = or-false (has_empty P.formula) (any_empty Ps) e in
    let same : tidied_procedure done P ≡ P =
    ap (λ F. record { parameters = P.parameters; formula = F }) (formula-same done P.formula h.0 x) in
    rw same (ap (λ (Qs : List Procedure). P ∷ Qs) (lines_same (with_line done P) Ps h.1 y))

-- without empty ranges, and with the numbers that its tokens get, a sheet is tidy
pub tidied-numbered : (s : Sheet) → NumberedSheet s → has_empty_range s ≡ false → tidied s ≡ s
unfolding tidied has_empty_range
tidied-numbered s h e =
    let Ps = s.declared.procedures in
    let (x, y) = or-false (any_empty Ps) (has_empty s.formula) e in
    let lines : tidied_procedures [] Ps ≡ Ps = tidied-after [] Ps ∙ lines_same [] Ps h.lines x in
    ap (λ Qs. record { declared = with_procedures Qs s.declared; given = s.given; formula = tidied_formula Qs s.formula }) lines
    ∙ ap (λ F. record { declared = s.declared; given = s.given; formula = F }) (formula-same Ps s.formula h.formula y)

-- ---- a tidied sheet

formula-orderly : (Ps : List Procedure) (F : Formula) → has_empty (tidied_formula Ps F) ≡ false
formula-orderly Ps F = empty-numbered Ps (tokens_before Ps) (dropped F) ∙ dropped-orderly F

formula-numbered : (Ps : List Procedure) (F : Formula) → NumberedHere Ps (tidied_formula Ps F)
formula-numbered Ps F = numbered-twice Ps (tokens_before Ps) (dropped F)

lines-orderly : (done Ps : List Procedure) → any_empty (tidied_after done Ps) ≡ false
unfolding tidied_after any_empty
lines-orderly done [] = refl
lines-orderly done (P ∷ Ps) = rw (formula-orderly done P.formula) (lines-orderly (with_line done (tidied_procedure done P)) Ps)

lines-numbered : (done Ps : List Procedure) → NumberedLines done (tidied_after done Ps)
unfolding tidied_after NumberedLines
lines-numbered done [] = tt
lines-numbered done (P ∷ Ps) = (formula-numbered done P.formula, lines-numbered (with_line done (tidied_procedure done P)) Ps)

pub tidied-orderly : (s : Sheet) → has_empty_range (tidied s) ≡ false
unfolding tidied has_empty_range
tidied-orderly s =
    let Ps = s.declared.procedures in
    rw (ap any_empty (tidied-after [] Ps) ∙ lines-orderly [] Ps) (formula-orderly (tidied_procedures [] Ps) s.formula)

pub tidied-twice : (s : Sheet) → tidied (tidied s) ≡ tidied s
unfolding tidied
tidied-twice s =
    let Ps = s.declared.procedures in
    tidied-numbered (tidied s)
    (record {
      lines = subst (λ (Qs : List Procedure). NumberedLines [] Qs) (sym (tidied-after [] Ps)) (lines-numbered [] Ps);
      formula = formula-numbered (tidied_procedures [] Ps) s.formula;
    })
    (tidied-orderly s)

-- each procedure keeps its parameters
pub counts-tidied : (done Ps : List Procedure) → counts (tidied_after done Ps) ≡ counts Ps
unfolding tidied_after counts
counts-tidied done [] = refl
counts-tidied done (P ∷ Ps) = ap (λ (ns : List ℕ). P.parameters ∷ ns) (counts-tidied (with_line done (tidied_procedure done P)) Ps)
