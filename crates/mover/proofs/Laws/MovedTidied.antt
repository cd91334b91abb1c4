-- The text of a tidied sheet's lines: the numbers of tokens are not written, so that it is the text of the lines without empty ranges, and of
-- the lines themselves where they have none. Assumes nothing.
use Prim.Native.Nat.{ℕ}
use mathlib.Core.Path.{◌≡◌, refl, sym, ◌∙◌}
use mathlib.Core.Bool.{false}
use mathlib.Core.List.{List, [], ◌∷◌, ◌++◌, append_assoc, append-nil}
use Rattle.specification.specs.Ast.{Formula, Procedure}
use Rattle.specification.specs.Sheet.{Sheet}
use Rattle.specification.specs.Text.{procedure_text, procedures_text, formula_text}
use Rattle.specification.specs.Tidy.{has_empty, any_empty, has_empty_range, dropped, tidied_formula, tidied_procedure, tidied_procedures}
use Rattle.specification.proofs.Laws.Tidied.{words-numbered, or-false, dropped-same}

-- ---- lines

-- without empty ranges
abbrev pub dropped_procedure : Procedure → Procedure
dropped_procedure P = record { parameters = P.parameters; formula = dropped P.formula }

abbrev pub dropped_procedures : List Procedure → List Procedure
dropped_procedures [] = []
dropped_procedures (P ∷ Ps) = dropped_procedure P ∷ dropped_procedures Ps

module _ (e : ℕ) where
  pub formula-text : (Ps : List Procedure) (F : Formula) → formula_text e (tidied_formula Ps F) ≡ formula_text e (dropped F)
  formula-text Ps F = rw (words-numbered Ps _ (dropped F))

  procedure-text : (Ps : List Procedure) (P : Procedure) → procedure_text e (tidied_procedure Ps P) ≡ procedure_text e (dropped_procedure P)
  unfolding procedure_text
  procedure-text Ps P = rw (words-numbered Ps _ (dropped P.formula))

  text-more : (Ps : List Procedure) (P : Procedure) → procedures_text e (Ps ++ (P ∷ [])) ≡ procedures_text e Ps ++ procedure_text e P
  unfolding procedures_text
  text-more [] P = append-nil (procedure_text e P)
  text-more (Q ∷ Ps) P =
      rw (text-more Ps P) (sym (append_assoc (procedure_text e Q) (procedures_text e Ps) (procedure_text e P)))

  after_text : (done Ps : List Procedure) →
      procedures_text e (tidied_procedures done Ps) ≡ procedures_text e done ++ procedures_text e (dropped_procedures Ps)
  unfolding procedures_text tidied_procedures
  after_text done [] = sym (append-nil (procedures_text e done))
  after_text done (P ∷ Ps) =
      let P' = tidied_procedure done P in
      let later = procedures_text e (dropped_procedures Ps) in
      after_text (done ++ (P' ∷ [])) Ps
      ∙ rw (text-more done P', append_assoc (procedures_text e done) (procedure_text e P') later, procedure-text done P)

  pub procedures-text : (Ps : List Procedure) → procedures_text e (tidied_procedures [] Ps) ≡ procedures_text e (dropped_procedures Ps)
  unfolding procedures_text
  procedures-text Ps = after_text [] Ps

-- ---- lines that have no empty range

procedures-none : (Ps : List Procedure) → any_empty Ps ≡ false → dropped_procedures Ps ≡ Ps
unfolding any_empty
procedures-none [] h = refl
procedures-none (P ∷ Ps) h =
    let k = or-false (has_empty P.formula) (any_empty Ps) h in
    rw (dropped-same P.formula k.0, procedures-none Ps k.1)

pub sheet-none : (s : Sheet) → has_empty_range s ≡ false →
    (dropped_procedures s.declared.procedures ≡ s.declared.procedures) × (dropped s.formula ≡ s.formula)
unfolding has_empty_range
sheet-none s h =
    let k = or-false (any_empty s.declared.procedures) (has_empty s.formula) h in
    (procedures-none s.declared.procedures k.0, dropped-same s.formula k.1)
