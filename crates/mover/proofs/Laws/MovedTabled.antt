-- The lines of procedures and of the formula, whose tokens stand in the table one after the other: their text, rewritten, is that of the same
-- lines without empty ranges. And the tables of a sheet that was read hold its lines. Assumes nothing.
use Prim.Native.Nat.{ℕ, suc, ◌+◌, ◌≤◌, ◌<◌}
use native.Mathlib.Omega.{arith}
use mathlib.Core.Path.{◌≡◌, refl, sym, ◌∙◌, ap, subst}
use mathlib.Core.Bool.{Bool, true, false}
use mathlib.Core.List.{List, [], ◌∷◌, ◌++◌, append_assoc, append-nil}
use lib.ListN.{length, get_or, length-append}
use Rattle.specification.specs.Bytes.{Bytes, bytes, class_of, class_number, is_in, in_number, run, begins}
use Rattle.specification.specs.Number.{printℕ}
use Rattle.specification.specs.Lines.{Declared}
use Rattle.specification.specs.Given.{Item}
use Rattle.specification.specs.Ast.{Formula, Procedure}
use Rattle.specification.specs.Sheet.{Sheet}
use Rattle.specification.specs.WellFormed.{Scope, nowhere, line_of, Ok, WellFormed}
use Rattle.specification.specs.Text.{formula_words, spelt, procedure_key, procedure_text, procedures_text, formula_text}
use Rattle.specification.specs.Tidy.{dropped}
use Rattle.specification.proofs.Laws.Canonical.{run-passes}
use Rattle.tables.specs.Layout.{Words, max_tokens, end_at, path_at}
use Rattle.sheet.specs.declared.Token.{Token}
use Rattle.sheet.specs.Codes.{formula_tokens, procedures_tokens}
use Rattle.sheet.specs.Tables.{declared_tables, tables_of, sheet_tokens, tables}
use Rattle.sheet.specs.Held.{FormulaAt}
use Rattle.sheet.specs.Numbered.{Numbered}
use Rattle.sheet.proofs.After.{formula-subtree}
use Rattle.sheet.proofs.Laid.{Along, Entry, laid, skip, subtree}
use Rattle.sheet.proofs.Held.{formula-at}
use Rattle.sheet.proofs.Numbered.{renumbered}
use Rattle.sheet.proofs.Procs.{none}
use Rattle.sheet.proofs.Bodies.{Bodies}
use Rattle.sheet.proofs.Tables.{declared-length}
use Rattle.sheet.proofs.ReadSheet.{FromZero}
use Rattle.mover.specs.Model.{in_word, is_key, chunks, rewritten}
use Rattle.mover.proofs.Laws.MovedChunks.{Letters, number-letters, Mark, key-rewritten}
use Rattle.mover.proofs.Laws.MovedWords.{line-parts}
use Rattle.mover.proofs.Laws.MovedFormulas.{edition_of, formula-writes}
use Rattle.mover.proofs.Laws.MovedTidied.{dropped_procedure, dropped_procedures}

-- ---- lines that stand in the table

-- well scoped in some line, so that its constants are of 32 bits
pub record Scoped (F : Formula) : Type 0 where
  pub declared : Declared
  pub scope : Scope
  pub ok : Ok declared scope F

abbrev Stands : Words → ℕ → Formula → Type 0
Stands w i F = FormulaAt w i F × Scoped F

-- the first token of the first line is the i-th
abbrev pub LinesAt : Words → ℕ → List Procedure → Formula → Type 0
LinesAt w i [] F = Stands w i F
LinesAt w i (P ∷ Ps) F = Stands w i P.formula × LinesAt w (end_at w i) Ps F

pub record Tabled (s : Sheet) (w : Words) : Type 0 where
  pub lines : LinesAt w 0 s.declared.procedures s.formula

-- ---- rewritten

equals : Mark true 61
unfolding in_word is_in class_number class_of in_number is_key begins
equals = record { outside = refl; ends = λ t. refl }

colon : Mark true 58
unfolding in_word is_in class_number class_of in_number is_key begins
colon = record { outside = refl; ends = λ t. refl }

feed : Mark false 10
unfolding in_word is_in class_number class_of in_number is_key begins
feed = record { outside = refl; ends = λ t. refl }

proc-letters : Letters (bytes "proc")
unfolding run in_word is_in class_number class_of
proc-letters = run-passes in_word (bytes "proc")

formula-letters : Letters (bytes "formula")
unfolding run in_word is_in class_number class_of
formula-letters = run-passes in_word (bytes "formula")

module _ (w : Words) (newer : Bool) (e : ℕ) where
  words-rewritten : (F : Formula) (i : ℕ) → Stands w i F → (rest : Bytes) →
      rewritten w newer i 0 (chunks (spelt e (formula_words F) ++ 10 ∷ rest))
      ≡ spelt (edition_of newer) (formula_words (dropped F)) ++ 10 ∷ rewritten w newer (end_at w i) 0 (chunks rest)
  words-rewritten F i (h, s) rest = (formula-writes w newer e s.declared s.scope F i h s.ok).is 10 feed rest

  key-words : (P : Procedure) (x : Bytes) → procedure_key P ++ x ≡ bytes "proc" ++ 61 ∷ (printℕ P.parameters ++ 58 ∷ x)
  key-words P x = rw (append_assoc (printℕ P.parameters) (bytes ":") x)

  procedure-rewritten : (P : Procedure) (i : ℕ) → Stands w i P.formula → (rest : Bytes) →
      rewritten w newer i 0 (chunks (procedure_text e P ++ rest))
      ≡ procedure_text (edition_of newer) (dropped_procedure P) ++ rewritten w newer (end_at w i) 0 (chunks rest)
  unfolding procedure_text
  procedure-rewritten P i h rest =
      let t = spelt e (formula_words P.formula) in
      let t' = spelt (edition_of newer) (formula_words (dropped P.formula)) in
      let n = printℕ P.parameters in
      let later = rewritten w newer (end_at w i) 0 (chunks rest) in
      rw (
        line-parts (procedure_key P) t rest,
        line-parts (procedure_key P) t' later,
        key-words P (t ++ 10 ∷ rest),
        key-words P (t' ++ 10 ∷ later),
        key-rewritten w newer (bytes "proc") 61 (n ++ 58 ∷ (t ++ 10 ∷ rest)) proc-letters i 0 equals,
        key-rewritten w newer n 58 (t ++ 10 ∷ rest) (number-letters P.parameters) i 0 colon,
        words-rewritten P.formula i h rest,
      )

  pub lines-rewritten : (Ps : List Procedure) (F : Formula) (i : ℕ) → LinesAt w i Ps F →
      rewritten w newer i 0 (chunks (procedures_text e Ps ++ formula_text e F))
      ≡ procedures_text (edition_of newer) (dropped_procedures Ps) ++ formula_text (edition_of newer) (dropped F)
  unfolding procedures_text chunks rewritten
  lines-rewritten [] F i h =
      key-rewritten w newer (bytes "formula") 61 (spelt e (formula_words F) ++ bytes "\n") formula-letters i 0 equals
      ∙ ap (bytes "formula=" ++◌) (words-rewritten F i h [])
  lines-rewritten (P ∷ Ps) F i h =
      let rest = procedures_text e Ps ++ formula_text e F in
      let P' = dropped_procedure P in
      let written = procedures_text (edition_of newer) (dropped_procedures Ps) in
      ap (λ (t : Bytes). rewritten w newer i 0 (chunks t)) (append_assoc (procedure_text e P) (procedures_text e Ps) (formula_text e F))
      ∙ procedure-rewritten P i h.0 rest ∙ ap (procedure_text (edition_of newer) P' ++◌) (lines-rewritten Ps F (end_at w i) h.1)
      ∙ sym (append_assoc (procedure_text (edition_of newer) P') written (formula_text (edition_of newer) (dropped F)))

-- ---- the tables of a sheet

module _ (D : Declared) (is : List Item) (n : ℕ) (enough : path_at ≤ n) (ts : List Token) (few : length ts ≤ max_tokens) where
  abbrev held : Words
  held = tables_of D is ts n

  module _ (xs : List Token) (F : Formula) (rest : List Token) (e : ts ≡ xs ++ (formula_tokens F ++ rest)) where
    laid_from : Along (Entry held) (length xs) (formula_tokens F ++ rest)
    laid_from =
        let all = laid ts (declared_tables D is n) (omega (arith, declared-length D is n)) in
        let from : 0 + length xs ≡ length xs = omega arith in
        subst (λ i. Along (Entry held) i (formula_tokens F ++ rest)) from
        (skip held xs (formula_tokens F ++ rest) 0 (subst (λ us. Along (Entry held) 0 us) e all))

    stands_from : Numbered (length xs) F → FormulaAt held (length xs) F
    stands_from h =
        formula-at held F rest (length xs) laid_from h
        (omega (arith, few, ap length e, length-append xs (formula_tokens F ++ rest), length-append (formula_tokens F) rest))

    ends_at : length (xs ++ formula_tokens F) ≡ end_at held (length xs)
    ends_at = length-append xs (formula_tokens F) ∙ sym (subtree held (formula_tokens F) rest (length xs) (formula-subtree F) laid_from).0

  lines_at : (Ps : List Procedure) (F : Formula) (K : ℕ) (xs : List Token) → ts ≡ xs ++ (procedures_tokens Ps ++ formula_tokens F) →
      Bodies K (length xs) Ps → Numbered (length (xs ++ procedures_tokens Ps)) F →
      ((m : ℕ) → m < length Ps → Scoped (get_or Ps m none).formula) → Scoped F → LinesAt held (length xs) Ps F
  unfolding procedures_tokens Bodies
  lines_at [] F K xs e b f p s =
      (stands_from xs F [] (e ∙ rw (append-nil (formula_tokens F))) (renumbered F (ap length (append-nil xs)) f), s)
  lines_at (P ∷ Ps) F K xs e b f p s =
      let us = formula_tokens P.formula in
      let vs = procedures_tokens Ps in
      let split : ts ≡ xs ++ (us ++ (vs ++ formula_tokens F)) = e ∙ ap (xs ++◌) (append_assoc us vs (formula_tokens F)) in
      let further : ts ≡ xs ++ us ++ (vs ++ formula_tokens F) = split ∙ sym (append_assoc xs us (vs ++ formula_tokens F)) in
      let first = stands_from xs P.formula (vs ++ formula_tokens F) split b.0.numbered in
      let later =
      lines_at Ps F (suc K) (xs ++ us) further (subst (λ i. Bodies (suc K) i Ps) (sym (length-append xs us)) b.1)
      (renumbered F (ap length (sym (append_assoc xs us vs))) f) (λ m h. p (suc m) (omega arith)) s in
      ((first, p 0 (omega arith)), subst (λ i. LinesAt held i Ps F) (ends_at xs P.formula (vs ++ formula_tokens F) split) later)

pub tabled : (s : Sheet) (n : ℕ) → path_at ≤ n → FromZero s → WellFormed s → Tabled s (tables s n)
unfolding tables
tabled s n enough c ok = record {
  lines = lines_at s.declared s.given n enough (sheet_tokens s) c.few s.declared.procedures s.formula 0 [] refl
      c.bodies c.formula
      (λ m h. record { declared = line_of s.declared m; scope = nowhere; ok = ok.procedures m h })
      (record { declared = s.declared; scope = nowhere; ok = ok.formula });
}
