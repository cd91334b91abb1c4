-- Legible procedures are read from the text of their lines, tidied, in any edition that has their words. Assumes nothing.
use Prim.Native.Nat.{ℕ, zero, suc, ◌+◌, ◌≤◌}
use native.Mathlib.Omega.{arith}
use mathlib.Core.Path.{◌≡◌, refl, sym, ◌∙◌, ap, subst}
use mathlib.Core.Bool.{Bool, true, false}
use mathlib.Core.List.{List, [], ◌∷◌, ◌++◌, append_assoc, append-nil}
use lib.ListN.{length}
use Rattle.specification.specs.Lists.{Each}
use Rattle.specification.specs.Bytes.{Bytes, bytes, between, begins}
use Rattle.specification.specs.Parser.{Reader}
use Rattle.specification.specs.Lines.{Declared}
use Rattle.specification.specs.Ast.{Formula, Procedure}
use Rattle.specification.specs.Words.{Word}
use Rattle.specification.specs.Formula.{formula}
use Rattle.specification.specs.Sheet.{with_parameters, procedure_line, procedure_lines}
use Rattle.specification.specs.Text.{formula_words, spelt, procedure_text, procedures_text}
use Rattle.specification.specs.Tidy.{dropped, token_count, numbered, tokens_before, tidied_formula, tidied_procedure}
use Rattle.specification.proofs.Laws.ReadTerm.{Sub}
use Rattle.specification.proofs.Laws.Pieces.{Anything, Reads, give-reads, look-reads, bind-reads, then-reads, feed-reads, colon-reads, exactly_reads, count-reads, colon-ends}
use Rattle.specification.proofs.Laws.Legible.{shape_of, Legible, legible-dropped, binders, added, Fresh, added-++, fresh-parts, part_same, binders-dropped, added-part, fresh-part}
use Rattle.specification.proofs.Laws.Taken.{most_tokens}
use Rattle.specification.proofs.Laws.WordPieces.{NoToken, Fits}
use Rattle.specification.proofs.Laws.WordReads.{grown}
use Rattle.specification.proofs.Laws.FormulaReads.{formula-starts}
use Rattle.specification.proofs.Laws.Tidied.{words-numbered, dropped-orderly, dropped-shorter}
use Rattle.specification.proofs.Laws.TidiedSheet.{with_line, tidied_after}
use Rattle.specification.proofs.Laws.ProcedurePieces.{ProcedureFits, fits-dropped, deepest, in_line, LegibleLines, binders_of, tokens-more, with_next, shape-next, feed-token, line-parts, NoProcedure, lines_after}

module _ (refusing : Bool) where
  -- ---- a formula, tidied behind the procedures of D

  -- the reader after it
  abbrev pub past : Formula → Reader → Reader
  past F r = grown (token_count (dropped F)) (binders (dropped F)) r

  pub tidied-reads : (D : Declared) (F : Formula) (r : Reader) → Legible (shape_of D) deepest [] F → Each (Fits D.edition) (formula_words F) →
      r.tokens ≡ tokens_before D.procedures → r.tokens + token_count F ≤ most_tokens → Fresh r.bound (binders F) →
      Reads NoToken (formula refusing D deepest []) (spelt D.edition (formula_words (tidied_formula D.procedures F)))
      (tidied_formula D.procedures F) r (past F r)
  tidied-reads D F r h fits e room fresh =
      let G = dropped F in
      let words : formula_words (tidied_formula D.procedures F) ≡ formula_words G = words-numbered D.procedures (tokens_before D.procedures) G in
      let read =
      formula-starts refusing D deepest [] G r (legible-dropped (shape_of D) deepest [] F h) (dropped-orderly F) (record {
        fits = fits-dropped D.edition F fits;
        room = omega (arith, room, dropped-shorter F);
        fresh = fresh-part (binders-dropped F) r.bound r.bound (λ j i. i) fresh;
      }) in
      let Is : List Word → Formula → Type 0 = λ ws H. Reads NoToken (formula refusing D deepest []) (spelt D.edition ws) H r (past F r) in
      subst (λ (ws : List Word). Is ws (tidied_formula D.procedures F)) (sym words)
      (subst (λ (n : ℕ). Is (formula_words G) (numbered D.procedures n G)) e read)

  -- no local has a binder there that has none behind the formula itself
  past-sub : (F : Formula) (r : Reader) → Sub (past F r).bound (added (binders F) r.bound)
  past-sub F r = added-part (binders-dropped F) r.bound r.bound (λ j i. i)

  -- ---- one line

  line_reads : (D : Declared) (P : Procedure) (r : Reader) → between 0 8 P.parameters ≡ true →
      Legible (in_line P.parameters (shape_of D)) deepest [] P.formula → ProcedureFits D.edition P →
      r.tokens ≡ tokens_before D.procedures → r.tokens + token_count P.formula ≤ most_tokens → Fresh r.bound (binders P.formula) →
      Reads Anything (procedure_line refusing D) (procedure_text D.edition (tidied_procedure D.procedures P)) (tidied_procedure D.procedures P) r
      (past P.formula r)
  unfolding procedure_line procedure_text
  line_reads D P r few h fits e room fresh =
      let n = P.parameters in
      let Q = tidied_procedure D.procedures P in
      let read = tidied-reads (with_parameters n D) P.formula r h fits e room fresh in
      subst (λ (t : Bytes). Reads Anything (procedure_line refusing D) t Q r (past P.formula r)) (line-parts Q _)
      (bind-reads _ (λ w i. tt) (exactly_reads 3 (bytes "proc=") r) (bind-reads _ (λ w i. colon-ends _) (count-reads 0 8 n few r)
      (bind-reads _ (λ w i. tt) (colon-reads r) (bind-reads _ (λ w i. feed-token w) read
      (then-reads _ (feed-reads (past P.formula r)) (λ p w. refl))))))

  -- ---- all lines

  -- the lines of these procedures, tidied behind those of D
  pub record LinesRead (D : Declared) (k : ℕ) (new : List Procedure) (r : Reader) : Type 0 where
    pub after : Reader
    pub reads : Reads NoProcedure (procedure_lines refusing k D) (procedures_text D.edition (tidied_after D.procedures new))
        (D.procedures ++ tidied_after D.procedures new) r after
    pub tokens : after.tokens ≡ tokens_before (D.procedures ++ tidied_after D.procedures new)
    pub fewer : after.tokens ≤ r.tokens + tokens_before new
    pub bound : Sub after.bound (added (binders_of new) r.bound)

  key-there : (edition : ℕ) (P : Procedure) (t w : Bytes) → begins (bytes "p") ((procedure_text edition P ++ t) ++ w) ≡ true
  unfolding procedure_text begins
  key-there edition P t w = refl

  no_more : (D : Declared) (k : ℕ) (r : Reader) → r.tokens ≡ tokens_before D.procedures → LinesRead D k [] r
  unfolding procedure_lines procedures_text tidied_after tokens_before binders_of added
  no_more D k r e = record {
    after = r;
    reads = subst (λ (Ps : List Procedure). Reads NoProcedure (procedure_lines refusing k D) [] Ps r r) (sym (append-nil D.procedures)) (none k);
    tokens = e ∙ ap tokens_before (sym (append-nil D.procedures));
    fewer = omega arith;
    bound = λ j i. i;
  }
    where
      none : (k : ℕ) → Reads NoProcedure (procedure_lines refusing k D) [] D.procedures r r
      none zero = give-reads D.procedures r
      none (suc k) = look-reads (lines_after refusing k D) (begins (bytes "p")) false (λ w n. n) (give-reads D.procedures r)

  one_more : (k : ℕ) (D : Declared) (P : Procedure) (Ps : List Procedure) (r : Reader) →
      Reads Anything (procedure_line refusing D) (procedure_text D.edition (tidied_procedure D.procedures P)) (tidied_procedure D.procedures P) r
      (past P.formula r) →
      LinesRead (with_next D (tidied_procedure D.procedures P)) k Ps (past P.formula r) → LinesRead D (suc k) (P ∷ Ps) r
  unfolding procedure_lines procedures_text tidied_after tokens_before binders_of
  one_more k D P Ps r one l =
      let Q = tidied_procedure D.procedures P in
      let rest = tidied_after (with_line D.procedures Q) Ps in
      let all : with_line D.procedures Q ++ rest ≡ D.procedures ++ (Q ∷ rest) = append_assoc D.procedures (Q ∷ []) rest in
      record {
        after = l.after;
        reads =
            subst (λ (Qs : List Procedure). Reads NoProcedure (procedure_lines refusing (suc k) D)
            (procedure_text D.edition Q ++ procedures_text D.edition rest) Qs r l.after) all
            (look-reads (lines_after refusing k D) (begins (bytes "p")) true (λ w n. key-there D.edition Q (procedures_text D.edition rest) w)
            (bind-reads _ (λ w n. tt) one l.reads));
        tokens = l.tokens ∙ ap tokens_before all;
        fewer = omega (arith, l.fewer, dropped-shorter P.formula);
        bound =
            let B = added (binders P.formula) r.bound in
            subst (λ C. Sub l.after.bound C) (added-++ (binders P.formula) (binders_of Ps) r.bound)
            (λ j i. added-part (part_same (binders_of Ps)) (past P.formula r).bound B (past-sub P.formula r) j (l.bound j i));
      }

  pub lines-reads : (k : ℕ) (D : Declared) (new : List Procedure) (r : Reader) → length new ≤ k → LegibleLines (shape_of D) new →
      Each (ProcedureFits D.edition) new → r.tokens ≡ tokens_before D.procedures → r.tokens + tokens_before new ≤ most_tokens →
      Fresh r.bound (binders_of new) → LinesRead D k new r
  unfolding LegibleLines tokens_before binders_of Each
  lines-reads k D [] r few h fits e room fresh = no_more D k r e
  lines-reads zero D (P ∷ Ps) r few h fits e room fresh = absurd (omega (arith, few))
  lines-reads (suc k) D (P ∷ Ps) r few h fits e room fresh =
      let F = P.formula in
      let r₁ = past F r in
      let Q = tidied_procedure D.procedures P in
      let (x, y) = fresh-parts (binders F) (binders_of Ps) r.bound fresh in
      let words : token_count Q.formula ≡ token_count (dropped F) =
      ap (λ (ws : List Word). length ws) (words-numbered D.procedures (tokens_before D.procedures) (dropped F)) in
      one_more k D P Ps r
      (line_reads D P r h.0 h.1 fits.0 e (omega (arith, room)) x)
      (lines-reads k (with_next D Q) Ps r₁ (omega (arith, few)) (subst (λ H. LegibleLines H Ps) (sym (shape-next D Q)) h.2) fits.1
      (omega (arith, e, words, tokens-more D.procedures Q)) (omega (arith, room, dropped-shorter F))
      (fresh-part (part_same (binders_of Ps)) r₁.bound (added (binders F) r.bound) (past-sub F r) y))
