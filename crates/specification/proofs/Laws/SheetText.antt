-- The text of a sheet (specs/Text.antt). Whatever is read is the text of the sheet that it is read as; and the text of the tidied sheet, in any
-- edition that has its words and allows its values, is read as just that, strictly or not. A sheet that is read and has no empty range is
-- tidy, and a strict reader of edition 3 lets none through. Assumes nothing.
use Prim.Native.Nat.{ℕ, ◌+◌, ◌≤◌}
use native.Mathlib.Omega.{arith}
use mathlib.Core.Path.{◌≡◌, refl, sym, ◌∙◌, ap, subst}
use mathlib.Core.Bool.{Bool, true, false}
use mathlib.Core.List.{List, [], ◌++◌, append-nil}
use lib.ListN.{length}
use lib.Dec.{ltb}
use lib.IntN.{ℤ}
use lib.Signed.{le_z}
use borrow.Author.Tests.{le-leb}
use mir.Facts.{and_yes}
use Rattle.specification.specs.Lists.{Each}
use Rattle.specification.specs.Bytes.{Bytes, bytes, pick, between, begins}
use Rattle.specification.specs.Number.{within, in32}
use Rattle.specification.specs.Parser.{Reader, found}
use Rattle.specification.specs.Lines.{line, Range, Declared, first_ranged, contains, range_number, range_of, in_range, arrays_line}
use Rattle.specification.specs.Given.{given_line}
use Rattle.specification.specs.Ast.{Procedure}
use Rattle.specification.specs.Formula.{formula}
use Rattle.specification.specs.Sheet.{with_parameters, with_procedures, most_procedures, Sheet, first_strict, refuses, sheet, opened, read_with}
use Rattle.specification.specs.Listing.{cell_names}
use Rattle.specification.specs.Text.{formula_words, spelt, number_line, arrays_text, item_text, procedures_text, formula_text, ranges_text, given_text, text_in, text_of}
use Rattle.specification.specs.Tidy.{has_empty_range, tokens_before, tidied_formula, tidied}
use Rattle.specification.specs.Moves.{declared_in, in_edition}
use Rattle.specification.specs.WellFormed.{Ordered}
use Rattle.specification.proofs.Laws.Lists.{each_map}
use Rattle.specification.proofs.Laws.Parser.{T_true, of-found}
use Rattle.specification.proofs.Laws.SheetLines.{Lines, first_declared, sheet-lines}
use Rattle.specification.proofs.Laws.ReadSheet.{read-well-formed}
use Rattle.specification.proofs.Laws.Pieces.{at, Anything, Reads, bind-reads, then-reads, feed-reads, exactly_reads}
use Rattle.specification.proofs.Laws.LinePieces.{line_reads, Sound, ranges-reads, still-reads}
use Rattle.specification.proofs.Laws.GivenPieces.{given-piece}
use Rattle.specification.proofs.Laws.Legible.{Shape, counts, shape_of, Legible, binders, added, Fresh, fresh-parts, part_same, fresh-part}
use Rattle.specification.proofs.Laws.WordPieces.{NoToken, Fits}
use Rattle.specification.proofs.Laws.TidiedSheet.{tidied_after, tidied-after, tidied-numbered, counts-tidied}
use Rattle.specification.proofs.Laws.ProcedurePieces.{ProcedureFits, deepest, binders_of, feed-token}
use Rattle.specification.proofs.Laws.ProcedureReads.{past, tidied-reads, LinesRead, lines-reads}
use Rattle.specification.proofs.Laws.SheetPieces.{head-parts, Nothing, finish-reads, ReadAs, scalars-here, locals-here, arrays-here, edition-still, scalars-still, locals-still, arrays-still, ranges-still, given-still, lines-read, read_as}

-- ---- the text of the tidied sheet, in an edition with these ranges

module _ (strict : Bool) (b : Bytes) (s : Sheet) (l : Lines strict (opened b) s) (edition : ℕ) (ranges : List Range)
    (known : between 1 3 edition ≡ true) (same : most_procedures s.declared.edition ≡ most_procedures edition)
    (many : length ranges ≡ pick (ltb edition first_ranged) 0 (s.declared.scalars + length s.declared.arrays)) (sound : Each Sound ranges)
    (keeps : (c : ℕ) (z : ℤ) → in_range s.declared c z ≡ true → in_range (declared_in edition ranges s.declared) c z ≡ true)
    (lines_fit : Each (ProcedureFits edition) s.declared.procedures) (formula_fits : Each (Fits edition) (formula_words s.formula))
    (strict' : Bool) where
  abbrev D : Declared
  D = s.declared

  abbrev Ps : List Procedure
  Ps = D.procedures

  h : ReadAs strict b s
  h = lines-read strict b s l

  -- no token was read, and there is no binder
  abbrev first : Reader
  first = opened []

  -- what is declared for the lines of procedures, and for the formula
  abbrev first' : Declared
  first' = declared_in edition ranges (first_declared D)

  abbrev whole' : Declared
  whole' = with_procedures (tidied_after [] Ps) first'

  abbrev refusing : Bool
  refusing = refuses strict' edition

  scalars-read : Reads Anything (line (bytes "scalars=") 0 64) (number_line (bytes "scalars=") D.scalars) D.scalars first first
  scalars-read = still-reads first first (edition-still strict b s l) (scalars-still strict b s l) (scalars-here strict b s l).again

  locals-read : Reads Anything (line (bytes "locals=") 0 32) (number_line (bytes "locals=") D.locals) D.locals first first
  locals-read = still-reads first first (scalars-still strict b s l) (locals-still strict b s l) (locals-here strict b s l).again

  arrays-read : Reads Anything (arrays_line D.scalars) (arrays_text D.arrays) D.arrays first first
  arrays-read = still-reads first first (locals-still strict b s l) (arrays-still strict b s l) (arrays-here strict b s l).again

  given-read : Reads Anything (given_line first') (given_text D s.given) s.given first first
  unfolding in_range range_of range_number item_text cell_names
  given-read =
      still-reads first first (ranges-still strict b s l) (given-still strict b s l)
      (of-found (given-piece (first_declared D) edition ranges keeps l.ranges.after) l.given.is).again

  parts : Fresh [] (binders_of Ps) × Fresh (added (binders_of Ps) []) (binders s.formula)
  parts = fresh-parts (binders_of Ps) (binders s.formula) [] h.fresh

  procedures-read : LinesRead refusing first' (most_procedures edition) Ps first
  unfolding tokens_before
  procedures-read =
      lines-reads refusing (most_procedures edition) first' Ps first (subst (λ (n : ℕ). length Ps ≤ n) same h.few) h.lines lines_fit refl
      (omega (arith, h.room)) parts.0

  -- both formulas stand behind the same
  same_shape : shape_of D ≡ shape_of whole'
  same_shape =
      let shape : ℕ → List ℕ → Shape =
      λ n ns. record { scalars = D.scalars; locals = D.locals; arrays = length D.arrays; parameters = n; called = ns } in
      ap (λ (n : ℕ). shape n (counts Ps)) l.parameters ∙ ap (shape 0) (sym (counts-tidied [] Ps))

  formula-read : Reads NoToken (formula refusing whole' deepest []) (spelt edition (formula_words (tidied_formula (tidied_after [] Ps) s.formula)))
      (tidied_formula (tidied_after [] Ps) s.formula) procedures-read.after (past refusing s.formula procedures-read.after)
  formula-read =
      let r = procedures-read.after in
      tidied-reads refusing whole' s.formula r (subst (λ H. Legible H deepest [] s.formula) same_shape h.formula) formula_fits
      procedures-read.tokens (omega (arith, h.room, procedures-read.fewer))
      (fresh-part (part_same (binders s.formula)) r.bound (added (binders_of Ps) []) procedures-read.bound parts.1)

  -- at its end
  abbrev after : Reader
  after = past refusing s.formula procedures-read.after

  abbrev s' : Sheet
  s' = record { declared = whole'; given = s.given; formula = tidied_formula (tidied_after [] Ps) s.formula }

  lines-reads' : Reads Nothing (sheet strict')
      (number_line (bytes "edition=") edition ++ (number_line (bytes "scalars=") D.scalars
      ++ (number_line (bytes "locals=") D.locals ++ (arrays_text D.arrays ++ (ranges_text edition ranges ++ (given_text D s.given
      ++ (procedures_text edition (tidied_after [] Ps) ++ (bytes "formula="
      ++ (spelt edition (formula_words (tidied_formula (tidied_after [] Ps) s.formula)) ++ bytes "\n")))))))))
      s' first after
  unfolding sheet begins
  lines-reads' =
      bind-reads _ (λ w n. tt) (line_reads (bytes "edition=") 1 3 edition known first)
      (bind-reads _ (λ w n. tt) scalars-read
      (bind-reads _ (λ w n. tt) locals-read
      (bind-reads _ (λ w n. tt) arrays-read
      (bind-reads _ (λ w n. tt) (ranges-reads edition (D.scalars + length D.arrays) ranges many sound first)
      (bind-reads _ (λ w n. tt) given-read
      (bind-reads _ (λ w n. refl) procedures-read.reads
      (bind-reads _ (λ w n. tt) (exactly_reads 3 (bytes "formula=") procedures-read.after)
      (bind-reads _ (λ w n. feed-token w) formula-read
      (bind-reads _ (λ w n. tt) (feed-reads after) (then-reads _ (finish-reads after) (λ p w. refl)))))))))))

  rewritten : read_with strict' (text_of s') ≡ found s' (at (0 + length (text_of s')) [] after)
  unfolding read_with text_in item_text cell_names
  rewritten =
      let X =
      ranges_text edition ranges ++ (given_text D s.given
      ++ (procedures_text edition (tidied_after [] Ps) ++ formula_text edition s'.formula)) in
      let t : text_of s' ≡ _ = head-parts whole' X in
      rw t (ap (λ (w : Bytes). sheet strict' (opened w)) (sym (append-nil _)) ∙ lines-reads'.is 0 [] refl)

  -- the tidied sheet
  tidied-is : in_edition edition ranges (tidied s) ≡ s'
  unfolding tidied
  tidied-is =
      ap (λ Qs. in_edition edition ranges (record { declared = with_procedures Qs D; given = s.given; formula = tidied_formula Qs s.formula }))
      (tidied-after [] Ps)
      ∙ ap (λ (n : ℕ). record { declared = with_parameters n whole'; given = s.given; formula = s'.formula }) l.parameters

-- ---- the laws

ordered-sound : (x : Range) → Ordered x → Sound x
unfolding contains
ordered-sound x (low, high) =
    let (a, c) = and_yes (in32 x.low) (within x.low x.high x.low) low in
    let (b, d) = and_yes (in32 x.high) (within x.low x.high x.high) high in
    let (e, f) = and_yes (le_z x.low x.low) (le_z x.low x.high) c in
    record { low = T_true (in32 x.low) a; high = T_true (in32 x.high) b; ordered = T_true (le_z x.low x.high) f }

module _ {s : Sheet} {r : Reader} (strict : Bool) (b : Bytes) (e : read_with strict b ≡ found s r) where
  abbrev is : ReadAs strict b s
  is = read_as strict b e

  -- its edition has its words
  pub words-fit : Each (ProcedureFits s.declared.edition) s.declared.procedures
      × Each (Fits s.declared.edition) (formula_words s.formula)
  words-fit = (is.lines_fit, is.formula_fits)

  -- an accepted sheet's bytes are what is written for it
  pub read-text : b ≡ text_of s
  read-text = is.text

  -- without empty ranges it is tidy
  pub tidied-same : has_empty_range s ≡ false → tidied s ≡ s
  tidied-same o = tidied-numbered s is.numbers o

  -- an edition that has its words, with ranges that allow its given values, reads the text of the tidied sheet
  pub text-in : (edition : ℕ) (ranges : List Range) →
      between 1 3 edition ≡ true → most_procedures s.declared.edition ≡ most_procedures edition →
      length ranges ≡ pick (ltb edition first_ranged) 0 (s.declared.scalars + length s.declared.arrays) → Each Sound ranges →
      ((c : ℕ) (z : ℤ) → in_range s.declared c z ≡ true → in_range (declared_in edition ranges s.declared) c z ≡ true) →
      Each (ProcedureFits edition) s.declared.procedures → Each (Fits edition) (formula_words s.formula) → (strict' : Bool) →
      (r' : Reader) × (read_with strict' (text_of (in_edition edition ranges (tidied s))) ≡ found (in_edition edition ranges (tidied s)) r')
  unfolding read_with
  text-in edition ranges known same many sound keeps i k strict' =
      let l = sheet-lines e in
      let w = tidied-is strict b s l edition ranges known same many sound keeps i k strict' in
      let read = rewritten strict b s l edition ranges known same many sound keeps i k strict' in
      let end : Reader = _ in
      (end, ap (λ (x : Sheet). read_with strict' (text_of x)) w ∙ read ∙ ap (λ (x : Sheet). found x end) (sym w))

  -- its own does
  pub text-tidied : (strict' : Bool) → (r' : Reader) × (read_with strict' (text_of (tidied s)) ≡ found (tidied s) r')
  unfolding tidied
  text-tidied strict' =
      let D = s.declared in
      let well = (read-well-formed strict b s r e).limits in
      let known : between 1 3 D.edition ≡ true = rw (le-leb 1 D.edition well.edition.0, le-leb D.edition 3 well.edition.1) in
      text-in D.edition D.ranges known refl well.ranges (each_map ordered-sound D.ranges well.ordered) (λ c z h. h) is.lines_fit
      is.formula_fits strict'

-- a strict reader of the edition that refuses empty ranges lets none through
pub strict-orderly : (b : Bytes) {s : Sheet} {r : Reader} → read_with true b ≡ found s r → s.declared.edition ≡ first_strict → has_empty_range s ≡ false
strict-orderly b e d = (read_as true b e).orderly (rw d)
