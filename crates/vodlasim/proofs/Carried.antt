-- The moves by their parts: the tests of the lent memory, what the mover wants of a sheet that is admitted, and each of the ways in which a move
-- answers. Assumes nothing.
use Prim.Native.Nat.{ℕ, ◌+◌, ◌≤◌, ◌<◌}
use native.Mathlib.Omega.{arith}
use mathlib.Core.Path.{◌≡◌, refl, sym, ◌∙◌, ap, subst}
use mathlib.Core.Bool.{Bool, true, false, ◌&&◌}
use mathlib.Core.List.{List}
use lib.ListN.{length, replicate}
use lib.Dec.{leb}
use borrow.Author.Tests.{leb-true}
use Rattle.std.specs.Prelude.{Ok, Err}
use Rattle.specification.specs.Refusals.{refusal_with}
use Rattle.specification.specs.Bytes.{Bytes, bytes, between}
use Rattle.specification.specs.Parser.{Reader, Read, refused, found}
use Rattle.specification.specs.Sheet.{Sheet, read_with}
use Rattle.specification.specs.Text.{text_of}
use Rattle.specification.specs.Outcome.{words_after}
use Rattle.specification.specs.Moves.{Result, refusal, longest_sheet, words_to_move, read_only, admitted, after_reading, move_up, move_down, tidy, Move, outcome, output_after}
use Rattle.specification.proofs.Laws.Contradiction.{contradiction}
use Rattle.specification.proofs.Laws.Parser.{and-true}
use Rattle.specification.proofs.Laws.ReadSheet.{read-well-formed}
use Rattle.specification.proofs.Laws.SheetText.{read-text, strict-orderly}
use Rattle.specification.proofs.Laws.Admitted.{only-read, admitted-found}
use Rattle.specification.proofs.Laws.Moves.{all-ranges}
use Rattle.tables.specs.Layout.{Words, path_at}
use Rattle.sheet.specs.declared.Reading.{Reading}
use Rattle.sheet.specs.Whole.{reading_of, words_of}
use Rattle.sheet.proofs.Tables.{tables-length}
use Rattle.sheet.proofs.ReadSheet.{read-counts}
use Rattle.mover.specs.Model.{lines_length, head_lines}
use Rattle.mover.specs.declared.Way.{Way}
use Rattle.mover.specs.declared.Way.TheVariants.{Up, Tidy, Down}
use Rattle.mover.specs.Steps.{Movable, moved_result, Done}
use Rattle.mover.proofs.Laws.MovedTabled.{Tabled, tabled}
use Rattle.mover.proofs.Laws.MovedText.{head-long, up-result, down-result, tidy-result}
use Rattle.vodlasim.specs.Lent.{lent}
use Rattle.vodlasim.specs.Moved.{Moved}
use Rattle.vodlasim.specs.Ways.{way_of, edition_of, strict_on, sheet_result}
use Rattle.vodlasim.proofs.Runs.{same-refusal, reading_is}

-- ---- the memory

module _ (words size : ℕ) where
  abbrev enough : Bool
  enough = leb longest_sheet size && leb words_to_move words

  pub words-enough : enough ≡ true → words_to_move ≤ words
  words-enough e = leb-true words_to_move words (and-true (leb longest_sheet size) (leb words_to_move words) e).1

-- ---- the sheet

pub edition-small : (way : Way) → edition_of way < 4294967295
edition-small Up = omega arith
edition-small Tidy = omega arith
edition-small Down = omega arith

module _ (strict : Bool) (edition : ℕ) (sheet : Bytes) (words size : ℕ) where
  pub first-refused : enough words size ≡ false → admitted strict edition sheet words size ≡ refused 1 0
  unfolding admitted
  first-refused e = rw e

  pub second-refused : enough words size ≡ true → leb (length sheet) longest_sheet ≡ false →
      admitted strict edition sheet words size ≡ refused 2 longest_sheet
  unfolding admitted
  second-refused e l = rw (e, l)

  pub reads_only : enough words size ≡ true → leb (length sheet) longest_sheet ≡ true →
      admitted strict edition sheet words size ≡ read_only strict edition sheet
  unfolding admitted
  reads_only e l = rw (e, l)

-- a sheet was read on its way: these are its numbers and the words
module _ (way : Way) (sheet : Bytes) (words size : ℕ) (d : Reading) (w : Words) where
  abbrev admits-way : Read Sheet
  admits-way = admitted (strict_on way) (edition_of way) sheet words size

  pub record Known : Type 0 where
    pub what : Sheet
    pub reader : Reader
    pub admits : admits-way ≡ found what reader
    pub is_read : read_with (strict_on way) sheet ≡ found what reader
    pub written : what.declared.edition ≡ edition_of way
    pub ranges : d.scalars + d.arrays ≡ what.declared.scalars + length what.declared.arrays
    pub table : Tabled what w
    pub few : (d.scalars ≤ 64) × (d.arrays ≤ 16)
    pub room : longest_sheet ≤ size
    pub movable : Movable sheet w

  known-edition : (v : Way) → between 1 3 (edition_of v) ≡ true
  known-edition Up = refl
  known-edition Down = refl
  known-edition Tidy = refl

  pub known-sheet : Ok d ≡ reading_of admits-way → w ≡ words_of words admits-way → Known
  known-sheet is holds = go admits-way refl is holds
    where
      go : (x : Read Sheet) → admits-way ≡ x → Ok d ≡ reading_of x → w ≡ words_of words x → Known
      go (refused n p) e f h = contradiction cc
      go (found s r) e f h =
          let strict = strict_on way in
          let a = admitted-found strict (edition_of way) sheet words size s r e in
          let (reads, written) = only-read strict (edition_of way) (known-edition way) sheet s r a.reads in
          let well = read-well-formed strict sheet s r reads in
          let count = read-counts strict sheet s r reads in
          let enough : path_at ≤ words = a.enough.0 in
          let same : d ≡ reading_is s = cc in
          let v : d.scalars ≡ s.declared.scalars = ap (λ x. x.scalars) same in
          let u : d.arrays ≡ length s.declared.arrays = ap (λ x. x.arrays) same in
          let long : length w ≡ words = ap length h ∙ tables-length s words enough count.few in
          let few : (d.scalars ≤ 64) × (d.arrays ≤ 16) = (rw v well.limits.scalars, rw u well.limits.arrays) in
          record {
            what = s;
            reader = r;
            admits = e;
            is_read = reads;
            written = written;
            ranges = rw (v, u);
            table = subst (Tabled s) (sym h) (tabled s words enough count well);
            few = few;
            room = a.enough.1;
            movable = record {
              short = a.short;
              head = subst (λ (t : Bytes). length (bytes "edition=2\n") ≤ lines_length head_lines t) (sym (read-text strict sheet reads)) (head-long s);
              tables = omega (arith, long, enough);
            };
          }

-- what the mover makes of its bytes and tables is what is written for it
written-result : (way : Way) (sheet : Bytes) (s : Sheet) (r : Reader) (w : Words) → read_with (strict_on way) sheet ≡ found s r →
    s.declared.edition ≡ edition_of way → Tabled s w →
    moved_result way (s.declared.scalars + length s.declared.arrays) w (text_of s) ≡ sheet_result way s
written-result Up sheet s r w e d t = up-result s w t d
written-result Down sheet s r w e d t = down-result s w t d (all-ranges true sheet s r e d) (strict-orderly sheet e d)
written-result Tidy sheet s r w e d t = tidy-result s w t d

-- ---- what a move answers

-- a way of the specification by its parts
way_parts : (way : Way) (sheet : Bytes) (words size : ℕ) →
    way_of way sheet words size ≡ after_reading (sheet_result way) (admitted (strict_on way) (edition_of way) sheet words size)
unfolding move_up move_down tidy
way_parts Up sheet words size = refl
way_parts Down sheet words size = refl
way_parts Tidy sheet words size = refl

module _ (way : Way) (sheet : Bytes) (w : List ℕ) (o : Bytes) where
  abbrev admits-here : Read Sheet
  admits-here = admitted (strict_on way) (edition_of way) sheet (length w) (length o)

  gives-here : (x : Read Sheet) → admits-here ≡ x → way_of way sheet (length w) (length o) ≡ after_reading (sheet_result way) x
  gives-here x e = way_parts way sheet (length w) (length o) ∙ ap (after_reading (sheet_result way)) e

  -- a sheet that is not admitted
  pub refused-answers : (w' : List ℕ) (n p : ℕ) → Err (refusal_with n p) ≡ reading_of admits-here → w' ≡ words_of (length w) admits-here →
      Moved (way_of way) sheet (lent w w') (lent o o) (Err (refusal_with n p))
  unfolding words_after output_after
  refused-answers w' n p e h = go admits-here refl e h
    where
      go : (x : Read Sheet) → admits-here ≡ x → Err (refusal_with n p) ≡ reading_of x → w' ≡ words_of (length w) x →
          Moved (way_of way) sheet (lent w w') (lent o o) (Err (refusal_with n p))
      go (refused m q) f e h =
          let (a, b) = same-refusal e in
          let g : way_of way sheet (length w) (length o) ≡ refusal n p = gives-here (refused m q) f ∙ rw (a, b) refl in
          record { result = rw g; output = rw g; work = h }
      go (found s r) f e h = contradiction cc

  -- one that is admitted, where the mover did this and the words v were cleared
  pub moved-answers : (d : Reading) (v w' : List ℕ) (o' : Bytes) (r : Move) →
      Ok d ≡ reading_of admits-here → v ≡ words_of (length w) admits-here →
      Done (moved_result way (d.scalars + d.arrays) v sheet) r o o' → w' ≡ replicate (length w) 0 → Moved (way_of way) sheet (lent w w') (lent o o') r
  unfolding words_after
  moved-answers d v w' o' r e h done z =
      let k = known-sheet way sheet (length w) (length o) d v e h in
      let s = k.what in
      let n = s.declared.scalars + length s.declared.arrays in
      let f : moved_result way (d.scalars + d.arrays) v sheet ≡ sheet_result way s =
      ap (λ (m : ℕ). moved_result way m v sheet) k.ranges
      ∙ ap (moved_result way n v) (read-text (strict_on way) sheet k.is_read)
      ∙ written-result way sheet s k.reader v k.is_read k.written k.table in
      let g : way_of way sheet (length w) (length o) ≡ sheet_result way s = gives-here (found s k.reader) k.admits in
      record { result = done.0 ∙ ap outcome (f ∙ sym g); output = done.1 ∙ ap (λ (x : Result). output_after x o) (f ∙ sym g); work = z }
