-- Which sheets a move reads, and what it makes of them: the memory is enough, the sheet is short and of the edition, and what is written fits.
-- Assumes nothing.
use Prim.Native.Nat.{ℕ, ◌+◌, ◌≤◌}
use native.Mathlib.Omega.{arith}
use mathlib.Core.Path.{◌≡◌, refl, ◌∙◌, ap}
use mathlib.Core.Bool.{Bool, true, false, ◌&&◌}
use mathlib.Core.List.{◌++◌}
use mathlib.Core.Logic.{inl}
use mathlib.Core.Option.{Option, none, some as just}
use lib.ListN.{length}
use lib.Dec.{leb}
use borrow.Author.Tests.{leb-true, le-leb}
use Rattle.specification.specs.Bytes.{Bytes, bytes, pick, between}
use Rattle.specification.specs.Parser.{Reader, Read, refused, found, and_then}
use Rattle.specification.specs.Lines.{line}
use Rattle.specification.specs.Sheet.{Sheet, opened, read_with}
use Rattle.specification.specs.Text.{number_line, text_in}
use Rattle.specification.specs.Moves.{Result, refusal, moved, read_only, admitted, after_reading, longest_sheet, words_to_move, fitted, unless}
use Rattle.specification.specs.Moving.{Enough}
use Rattle.specification.proofs.Laws.Contradiction.{contradiction}
use Rattle.specification.proofs.Laws.Parser.{of-found}
use Rattle.specification.proofs.Laws.ReadLines.{line_post}
use Rattle.specification.proofs.Laws.SheetLines.{sheet-lines}
use Rattle.specification.proofs.Laws.Strict.{Agree, strict-agrees}
use Rattle.specification.proofs.Laws.Pieces.{at}
use Rattle.specification.proofs.Laws.LinePieces.{line_reads, line-piece}
use Rattle.specification.proofs.Laws.SheetPieces.{head-parts}
use Rattle.specification.proofs.Laws.SheetText.{read-text}

-- ---- the reading of one edition only

-- a sheet of the edition is read, and no other
module _ (strict : Bool) (edition : ℕ) (known : between 1 3 edition ≡ true) (b : Bytes) (s : Sheet) (r : Reader) where
  abbrev first : ℕ → ℕ → Read ℕ
  first lo hi = line (bytes "edition=") lo hi (opened b)

  -- the number in the first line is the edition
  same_number : (n : ℕ) (r₁ : Reader) → first edition edition ≡ found n r₁ → read_with strict b ≡ found s r → s.declared.edition ≡ edition
  unfolding read_with
  same_number n r₁ e f =
      let l = sheet-lines f in
      let (lo, hi) = of-found (line_post edition edition (bytes "edition=") (opened b)) e in
      let m : n ≡ edition = omega (arith, lo, hi) in
      let stands : b ≡ number_line (bytes "edition=") n ++ r₁.rest = (of-found (line-piece (bytes "edition=") edition edition (opened b)) e).rest in
      let again : first 1 3 ≡ found n (at (0 + length (number_line (bytes "edition=") n)) r₁.rest (opened b)) =
      ap (λ (w : Bytes). line (bytes "edition=") 1 3 (opened w)) stands
      ∙ (line_reads (bytes "edition=") 1 3 n (ap (between 1 3) m ∙ known) (opened b)).is 0 r₁.rest tt in
      let k : s.declared.edition ≡ n = cc (again, l.edition.is) in
      k ∙ m

  abbrev OfEdition : Type 0
  OfEdition = (read_with strict b ≡ found s r) × (s.declared.edition ≡ edition)

  pub only-read : read_only strict edition b ≡ found s r → OfEdition
  unfolding read_only
  only-read e = go (first edition edition) refl e
    where
      go : (x : Read ℕ) → first edition edition ≡ x → and_then (λ n r₁. read_with strict b) x ≡ found s r → OfEdition
      go (refused n p) h k = contradiction cc
      go (found n r₁) h k = (k, same_number n r₁ h k)

  read-only : read_with strict b ≡ found s r → s.declared.edition ≡ edition → read_only strict edition b ≡ found s r
  unfolding read_only text_in
  read-only e d =
      let X : Bytes = _ in
      let text : b ≡ number_line (bytes "edition=") edition ++ X =
      read-text strict b e ∙ head-parts s.declared _ ∙ ap (λ (n : ℕ). number_line (bytes "edition=") n ++ X) d in
      let i : between edition edition edition ≡ true = rw (le-leb edition edition (omega arith)) in
      let f =
      ap (λ (w : Bytes). line (bytes "edition=") edition edition (opened w)) text
      ∙ (line_reads (bytes "edition=") edition edition edition i (opened b)).is 0 X tt in
      ap (and_then (λ n r₁. read_with strict b)) f ∙ e

-- ---- what a move gives

pub fitted-moved : (u t : Bytes) → fitted u ≡ moved t → (u ≡ t) × (length u ≤ longest_sheet)
unfolding fitted
fitted-moved u t e = go (leb (length u) longest_sheet) refl e
  where
    go : (b : Bool) → leb (length u) longest_sheet ≡ b → pick b (moved u) (refusal 2 longest_sheet) ≡ moved t → (u ≡ t) × (length u ≤ longest_sheet)
    go true h k = (cc, leb-true (length u) longest_sheet h)
    go false h k = contradiction cc

pub fits_moved : (u : Bytes) → length u ≤ longest_sheet → fitted u ≡ moved u
unfolding fitted
fits_moved u h = rw (le-leb (length u) longest_sheet h)

pub unless-moved : (n : ℕ) (o : Option ℕ) (r : Result) (t : Bytes) → unless n o r ≡ moved t → (o ≡ none) × (r ≡ moved t)
unless-moved n none r t e = (refl, e)
unless-moved n (just p) r t e = contradiction cc

module _ (strict : Bool) (edition : ℕ) (sheet : Bytes) (words size : ℕ) where
  -- a sheet that is admitted is short and of the edition, and the memory is enough
  pub record Admitted (s : Sheet) (r : Reader) : Type 0 where
    pub enough : Enough words size
    pub short : length sheet ≤ longest_sheet
    pub reads : read_only strict edition sheet ≡ found s r

  pub admitted-found : (s : Sheet) (r : Reader) → admitted strict edition sheet words size ≡ found s r → Admitted s r
  unfolding admitted
  admitted-found s r e = go (leb longest_sheet size) (leb words_to_move words) (leb (length sheet) longest_sheet) refl refl refl e
    where
      go : (a b c : Bool) → leb longest_sheet size ≡ a → leb words_to_move words ≡ b → leb (length sheet) longest_sheet ≡ c →
          pick (a && b) (pick c (read_only strict edition sheet) (refused 2 longest_sheet)) (refused 1 0) ≡ found s r → Admitted s r
      go true true true f g h k = record {
        enough = (leb-true words_to_move words g, leb-true longest_sheet size f);
        short = leb-true (length sheet) longest_sheet h;
        reads = k;
      }
      go true true false f g h k = contradiction cc
      go true false c f g h k = contradiction cc
      go false b c f g h k = contradiction cc

  found-admitted : Enough words size → length sheet ≤ longest_sheet → (s : Sheet) (r : Reader) →
      read_only strict edition sheet ≡ found s r → admitted strict edition sheet words size ≡ found s r
  unfolding admitted
  found-admitted (w, o) short s r e = rw (le-leb longest_sheet size o, le-leb words_to_move words w, le-leb (length sheet) longest_sheet short, e)

  module _ (known : between 1 3 edition ≡ true) (move : Sheet → Result) where
    -- the sheet of which this was made
    pub record From (y : Result) : Type 0 where
      pub what : Sheet
      pub reader : Reader
      pub long : length sheet ≤ longest_sheet
      pub reads : read_with strict sheet ≡ found what reader
      pub written : what.declared.edition ≡ edition
      pub is : move what ≡ y

    from_found : (y : Result) (s : Sheet) (r : Reader) → admitted strict edition sheet words size ≡ found s r → move s ≡ y → From y
    from_found y s r f h =
        let a = admitted-found s r f in
        let (reads, written) = only-read strict edition known sheet s r a.reads in
        record { what = s; reader = r; long = a.short; reads = reads; written = written; is = h }

    pub from-moved : (t : Bytes) → after_reading move (admitted strict edition sheet words size) ≡ moved t → From (moved t)
    from-moved t e = go (admitted strict edition sheet words size) refl e
      where
        go : (x : Read Sheet) → admitted strict edition sheet words size ≡ x → after_reading move x ≡ moved t → From (moved t)
        go (found s r) f h = from_found (moved t) s r f h
        go (refused n p) f h = contradiction cc

    -- what follows if it is the sheet's own refusal, and if not
    pub from-refused : {C : Type 0} (n p : ℕ) → (admitted strict edition sheet words size ≡ refused n p → C) → (From (refusal n p) → C) →
        after_reading move (admitted strict edition sheet words size) ≡ refusal n p → C
    from-refused {C} n p own other e = go (admitted strict edition sheet words size) refl e
      where
        go : (x : Read Sheet) → admitted strict edition sheet words size ≡ x → after_reading move x ≡ refusal n p → C
        go (found s r) f h = other (from_found (refusal n p) s r f h)
        go (refused m q) f h = own cc

    pub moves_from : Enough words size → length sheet ≤ longest_sheet → (s : Sheet) (r : Reader) → read_with strict sheet ≡ found s r →
        s.declared.edition ≡ edition → after_reading move (admitted strict edition sheet words size) ≡ move s
    moves_from enough short s r e d =
        ap (after_reading move) (found-admitted enough short s r (read-only strict edition known sheet s r e d))

-- strictly or not, the same is admitted, but for 17
pub admitted-agrees : (edition : ℕ) (sheet : Bytes) (words size : ℕ) →
    Agree (admitted true edition sheet words size) (admitted false edition sheet words size)
unfolding admitted read_only
admitted-agrees edition sheet words size =
    go (leb longest_sheet size && leb words_to_move words) (leb (length sheet) longest_sheet) (line (bytes "edition=") edition edition (opened sheet))
  where
    is : Bool → Bool → Bool → Read ℕ → Read Sheet
    is strict b c x = pick b (pick c (and_then (λ e r. read_with strict sheet) x) (refused 2 longest_sheet)) (refused 1 0)

    go : (b c : Bool) (x : Read ℕ) → Agree (is true b c x) (is false b c x)
    go true true (found e r) = strict-agrees sheet
    go true true (refused n p) = inl refl
    go true false x = inl refl
    go false c x = inl refl
