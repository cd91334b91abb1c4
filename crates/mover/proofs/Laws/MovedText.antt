-- What the mover does with the text of a sheet and its tables is the move of the sheet: the lines before that of ranges stay, but for the
-- edition; the line of ranges is put in, kept or left out; that of given values stays; those of formulas are written anew. And it refuses at the
-- places where the move does. Assumes nothing.
use Prim.Native.Nat.{ℕ, suc, ◌+◌, ◌≤◌}
use native.Mathlib.Omega.{arith}
use mathlib.Core.Path.{◌≡◌, refl, sym, ◌∙◌, ap}
use mathlib.Core.Bool.{Bool, true, false}
use mathlib.Core.List.{List, [], ◌∷◌, ◌++◌, append_assoc}
use lib.ListN.{length, take, drop, length-append, replicate}
use lib.Seq.{take-append_seam, drop-append_seam, drop-append-add}
use lib.Dec.{eqb}
use Rattle.specification.specs.Bytes.{Bytes, bytes}
use Rattle.specification.specs.Number.{digits, printℕ}
use Rattle.specification.specs.Lists.{Each}
use Rattle.specification.specs.Lines.{Declared, everything}
use Rattle.specification.specs.Given.{Item}
use Rattle.specification.specs.Sheet.{Sheet}
use Rattle.specification.specs.Listing.{cell_names}
use Rattle.specification.specs.Text.{parted, number_line, range_text, ranges_text, item_text, given_text, procedures_text, formula_text, head_text, text_in, text_of}
use Rattle.specification.specs.Moves.{older, newer, raised, lowered, narrow_in, rounding_in, rounding_from, unless, fitted}
use Rattle.specification.specs.Tidy.{has_empty_range, tidied_procedures, tidied}
use Rattle.specification.proofs.Laws.Lists.{each-++}
use Rattle.specification.proofs.Laws.Print.{Lacks}
use Rattle.tables.specs.Layout.{Words}
use Rattle.mover.specs.Model.{lines_length, head_lines, full_line, chunks, rewritten, rounding_place, narrow_place, rest_text, up_text, tidy_text, down_text, narrow_of, rounding_of, up_result, tidy_result, down_result}
use Rattle.mover.proofs.Laws.MovedLines.{Line, lacks, parted-lacks, item-lacks, counts_text, head-length, longer-length, longest-length, ranges-line, given-line, head-size}
use Rattle.mover.proofs.Laws.MovedRanges.{full-line, narrow-at}
use Rattle.mover.proofs.Laws.MovedWords.{place-past}
use Rattle.mover.proofs.Laws.MovedPlaces.{place-formulas}
use Rattle.mover.proofs.Laws.MovedFormulas.{edition_of}
use Rattle.mover.proofs.Laws.MovedTidied.{formula-text, procedures-text, sheet-none}
use Rattle.mover.proofs.Laws.MovedTabled.{Tabled, lines-rewritten}

-- ---- a sheet's text in parts

-- the lines of procedures and of the formula
abbrev formulas_text : ℕ → Sheet → Bytes
formulas_text edition s = procedures_text edition s.declared.procedures ++ formula_text edition s.formula

-- the lines after that of ranges
abbrev later_text : ℕ → Sheet → Bytes
later_text edition s = given_text s.declared s.given ++ formulas_text edition s

module _ (s : Sheet) where
  text-parts : (edition : ℕ) → s.declared.edition ≡ edition →
      text_of s ≡ head_text s.declared ++ (ranges_text edition s.declared.ranges ++ later_text edition s)
  unfolding text_in
  text-parts edition e = ap (λ (n : ℕ). head_text s.declared ++ (ranges_text n s.declared.ranges ++ later_text n s)) e

  head-parts : (edition : ℕ) → s.declared.edition ≡ edition →
      head_text s.declared ≡ number_line (bytes "edition=") edition ++ counts_text s.declared
  unfolding head_text
  head-parts edition e = ap (λ (n : ℕ). number_line (bytes "edition=") n ++ counts_text s.declared) e

  -- ---- the lines of formulas, by the sheet's tables

  module _ (w : Words) (t : Tabled s w) (newer : Bool) (edition : ℕ) where
    tidied-lines : rewritten w newer 0 0 (chunks (formulas_text edition s)) ≡ formulas_text (edition_of newer) (tidied s)
    unfolding tidied
    tidied-lines =
        let Ps = s.declared.procedures in
        lines-rewritten w newer edition Ps s.formula 0 t.lines
        ∙ rw (procedures-text (edition_of newer) Ps, formula-text (edition_of newer) (tidied_procedures [] Ps) s.formula)

    same_lines : has_empty_range s ≡ false → rewritten w newer 0 0 (chunks (formulas_text edition s)) ≡ formulas_text (edition_of newer) s
    same_lines h =
        let k = sheet-none s h in
        lines-rewritten w newer edition s.declared.procedures s.formula 0 t.lines ∙ rw (k.0, k.1)

-- ---- the mover, where the lines before that of ranges are h

past-both : (xs ys zs : Bytes) → drop (length (xs ++ ys)) (xs ++ (ys ++ zs)) ≡ zs
past-both xs ys zs = rw (sym (append_assoc xs ys zs)) (drop-append_seam (xs ++ ys) zs)

-- the line after the first k, and what follows it
rest-parts : (w : Words) (newer : Bool) (k : ℕ) (h given rest : Bytes) →
    lines_length k (h ++ (given ++ rest)) ≡ length h → lines_length (suc k) (h ++ (given ++ rest)) ≡ length (h ++ given) →
    rest_text w newer k (h ++ (given ++ rest)) ≡ given ++ rewritten w newer 0 0 (chunks rest)
unfolding rest_text
rest-parts w newer k h given rest e f =
    rw (e, f, past-both h given rest)
    (ap (λ (t : Bytes). drop (length h) t ++ rewritten w newer 0 0 (chunks rest))
    (ap (take (length (h ++ given))) (sym (append_assoc h given rest)) ∙ take-append_seam (h ++ given) rest)
    ∙ rw (drop-append_seam h given))

up-parts : (n : ℕ) (w : Words) (h counts given rest : Bytes) → h ≡ bytes "edition=2\n" ++ counts →
    lines_length head_lines (h ++ (given ++ rest)) ≡ length h → lines_length (suc head_lines) (h ++ (given ++ rest)) ≡ length (h ++ given) →
    up_text n w (h ++ (given ++ rest)) ≡ bytes "edition=3\n" ++ (counts ++ (full_line n ++ (given ++ rewritten w true 0 0 (chunks rest))))
unfolding up_text
up-parts n w h counts given rest e l m = rw (rest-parts w true head_lines h given rest l m, l, take-append_seam h (given ++ rest), e)

-- with a line of ranges
module _ (w : Words) (h ranges given rest : Bytes) where
  abbrev whole : Bytes
  whole = h ++ (ranges ++ (given ++ rest))

  module _ (l : lines_length head_lines whole ≡ length h) (m : lines_length (suc head_lines) whole ≡ length (h ++ ranges))
      (n : lines_length (suc (suc head_lines)) whole ≡ length (h ++ ranges ++ given)) where
    later-parts : (newer : Bool) → rest_text w newer (suc head_lines) whole ≡ given ++ rewritten w newer 0 0 (chunks rest)
    later-parts newer =
        let e : whole ≡ h ++ ranges ++ (given ++ rest) = sym (append_assoc h ranges (given ++ rest)) in
        ap (rest_text w newer (suc head_lines)) e
        ∙ rest-parts w newer (suc head_lines) (h ++ ranges) given rest
        (sym (ap (lines_length (suc head_lines)) e) ∙ m) (sym (ap (lines_length (suc (suc head_lines))) e) ∙ n)

    tidy-parts : tidy_text w whole ≡ h ++ (ranges ++ (given ++ rewritten w true 0 0 (chunks rest)))
    unfolding tidy_text
    tidy-parts =
        let written = given ++ rewritten w true 0 0 (chunks rest) in
        rw (later-parts true, m)
        (ap (λ (t : Bytes). take (length (h ++ ranges)) t ++ written) (sym (append_assoc h ranges (given ++ rest)))
        ∙ ap (◌++ written) (take-append_seam (h ++ ranges) (given ++ rest)) ∙ append_assoc h ranges written)

    down-parts : (counts : Bytes) → h ≡ bytes "edition=3\n" ++ counts →
        down_text w whole ≡ bytes "edition=2\n" ++ (counts ++ (given ++ rewritten w false 0 0 (chunks rest)))
    unfolding down_text
    down-parts counts e = rw (later-parts false, l, take-append_seam h (ranges ++ (given ++ rest)), e)

narrow-parts : (n : ℕ) (h rest : Bytes) → lines_length head_lines (h ++ (bytes "ranges=" ++ rest)) ≡ length h →
    narrow_of n (h ++ (bytes "ranges=" ++ rest)) ≡ narrow_place (length h + length (bytes "ranges=")) n rest
unfolding narrow_of
narrow-parts n h rest l = rw (l, drop-append-add h (bytes "ranges=" ++ rest) (length (bytes "ranges=")))

rounding-parts : (h ranges rest : Bytes) → lines_length (suc head_lines) (h ++ (ranges ++ rest)) ≡ length (h ++ ranges) →
    rounding_of (h ++ (ranges ++ rest)) ≡ rounding_place (length (h ++ ranges)) rest
unfolding rounding_of
rounding-parts h ranges rest m = rw (m, past-both h ranges rest)

-- ---- the laws

given-spaceless : (D : Declared) (is : List Item) → Lacks 32 (given_text D is)
unfolding Each
given-spaceless D is =
    let l = parted (bytes ",") (item_text D) is in
    let k = parted-lacks 32 (bytes ",") (refl, tt) (item_text D) (item-lacks 32 (λ h. omega (arith, h.0)) refl D) is in
    each-++ (λ b. eqb b 32 ≡ false) (bytes "given=") (l ++ bytes "\n") (lacks 32 (bytes "given=") refl)
    (each-++ (λ b. eqb b 32 ≡ false) l (bytes "\n") k (refl, tt))

module _ (s : Sheet) where
  abbrev head : Bytes
  head = head_text s.declared

  abbrev ranges : Bytes
  ranges = ranges_text newer s.declared.ranges

  abbrev given : Bytes
  given = given_text s.declared s.given

  abbrev count : ℕ
  count = s.declared.scalars + length s.declared.arrays

  is-line : Line given
  is-line = given-line s.declared s.given

  -- with any edition
  pub head-long : length (bytes "edition=2\n") ≤ lines_length head_lines (text_of s)
  head-long =
      let edition = s.declared.edition in
      rw (text-parts s edition refl, head-length s.declared (ranges_text edition s.declared.ranges ++ later_text edition s))
      (head-size s.declared)

  narrow-place : s.declared.edition ≡ newer → length s.declared.ranges ≡ count → narrow_of count (text_of s) ≡ narrow_in s
  unfolding narrow_in ranges_text
  narrow-place e l =
      let line = parted (bytes ",") range_text s.declared.ranges in
      let rest = later_text newer s in
      let p = length head + length (bytes "ranges=") in
      ap (narrow_of count) (text-parts s newer e)
      ∙ narrow-parts count head (line ++ bytes "\n" ++ rest) (head-length s.declared (bytes "ranges=" ++ (line ++ bytes "\n" ++ rest)))
      ∙ ap (narrow_place p count) (append_assoc line (bytes "\n") rest)
      ∙ ap (λ (k : ℕ). narrow_place p k (line ++ 10 ∷ rest)) (sym l)
      ∙ narrow-at s.declared.ranges p rest

  rounding-place : s.declared.edition ≡ newer → rounding_of (text_of s) ≡ rounding_in s
  unfolding rounding_in ranges_text
  rounding-place e =
      let Ps = s.declared.procedures in
      let F = s.formula in
      let p = length (head ++ ranges) in
      let f : p + length given ≡ length (head ++ (ranges ++ given)) =
      omega (arith, length-append head ranges, length-append head (ranges ++ given), length-append ranges given) in
      ap rounding_of (text-parts s newer e)
      ∙ rounding-parts head ranges (later_text newer s) (longer-length s.declared ranges (ranges-line s.declared.ranges) (later_text newer s))
      ∙ place-past p given (procedures_text newer Ps ++ formula_text newer F) (given-spaceless s.declared s.given)
      ∙ place-formulas Ps F (p + length given)
      ∙ ap (λ (q : ℕ). rounding_from q Ps F) f

  -- the lines of a sheet with ranges
  module _ (rest : Bytes) where
    abbrev text : Bytes
    text = head ++ (ranges ++ (given ++ rest))

    to-ranges : lines_length head_lines text ≡ length head
    to-ranges = head-length s.declared (ranges ++ (given ++ rest))

    to-given : lines_length (suc head_lines) text ≡ length (head ++ ranges)
    unfolding ranges_text
    to-given = longer-length s.declared ranges (ranges-line s.declared.ranges) (given ++ rest)

    to-formulas : lines_length (suc (suc head_lines)) text ≡ length (head ++ ranges ++ given)
    unfolding ranges_text
    to-formulas = longest-length s.declared ranges given (ranges-line s.declared.ranges) is-line rest

  module _ (w : Words) (t : Tabled s w) where
    up-text : s.declared.edition ≡ older → up_text count w (text_of s) ≡ text_of (raised (tidied s))
    unfolding text_in head_text ranges_text printℕ digits item_text cell_names tidied
    up-text e =
        let counts = counts_text s.declared in
        let rest = formulas_text older s in
        let last = rewritten w true 0 0 (chunks rest) in
        ap (up_text count w) (text-parts s older e)
        ∙ up-parts count w head counts given rest (head-parts s older e) (head-length s.declared (given ++ rest))
        (longer-length s.declared given is-line rest)
        ∙ ap (λ (x : Bytes). bytes "edition=3\n" ++ (counts ++ (x ++ (given ++ last)))) (full-line count)
        ∙ ap (λ (x : Bytes). bytes "edition=3\n" ++ (counts ++ (ranges_text newer (replicate count everything) ++ (given ++ x))))
        (tidied-lines s w t true older)

    tidy-text : s.declared.edition ≡ newer → tidy_text w (text_of s) ≡ text_of (tidied s)
    unfolding head_text item_text cell_names tidied
    tidy-text e =
        let rest = formulas_text newer s in
        ap (tidy_text w) (text-parts s newer e)
        ∙ tidy-parts w head ranges given rest (to-ranges rest) (to-given rest) (to-formulas rest)
        ∙ ap (λ (x : Bytes). head ++ (ranges ++ (given ++ x))) (tidied-lines s w t true newer)
        ∙ sym (text-parts (tidied s) newer e)

    down-text : s.declared.edition ≡ newer → has_empty_range s ≡ false → down_text w (text_of s) ≡ text_of (lowered s)
    unfolding text_in head_text ranges_text printℕ digits item_text cell_names
    down-text e h =
        let counts = counts_text s.declared in
        let rest = formulas_text newer s in
        ap (down_text w) (text-parts s newer e)
        ∙ down-parts w head ranges given rest (to-ranges rest) (to-given rest) (to-formulas rest) counts (head-parts s newer e)
        ∙ ap (λ (x : Bytes). bytes "edition=2\n" ++ (counts ++ (given ++ x))) (same_lines s w t false newer h)

    -- so that the mover's results are the moves'
    pub up-result : s.declared.edition ≡ older → up_result count w (text_of s) ≡ fitted (text_of (raised (tidied s)))
    unfolding up_result
    up-result e = ap fitted (up-text e)

    pub tidy-result : s.declared.edition ≡ newer → tidy_result w (text_of s) ≡ fitted (text_of (tidied s))
    unfolding tidy_result
    tidy-result e = ap fitted (tidy-text e)

    pub down-result : s.declared.edition ≡ newer → length s.declared.ranges ≡ count → has_empty_range s ≡ false →
        down_result count w (text_of s) ≡ unless 15 (narrow_in s) (unless 16 (rounding_in s) (fitted (text_of (lowered s))))
    unfolding down_result
    down-result e l h = rw (narrow-place e l, rounding-place e, down-text e h)
