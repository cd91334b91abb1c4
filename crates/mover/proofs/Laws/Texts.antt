-- The moved sheet in the pieces that are put, a bound of its length, and what a move leaves. Assumes nothing.
use Prim.Native.Nat.{ℕ, suc, ◌+◌, ◌-◌, ◌*◌, ◌≤◌, ◌<◌}
use native.Mathlib.Omega.{arith}
use native.Mathlib.Numerals.{add-one}
use mathlib.Core.Path.{◌≡◌, refl, sym, ap, ◌∙◌}
use mathlib.Core.Bool.{Bool, true, false}
use mathlib.Core.List.{◌++◌, append_assoc}
use mathlib.Core.Option.{Option, none, some as just}
use lib.ListN.{length, take, drop, length-append, length-drop}
use lib.Seq.{length-take-le, take-add, drop_at, sets-eq}
use borrow.Author.Tests.{le-leb, lt-leb}
use Rattle.std.specs.Prelude.{Ok, Err}
use Rattle.specification.specs.Refusals.{refusal_with}
use Rattle.specification.specs.Bytes.{Bytes, bytes}
use Rattle.specification.specs.Moves.{Result, fitted, unless, longest_sheet, Move, output_after}
use Rattle.tables.specs.Layout.{Words}
use Rattle.listing.specs.Put.{Put}
use Rattle.mover.specs.Model.{lines_length, head_lines, full_line, narrow_place, chunks, rewritten, rounding_place}
use Rattle.mover.specs.Model.{head_rest, rest_text, up_text, tidy_text, down_text, narrow_of, rounding_of}
use Rattle.mover.specs.Steps.{Done}
use Rattle.mover.proofs.Laws.Lines.{lines_length-≤, lines_length-suc}
use Rattle.mover.proofs.Laws.Ranges.{length-line-≤}
use Rattle.mover.proofs.Laws.Chunks.{part, rewritten-≤}

-- the bytes of the edition's line
abbrev edition : ℕ
edition = length (bytes "edition=2\n")

-- ---- parts of the text

module _ (s : Bytes) where
  part-drop : (a b : ℕ) → a ≤ b → b ≤ length s → drop a (take b s) ≡ part a b s
  part-drop a b h k =
      let e : b ≡ a + (b - a) = omega arith in
      ap (λ (n : ℕ). drop a (take n s)) e ∙ ap (λ (x : Bytes). drop a x) (take-add a (b - a) s)
      ∙ drop_at (take a s) (take (b - a) (drop a s)) a (length-take-le a s (omega arith))

  pub head-part : edition ≤ lines_length head_lines s → (h : ℕ) → h ≡ lines_length head_lines s → head_rest s ≡ part edition h s
  head-part e h q = rw (part-drop edition (lines_length head_lines s) e (lines_length-≤ head_lines s), q)

  -- the line after the first n goes from k to e
  pub rest-pieces : (w : Words) (newer : Bool) (n k e : ℕ) → k ≡ lines_length n s → e ≡ lines_length (n + 1) s →
      rest_text w newer n s ≡ part k e s ++ rewritten w newer 0 0 (chunks (drop e s))
  unfolding rest_text
  rest-pieces w newer n k e p q =
      rw (q, p, add-one, part-drop (lines_length n s) (lines_length (suc n) s) (lines_length-suc n s) (lines_length-≤ (suc n) s))

  -- ---- the texts

  pub up-pieces : (n : ℕ) (w : Words) →
      up_text n w s ≡ (bytes "edition=3\n" ++ head_rest s) ++ (full_line n ++ rest_text w true head_lines s)
  unfolding up_text
  up-pieces n w = sym (append_assoc (bytes "edition=3\n") (head_rest s) (full_line n ++ rest_text w true head_lines s))

  pub tidy-pieces : (w : Words) (k : ℕ) → k ≡ lines_length (suc head_lines) s →
      tidy_text w s ≡ take k s ++ rest_text w true (suc head_lines) s
  unfolding tidy_text
  tidy-pieces w k e = rw e

  pub down-pieces : (w : Words) → down_text w s ≡ (bytes "edition=2\n" ++ head_rest s) ++ rest_text w false (suc head_lines) s
  unfolding down_text
  down-pieces w = sym (append_assoc (bytes "edition=2\n") (head_rest s) (rest_text w false (suc head_lines) s))

  -- ---- their lengths

  pub up-long : (n : ℕ) (w : Words) →
      length (up_text n w s) ≡ length (bytes "edition=3\n" ++ head_rest s) + (length (full_line n) + length (rest_text w true head_lines s))
  up-long n w =
      let x = bytes "edition=3\n" ++ head_rest s in
      let r = rest_text w true head_lines s in
      omega (arith, ap length (up-pieces n w), length-append x (full_line n ++ r), length-append (full_line n) r)

  pub tidy-long : (w : Words) (k : ℕ) → k ≡ lines_length (suc head_lines) s →
      length (tidy_text w s) ≡ length (take k s) + length (rest_text w true (suc head_lines) s)
  tidy-long w k e = ap length (tidy-pieces w k e) ∙ length-append (take k s) (rest_text w true (suc head_lines) s)

  pub down-long : (w : Words) →
      length (down_text w s) ≡ length (bytes "edition=2\n" ++ head_rest s) + length (rest_text w false (suc head_lines) s)
  down-long w = ap length (down-pieces w) ∙ length-append (bytes "edition=2\n" ++ head_rest s) (rest_text w false (suc head_lines) s)

  -- ---- bounds of lengths

  lines-short : (n : ℕ) → length (take (lines_length n s) s) ≤ length s
  lines-short n = omega (arith, length-take-le (lines_length n s) s (lines_length-≤ n s), lines_length-≤ n s)

  pub head-short : length (head_rest s) ≤ length s
  head-short = omega (arith, length-drop edition (take (lines_length head_lines s) s), lines-short head_lines)

  rest-short : (w : Words) (newer : Bool) (n : ℕ) → length (rest_text w newer n s) ≤ 8 * length s
  unfolding rest_text
  rest-short w newer n =
      let e = lines_length (suc n) s in
      let given = drop (lines_length n s) (take e s) in
      let after = drop e s in
      omega (
        arith,
        length-append given (rewritten w newer 0 0 (chunks after)),
        length-drop (lines_length n s) (take e s),
        lines-short (suc n),
        rewritten-≤ w newer 0 0 after,
        length-drop e s,
      )

  pub up-short : (n : ℕ) (w : Words) → length (up_text n w s) ≤ 18 + 23 * n + 9 * length s
  unfolding up_text
  up-short n w =
      let r = rest_text w true head_lines s in
      omega (
        arith,
        length-append (head_rest s) (full_line n ++ r),
        length-append (full_line n) r,
        head-short,
        length-line-≤ n,
        rest-short w true head_lines,
      )

  pub tidy-short : (w : Words) → length (tidy_text w s) ≤ 9 * length s
  unfolding tidy_text
  tidy-short w =
      let r = rest_text w true (suc head_lines) s in
      omega (
        arith,
        length-append (take (lines_length (suc head_lines) s) s) r,
        lines-short (suc head_lines),
        rest-short w true (suc head_lines),
      )

  pub down-short : (w : Words) → length (down_text w s) ≤ 10 + 9 * length s
  unfolding down_text
  down-short w =
      let r = rest_text w false (suc head_lines) s in
      omega (arith, length-append (head_rest s) r, head-short, rest-short w false (suc head_lines))

-- ---- places

pub narrow-of : (s : Bytes) (n h : ℕ) (x : Option ℕ) → h ≡ lines_length head_lines s →
    x ≡ narrow_place (h + 7) n (drop (h + 7) s) → x ≡ narrow_of n s
unfolding narrow_of
narrow-of s n h x eh e = rw (← eh) e

pub rounding-of : (s : Bytes) (k : ℕ) (x : Option ℕ) → k ≡ lines_length (suc head_lines) s →
    x ≡ rounding_place k (drop k s) → x ≡ rounding_of s
unfolding rounding_of
rounding-of s k x ek e = rw (← ek) e

-- ---- what is left

module _ (o : Bytes) where
  module _ (t : Bytes) (n : ℕ) (size : n ≡ length t) where
    pub done-long : longest_sheet < n → Done (fitted t) (Err (refusal_with 2 longest_sheet)) o o
    unfolding fitted output_after
    done-long h = rw (lt-leb (length t) longest_sheet (omega arith)) (refl, refl)

    pub done-moved : (o' : Bytes) (k : ℕ) → n ≤ longest_sheet → longest_sheet ≤ length o → Put o o' 0 t k → Done (fitted t) (Ok n) o o'
    unfolding fitted output_after
    done-moved o' k h l put =
        rw (le-leb (length t) longest_sheet (omega arith)) (
          ap Ok size,
          put.bytes ∙ sets-eq t o 0 (omega arith) ∙ ap (λ n. t ++ drop n o) {x = 0 + length t} {y = length t} (omega arith),
        )

  -- another refusal
  pub done-some : (m p : ℕ) (x : Option ℕ) (r : Result) → just p ≡ x → Done (unless m x r) (Err (refusal_with m p)) o o
  unfolding output_after
  done-some m p x r e = rw (← e) (refl, refl)

  -- or none
  pub done_none : (o' : Bytes) (m : ℕ) (x : Option ℕ) (r : Result) (move : Move) → none ≡ x → Done r move o o' →
      Done (unless m x r) move o o'
  done_none o' m x r move e d = rw (← e) d
