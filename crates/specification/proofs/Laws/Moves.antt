-- The moves between editions and the pass over sheets of edition 3 keep their promises (specs/Moving.antt): what is written is the tidied sheet,
-- is accepted, and a second pass leaves it; a sheet without empty ranges is passed as it is, comes back as the same bytes, from either side, and
-- lists alike. Every sheet of the edition that has a place in the other is moved, and the pass refuses what the way back refuses. That a sheet
-- with empty ranges runs as before is in AsBefore. Assumes nothing.
use Prim.Native.Nat.{ℕ, zero, suc, ◌+◌, ◌≤◌}
use native.Mathlib.Omega.{arith}
use mathlib.Core.Path.{◌≡◌, refl, sym, ◌∙◌, ap, subst}
use mathlib.Core.Bool.{Bool, true, false}
use mathlib.Core.List.{List, [], ◌∷◌}
use mathlib.Core.Logic.{◌⊎◌, inl, inr}
use mathlib.Core.Option.{Option, none, some as just}
use lib.ListN.{length, replicate, length-replicate}
use borrow.Author.Tests.{le-leb}
use Rattle.specification.specs.declared.Setting.{Setting}
use Rattle.specification.specs.Lists.{Each}
use Rattle.specification.specs.Bytes.{Bytes, pick, between}
use Rattle.specification.specs.Parser.{Reader, Read, refused, found}
use Rattle.specification.specs.Lines.{Range, everything}
use Rattle.specification.specs.Sheet.{Sheet, read_with, read}
use Rattle.specification.specs.Run.{Run, going, stopped}
use Rattle.specification.specs.Outcome as outcome
use Rattle.specification.specs.Outcome.{result_of, run_of, enough_memory, call_with, call}
use Rattle.specification.specs.Text.{formula_words, text_of}
use Rattle.specification.specs.Tidy.{has_empty_range, tidied}
use Rattle.specification.specs.Moves.{older, newer, range_count, raised, lowered, narrow_in, rounding_in, Result, refusal, moved, admitted, after_reading, longest_sheet, fitted, unless, move_up, tidy, move_down}
use Rattle.specification.specs.Moving.{Way, Enough, Carries, Moves, Accepted, RefusesAsBack, Settles, Orderly, SameWhereOrderly, ThereAndBack, ListsAlike}
use Rattle.specification.proofs.Laws.Contradiction.{contradiction}
use Rattle.specification.proofs.Laws.Lists.{each_map, each_both}
use Rattle.specification.proofs.Laws.ReadSheet.{read-well-formed}
use Rattle.specification.proofs.Laws.LinePieces.{Sound}
use Rattle.specification.proofs.Laws.Strict.{Agree, strict-read, older-alike}
use Rattle.specification.proofs.Laws.TidiedSheet.{tidied-orderly}
use Rattle.specification.proofs.Laws.SheetText.{read-text, words-fit, tidied-same, text-in, text-tidied, strict-orderly}
use Rattle.specification.proofs.Laws.InEdition.{Wide, run-alike, replicate-all, all_replicate, raised-ranges, lowered-ranges, narrow-none, none-narrow}
use Rattle.specification.proofs.Laws.MovedWords.{AllUnrounded, rounding-none, fits-newer, fits-older, fits-unrounded, unrounded-none}
use Rattle.specification.proofs.Laws.Shorter.{tidied-shorter, lowered-shorter}
use Rattle.specification.proofs.Laws.Admitted.{only-read, admitted-found, fitted-moved, fits_moved, unless-moved, from-moved, from-refused, moves_from, admitted-agrees}

-- ---- the ranges and the words of each edition

pub no-ranges : (strict : Bool) (b : Bytes) (s : Sheet) (r : Reader) → read_with strict b ≡ found s r → s.declared.edition ≡ older →
    s.declared.ranges ≡ []
no-ranges strict b s r e d = go s.declared.ranges (rw d at (read-well-formed strict b s r e).limits.ranges)
  where
    go : (rs : List Range) → length rs ≡ 0 → rs ≡ []
    go [] h = refl
    go (x ∷ xs) h = absurd (omega (arith, h))

pub all-ranges : (strict : Bool) (b : Bytes) (s : Sheet) (r : Reader) → read_with strict b ≡ found s r → s.declared.edition ≡ newer →
    length s.declared.ranges ≡ s.declared.scalars + length s.declared.arrays
all-ranges strict b s r e d = rw d at (read-well-formed strict b s r e).limits.ranges

everything-sound : (n : ℕ) → Each Sound (replicate n everything)
unfolding Each
everything-sound zero = tt
everything-sound (suc n) = (record { low = refl; high = refl; ordered = refl }, everything-sound n)

-- no word of the older edition rounds down
older-unrounded : (strict : Bool) (b : Bytes) (s : Sheet) (r : Reader) → read_with strict b ≡ found s r → s.declared.edition ≡ older →
    AllUnrounded s
older-unrounded strict b s r e d =
    let (procedures, formula) = words-fit strict b e in (
      each_map (λ P i. each_map fits-unrounded (formula_words P.formula) i) s.declared.procedures (rw d at procedures),
      each_map fits-unrounded (formula_words s.formula) (rw d at formula),
    )

-- ---- what is written is read

-- strictly or not, as this sheet
abbrev IsRead : Sheet → Type 0
IsRead u = (strict : Bool) → (r : Reader) × (read_with strict (text_of u) ≡ found u r)

-- up: the tidied sheet with its ranges
up-text : (strict : Bool) (b : Bytes) (s : Sheet) (r : Reader) → read_with strict b ≡ found s r → s.declared.edition ≡ older →
    IsRead (raised (tidied s))
unfolding tidied
up-text strict b s r e d =
    let (procedures, formula) = words-fit strict b e in
    text-in strict b e newer (raised s).declared.ranges refl (rw d) (length-replicate (range_count s.declared) everything)
    (everything-sound (range_count s.declared))
    (λ c z i. raised-ranges s (no-ranges strict b s r e d) c z ∙ i)
    (each_map (λ P i. each_map fits-newer (formula_words P.formula) i) s.declared.procedures (rw d at procedures))
    (each_map fits-newer (formula_words s.formula) (rw d at formula))

-- where a sheet of the edition is read and over of its tidied form is written
module _ (edition : ℕ) (known : between 1 3 edition ≡ true) (over : Sheet → Sheet)
    (written : (b : Bytes) (s : Sheet) (r : Reader) → read_with false b ≡ found s r → s.declared.edition ≡ edition → IsRead (over (tidied s))) where
  abbrev way : Way
  way sheet words size = after_reading (λ s. fitted (text_of (over (tidied s)))) (admitted false edition sheet words size)

  way-moves : Moves false edition (λ s. over (tidied s)) way
  way-moves sheet t words size e =
      let h = from-moved false edition sheet words size known _ t e in
      let s = h.what in
      let (text, short) = fitted-moved (text_of (over (tidied s))) t h.is in
      let (r, is) = written sheet s h.reader h.reads h.written true in (
        record {
          what = s;
          reader = h.reader;
          reader' = r;
          from = h.reads;
          written = h.written;
          to = subst (λ (w : Bytes). read w ≡ found (over (tidied s)) r) text is;
        },
        h.long,
        subst (λ (w : Bytes). length w ≤ longest_sheet) text short,
      )

pub up-moves : Moves false older (λ s. raised (tidied s)) move_up
unfolding move_up
up-moves = way-moves older refl raised (up-text false)

pub tidy-moves : Moves false newer tidied tidy
unfolding tidy
tidy-moves = way-moves newer refl (λ s. s) (λ b s r e d. text-tidied false b e)

-- ---- it is accepted

accepted : (t : Bytes) (u : Sheet) (r : Reader) → read t ≡ found u r → length t ≤ longest_sheet →
    (S : Setting) (words size n p : ℕ) → call t S words size ≡ outcome.refusal n p → n ≡ 1
unfolding call_with
accepted t u r e short S words size n p f = go (enough_memory S words) (run_of u S size) (rw (e, le-leb (length t) longest_sheet short) at f)
  where
    go : (b : Bool) (x : Run) → pick b (result_of x) (outcome.refusal 1 0) ≡ outcome.refusal n p → n ≡ 1
    go true (going t w) h = contradiction cc
    go true (stopped e t w) h = contradiction cc
    go false x h = cc

pub up-accepted : Accepted move_up
up-accepted sheet t words size e =
    let (c, long, short) = up-moves sheet t words size e in accepted t (raised (tidied c.what)) c.reader' c.to short

pub tidy-accepted : Accepted tidy
tidy-accepted sheet t words size e =
    let (c, long, short) = tidy-moves sheet t words size e in accepted t (tidied c.what) c.reader' c.to short

-- ---- sheets without empty ranges

-- the pass writes such a sheet as it is
settled : (t : Bytes) (u : Sheet) (r : Reader) → read_with false t ≡ found u r → u.declared.edition ≡ newer → has_empty_range u ≡ false →
    length t ≤ longest_sheet → (words size : ℕ) → Enough words size → tidy t words size ≡ moved t
unfolding tidy
settled t u r e d o short words size enough =
    let text : text_of (tidied u) ≡ t = ap text_of (tidied-same false t e o) ∙ sym (read-text false t e) in
    moves_from false newer t words size refl _ enough short u r e d ∙ ap fitted text ∙ fits_moved t short

pub up-settles : Settles move_up
unfolding has_empty_range
up-settles sheet t words size e =
    let (c, long, short) = up-moves sheet t words size e in
    let u = raised (tidied c.what) in
    settled t u c.reader' (strict-read t c.to) refl (tidied-orderly c.what) short

pub tidy-settles : Settles tidy
unfolding tidied
tidy-settles sheet t words size e =
    let (c, long, short) = tidy-moves sheet t words size e in
    settled t (tidied c.what) c.reader' (strict-read t c.to) c.written (tidied-orderly c.what) short

-- what the pass writes for an orderly sheet is the sheet, and with memory enough it writes it
pub tidy-same : (sheet : Bytes) → Orderly sheet → (t : Bytes) (words size : ℕ) → tidy sheet words size ≡ moved t → t ≡ sheet
unfolding tidy
tidy-same sheet orderly t words size e =
    let h = from-moved false newer sheet words size refl _ t e in
    let same = tidied-same false sheet h.reads (orderly h.what h.reader h.reads) in
    let (text, short) = fitted-moved (text_of (tidied h.what)) t h.is in
    sym text ∙ ap text_of same ∙ sym (read-text false sheet h.reads)

pub tidy-keeps : (sheet : Bytes) → Orderly sheet → (s : Sheet) (r : Reader) (words size : ℕ) → admitted false newer sheet words size ≡ found s r →
    tidy sheet words size ≡ moved sheet
tidy-keeps sheet orderly s r words size e =
    let a = admitted-found false newer sheet words size s r e in
    let (reads, written) = only-read false newer refl sheet s r a.reads in
    settled sheet s r reads written (orderly s r reads) a.short words size a.enough

-- a sheet that runs is orderly, if it is of the newer edition
pub tidy-accepts : (sheet : Bytes) (s : Sheet) (r : Reader) → read sheet ≡ found s r →
    (t : Bytes) (words size : ℕ) → tidy sheet words size ≡ moved t → t ≡ sheet
tidy-accepts sheet s r reads t words size e =
    let (c, long, short) = tidy-moves sheet t words size e in
    let same : c.what ≡ s = found-same c.from (strict-read sheet reads) in
    let orderly = strict-orderly sheet reads (ap (λ (u : Sheet). u.declared.edition) (sym same) ∙ c.written) in
    tidy-same sheet (λ s' r' f. ap has_empty_range (found-same f (strict-read sheet reads)) ∙ orderly) t words size e
  where
    found-same : {x : Read Sheet} {a b : Sheet} {p q : Reader} → x ≡ found a p → x ≡ found b q → a ≡ b
    found-same f g = cc

-- and it is moved as before
pub up-plain : SameWhereOrderly move_up (λ sheet words size. after_reading (λ s. fitted (text_of (raised s))) (admitted false older sheet words size))
unfolding move_up
up-plain sheet orderly words size = go (admitted false older sheet words size) refl
  where
    go : (x : Read Sheet) → admitted false older sheet words size ≡ x →
        after_reading (λ s. fitted (text_of (raised (tidied s)))) x ≡ after_reading (λ s. fitted (text_of (raised s))) x
    go (refused n p) e = refl
    go (found s r) e =
        let a = admitted-found false older sheet words size s r e in
        let (reads, written) = only-read false older refl sheet s r a.reads in
        ap (λ u. fitted (text_of (raised u))) (tidied-same false sheet reads (orderly s r reads))

-- ---- back

-- the ranges that are dropped were full
record Down (sheet t : Bytes) : Type 0 where
  carries : Carries true newer lowered sheet t
  long : length sheet ≤ longest_sheet
  short : length t ≤ longest_sheet
  wide : Wide carries.what.declared.ranges

down-from : (sheet t : Bytes) (words size : ℕ) → move_down sheet words size ≡ moved t → Down sheet t
unfolding move_down Each
down-from sheet t words size e =
    let h = from-moved true newer sheet words size refl _ t e in
    let s = h.what in
    let (full, rest) = unless-moved 15 (narrow_in s) _ t h.is in
    let (unrounded, fits) = unless-moved 16 (rounding_in s) _ t rest in
    let (text, short) = fitted-moved _ t fits in
    let (procedures, formula) = words-fit true sheet h.reads in
    let plain = rounding-none s unrounded in
    let same = tidied-same true sheet h.reads (strict-orderly sheet h.reads h.written) in
    let (r, is) =
    text-in true sheet h.reads older [] refl (rw h.written) refl tt (λ c z i. lowered-ranges s (narrow-none s full) c z ∙ i)
    (each_both s.declared.procedures (λ P u i. each_both (formula_words P.formula) fits-older u i) plain.0 (rw h.written at procedures))
    (each_both (formula_words s.formula) fits-older plain.1 (rw h.written at formula)) true in
    record {
      carries = record {
        what = s;
        reader = h.reader;
        reader' = r;
        from = h.reads;
        written = h.written;
        to = subst (λ (w : Bytes). read w ≡ found (lowered s) r) text (subst (λ u. read (text_of (lowered u)) ≡ found (lowered u) r) same is);
      };
      long = h.long;
      short = subst (λ (w : Bytes). length w ≤ longest_sheet) text short;
      wide = narrow-none s full;
    }

pub down-moves : Moves true newer lowered move_down
down-moves sheet t words size e = let d = down-from sheet t words size e in (d.carries, d.long, d.short)

-- ---- there and back

-- a sheet is determined by its edition and ranges and by what both editions have
back-up : (b : Bytes) (s : Sheet) (r : Reader) → read_with false b ≡ found s r → s.declared.edition ≡ older → lowered (raised s) ≡ s
back-up b s r e d = let f : s.declared.ranges ≡ [] = no-ranges false b s r e d in rw (sym d, sym f)

pub up-and-down : ThereAndBack Orderly move_up move_down
unfolding move_down
up-and-down sheet t orderly words size e words' size' enough =
    let (c, long, short) = up-moves sheet t words size e in
    let s = c.what in
    let same = tidied-same false sheet c.from (orderly s c.reader c.from) in
    let to : read t ≡ found (raised s) c.reader' = c.to ∙ ap (λ u. found (raised u) c.reader') same in
    let plain : AllUnrounded (raised s) = older-unrounded false sheet s c.reader c.from c.written in
    let back : text_of (lowered (raised s)) ≡ sheet =
    ap text_of (back-up sheet s c.reader c.from c.written) ∙ sym (read-text false sheet c.from) in
    moves_from true newer t words' size' refl _ enough short (raised s) c.reader' to refl
    ∙ rw (none-narrow (raised s) (replicate-all (range_count s.declared)), unrounded-none (raised s) plain, back) (fits_moved sheet long)

-- the ranges that were dropped were full
back-down : (b : Bytes) (s : Sheet) (r : Reader) → read b ≡ found s r → s.declared.edition ≡ newer → Wide s.declared.ranges →
    raised (lowered s) ≡ s
back-down b s r e d w =
    let f : s.declared.ranges ≡ replicate (range_count s.declared) everything =
    all_replicate s.declared.ranges w ∙ ap (λ (n : ℕ). replicate n everything) (all-ranges true b s r e d) in
    rw (sym d, sym f)

pub down-and-up : ThereAndBack (λ sheet. Unit {0}) move_down move_up
unfolding move_up has_empty_range
down-and-up sheet t any words size e words' size' enough =
    let d = down-from sheet t words size e in
    let c = d.carries in
    let s = c.what in
    let reads = strict-read t c.to in
    let same = tidied-same false t reads (strict-orderly sheet c.from c.written) in
    let back : text_of (raised (tidied (lowered s))) ≡ sheet =
    ap (λ u. text_of (raised u)) same ∙ ap text_of (back-down sheet s c.reader c.from c.written d.wide)
    ∙ sym (read-text true sheet c.from) in
    moves_from false older t words' size' refl _ enough d.short (lowered s) c.reader' reads refl
    ∙ rw back (fits_moved sheet d.long)

-- ---- both list alike

-- where both are read, and run alike
alike : (sheet t : Bytes) (s s' : Sheet) (r r' : Reader) → read sheet ≡ found s r → read t ≡ found s' r' →
    length sheet ≤ longest_sheet → length t ≤ longest_sheet →
    (S : Setting) (words size : ℕ) → run_of s' S size ≡ run_of s S size → call t S words size ≡ call sheet S words size
unfolding call_with
alike sheet t s s' r r' e e' long short S words size f =
    rw (e, e', le-leb (length sheet) longest_sheet long, le-leb (length t) longest_sheet short, f)

pub up-alike : ListsAlike Orderly move_up
up-alike sheet t orderly words size e S words' size' =
    let (c, long, short) = up-moves sheet t words size e in
    let s = c.what in
    let same = tidied-same false sheet c.from (orderly s c.reader c.from) in
    let strictly : read sheet ≡ found s c.reader = older-alike sheet c.from (rw c.written) in
    let to : read t ≡ found (raised s) c.reader' = c.to ∙ ap (λ u. found (raised u) c.reader') same in
    alike sheet t s (raised s) c.reader c.reader' strictly to long short S words' size'
    (run-alike newer (raised s).declared.ranges s (raised-ranges s (no-ranges false sheet s c.reader c.from c.written)) S size')

pub down-alike : ListsAlike (λ sheet. Unit {0}) move_down
down-alike sheet t any words size e S words' size' =
    let d = down-from sheet t words size e in
    let c = d.carries in
    let s = c.what in
    alike sheet t s (lowered s) c.reader c.reader' c.from c.to d.long d.short S words' size'
    (run-alike older [] s (lowered-ranges s d.wide) S size')

-- ---- none is held back: with memory enough a sheet of the edition is moved

-- up, if what is carried over fits
pub up-none-held : (sheet : Bytes) (s : Sheet) (r : Reader) → read_with false sheet ≡ found s r → s.declared.edition ≡ older →
    length sheet ≤ longest_sheet → (words size : ℕ) → Enough words size → length (text_of (raised (tidied s))) ≤ longest_sheet →
    move_up sheet words size ≡ moved (text_of (raised (tidied s)))
unfolding move_up
up-none-held sheet s r e d long words size enough short =
    moves_from false older sheet words size refl _ enough long s r e d ∙ fits_moved (text_of (raised (tidied s))) short

-- what the pass writes fits, as the sheet did
tidied-fits : (sheet : Bytes) (s : Sheet) (r : Reader) → read_with false sheet ≡ found s r → length sheet ≤ longest_sheet →
    length (text_of (tidied s)) ≤ longest_sheet
tidied-fits sheet s r e long = omega (arith, tidied-shorter s, ap length (read-text false sheet e), long)

pub tidy-none-held : (sheet : Bytes) (s : Sheet) (r : Reader) → read_with false sheet ≡ found s r → s.declared.edition ≡ newer →
    length sheet ≤ longest_sheet → (words size : ℕ) → Enough words size → tidy sheet words size ≡ moved (text_of (tidied s))
unfolding tidy
tidy-none-held sheet s r e d long words size enough =
    moves_from false newer sheet words size refl _ enough long s r e d ∙ fits_moved (text_of (tidied s)) (tidied-fits sheet s r e long)

-- so does what goes back
lowered-fits : (sheet : Bytes) (s : Sheet) (r : Reader) → read sheet ≡ found s r → s.declared.edition ≡ newer → length sheet ≤ longest_sheet →
    length (text_of (lowered s)) ≤ longest_sheet
lowered-fits sheet s r e d long =
    let same = ap (λ u. length (text_of (lowered u))) (tidied-same true sheet e (strict-orderly sheet e d)) in
    omega (arith, same, lowered-shorter s d, ap length (read-text true sheet e), long)

pub down-none-held : (sheet : Bytes) (s : Sheet) (r : Reader) → read sheet ≡ found s r → s.declared.edition ≡ newer →
    length sheet ≤ longest_sheet → (words size : ℕ) → Enough words size → Wide s.declared.ranges → AllUnrounded s →
    move_down sheet words size ≡ moved (text_of (lowered s))
unfolding move_down
down-none-held sheet s r e d long words size enough wide plain =
    moves_from true newer sheet words size refl _ enough long s r e d
    ∙ rw (none-narrow s wide, unrounded-none s plain) (fits_moved (text_of (lowered s)) (lowered-fits sheet s r e d long))

-- ---- the pass refuses what the way back refuses

-- what fits is not refused
fits-not-refused : {C : Type 0} (t : Bytes) (n p : ℕ) → length t ≤ longest_sheet → fitted t ≡ refusal n p → C
fits-not-refused t n p h e = contradiction (cc (fits_moved t h, e))

-- what the way back refuses of the sheets that are admitted
down-refused : (narrow rounding : Option ℕ) (t : Bytes) (n p : ℕ) → length t ≤ longest_sheet →
    unless 15 narrow (unless 16 rounding (fitted t)) ≡ refusal n p → between 15 17 n ≡ true
down-refused (just q) rounding t n p h e = let k : n ≡ 15 = cc in ap (between 15 17) k
down-refused none (just q) t n p h e = let k : n ≡ 16 = cc in ap (between 15 17) k
down-refused none none t n p h e = fits-not-refused t n p h e

-- where the readings agree, strictly and not, so do the refusals
module _ (move : Sheet → Result) (n p : ℕ) {x y : Read Sheet} where
  as-back : Agree x y → y ≡ refused n p → (after_reading move x ≡ refusal n p) ⊎ ((q : ℕ) × (after_reading move x ≡ refusal 17 q))
  as-back (inl g) f = inl (ap (after_reading move) (g ∙ f))
  as-back (inr (q, g)) f = inr (q, ap (after_reading move) g)

  as_passed : Agree x y → x ≡ refused n p → (between 15 17 n ≡ true) ⊎ (after_reading move y ≡ refusal n p)
  as_passed (inl g) f = inr (ap (after_reading move) (sym g ∙ f))
  as_passed (inr (q, g)) f = let k : n ≡ 17 = cc in inl (ap (between 15 17) k)

pub refuses-as-back : RefusesAsBack
unfolding tidy move_down
refuses-as-back sheet words size n p =
    let agree = admitted-agrees newer sheet words size in (
      from-refused false newer sheet words size refl _ n p (as-back _ n p agree) λ h.
          fits-not-refused (text_of (tidied h.what)) n p (tidied-fits sheet h.what h.reader h.reads h.long) h.is,
      from-refused true newer sheet words size refl _ n p (as_passed _ n p agree) λ h.
          let s = h.what in
          let short = lowered-fits sheet s h.reader h.reads h.written h.long in
          inl (down-refused (narrow_in s) (rounding_in s) (text_of (lowered s)) n p short h.is),
    )
