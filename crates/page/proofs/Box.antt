-- The parts of a page are what the box prints. Assumes nothing.
use Prim.Native.Nat.{ℕ, ◌≤◌}
use native.Mathlib.Omega.{arith}
use mathlib.Core.Path.{◌≡◌, refl, sym, ◌∙◌, ap, subst}
use mathlib.Core.List.{List}
use lib.ListN.{length, take, drop, replicate, length-append}
use lib.Seq.{take_at}
use Rattle.specification.specs.declared.Setting.{Setting}
use Rattle.specification.specs.Bytes.{Bytes}
use Rattle.specification.specs.Outcome.{Result, refusal, ran, call, written, Outcome, outcome, output_after, words_after}
use Rattle.specification.specs.Printed.{closing, printed, box_setting, box_words, box_output}
use Rattle.specification.proofs.Laws.Printed.{box-whole}
use Rattle.vodlasim.specs.Lent.{Lent, lent}
use Rattle.vodlasim.specs.Answered.{Answered}
use Rattle.page.specs.declared.Page.{Page}
use Rattle.page.specs.Page.{written_of, Closed, box_run, Paged}

-- the bytes written are those of the listing
written-of : (x : Result) → written_of (outcome x) ≡ length (written x)
written-of (refusal n p) = refl
written-of (ran e t w) = refl

-- and stand in the output
written-inside : (x : Result) (o : Bytes) {o' : Bytes} → o' ≡ output_after x o → length (written x) ≤ length o'
unfolding output_after
written-inside x o e = omega (arith, ap length e, length-append (written x) (drop (length (written x)) o))

pub answered-inside : {sheet : Bytes} {S : Setting} {w o : Lent} {r : Outcome} → Answered sheet S w o r → written_of r ≤ length o.after
answered-inside {sheet} {S} {w} {o = o} a =
    let x = call sheet S (length w.before) (length o.before) in
    omega (arith, ap written_of a.result, written-of x, written-inside x o.before a.output)

-- so do the lines after the listing in their memory
pub closed-inside : {o : Outcome} {b b' : Bytes} {r : ℕ} → Closed o b b' r → r ≤ length b'
closed-inside {o} {b} {r = r} c = omega (arith, c.count, ap length c.lines, length-append (closing o) (drop r b))

module _ {sheet : Bytes} {work work' : List ℕ} {output output' : Bytes} {o : Outcome}
    (words : length work ≡ box_words) (size : length output ≡ box_output) (a : Answered sheet box_setting (lent work work') (lent output output') o) where
  result : o ≡ outcome (box_run sheet)
  result = a.result ∙ rw (words, size)

  held : output' ≡ output_after (box_run sheet) output
  held = a.output ∙ rw (words, size)

  module _ {lines lines' : Bytes} {n m : ℕ} (told : n ≡ written_of o) (c : Closed o lines lines' m) where
    count : n ≡ length (written (box_run sheet))
    count = told ∙ ap written_of result ∙ written-of (box_run sheet)

    first : take n output' ≡ written (box_run sheet)
    unfolding output_after
    first = ap (take n) held ∙ take_at (written (box_run sheet)) (drop (length (written (box_run sheet))) output) n (sym count)

    then : take m lines' ≡ closing (outcome (box_run sheet))
    then = ap (take m) c.lines ∙ take_at (closing o) (drop m lines) m (sym c.count) ∙ ap closing result

    pub paged : Paged sheet work' (lent output output') (lent lines lines') (record { listing = n; closing = m })
    unfolding printed words_after
    paged = record {
      page = rw (first, then) (sym (box-whole sheet));
      work = a.work ∙ ap (λ k. replicate k 0) words;
      listing = count;
      output = held;
      closed = subst (λ x. Closed x lines lines' m) result c;
    }

pub paged-inside : {sheet : Bytes} {w' : List ℕ} {o l : Lent} {r : Page} → Paged sheet w' o l r →
    (r.listing ≤ length o.after) × (r.closing ≤ length l.after)
paged-inside {sheet} {o = o} p = (omega (arith, p.listing, written-inside (box_run sheet) o.before p.output), closed-inside p.closed)
