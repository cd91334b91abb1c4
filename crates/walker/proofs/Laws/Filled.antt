-- Words that are written one after the other: none, and one more. Assumes nothing.
use Prim.Native.Nat.{ℕ, ◌+◌, ◌<◌}
use native.Mathlib.Omega.{arith}
use mathlib.Core.Path.{◌≡◌, refl, sym, ◌∙◌, ap}
use mathlib.Core.Bool.{Bool, true, false}
use lib.ListN.{length, get_or, set, length-set}
use lib.Seq.{get_or-set_same, get_or-set_other}
use lib.Dec.{eqb}
use borrow.Author.Tests.{eqb-true, eqb-false}
use Rattle.tables.specs.Frames.{argument_slot}
use Rattle.sheet.specs.Tables.{Words}
use Rattle.terms.specs.Environment.{flag_of}
use Rattle.walker.specs.Frames.{Filled, Copied, Flagged, Refilled, Slots, Refills, Saves}

pub fill_none : (w : Words) (place x : ℕ → ℕ) → Filled w w place x 0
fill_none w place x = record { words = λ j h. absurd (omega arith); others = λ k h. refl; size = refl }

pub fill_more : {w w' : Words} {place x : ℕ → ℕ} {n : ℕ} → Filled w w' place x n → ((j : ℕ) → j < n → ¬ (place n ≡ place j)) → place n < length w →
    Filled w (set w' (place n) (x n)) place x (n + 1)
fill_more {w} {w'} {place} {x} {n} f apart inside = record {
  words = λ j h. go j h (eqb j n) refl;
  others = λ k h. get_or-set_other w' (place n) k (x n) 0 (h n (omega arith)) ∙ f.others k (λ j l. h j (omega arith));
  size = length-set w' (place n) (x n) ∙ f.size;
}
  where
    go : (j : ℕ) → j < n + 1 → (b : Bool) → eqb j n ≡ b → get_or (set w' (place n) (x n)) (place j) 0 ≡ x j
    go j h true e = rw (eqb-true j n e) (get_or-set_same w' (place n) (x n) 0 (rw f.size inside))
    go j h false e =
        let off = eqb-false j n e in
        let low : j < n = omega arith in
        get_or-set_other w' (place n) (place j) (x n) 0 (λ e. apart j low (sym e)) ∙ f.words j low

-- ---- of a call

-- one word more of the record
pub copy_step : {w w' w'' : Words} {top k n i a x : ℕ} → Saves w top k n → Copied w w' top k i → i < n → a ≡ argument_slot k i → x ≡ get_or w' (a + 1) 0 →
    w'' ≡ set w' (top + i) x → Copied w w'' top k (i + 1)
copy_step {w} {w'} {w''} {top} {k} {n} {i} {a} {x} s f h ea ex e =
    let from : x ≡ get_or w (argument_slot k i + 1) 0 =
    ex ∙ ap (λ z. get_or w' (z + 1) 0) ea ∙ f.others (argument_slot k i + 1) (λ j l z. omega (arith, s.procedure, s.few, s.low)) in
    rw (e, from) (fill_more f (λ j l z. omega arith) (omega (arith, s.room, s.few)))

-- one argument more
pub flag-step : {w w' w'' : Words} {k n i a x : ℕ} (set₀ : ℕ) → Slots w k n → Flagged w w' k set₀ i → i < n → a ≡ argument_slot k i → x ≡ flag_of set₀ i →
    w'' ≡ set w' a x → Flagged w w'' k set₀ (i + 1)
flag-step set₀ s f h ea ex e = rw (e, ea, ex) (fill_more f (λ j l z. omega arith) (omega (arith, s.procedure, s.few, s.size)))

pub refill-step : {w w' w'' : Words} {k n from i a x : ℕ} → Refills w k n from → Refilled w w' k from i → i < n → x ≡ get_or w' (from + i) 0 →
    a ≡ argument_slot k i → w'' ≡ set w' (a + 1) x → Refilled w w'' k from (i + 1)
refill-step {w} {w'} {w''} {k} {n} {from} {i} {a} {x} s f h ex ea e =
    let kept : x ≡ get_or w (from + i) 0 = ex ∙ f.others (from + i) (λ j l z. omega (arith, s.slots.procedure, s.slots.few, s.low)) in
    rw (e, ea, kept) (fill_more f (λ j l z. omega arith) (omega (arith, s.slots.procedure, s.slots.few, s.slots.size)))
