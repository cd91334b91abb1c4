-- Laws of the numbers that the lines before the formula share: numerals, indices, values, counts. Assumes nothing.
use Prim.Native.Nat.{ℕ, ◌+◌, ◌-◌, ◌<◌, ◌≤◌, min}
use mathlib.Core.Path.{◌≡◌, refl, sym, ap, ◌∙◌}
use mathlib.Core.Bool.{Bool, true, false, and-false}
use mathlib.Core.Option.{Option, none, some}
use native.Mathlib.Omega.{arith}
use lib.Dec.{leb}
use lib.IntN.{ℤ}
use lib.ListN.{length, take, drop, length-drop}
use lib.Seq.{drop-drop, length-take-le}
use borrow.Author.Tests.{leb-true, leb-false, le-leb, lt-leb}
use Rattle.specification.specs.Bytes.{Bytes, pick, between, in_number, run}
use Rattle.specification.specs.Number.{natural, integer, in32}
use Rattle.specification.specs.Parser.{Reader, Read, refused, found, present, require, and_then, give, taken}
use Rattle.specification.specs.Lines.{index, count, value}
use Rattle.specification.proofs.Laws.Contradiction.{contradiction}
use Rattle.text.specs.Decimal.{capped, worded}
use Rattle.std.specs.Prelude.{Some, None}
use Rattle.text.proofs.Laws.Run.{run-le, run-first}
use Rattle.values.specs.Word.{signed, biased}
use Rattle.values.proofs.Laws.Word.{signed-biased}
use Rattle.sheet.specs.Reader.{line_at}
use Rattle.sheet.specs.Answers.{held_index}

-- ---- numerals

pub numeral-is : (s v : Bytes) (at e : ℕ) → v ≡ drop at s → e ≡ 0 + length (run in_number (drop 0 v)) → take e v ≡ run in_number (drop at s)
numeral-is s v at e is ends =
    let l : e ≡ length (run in_number v) = omega arith in
    ap (λ (n : ℕ). take n v) l ∙ run-first in_number v ∙ ap (run in_number) is

pub numeral-inside : (v : Bytes) (e : ℕ) → e ≡ 0 + length (run in_number (drop 0 v)) → e ≡ length (take e v)
numeral-inside v e ends = sym (length-take-le e v (omega (arith, run-le in_number v)))

-- ---- numbers, with d the run of digits and minus signs at the place

module _ (s : Bytes) (at : ℕ) (d : Bytes) (is : d ≡ run in_number (drop at s)) where
  pub numeral-le : length d ≤ length s - at
  numeral-le = omega (arith, ap length is, run-le in_number (drop at s), length-drop at s)

  taken_is : taken in_number (line_at s at) ≡ found d (line_at s (at + length d))
  unfolding taken
  taken_is = rw (is, drop-drop)

  index-taken : index (line_at s at) ≡ present 4 at (natural d) (line_at s (at + length d))
  unfolding index
  index-taken = rw taken_is

  pub index-bad : None ≡ capped (natural d) → refused 4 at ≡ held_index (index (line_at s at))
  index-bad e = rw index-taken (go (natural d) e)
    where
      go : (o : Option ℕ) → None ≡ capped o → refused 4 at ≡ held_index (present 4 at o (line_at s (at + length d)))
      go none e = refl
      go (some k) e = contradiction cc

  pub index_is : (n m : ℕ) → m ≡ min n 4294967295 → Some n ≡ capped (natural d)
      → found m (line_at s (at + length d)) ≡ held_index (index (line_at s at))
  index_is n m held e = rw index-taken (go (natural d) e)
    where
      go : (o : Option ℕ) → Some n ≡ capped o → found m (line_at s (at + length d)) ≡ held_index (present 4 at o (line_at s (at + length d)))
      go none e = contradiction cc
      go (some k) e =
          let l : n ≡ min k 4294967296 = cc in
          let q : m ≡ min k 4294967295 = omega arith in
          rw q

  value_taken : value (line_at s at) ≡ and_then (λ z. require (in32 z) 4 at (give z)) (present 4 at (integer d) (line_at s (at + length d)))
  unfolding value
  value_taken = rw taken_is

  pub value-bad : None ≡ worded (integer d) → refused 4 at ≡ value (line_at s at)
  value-bad e = rw value_taken (go (integer d) e)
    where
      by-range : (z : ℤ) (t : Bool) → None ≡ pick t (Some (biased z)) None → refused 4 at ≡ require t 4 at (give z) (line_at s (at + length d))
      by-range z true e = contradiction cc
      by-range z false e = refl

      go : (o : Option ℤ) → None ≡ worded o → refused 4 at ≡ and_then (λ z. require (in32 z) 4 at (give z)) (present 4 at o (line_at s (at + length d)))
      go none e = refl
      go (some z) e = by-range z (in32 z) e

  pub value-is : (w : ℕ) → Some w ≡ worded (integer d) → found (signed w) (line_at s (at + length d)) ≡ value (line_at s at)
  value-is w e = rw value_taken (go (integer d) e)
    where
      by-range : (z : ℤ) (t : Bool) → in32 z ≡ t → Some w ≡ pick t (Some (biased z)) None
          → found (signed w) (line_at s (at + length d)) ≡ require t 4 at (give z) (line_at s (at + length d))
      by-range z true i e =
          let q : w ≡ biased z = cc in
          rw (q, signed-biased z (rw i tt))
      by-range z false i e = contradiction cc

      go : (o : Option ℤ) → Some w ≡ worded o
          → found (signed w) (line_at s (at + length d)) ≡ and_then (λ z. require (in32 z) 4 at (give z)) (present 4 at o (line_at s (at + length d)))
      go none e = contradiction cc
      go (some z) e = by-range z (in32 z) refl e

-- ---- counts: limits below 2^32 - 1 are kept by the held index

abbrev limited : ℕ → ℕ → ℕ → Read ℕ → Read ℕ
limited lo hi at r = and_then (λ n. require (between lo hi n) 4 at (give n)) r

module _ (s : Bytes) (at lo hi : ℕ) (few : hi < 4294967295) where
  count_held : count lo hi (line_at s at) ≡ limited lo hi at (held_index (index (line_at s at)))
  unfolding count
  count_held = go (index (line_at s at))
    where
      by-limit : (m : ℕ) (r : Reader) (t : Bool) → leb m hi ≡ t
          → limited lo hi at (found m r) ≡ limited lo hi at (found (min m 4294967295) r)
      by-limit m r true e =
          let l : m ≤ hi = leb-true m hi e in
          let q : min m 4294967295 ≡ m = omega arith in
          rw q
      by-limit m r false e =
          let l : hi < m = leb-false m hi e in
          rw (e, lt-leb (min m 4294967295) hi (omega arith), and-false (leb lo m), and-false (leb lo (min m 4294967295)))

      go : (x : Read ℕ) → limited lo hi at x ≡ limited lo hi at (held_index x)
      go (refused k p) = refl
      go (found m r) = by-limit m r (leb m hi) refl

  -- of what the index is read as
  pub count-refused : {k p : ℕ} → refused k p ≡ held_index (index (line_at s at)) → refused k p ≡ count lo hi (line_at s at)
  count-refused is = rw (count_held, sym is)

  module _ {n e : ℕ} (is : found n (line_at s e) ≡ held_index (index (line_at s at))) where
    count-read : limited lo hi at (found n (line_at s e)) ≡ count lo hi (line_at s at)
    count-read = rw (count_held, sym is)

    pub count_low : n < lo → refused 4 at ≡ count lo hi (line_at s at)
    count_low h = rw (lt-leb lo n h) at count-read

    pub count-high : hi < n → refused 4 at ≡ count lo hi (line_at s at)
    count-high h = rw (lt-leb n hi h, and-false (leb lo n)) at count-read

    pub count-within : lo ≤ n → n ≤ hi → found n (line_at s e) ≡ count lo hi (line_at s at)
    count-within l h = rw (le-leb lo n l, le-leb n hi h) at count-read
