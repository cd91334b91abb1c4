-- Laws of the reading of one range: its parts, and with what comes before it. Assumes nothing.
use Prim.Native.Nat.{ℕ, ◌<◌, ◌≤◌}
use mathlib.Core.Path.{◌≡◌, sym, ap, ◌∙◌}
use mathlib.Core.Bool.{Bool}
use lib.Dec.{leb}
use lib.Signed.{le_z}
use lib.IntN.{ℤ}
use borrow.Author.Tests.{le-leb, lt-leb, eq-eqb, ne_eqb}
use Rattle.specification.specs.Bytes.{Bytes, comma, colon}
use Rattle.specification.specs.Parser.{Read, refused, found, Parser, require, and_then, ◌>>=◌, ◌>>◌, give, mark}
use Rattle.specification.specs.Lines.{value, Range, range}
use Rattle.values.specs.Word.{signed}
use Rattle.values.proofs.Laws.Word.{signed_le}
use Rattle.sheet.specs.Reader.{line_at}
use Rattle.sheet.specs.RangeLine.{between, lead_of}
use Rattle.sheet.proofs.Answers.{on_found, on_refused}

-- the lowest value, a colon, the highest, and then their order
module _ (s : Bytes) (at : ℕ) where
  -- after the lowest value, and after the colon
  abbrev ordered : ℤ → ℤ → Parser Range
  ordered lo hi = require (le_z lo hi) 14 at (give (between lo hi))

  abbrev onwards : ℤ → Parser Range
  onwards lo = mark colon >> (value >>= ordered lo)

  pub range-refused : {k q : ℕ} → refused k q ≡ value (line_at s at) → refused k q ≡ range (line_at s at)
  unfolding range
  range-refused is = sym (on_refused onwards is)

  module _ (lo : ℕ) {e : ℕ} (low : found (signed lo) (line_at s e) ≡ value (line_at s at)) where
    range-low : onwards (signed lo) (line_at s e) ≡ range (line_at s at)
    unfolding range
    range-low = sym (on_found onwards low)

    pub range-no : {k q : ℕ} → refused k q ≡ mark colon (line_at s e) → refused k q ≡ range (line_at s at)
    range-no is = sym (on_refused (λ u. value >>= ordered (signed lo)) is) ∙ range-low

    module _ {from : ℕ} (is-colon : found tt (line_at s from) ≡ mark colon (line_at s e)) where
      range-colon : and_then (ordered (signed lo)) (value (line_at s from)) ≡ range (line_at s at)
      range-colon = sym (on_found (λ u. value >>= ordered (signed lo)) is-colon) ∙ range-low

      pub range-high : {k q : ℕ} → refused k q ≡ value (line_at s from) → refused k q ≡ range (line_at s at)
      range-high is = sym (on_refused (ordered (signed lo)) is) ∙ range-colon

      module _ (hi : ℕ) {q : ℕ} (high : found (signed hi) (line_at s q) ≡ value (line_at s from)) where
        range-judged : require (leb lo hi) 14 at (give (between (signed lo) (signed hi))) (line_at s q) ≡ range (line_at s at)
        range-judged =
            ap (λ (b : Bool). require b 14 at (give (between (signed lo) (signed hi))) (line_at s q)) (sym (signed_le lo hi)) ∙
            sym (on_found (ordered (signed lo)) high) ∙ range-colon

        pub range-empty : hi < lo → refused 14 at ≡ range (line_at s at)
        range-empty l = rw (lt-leb lo hi l) at range-judged

        pub range-found : lo ≤ hi → found (between (signed lo) (signed hi)) (line_at s q) ≡ range (line_at s at)
        range-found l = rw (le-leb lo hi l) at range-judged

-- with what comes before it
module _ (s : Bytes) (at k : ℕ) where
  pub lead-first : k ≡ 0 → (y : Read Range) → y ≡ range (line_at s at) → y ≡ (lead_of k >> range) (line_at s at)
  lead-first e y h = rw (eq-eqb k 0 e) h

  pub lead-no : (k ≡ 0 → ⊥) → {i p : ℕ} → refused i p ≡ mark comma (line_at s at) → refused i p ≡ (lead_of k >> range) (line_at s at)
  lead-no n h = rw (ne_eqb k 0 n) (sym (on_refused (λ u. range) h))

  pub lead-yes : (k ≡ 0 → ⊥) → {from : ℕ} → found tt (line_at s from) ≡ mark comma (line_at s at) → (y : Read Range) → y ≡ range (line_at s from) →
      y ≡ (lead_of k >> range) (line_at s at)
  lead-yes n h y is = rw (ne_eqb k 0 n) (is ∙ sym (on_found (λ u. range) h))
