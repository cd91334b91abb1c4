-- What the words of ranges and marks hold: a cell's mark is that of its range, is below those of locals, and allows the values of the range.
-- Assumes nothing.
use Prim.Native.Nat.{ℕ, ◌+◌, ◌≤◌, ◌<◌}
use native.Mathlib.Omega.{arith}
use mathlib.Core.Path.{◌≡◌, refl, sym, ◌∙◌, ap}
use mathlib.Core.Bool.{Bool, true, false}
use mathlib.Core.List.{List, [], ◌∷◌}
use lib.ListN.{length, get_or}
use lib.Dec.{T, leb, ltb}
use lib.IntN.{ℤ}
use lib.Signed.{le_z}
use borrow.Author.Tests.{ltb-true, ltb-false, lt-ltb}
use mir.Facts.{and_yes}
use Rattle.specification.specs.Bytes.{pick}
use Rattle.specification.specs.Lists.{Each}
use Rattle.specification.specs.Number.{within, in32}
use Rattle.specification.specs.Lines.{Range, Declared, first_ranged, contains, everything, cells, range_number, range_of, in_range}
use Rattle.specification.specs.WellFormed.{Ordered}
use Rattle.specification.proofs.Laws.Lists.{each-get_d}
use Rattle.specification.proofs.Laws.Parser.{T_true}
use Rattle.values.specs.Word.{biased}
use Rattle.values.proofs.Laws.Word.{signed-biased, signed_le}
use Rattle.tables.specs.Layout.{max_cells, max_ranges, cell_slot, locals_at, dues_at}
use Rattle.tables.specs.Ranges.{local_mark, allows}
use Rattle.tables.proofs.Laws.Ranges.{allows-every, allows-range, SameRanges, allows-same}
use Rattle.sheet.specs.Tables.{Words, laid_ranges, mark_from, mark_of}
use Rattle.sheet.specs.Held.{RangesAt}
use Rattle.sheet.proofs.Marks.{span-limit, cell-ranged, ranges-other, ranges-at, ranges-mark}

-- words compare as their values do
pub biased-le : (x y : ℤ) → T (in32 x) → T (in32 y) → leb (biased x) (biased y) ≡ le_z x y
biased-le x y s t = sym (signed_le (biased x) (biased y)) ∙ rw (signed-biased x s, signed-biased y t)

-- ranges for no cell or for all, within the limits
pub record Fitting (D : Declared) : Type 0 where
  pub many : length D.ranges ≡ pick (ltb D.edition first_ranged) 0 (D.scalars + length D.arrays)
  pub ordered : Each Ordered D.ranges
  pub few : D.scalars + length D.arrays ≤ max_ranges
  pub small : cells D ≤ max_cells

module _ (D : Declared) (f : Fitting D) where
  -- where there are some, a cell's is among them
  number-below : (c : ℕ) → c < cells D → 0 < length D.ranges → range_number D c < length D.ranges
  number-below c h some = go (ltb D.edition first_ranged) f.many
    where
      go : (b : Bool) → length D.ranges ≡ pick b 0 (D.scalars + length D.arrays) → range_number D c < length D.ranges
      go true e = absurd (omega arith)
      go false e = omega (arith, e, (cell-ranged D c h).number)

  pub many-few : length D.ranges ≤ max_ranges
  many-few = go (ltb D.edition first_ranged) f.many
    where
      go : (b : Bool) → length D.ranges ≡ pick b 0 (D.scalars + length D.arrays) → length D.ranges ≤ max_ranges
      go true e = omega arith
      go false e = omega (arith, e, f.few)

  pub marks-held : (w : Words) → locals_at ≤ length w → (c : ℕ) → get_or w (cell_slot c + 1) 0 ≡ 0 → c < max_cells →
      get_or (laid_ranges D 0 D.ranges w) (cell_slot c + 1) 0 ≡ mark_of D c
  unfolding mark_of laid_ranges
  marks-held w long c z l = by-cell (ltb c (cells D)) refl
    where
      by-ranges : c < cells D → (rs : List Range) → D.ranges ≡ rs → get_or (laid_ranges D 0 rs w) (cell_slot c + 1) 0 ≡ mark_from rs (range_number D c)
      by-ranges h [] e = z
      by-ranges h (r ∷ rs) e =
          let n = number-below c h (omega (arith, ap length e)) in
          ranges-mark D c h (r ∷ rs) 0 w (omega arith) (omega (arith, n, ap length e)) f.small long

      by-cell : (b : Bool) → ltb c (cells D) ≡ b →
          get_or (laid_ranges D 0 D.ranges w) (cell_slot c + 1) 0 ≡ pick b (mark_from D.ranges (range_number D c)) 0
      by-cell true e = by-ranges (ltb-true c (cells D) e) D.ranges refl
      by-cell false e =
          let far = ltb-false c (cells D) e in
          ranges-other D (cell_slot c + 1) 0 D.ranges w (λ i p q. record {
            low = omega arith;
            high = omega arith;
            marks = λ d t. omega (arith, t.ends, span-limit D i);
          }) ∙ z

  mark-low : (c : ℕ) → mark_of D c < local_mark
  unfolding mark_of
  mark-low c = by-cell (ltb c (cells D)) refl
    where
      by-ranges : c < cells D → (rs : List Range) → D.ranges ≡ rs → mark_from rs (range_number D c) < local_mark
      by-ranges h [] e = omega arith
      by-ranges h (r ∷ rs) e = omega (arith, number-below c h (omega (arith, ap length e)), many-few)

      by-cell : (b : Bool) → ltb c (cells D) ≡ b → pick b (mark_from D.ranges (range_number D c)) 0 < local_mark
      by-cell true e = by-ranges (ltb-true c (cells D) e) D.ranges refl
      by-cell false e = omega arith

  mark-allows : (w : Words) → dues_at ≤ length w → (c : ℕ) → c < cells D → (v : ℤ) → T (in32 v) →
      allows (laid_ranges D 0 D.ranges w) (mark_of D c) (biased v) ≡ in_range D c v
  unfolding mark_of in_range range_of contains
  mark-allows w long c h v t = rw (lt-ltb c (cells D) h) (by-ranges D.ranges refl)
    where
      in-v : in32 v ≡ true
      in-v = T_true (in32 v) t

      by-ranges : (rs : List Range) → D.ranges ≡ rs →
          allows (laid_ranges D 0 rs w) (mark_from rs (range_number D c)) (biased v) ≡ contains (get_or rs (range_number D c) everything) v
      by-ranges [] e = allows-every _ (biased v) ∙ sym (rw in-v)
      by-ranges (r ∷ rs) e =
          let m = range_number D c in
          let n : m < length (r ∷ rs) = omega (arith, number-below c h (omega (arith, ap length e)), ap length e) in
          let x = get_or (r ∷ rs) m everything in
          let o = each-get_d Ordered (r ∷ rs) m everything (rw e at f.ordered) (tt, tt) in
          let low = (and_yes (in32 x.low) (within x.low x.high x.low) o.0).0 in
          let high = (and_yes (in32 x.high) (within x.low x.high x.high) o.1).0 in
          let at = ranges-at D (r ∷ rs) 0 m w n (omega (arith, many-few, ap length e)) f.small long in
          let zero-m : 0 + m ≡ m = omega arith in
          allows-range _ (biased v) m (omega (arith, n, many-few, ap length e)) ∙
          rw (rw zero-m at at.0, rw zero-m at at.1, biased-le x.low v low t, biased-le v x.high t high, in-v)

  pub ranges-held : (w : Words) → dues_at ≤ length w → RangesAt (laid_ranges D 0 D.ranges w) D
  ranges-held w long = record { low = mark-low; allowed = mark-allows w long }

-- and so do words with the same ranges
pub ranges-keep : {w w' : Words} {D : Declared} → SameRanges w w' → RangesAt w D → RangesAt w' D
ranges-keep {D = D} s h = record { low = h.low; allowed = λ c l v t. allows-same s (mark_of D c) (biased v) ∙ h.allowed c l v t }
