-- The words that hold the ranges and the marks of cells, and the words beside them: which cells have a range, its words, and their marks.
-- Assumes nothing.
use Prim.Native.Nat.{ℕ, zero, suc, ◌+◌, ◌-◌, ◌≤◌, ◌<◌}
use native.Mathlib.Omega.{arith}
use mathlib.Core.Path.{◌≡◌, refl, sym, ◌∙◌, ap}
use mathlib.Core.Bool.{Bool, true, false}
use mathlib.Core.Logic.{◌≢◌}
use mathlib.Core.List.{List, [], ◌∷◌}
use lib.ListN.{length, get_or, set, length-set}
use lib.Seq.{get_or-set_same, get_or-set_other}
use lib.Dec.{ltb, eqb}
use borrow.Author.Tests.{ltb-true, ltb-false, le-ltb, eqb-true, eqb-false}
use Rattle.specification.specs.Bytes.{pick}
use Rattle.specification.specs.Lines.{Range, Declared, everything, cells, first_of, length_of, range_number}
use Rattle.specification.proofs.Laws.Elements.{first_next, first-limit}
use Rattle.specification.proofs.Laws.Ranges.{scalar-number, element-number, cell-own}
use Rattle.values.specs.Word.{biased}
use Rattle.tables.specs.Layout.{max_cells, max_ranges, cell_slot, locals_at, ranges_at, dues_at}
use Rattle.tables.specs.Ranges.{range_slot, range_mark}
use Rattle.sheet.specs.Tables.{Words, range_first, range_width, laid_marks, laid_range, laid_ranges}

-- ---- marks

module _ (mark : ℕ) where
  pub marks-length : (c n : ℕ) (w : Words) → length (laid_marks mark c n w) ≡ length w
  unfolding laid_marks
  marks-length c zero w = refl
  marks-length c (suc n) w = marks-length (suc c) n (set w (cell_slot c + 1) mark) ∙ length-set w (cell_slot c + 1) mark

  marks-other : (j c n : ℕ) (w : Words) → ((m : ℕ) → c ≤ m → m < c + n → j ≢ cell_slot m + 1) → get_or (laid_marks mark c n w) j 0 ≡ get_or w j 0
  unfolding laid_marks
  marks-other j c zero w h = refl
  marks-other j c (suc n) w h =
      marks-other j (suc c) n (set w (cell_slot c + 1) mark) (λ m x y. h m (omega arith) (omega arith)) ∙
      get_or-set_other w (cell_slot c + 1) j mark 0 (h c (omega arith) (omega arith))

  marks-at : (m c n : ℕ) (w : Words) → c ≤ m → m < c + n → cell_slot (c + n) ≤ length w → get_or (laid_marks mark c n w) (cell_slot m + 1) 0 ≡ mark
  unfolding laid_marks
  marks-at m c zero w x y h = absurd (omega arith)
  marks-at m c (suc n) w x y h = go (eqb c m) refl (marks-at m (suc c) n v)
    where
      v : Words
      v = set w (cell_slot c + 1) mark

      go : (b : Bool) → eqb c m ≡ b →
          (suc c ≤ m → m < suc c + n → cell_slot (suc c + n) ≤ length v → get_or (laid_marks mark (suc c) n v) (cell_slot m + 1) 0 ≡ mark) →
          get_or (laid_marks mark (suc c) n v) (cell_slot m + 1) 0 ≡ mark
      go true e ih =
          let f = eqb-true c m e in
          marks-other (cell_slot m + 1) (suc c) n v (λ k p q. omega arith) ∙
          ap (λ i. get_or v (cell_slot i + 1) 0) (sym f) ∙ get_or-set_same w (cell_slot c + 1) mark 0 (omega arith)
      go false e ih = let d = eqb-false c m e in ih (omega arith) (omega arith) (rw (length-set w (cell_slot c + 1) mark) (omega arith))

-- ---- the cells of a range

module _ (D : Declared) where
  pub record Spans (k c : ℕ) : Type 0 where
    pub begins : range_first D k ≤ c
    pub ends : c < range_first D k + range_width D k

  -- they are cells
  pub span-limit : (k : ℕ) → range_first D k + range_width D k ≤ cells D
  unfolding range_first range_width cells
  span-limit k = go (ltb k D.scalars) refl
    where
      go : (b : Bool) → ltb k D.scalars ≡ b → pick b k (first_of D (k - D.scalars)) + pick b 1 (length_of D (k - D.scalars)) ≤ cells D
      go true e = omega (arith, ltb-true k D.scalars e)
      go false e = omega (arith, first_next D (k - D.scalars), first-limit D (suc (k - D.scalars)))

  -- which have its number, and no others do
  span-number : (k c : ℕ) → Spans k c → range_number D c ≡ k
  unfolding range_first range_width
  span-number k c s = go (ltb k D.scalars) refl s.begins s.ends
    where
      go : (b : Bool) → ltb k D.scalars ≡ b → pick b k (first_of D (k - D.scalars)) ≤ c →
          c < pick b k (first_of D (k - D.scalars)) + pick b 1 (length_of D (k - D.scalars)) → range_number D c ≡ k
      go true e x y =
          let same : c ≡ k = omega arith in
          ap (range_number D) same ∙ scalar-number D k (ltb-true k D.scalars e)
      go false e x y =
          let a = k - D.scalars in
          let at : c ≡ first_of D a + (c - first_of D a) = omega arith in
          ap (range_number D) at ∙ element-number D a (c - first_of D a) (omega arith) ∙ omega (arith, ltb-false k D.scalars e)

  -- every cell is in a range
  pub record Ranged (c : ℕ) : Type 0 where
    pub number : range_number D c < D.scalars + length D.arrays
    pub spans : Spans (range_number D c) c

  beyond : (c : ℕ) → D.scalars ≤ c → D.scalars ≤ range_number D c
  unfolding range_number
  beyond c l = rw (le-ltb c D.scalars l) (omega arith)

  pub cell-ranged : (c : ℕ) → c < cells D → Ranged c
  unfolding range_first range_width first_of length_of
  cell-ranged c h = go (ltb c D.scalars) refl
    where
      go : (b : Bool) → ltb c D.scalars ≡ b → Ranged c
      go true e =
          let l = ltb-true c D.scalars e in
          let n = scalar-number D c l in
          record { number = omega (arith, n); spans = record { begins = rw (n, e) (omega arith); ends = rw (n, e) (omega arith) } }
      go false e =
          let l = ltb-false c D.scalars e in
          let o = cell-own D c h l in
          let far = beyond c l in
          let off = le-ltb (range_number D c) D.scalars far in
          record {
            number = omega (arith, o.array, far);
            spans = record { begins = rw off (omega (arith, o.begins, l)); ends = rw off (omega (arith, o.ends, l)) };
          }

-- ---- ranges

module _ (D : Declared) where
  -- the word j is none of range k's
  pub record Apart (j k : ℕ) : Type 0 where
    pub low : j ≢ range_slot k
    pub high : j ≢ range_slot k + 1
    pub marks : (c : ℕ) → Spans D k c → j ≢ cell_slot c + 1

  range_length : (k : ℕ) (r : Range) (w : Words) → length (laid_range D k r w) ≡ length w
  range_length k r w = marks-length (range_mark k) (range_first D k) (range_width D k) _ ∙ simp length-set

  pub range_other : (j k : ℕ) (r : Range) (w : Words) → Apart j k → get_or (laid_range D k r w) j 0 ≡ get_or w j 0
  range_other j k r w h =
      let v = set w (range_slot k) (biased r.low) in
      marks-other (range_mark k) j (range_first D k) (range_width D k) (set v (range_slot k + 1) (biased r.high))
      (λ c x y. h.marks c (record { begins = x; ends = y })) ∙
      get_or-set_other v (range_slot k + 1) j (biased r.high) 0 h.high ∙ get_or-set_other w (range_slot k) j (biased r.low) 0 h.low

  pub ranges-length : (k : ℕ) (rs : List Range) (w : Words) → length (laid_ranges D k rs w) ≡ length w
  unfolding laid_ranges
  ranges-length k [] w = refl
  ranges-length k (r ∷ rs) w = ranges-length (suc k) rs (laid_range D k r w) ∙ range_length k r w

  pub ranges-other : (j k : ℕ) (rs : List Range) (w : Words) → ((i : ℕ) → k ≤ i → i < k + length rs → Apart j i) →
      get_or (laid_ranges D k rs w) j 0 ≡ get_or w j 0
  unfolding laid_ranges
  ranges-other j k [] w h = refl
  ranges-other j k (r ∷ rs) w h =
      ranges-other j (suc k) rs (laid_range D k r w) (λ i x y. h i (omega arith) (omega arith)) ∙ range_other j k r w (h k (omega arith) (omega arith))

  -- the words of range k + i
  pub ranges-at : (rs : List Range) (k i : ℕ) (w : Words) → i < length rs → k + length rs ≤ max_ranges → cells D ≤ max_cells → dues_at ≤ length w →
      (get_or (laid_ranges D k rs w) (range_slot (k + i)) 0 ≡ biased (get_or rs i everything).low) ×
      (get_or (laid_ranges D k rs w) (range_slot (k + i) + 1) 0 ≡ biased (get_or rs i everything).high)
  unfolding laid_ranges
  ranges-at [] k i w h few small long = absurd (omega arith)
  ranges-at (r ∷ rs) k zero w h few small long =
      let v = set w (range_slot k) (biased r.low) in
      let e : k + 0 ≡ k = omega arith in
      rw e (
        later (range_slot k) (omega arith) (omega arith) ∙ get_or-set_other v (range_slot k + 1) (range_slot k) (biased r.high) 0 (omega arith)
            ∙ get_or-set_same w (range_slot k) (biased r.low) 0 (omega arith),
        later (range_slot k + 1) (omega arith) (omega arith)
            ∙ get_or-set_same v (range_slot k + 1) (biased r.high) 0 (rw (length-set w (range_slot k) (biased r.low)) (omega arith)),
      )
    where
      u : Words
      u = set (set w (range_slot k) (biased r.low)) (range_slot k + 1) (biased r.high)

      later : (j : ℕ) → ranges_at ≤ j → j < range_slot (suc k) → get_or (laid_ranges D (suc k) rs (laid_range D k r w)) j 0 ≡ get_or u j 0
      later j x y =
          ranges-other j (suc k) rs (laid_range D k r w) (λ i p q. record { low = omega arith; high = omega arith; marks = λ c t. omega (arith, t.ends, span-limit D i) }) ∙
          marks-other (range_mark k) j (range_first D k) (range_width D k) u (λ c p q. omega (arith, span-limit D k))
  ranges-at (r ∷ rs) k (suc i) w h few small long =
      let e : k + suc i ≡ suc k + i = omega arith in
      rw e (ranges-at rs (suc k) i (laid_range D k r w) (omega arith) (omega arith) small (rw (range_length k r w) long))

  -- the mark of a cell of one of them
  pub ranges-mark : (c : ℕ) → c < cells D → (rs : List Range) (k : ℕ) (w : Words) → k ≤ range_number D c → range_number D c < k + length rs →
      cells D ≤ max_cells → locals_at ≤ length w → get_or (laid_ranges D k rs w) (cell_slot c + 1) 0 ≡ range_mark (range_number D c)
  unfolding laid_ranges
  ranges-mark c h [] k w x y small long = absurd (omega arith)
  ranges-mark c h (r ∷ rs) k w x y small long = go (eqb k m) refl (ranges-mark c h rs (suc k) v)
    where
      m : ℕ
      m = range_number D c

      v : Words
      v = laid_range D k r w

      go : (b : Bool) → eqb k m ≡ b →
          (suc k ≤ m → m < suc k + length rs → cells D ≤ max_cells → locals_at ≤ length v → get_or (laid_ranges D (suc k) rs v) (cell_slot c + 1) 0 ≡ range_mark m) →
          get_or (laid_ranges D (suc k) rs v) (cell_slot c + 1) 0 ≡ range_mark m
      go true e ih =
          let f = eqb-true k m e in
          let s = (cell-ranged D c h).spans in
          let u = set (set w (range_slot k) (biased r.low)) (range_slot k + 1) (biased r.high) in
          ranges-other (cell_slot c + 1) (suc k) rs v (λ i p q. record {
            low = omega (arith, small);
            high = omega (arith, small);
            marks = λ d t j. let same : d ≡ c = omega arith in let n = span-number D i d t in omega (arith, f, p, n, ap (range_number D) same);
          }) ∙
          marks-at (range_mark k) c (range_first D k) (range_width D k) u (rw (sym f) at s.begins) (rw (sym f) at s.ends)
          (rw (length-set, length-set) (omega (arith, span-limit D k))) ∙
          ap range_mark f
      go false e ih =
          let d = eqb-false k m e in
          ih (omega arith) (omega arith) small (rw (range_length k r w) long)
