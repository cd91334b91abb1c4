-- Laws of the line of ranges: the words that a range makes, one turn of the reading of ranges, for every sheet whose arrays the words have,
-- and the line's answer. Assumes nothing.
use Prim.Native.Nat.{ℕ, suc, ◌+◌, ◌-◌, ◌<◌, ◌≤◌}
use native.Mathlib.Numerals.{add-one}
use native.Mathlib.Omega.{arith}
use mathlib.Core.Path.{◌≡◌, refl, sym, ap, subst, ◌∙◌}
use Rattle.std.specs.Prelude.{Ok, Err}
use mathlib.Core.Bool.{Bool, true, false}
use mathlib.Core.List.{List, [], ◌∷◌}
use lib.ListN.{length, set, length-set}
use lib.Dec.{ltb}
use borrow.Author.Tests.{ltb-false, lt-ltb, le-ltb, ne_eqb}
use Rattle.specification.specs.Bytes.{Bytes, bytes, pick, feed, comma}
use Rattle.specification.specs.Parser.{Reader, Read, refused, found, Parser, and_then, ◌>>=◌, ◌>>◌, give, mark, key}
use Rattle.specification.specs.Lines.{Range, Declared, range, ranges, first_ranged, ranges_line, first_of, length_of}
use Rattle.specification.proofs.Laws.Elements.{first_next}
use Rattle.values.specs.Word.{signed}
use Rattle.values.proofs.Laws.Word.{biased-signed}
use Rattle.tables.specs.Layout.{max_cells, cell_slot, first_slot, first_at}
use Rattle.tables.specs.Ranges.{range_slot, range_mark}
use Rattle.sheet.specs.declared.ranges.Range as code
use Rattle.sheet.specs.Reader.{line_at}
use Rattle.sheet.specs.Tables.{Words, range_first, range_width, laid_marks, laid_range, laid_ranges}
use Rattle.sheet.specs.Answers.{Answer, place_read, mapped}
use Rattle.sheet.specs.Items.{Declares, Arranged}
use Rattle.sheet.specs.RangeLine.{between, lead_of, first_in, end_in, laid_in, laid_by, RangesFound, RangesDone}
use Rattle.sheet.proofs.Answers.{on_found, on_refused, Origin, mapped-refused, mapped-found}
use Rattle.sheet.proofs.Keys.{closed, closed-found, closed-refused}
use Rattle.sheet.proofs.Marks.{marks-length, span-limit, range_other}

-- ---- its words

module _ (scalars : ℕ) (w : Words) (k : ℕ) where
  pub first-scalar : k < scalars → k ≡ first_in scalars w k
  unfolding first_in
  first-scalar h = rw (lt-ltb k scalars h)

  pub first-array : scalars ≤ k → first_at w (k - scalars) ≡ first_in scalars w k
  unfolding first_in
  first-array h = rw (le-ltb k scalars h)

  pub end-scalar : k < scalars → k + 1 ≡ end_in scalars w k
  unfolding end_in
  end-scalar h = rw (lt-ltb k scalars h)

  pub end-array : scalars ≤ k → first_at w (k - scalars + 1) ≡ end_in scalars w k
  unfolding end_in
  end-array h = rw (le-ltb k scalars h)

-- while cells get their marks: what is laid from the first on is laid from here on
pub record Marking (w₀ : Words) (from end mark : ℕ) (w : Words) (c : ℕ) : Type 0 where
  pub long : length w ≡ length w₀
  pub inside : c ≤ end
  pub rest : laid_marks mark from (end - from) w₀ ≡ laid_marks mark c (end - c) w

module _ {w₀ : Words} {from end mark : ℕ} {w : Words} {c : ℕ} (m : Marking w₀ from end mark w c) where
  pub mark-more : c < end → (w' : Words) → w' ≡ set w (cell_slot c + 1) mark → Marking w₀ from end mark w' (c + 1)
  unfolding laid_marks
  mark-more h w' is =
      let e : end - c ≡ suc (end - (c + 1)) = omega arith in
      record {
        long = ap length is ∙ length-set w (cell_slot c + 1) mark ∙ m.long;
        inside = omega arith;
        rest = m.rest ∙ rw (is, e, add-one c);
      }

  pub mark-done : end ≤ c → w ≡ laid_marks mark from (end - from) w₀
  unfolding laid_marks
  mark-done h = let e : end - c ≡ 0 = omega arith in sym (rw e at m.rest)

-- those of a sheet that has the arrays of the words
module _ {D : Declared} {scalars arrays : ℕ} {w : Words} (d : Declares D scalars arrays w) (k : ℕ) (l : k < scalars + arrays) where
  first-is : first_in scalars w k ≡ range_first D k
  unfolding first_in range_first
  first-is = ap (λ n. first_in n w k) (sym d.scalar) ∙ go (ltb k D.scalars) refl
    where
      go : (b : Bool) → ltb k D.scalars ≡ b → pick b k (first_at w (k - D.scalars)) ≡ pick b k (first_of D (k - D.scalars))
      go true e = refl
      go false e = d.held (k - D.scalars) (omega (arith, ltb-false k D.scalars e, d.few, d.scalar))

  end_is : end_in scalars w k ≡ range_first D k + range_width D k
  unfolding end_in range_first range_width
  end_is = ap (λ n. end_in n w k) (sym d.scalar) ∙ go (ltb k D.scalars) refl
    where
      go : (b : Bool) → ltb k D.scalars ≡ b →
          pick b (k + 1) (first_at w (k - D.scalars + 1)) ≡ pick b k (first_of D (k - D.scalars)) + pick b 1 (length_of D (k - D.scalars))
      go true e = refl
      go false e =
          d.held (k - D.scalars + 1) (omega (arith, ltb-false k D.scalars e, d.few, d.scalar)) ∙
          ap (first_of D) (add-one (k - D.scalars)) ∙ first_next D (k - D.scalars)

  laid-is : (lo hi : ℕ) → laid_in scalars k lo hi w ≡ laid_range D k (between (signed lo) (signed hi)) w
  laid-is lo hi =
      let width : end_in scalars w k - first_in scalars w k ≡ range_width D k = omega (arith, first-is, end_is) in
      rw (width, first-is, biased-signed lo, biased-signed hi)

  -- its cells are cells
  pub span-cells : (first_in scalars w k ≤ end_in scalars w k) × (end_in scalars w k ≤ max_cells)
  span-cells = (omega (arith, first-is, end_is), omega (arith, end_is, span-limit D k, d.small))

  -- the arrays' first cells stay
  laid-declares : (r : Range) → Declares D scalars arrays (laid_range D k r w)
  laid-declares r = record {
    scalar = d.scalar;
    many = d.many;
    few = d.few;
    small = d.small;
    held = λ a h. range_other D (first_slot a) k r w (record {
      low = omega arith;
      high = omega arith;
      marks = λ c t. omega (arith, t.ends, span-limit D k, d.small);
    }) ∙ d.held a h;
  }

-- ---- one turn: what is laid from the start on is laid from here on

-- a range, and then those after it
module _ (lead : Parser (Unit {0})) (n : ℕ) (r : Reader) where
  abbrev onwards : Range → Reader → Read (List Range)
  onwards x = ranges (mark comma) n >>= λ rs. give (x ∷ rs)

  parted : ranges lead (suc n) r ≡ and_then onwards ((lead >> range) r)
  unfolding ranges
  parted = go (lead r)
    where
      go : (y : Read (Unit {0})) → and_then (λ u. range >>= onwards) y ≡ and_then onwards (and_then (λ u. range) y)
      go (refused k p) = refl
      go (found u q) = refl

pub record Turn (D : Declared) (s : Bytes) (from scalars arrays : ℕ) (w₀ w : Words) (at k : ℕ) : Type 0 where
  pub declares : Declares D scalars arrays w
  pub rest : laid_by D w₀ (ranges (give tt) (scalars + arrays) (line_at s from))
      ≡ mapped (λ rs. laid_ranges D k rs w) (ranges (lead_of k) (scalars + arrays - k) (line_at s at))

pub record Turning (s : Bytes) (from scalars arrays : ℕ) (w₀ w : Words) (at k : ℕ) : Type 0 where
  pub long : length w ≡ length w₀
  pub few : k ≤ scalars + arrays
  pub each : (D : Declared) → Declares D scalars arrays w₀ → Turn D s from scalars arrays w₀ w at k

pub turn-first : (s : Bytes) (from scalars arrays : ℕ) (w : Words) → Turning s from scalars arrays w w from 0
turn-first s from scalars arrays w =
    let all : scalars + arrays - 0 ≡ scalars + arrays = omega arith in
    record { long = refl; few = omega arith; each = λ D d. record { declares = d; rest = rw all refl } }

module _ {s : Bytes} {from scalars arrays : ℕ} {w₀ w : Words} {at k : ℕ} (st : Turning s from scalars arrays w₀ w at k) where
  abbrev Whole : Read Words → Type 0
  Whole y = (D : Declared) → Declares D scalars arrays w₀ → y ≡ laid_by D w₀ (ranges (give tt) (scalars + arrays) (line_at s from))

  pub turn_last : scalars + arrays ≤ k → Whole (found w (line_at s at))
  unfolding ranges laid_ranges
  turn_last l D d =
      let none : scalars + arrays - k ≡ 0 = omega arith in
      sym (rw none at (st.each D d).rest)

  module _ (l : k < scalars + arrays) where
    -- what the words are wanted for
    pub turn-cells : Arranged scalars arrays w₀ → (first_in scalars w k ≤ end_in scalars w k) × (end_in scalars w k ≤ max_cells)
    turn-cells a = span-cells (st.each a.declared a.declares).declares k l

    module _ {x : Read Range} (read : x ≡ (lead_of k >> range) (line_at s at)) where
      abbrev left : ℕ
      left = scalars + arrays - (k + 1)

      turned : (D : Declared) → Declares D scalars arrays w₀ → laid_by D w₀ (ranges (give tt) (scalars + arrays) (line_at s from))
          ≡ mapped (λ rs. laid_ranges D k rs w) (and_then (onwards (lead_of k) left (line_at s at)) x)
      turned D d =
          let q : scalars + arrays - k ≡ suc left = omega arith in
          (st.each D d).rest ∙ ap (λ n. mapped (λ rs. laid_ranges D k rs w) (ranges (lead_of k) n (line_at s at))) q ∙
          ap (mapped (λ rs. laid_ranges D k rs w)) (parted (lead_of k) left (line_at s at) ∙ ap (and_then (onwards (lead_of k) left (line_at s at))) (sym read))

    pub turn-refused : {n p : ℕ} → refused n p ≡ (lead_of k >> range) (line_at s at) → Whole (refused n p)
    turn-refused read D d = sym (turned read D d)

    module _ (x : code.Range) {e : ℕ} (read : found (between (signed x.lo) (signed x.hi)) (line_at s e) ≡ (lead_of k >> range) (line_at s at)) where
      abbrev lo : ℕ
      lo = x.lo

      abbrev hi : ℕ
      hi = x.hi

      module _ (w' : Words) (laid : w' ≡ laid_in scalars k lo hi w) where
        abbrev this : Range
        this = between (signed lo) (signed hi)

        pub turn-length : length w' ≡ length w₀
        turn-length =
            ap length laid ∙
            marks-length (range_mark k) (first_in scalars w k) (end_in scalars w k - first_in scalars w k) (set (set w (range_slot k) lo) (range_slot k + 1) hi) ∙
            length-set (set w (range_slot k) lo) (range_slot k + 1) hi ∙ length-set w (range_slot k) lo ∙ st.long

        -- the range, and then those after it
        more : (D : Declared) (y : Read (List Range)) →
            mapped (λ rs. laid_ranges D k rs w) (and_then (λ rs. give (this ∷ rs)) y) ≡ mapped (λ rs. laid_ranges D (k + 1) rs (laid_range D k this w)) y
        unfolding laid_ranges
        more D (refused n p) = refl
        more D (found rs r) = rw (add-one k)

        pub turn-next : Turning s from scalars arrays w₀ w' e (k + 1)
        turn-next = record {
          long = turn-length;
          few = omega arith;
          each = λ D d.
              let t = st.each D d in
              let is : w' ≡ laid_range D k this w = laid ∙ laid-is t.declares k l lo hi in
              record {
                declares = subst (Declares D scalars arrays) (sym is) (laid-declares t.declares k l this);
                rest = turned read D d ∙ more D (ranges (mark comma) (scalars + arrays - (k + 1)) (line_at s e)) ∙ next D w' is;
              };
        }
          where
            next : (D : Declared) (v : Words) → v ≡ laid_range D k this w →
                mapped (λ rs. laid_ranges D (k + 1) rs (laid_range D k this w)) (ranges (mark comma) (scalars + arrays - (k + 1)) (line_at s e)) ≡
                mapped (λ rs. laid_ranges D (k + 1) rs v) (ranges (lead_of (k + 1)) (scalars + arrays - (k + 1)) (line_at s e))
            next D v is = rw (is, ne_eqb (k + 1) 0 (λ e. omega arith))

-- ---- the line

module _ (edition scalars arrays : ℕ) (s : Bytes) (at : ℕ) where
  -- before edition 3 there is none
  pub line-none : (w : Words) → edition < first_ranged → RangesFound edition scalars arrays s at w w at
  unfolding ranges_line laid_ranges
  line-none w h = record { ranges = []; read = rw (lt-ltb edition first_ranged h); laid = λ D d. refl }

  module _ (h : first_ranged ≤ edition) where
    pub line-no : {k p : ℕ} → refused k p ≡ key (bytes "ranges=") (line_at s at) → ranges_line edition (scalars + arrays) (line_at s at) ≡ refused k p
    unfolding ranges_line
    line-no b = rw (le-ltb edition first_ranged h) (on_refused _ b)

    -- with what is read of the value, over the words w, which it leaves as w'
    module _ {from : ℕ} (begun : found tt (line_at s from) ≡ key (bytes "ranges=") (line_at s at)) (w w' : Words) (a : Arranged scalars arrays w) where
      abbrev contents : Read (List Range)
      contents = ranges (give tt) (scalars + arrays) (line_at s from)

      lined : ranges_line edition (scalars + arrays) (line_at s at) ≡ closed contents
      unfolding ranges_line
      lined = rw (le-ltb edition first_ranged h) (on_found _ begun)

      pub line_refused : {n p : ℕ} → ((D : Declared) → Declares D scalars arrays w → refused n p ≡ laid_by D w contents) →
          ranges_line edition (scalars + arrays) (line_at s at) ≡ refused n p
      line_refused is =
          lined ∙ ap closed (mapped-refused (λ rs. laid_ranges a.declared 0 rs w) _ _ contents (is a.declared a.declares))

      module _ {e : ℕ} (is : (D : Declared) → Declares D scalars arrays w → found w' (line_at s e) ≡ laid_by D w contents) where
        -- of some sheet
        origin : Origin (λ rs. laid_ranges a.declared 0 rs w) w' (line_at s e) contents
        origin = mapped-found (λ rs. laid_ranges a.declared 0 rs w) w' (line_at s e) contents (is a.declared a.declares)

        line-found : {q : ℕ} → found tt (line_at s q) ≡ mark feed (line_at s e) → RangesFound edition scalars arrays s at w w' q
        line-found q = record {
          ranges = origin.origin;
          read = lined ∙ ap closed origin.is ∙ closed-found origin.origin s e q;
          laid = λ D d.
              let g : found w' (line_at s e) ≡ found (laid_ranges D 0 origin.origin w) (line_at s e) = is D d ∙ ap (mapped (λ rs. laid_ranges D 0 rs w)) origin.is in cc;
        }

        -- by the line feed
        pub line-done : length w' ≡ length w → (x : Answer ℕ) → place_read tt s x ≡ mark feed (line_at s e) → RangesDone edition scalars arrays s at w w' x
        line-done long (Err k) q = (lined ∙ ap closed origin.is ∙ closed-refused origin.origin s e q, long)
        line-done long (Ok c) q = line-found q
