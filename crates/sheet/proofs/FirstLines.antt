-- The lines before the given values in order, from the answers of the code that reads each: what is read after one line more. Assumes nothing.
use Prim.Native.Nat.{ℕ, suc, ◌+◌, ◌≤◌, ◌<◌}
use native.Mathlib.Omega.{arith}
use mathlib.Core.Path.{◌≡◌, refl, sym, ap, subst, ◌∙◌}
use Rattle.std.specs.Prelude.{Err}
use mathlib.Core.Bool.{Bool}
use mathlib.Core.List.{List, []}
use lib.ListN.{length, get_or, replicate, length-replicate}
use lib.Dec.{ltb}
use Rattle.specification.specs.declared.refusals.Refusal.{Refusal}
use Rattle.specification.specs.Bytes.{Bytes, bytes, pick, feed}
use Rattle.specification.specs.Parser.{Reader, Read, refused, found, and_then}
use Rattle.specification.specs.Lines.{line, Range, Declared, first_ranged, ranges_line}
use Rattle.specification.specs.Sheet.{Sheet, sheet}
use Rattle.specification.proofs.Laws.Parser.{of-found}
use Rattle.specification.proofs.Laws.ReadLines.{line_post, ranges-line-post}
use Rattle.tables.specs.Layout.{max_arrays, max_cells, max_scalars, max_locals, cell_slot, first_slot, path_at}
use Rattle.sheet.specs.declared.arrays.Arrays.{Arrays}
use Rattle.sheet.specs.declared.formula.Limits.{Limits}
use Rattle.sheet.specs.declared.reader.Progress.{Progress}
use Rattle.sheet.specs.Reader.{line_at}
use Rattle.sheet.specs.Tables.{Words, laid_arrays, laid_ranges}
use Rattle.sheet.specs.Answers.{number_to}
use Rattle.sheet.specs.Firsts.{table_of, ArraysFound, ArraysDone}
use Rattle.sheet.specs.Items.{Declares, Vacant}
use Rattle.sheet.specs.RangeLine.{RangesFound, RangesDone}
use Rattle.sheet.specs.Rest.{from_given, declaring, from_ranges, limits}
use Rattle.sheet.specs.Whole.{standing, unread, Stopped, Headed, Arrayed, Ranged}
use Rattle.sheet.proofs.Answers.{on_found, on_refused}
use Rattle.sheet.proofs.Regions.{zeros, firsts-length, firsts-other}
use Rattle.sheet.proofs.Marks.{span-limit, ranges-length, ranges-other}
use Rattle.sheet.proofs.Ranged.{Fitting, marks-held, ranges-held}
use Rattle.sheet.proofs.Declares.{arrays-few, found-declares}

-- before the first line
pub at-start : (strict : Bool) (s : Bytes) → Headed 0 s (unread strict)
unfolding sheet from_given
at-start strict s = record { rest = refl; scalars = omega arith; locals = omega arith; procedures = refl; parameters = refl }

-- ---- the lines with one number

module _ (s : Bytes) (p : Progress) where
  abbrev d : Limits
  d = p.limits

  abbrev here : Reader
  here = line_at s p.reached.at

  module _ (h : Headed 0 s p) where
    pub edition-refused : (e : Refusal) → refused e.number e.place ≡ number_to (bytes "edition=") 1 3 feed here → Stopped d.strict s e
    unfolding line
    edition-refused e q = h.rest ∙ on_refused _ q

    pub edition-found : {n c : ℕ} → found n (line_at s c) ≡ number_to (bytes "edition=") 1 3 feed here →
        Headed 1 s (standing (limits d.strict n d.scalars d.locals d.arrays d.procedures d.parameters) c)
    unfolding line
    edition-found q = record {
      rest = h.rest ∙ on_found _ q;
      scalars = h.scalars;
      locals = h.locals;
      procedures = h.procedures;
      parameters = h.parameters;
    }

  module _ (h : Headed 1 s p) where
    pub scalars-refused : (e : Refusal) → refused e.number e.place ≡ number_to (bytes "scalars=") 0 max_scalars feed here → Stopped d.strict s e
    unfolding line
    scalars-refused e q = h.rest ∙ on_refused _ q

    pub scalars-found : {n c : ℕ} → found n (line_at s c) ≡ number_to (bytes "scalars=") 0 max_scalars feed here →
        Headed 2 s (standing (limits d.strict d.edition n d.locals d.arrays d.procedures d.parameters) c)
    unfolding line
    scalars-found q = record {
      rest = h.rest ∙ on_found _ q;
      scalars = (of-found (line_post 0 max_scalars (bytes "scalars=") here) (sym q)).1;
      locals = h.locals;
      procedures = h.procedures;
      parameters = h.parameters;
    }

  module _ (h : Headed 2 s p) where
    pub locals-refused : (e : Refusal) → refused e.number e.place ≡ number_to (bytes "locals=") 0 max_locals feed here → Stopped d.strict s e
    unfolding line
    locals-refused e q = h.rest ∙ on_refused _ q

    pub locals-found : {n c : ℕ} → found n (line_at s c) ≡ number_to (bytes "locals=") 0 max_locals feed here →
        Headed 3 s (standing (limits d.strict d.edition d.scalars n d.arrays d.procedures d.parameters) c)
    unfolding line
    locals-found q = record {
      rest = h.rest ∙ on_found _ q;
      scalars = h.scalars;
      locals = (of-found (line_post 0 max_locals (bytes "locals=") here) (sym q)).1;
      procedures = h.procedures;
      parameters = h.parameters;
    }

-- ---- the arrays

module _ (s : Bytes) (n : ℕ) (p : Progress) (w : Words) (h : Headed 3 s p) (zero_words : w ≡ replicate n 0) (enough : path_at ≤ n) (w₁ : Words) where
  abbrev on_arrays : Read (List ℕ) → Read Sheet
  on_arrays x = and_then (from_ranges p.limits) x

  pub arrays-refused : (e : Refusal) → ArraysDone s p.reached.at p.limits.scalars w w₁ (Err e) → Stopped p.limits.strict s e
  arrays-refused e x = h.rest ∙ ap on_arrays x.0

  pub arrays-found : {a : Arrays} {c : ℕ} → ArraysFound s p.reached.at p.limits.scalars w (table_of w₁ a) c →
      let d = p.limits in Arrayed s n (limits d.strict d.edition d.scalars d.locals a.count d.procedures d.parameters) c w₁
  unfolding laid_arrays
  arrays-found {a} {c} f =
      let d = p.limits in
      let long : length w ≡ n = ap length zero_words ∙ length-replicate n 0 in
      let D : List Range → Declared = declaring d f.lengths in
      let few : length f.lengths ≤ max_arrays = (arrays-few d.scalars (line_at s p.reached.at) f.lengths (line_at s c) f.read).0 in
      let laid : (rs : List Range) → w₁ ≡ laid_arrays (D rs) w = λ rs. f.laid (D rs) refl refl in
      record {
        lengths = f.lengths;
        rest = h.rest ∙ ap on_arrays f.read;
        counts = λ rs. record {
          edition = refl;
          scalars = refl;
          locals = refl;
          arrays = f.many;
          procedures = sym h.procedures;
          parameters = sym h.parameters;
          limited = record { scalars = h.scalars; locals = h.locals; arrays = few; procedures = omega arith; each = λ K. omega arith; parameters = omega arith };
        };
        small = record { scalars = h.scalars; locals = h.locals; arrays = omega (arith, few, f.many); procedures = omega (arith, h.procedures) };
        declares = λ rs. found-declares f (omega (arith, h.scalars)) (omega (arith, long, enough)) (D rs) refl refl;
        words = λ rs. laid rs ∙ ap (laid_arrays (D rs)) zero_words;
        long = ap length (laid []) ∙ firsts-length (D []) 0 (suc max_arrays) w ∙ long;
        enough = enough;
      }

-- over as many words
pub arrayed-long : {s : Bytes} {n m : ℕ} {d : Limits} {at : ℕ} {w : Words} → n ≡ m → Arrayed s n d at w → Arrayed s m d at w
arrayed-long {s} {n} {m} {d} {at} {w} e h = subst (λ k. Arrayed s k d at w) e h

-- ---- the ranges

module _ (s : Bytes) (n : ℕ) (d : Limits) (at : ℕ) (w : Words) (h : Arrayed s n d at w) (w₁ : Words) where
  abbrev on_ranges : Read (List Range) → Read Sheet
  on_ranges x = and_then (λ rs. from_given d.strict (declaring d h.lengths rs)) x

  next-ranges : sheet d.strict (line_at s 0) ≡ on_ranges (ranges_line d.edition (d.scalars + d.arrays) (line_at s at))
  next-ranges = h.rest ∙ ap (λ k. on_ranges (ranges_line d.edition (d.scalars + k) (line_at s at))) (h.counts []).arrays

  pub ranges-refused : (e : Refusal) → RangesDone d.edition d.scalars d.arrays s at w w₁ (Err e) → Stopped d.strict s e
  ranges-refused e x = next-ranges ∙ ap on_ranges x.0

  module _ (c : ℕ) (f : RangesFound d.edition d.scalars d.arrays s at w w₁ c) where
    abbrev rs : List Range
    rs = f.ranges

    abbrev D : Declared
    D = declaring d h.lengths rs

    fits : Fitting D
    fits =
        let post = of-found (ranges-line-post d.edition (d.scalars + d.arrays) (line_at s at)) f.read in
        record {
          many = post.many ∙ ap (λ k. pick (ltb d.edition first_ranged) 0 (d.scalars + k)) (sym (h.counts rs).arrays);
          ordered = post.ordered;
          few = omega (arith, h.small.scalars, h.small.arrays, (h.counts rs).arrays);
          small = (h.declares rs).small;
        }

    laid : w₁ ≡ laid_ranges D 0 rs w
    laid = f.laid D (h.declares rs)

    long : length w₁ ≡ n
    long = ap length laid ∙ ranges-length D 0 rs w ∙ h.long

    unmarked : (x : ℕ) → x < max_cells → get_or w (cell_slot x + 1) 0 ≡ 0
    unfolding laid_arrays
    unmarked x l =
        ap (λ v. get_or v (cell_slot x + 1) 0) (h.words rs) ∙
        firsts-other D (cell_slot x + 1) 0 (suc max_arrays) (replicate n 0) (λ m p q. omega arith) ∙ zeros n (cell_slot x + 1)

    -- the arrays' first cells stay
    declares : Declares D d.scalars d.arrays (laid_ranges D 0 rs w)
    declares =
        let e = h.declares rs in
        record {
          scalar = e.scalar;
          many = e.many;
          few = e.few;
          small = e.small;
          held = λ a l. ranges-other D (first_slot a) 0 rs w (λ i p q. record {
            low = omega arith;
            high = omega arith;
            marks = λ x t. omega (arith, t.ends, span-limit D i, e.small);
          }) ∙ e.held a l;
        }

    vacant : Vacant D d.scalars d.arrays 0 w₁
    vacant = subst (Vacant D d.scalars d.arrays 0) (sym laid) (record {
      declares = declares;
      ranges = ranges-held D fits w (omega (arith, h.long, h.enough));
      marks = λ x p q. let l : x < max_cells = omega (arith, q, fits.small) in
          marks-held D fits w (omega (arith, h.long, h.enough)) x (unmarked x l) l;
    })

    pub ranges-found : Ranged s n (standing d c) w₁
    ranges-found = record {
      declared = D;
      rest = next-ranges ∙ ap on_ranges f.read;
      none = refl;
      plain = refl;
      counts = h.counts rs;
      small = h.small;
      vacant = vacant;
      words = laid ∙ ap (laid_ranges D 0 rs) (h.words rs);
      long = long;
      enough = h.enough;
    }

-- over as many words
pub ranged-long : {s : Bytes} {n m : ℕ} {p : Progress} {w : Words} → n ≡ m → Ranged s n p w → Ranged s m p w
ranged-long {s} {n} {m} {p} {w} e h = subst (λ k. Ranged s k p w) e h
