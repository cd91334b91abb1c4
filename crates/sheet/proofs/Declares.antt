-- After the line of arrays the words have the arrays of every sheet that declares what was read, as the line of given values wants
-- them: no more arrays and cells than the limits, and each first cell in its place. Assumes nothing.
use Prim.Native.Nat.{ℕ, zero, suc, ◌+◌, ◌-◌, ◌<◌, ◌≤◌}
use mathlib.Core.Path.{◌≡◌, refl, sym, ap, ◌∙◌}
use mathlib.Core.Bool.{Bool, true, false}
use mathlib.Core.List.{List, [], ◌∷◌}
use native.Mathlib.Omega.{arith}
use lib.Dec.{leb}
use lib.ListN.{length, get_or, set, length-set}
use lib.Seq.{get_or-set_same, get_or-set_other}
use borrow.Author.Tests.{leb-true, leb-false}
use Rattle.specification.specs.Bytes.{Bytes, bytes, pick, comma, feed}
use Rattle.specification.specs.Parser.{Reader, Read, refused, found, and_then, ◌>>◌, give, next, mark, key}
use Rattle.specification.specs.Lines.{count, lengths, arrays_line, sum, Declared, cells, first_of}
use Rattle.specification.proofs.Laws.Contradiction.{contradiction}
use Rattle.tables.specs.Layout.{max_arrays, max_cells, first_slot, path_at}
use Rattle.sheet.specs.Reader.{line_at}
use Rattle.sheet.specs.Tables.{Words, laid_firsts, laid_arrays}
use Rattle.sheet.specs.Held.{ArraysAt}
use Rattle.sheet.specs.Firsts.{ArraysFound, arrays_value}
use Rattle.sheet.specs.Items.{Declares}
use Rattle.sheet.proofs.Keys.{closed}
use Rattle.sheet.proofs.ArrayLine.{count-few}

-- ---- limits

-- at most k lengths, and no more cells than are left
abbrev Few : ℕ → ℕ → List ℕ → Type 0
Few k left ns = (length ns ≤ k) × (sum ns ≤ left)

module _ (ns : List ℕ) (r' : Reader) where
  -- after a length n
  few-more : (k left n : ℕ) → n ≤ left → (x : Read (List ℕ)) → ((ms : List ℕ) (q : Reader) → x ≡ found ms q → Few k (left - n) ms)
      → and_then (λ ms. give (n ∷ ms)) x ≡ found ns r' → Few (suc k) left ns
  unfolding sum
  few-more k left n l (refused i p) h e = contradiction cc
  few-more k left n l (found ms q) h e =
      let same : n ∷ ms ≡ ns = cc in
      let f = h ms q refl in
      (omega (arith, f.0, ap length same), omega (arith, f.1, ap sum same))

-- for any lengths that are read
abbrev Each : ℕ → ℕ → Type 0
Each k left = (r : Reader) (ms : List ℕ) (q : Reader) → lengths k left r ≡ found ms q → Few k left ms

lengths-few : (k left : ℕ) (r : Reader) (ns : List ℕ) (r' : Reader) → lengths k left r ≡ found ns r' → Few k left ns
unfolding lengths sum
lengths-few zero left r ns r' e = contradiction cc
lengths-few (suc k) left r ns r' e = by_count (λ n. lengths-few k (left - n)) (count 1 left r) refl e
  where
    by-comma : (n : ℕ) → Each k (left - n) → (x : Read (Unit {0})) (ms : List ℕ) (q : Reader) → and_then (λ u. lengths k (left - n)) x ≡ found ms q → Few k (left - n) ms
    by-comma n ih (refused i p) ms q e = contradiction cc
    by-comma n ih (found u r) ms q e = ih r ms q e

    by_next : (n : ℕ) → Each k (left - n) → (r : Reader) (t : Bool) (ms : List ℕ) (q : Reader) → pick t (mark comma >> lengths k (left - n)) (give []) r ≡ found ms q → Few k (left - n) ms
    by_next n ih r true ms q e = by-comma n ih (mark comma r) ms q e
    by_next n ih r false ms q e = let same : [] ≡ ms = cc in (omega (arith, ap length same), omega (arith, ap sum same))

    by_count : ((n : ℕ) → Each k (left - n)) → (x : Read ℕ) → count 1 left r ≡ x
        → and_then (λ n q. and_then (λ ms. give (n ∷ ms)) (pick (next comma q.rest) (mark comma >> lengths k (left - n)) (give []) q)) x ≡ found ns r'
        → Few (suc k) left ns
    by_count ih (refused i p) c e = contradiction cc
    by_count ih (found n q) c e =
        few-more ns r' k left n (count-few 1 left n r q (sym c)).1
        (pick (next comma q.rest) (mark comma >> lengths k (left - n)) (give []) q) (by_next n (ih n) q (next comma q.rest)) e

pub arrays-few : (scalars : ℕ) (r : Reader) (ns : List ℕ) (r' : Reader) → arrays_line scalars r ≡ found ns r' → Few max_arrays (max_cells - scalars) ns
unfolding arrays_line sum
arrays-few scalars r ns r' e = by_key (key (bytes "arrays=") r) e
  where
    by-feed : (ms : List ℕ) (x : Read (Unit {0})) → and_then (λ u. give ms) x ≡ found ns r' → ms ≡ ns
    by-feed ms (refused i p) e = contradiction cc
    by-feed ms (found u q) e = cc

    by_lengths : (x : Read (List ℕ)) → ((ms : List ℕ) (q : Reader) → x ≡ found ms q → Few max_arrays (max_cells - scalars) ms) → closed x ≡ found ns r' → Few max_arrays (max_cells - scalars) ns
    by_lengths (refused i p) h e = contradiction cc
    by_lengths (found ms q) h e = let same = by-feed ms (mark feed q) e in rw (sym same) (h ms q refl)

    by_next : (q : Reader) (t : Bool) (ms : List ℕ) (q' : Reader) → pick t (give []) (lengths max_arrays (max_cells - scalars)) q ≡ found ms q' → Few max_arrays (max_cells - scalars) ms
    by_next q true ms q' e = let same : [] ≡ ms = cc in (omega (arith, ap length same), omega (arith, ap sum same))
    by_next q false ms q' e = lengths-few max_arrays (max_cells - scalars) q ms q' e

    by_key : (x : Read (Unit {0})) → and_then (λ u q. closed (arrays_value scalars q)) x ≡ found ns r' → Few max_arrays (max_cells - scalars) ns
    by_key (refused i p) e = contradiction cc
    by_key (found u q) e = by_lengths (arrays_value scalars q) (by_next q (next feed q.rest)) e

-- ---- first cells in their places

module _ (D : Declared) where
  laid-before : (n a b : ℕ) (w : Words) → b < a → get_or (laid_firsts D a n w) (first_slot b) 0 ≡ get_or w (first_slot b) 0
  unfolding laid_firsts
  laid-before zero a b w h = refl
  laid-before (suc n) a b w h =
      laid-before n (suc a) b (set w (first_slot a) (first_of D a)) (omega arith) ∙ get_or-set_other w (first_slot a) (first_slot b) (first_of D a) 0 (λ e. omega arith)

  laid-at : (n a b : ℕ) (w : Words) → a ≤ b → b < a + n → first_slot b < length w → get_or (laid_firsts D a n w) (first_slot b) 0 ≡ first_of D b
  unfolding laid_firsts
  laid-at zero a b w l h k = absurd (omega arith)
  laid-at (suc n) a b w l h k = go (laid-at n (suc a) b (set w (first_slot a) (first_of D a))) (leb b a) refl
    where
      w₁ : Words
      w₁ = set w (first_slot a) (first_of D a)

      go : (suc a ≤ b → b < suc a + n → first_slot b < length w₁ → get_or (laid_firsts D (suc a) n w₁) (first_slot b) 0 ≡ first_of D b)
          → (t : Bool) → leb b a ≡ t → get_or (laid_firsts D (suc a) n w₁) (first_slot b) 0 ≡ first_of D b
      go ih true e =
          let same : b ≡ a = omega (arith, leb-true b a e) in
          rw same (laid-before n (suc a) a w₁ (omega arith) ∙ get_or-set_same w (first_slot a) (first_of D a) 0 (omega arith))
      go ih false e = ih (omega (arith, leb-false b a e)) (omega arith) (omega (arith, length-set w (first_slot a) (first_of D a)))

  pub laid-arrays : (w : Words) → path_at ≤ length w → ArraysAt (laid_arrays D w) D
  unfolding laid_arrays
  laid-arrays w long a l = laid-at (suc max_arrays) 0 a w (omega arith) (omega arith) (omega arith)

-- what the line of given values wants of the words
pub found-declares : {s : Bytes} {at scalars : ℕ} {w w' : Words} {n end e : ℕ} → (f : ArraysFound s at scalars w (record { arrays = n; end = end; words = w' }) e)
    → scalars ≤ max_cells → path_at ≤ length w → (D : Declared) → D.scalars ≡ scalars → D.arrays ≡ f.lengths → Declares D scalars n w'
unfolding cells
found-declares {s} {at} {scalars} {w} {w'} {n} {end} {e} f few long D a b =
    let h = arrays-few scalars (line_at s at) f.lengths (line_at s e) f.read in
    record {
      scalar = a;
      many = ap length b ∙ f.many;
      few = omega (arith, h.0, f.many);
      small = omega (arith, h.1, ap sum b, a);
      held = rw (f.laid D a b) (laid-arrays D w long);
    }
