-- Laws of the line of arrays: first cells laid one by one, one turn of the reading of lengths, and the line's answer. Assumes nothing.
use Prim.Native.Nat.{ℕ, zero, suc, ◌+◌, ◌-◌, ◌<◌, ◌≤◌}
use mathlib.Core.Path.{◌≡◌, refl, sym, ap, ◌∙◌}
use mathlib.Core.Bool.{Bool, true, false, ◌&&◌}
use mathlib.Core.List.{List, [], ◌∷◌}
use native.Mathlib.Numerals.{add-one}
use native.Mathlib.Nat.{add-zero, zero-add}
use native.Mathlib.Omega.{arith}
use lib.Dec.{leb}
use lib.ListN.{length, get_or, take, drop, set, length-set}
use lib.Seq.{drop-drop}
use borrow.Author.Tests.{leb-true}
use Rattle.specification.specs.Bytes.{Bytes, bytes, pick, between, comma, feed}
use Rattle.specification.specs.Parser.{Reader, Read, refused, found, require, and_then, ◌>>◌, give, next, mark, key}
use Rattle.specification.specs.Lines.{index, count, lengths, arrays_line, sum, Declared, first_of}
use Rattle.specification.proofs.Laws.Contradiction.{contradiction}
use Rattle.tables.specs.Layout.{max_arrays, max_cells, first_slot}
use Rattle.sheet.specs.declared.arrays.Arrays.{Arrays}
use Rattle.sheet.specs.Reader.{line_at}
use Rattle.sheet.specs.Tables.{Words, laid_firsts, laid_arrays}
use Rattle.sheet.specs.Answers.{mapped}
use Rattle.sheet.specs.Firsts.{laid_on, Table, tabled, arrays_value, table_of, ArraysFound}
use Rattle.sheet.proofs.Answers.{on_found, on_refused, Origin, mapped-refused, mapped-found}
use Rattle.sheet.proofs.Keys.{mark-yes, closed, closed-found, closed-refused}

-- ---- first cells

module _ (a end : ℕ) (w : Words) where
  laid_next : (ns : List ℕ) → a ≤ max_arrays
      → laid_on (suc max_arrays - a) a end ns w ≡ laid_on (suc max_arrays - (a + 1)) (a + 1) (end + get_or ns 0 0) (drop 1 ns) (set w (first_slot a) end)
  unfolding laid_on
  laid_next ns h =
      let q : suc max_arrays - a ≡ suc (suc max_arrays - (a + 1)) = omega arith in
      rw (q, add-one)

-- ---- the loop of `fill`: what is laid from the start on is laid from here on

pub record Filling (w₀ : Words) (from end : ℕ) (w : Words) (a : ℕ) : Type 0 where
  pub long : length w ≡ length w₀
  pub rest : laid_on (suc max_arrays - from) from end [] w₀ ≡ laid_on (suc max_arrays - a) a end [] w

module _ {w₀ : Words} {from end : ℕ} {w : Words} {a : ℕ} (st : Filling w₀ from end w a) where
  pub fill_more : a ≤ max_arrays → (w' : Words) → w' ≡ set w (first_slot a) end → Filling w₀ from end w' (a + 1)
  fill_more h w' laid = rw laid (record { long = length-set w (first_slot a) end ∙ st.long; rest = st.rest ∙ laid_next a end w [] h ∙ rw add-zero })

  pub fill_done : max_arrays < a → w ≡ laid_on (suc max_arrays - from) from end [] w₀
  unfolding laid_on
  fill_done h = let q : suc max_arrays - a ≡ 0 = omega arith in sym (rw q at st.rest)

-- ---- the first cells of a sheet

sum_more : (ns : List ℕ) (a : ℕ) → sum (take (suc a) ns) ≡ sum (take a ns) + get_or (drop a ns) 0 0
unfolding sum
sum_more [] zero = refl
sum_more [] (suc a) = refl
sum_more (n ∷ ns) zero = omega arith
sum_more (n ∷ ns) (suc a) = omega (arith, sum_more ns a)

pub first_more : (D : Declared) (a : ℕ) → first_of D (suc a) ≡ first_of D a + get_or (drop a D.arrays) 0 0
unfolding first_of
first_more D a = omega (arith, sum_more D.arrays a)

laid-declared : (D : Declared) (m a : ℕ) (w : Words) → laid_firsts D a m w ≡ laid_on m a (first_of D a) (drop a D.arrays) w
unfolding laid_firsts laid_on
laid-declared D zero a w = refl
laid-declared D (suc m) a w = rw (sym (first_more D a), drop-drop, add-one a) (laid-declared D m (suc a) (set w (first_slot a) (first_of D a)))

-- the first cells of a sheet that declares the lengths
declared-laid : (D : Declared) (scalars : ℕ) (ns : List ℕ) (w : Words) → D.scalars ≡ scalars → D.arrays ≡ ns → laid_on (suc max_arrays) 0 scalars ns w ≡ laid_arrays D w
unfolding laid_arrays first_of sum
declared-laid D scalars ns w a b =
    ap (λ (x : ℕ). laid_on (suc max_arrays) 0 x ns w) (sym a ∙ sym (add-zero D.scalars)) ∙ ap (λ (l : List ℕ). laid_on (suc max_arrays) 0 (D.scalars + 0) l w) (sym b) ∙ sym (laid-declared D (suc max_arrays) 0 w)

-- ---- one turn of the reading of lengths

-- a count is within its limits
pub count-few : (lo hi m : ℕ) (r r' : Reader) → found m r' ≡ count lo hi r → (lo ≤ m) × (m ≤ hi)
unfolding count
count-few lo hi m r r' e = by_index (index r) e
  where
    by-limits : (n : ℕ) (q : Reader) (t u : Bool) → leb lo n ≡ t → leb n hi ≡ u → found m r' ≡ require (t && u) 4 r.place (give n) q → (lo ≤ m) × (m ≤ hi)
    by-limits n q true true l h e = let z : m ≡ n = cc in (omega (arith, leb-true lo n l), omega (arith, leb-true n hi h))
    by-limits n q true false l h e = contradiction cc
    by-limits n q false u l h e = contradiction cc

    by_index : (x : Read ℕ) → found m r' ≡ and_then (λ n. require (between lo hi n) 4 r.place (give n)) x → (lo ≤ m) × (m ≤ hi)
    by_index (refused k p) e = contradiction cc
    by_index (found n q) e = by-limits n q (leb lo n) (leb n hi) refl refl e

-- what is laid from the start on is laid from here on
pub record Reading (s : Bytes) (from scalars : ℕ) (w₀ w : Words) (at n end : ℕ) : Type 0 where
  pub few : n ≤ max_arrays
  pub small : end ≤ max_cells
  pub long : length w ≡ length w₀
  pub rest : mapped (tabled 0 scalars w₀) (lengths max_arrays (max_cells - scalars) (line_at s from)) ≡ mapped (tabled n end w) (lengths (max_arrays - n) (max_cells - end) (line_at s at))

-- a length that was read, before those that follow
tabled-more : (n end m : ℕ) (w : Words) → n < max_arrays → (x : Read (List ℕ))
    → mapped (tabled n end w) (and_then (λ ns. give (m ∷ ns)) x) ≡ mapped (tabled (n + 1) (end + m) (set w (first_slot n) end)) x
unfolding sum
tabled-more n end m w h (refused k p) = refl
tabled-more n end m w h (found ns r) =
    let a : n + suc (length ns) ≡ n + 1 + length ns = omega arith in
    let b : end + (m + sum ns) ≡ end + m + sum ns = omega arith in
    rw (a, b, laid_next n end w (m ∷ ns) (omega arith))

module _ {s : Bytes} {from scalars : ℕ} {w₀ w : Words} {at n end : ℕ} (st : Reading s from scalars w₀ w at n end) where
  abbrev Whole : Read Table → Type 0
  Whole x = x ≡ mapped (tabled 0 scalars w₀) (lengths max_arrays (max_cells - scalars) (line_at s from))

  -- the seventeenth
  pub turn-none : max_arrays ≤ n → Whole (refused 4 at)
  unfolding lengths
  turn-none h = let q : max_arrays - n ≡ 0 = omega arith in sym (rw q at st.rest)

  module _ (h : n < max_arrays) where
    -- what follows a length that ends at e
    abbrev following : ℕ → Read ℕ → Read (List ℕ)
    following k x = and_then (λ m r. and_then (λ ns. give (m ∷ ns)) (pick (next comma r.rest) (mark comma >> lengths k (max_cells - end - m)) (give []) r)) x

    turned : (x : Read ℕ) → x ≡ count 1 (max_cells - end) (line_at s at) → Whole (mapped (tabled n end w) (following (max_arrays - (n + 1)) x))
    unfolding lengths
    turned x e =
        let q : max_arrays - n ≡ suc (max_arrays - (n + 1)) = omega arith in
        rw e (sym (rw q at st.rest))

    pub turn-refused : {k p : ℕ} → refused k p ≡ count 1 (max_cells - end) (line_at s at) → Whole (refused k p)
    turn-refused is = turned _ is

    module _ {m e : ℕ} (is : found m (line_at s e) ≡ count 1 (max_cells - end) (line_at s at)) where
      pub turn-few : end + m ≤ max_cells
      turn-few = omega (arith, (count-few 1 (max_cells - end) m (line_at s at) (line_at s e) is).1, st.small)

      -- with its first cell
      module _ (w₁ : Words) (first : w₁ ≡ set w (first_slot n) end) where
        pub turn_last : false ≡ next comma (drop e s) → (w' : Words) → w' ≡ laid_on (suc max_arrays - (n + 1)) (n + 1) (end + m) [] w₁
            → Whole (found (record { arrays = n + 1; end = end + m; words = w' }) (line_at s e))
        unfolding sum
        turn_last other w' laid =
            let last = rw (sym other) at (turned (found m (line_at s e)) is) in
            rw (laid, first) (rw (add-zero (n + 1), add-zero (end + m)) at (sym (tabled-more n end m w h (found [] (line_at s e))) ∙ last))

        pub turn-next : true ≡ next comma (drop e s) → Reading s from scalars w₀ w₁ (e + 1) (n + 1) (end + m)
        turn-next is-comma =
            let left : max_cells - end - m ≡ max_cells - (end + m) = omega arith in
            let more = rw (sym is-comma, sym (mark-yes s e comma is-comma), left) at (turned (found m (line_at s e)) is) in
            rw first (record {
              few = omega arith;
              small = turn-few;
              long = length-set w (first_slot n) end ∙ st.long;
              rest = sym (sym (tabled-more n end m w h (lengths (max_arrays - (n + 1)) (max_cells - (end + m)) (line_at s (e + 1)))) ∙ more);
            })

-- ---- the line

module _ (s : Bytes) (from scalars : ℕ) (w : Words) where
  pub value_none : true ≡ next feed (drop from s) → (w' : Words) → w' ≡ laid_on (suc max_arrays) 0 scalars [] w
      → found (record { arrays = 0; end = scalars; words = w' }) (line_at s from) ≡ mapped (tabled 0 scalars w) (arrays_value scalars (line_at s from))
  unfolding sum
  value_none is-feed w' laid = rw (sym is-feed, laid, add-zero scalars)

  pub value-some : false ≡ next feed (drop from s)
      → mapped (tabled 0 scalars w) (lengths max_arrays (max_cells - scalars) (line_at s from)) ≡ mapped (tabled 0 scalars w) (arrays_value scalars (line_at s from))
  value-some other = rw (sym other)

module _ (s : Bytes) (at scalars : ℕ) where
  pub lined-no : {k p : ℕ} → refused k p ≡ key (bytes "arrays=") (line_at s at) → arrays_line scalars (line_at s at) ≡ refused k p
  unfolding arrays_line
  lined-no h = on_refused _ h

  -- with what is read of the value, over the words w, which it leaves as w'
  module _ {from : ℕ} (begun : found tt (line_at s from) ≡ key (bytes "arrays=") (line_at s at)) (w w' : Words) where
    lined : arrays_line scalars (line_at s at) ≡ closed (arrays_value scalars (line_at s from))
    unfolding arrays_line
    lined = on_found _ begun

    abbrev contents : Read (List ℕ)
    contents = arrays_value scalars (line_at s from)

    pub lined-refused : {k p : ℕ} → refused k p ≡ mapped (tabled 0 scalars w) contents → arrays_line scalars (line_at s at) ≡ refused k p
    lined-refused is = lined ∙ ap closed (mapped-refused (tabled 0 scalars w) _ _ contents is)

    module _ {a : Arrays} {e : ℕ} (is : found (table_of w' a) (line_at s e) ≡ mapped (tabled 0 scalars w) contents) where
      origin : Origin (tabled 0 scalars w) (table_of w' a) (line_at s e) contents
      origin = mapped-found (tabled 0 scalars w) _ _ contents is

      pub lined-open : {k p : ℕ} → refused k p ≡ mark feed (line_at s e) → arrays_line scalars (line_at s at) ≡ refused k p
      lined-open h = lined ∙ ap closed origin.is ∙ closed-refused origin.origin s e h

      pub lined-found : {q : ℕ} → found tt (line_at s q) ≡ mark feed (line_at s e) → ArraysFound s at scalars w (table_of w' a) q
      lined-found h = record {
        lengths = origin.origin;
        read = lined ∙ ap closed origin.is ∙ closed-found origin.origin s e h;
        many = sym (zero-add (length origin.origin)) ∙ ap (λ (x : Table). x.arrays) origin.made;
        ends = ap (λ (x : Table). x.end) origin.made;
        laid = λ D a b. sym (ap (λ (x : Table). x.words) origin.made) ∙ declared-laid D scalars origin.origin w a b;
      }
