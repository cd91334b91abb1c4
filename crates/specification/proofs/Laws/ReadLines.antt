-- What the lines before the given values declare is within the limits of documents 01 and 02. Assumes nothing.
use Prim.Native.Nat.{ℕ, zero, suc, ◌+◌, ◌-◌, ◌≤◌}
use mathlib.Core.Path.{◌≡◌, refl, ap}
use native.Mathlib.Omega.{arith}
use mathlib.Core.Bool.{Bool, true, false}
use mathlib.Core.List.{List, [], ◌∷◌}
use lib.ListN.{length}
use lib.Dec.{T, leb, ltb}
use lib.IntN.{ℤ}
use lib.Signed.{le_z}
use borrow.Author.Tests.{leb-true}
use mir.Facts.{yes_and}
use Rattle.specification.specs.Bytes.{Bytes, bytes, pick, feed, comma, colon, in_number}
use Rattle.specification.specs.Number.{integer, within, in32}
use Rattle.specification.specs.Parser.{Reader, Parser, give, present, ◌>>=◌, ◌>>◌, next, mark, taken, key}
use Rattle.specification.specs.Lines.{index, count, value, line, Range, Declared, lengths, arrays_line, range, ranges, first_ranged, ranges_line, contains, sum, cells}
use Rattle.specification.specs.Lists.{Each}
use Rattle.specification.specs.WellFormed.{Ordered, Limits}
use Rattle.specification.proofs.Laws.Range.{le-self}
use Rattle.specification.proofs.Laws.Parser.{and-true, true-T, Post, refusal, holds, bind-post, after, require-post, choose-post}

-- ---- numbers

-- a number within its limits
abbrev pub Within : ℕ → ℕ → ℕ → Reader → Type 0
Within lo hi n r = (lo ≤ n) × (n ≤ hi)

module _ (lo hi : ℕ) where
  pub count_post : (r : Reader) → Post (Within lo hi) (count lo hi r)
  unfolding count
  count_post r =
      after (index r) λ n r₁.
      require-post _ _ _ _ _ tt λ e.
      let t = and-true (leb lo n) (leb n hi) e in
      holds (leb-true lo n t.0, leb-true n hi t.1)

  pub line_post : (k : Bytes) (r : Reader) → Post (Within lo hi) (line k lo hi r)
  unfolding line
  line_post k r = after (key k r) λ u r₁. bind-post (count_post r₁) λ n r₂ h. after (mark feed r₂) λ u r₃. holds h

-- ---- arrays

-- at most k lengths, each at least 1, that take no more than the cells left
pub record Lengths (k left : ℕ) (ns : List ℕ) : Type 0 where
  pub few : length ns ≤ k
  pub positive : Each (λ n. 1 ≤ n) ns
  pub fit : sum ns ≤ left

no_lengths : (k left : ℕ) → Lengths k left []
unfolding sum Each
no_lengths k left = record { few = omega arith; positive = tt; fit = omega arith }

one_more : (k left n : ℕ) (ns : List ℕ) → 1 ≤ n → n ≤ left → Lengths k (left - n) ns → Lengths (suc k) left (n ∷ ns)
unfolding sum Each
one_more k left n ns lo hi h = record { few = omega arith; positive = (lo, h.positive); fit = omega arith }

lengths-post : (k left : ℕ) (r : Reader) → Post (λ ns r'. Lengths k left ns) (lengths k left r)
unfolding lengths
lengths-post zero left r = refusal tt
lengths-post (suc k) left r =
    bind-post (count_post 1 left r) λ n r₁ h.
    bind-post
    (choose-post (next comma r₁.rest) (mark comma >> lengths k (left - n)) (give []) r₁
    (after (mark comma r₁) λ u r₂. lengths-post k (left - n) r₂) (holds (no_lengths k (left - n)))) λ ns r₂ l.
    holds (one_more k left n ns h.0 h.1 l)

pub arrays-post : (scalars : ℕ) (r : Reader) → Post (λ ns r'. Lengths 16 (512 - scalars) ns) (arrays_line scalars r)
unfolding arrays_line
arrays-post scalars r =
    after (key (bytes "arrays=") r) λ u r₁.
    bind-post
    (choose-post (next feed r₁.rest) (give []) (lengths 16 (512 - scalars)) r₁
    (holds (no_lengths 16 (512 - scalars))) (lengths-post 16 (512 - scalars) r₁)) λ ns r₂ l.
    after (mark feed r₂) λ u r₃. holds l

-- ---- ranges

pub value-post : (r : Reader) → Post (λ z r'. T (in32 z)) (value r)
unfolding value
value-post r =
    after (taken in_number r) λ bs r₁.
    after (present 4 r.place (integer bs) r₁) λ z r₂.
    require-post _ _ _ _ _ tt λ e. holds (true-T (in32 z) e)

-- its ends are values of it
ends-ordered : (lo hi : ℤ) → T (in32 lo) → T (in32 hi) → T (le_z lo hi) → Ordered (record { low = lo; high = hi })
unfolding contains
ends-ordered lo hi a b h = (
  yes_and (in32 lo) (within lo hi lo) a (yes_and (le_z lo lo) (le_z lo hi) (le-self lo) h),
  yes_and (in32 hi) (within lo hi hi) b (yes_and (le_z lo hi) (le_z hi hi) h (le-self hi)),
)

range-post : (r : Reader) → Post (λ x r'. Ordered x) (range r)
unfolding range
range-post r =
    bind-post (value-post r) λ lo r₁ a.
    after (mark colon r₁) λ u r₂.
    bind-post (value-post r₂) λ hi r₃ b.
    require-post _ _ _ _ _ tt λ e. holds (ends-ordered lo hi a b (true-T (le_z lo hi) e))

-- so many, each ordered
pub record Ranges (k : ℕ) (rs : List Range) : Type 0 where
  pub many : length rs ≡ k
  pub ordered : Each Ordered rs

ranges-post : (lead : Parser (Unit {0})) (k : ℕ) (r : Reader) → Post (λ rs r'. Ranges k rs) (ranges lead k r)
unfolding ranges Each
ranges-post lead zero r = holds (record { many = refl; ordered = tt })
ranges-post lead (suc k) r =
    after (lead r) λ u r₁.
    bind-post (range-post r₁) λ x r₂ h.
    bind-post (ranges-post (mark comma) k r₂) λ rs r₃ l.
    holds (record { many = ap suc l.many; ordered = (h, l.ordered) })

-- none before edition 3, and then k of them
pub ranges-line-post : (edition k : ℕ) (r : Reader) → Post (λ rs r'. Ranges (pick (ltb edition first_ranged) 0 k) rs) (ranges_line edition k r)
unfolding ranges_line Each
ranges-line-post edition k r = go (ltb edition first_ranged)
  where
    go : (b : Bool) →
        Post (λ rs r'. Ranges (pick b 0 k) rs) (pick b (give []) (key (bytes "ranges=") >> (ranges (give tt) k >>= λ rs. mark feed >> give rs)) r)
    go true = holds (record { many = refl; ordered = tt })
    go false =
        after (key (bytes "ranges=") r) λ u r₁.
        bind-post (ranges-post (give tt) k r₁) λ rs r₂ h.
        after (mark feed r₂) λ u r₃. holds h

-- ---- the limits

-- from what is known of these lines, and of the procedures
module _ (D : Declared) where
  pub limits : (1 ≤ D.edition) × (D.edition ≤ 3) → D.scalars ≤ 64 → D.locals ≤ 32 → Lengths 16 (512 - D.scalars) D.arrays →
      Ranges (pick (ltb D.edition first_ranged) 0 (D.scalars + length D.arrays)) D.ranges → length D.procedures ≤ 16 → D.parameters ≡ 0 → Limits D
  unfolding cells
  limits e v l a r p n = record {
    edition = e;
    scalars = v;
    locals = l;
    arrays = a.few;
    positive = a.positive;
    cells = omega (arith, a.fit, v);
    ranges = r.many;
    ordered = r.ordered;
    procedures = p;
    parameters = n;
  }
