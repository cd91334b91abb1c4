-- Lines counted byte by byte. Assumes nothing.
use Prim.Native.Nat.{ℕ, zero, suc, ◌+◌, ◌≤◌, ◌<◌}
use native.Mathlib.Omega.{arith}
use native.Mathlib.Numerals.{add-one}
use mathlib.Core.Path.{◌≡◌, refl, sym}
use mathlib.Core.Bool.{Bool, true, false}
use mathlib.Core.List.{[], ◌∷◌}
use lib.Dec.{eqb, ltb}
use lib.ListN.{length, get_or, drop, length-drop}
use lib.Seq.{drop-drop}
use borrow.Author.Tests.{ltb-false}
use Rattle.std.specs.Prelude.{cond, position, Some, None}
use Rattle.std.specs.List.{position_or_len}
use Rattle.std.proofs.lemmas.List.Quantifiers.{position-Some}
use Rattle.std.proofs.lemmas.List.Sums.{fails_before_first}
use Rattle.specification.specs.Bytes.{Bytes, pick}
use Rattle.mover.specs.Model.{line_length, lines_length}

-- ---- a line

pub line_length-≤ : (bs : Bytes) → line_length bs ≤ length bs
unfolding line_length
line_length-≤ [] = omega arith
line_length-≤ (b ∷ bs) = go (eqb b 10) (line_length-≤ bs)
  where
    go : (t : Bool) → line_length bs ≤ length bs → pick t 1 (suc (line_length bs)) ≤ suc (length bs)
    go true h = omega arith
    go false h = omega arith

-- up to its first line feed
line-at : (bs : Bytes) (n : ℕ) → n < length bs → eqb (get_or bs n 0) 10 ≡ true → ((k : ℕ) → k < n → eqb (get_or bs k 0) 10 ≡ false) →
    line_length bs ≡ n + 1
unfolding line_length
line-at [] n h e f = absurd (omega arith)
line-at (b ∷ bs) zero h e f = rw e refl
line-at (b ∷ bs) (suc n) h e f = rw (f 0 (omega arith)) (omega (arith, line-at bs n (omega arith) e (λ k l. f (suc k) (omega arith))))

-- all, where there is none
line-all : (bs : Bytes) → ((k : ℕ) → k < length bs → eqb (get_or bs k 0) 10 ≡ false) → line_length bs ≡ length bs
unfolding line_length
line-all [] f = refl
line-all (b ∷ bs) f = rw (f 0 (omega arith)) (omega (arith, line-all bs (λ k l. f (suc k) (omega arith))))

-- by the search for it
module _ (bs : Bytes) where
  pub line-found : (n : ℕ) → Some n ≡ position (λ b. eqb b 10) bs → line_length bs ≡ n + 1
  line-found n e = let q = position-Some (λ b. eqb b 10) bs n 0 (sym e) in line-at bs n q.0 q.1 q.2

  pub line-unfound : None ≡ position (λ b. eqb b 10) bs → line_length bs ≡ length bs
  line-unfound e = go (ltb (position_or_len (λ b. eqb b 10) bs) (length bs)) refl e
    where
      go : (t : Bool) → ltb (position_or_len (λ b. eqb b 10) bs) (length bs) ≡ t →
          None ≡ cond t (Some (position_or_len (λ b. eqb b 10) bs)) None → line_length bs ≡ length bs
      go true l h = cc
      go false l h =
          let k = ltb-false (position_or_len (λ b. eqb b 10) bs) (length bs) l in
          line-all bs (λ j m. fails_before_first (λ b. eqb b 10) bs j 0 (omega arith))

-- ---- lines

pub lines_length-≤ : (n : ℕ) (bs : Bytes) → lines_length n bs ≤ length bs
unfolding lines_length
lines_length-≤ zero bs = omega arith
lines_length-≤ (suc n) bs =
    omega (arith, line_length-≤ bs, length-drop (line_length bs) bs, lines_length-≤ n (drop (line_length bs) bs))

-- one more is no fewer bytes
pub lines_length-suc : (n : ℕ) (bs : Bytes) → lines_length n bs ≤ lines_length (suc n) bs
unfolding lines_length
lines_length-suc zero bs = omega arith
lines_length-suc (suc n) bs = omega (arith, lines_length-suc n (drop (line_length bs) bs))

pub lines_length-next : (n : ℕ) (bs : Bytes) → lines_length n bs ≤ lines_length (n + 1) bs
lines_length-next n bs = rw add-one (lines_length-suc n bs)

pub lines-all : (s : Bytes) (n k : ℕ) → k ≡ n → 0 + lines_length k (drop 0 s) ≡ lines_length n s
lines-all s n k e = rw e (omega arith)

pub lines_none : (n : ℕ) (bs : Bytes) → n ≡ 0 → lines_length n bs ≡ 0
unfolding lines_length
lines_none zero bs e = omega arith
lines_none (suc n) bs e = absurd (omega arith)

-- the line at p, and the n lines after it
pub lines_more : (s : Bytes) (p q k n : ℕ) → q ≡ p + line_length (drop p s) → k ≡ suc n →
    p + lines_length k (drop p s) ≡ q + lines_length n (drop q s)
unfolding lines_length
lines_more s p q k n e h =
    let l = line_length (drop p s) in
    let d = drop-drop l p s in
    rw (h, e, d) (omega arith)
