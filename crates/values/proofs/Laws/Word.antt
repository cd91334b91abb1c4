-- Words and their values: `signed` and `biased` are inverse; words compare, count and step as their values do, so that code works on the
-- words alone. Assumes nothing.
use Prim.Native.Nat.{ℕ, suc, ◌+◌, ◌-◌, ◌<◌, ◌≤◌}
use native.Mathlib.Omega.{arith}
use mathlib.Core.Path.{◌≡◌, sym, ◌∙◌, ap}
use mathlib.Core.Bool.{true}
use lib.Dec.{T, leb, ltb, eqb, leb→le, le→leb}
use lib.IntN.{ℤ, pos, negsuc, ◌+ℤ◌}
use lib.Signed.{lt_z, le_z}
use Rattle.specification.specs.Number.{in32}
use Rattle.specification.specs.Arithmetic.{eq_z, count}
use Rattle.values.specs.Word.{signed, biased, Narrow}
use Rattle.values.proofs.Laws.Test.{and_left, and_both, same-leb, true-leb, false-leb, same-eqb, false-eqb}
use Rattle.specification.proofs.Laws.Contradiction.{contradiction}
use Rattle.specification.proofs.Laws.Difference.{by_order, subℕ-ge, subℕ-lt, subℕ-same}

-- what holds of the values of small and of large words holds of every word's
pub by_sign : (P : ℤ → Type 0) (w : ℕ) → (w < 2147483648 → P (negsuc (2147483648 - suc w))) → (2147483648 ≤ w → P (pos (w - 2147483648))) → P (signed w)
by_sign P w l h = by_order P w 2147483648 l h

-- ---- inverse

pub biased-signed : (w : ℕ) → biased (signed w) ≡ w
biased-signed w = by_sign (λ z. biased z ≡ w) w (λ l. omega arith) (λ h. omega arith)

-- a negative value in 32 bits: the bound below on its number
pub in32-below : (n : ℕ) → T (in32 (negsuc n)) → n < 2147483648
in32-below n t = let h = leb→le n 2147483647 (and_left (leb n 2147483647) true t) in omega arith

pub signed-biased : (z : ℤ) → T (in32 z) → signed (biased z) ≡ z
signed-biased (pos n) t = subℕ-ge (2147483648 + n) 2147483648 (omega arith) ∙ ap pos {x = 2147483648 + n - 2147483648} {y = n} (omega arith)
signed-biased (negsuc n) t =
    let h = in32-below n t in
    subℕ-lt (2147483647 - n) 2147483648 (omega arith) ∙ ap negsuc {x = 2147483648 - suc (2147483647 - n)} {y = n} (omega arith)

-- ---- ranges

pub signed-in32 : (w : ℕ) → w < 4294967296 → T (in32 (signed w))
signed-in32 w h =
    by_sign (λ z. T (in32 z)) w
    (λ l. and_both (leb (2147483648 - suc w) 2147483647) true (le→leb (2147483648 - suc w) 2147483647 (omega arith)) tt)
    (λ r. le→leb (w - 2147483648) 2147483647 (omega arith))

pub biased-word : (z : ℤ) → T (in32 z) → biased z < 4294967296
biased-word (pos n) t = let h = leb→le n 2147483647 t in omega arith
biased-word (negsuc n) t = omega arith

pub narrow_signed : (w : ℕ) → w < 4294967296 → Narrow (signed w)
narrow_signed w h = by_sign Narrow w (λ l. omega arith) (λ r. omega arith)

-- the word of 0 is 2147483648, and no other
pub signed-nonzero : (w : ℕ) → (w ≡ 2147483648 → ⊥) → signed w ≡ pos 0 → ⊥
signed-nonzero w n = by_sign (λ z. z ≡ pos 0 → ⊥) w (λ l e. contradiction cc) (λ h e. n (omega (arith, zero_of (w - 2147483648) e)))
  where
    zero_of : (k : ℕ) → pos k ≡ pos 0 → k ≡ 0
    zero_of k e = cc

-- ---- comparisons

-- a fact on two words, by the signs of their values
module _ (P : ℤ → ℤ → Type 0) (a b : ℕ)
    (ll : a < 2147483648 → b < 2147483648 → P (negsuc (2147483648 - suc a)) (negsuc (2147483648 - suc b)))
    (lh : a < 2147483648 → 2147483648 ≤ b → P (negsuc (2147483648 - suc a)) (pos (b - 2147483648)))
    (hl : 2147483648 ≤ a → b < 2147483648 → P (pos (a - 2147483648)) (negsuc (2147483648 - suc b)))
    (hh : 2147483648 ≤ a → 2147483648 ≤ b → P (pos (a - 2147483648)) (pos (b - 2147483648))) where
  pub by-signs : P (signed a) (signed b)
  by-signs =
      by_sign (λ x. P x (signed b)) a
      (λ l. by_sign (P (negsuc (2147483648 - suc a))) b (ll l) (lh l))
      (λ h. by_sign (P (pos (a - 2147483648))) b (hl h) (hh h))

pub signed_lt : (a b : ℕ) → lt_z (signed a) (signed b) ≡ ltb a b
signed_lt a b =
    by-signs (λ x y. lt_z x y ≡ ltb a b) a b
    (λ l r. same-leb (suc (2147483648 - suc b)) (2147483648 - suc a) (suc a) b (λ h. omega arith) (λ h. omega arith))
    (λ l r. true-leb (suc a) b (omega arith))
    (λ l r. false-leb (suc a) b (omega arith))
    (λ l r. same-leb (suc (a - 2147483648)) (b - 2147483648) (suc a) b (λ h. omega arith) (λ h. omega arith))

pub signed_le : (a b : ℕ) → le_z (signed a) (signed b) ≡ leb a b
signed_le a b =
    by-signs (λ x y. le_z x y ≡ leb a b) a b
    (λ l r. same-leb (2147483648 - suc b) (2147483648 - suc a) a b (λ h. omega arith) (λ h. omega arith))
    (λ l r. true-leb a b (omega arith))
    (λ l r. false-leb a b (omega arith))
    (λ l r. same-leb (a - 2147483648) (b - 2147483648) a b (λ h. omega arith) (λ h. omega arith))

pub signed-eq : (a b : ℕ) → eq_z (signed a) (signed b) ≡ eqb a b
signed-eq a b =
    by-signs (λ x y. eq_z x y ≡ eqb a b) a b
    (λ l r. same-eqb (2147483648 - suc a) (2147483648 - suc b) a b (λ h. omega arith) (λ h. omega arith))
    (λ l r. false-eqb a b (λ e. omega arith))
    (λ l r. false-eqb a b (λ e. omega arith))
    (λ l r. same-eqb (a - 2147483648) (b - 2147483648) a b (λ h. omega arith) (λ h. omega arith))

-- ---- ranges of words

pub signed-count : (a b : ℕ) → count (signed a) (signed b) ≡ suc b - a
signed-count a b = by-signs (λ x y. count x y ≡ suc b - a) a b (λ l r. omega arith) (λ l r. omega arith) (λ l r. omega arith) (λ l r. omega arith)

-- the value i steps on
pub signed_add : (a i : ℕ) → signed a +ℤ pos i ≡ signed (a + i)
signed_add a i =
    by_sign (λ z. z +ℤ pos i ≡ signed (a + i)) a
    (λ l. subℕ-same i (suc (2147483648 - suc a)) (a + i) 2147483648 (omega arith))
    (λ h. ap pos {x = a - 2147483648 + i} {y = a + i - 2147483648} (omega arith) ∙ sym (subℕ-ge (a + i) 2147483648 (omega arith)))
