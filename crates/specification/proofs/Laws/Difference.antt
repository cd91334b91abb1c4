-- A difference of two naturals, `sub_ℕ a b`, by the order of the two; and magnitudes of sums and products. Assumes nothing.
use Prim.Native.Nat.{ℕ, zero, suc, ◌+◌, ◌-◌, ◌*◌, ◌/◌, ◌%◌, ◌<◌, ◌≤◌}
use native.Mathlib.Omega.{arith}
use native.Mathlib.Nat.{div-le_self, mod-le}
use mathlib.Core.Path.{◌≡◌, refl, sym, ◌∙◌, ap}
use mathlib.Core.Bool.{Bool, true, false, cond}
use lib.Dec.{ltb}
use borrow.Author.Tests.{ltb-true, ltb-false, lt-ltb, le-ltb}
use lib.IntN.{ℤ, pos, negsuc, sub_ℕ, neg_ℤ, nat_abs, ◌+ℤ◌, ◌*ℤ◌}
use lib.Signed.{quot_z, rem_z}

-- ---- differences

-- what holds in both orders holds of the difference
pub by_order : (P : ℤ → Type 0) (a b : ℕ) → (a < b → P (negsuc (b - suc a))) → (b ≤ a → P (pos (a - b))) → P (sub_ℕ a b)
by_order P a b l h = go (ltb a b) refl
  where
    go : (t : Bool) → ltb a b ≡ t → P (cond t (negsuc (b - suc a)) (pos (a - b)))
    go true e = l (ltb-true a b e)
    go false e = h (ltb-false a b e)

pub subℕ-ge : (a b : ℕ) → b ≤ a → sub_ℕ a b ≡ pos (a - b)
subℕ-ge a b h = ap (λ (t : Bool). cond t (negsuc (b - suc a)) (pos (a - b))) (le-ltb a b h)

pub subℕ-lt : (a b : ℕ) → a < b → sub_ℕ a b ≡ negsuc (b - suc a)
subℕ-lt a b h = ap (λ (t : Bool). cond t (negsuc (b - suc a)) (pos (a - b))) (lt-ltb a b h)

-- a - b is c - d
pub subℕ-same : (a b c d : ℕ) → a + d ≡ c + b → sub_ℕ a b ≡ sub_ℕ c d
subℕ-same a b c d e =
    by_order (λ z. z ≡ sub_ℕ c d) a b
    (λ l. ap negsuc (omega arith) ∙ sym (subℕ-lt c d (omega arith)))
    (λ h. ap pos (omega arith) ∙ sym (subℕ-ge c d (omega arith)))

-- ---- magnitudes

abs-subℕ : (a b : ℕ) → nat_abs (sub_ℕ a b) ≤ a + b
abs-subℕ a b = by_order (λ z. nat_abs z ≤ a + b) a b (λ l. omega arith) (λ h. omega arith)

pub abs_neg : (z : ℤ) → nat_abs (neg_ℤ z) ≡ nat_abs z
abs_neg (pos zero) = refl
abs_neg (pos (suc n)) = refl
abs_neg (negsuc n) = refl

pub abs-sum : (x y : ℤ) → nat_abs (x +ℤ y) ≤ nat_abs x + nat_abs y
abs-sum (pos a) (pos b) = omega arith
abs-sum (pos a) (negsuc b) = abs-subℕ a (suc b)
abs-sum (negsuc a) (pos b) = omega (arith, abs-subℕ b (suc a))
abs-sum (negsuc a) (negsuc b) = omega arith

pub abs-product : (x y : ℤ) → nat_abs (x *ℤ y) ≡ nat_abs x * nat_abs y
abs-product (pos a) (pos b) = refl
abs-product (pos a) (negsuc b) = abs_neg (pos (a * suc b))
abs-product (negsuc a) (pos b) = abs_neg (pos (suc a * b))
abs-product (negsuc a) (negsuc b) = refl

pub abs-quotient : (x y : ℤ) → nat_abs (quot_z x y) ≤ nat_abs x
abs-quotient (pos a) (pos b) = div-le_self a b
abs-quotient (pos a) (negsuc b) = rw (abs_neg (pos (a / suc b))) (div-le_self a (suc b))
abs-quotient (negsuc a) (pos b) = rw (abs_neg (pos (suc a / b))) (div-le_self (suc a) b)
abs-quotient (negsuc a) (negsuc b) = div-le_self (suc a) (suc b)

pub abs-remainder : (x y : ℤ) → nat_abs (rem_z x y) ≤ nat_abs x
abs-remainder (pos a) y = mod-le a (nat_abs y)
abs-remainder (negsuc a) y = rw (abs_neg (pos (suc a % nat_abs y))) (mod-le (suc a) (nat_abs y))
