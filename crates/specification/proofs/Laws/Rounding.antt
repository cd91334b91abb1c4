-- Quotients of integers, rounded down (`floor_z`) and toward zero (`quot_z`), and what they leave. Rounding down leaves a number from 0 up to the
-- divisor, and no other quotient does; rounding toward zero leaves one from 0 up to the dividend; the two are the same exactly where the signs agree
-- or the divisor divides. Which operation of a sheet is which is in Division. Assumes nothing.
use Prim.Native.Nat.{ℕ, zero, suc, ◌+◌, ◌-◌, ◌*◌, ◌/◌, ◌%◌, ◌<◌, ◌≤◌}
use native.Mathlib.Omega.{arith}
use native.Mathlib.Nat.{mul-suc, mul-add-div, mul-mod_right, zero-div, div-eq_of_lt, div-le_self, div-add-mod, mod-lt}
use mathlib.Core.Path.{◌≡◌, refl, sym, ◌∙◌, ap, subst}
use mathlib.Core.Logic.{◌↔◌, ◌⊎◌, inl, inr}
use lib.Dec.{T, leb→le, le→leb, ltb→lt, lt→ltb}
use lib.IntN.{ℤ, pos, negsuc, neg_ℤ, nat_abs, ◌+ℤ◌, ◌-ℤ◌, ◌*ℤ◌, neg_ℤ-neg_ℤ, neg_ℤ-+ℤ, +ℤ_comm, -ℤ-+ℤ_cancel, +ℤ-neg_ℤ_cancel, *ℤ-zero, *ℤ-negsuc, +ℤ_idr}
use lib.Signed.{lt_z, quot_z, rem_z, non_neg, ◌≤ℤ◌, ◌<ℤ◌, <ℤ-≤ℤ_trans, clash_ℤ}
use Rattle.specification.specs.Arithmetic.{floor_z, remains}
use Rattle.specification.proofs.Laws.Contradiction.{contradiction}
use Rattle.specification.proofs.Laws.Difference.{subℕ-ge, subℕ-lt, abs_neg, abs-product}

-- ---- the equation

-- a quotient and what it leaves make up the dividend, whatever the quotient
pub makes-up : (a b q : ℤ) → a ≡ b *ℤ q +ℤ remains a b q
makes-up a b q = sym (+ℤ_comm (b *ℤ q) (remains a b q) ∙ -ℤ-+ℤ_cancel a (b *ℤ q))

pub remains-is : (a b q r : ℤ) → a ≡ b *ℤ q +ℤ r → remains a b q ≡ r
remains-is a b q r e = ap (λ z. remains z b q) e ∙ ap (λ z. z -ℤ b *ℤ q) (+ℤ_comm (b *ℤ q) r) ∙ +ℤ-neg_ℤ_cancel r (b *ℤ q)

-- ---- sums of numbers with a sign

-- x less n, where n is no more than x, and where it is more
less : (x n r : ℕ) → n + r ≡ x → pos x +ℤ neg_ℤ (pos n) ≡ pos r
less x zero r e = ap pos (omega arith)
less x (suc n) r e = subℕ-ge x (suc n) (omega arith) ∙ ap pos {x = x - suc n} {y = r} (omega arith)

pub more : (x n d : ℕ) → n ≡ x + d → pos x +ℤ neg_ℤ (pos n) ≡ neg_ℤ (pos d)
more x n zero e = less x n 0 (omega arith)
more x zero (suc d) e = absurd (omega arith)
more x (suc n) (suc d) e = subℕ-lt x (suc n) (omega arith) ∙ ap negsuc {x = suc n - suc x} {y = d} (omega arith)

-- the same with the signs the other way round
less-neg : (x n r : ℕ) → n + r ≡ suc x → negsuc x +ℤ pos n ≡ neg_ℤ (pos r)
less-neg x n r e = +ℤ_comm (negsuc x) (pos n) ∙ more n (suc x) r (omega arith)

pub more-neg : (x n d : ℕ) → n ≡ suc x + d → negsuc x +ℤ pos n ≡ pos d
more-neg x n d e = +ℤ_comm (negsuc x) (pos n) ∙ less n (suc x) d (omega arith)

sum-neg : (x y : ℕ) → neg_ℤ (pos x) +ℤ neg_ℤ (pos y) ≡ neg_ℤ (pos (x + y))
sum-neg x y = sym (neg_ℤ-+ℤ (pos x) (pos y))

product-neg : (y : ℤ) (n : ℕ) → y *ℤ neg_ℤ (pos n) ≡ neg_ℤ (y *ℤ pos n)
product-neg y zero = rw (*ℤ-zero y)
product-neg y (suc n) = *ℤ-negsuc y n

-- ---- toward zero

-- what it leaves has the dividend's sign
pub remainder_is : (a b : ℤ) → remains a b (quot_z a b) ≡ rem_z a b
remainder_is (pos a) (pos b) = less a (b * (a / b)) (a % b) (div-add-mod a b)
remainder_is (pos a) (negsuc b) =
    rw (product-neg (negsuc b) (a / suc b), neg_ℤ-neg_ℤ) (less a (suc b * (a / suc b)) (a % suc b) (div-add-mod a (suc b)))
remainder_is (negsuc a) (pos b) =
    rw (product-neg (pos b) (suc a / b), neg_ℤ-neg_ℤ) (less-neg a (b * (suc a / b)) (suc a % b) (div-add-mod (suc a) b))
remainder_is (negsuc a) (negsuc b) =
    rw neg_ℤ-neg_ℤ (less-neg a (suc b * (suc a / suc b)) (suc a % suc b) (div-add-mod (suc a) (suc b)))

-- and is smaller than the divisor
pub remainder-less : (a b : ℤ) → (b ≡ pos zero → ⊥) → nat_abs (rem_z a b) < nat_abs b
remainder-less a b n = by a
  where
    some : (b : ℤ) → (b ≡ pos zero → ⊥) → 0 < nat_abs b
    some (pos zero) n = absurd (n refl)
    some (pos (suc b)) n = omega arith
    some (negsuc b) n = omega arith

    by : (a : ℤ) → nat_abs (rem_z a b) < nat_abs b
    by (pos a) = mod-lt a (some b n)
    by (negsuc a) = rw abs_neg (mod-lt (suc a) (some b n))

-- ---- rounding down

weak : {a b : ℤ} → a <ℤ b → a ≤ℤ b
weak {a} {b} h = by a b h.lt
  where
    by : (a b : ℤ) → T (lt_z a b) → a ≤ℤ b
    by (pos a) (pos b) t = record { le = le→leb a b (omega (arith, ltb→lt a b t)) }
    by (pos a) (negsuc b) t = absurd t
    by (negsuc a) (pos b) t = record { le = tt }
    by (negsuc a) (negsuc b) t = record { le = le→leb b a (omega (arith, ltb→lt b a t)) }

-- from 0 up to the divisor, which is not included
abbrev pub Within : ℤ → ℤ → Type 0
Within b r = ((pos zero ≤ℤ r) × (r <ℤ b)) ⊎ ((b <ℤ r) × (r ≤ℤ pos zero))

pub within-above : (b k : ℕ) → k < b → Within (pos b) (pos k)
within-above b k h = inl (record { le = le→leb 0 k (omega arith) }, record { lt = lt→ltb k b h })

pub within-below : (b k : ℕ) → k ≤ b → Within (negsuc b) (neg_ℤ (pos k))
within-below b zero h = inr (record { lt = tt }, record { le = le→leb 0 0 (omega arith) })
within-below b (suc k) h = inr (record { lt = lt→ltb k b (omega arith) }, record { le = tt })

-- what holds on both sides of 0 holds of every such number
by-within : (P : ℤ → ℤ → Type 0) → ((b k : ℕ) → k < b → P (pos b) (pos k)) → ((b k : ℕ) → k ≤ b → P (negsuc b) (neg_ℤ (pos k))) →
    (b r : ℤ) → Within b r → P b r
by-within P above below (pos b) (pos k) (inl (l, h)) = above b k (ltb→lt k b h.lt)
by-within P above below (negsuc b) (pos k) (inl (l, h)) = absurd h.lt
by-within P above below b (negsuc k) (inl (l, h)) = absurd l.le
by-within P above below (pos b) (pos k) (inr (h, l)) = let x = ltb→lt b k h.lt in let y = leb→le k 0 l.le in absurd (omega arith)
by-within P above below (pos b) (negsuc k) (inr (h, l)) = absurd h.lt
by-within P above below (negsuc b) (pos zero) (inr (h, l)) = below b 0 (omega arith)
by-within P above below (negsuc b) (pos (suc k)) (inr (h, l)) = absurd (omega (arith, leb→le (suc k) 0 l.le))
by-within P above below (negsuc b) (negsuc k) (inr (h, l)) = below b (suc k) (omega (arith, ltb→lt k b h.lt))

-- it is smaller than the divisor
pub within-less : (b r : ℤ) → Within b r → nat_abs r < nat_abs b
within-less = by-within (λ b r. nat_abs r < nat_abs b) (λ b k h. h) (λ b k h. rw (abs_neg (pos k)) (omega arith))

-- and has its sign
pub within-sign : (b r : ℤ) → Within b r → (pos zero <ℤ b → (pos zero ≤ℤ r) × (r <ℤ b)) × (b <ℤ pos zero → (b <ℤ r) × (r ≤ℤ pos zero))
within-sign b r (inl (l, h)) = ((λ z. (l, h)), (λ z. clash_ℤ (<ℤ-≤ℤ_trans h (weak z)) l))
within-sign b r (inr (h, l)) = ((λ z. clash_ℤ z (weak (<ℤ-≤ℤ_trans h l))), (λ z. (h, l)))

-- one more round than a has, b + 1 steps long: what is left of it after a + 1 steps
round : (a b : ℕ) → suc b * suc (a / suc b) ≡ suc a + (b - a % suc b)
round a b =
    let h = mod-lt a {m = suc b} (omega arith) in
    mul-suc (suc b) (a / suc b) ∙ over (suc b * (a / suc b)) (a % suc b) (div-add-mod a (suc b)) h
  where
    over : (n r : ℕ) → n + r ≡ a → r < suc b → n + suc b ≡ suc a + (b - r)
    over n r e h = omega arith

pub floor-within : (a b : ℤ) → (b ≡ pos zero → ⊥) → Within b (remains a b (floor_z a b))
floor-within a (pos zero) n = absurd (n refl)
floor-within (pos a) (pos (suc b)) n =
    rw (remainder_is (pos a) (pos (suc b))) (within-above (suc b) (a % suc b) (mod-lt a (omega arith)))
floor-within (negsuc a) (pos (suc b)) n =
    rw (neg_ℤ-neg_ℤ, more-neg a (suc b * suc (a / suc b)) (b - a % suc b) (round a b))
    (within-above (suc b) (b - a % suc b) (omega arith))
floor-within (pos zero) (negsuc b) n = rw (*ℤ-zero (negsuc b)) (within-below b 0 (omega arith))
floor-within (pos (suc a)) (negsuc b) n =
    rw (more (suc a) (suc b * suc (a / suc b)) (b - a % suc b) (round a b))
    (within-below b (b - a % suc b) (omega arith))
floor-within (negsuc a) (negsuc b) n =
    rw (remainder_is (negsuc a) (negsuc b)) (within-below b (suc a % suc b) (omega (arith, mod-lt (suc a) {m = suc b} (omega arith))))

-- ---- and no other quotient leaves such a number

whole : (b n k : ℕ) → k < b → (b * n + k) / b ≡ n
whole b n k h = mul-add-div (omega arith) n k ∙ ap (λ (m : ℕ). n + m) (div-eq_of_lt h) ∙ plus_none
  where
    plus_none : n + 0 ≡ n
    plus_none = omega arith

floor-neg : (t b : ℕ) → floor_z (neg_ℤ (pos t)) (negsuc b) ≡ pos (t / suc b)
floor-neg zero b = sym (ap pos (zero-div (suc b)))
floor-neg (suc t) b = refl

-- a dividend that is made up of q rounds and a part of one
above : (b : ℕ) (q : ℤ) (k : ℕ) → k < b → floor_z (pos b *ℤ q +ℤ pos k) (pos b) ≡ q
above b (pos n) k h = ap pos (whole b n k h)
above b (negsuc n) k h = rw (short (b * suc n) (mul-suc b n)) (ap negsuc (whole b n (b - suc k) (omega arith)))
  where
    short : (p : ℕ) → p ≡ b * n + b → neg_ℤ (pos p) +ℤ pos k ≡ negsuc (b * n + (b - suc k))
    short zero e = absurd (omega arith)
    short (suc p) e = subℕ-lt k (suc p) (omega arith) ∙ ap negsuc {x = suc p - suc k} {y = b * n + (b - suc k)} (omega arith)

below : (b : ℕ) (q : ℤ) (k : ℕ) → k ≤ b → floor_z (negsuc b *ℤ q +ℤ neg_ℤ (pos k)) (negsuc b) ≡ q
below b (pos n) k h = rw (sum-neg (suc b * n) k, floor-neg (suc b * n + k) b) (ap pos (whole (suc b) n k (omega arith)))
below b (negsuc n) k h =
    rw (less (suc b * suc n) k (suc (suc b * n + (b - k))) (round-left (suc b * suc n) (mul-suc (suc b) n)))
    (ap negsuc (whole (suc b) n (b - k) (omega arith)))
  where
    round-left : (p : ℕ) → p ≡ suc b * n + suc b → k + suc (suc b * n + (b - k)) ≡ p
    round-left p e = omega arith

pub floor-only : (a b q r : ℤ) → a ≡ b *ℤ q +ℤ r → Within b r → floor_z a b ≡ q
floor-only a b q r e w =
    ap (λ z. floor_z z b) e ∙ by-within (λ b r. floor_z (b *ℤ q +ℤ r) b ≡ q) (λ b k h. above b q k h) (λ b k h. below b q k h) b r w

-- it is no larger than the dividend
pub abs-floor : (a b : ℤ) → nat_abs (floor_z a b) ≤ nat_abs a
abs-floor (pos a) (pos b) = div-le_self a b
abs-floor (pos zero) (negsuc b) = omega arith
abs-floor (pos (suc a)) (negsuc b) = omega (arith, div-le_self a (suc b))
abs-floor (negsuc a) (pos b) = omega (arith, div-le_self a b)
abs-floor (negsuc a) (negsuc b) = div-le_self (suc a) (suc b)

-- ---- where the two agree

-- both are negative, or neither is
abbrev pub SignsAgree : ℤ → ℤ → Type 0
SignsAgree a b = non_neg a ≡ non_neg b

abbrev pub Divides : ℤ → ℤ → Type 0
Divides b a = (k : ℤ) × (a ≡ b *ℤ k)

pub within-zero : (b : ℤ) → (b ≡ pos zero → ⊥) → Within b (pos zero)
within-zero (pos zero) n = absurd (n refl)
within-zero (pos (suc b)) n = within-above (suc b) 0 (omega arith)
within-zero (negsuc b) n = within-below b 0 (omega arith)

-- of a multiple nothing is left
multiple-left : (a b : ℤ) → Divides b a → rem_z a b ≡ pos zero
multiple-left a b (k, e) = none a (ap (λ z. nat_abs z % nat_abs b) e ∙ rw (abs-product b k) (mul-mod_right (nat_abs b) (nat_abs k)))
  where
    none : (a : ℤ) → nat_abs a % nat_abs b ≡ 0 → rem_z a b ≡ pos zero
    none (pos a) z = ap pos z
    none (negsuc a) z = ap (λ (n : ℕ). neg_ℤ (pos n)) z

-- and where nothing is left, it is one
left-multiple : (a b : ℤ) → rem_z a b ≡ pos zero → Divides b a
left-multiple a b z = (quot_z a b, makes-up a b (quot_z a b) ∙ ap (λ r. b *ℤ quot_z a b +ℤ r) (remainder_is a b ∙ z) ∙ +ℤ_idr (b *ℤ quot_z a b))

module _ (a b : ℤ) (n : b ≡ pos zero → ⊥) where
  agree-floor : SignsAgree a b ⊎ Divides b a → floor_z a b ≡ quot_z a b
  agree-floor (inl s) = same a b s
    where
      same : (a b : ℤ) → SignsAgree a b → floor_z a b ≡ quot_z a b
      same (pos a) (pos b) s = refl
      same (pos a) (negsuc b) s = contradiction cc
      same (negsuc a) (pos b) s = contradiction cc
      same (negsuc a) (negsuc b) s = refl
  agree-floor (inr d) =
      floor-only a b (quot_z a b) (pos zero)
      (makes-up a b (quot_z a b) ∙ ap (λ r. b *ℤ quot_z a b +ℤ r) (remainder_is a b ∙ multiple-left a b d)) (within-zero b n)

  left-agrees : remains a b (floor_z a b) ≡ rem_z a b → SignsAgree a b ⊎ Divides b a
  left-agrees e = by a b (left-multiple a b) (subst (Within b) e (floor-within a b n))
    where
      -- a number with the dividend's sign, from 0 up to a divisor of the other sign
      by : (a b : ℤ) → (rem_z a b ≡ pos zero → Divides b a) → Within b (rem_z a b) → SignsAgree a b ⊎ Divides b a
      by (pos a) (pos b) d w = inl refl
      by (pos a) (negsuc b) d w =
          let low = ((within-sign (negsuc b) (pos (a % suc b)) w).1 (record { lt = tt })).1 in
          inr (d (ap pos (none (leb→le (a % suc b) 0 low.le))))
        where
          none : {m : ℕ} → m ≤ 0 → m ≡ 0
          none h = omega arith
      by (negsuc a) (pos b) d w = inr (d (ap (λ (m : ℕ). neg_ℤ (pos m)) (not-below b (suc a % b) w)))
        where
          not-below : (b m : ℕ) → Within (pos b) (neg_ℤ (pos m)) → m ≡ 0
          not-below b zero w = refl
          not-below b (suc m) (inl (l, h)) = absurd l.le
          not-below b (suc m) (inr (h, l)) = absurd h.lt
      by (negsuc a) (negsuc b) d w = inl refl

  pub floor-quotient : (floor_z a b ≡ quot_z a b) ↔ (SignsAgree a b ⊎ Divides b a)
  floor-quotient = ((λ e. left-agrees (ap (remains a b) e ∙ remainder_is a b)), agree-floor)

  pub left-remainder : (remains a b (floor_z a b) ≡ remains a b (quot_z a b)) ↔ (SignsAgree a b ⊎ Divides b a)
  left-remainder = ((λ e. left-agrees (e ∙ remainder_is a b)), (λ h. ap (remains a b) (agree-floor h)))
