-- Laws of a register's bits: what a bit is after one was put, and that masks test, set and clear them. Each goes by halving: bit k + 1 of a
-- register is bit k of its half. Assumes nothing.
use Rattle.std.proofs.Common.{◌≡◌, ℕ, zero, suc, ◌+◌, ◌-◌, ◌*◌, ◌/◌, ◌%◌, ◌^◌, ◌<◌, ◌≤◌, true, false, not, eqb, sym, ap, ◌∙◌, mul-le-mul_right, mod-lt, mod-eq_of_lt, mul_assoc, pow-suc, zero-mul, div-mul-le_self, arith, pow_pos, pow-add, eq-eqb, ne_eqb}
use native.Mathlib.Nat.{div-div-eq-div-mul, pow-succ'}
use borrow.Author.Tests.{not-true, not-false}
use lib.Dec.{eqb-zero-suc, eqb-suc-zero, eqb-suc-suc}
use lib.Bits.{bit_and, bit_or, and_step, and_high, and_mask, or_add_and}
use lib.Pow.{pow-lt}
use Rattle.specification.specs.Bytes.{pick}
use Rattle.plotter.specs.Port.{bit, is_set, put}

-- ---- halves

-- the weight of a bit, d for bit k
abbrev weight : ℕ → ℕ → ℕ
weight k d = d * 2 ^ k

weight-suc : (k d : ℕ) → weight (suc k) d ≡ weight k d * 2
weight-suc k d = ap (λ (x : ℕ). d * x) (pow-suc 2 k) ∙ sym (mul_assoc d (2 ^ k) 2)

bit-zero : (r : ℕ) → bit 0 r ≡ r % 2
unfolding bit
bit-zero r = omega arith

bit-suc : (k r : ℕ) → bit (suc k) r ≡ bit k (r / 2)
unfolding bit
bit-suc k r = ap (λ (x : ℕ). r / x % 2) (pow-succ' 2 k) ∙ ap (λ (x : ℕ). x % 2) (sym (div-div-eq-div-mul r 2 (2 ^ k)))

pub bit_below : (k r : ℕ) → bit k r < 2
unfolding bit
bit_below k r = mod-lt (r / 2 ^ k) (omega arith)

bit-weighs : (k r : ℕ) → weight k (bit k r) ≤ r
unfolding bit
bit-weighs k r =
    let part : weight k (r / 2 ^ k % 2) ≤ weight k (r / 2 ^ k) = mul-le-mul_right (2 ^ k) (omega arith) in
    omega (arith, part, div-mul-le_self (r / 2 ^ k) (2 ^ k), div-mul-le_self r (2 ^ k))

put-zero : (d r : ℕ) → put 0 d r ≡ r / 2 * 2 + d
unfolding put
put-zero d r = omega (arith, bit-zero r)

put-suc : (k d r : ℕ) → put (suc k) d r ≡ put k d (r / 2) * 2 + r % 2
unfolding put
put-suc k d r =
    rw (weight-suc k (bit (suc k) r), weight-suc k d, bit-suc k r)
    (omega (arith, bit-weighs k (r / 2)))

-- ---- a bit is put

-- the bit is what was put, and every other bit stays
pub bit-put : (j k d r : ℕ) → d < 2 → bit j (put k d r) ≡ pick (eqb j k) d (bit j r)
bit-put zero zero d r h = rw (put-zero d r, bit-zero (r / 2 * 2 + d)) (omega arith)
bit-put (suc j) zero d r h =
    let half : (r / 2 * 2 + d) / 2 ≡ r / 2 = omega arith in
    rw (put-zero d r, bit-suc j (r / 2 * 2 + d), eqb-suc-zero, half, bit-suc j r)
bit-put zero (suc k) d r h =
    rw (put-suc k d r, bit-zero (put k d (r / 2) * 2 + r % 2), eqb-zero-suc, bit-zero r) (omega arith)
bit-put (suc j) (suc k) d r h =
    let half : (put k d (r / 2) * 2 + r % 2) / 2 ≡ put k d (r / 2) = omega arith in
    rw (put-suc k d r, bit-suc j (put k d (r / 2) * 2 + r % 2), eqb-suc-suc, half, bit-suc j r) (bit-put j k d (r / 2) h)

-- a register of n bits stays one
pub put-below : (n k d r : ℕ) → k < n → d < 2 → r < 2 ^ n → put k d r < 2 ^ n
put-below zero k d r h hd hr = absurd (omega arith)
put-below (suc n) zero d r h hd hr = rw (put-zero d r) (omega (arith, pow-suc 2 n))
put-below (suc n) (suc k) d r h hd hr =
    rw (put-suc k d r) (omega (arith, pow-suc 2 n, put-below n k d (r / 2) (omega arith) hd (omega (arith, pow-suc 2 n))))

-- ---- masks

-- a mask of one bit tests it
pub mask-tests : (k r : ℕ) → bit_and r (2 ^ k) ≡ bit k r * 2 ^ k
unfolding bit
mask-tests k r =
    let one : 2 ^ (1 + k) - 2 ^ k ≡ 2 ^ k = omega (arith, pow-add 2 1 k) in
    rw one at (and_high r 1 k)

pub mask-zero : (k r : ℕ) → eqb (bit_and r (2 ^ k)) 0 ≡ not (is_set k r)
unfolding is_set
mask-zero k r = rw (mask-tests k r) (by (bit k r) (bit_below k r))
  where
    by : (v : ℕ) → v < 2 → eqb (v * 2 ^ k) 0 ≡ not (eqb v 1)
    by zero h = rw zero-mul
    by (suc zero) h = ne_eqb (1 * 2 ^ k) 0 (λ e. omega (arith, pow_pos k))
    by (suc (suc v)) h = absurd (omega arith)

pub clear-if : (k r : ℕ) → bit_and r (2 ^ k) ≡ 0 → is_set k r ≡ false
clear-if k r e = not-true (is_set k r) (sym (mask-zero k r) ∙ eq-eqb (bit_and r (2 ^ k)) 0 e)

pub set_if : (k r : ℕ) → (bit_and r (2 ^ k) ≡ 0 → ⊥) → is_set k r ≡ true
set_if k r n = not-false (is_set k r) (sym (mask-zero k r) ∙ ne_eqb (bit_and r (2 ^ k)) 0 n)

-- and sets it
pub mask-sets : (k r : ℕ) → bit_or r (2 ^ k) ≡ put k 1 r
unfolding put
mask-sets k r = omega (arith, or_add_and r (2 ^ k), mask-tests k r, bit-weighs k r)

-- a mask of all but one bit of n clears it
pub mask-clears : (n k r : ℕ) → k < n → r < 2 ^ n → bit_and r (2 ^ n - 1 - 2 ^ k) ≡ put k 0 r
mask-clears zero k r h hr = absurd (omega arith)
mask-clears (suc n) zero r h hr =
    let mask = 2 ^ suc n - 1 - 2 ^ 0 in
    let half : mask / 2 ≡ 2 ^ n - 1 = omega (arith, pow-suc 2 n, pow_pos n) in
    let odd : mask % 2 ≡ 0 = omega (arith, pow-suc 2 n, pow_pos n) in
    let all : r / 2 % 2 ^ n ≡ r / 2 = mod-eq_of_lt (omega (arith, pow-suc 2 n)) in
    rw (and_step r mask, half, odd, and_mask (r / 2) n, all, put-zero 0 r) (omega arith)
mask-clears (suc n) (suc k) r h hr =
    let mask = 2 ^ suc n - 1 - 2 ^ suc k in
    let below : 2 ^ k < 2 ^ n = pow-lt (omega arith) in
    let half : mask / 2 ≡ 2 ^ n - 1 - 2 ^ k = omega (arith, pow-suc 2 n, pow-suc 2 k) in
    let odd : mask % 2 ≡ 1 = omega (arith, pow-suc 2 n, pow-suc 2 k) in
    rw (and_step r mask, half, odd, mask-clears n k (r / 2) (omega arith) (omega (arith, pow-suc 2 n)), put-suc k 0 r) (omega arith)
