-- Rounding down from division toward zero: where the rest and the divisor are on different sides of 0 the quotient is one less and the rest one
-- divisor more; elsewhere the two divisions are the same. Assumes nothing.
use Prim.Native.Nat.{ℕ, zero, suc, ◌-◌, ◌<◌}
use native.Mathlib.Omega.{arith}
use mathlib.Core.Path.{◌≡◌, sym, ◌∙◌, ap, ap₂}
use mathlib.Core.Bool.{Bool, true, false}
use lib.IntN.{ℤ, pos, negsuc, nat_abs, ◌+ℤ◌, ◌-ℤ◌, ◌*ℤ◌, pred_ℤ, +ℤ_comm, +ℤ_assoc, -ℤ_one, -ℤ-+ℤ_cancel, *ℤ_comm, pred_ℤ-*ℤ}
use lib.Signed.{quot_z, rem_z}
use borrow.Author.Tests.{ltb-true, ltb-false}
use mir.Val.{SFits}
use mir.ValLaws.{to_z-of_z}
use mir.Syntax.{w64}
use Rattle.specification.specs.Arithmetic.{floor_z, remains}
use Rattle.specification.proofs.Laws.Contradiction.{contradiction}
use Rattle.specification.proofs.Laws.Difference.{abs-sum, abs-quotient, abs-remainder}
use Rattle.specification.proofs.Laws.Rounding.{more, more-neg, makes-up, remains-is, remainder_is, remainder-less, Within, within-above, within-below, within-less, within-zero, floor-within, floor-only, abs-floor}
use Rattle.values.specs.declared.Divided.{Divided}
use Rattle.values.specs.Word.{signed, Narrow}
use Rattle.values.specs.Rounded.{opposite, rounded_down}
use Rattle.values.proofs.Laws.Exact.{wide, machine, narrow-read, operation-read, exact-quotient, exact-remainder, Operands, left-narrow, right-narrow}

-- ---- a rest smaller than its divisor

within_same : (r y : ℤ) → (y ≡ pos zero → ⊥) → nat_abs r < nat_abs y → opposite r y ≡ false → Within y r
within_same (pos zero) y n h e = within-zero y n
within_same (pos (suc k)) (pos b) n h e = within-above b (suc k) h
within_same (pos (suc k)) (negsuc b) n h e = contradiction cc
within_same (negsuc k) (pos b) n h e = absurd (omega (arith, ltb-false 0 b e))
within_same (negsuc k) (negsuc b) n h e = within-below b (suc k) (omega arith)

within-opposite : (r y : ℤ) → nat_abs r < nat_abs y → opposite r y ≡ true → Within y (r +ℤ y)
within-opposite (pos zero) y h e = contradiction cc
within-opposite (pos (suc k)) (pos b) h e = absurd (omega (arith, ltb-true b 0 e))
within-opposite (pos (suc k)) (negsuc b) h e = rw (more (suc k) (suc b) (b - k) (omega arith)) (within-below b (b - k) (omega arith))
within-opposite (negsuc k) (pos b) h e = rw (more-neg k b (b - suc k) (omega arith)) (within-above b (b - suc k) (omega arith))
within-opposite (negsuc k) (negsuc b) h e = contradiction cc

-- ---- one less

one_less : (y q r : ℤ) → y *ℤ (q -ℤ pos 1) +ℤ (r +ℤ y) ≡ y *ℤ q +ℤ r
one_less y q r =
    let less : y *ℤ (q -ℤ pos 1) ≡ y *ℤ q -ℤ y =
    ap (λ z. y *ℤ z) (-ℤ_one q) ∙ *ℤ_comm y (pred_ℤ q) ∙ pred_ℤ-*ℤ q y ∙ ap (λ z. z -ℤ y) (*ℤ_comm q y) in
    ap (λ z. z +ℤ (r +ℤ y)) less ∙ ap (λ z. y *ℤ q -ℤ y +ℤ z) (+ℤ_comm r y) ∙ sym (+ℤ_assoc (y *ℤ q -ℤ y) y r) ∙
    ap (λ z. z +ℤ r) (-ℤ-+ℤ_cancel (y *ℤ q) y)

module _ (x y : ℤ) (n : y ≡ pos zero → ⊥) where
  toward_zero : x ≡ y *ℤ quot_z x y +ℤ rem_z x y
  toward_zero = makes-up x y (quot_z x y) ∙ ap (λ z. y *ℤ quot_z x y +ℤ z) (remainder_is x y)

  module _ (e : opposite (rem_z x y) y ≡ true) where
    up : x ≡ y *ℤ (quot_z x y -ℤ pos 1) +ℤ (rem_z x y +ℤ y)
    up = toward_zero ∙ sym (one_less y (quot_z x y) (rem_z x y))

    floor-opposite : floor_z x y ≡ quot_z x y -ℤ pos 1
    floor-opposite = floor-only x y (quot_z x y -ℤ pos 1) (rem_z x y +ℤ y) up (within-opposite (rem_z x y) y (remainder-less x y n) e)

    left-opposite : remains x y (floor_z x y) ≡ rem_z x y +ℤ y
    left-opposite = ap (remains x y) floor-opposite ∙ remains-is x y (quot_z x y -ℤ pos 1) (rem_z x y +ℤ y) up

  module _ (e : opposite (rem_z x y) y ≡ false) where
    floor-same : floor_z x y ≡ quot_z x y
    floor-same = floor-only x y (quot_z x y) (rem_z x y) toward_zero (within_same (rem_z x y) y n (remainder-less x y n) e)

    left-same : remains x y (floor_z x y) ≡ rem_z x y
    left-same = ap (remains x y) floor-same ∙ remainder_is x y

-- ---- on 64 bits

module _ (x y : ℤ) (s : Narrow x) (t : Narrow y) where
  quotient-read : machine (quot_z (machine x) (machine y)) ≡ quot_z x y
  quotient-read = operation-read x y s t quot_z exact-quotient

  rest_read : machine (rem_z (machine x) (machine y)) ≡ rem_z x y
  rest_read = operation-read x y s t rem_z exact-remainder

  -- one less than the quotient
  less-size : SFits w64 (quot_z x y -ℤ pos 1)
  less-size = wide (quot_z x y -ℤ pos 1) (omega (arith, abs-sum (quot_z x y) (negsuc 0), abs-quotient x y, s))

  less-read : machine (machine (quot_z (machine x) (machine y)) -ℤ pos 1) ≡ quot_z x y -ℤ pos 1
  less-read = rw quotient-read (to_z-of_z w64 (quot_z x y -ℤ pos 1) less-size)

  -- the rest and the divisor
  more-size : SFits w64 (rem_z x y +ℤ y)
  more-size = wide (rem_z x y +ℤ y) (omega (arith, abs-sum (rem_z x y) y, abs-remainder x y, s, t))

  more-read : machine (machine (rem_z (machine x) (machine y)) +ℤ machine y) ≡ rem_z x y +ℤ y
  more-read = rw (rest_read, narrow-read y t) (to_z-of_z w64 (rem_z x y +ℤ y) more-size)

  -- what is returned
  module _ (n : y ≡ pos zero → ⊥) (test : Bool) (told : test ≡ opposite (machine (rem_z (machine x) (machine y))) (machine y)) where
    sides : opposite (rem_z x y) y ≡ test
    sides = sym (rw (rest_read, narrow-read y t) at told)

    pub opposite-rounded : test ≡ true →
        record { quotient = machine (machine (quot_z (machine x) (machine y)) -ℤ pos 1); rest = machine (machine (rem_z (machine x) (machine y)) +ℤ machine y) } ≡
        rounded_down x y
    opposite-rounded e =
        let o = sides ∙ e in
        ap₂ (λ q r. record { quotient = q; rest = r }) (less-read ∙ sym (floor-opposite x y n o)) (more-read ∙ sym (left-opposite x y n o))

    pub same-rounded : test ≡ false →
        record { quotient = machine (quot_z (machine x) (machine y)); rest = machine (rem_z (machine x) (machine y)) } ≡ rounded_down x y
    same-rounded e =
        let o = sides ∙ e in
        ap₂ (λ q r. record { quotient = q; rest = r }) (quotient-read ∙ sym (floor-same x y n o)) (rest_read ∙ sym (left-same x y n o))

-- ---- on words

module _ {x y : ℕ} {a b : ℤ} (o : Operands x y a b) (n : signed y ≡ pos zero → ⊥) where
  module _ (d : Divided) (e : d ≡ rounded_down (machine a) (machine b)) where
    rounded-read : d ≡ rounded_down (signed x) (signed y)
    rounded-read =
        rw (o.left, o.right, narrow-read (signed x) (left-narrow o), narrow-read (signed y) (right-narrow o)) at e

    pub floor-read : machine d.quotient ≡ floor_z (signed x) (signed y)
    floor-read =
        let q = floor_z (signed x) (signed y) in
        ap (λ (c : Divided). machine c.quotient) rounded-read ∙ narrow-read q (omega (arith, abs-floor (signed x) (signed y), left-narrow o))

    pub modulus-read : machine d.rest ≡ remains (signed x) (signed y) (floor_z (signed x) (signed y))
    modulus-read =
        let r = remains (signed x) (signed y) (floor_z (signed x) (signed y)) in
        ap (λ (c : Divided). machine c.rest) rounded-read ∙
        narrow-read r (omega (arith, within-less (signed y) r (floor-within (signed x) (signed y) n), right-narrow o))
