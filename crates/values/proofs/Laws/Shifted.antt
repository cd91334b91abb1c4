-- Results in 64 bits that stay above the bias: what the machine computes of two words is the exact result above the bias, and that tells the
-- result of the operation. Assumes nothing.
use Prim.Native.Nat.{ℕ, ◌≤◌}
use native.Mathlib.Omega.{arith}
use native.Mathlib.Nat.{mul-le-mul}
use mathlib.Core.Path.{◌≡◌, sym, ◌∙◌, ap}
use mathlib.Core.Bool.{Bool, true, false}
use lib.IntN.{ℤ, pos, negsuc, neg_ℤ, nat_abs, ◌+ℤ◌, ◌-ℤ◌, ◌*ℤ◌}
use lib.IntN.{+ℤ_assoc, +ℤ_comm, +ℤ_idl, +ℤ_invl, +ℤ-neg_ℤ_cancel, -ℤ-+ℤ_cancel, neg_ℤ-+ℤ, neg_ℤ-neg_ℤ}
use lib.Signed.{quot_z, rem_z}
use mir.Val.{SFits}
use mir.ValLaws.{to_z-of_z}
use mir.Syntax.{w64}
use Rattle.specification.specs.Bytes.{pick}
use Rattle.specification.specs.Number.{in32}
use Rattle.specification.specs.Arithmetic.{Computed, value, fault, fit, divided, outside32, zero_divisor, floor_z, remains}
use Rattle.specification.proofs.Laws.Contradiction.{contradiction}
use Rattle.specification.proofs.Laws.Difference.{abs_neg, abs-sum, abs-product, abs-quotient, abs-remainder}
use Rattle.specification.proofs.Laws.Division.{fit-in, divided-nonzero}
use Rattle.specification.proofs.Laws.Rounding.{within-less, floor-within, abs-floor}
use Rattle.values.specs.Word.{Narrow}
use Rattle.values.specs.Shifted.{IsWord, value_of, widest, Shifted}
use Rattle.values.proofs.Laws.Word.{signed-in32, narrow_signed}
use Rattle.values.proofs.Laws.Exact.{machine, Operands}

-- ---- what a number above the bias tells

fitted : (z v : ℤ) → fit z ≡ value v → z ≡ v
unfolding fit
fitted z v e = go (in32 z) e
  where
    go : (b : Bool) → pick b (value z) (fault outside32) ≡ value v → z ≡ v
    go true q = cc
    go false q = contradiction cc

lowered : (a : ℤ) → IsWord a → a -ℤ pos 2147483648 ≡ value_of a
lowered a w = ap (λ (z : ℤ). z -ℤ pos 2147483648) w.number

pub shifted-fit : (z r : ℤ) → nat_abs z ≤ 4611686018427387904 → r ≡ z +ℤ pos 2147483648 → Shifted (fit z) r
shifted-fit z r h e =
    record {
      exact = λ v q. e ∙ ap (λ (y : ℤ). y +ℤ pos 2147483648) (fitted z v q);
      word = λ w.
          let same : z ≡ value_of r =
          sym (+ℤ-neg_ℤ_cancel z (pos 2147483648)) ∙ ap (λ (y : ℤ). y -ℤ pos 2147483648) (sym e) ∙ lowered r w in
          ap fit same ∙ fit-in (value_of r) (signed-in32 (nat_abs r) w.small);
      size = rw e (omega (arith, abs-sum z (pos 2147483648)));
    }

-- no word tells a fault
shifted-fault : (κ : ℕ) → Shifted (fault κ) (negsuc 0)
shifted-fault κ =
    record {
      exact = λ z q. contradiction cc;
      word = λ w. let n = w.number in contradiction cc;
      size = omega arith;
    }

-- ---- sums

sum-lowered : (x y k : ℤ) → (x -ℤ k) +ℤ (y -ℤ k) +ℤ k ≡ x +ℤ y -ℤ k
sum-lowered x y k =
    +ℤ_assoc (x -ℤ k) (y -ℤ k) k ∙ ap (λ (z : ℤ). x -ℤ k +ℤ z) (-ℤ-+ℤ_cancel y k) ∙ +ℤ_assoc x (neg_ℤ k) y
    ∙ ap (λ (z : ℤ). x +ℤ z) (+ℤ_comm (neg_ℤ k) y) ∙ sym (+ℤ_assoc x y (neg_ℤ k))

difference-lowered : (x y k : ℤ) → (x -ℤ k) -ℤ (y -ℤ k) ≡ x -ℤ y
difference-lowered x y k =
    let back : neg_ℤ (y -ℤ k) ≡ k +ℤ neg_ℤ y =
    neg_ℤ-+ℤ y (neg_ℤ k) ∙ ap (λ (z : ℤ). neg_ℤ y +ℤ z) (neg_ℤ-neg_ℤ k) ∙ +ℤ_comm (neg_ℤ y) k in
    let cancel : neg_ℤ k +ℤ (k +ℤ neg_ℤ y) ≡ neg_ℤ y =
    sym (+ℤ_assoc (neg_ℤ k) k (neg_ℤ y)) ∙ ap (λ (z : ℤ). z +ℤ neg_ℤ y) (+ℤ_invl k) ∙ +ℤ_idl (neg_ℤ y) in
    ap (λ (z : ℤ). x -ℤ k +ℤ z) back ∙ +ℤ_assoc x (neg_ℤ k) (k +ℤ neg_ℤ y) ∙ ap (λ (z : ℤ). x +ℤ z) cancel

-- ---- the machine

wider : (z : ℤ) → nat_abs z ≤ widest → SFits w64 z
wider (pos n) h = record { sfits = omega arith }
wider (negsuc n) h = record { sfits = omega arith }

raised-wide : (z : ℤ) → nat_abs z ≤ 4611686018427387904 → SFits w64 (z +ℤ pos 2147483648)
raised-wide z h = wider (z +ℤ pos 2147483648) (omega (arith, abs-sum z (pos 2147483648)))

-- a number that the machine has, above the bias
module _ (k z : ℤ) (same : k ≡ z) (h : nat_abs z ≤ 4611686018427387904) where
  pub raised-fits : SFits w64 (k +ℤ pos 2147483648)
  raised-fits = rw same (raised-wide z h)

  pub raised-told : Shifted (fit z) (machine (k +ℤ pos 2147483648))
  raised-told = rw same (shifted-fit z (machine (z +ℤ pos 2147483648)) h (to_z-of_z w64 (z +ℤ pos 2147483648) (raised-wide z h)))

module _ (a : ℤ) (w : IsWord a) where
  word_read : machine a ≡ a
  word_read = to_z-of_z w64 a (wider a (omega (arith, w.small)))

  value-is : machine a -ℤ pos 2147483648 ≡ value_of a
  value-is = rw word_read (lowered a w)

  value-narrow : Narrow (value_of a)
  value-narrow = narrow_signed (nat_abs a) w.small

-- an operation whose exact result is no greater than a product can be
abbrev pub Bounded : (ℤ → ℤ → ℤ) → Type 0
Bounded f = (x y : ℤ) → Narrow x → Narrow y → nat_abs (f x y) ≤ 4611686018427387904

pub sum-bounded : Bounded ◌+ℤ◌
sum-bounded x y p q = omega (arith, abs-sum x y)

pub difference-bounded : Bounded ◌-ℤ◌
difference-bounded x y p q = omega (arith, abs-sum x (neg_ℤ y), abs_neg y)

pub product-bounded : Bounded ◌*ℤ◌
product-bounded x y p q = omega (arith, abs-product x y, mul-le-mul p q)

pub quotient-bounded : Bounded quot_z
quotient-bounded x y p q = omega (arith, abs-quotient x y)

pub remainder-bounded : Bounded rem_z
remainder-bounded x y p q = omega (arith, abs-remainder x y)

-- two words
module _ (a b : ℤ) (v : IsWord a) (w : IsWord b) where
  pub lowered-operands : Operands (nat_abs a) (nat_abs b) (machine a -ℤ pos 2147483648) (machine b -ℤ pos 2147483648)
  lowered-operands = record { left_word = v.small; right_word = w.small; left = value-is a v; right = value-is b w }

  pub bounded-values : (f : ℤ → ℤ → ℤ) → Bounded f → nat_abs (f (value_of a) (value_of b)) ≤ 4611686018427387904
  bounded-values f bound = bound (value_of a) (value_of b) (value-narrow a v) (value-narrow b w)

  -- their sum, less the bias
  pub sum_fits : SFits w64 (machine a +ℤ machine b)
  sum_fits = rw (word_read a v, word_read b w) (wider (a +ℤ b) (omega (arith, abs-sum a b, v.small, w.small)))

  sum-held : machine (machine a +ℤ machine b) -ℤ pos 2147483648 ≡ value_of a +ℤ value_of b +ℤ pos 2147483648
  sum-held =
      ap (λ (z : ℤ). z -ℤ pos 2147483648) (to_z-of_z w64 (machine a +ℤ machine b) sum_fits)
      ∙ rw (word_read a v, word_read b w, sym (lowered a v), sym (lowered b w)) (sym (sum-lowered a b (pos 2147483648)))

  pub sum_told : Shifted (fit (value_of a +ℤ value_of b)) (machine (machine (machine a +ℤ machine b) -ℤ pos 2147483648))
  sum_told =
      let z = value_of a +ℤ value_of b in
      let h = bounded-values ◌+ℤ◌ sum-bounded in
      rw sum-held (shifted-fit z (machine (z +ℤ pos 2147483648)) h (to_z-of_z w64 (z +ℤ pos 2147483648) (raised-wide z h)))

  -- their difference
  pub difference-fits : SFits w64 (machine a -ℤ machine b)
  difference-fits =
      rw (word_read a v, word_read b w) (wider (a -ℤ b) (omega (arith, abs-sum a (neg_ℤ b), abs_neg b, v.small, w.small)))

  pub difference-held : machine (machine a -ℤ machine b) ≡ value_of a -ℤ value_of b
  difference-held =
      to_z-of_z w64 (machine a -ℤ machine b) difference-fits
      ∙ rw (word_read a v, word_read b w, sym (lowered a v), sym (lowered b w)) (sym (difference-lowered a b (pos 2147483648)))

  -- division by 0, and by another value y
  pub shifted-zero : (c : Computed) → value_of (machine b) ≡ pos 0 → Shifted (divided (value_of b) c) (negsuc 0)
  shifted-zero c e = rw (rw (word_read b w) at e) (shifted-fault zero_divisor)

  module _ (y : ℤ) (d : (y ≡ value_of (machine b)) × (value_of (machine b) ≡ pos 0 → ⊥)) where
    pub nonzero : value_of b ≡ pos 0 → ⊥
    nonzero = rw (word_read b w) at d.1

    pub divided-operands : Operands (nat_abs a) (nat_abs b) (machine a -ℤ pos 2147483648) y
    divided-operands = record { left_word = v.small; right_word = w.small; left = value-is a v; right = rw (word_read b w) at d.0 }

    pub shifted-divided : (c : Computed) (r : ℤ) → Shifted c r → Shifted (divided (value_of b) c) r
    shifted-divided c r s = rw (divided-nonzero (value_of b) c nonzero) s

    pub floor-bounded : nat_abs (floor_z (value_of a) (value_of b)) ≤ 4611686018427387904
    floor-bounded = omega (arith, abs-floor (value_of a) (value_of b), value-narrow a v)

    pub modulus-bounded : nat_abs (remains (value_of a) (value_of b) (floor_z (value_of a) (value_of b))) ≤ 4611686018427387904
    modulus-bounded =
        let r = remains (value_of a) (value_of b) (floor_z (value_of a) (value_of b)) in
        omega (arith, within-less (value_of b) r (floor-within (value_of a) (value_of b) nonzero), value-narrow b w)
