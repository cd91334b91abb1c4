-- The machine's 64 bits hold each operation on two values of 32 bits exactly, and what it reads back is the mathematical result.
-- Assumes nothing.
use Prim.Native.Nat.{ℕ, zero, suc, ◌<◌, ◌≤◌}
use native.Mathlib.Omega.{arith}
use native.Mathlib.Nat.{mul-le-mul}
use mathlib.Core.Path.{◌≡◌, refl, ◌∙◌, ap}
use lib.Dec.{T}
use lib.IntN.{ℤ, pos, negsuc, nat_abs, ◌+ℤ◌, ◌*ℤ◌}
use lib.Signed.{quot_z, rem_z}
use mir.Val.{SFits, to_z, of_z}
use mir.ValLaws.{to_z-of_z}
use mir.Syntax.{w64}
use Rattle.specification.specs.Number.{in32}
use Rattle.values.specs.Word.{signed, biased, Narrow}
use Rattle.specification.proofs.Laws.Difference.{subℕ-ge, abs-product, abs-quotient, abs-remainder}
use Rattle.values.proofs.Laws.Word.{narrow_signed, signed-nonzero, biased-word, in32-below}

-- ---- 64 bits are wide enough

-- 4611686018427387904 is 2^62, the greatest magnitude of a product
pub wide : (z : ℤ) → nat_abs z ≤ 4611686018427387904 → SFits w64 z
wide (pos n) h = record { sfits = omega arith }
wide (negsuc n) h = record { sfits = omega arith }

narrow-fits : (z : ℤ) → Narrow z → SFits w64 z
narrow-fits z h = wide z (omega (arith, h))

-- no operands of 32 bits take the operation out of 64
abbrev pub Exact : (ℤ → ℤ → ℤ) → Type 0
Exact f = (x y : ℤ) → Narrow x → Narrow y → SFits w64 (f x y)

pub exact-product : Exact ◌*ℤ◌
exact-product x y p q = wide (x *ℤ y) (omega (arith, abs-product x y, mul-le-mul p q))

pub exact-quotient : Exact quot_z
exact-quotient x y p q = wide (quot_z x y) (omega (arith, abs-quotient x y))

pub exact-remainder : Exact rem_z
exact-remainder x y p q = wide (rem_z x y) (omega (arith, abs-remainder x y))

-- ---- what is read back

-- as the machine reads it back
abbrev pub machine : ℤ → ℤ
machine z = to_z w64 (of_z w64 z)

pub narrow-read : (z : ℤ) → Narrow z → machine z ≡ z
narrow-read z h = to_z-of_z w64 z (narrow-fits z h)

-- an operation on two such numbers
module _ (x y : ℤ) (s : Narrow x) (t : Narrow y) (f : ℤ → ℤ → ℤ) (exact : Exact f) where
  pub operation-fits : SFits w64 (f (machine x) (machine y))
  operation-fits = rw (narrow-read x s, narrow-read y t) (exact x y s t)

  pub operation-read : machine (f (machine x) (machine y)) ≡ f x y
  operation-read = rw (narrow-read x s, narrow-read y t) (to_z-of_z w64 (f x y) (exact x y s t))

-- the machine's divisor is not 0
pub machine-nonzero : (y : ℤ) → Narrow y → (y ≡ pos zero → ⊥) → 0 < of_z w64 y
machine-nonzero (pos zero) t n = absurd (n refl)
machine-nonzero (pos (suc b)) t n = omega arith
machine-nonzero (negsuc b) t n = omega arith

-- two words, and their values as the machine has them
pub record Operands (x y : ℕ) (a b : ℤ) : Type 0 where
  pub left_word : x < 4294967296
  pub right_word : y < 4294967296
  pub left : a ≡ signed x
  pub right : b ≡ signed y

module _ {x y : ℕ} {a b : ℤ} (o : Operands x y a b) where
  pub left-narrow : Narrow (signed x)
  left-narrow = narrow_signed x o.left_word

  pub right-narrow : Narrow (signed y)
  right-narrow = narrow_signed y o.right_word

  module _ (f : ℤ → ℤ → ℤ) (exact : Exact f) where
    pub result_fits : SFits w64 (f (machine a) (machine b))
    result_fits = rw (o.left, o.right) (operation-fits (signed x) (signed y) left-narrow right-narrow f exact)

    pub result-read : machine (f (machine a) (machine b)) ≡ f (signed x) (signed y)
    result-read = rw (o.left, o.right) (operation-read (signed x) (signed y) left-narrow right-narrow f exact)

  pub divisor-nonzero : (y ≡ 2147483648 → ⊥) → 0 < of_z w64 b
  divisor-nonzero n = rw o.right (machine-nonzero (signed y) right-narrow (signed-nonzero y n))

-- ---- a value's word

-- a value above the bias is its word
shifted : (z : ℤ) → T (in32 z) → z +ℤ pos 2147483648 ≡ pos (biased z)
shifted (pos n) t = ap pos (omega arith)
shifted (negsuc n) t = let h = in32-below n t in subℕ-ge 2147483648 (suc n) (omega arith) ∙ ap pos (omega arith)

module _ (z : ℤ) (f : SFits w64 z) (t : T (in32 z)) where
  pub shifted_fits : SFits w64 (to_z w64 (of_z w64 z) +ℤ pos 2147483648)
  shifted_fits = rw (to_z-of_z w64 z f, shifted z t) (wide (pos (biased z)) (omega (arith, biased-word z t)))

  pub shifted-read : to_z w64 (of_z w64 (to_z w64 (of_z w64 z) +ℤ pos 2147483648)) ≡ pos (biased z)
  shifted-read =
      rw (to_z-of_z w64 z f, shifted z t) (to_z-of_z w64 (pos (biased z)) (wide (pos (biased z)) (omega (arith, biased-word z t))))
