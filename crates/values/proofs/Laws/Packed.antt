-- What the result of an operation says: whether a value is held to 32 bits, and which errors there are. Assumes nothing.
use Prim.Native.Nat.{ℕ, zero, suc}
use mathlib.Core.Path.{◌≡◌, refl, sym}
use mathlib.Core.Bool.{Bool, true, false}
use lib.Dec.{T}
use lib.IntN.{ℤ, pos, negsuc, ◌+ℤ◌, ◌-ℤ◌, ◌*ℤ◌}
use lib.Signed.{quot_z}
use Rattle.specification.specs.Bytes.{pick}
use Rattle.specification.specs.Number.{in32}
use Rattle.specification.specs.Ast.{Op, add, sub, mul, quo, rem, div, modulo}
use Rattle.specification.specs.Arithmetic.{Computed, value, fault, fit, divided, outside32, floor_z, remains, compute}
use Rattle.specification.proofs.Laws.Contradiction.{contradiction}
use Rattle.values.specs.Packed.{kind_of, fault_of}

-- ---- 32 bits

pub fit-out : (z : ℤ) → (T (in32 z) → ⊥) → fit z ≡ fault outside32
unfolding fit
fit-out z f = go (in32 z) f
  where
    go : (b : Bool) → (T b → ⊥) → pick b (value z) (fault outside32) ≡ fault outside32
    go true f = absurd (f tt)
    go false f = refl

-- ---- error kinds

-- `fault_of` gives the error whose kind it is
abbrev pub Told : Computed → Type 0
Told c = (κ : ℕ) → c ≡ fault κ → kind_of (fault_of κ) ≡ κ

fault-kind : {κ μ : ℕ} → fault κ ≡ fault μ → κ ≡ μ
fault-kind e = cc

told_fit : (z : ℤ) → Told (fit z)
unfolding fit
told_fit z = go (in32 z)
  where
    go : (b : Bool) → Told (pick b (value z) (fault outside32))
    go true κ e = contradiction cc
    go false κ e = rw (sym (fault-kind e)) refl

told_divided : (y : ℤ) (c : Computed) → Told c → Told (divided y c)
told_divided (pos zero) c t κ e = rw (sym (fault-kind e)) refl
told_divided (pos (suc n)) c t κ e = t κ e
told_divided (negsuc n) c t κ e = t κ e

-- the error of an operation is one of the two
pub kind-told : (o : Op) (x y : ℤ) → Told (compute o x y)
unfolding compute
kind-told add x y = told_fit (x +ℤ y)
kind-told sub x y = told_fit (x -ℤ y)
kind-told mul x y = told_fit (x *ℤ y)
kind-told quo x y = told_divided y _ (told_fit (quot_z x y))
kind-told rem x y = told_divided y _ (told_fit (remains x y (quot_z x y)))
kind-told div x y = told_divided y _ (told_fit (floor_z x y))
kind-told modulo x y = told_divided y _ (told_fit (remains x y (floor_z x y)))
