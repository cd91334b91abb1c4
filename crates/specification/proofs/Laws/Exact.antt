-- What it says that a division has a value: the divisor is not 0, and the value is the exact one. Assumes nothing.
use Prim.Native.Nat.{zero, suc}
use mathlib.Core.Path.{◌≡◌, refl, sym, ◌∙◌, ap}
use mathlib.Core.Bool.{Bool, true, false}
use lib.IntN.{ℤ, pos, negsuc}
use lib.Signed.{quot_z}
use Rattle.specification.specs.Bytes.{pick}
use Rattle.specification.specs.Number.{in32}
use Rattle.specification.specs.Ast.{quo, rem, div, modulo}
use Rattle.specification.specs.Arithmetic.{outside32, zero_divisor, value, fault, fit, divided, floor_z, remains, compute}
use Rattle.specification.proofs.Laws.Contradiction.{contradiction}

fitted : (z r : ℤ) → fit z ≡ value r → z ≡ r
unfolding fit
fitted z r e = go (in32 z) e
  where
    go : (b : Bool) → pick b (value z) (fault outside32) ≡ value r → z ≡ r
    go true q = cc
    go false q = contradiction cc

pub divisor : (b z r : ℤ) → divided b (fit z) ≡ value r → b ≡ pos zero → ⊥
divisor b z r e q = let f : fault zero_divisor ≡ value r = sym (ap (λ y. divided y (fit z)) q) ∙ e in contradiction cc

pub exact : (b z r : ℤ) → divided b (fit z) ≡ value r → z ≡ r
exact (pos zero) z r e = absurd (divisor (pos zero) z r e refl)
exact (pos (suc b)) z r e = fitted z r e
exact (negsuc b) z r e = fitted z r e

module _ (a b : ℤ) where
  pub quo-exact : (q : ℤ) → compute quo a b ≡ value q → quot_z a b ≡ q
  unfolding compute
  quo-exact q g = exact b (quot_z a b) q g

  pub rem-exact : (r : ℤ) → compute rem a b ≡ value r → remains a b (quot_z a b) ≡ r
  unfolding compute
  rem-exact r g = exact b (remains a b (quot_z a b)) r g

  pub div-exact : (q : ℤ) → compute div a b ≡ value q → floor_z a b ≡ q
  unfolding compute
  div-exact q g = exact b (floor_z a b) q g

  pub mod-exact : (r : ℤ) → compute modulo a b ≡ value r → remains a b (floor_z a b) ≡ r
  unfolding compute
  mod-exact r g = exact b (remains a b (floor_z a b)) r g
