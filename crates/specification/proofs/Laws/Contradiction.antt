-- A case that cannot be: from two different constructors that are said to be equal `cc` has 0 ≡ 1, and from that anything follows.
-- Assumes nothing.
use Prim.Native.Nat.{ℕ}
use native.Mathlib.Omega.{arith}
use mathlib.Core.Path.{◌≡◌}

pub contradiction : {A : Type 0} → ◌≡◌ {A = ℕ} 0 1 → A
contradiction e = absurd (omega arith)
