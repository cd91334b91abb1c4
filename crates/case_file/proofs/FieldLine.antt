-- How long a field's line is at most. Assumes nothing.
use Prim.Native.Nat.{ℕ, ◌≤◌, ◌<◌}
use native.Mathlib.Omega.{arith}
use mathlib.Core.List.{List}
use lib.ListN.{length}
use Rattle.specification.specs.Printed.{field_text}
use Rattle.listing.proofs.Laws.Bound.{field_bound}

pub line-bound : (key : List ℕ) (n : ℕ) → length key ≤ 8 → n < 18446744073709551616 → length (field_text key n) ≤ 29
line-bound key n k h = omega (arith, field_bound key 19 n (omega arith))
