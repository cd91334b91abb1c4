-- The length of a slice's first part, as a need for `&s[..n]` asks it.
use Prim.Native.Nat.{ℕ, ◌≤◌}
use mathlib.Core.Path.{◌≡◌, sym}
use mathlib.Core.List.{List}
use lib.ListN.{length, take}
use lib.Seq.{length-take-le}

pub part_length : (n : ℕ) (s : List ℕ) → n ≤ length s → n ≡ length (take n s)
part_length n s h = sym (length-take-le n s h)
