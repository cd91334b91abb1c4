-- A number in a range, and outside it: below it, or above it. Assumes nothing.
use Prim.Native.Nat.{ℕ, ◌<◌, ◌≤◌}
use native.Mathlib.Omega.{arith}
use mathlib.Core.Path.{◌≡◌, refl}
use mathlib.Core.Bool.{Bool, true, false, ◌&&◌}
use lib.Dec.{leb}
use borrow.Author.Tests.{leb-true, le-leb, lt-leb}
use Rattle.specification.specs.Bytes.{between}
use Rattle.specification.proofs.Laws.Parser.{and-true}

pub inside : (lo hi n : ℕ) → lo ≤ n → n ≤ hi → between lo hi n ≡ true
inside lo hi n a b = rw (le-leb lo n a, le-leb n hi b)

pub off : (lo hi n : ℕ) → (lo ≤ n → hi < n) → between lo hi n ≡ false
off lo hi n h = go (leb lo n) refl
  where
    go : (t : Bool) → leb lo n ≡ t → (t && leb n hi) ≡ false
    go true e = lt-leb n hi (h (leb-true lo n e))
    go false e = refl

pub under : (lo hi n : ℕ) → n < lo → between lo hi n ≡ false
under lo hi n a = off lo hi n (λ b. omega arith)

pub over : (lo hi n : ℕ) → hi < n → between lo hi n ≡ false
over lo hi n b = off lo hi n (λ a. b)

pub within : (lo hi n : ℕ) → between lo hi n ≡ true → (lo ≤ n) × (n ≤ hi)
within lo hi n e = let (a, b) = and-true (leb lo n) (leb n hi) e in (leb-true lo n a, leb-true n hi b)
