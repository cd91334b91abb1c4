-- Reading stays inside the sheet, and a refusal has a number from 3 to 12 and the place of a byte of the sheet or its end: for the readers
-- that others are put together from. Assumes nothing.
use Prim.Native.Nat.{ℕ, ◌+◌, ◌≤◌}
use native.Mathlib.Omega.{arith}
use mathlib.Core.Path.{◌≡◌, refl}
use mathlib.Core.Bool.{Bool, true, false}
use mathlib.Core.List.{[], ◌∷◌}
use lib.ListN.{length, length-drop}
use lib.Dec.{eqb}
use Rattle.specification.specs.Bytes.{Bytes, Class, pick, run, begins}
use Rattle.specification.specs.Parser.{Reader, Read, Parser, past, next, mark, exactly, taken, ended, finish}
use Rattle.specification.proofs.Laws.Contradiction.{contradiction}
use Rattle.specification.proofs.Laws.Parser.{refuses_with, and-true, Reading, refusal, holds, pick_post}

-- ---- a sheet of N bytes

-- what was read and what is left make the sheet
abbrev pub Inside : ℕ → Reader → Type 0
Inside N r = r.place + length r.rest ≡ N

-- a number from 3 to 12, and a place up to the end
abbrev pub Refusal : ℕ → ℕ → ℕ → Type 0
Refusal N n p = (refuses_with n ≡ true) × (p ≤ N)

-- refused so, or read and still inside
abbrev pub Safe : ℕ → {A : Type 0} → Read A → Type 0
Safe N x = Reading (Refusal N) (λ a r. Inside N r) x

-- a parser that is safe from inside
abbrev pub SafeParser : ℕ → {A : Type 0} → Parser A → Type 0
SafeParser N p = (r : Reader) → Inside N r → Safe N (p r)

-- ---- the lengths of what is read

next_one : (c : Class) (bs : Bytes) → next c bs ≡ true → 1 ≤ length bs
next_one c [] e = contradiction cc
next_one c (b ∷ bs) e = omega arith

begins-length : (k bs : Bytes) → begins k bs ≡ true → length k ≤ length bs
unfolding begins
begins-length [] bs e = omega arith
begins-length (k ∷ ks) [] e = contradiction cc
begins-length (k ∷ ks) (b ∷ bs) e = omega (arith, begins-length ks bs (and-true (eqb k b) (begins ks bs) e).1)

run_length : (f : ℕ → Bool) (bs : Bytes) → length (run f bs) ≤ length bs
unfolding run
run_length f [] = omega arith
run_length f (b ∷ bs) = go (f b) (run_length f bs)
  where
    go : (t : Bool) → length (run f bs) ≤ length bs → length (pick t (b ∷ run f bs) []) ≤ length (b ∷ bs)
    go true h = omega arith
    go false h = omega arith

-- ---- the readers

module _ (N : ℕ) where
  past-inside : (n : ℕ) (r : Reader) → n ≤ length r.rest → Inside N r → Inside N (past n r)
  past-inside n r h i = simp length-drop (omega arith)

  module _ (r : Reader) (i : Inside N r) where
    -- a refusal here
    pub refused-here : (n : ℕ) → refuses_with n ≡ true → Refusal N n r.place
    refused-here n t = (t, omega arith)

    pub mark-safe : (c : Class) → Safe N (mark c r)
    unfolding mark
    mark-safe c =
        pick_post (next c r.rest) _ _ (λ e. holds (past-inside 1 r (next_one c r.rest e) i))
        (λ e. refusal (refused-here 5 refl))

    pub exactly-safe : (n : ℕ) (k : Bytes) → refuses_with n ≡ true → Safe N (exactly n k r)
    unfolding exactly
    exactly-safe n k t =
        pick_post (begins k r.rest) _ _ (λ e. holds (past-inside (length k) r (begins-length k r.rest e) i))
        (λ e. refusal (refused-here n t))

    pub taken-safe : (f : ℕ → Bool) → Safe N (taken f r)
    unfolding taken
    taken-safe f = holds (past-inside (length (run f r.rest)) r (run_length f r.rest) i)

    pub finish-safe : Safe N (finish r)
    finish-safe = pick_post (ended r.rest) _ _ (λ e. holds i) (λ e. refusal (refused-here 5 refl))
