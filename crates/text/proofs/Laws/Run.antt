-- Laws of runs: how a run from a place grows byte by byte, and, where r is the place after it, that r is within the sheet and
-- which part of the sheet the run is. Assumes nothing.
use Prim.Native.Nat.{ℕ, suc, ◌+◌, ◌-◌, ◌≤◌}
use mathlib.Core.Path.{◌≡◌, refl, ap, ◌∙◌}
use mathlib.Core.Bool.{Bool, true, false}
use mathlib.Core.List.{[], ◌∷◌}
use native.Mathlib.Omega.{arith}
use lib.ListN.{length, take, drop, length-drop}
use Rattle.std.specs.Prelude.{cond}
use Rattle.std.specs.List.{prefix_len, take_while}
use Rattle.specification.specs.Bytes.{Bytes, pick, run}

module _ (f : ℕ → Bool) where
  -- the bytes that the library's `take_while` takes
  pub taken : (s : Bytes) → take_while f s ≡ run f s
  unfolding run
  taken [] = refl
  taken (b ∷ bs) = go (f b) (taken bs)
    where
      go : (t : Bool) → take_while f bs ≡ run f bs → take (cond t (1 + prefix_len f bs) 0) (b ∷ bs) ≡ pick t (b ∷ run f bs) []
      go true h =
          let e : 1 + prefix_len f bs ≡ suc (prefix_len f bs) = omega arith in
          rw e (ap (λ (l : Bytes). b ∷ l) h)
      go false h = refl

  -- ---- the whole run

  pub run-le : (s : Bytes) → length (run f s) ≤ length s
  unfolding run
  run-le [] = omega arith
  run-le (b ∷ bs) = go (f b) (run-le bs)
    where
      go : (t : Bool) → length (run f bs) ≤ length bs → length (pick t (b ∷ run f bs) []) ≤ suc (length bs)
      go true h = omega arith
      go false h = omega arith

  pub run-first : (s : Bytes) → take (length (run f s)) s ≡ run f s
  unfolding run
  run-first [] = refl
  run-first (b ∷ bs) = go (f b) (run-first bs)
    where
      go : (t : Bool) → take (length (run f bs)) bs ≡ run f bs
          → take (length (pick t (b ∷ run f bs) [])) (b ∷ bs) ≡ pick t (b ∷ run f bs) []
      go true h = ap (λ (l : Bytes). b ∷ l) h
      go false h = refl

  module _ (s : Bytes) (at r : ℕ) (is : r ≡ at + length (run f (drop at s))) where
    pub end_ge : at ≤ r
    end_ge = omega arith

    pub end-le : at ≤ length s → r ≤ length s
    end-le h = omega (arith, run-le (drop at s), length-drop at s)

    -- the run is the part of the sheet from the place to its end
    pub end-part : take (r - at) (drop at s) ≡ run f (drop at s)
    end-part =
        let e : r - at ≡ length (run f (drop at s)) = omega arith in
        ap (λ (n : ℕ). take n (drop at s)) e ∙ run-first (drop at s)
