-- The line of full ranges: a bound of its length, its pieces, and the first range that is another. Assumes nothing.
use Prim.Native.Nat.{ℕ, zero, suc, ◌+◌, ◌*◌, ◌≤◌}
use native.Mathlib.Omega.{arith}
use mathlib.Core.Path.{◌≡◌, refl, sym, ap}
use mathlib.Core.Bool.{true, false}
use mathlib.Core.List.{[], ◌++◌, append_assoc}
use mathlib.Core.Option.{none, some as just}
use lib.ListN.{length, drop, length-append, length-drop}
use lib.Seq.{drop-drop}
use Rattle.specification.specs.Bytes.{Bytes, bytes, begins}
use Rattle.text.proofs.Laws.Keys.{begins-long}
use Rattle.mover.specs.Model.{full_range, mark_after, full_ranges, full_line, narrow_place}

-- ---- one range

-- with its mark
abbrev pub marked : ℕ → Bytes
marked n = full_range ++ mark_after n

pub marked-last : (n : ℕ) → n ≡ 0 → marked n ≡ bytes "-2147483648:2147483647\n"
marked-last zero e = refl
marked-last (suc n) e = absurd (omega arith)

pub marked_more : (n : ℕ) → (n ≡ 0 → ⊥) → marked n ≡ bytes "-2147483648:2147483647,"
marked_more zero h = absurd (h refl)
marked_more (suc n) h = refl

length_marked : (n : ℕ) → length (marked n) ≡ 23
length_marked zero = refl
length_marked (suc n) = refl

-- ---- the line

pub full-none : (n : ℕ) → n ≡ 0 → full_ranges n ≡ []
unfolding full_ranges
full-none zero e = refl
full-none (suc n) e = absurd (omega arith)

-- the first, and the m after it
pub full-more : (n m : ℕ) → n ≡ suc m → full_ranges n ≡ marked m ++ full_ranges m
unfolding full_ranges
full-more n m e = rw e (sym (append_assoc full_range (mark_after m) (full_ranges m)))

length-full : (n : ℕ) → length (full_ranges n) ≡ 23 * n
unfolding full_ranges
length-full zero = refl
length-full (suc n) =
    let h = ap length (full-more (suc n) n refl) in
    omega (arith, h, length-append (marked n) (full_ranges n), length_marked n, length-full n)

pub line-none : (n : ℕ) → n ≡ 0 → full_line n ≡ bytes "ranges=" ++ bytes "\n"
unfolding full_line
line-none zero e = refl
line-none (suc n) e = absurd (omega arith)

pub line-some : (n : ℕ) → (n ≡ 0 → ⊥) → full_line n ≡ bytes "ranges=" ++ full_ranges n
unfolding full_line
line-some zero h = absurd (h refl)
line-some (suc n) h = refl

pub line-key : (n : ℕ) → length (bytes "ranges=") ≤ length (full_line n)
line-key zero = omega (arith, ap length (line-none 0 refl))
line-key (suc n) = omega (arith, ap length (line-some (suc n) (λ (e : suc n ≡ 0). omega arith)))

pub length-line-≤ : (n : ℕ) → length (full_line n) ≤ 8 + 23 * n
length-line-≤ zero = omega (arith, ap length (line-none 0 refl))
length-line-≤ (suc n) = omega (arith, ap length (line-some (suc n) (λ (e : suc n ≡ 0). omega arith)), length-full (suc n))

-- ---- the first that is not full

module _ (s : Bytes) (p n : ℕ) where
  pub narrow-none : n ≡ 0 → narrow_place p n (drop p s) ≡ none
  unfolding narrow_place
  narrow-none e = rw e

  module _ (m : ℕ) (h : n ≡ suc m) where
    pub narrow-here : begins (marked m) (drop p s) ≡ false → narrow_place p n (drop p s) ≡ just p
    unfolding narrow_place
    narrow-here e = rw (h, e)

    pub narrow-later : begins (marked m) (drop p s) ≡ true → narrow_place p n (drop p s) ≡ narrow_place (p + 23) m (drop (p + 23) s)
    unfolding narrow_place
    narrow-later e = rw (h, e, length_marked m, drop-drop)

-- a full range ends within the sheet
pub narrow-fits : (s : Bytes) (p m : ℕ) → begins (marked m) (drop p s) ≡ true → p + 23 ≤ length s
narrow-fits s p m e = omega (arith, begins-long (marked m) (drop p s) e, length_marked m, length-drop p s)
