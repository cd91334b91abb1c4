-- Laws of sets of small numbers: the bits of the empty set, and of a set that has one number more. Assumes nothing.
use Prim.Native.Nat.{ℕ, zero, suc, ◌/◌, ◌%◌, ◌^◌, ◌<◌}
use native.Mathlib.Omega.{arith}
use native.Mathlib.Nat.{mod-lt, div-div-eq-div-mul, pow-succ', one-mul}
use mathlib.Core.Path.{◌≡◌, refl, sym, ap, ◌∙◌}
use mathlib.Core.Bool.{Bool, true, false, ◌||◌}
use lib.Dec.{eqb, eqb-zero-suc, eqb-suc-zero, eqb-suc-suc}
use lib.Bits.{bit_or, or_shr, or_mod, shifted_half, shifted_even}
use Rattle.tables.specs.Locals.{in_set}

half : (m l : ℕ) → m / 2 ^ suc l ≡ m / 2 / 2 ^ l
half m l = ap (λ (x : ℕ). m / x) (pow-succ' 2 l) ∙ sym (div-div-eq-div-mul m 2 (2 ^ l))

double : (k : ℕ) → 2 ^ suc k / 2 ≡ 2 ^ k
double k = ap (λ (x : ℕ). x / 2) (sym (one-mul (2 ^ suc k))) ∙ shifted_half 1 k ∙ one-mul (2 ^ k)

zero-div : (l : ℕ) → 0 / 2 ^ l ≡ 0
zero-div zero = refl
zero-div (suc l) = half 0 l ∙ zero-div l

abbrev to_bit : Bool → ℕ
to_bit true = 1
to_bit false = 0

-- a single local has one bit
single : (k l : ℕ) → 2 ^ k / 2 ^ l % 2 ≡ to_bit (eqb l k)
single zero zero = refl
single zero (suc l) = rw (eqb-suc-zero, half 1 l) (ap (λ (x : ℕ). x % 2) (zero-div l))
single (suc k) zero =
    let h : 2 ^ suc k / 2 ^ 0 ≡ 2 ^ suc k = omega arith in
    rw (eqb-zero-suc, h) (ap (λ (x : ℕ). x % 2) (sym (one-mul (2 ^ suc k))) ∙ shifted_even 1 k)
single (suc k) (suc l) = rw (eqb-suc-suc, half (2 ^ suc k) l, double k) (single k l)

joined : (x : ℕ) (t : Bool) → x < 2 → eqb (bit_or x (to_bit t)) 1 ≡ (t || eqb x 1)
joined zero true h = refl
joined zero false h = refl
joined (suc zero) true h = refl
joined (suc zero) false h = refl
joined (suc (suc x)) t h = absurd (omega arith)

pub in_set-none : (l : ℕ) → in_set 0 l ≡ false
unfolding in_set
in_set-none l = ap (λ (x : ℕ). eqb (x % 2) 1) (zero-div l)

pub in_set-with : (m k l : ℕ) → in_set (bit_or m (2 ^ k)) l ≡ (eqb l k || in_set m l)
unfolding in_set
in_set-with m k l =
    rw (or_shr m (2 ^ k) l, or_mod (m / 2 ^ l) (2 ^ k / 2 ^ l) 1, single k l) (joined (m / 2 ^ l % 2) (eqb l k) (mod-lt (m / 2 ^ l) (omega arith)))
