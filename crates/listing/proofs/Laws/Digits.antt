-- The digits of a number: how many there are; the digits put from the last to the first; and a value's sign.
-- Assumes nothing.
use Prim.Native.Nat.{ℕ, zero, suc, ◌+◌, ◌-◌, ◌/◌, ◌%◌, ◌^◌, ◌≤◌, ◌<◌}
use native.Mathlib.Omega.{arith}
use native.Mathlib.Nat.{pow-suc}
use mathlib.Core.Path.{◌≡◌, refl, sym, ◌∙◌, ap}
use mathlib.Core.Bool.{Bool, true, false}
use mathlib.Core.List.{[], ◌∷◌, ◌++◌}
use lib.ListN.{length, set, length-append}
use lib.Seq.{sets}
use lib.Dec.{ltb}
use borrow.Author.Tests.{ltb-true, ltb-false}
use Rattle.specification.specs.Bytes.{Bytes, pick}
use Rattle.specification.specs.Number.{digits, printℕ, printℤ}
use Rattle.specification.proofs.Laws.Canonical.{print-one, print-more}
use Rattle.values.specs.Word.{signed}
use Rattle.values.proofs.Laws.Word.{by_sign}
use Rattle.listing.proofs.Laws.Put.{sets-before}

-- ---- how many

pub length_more : (n : ℕ) → 10 ≤ n → length (printℕ n) ≡ length (printℕ (n / 10)) + 1
length_more n h = ap length (print-more n h) ∙ length-append (printℕ (n / 10)) ((48 + n % 10) ∷ [])

-- n below 10^(k+1) has at most k + 1
pub length-within : (k n : ℕ) → n < 10 ^ suc k → length (printℕ n) ≤ suc k
length-within zero n h = omega (arith, ap length (print-one n h))
length-within (suc k) n h = go (λ m. length-within k (n / 10) (omega (arith, pow-suc 10 (suc k)))) (ltb n 10) refl
  where
    go : (10 ≤ n → length (printℕ (n / 10)) ≤ suc k) → (b : Bool) → ltb n 10 ≡ b → length (printℕ n) ≤ suc (suc k)
    go f true e = omega (arith, ap length (print-one n (ltb-true n 10 e)))
    go f false e = let m : 10 ≤ n = ltb-false n 10 e in omega (arith, length_more n m, f m)

-- at least one
length-some-digits : (k n : ℕ) → 0 < length (digits k n)
unfolding digits
length-some-digits zero n = omega arith
length-some-digits (suc k) n = go (ltb n 10)
  where
    go : (b : Bool) → 0 < length (pick b ((48 + n) ∷ []) (digits k (n / 10) ++ (48 + n % 10) ∷ []))
    go true = omega arith
    go false = omega (arith, length-append (digits k (n / 10)) ((48 + n % 10) ∷ []))

pub length_some : (n : ℕ) → 0 < length (printℕ n)
unfolding printℕ
length_some n = length-some-digits n n

-- ---- digits put from the last to the first

-- the last k digits
unfoldable pub last_digits : ℕ → ℕ → Bytes
last_digits zero n = []
last_digits (suc k) n = last_digits k (n / 10) ++ (48 + n % 10) ∷ []

pub last-length : (k n : ℕ) → length (last_digits k n) ≡ k
unfolding last_digits
last-length zero n = refl
last-length (suc k) n = omega (arith, length-append (last_digits k (n / 10)) ((48 + n % 10) ∷ []), last-length k (n / 10))

-- are all of them, where there are k
pub last-all : (k n : ℕ) → length (printℕ n) ≡ k → last_digits k n ≡ printℕ n
unfolding last_digits
last-all zero n e = absurd (omega (arith, length_some n))
last-all (suc k) n e = go (last-all k (n / 10)) (ltb n 10) refl
  where
    go : (length (printℕ (n / 10)) ≡ k → last_digits k (n / 10) ≡ printℕ (n / 10)) → (b : Bool) → ltb n 10 ≡ b →
        last_digits k (n / 10) ++ (48 + n % 10) ∷ [] ≡ printℕ n
    go f true h =
        let l = ltb-true n 10 h in
        let z : k ≡ 0 = omega (arith, ap length (print-one n l)) in
        let m : n % 10 ≡ n = omega arith in
        rw (z, m, print-one n l) (unfold last_digits in refl)
    go f false h =
        let m : 10 ≤ n = ltb-false n 10 h in
        rw (f (omega (arith, length_more n m))) (sym (print-more n m))

-- the last of them is put before the place j, and the others are left
pub put-digit : (at j n : ℕ) (o : Bytes) {o' : Bytes} → at < j → o' ≡ set o (j - 1) (48 + n % 10) →
    sets o' at (last_digits (j - 1 - at) (n / 10)) ≡ sets o at (last_digits (j - at) n)
unfolding last_digits
put-digit at j n o h e =
    let k = j - 1 - at in
    let s : j - at ≡ suc k = omega arith in
    rw (e, s) (sets-before o at (last_digits k (n / 10)) (48 + n % 10) (j - 1) (omega (arith, last-length k (n / 10))))

-- where more than one is left the number has one digit fewer without its last, and where one is left that is the number
pub fewer-left : (k n : ℕ) → 1 < k → length (printℕ n) ≡ k → length (printℕ (n / 10)) ≡ k - 1
fewer-left k n h e = go (ltb n 10) refl
  where
    go : (b : Bool) → ltb n 10 ≡ b → length (printℕ (n / 10)) ≡ k - 1
    go true l = absurd (omega (arith, ap length (print-one n (ltb-true n 10 l))))
    go false l = omega (arith, length_more n (ltb-false n 10 l))

pub one-left : (n : ℕ) → length (printℕ n) ≡ 1 → n < 10
one-left n e = go (ltb n 10) refl
  where
    go : (b : Bool) → ltb n 10 ≡ b → n < 10
    go true l = ltb-true n 10 l
    go false l = absurd (omega (arith, length_more n (ltb-false n 10 l), length_some (n / 10)))

-- the first of them is put last
pub put_first : (at j n : ℕ) (o : Bytes) {o' : Bytes} → at < j → j ≤ suc at → n < 10 → o' ≡ set o at (48 + n) →
    o' ≡ sets o at (last_digits (j - at) n)
unfolding last_digits
put_first at j n o h g l e =
    let s : j - at ≡ 1 = omega arith in
    let m : n % 10 ≡ n = omega arith in
    rw (e, s, m) refl

-- ---- the value of a word, with its sign

pub value_low : (w : ℕ) → w < 2147483648 → printℤ (signed w) ≡ 45 ∷ printℕ (2147483648 - w)
unfolding printℤ
value_low w l =
    by_sign (λ z. printℤ z ≡ 45 ∷ printℕ (2147483648 - w)) w
    (λ h. ap (λ n. 45 ∷ printℕ n) {x = suc (2147483648 - suc w)} {y = 2147483648 - w} (omega arith)) (λ h. absurd (omega arith))

pub value-high : (w : ℕ) → 2147483648 ≤ w → printℤ (signed w) ≡ printℕ (w - 2147483648)
unfolding printℤ
value-high w l = by_sign (λ z. printℤ z ≡ printℕ (w - 2147483648)) w (λ h. absurd (omega arith)) (λ h. refl)

-- a sign and ten digits
pub value-bound : (w : ℕ) → w < 4294967296 → length (printℤ (signed w)) ≤ 11
unfolding printℤ
value-bound w h =
    by_sign (λ z. length (printℤ z) ≤ 11) w
    (λ l. omega (arith, length-within 9 (suc (2147483648 - suc w)) (omega arith)))
    (λ l. omega (arith, length-within 9 (w - 2147483648) (omega arith)))
