-- The four divisions of a sheet against the integers (document 02, Seven): which of them a word means in an edition; that quotient and rest make up the
-- dividend; where a rest lies; which results fit 32 bits; where rounding down and dividing toward zero agree; and their error kinds. Assumes nothing.
use Prim.Native.Nat.{ℕ, zero, suc, ◌/◌, ◌%◌, ◌<◌, ◌≤◌}
use Prim.Native.String.{String}
use native.Mathlib.Omega.{arith}
use native.Mathlib.Nat.{div-one, div-le_self, div-lt_self, mod-le}
use mathlib.Core.Path.{◌≡◌, refl, sym, ◌∙◌, ap, subst}
use mathlib.Core.Logic.{◌↔◌, ◌⊎◌, inl, inr}
use mathlib.Core.Bool.{Bool, true, false}
use mathlib.Core.Option.{some as just}
use lib.Dec.{T, eqb, leb, leb→le, le→leb}
use lib.IntN.{ℤ, pos, negsuc, neg_ℤ, nat_abs, ◌+ℤ◌, ◌*ℤ◌}
use lib.Signed.{quot_z, rem_z, ◌≤ℤ◌, ◌<ℤ◌}
use borrow.Author.Tests.{eqb-true, eqb-false, ne_eqb, lt-ltb, le-ltb}
use mir.Facts.{and_yes, yes_and}
use Rattle.specification.specs.Bytes.{bytes, pick, class_of, class_number, is_in, in_number, same, begins}
use Rattle.specification.specs.Number.{least, in32}
use Rattle.specification.specs.Ast.{Op, quo, rem, div, modulo}
use Rattle.specification.specs.Words.{term_word, op_word, unknown, common_words, older_division, first_rounding, division, own_words, words, name_of, find, word_of}
use Rattle.specification.specs.Arithmetic.{outside32, zero_divisor, Computed, value, fault, fit, divided, floor_z, remains, compute}
use Rattle.specification.proofs.Laws.Contradiction.{contradiction}
use Rattle.specification.proofs.Laws.Exact.{divisor, quo-exact, rem-exact, div-exact, mod-exact}
use Rattle.specification.proofs.Laws.Rounding.{makes-up, remains-is, remainder_is, remainder-less, Within, within-less, within-sign, floor-within, floor-only, SignsAgree, Divides, floor-quotient, left-remainder}

-- ---- the words

-- in a sheet of this edition the word means the operation
abbrev pub Means : ℕ → String → Op → Type 0
Means edition word o = word_of edition (bytes word) ≡ just (term_word (op_word o))

abbrev pub NoWord : ℕ → String → Type 0
NoWord edition word = word_of edition (bytes word) ≡ just unknown

unfoldable reading : Type 0
unfolding class_of class_number is_in in_number same begins common_words older_division division own_words words name_of find word_of
reading = Unit {0}

-- editions 1 and 2
pub older-words : (edition : ℕ) → edition < first_rounding →
    Means edition "div" quo × Means edition "mod" rem × NoWord edition "quo" × NoWord edition "rem"
unfolding reading
older-words edition h = by (eqb edition 1) refl
  where
    by : (b : Bool) → eqb edition 1 ≡ b → Means edition "div" quo × Means edition "mod" rem × NoWord edition "quo" × NoWord edition "rem"
    by true e = rw e (refl, refl, refl, refl)
    by false e = rw (e, lt-ltb edition first_rounding h) (refl, refl, refl, refl)

-- from edition 3 on
pub rounding-words : (edition : ℕ) → first_rounding ≤ edition →
    Means edition "div" div × Means edition "mod" modulo × Means edition "quo" quo × Means edition "rem" rem
unfolding reading
rounding-words edition h = rw (ne_eqb edition 1 (λ e. omega arith), le-ltb edition first_rounding h) (refl, refl, refl, refl)

-- ---- what an operation gives

-- it has this value
abbrev pub Gives : Op → ℤ → ℤ → ℤ → Type 0
Gives o a b z = compute o a b ≡ value z

-- a result is held to 32 bits
pub fit-in : (z : ℤ) → T (in32 z) → fit z ≡ value z
unfolding fit
fit-in z t = go (in32 z) t
  where
    go : (b : Bool) → T b → pick b (value z) (fault outside32) ≡ value z
    go true t = refl
    go false t = absurd t

-- a divisor that is not 0 divides
pub divided-nonzero : (b : ℤ) (c : Computed) → (b ≡ pos zero → ⊥) → divided b c ≡ c
divided-nonzero (pos zero) c n = absurd (n refl)
divided-nonzero (pos (suc b)) c n = refl
divided-nonzero (negsuc b) c n = refl

module _ (a b : ℤ) where
  -- ---- a = b × (a div b) + a mod b

  -- also where the quotient itself is outside 32 bits
  pub mod-leaves : (r : ℤ) → Gives modulo a b r → a ≡ b *ℤ floor_z a b +ℤ r
  mod-leaves r g = makes-up a b (floor_z a b) ∙ ap (λ z. b *ℤ floor_z a b +ℤ z) (mod-exact a b r g)

  pub rem-leaves : (r : ℤ) → Gives rem a b r → a ≡ b *ℤ quot_z a b +ℤ r
  rem-leaves r g = makes-up a b (quot_z a b) ∙ ap (λ z. b *ℤ quot_z a b +ℤ z) (rem-exact a b r g)

  pub div-mod : (q r : ℤ) → Gives div a b q → Gives modulo a b r → a ≡ b *ℤ q +ℤ r
  div-mod q r g h = mod-leaves r h ∙ ap (λ z. b *ℤ z +ℤ r) (div-exact a b q g)

  pub quo-rem : (q r : ℤ) → Gives quo a b q → Gives rem a b r → a ≡ b *ℤ q +ℤ r
  quo-rem q r g h = rem-leaves r h ∙ ap (λ z. b *ℤ z +ℤ r) (quo-exact a b q g)

  -- ---- where a rest lies

  module _ (r : ℤ) (g : Gives modulo a b r) where
    mod-within : Within b r
    unfolding compute
    mod-within = subst (Within b) (mod-exact a b r g) (floor-within a b (divisor b _ r g))

    -- from 0 up to the divisor, which is not included
    pub mod-above : pos zero <ℤ b → (pos zero ≤ℤ r) × (r <ℤ b)
    mod-above = (within-sign b r mod-within).0

    pub mod_below : b <ℤ pos zero → (b <ℤ r) × (r ≤ℤ pos zero)
    mod_below = (within-sign b r mod-within).1

  -- and no other quotient leaves such a rest
  pub div-only : (q r q' r' : ℤ) → Gives div a b q → Gives modulo a b r → a ≡ b *ℤ q' +ℤ r' → Within b r' → (q ≡ q') × (r ≡ r')
  div-only q r q' r' g h e w =
      let same : floor_z a b ≡ q' = floor-only a b q' r' e w in
      (sym (div-exact a b q g) ∙ same, sym (mod-exact a b r h) ∙ ap (remains a b) same ∙ remains-is a b q' r' e)

  -- the older pair's is smaller than the divisor and has the dividend's sign
  pub rem-less : (r : ℤ) → Gives rem a b r → nat_abs r < nat_abs b
  unfolding compute
  rem-less r g =
      subst (λ z. nat_abs z < nat_abs b) (sym (remainder_is a b) ∙ rem-exact a b r g) (remainder-less a b (divisor b (remains a b (quot_z a b)) r g))

  pub rem-sign : (r : ℤ) → Gives rem a b r → (pos zero ≤ℤ a → pos zero ≤ℤ r) × (a ≤ℤ pos zero → r ≤ℤ pos zero)
  rem-sign r g = subst (λ z. (pos zero ≤ℤ a → pos zero ≤ℤ z) × (a ≤ℤ pos zero → z ≤ℤ pos zero)) (sym (remainder_is a b) ∙ rem-exact a b r g) (by a)
    where
      none : (m n : ℕ) → m ≤ n → pos n ≤ℤ pos zero → pos m ≤ℤ pos zero
      none m n h l = record { le = le→leb m 0 (omega (arith, leb→le n 0 l.le)) }

      neg : (m : ℕ) → neg_ℤ (pos m) ≤ℤ pos zero
      neg zero = record { le = le→leb 0 0 (omega arith) }
      neg (suc m) = record { le = tt }

      by : (a : ℤ) → (pos zero ≤ℤ a → pos zero ≤ℤ rem_z a b) × (a ≤ℤ pos zero → rem_z a b ≤ℤ pos zero)
      by (pos n) = ((λ h. record { le = le→leb 0 (n % nat_abs b) (omega arith) }), none (n % nat_abs b) n (mod-le n (nat_abs b)))
      by (negsuc n) = ((λ h. absurd h.le), (λ h. neg (suc n % nat_abs b)))

-- ---- which results fit 32 bits

pos-in32 : (n : ℕ) → n ≤ 2147483647 → T (in32 (pos n))
pos-in32 n h = le→leb n 2147483647 h

neg-in32 : (n : ℕ) → n ≤ 2147483648 → T (in32 (neg_ℤ (pos n)))
neg-in32 zero h = pos-in32 0 (omega arith)
neg-in32 (suc n) h = yes_and (leb n 2147483647) true (le→leb n 2147483647 (omega arith)) tt

pos-size : (n : ℕ) → T (in32 (pos n)) → n ≤ 2147483647
pos-size n t = leb→le n 2147483647 t

neg-size : (n : ℕ) → T (in32 (negsuc n)) → suc n ≤ 2147483648
neg-size n t = let h = leb→le n 2147483647 (and_yes (leb n 2147483647) true t).0 in omega arith

in32-size : (z : ℤ) → T (in32 z) → nat_abs z ≤ 2147483648
in32-size (pos n) t = omega (arith, pos-size n t)
in32-size (negsuc n) t = neg-size n t

-- what is smaller than a divisor of 32 bits
rest-in32 : (b r : ℤ) → T (in32 b) → nat_abs r < nat_abs b → T (in32 r)
rest-in32 b (pos k) t h = pos-in32 k (omega (arith, in32-size b t))
rest-in32 b (negsuc k) t h = neg-in32 (suc k) (omega (arith, in32-size b t))

-- the one quotient that does not fit: -2,147,483,648 by -1
abbrev pub Unfit : ℤ → ℤ → Type 0
Unfit a b = (a ≡ least) × (b ≡ negsuc zero)

quo-in32 : (a b : ℤ) → T (in32 a) → ¬ Unfit a b → T (in32 (quot_z a b))
quo-in32 (pos a) (pos b) t n = pos-in32 (a / b) (omega (arith, pos-size a t, div-le_self a b))
quo-in32 (pos a) (negsuc b) t n = neg-in32 (a / suc b) (omega (arith, pos-size a t, div-le_self a (suc b)))
quo-in32 (negsuc a) (pos b) t n = neg-in32 (suc a / b) (omega (arith, neg-size a t, div-le_self (suc a) b))
quo-in32 (negsuc a) (negsuc zero) t n = pos-in32 (suc a / 1) (rw (div-one (suc a)) (small (eqb a 2147483647) refl))
  where
    small : (e : Bool) → eqb a 2147483647 ≡ e → suc a ≤ 2147483647
    small true e = absurd (n (ap negsuc (eqb-true a 2147483647 e), refl))
    small false e = let h = eqb-false a 2147483647 e in let l = neg-size a t in below h l
      where
        below : (a ≡ 2147483647 → ⊥) → suc a ≤ 2147483648 → suc a ≤ 2147483647
        below h l = omega arith
quo-in32 (negsuc a) (negsuc (suc b)) t n =
    pos-in32 (suc a / suc (suc b)) (omega (arith, neg-size a t, div-lt_self {n = suc a} {k = suc (suc b)} (omega arith) (omega arith)))

div-in32 : (a b : ℤ) → T (in32 a) → ¬ Unfit a b → T (in32 (floor_z a b))
div-in32 (pos a) (pos b) t n = quo-in32 (pos a) (pos b) t n
div-in32 (pos zero) (negsuc b) t n = pos-in32 0 (omega arith)
div-in32 (pos (suc a)) (negsuc b) t n = neg-in32 (suc (a / suc b)) (omega (arith, pos-size (suc a) t, div-le_self a (suc b)))
div-in32 (negsuc a) (pos b) t n = neg-in32 (suc (a / b)) (omega (arith, neg-size a t, div-le_self a b))
div-in32 (negsuc a) (negsuc b) t n = quo-in32 (negsuc a) (negsuc b) t n

module _ (a b : ℤ) (s : T (in32 a)) (t : T (in32 b)) (n : b ≡ pos zero → ⊥) where
  gives : (z : ℤ) → T (in32 z) → divided b (fit z) ≡ value z
  gives z f = divided-nonzero b (fit z) n ∙ fit-in z f

  -- a rest always
  pub mod-fits : Gives modulo a b (remains a b (floor_z a b))
  unfolding compute
  mod-fits = let r = remains a b (floor_z a b) in gives r (rest-in32 b r t (within-less b r (floor-within a b n)))

  pub rem-fits : Gives rem a b (remains a b (quot_z a b))
  unfolding compute
  rem-fits = let r = remains a b (quot_z a b) in gives r (rest-in32 b r t (rw (remainder_is a b) (remainder-less a b n)))

  -- a quotient but for that one
  pub div-fits : ¬ Unfit a b → Gives div a b (floor_z a b)
  unfolding compute
  div-fits u = gives (floor_z a b) (div-in32 a b s u)

  pub quo-fits : ¬ Unfit a b → Gives quo a b (quot_z a b)
  unfolding compute
  quo-fits u = gives (quot_z a b) (quo-in32 a b s u)

  -- ---- where the two agree

  -- that one has two negative numbers
  signs : (a b : ℤ) → SignsAgree a b ⊎ (¬ Unfit a b)
  signs (pos a) (pos b) = inl refl
  signs (pos a) (negsuc b) = inr (λ u. let e = u.0 in contradiction cc)
  signs (negsuc a) (pos b) = inr (λ u. let e = u.1 in contradiction cc)
  signs (negsuc a) (negsuc b) = inl refl

  -- both give the same value, or both are kind 2
  pub div-quo : (compute div a b ≡ compute quo a b) ↔ (SignsAgree a b ⊎ Divides b a)
  unfolding compute
  div-quo = ((λ e. by (signs a b) e), (λ h. ap (λ z. divided b (fit z)) ((floor-quotient a b n).1 h)))
    where
      by : SignsAgree a b ⊎ (¬ Unfit a b) → compute div a b ≡ compute quo a b → SignsAgree a b ⊎ Divides b a
      by (inl s) e = inl s
      by (inr u) e = (floor-quotient a b n).0 (let v : value (floor_z a b) ≡ value (quot_z a b) = sym (div-fits u) ∙ e ∙ quo-fits u in cc)

  pub mod-rem : (compute modulo a b ≡ compute rem a b) ↔ (SignsAgree a b ⊎ Divides b a)
  unfolding compute
  mod-rem = (
    (λ e. (left-remainder a b n).0 (let v : value (remains a b (floor_z a b)) ≡ value (remains a b (quot_z a b)) = sym mod-fits ∙ e ∙ rem-fits in cc)),
    (λ h. ap (λ z. divided b (fit z)) ((left-remainder a b n).1 h)),
  )

-- ---- kinds

-- kind 2 for that one quotient, and kind 3 for a zero divisor
pub outside : (compute div least (negsuc zero) ≡ fault outside32) × (compute quo least (negsuc zero) ≡ fault outside32)
unfolding compute fit
outside = (refl, refl)

pub by_zero : (a : ℤ) → (compute quo a (pos zero) ≡ fault zero_divisor) × (compute rem a (pos zero) ≡ fault zero_divisor) ×
    (compute div a (pos zero) ≡ fault zero_divisor) × (compute modulo a (pos zero) ≡ fault zero_divisor)
unfolding compute
by_zero a = (refl, refl, refl, refl)

-- ---- around a rim

-- whatever operation `mod` means in a sheet from edition 3 on, by a positive number it leaves one from 0 up to it
pub word_mod : (edition : ℕ) → first_rounding ≤ edition → (o : Op) → Means edition "mod" o →
    (a b r : ℤ) → Gives o a b r → pos zero <ℤ b → (pos zero ≤ℤ r) × (r <ℤ b)
word_mod edition h o m a b r g =
    let e = (rounding-words edition h).1 in
    let same : o ≡ modulo = cc in
    mod-above a b r (subst (λ p. Gives p a b r) same g)
