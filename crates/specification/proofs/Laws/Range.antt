-- The integers from one to another: each is the first plus a number below their count; between two values in 32 bits all are in 32 bits.
-- Assumes nothing.
use Prim.Native.Nat.{ℕ, zero, suc, ◌+◌, ◌-◌, ◌<◌, ◌≤◌}
use native.Mathlib.Omega.{arith}
use mathlib.Core.Path.{◌≡◌, refl, sym, ◌∙◌, ap, subst}
use mathlib.Core.Bool.{Bool, true, false}
use lib.Dec.{T, ltb, leb→le, le→leb, eqb→eq, eqb_refl}
use borrow.Author.Tests.{ltb-true, ltb-false}
use mir.Facts.{and_yes, yes_and}
use lib.IntN.{ℤ, pos, negsuc, ◌+ℤ◌, +ℤ_assoc, +ℤ_idr}
use lib.Signed.{◌≤ℤ◌, le_z}
use Rattle.specification.specs.Number.{least, greatest, in32}
use Rattle.specification.specs.Arithmetic.{eq_z, count}
use Rattle.specification.specs.Plain.{EachFrom}
use Rattle.specification.proofs.Laws.Difference.{subℕ-ge, subℕ-lt}

-- ---- equality

pub eq_z-eq : (x y : ℤ) → T (eq_z x y) → x ≡ y
eq_z-eq (pos a) (pos b) t = ap pos (eqb→eq a b t)
eq_z-eq (pos a) (negsuc b) t = absurd t
eq_z-eq (negsuc a) (pos b) t = absurd t
eq_z-eq (negsuc a) (negsuc b) t = ap negsuc (eqb→eq a b t)

pub eq_z-refl : (x : ℤ) → T (eq_z x x)
eq_z-refl (pos a) = eqb_refl a
eq_z-refl (negsuc a) = eqb_refl a

-- ---- order

le-pos : (a b : ℕ) → pos a ≤ℤ pos b → a ≤ b
le-pos a b h = leb→le a b h.le

le-neg : (a b : ℕ) → negsuc a ≤ℤ negsuc b → b ≤ a
le-neg a b h = leb→le b a h.le

pub le-self : (z : ℤ) → T (le_z z z)
le-self (pos a) = le→leb a a (omega arith)
le-self (negsuc a) = le→leb a a (omega arith)

pos-le : (a b : ℕ) → a ≤ b → pos a ≤ℤ pos b
pos-le a b h = record { le = le→leb a b h }

neg-le : (a b : ℕ) → b ≤ a → negsuc a ≤ℤ negsuc b
neg-le a b h = record { le = le→leb b a h }

neg-pos : (a b : ℕ) → negsuc a ≤ℤ pos b
neg-pos a b = record { le = tt }

le_trans : (x y z : ℤ) → x ≤ℤ y → y ≤ℤ z → x ≤ℤ z
le_trans (pos a) (pos b) (pos c) h k = let p = le-pos a b h in let q = le-pos b c k in pos-le a c (omega arith)
le_trans (pos a) (negsuc b) z h k = absurd h.le
le_trans (pos a) (pos b) (negsuc c) h k = absurd k.le
le_trans (negsuc a) (pos b) (pos c) h k = neg-pos a c
le_trans (negsuc a) (pos b) (negsuc c) h k = absurd k.le
le_trans (negsuc a) (negsuc b) (pos c) h k = neg-pos a c
le_trans (negsuc a) (negsuc b) (negsuc c) h k = let p = le-neg a b h in let q = le-neg b c k in neg-le a c (omega arith)

-- ---- 32 bits

pub in32-range : (v : ℤ) → T (in32 v) → (least ≤ℤ v) × (v ≤ℤ greatest)
in32-range v t = let b = and_yes (le_z least v) (le_z v greatest) t in (record { le = b.0 }, record { le = b.1 })

pub range-in32 : (v : ℤ) → least ≤ℤ v → v ≤ℤ greatest → T (in32 v)
range-in32 v p q = yes_and (le_z least v) (le_z v greatest) p.le q.le

pub in32-between : (x y v : ℤ) → T (in32 x) → T (in32 y) → x ≤ℤ v → v ≤ℤ y → T (in32 v)
in32-between x y v s t h k = range-in32 v (le_trans least x v (in32-range x s).0 h) (le_trans v y greatest k (in32-range y t).1)

-- ---- the count

-- a value from x to y is x + i, for an i below their count
pub range_at : (x y v : ℤ) → x ≤ℤ v → v ≤ℤ y → (i : ℕ) × (i < count x y) × (v ≡ x +ℤ pos i)
range_at (pos a) (pos c) (pos b) h k =
    let p = le-pos a b h in let q = le-pos b c k in
    (b - a, omega arith, ap pos (omega arith))
range_at (pos a) (pos c) (negsuc b) h k = absurd h.le
range_at (pos a) (negsuc c) (pos b) h k = absurd k.le
range_at (pos a) (negsuc c) (negsuc b) h k = absurd h.le
range_at (negsuc a) (pos c) (pos b) h k =
    let q = le-pos b c k in
    (suc a + b, omega arith, sym (subℕ-ge (suc a + b) (suc a) (omega arith) ∙ ap pos (omega arith)))
range_at (negsuc a) (pos c) (negsuc b) h k =
    let p = le-neg a b h in
    (a - b, omega arith, sym (subℕ-lt (a - b) (suc a) (omega arith) ∙ ap negsuc (omega arith)))
range_at (negsuc a) (negsuc c) (pos b) h k = absurd k.le
range_at (negsuc a) (negsuc c) (negsuc b) h k =
    let p = le-neg a b h in let q = le-neg b c k in
    (a - b, omega arith, sym (subℕ-lt (a - b) (suc a) (omega arith) ∙ ap negsuc (omega arith)))

-- and such a value lies from x to y
pub range-in : (x y : ℤ) (i : ℕ) → i < count x y → (x ≤ℤ (x +ℤ pos i)) × ((x +ℤ pos i) ≤ℤ y)
range-in (pos a) (pos c) i h = (pos-le a (a + i) (omega arith), pos-le (a + i) c (omega arith))
range-in (pos a) (negsuc c) i h = absurd (omega arith)
range-in (negsuc a) (pos c) i h = go (ltb i (suc a)) refl
  where
    go : (t : Bool) → ltb i (suc a) ≡ t → (negsuc a ≤ℤ (negsuc a +ℤ pos i)) × ((negsuc a +ℤ pos i) ≤ℤ pos c)
    go true e =
        let q = ltb-true i (suc a) e in
        rw (subℕ-lt i (suc a) q) (neg-le a (suc a - suc i) (omega arith), neg-pos (suc a - suc i) c)
    go false e =
        let q = ltb-false i (suc a) e in
        rw (subℕ-ge i (suc a) q) (neg-pos a (i - suc a), pos-le (i - suc a) c (omega arith))
range-in (negsuc a) (negsuc c) i h =
    rw (subℕ-lt i (suc a) (omega arith)) (neg-le a (suc a - suc i) (omega arith), neg-le (suc a - suc i) c (omega arith))

-- ---- what holds of the n integers from x on

abbrev pub FromOn : (ℤ → Type 0) → ℕ → ℤ → Type 0
FromOn C n x = (i : ℕ) → i < n → C (x +ℤ pos i)

module _ (C : ℤ → Type 0) where
  pub each_on : (x y : ℤ) → FromOn C (count x y) x → EachFrom x y C
  each_on x y h v p q = let (i, b, e) = range_at x y v p q in rw e (h i b)

  pub on-each : (x y : ℤ) → EachFrom x y C → FromOn C (count x y) x
  on-each x y h i b = let r = range-in x y i b in h (x +ℤ pos i) r.0 r.1

  module _ (n : ℕ) (x : ℤ) where
    next-at : (i : ℕ) → x +ℤ pos 1 +ℤ pos i ≡ x +ℤ pos (suc i)
    next-at i = +ℤ_assoc x (pos 1) (pos i) ∙ ap (λ (m : ℕ). x +ℤ pos m) (omega arith)

    pub on-first : FromOn C (suc n) x → C x
    on-first h = subst C (+ℤ_idr x) (h 0 (omega arith))

    pub on-later : FromOn C (suc n) x → FromOn C n (x +ℤ pos 1)
    on-later h i b = subst C (sym (next-at i)) (h (suc i) (omega arith))

    pub on_both : C x → FromOn C n (x +ℤ pos 1) → FromOn C (suc n) x
    on_both c h zero b = subst C (sym (+ℤ_idr x)) c
    on_both c h (suc i) b = subst C (next-at i) (h i (omega arith))
