-- Tests as facts: a test that passed, two tests that pass together, and tests of order and equality against each other. Assumes nothing.
use Prim.Native.Nat.{ℕ, ◌<◌, ◌≤◌}
use native.Mathlib.Omega.{arith}
use mathlib.Core.Path.{◌≡◌, refl, subst}
use mathlib.Core.Bool.{Bool, true, false, ◌&&◌}
use lib.Dec.{T, leb, eqb, leb→le, le→leb, eqb→eq, eqb_refl}

pub is_true : {b : Bool} → b ≡ true → T b
is_true e = rw e tt

pub and_left : (a b : Bool) → T (a && b) → T a
and_left true b t = tt
and_left false b t = t

pub and_both : (a b : Bool) → T a → T b → T (a && b)
and_both true b s t = t
and_both false b s t = s

-- tests that pass together are the same test
together : (s t : Bool) → (T s → T t) → (T t → T s) → s ≡ t
together true true f g = refl
together true false f g = absurd (f tt)
together false true f g = absurd (g tt)
together false false f g = refl

-- `ltb a b` is `leb (suc a) b`, so the next three hold of it too
pub same-leb : (a b c d : ℕ) → (a ≤ b → c ≤ d) → (c ≤ d → a ≤ b) → leb a b ≡ leb c d
same-leb a b c d f g =
    together (leb a b) (leb c d) (λ t. le→leb c d (f (leb→le a b t))) (λ t. le→leb a b (g (leb→le c d t)))

pub true-leb : (a b : ℕ) → a ≤ b → true ≡ leb a b
true-leb a b h = together true (leb a b) (λ t. le→leb a b h) (λ t. tt)

pub false-leb : (a b : ℕ) → b < a → false ≡ leb a b
false-leb a b h = together false (leb a b) (λ t. absurd t) (λ t. let k = leb→le a b t in absurd (omega arith))

eq→eqb : (a b : ℕ) → a ≡ b → T (eqb a b)
eq→eqb a b e = subst (λ (k : ℕ). T (eqb a k)) e (eqb_refl a)

pub same-eqb : (a b c d : ℕ) → (a ≡ b → c ≡ d) → (c ≡ d → a ≡ b) → eqb a b ≡ eqb c d
same-eqb a b c d f g =
    together (eqb a b) (eqb c d) (λ t. eq→eqb c d (f (eqb→eq a b t))) (λ t. eq→eqb a b (g (eqb→eq c d t)))

pub false-eqb : (a b : ℕ) → (a ≡ b → ⊥) → false ≡ eqb a b
false-eqb a b n = together false (eqb a b) (λ t. absurd t) (λ t. n (eqb→eq a b t))
