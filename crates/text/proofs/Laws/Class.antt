-- Laws of classes: of a byte, the test `is_in` from its class number; of a place, the specification's tests `next` and `ended`
-- from the class there; and which bytes are of no class. Assumes nothing.
use Prim.Native.Nat.{ℕ, ◌<◌, ◌≤◌}
use mathlib.Core.Path.{◌≡◌, refl, sym, ap, ◌∙◌}
use mathlib.Core.Bool.{Bool, true, false, not}
use mathlib.Core.List.{[], ◌∷◌}
use native.Mathlib.Omega.{arith}
use lib.Dec.{eqb}
use lib.ListN.{length, get_or, drop, drop_of_length-le, length-drop}
use lib.Seq.{drop-cons}
use borrow.Author.Tests.{eq-eqb, ne_eqb}
use Rattle.specification.specs.Bytes.{Bytes, pick, class_of, class_number, is_in}
use Rattle.specification.specs.Bytes.{Class, letter, digit, space, feed, minus, equals, comma, colon, point, other}
use Rattle.specification.specs.Parser.{next, ended}
use denote.Enum.Bare.{sameb, same_true, same_false}
use borrow.Author.Rules.{rules}
use Rattle.std.specs.Prelude.{Option, Some, None}
use Rattle.std.specs.Option.{option_eq}
use Rattle.specification.proofs.Laws.Contradiction.{contradiction}
use Rattle.text.specs.contracts.Class.{the_type}
use Rattle.text.specs.declared.Class.{Class as Code}
use Rattle.text.specs.declared.Class.TheVariants.{Letter, Digit, Space, Feed, Minus, Equals, Comma, Colon, Point, Other}
use Rattle.text.specs.Class.{specified, number_at, head_class, class_at}
use Rattle.text.proofs.Laws.Ranges.{off}

-- no class has the number of the end
pub number_lt : (c : Class) → class_number c < 10
unfolding class_number
number_lt letter = omega arith
number_lt digit = omega arith
number_lt space = omega arith
number_lt feed = omega arith
number_lt minus = omega arith
number_lt equals = omega arith
number_lt comma = omega arith
number_lt colon = omega arith
number_lt point = omega arith
number_lt other = omega arith

-- ---- of what the code says

-- what has a number; none has that of the end
named : ℕ → Option Code
named n =
    pick (eqb n 0) (Some Other)
    (pick (eqb n 1) (Some Letter)
    (pick (eqb n 2) (Some Digit)
    (pick (eqb n 3) (Some Space)
    (pick (eqb n 4) (Some Feed)
    (pick (eqb n 5) (Some Minus)
    (pick (eqb n 6) (Some Equals)
    (pick (eqb n 7) (Some Comma)
    (pick (eqb n 8) (Some Colon)
    (pick (eqb n 9) (Some Point) None)))))))))

named-number : (o : Option Code) → named (number_at o) ≡ o
unfolding class_number named
named-number None = refl
named-number (Some Letter) = refl
named-number (Some Digit) = refl
named-number (Some Space) = refl
named-number (Some Feed) = refl
named-number (Some Minus) = refl
named-number (Some Equals) = refl
named-number (Some Comma) = refl
named-number (Some Colon) = refl
named-number (Some Point) = refl
named-number (Some Other) = refl

-- the class of a place, or this one where there is none
inside : Code → Option Code → Code
inside k (Some c) = c
inside k None = k

not-true : (t : Bool) → not t ≡ true → t ≡ false
not-true true e = sym e
not-true false e = refl

not-false : (t : Bool) → not t ≡ false → t ≡ true
not-false true e = refl
not-false false e = sym e

-- of a place, with o what `class_at` returns
module _ (s : Bytes) (at : ℕ) (o : Option Code) (is : number_at o ≡ class_at s at) (k : Code) where
  class-is : o ≡ Some k → class_at s at ≡ class_number (specified k)
  class-is e = sym is ∙ ap number_at e

  class-not : (o ≡ Some k → ⊥) → class_at s at ≡ class_number (specified k) → ⊥
  class-not h e = h (sym (named-number o) ∙ ap named (is ∙ e) ∙ named-number (Some k))

  -- what the comparisons `==` and `!=` with a class say
  pub eq-yes : option_eq (sameb the_type) o (Some k) ≡ true → class_at s at ≡ class_number (specified k)
  eq-yes e = class-is (go o e)
    where
      go : (o : Option Code) → option_eq (sameb the_type) o (Some k) ≡ true → o ≡ Some k
      go None e = contradiction cc
      go (Some c) e = ap (λ (x : Code). Some x) (same_true the_type (search rules) c k e)

  pub eq-no : option_eq (sameb the_type) o (Some k) ≡ false → class_at s at ≡ class_number (specified k) → ⊥
  unfolding inside
  eq-no e = class-not (go o e)
    where
      go : (o : Option Code) → option_eq (sameb the_type) o (Some k) ≡ false → o ≡ Some k → ⊥
      go None e h = contradiction cc
      go (Some c) e h = same_false the_type c k e (ap (inside c) h)

  pub ne-yes : not (option_eq (sameb the_type) o (Some k)) ≡ true → class_at s at ≡ class_number (specified k) → ⊥
  ne-yes e = eq-no (not-true _ e)

  pub ne-no : not (option_eq (sameb the_type) o (Some k)) ≡ false → class_at s at ≡ class_number (specified k)
  ne-no e = eq-yes (not-false _ e)

-- of a byte, with k what `Class::of` returns
module _ (b : ℕ) (k : Code) (is : specified k ≡ class_of b) (c : Code) where
  pub in-yes : k ≡ c → is_in (specified c) b ≡ true
  unfolding is_in
  in-yes e = eq-eqb _ _ (ap class_number (ap specified (sym e) ∙ is))

  pub in-no : (k ≡ c → ⊥) → is_in (specified c) b ≡ false
  unfolding is_in inside
  in-no h =
      ne_eqb _ _ (λ e. h (ap (inside k) (sym (named-number (Some k)) ∙ ap named (ap class_number is ∙ sym e) ∙ named-number (Some c))))

-- ---- of a byte, by ranges

-- a byte outside the ranges and none of the marks
abbrev pub Unclassed : ℕ → Type 0
Unclassed b =
    (97 ≤ b → 122 < b)
    × (48 ≤ b → 57 < b)
    × (b ≡ 32 → ⊥)
    × (b ≡ 10 → ⊥)
    × (b ≡ 45 → ⊥)
    × (b ≡ 61 → ⊥)
    × (b ≡ 44 → ⊥)
    × (b ≡ 58 → ⊥)
    × (b ≡ 46 → ⊥)

pub other_class : (b : ℕ) → Unclassed b → other ≡ class_of b
unfolding class_of
other_class b (l, d, s, f, m, e, c, k, p) =
    rw (off 97 122 b l, off 48 57 b d, ne_eqb b 32 s, ne_eqb b 10 f, ne_eqb b 45 m, ne_eqb b 61 e, ne_eqb b 44 c, ne_eqb b 58 k, ne_eqb b 46 p)

-- ---- of a place

next-head : (c : Class) (bs : Bytes) → next c bs ≡ eqb (class_number c) (head_class bs)
unfolding is_in
next-head c [] = sym (ne_eqb (class_number c) 10 (λ e. omega (arith, number_lt c)))
next-head c (b ∷ bs) = refl

ended-head : (bs : Bytes) → ended bs ≡ eqb (head_class bs) 10
ended-head [] = refl
ended-head (b ∷ bs) = sym (ne_eqb (class_number (class_of b)) 10 (λ e. omega (arith, number_lt (class_of b))))

head-long : (bs : Bytes) → head_class bs < 10 → 0 < length bs
head-long [] h = omega arith
head-long (b ∷ bs) h = omega arith

head-none : (bs : Bytes) → head_class bs ≡ 10 → bs ≡ []
head-none [] h = refl
head-none (b ∷ bs) h = absurd (omega (arith, number_lt (class_of b)))

module _ (s : Bytes) (at : ℕ) where
  -- the class at a place decides each test there
  pub next-class : (c : Class) → next c (drop at s) ≡ eqb (class_number c) (class_at s at)
  unfolding class_at
  next-class c = next-head c (drop at s)

  pub class-next : (c : Class) → class_at s at ≡ class_number c → next c (drop at s) ≡ true
  class-next c e = next-class c ∙ eq-eqb _ _ (sym e)

  pub class-not-next : (c : Class) → (class_at s at ≡ class_number c → ⊥) → next c (drop at s) ≡ false
  class-not-next c h = next-class c ∙ ne_eqb _ _ (λ e. h (sym e))

  -- a class that is not the end's stands inside
  pub class-inside : (c : Class) → class_at s at ≡ class_number c → at < length s
  unfolding class_at
  class-inside c e = omega (arith, head-long (drop at s) (omega (arith, number_lt c)), length-drop at s)

  pub end-class : drop at s ≡ [] → class_at s at ≡ 10
  unfolding class_at
  end-class e = ap head_class e

  pub class_of_byte : at < length s → class_at s at ≡ class_number (class_of (get_or s at 0))
  unfolding class_at
  class_of_byte h = ap head_class (drop-cons s at 0 h)

  pub class_beyond : length s ≤ at → class_at s at ≡ 10
  class_beyond h = end-class (drop_of_length-le s h)
