-- What holds of anything that is read, and of a refusal: a law for each way in which readers are put together. Assumes nothing.
use Prim.Native.Nat.{ℕ}
use mathlib.Core.Path.{◌≡◌, refl, subst}
use mathlib.Core.Bool.{Bool, true, false, not, ◌&&◌, ◌||◌}
use mathlib.Core.Option.{Option, none, some}
use lib.Dec.{T, eqb}
use Rattle.specification.specs.Bytes.{pick, between}
use Rattle.specification.specs.Parser.{Reader, Read, refused, found, Parser, require, present, and_then}
use Rattle.specification.proofs.Laws.Contradiction.{contradiction}

-- the numbers of the refusals of reading
abbrev pub refuses_with : ℕ → Bool
refuses_with n = between 3 14 n || eqb n 17

-- ---- tests

pub true-T : (b : Bool) → b ≡ true → T b
true-T true e = tt
true-T false e = contradiction cc

pub T_true : (b : Bool) → T b → b ≡ true
T_true true t = refl
T_true false t = absurd t

pub false-T : (b : Bool) → b ≡ false → T (not b)
false-T true e = contradiction cc
false-T false e = tt

pub and-true : (a b : Bool) → a && b ≡ true → (a ≡ true) × (b ≡ true)
and-true true b e = (refl, e)
and-true false b e = contradiction cc

-- ---- what holds of a reading

module _ {A : Type 0} where
  -- R of a refusal's number and place; P of what is read and of the reader after it
  pub data Reading (R : ℕ → ℕ → Type 0) (P : A → Reader → Type 0) : Read A → Type 0 where
    refusal : {n p : ℕ} → R n p → Reading R P (refused n p)
    holds : {a : A} {r : Reader} → P a r → Reading R P (found a r)

  -- of a refusal nothing is said
  abbrev pub Post : (A → Reader → Type 0) → Read A → Type 0
  Post P = Reading (λ n p. Unit {0}) P

module _ {R : ℕ → ℕ → Type 0} {A : Type 0} {P : A → Reader → Type 0} where
  pub of-found : {x : Read A} {a : A} {r : Reader} → Reading R P x → x ≡ found a r → P a r
  of-found (refusal h) e = contradiction cc
  of-found {a = a} {r = r} (holds {a = b} {r = s} h) e =
      let f : b ≡ a = cc in
      let g : s ≡ r = cc in
      subst (λ x. P x r) f (subst (λ x. P b x) g h)

  pub of-refused : {x : Read A} {n p : ℕ} → Reading R P x → x ≡ refused n p → R n p
  of-refused (holds h) e = contradiction cc
  of-refused {n = n} {p = p} (refusal {n = m} {p = q} h) e =
      let f : m ≡ n = cc in
      let g : q ≡ p = cc in
      subst (λ x. R x p) f (subst (λ x. R m x) g h)

  -- what follows from it holds too
  pub map-post : {Q : A → Reader → Type 0} {x : Read A} → ((a : A) (r : Reader) → P a r → Q a r) → Reading R P x → Reading R Q x
  map-post f (refusal h) = refusal h
  map-post f (holds h) = holds (f _ _ h)

  -- two laws of one reading
  pub both_post : {Q : A → Reader → Type 0} {x : Read A} → Reading R P x → Post Q x → Reading R (λ a r. P a r × Q a r) x
  both_post (refusal h) k = refusal h
  both_post (holds h) (holds k) = holds (h, k)

  -- ---- each way to put readers together

  -- the test holds in what follows
  pub require-post : (b : Bool) (n p : ℕ) (q : Parser A) (r : Reader) →
      R n p → (b ≡ true → Reading R P (q r)) → Reading R P (require b n p q r)
  require-post true n p q r f h = h refl
  require-post false n p q r f h = refusal f

  pub present-post : (n p : ℕ) (o : Option A) (r : Reader) → R n p → ((a : A) → o ≡ some a → P a r) → Reading R P (present n p o r)
  present-post n p none r f h = refusal f
  present-post n p (some a) r f h = holds (h a refl)

  -- of two readers, and of two readings
  pub choose-post : (b : Bool) (p q : Parser A) (r : Reader) →
      Reading R P (p r) → Reading R P (q r) → Reading R P (pick b p q r)
  choose-post true p q r h k = h
  choose-post false p q r h k = k

  pub pick_post : (b : Bool) (x y : Read A) →
      (b ≡ true → Reading R P x) → (b ≡ false → Reading R P y) → Reading R P (pick b x y)
  pick_post true x y h k = h refl
  pick_post false x y h k = k refl

module _ {A B : Type 0} {Q : B → Reader → Type 0} {f : A → Parser B} where
  pub bind-post : {R : ℕ → ℕ → Type 0} {P : A → Reader → Type 0} {x : Read A} →
      Reading R P x → ((a : A) (r : Reader) → P a r → Reading R Q (f a r)) → Reading R Q (and_then f x)
  bind-post (refusal h) k = refusal h
  bind-post (holds h) k = k _ _ h

  -- where nothing is asked of what is read first
  pub after : (x : Read A) → ((a : A) (r : Reader) → Post Q (f a r)) → Post Q (and_then f x)
  after (refused n p) k = refusal tt
  after (found a r) k = k a r
