-- Laws of Each and Some: over predicates, over lists joined and mapped, and of a member that has both. Assumes nothing.
use Prim.Native.Nat.{ℕ, zero, suc}
use mathlib.Core.Path.{◌≡◌}
use mathlib.Core.Logic.{◌⊎◌, inl, inr}
use mathlib.Core.List.{List, [], ◌∷◌, ◌++◌, map}
use lib.ListN.{get_or}
use Rattle.specification.specs.Lists.{Each, Some}

-- ---- a member by its number

pub each-get_d : {A : Type 0} (P : A → Type 0) (xs : List A) (n : ℕ) (d : A) → Each P xs → P d → P (get_or xs n d)
unfolding Each
each-get_d P [] n d h k = k
each-get_d P (x ∷ xs) zero d h k = h.0
each-get_d P (x ∷ xs) (suc n) d h k = each-get_d P xs n d h.1 k

-- ---- from one predicate to another

module _ {A : Type 0} {P Q : A → Type 0} where
  pub each_map : ((x : A) → P x → Q x) → (xs : List A) → Each P xs → Each Q xs
  unfolding Each
  each_map f [] h = tt
  each_map f (x ∷ xs) h = (f x h.0, each_map f xs h.1)

  pub some-map : ((x : A) → P x → Q x) → (xs : List A) → Some P xs → Some Q xs
  unfolding Some
  some-map f [] h = absurd h
  some-map f (x ∷ xs) (inl h) = inl (f x h)
  some-map f (x ∷ xs) (inr h) = inr (some-map f xs h)

module _ {A : Type 0} {P Q : A → Type 0} where
  pub each_both : {R : A → Type 0} (xs : List A) → ((x : A) → P x → Q x → R x) → Each P xs → Each Q xs → Each R xs
  unfolding Each
  each_both [] f h k = tt
  each_both (x ∷ xs) f h k = (f x h.0 k.0, each_both xs f h.1 k.1)

  -- what follows from both properties of one of the list
  pub each-some : {C : Type 0} (xs : List A) → ((x : A) → P x → Q x → C) → Each P xs → Some Q xs → C
  unfolding Each Some
  each-some [] f h k = absurd k
  each-some (x ∷ xs) f h (inl k) = f x h.0 k
  each-some (x ∷ xs) f h (inr k) = each-some xs f h.1 k

-- what follows from any member that has it
pub some-elim : {A : Type 0} {P : A → Type 0} {C : Type 0} → ((x : A) → P x → C) → (xs : List A) → Some P xs → C
unfolding Some
some-elim f [] h = absurd h
some-elim f (x ∷ xs) (inl h) = f x h
some-elim f (x ∷ xs) (inr h) = some-elim f xs h

-- some member has the first, each has the second: some member has both
pub some-and-each : {A : Type 0} (P Q : A → Type 0) (xs : List A) → Some P xs → Each Q xs → Some (λ x. P x × Q x) xs
unfolding Some Each
some-and-each P Q [] h k = absurd h
some-and-each P Q (x ∷ xs) (inl h) k = inl (h, k.0)
some-and-each P Q (x ∷ xs) (inr h) k = inr (some-and-each P Q xs h k.1)

-- ---- lists joined

-- the second list is the first and more
abbrev pub Begins : {A : Type 0} → List A → List A → Type 0
Begins {A} xs ys = (more : List A) × (ys ≡ xs ++ more)

module _ {A : Type 0} (P : A → Type 0) where
  pub each-++ : (xs ys : List A) → Each P xs → Each P ys → Each P (xs ++ ys)
  unfolding Each
  each-++ [] ys h k = k
  each-++ (x ∷ xs) ys h k = (h.0, each-++ xs ys h.1 k)

  pub each-parts : (xs ys : List A) → Each P (xs ++ ys) → Each P xs × Each P ys
  unfolding Each
  each-parts [] ys h = (tt, h)
  each-parts (x ∷ xs) ys h = let (a, b) = each-parts xs ys h.1 in ((h.0, a), b)

  pub some-++ : (xs ys : List A) → Some P xs ⊎ Some P ys → Some P (xs ++ ys)
  unfolding Some
  some-++ [] ys (inl h) = absurd h
  some-++ [] ys (inr h) = h
  some-++ (x ∷ xs) ys (inl (inl h)) = inl h
  some-++ (x ∷ xs) ys (inl (inr h)) = inr (some-++ xs ys (inl h))
  some-++ (x ∷ xs) ys (inr h) = inr (some-++ xs ys (inr h))

-- ---- lists mapped

module _ {A B : Type 0} (P : B → Type 0) (f : A → B) where
  pub each-of-map : (xs : List A) → Each P (map f xs) → Each (λ x. P (f x)) xs
  unfolding Each
  each-of-map [] h = tt
  each-of-map (x ∷ xs) h = (h.0, each-of-map xs h.1)

  pub some-of-map : (xs : List A) → Some P (map f xs) → Some (λ x. P (f x)) xs
  unfolding Some
  some-of-map [] h = absurd h
  some-of-map (x ∷ xs) (inl h) = inl h
  some-of-map (x ∷ xs) (inr h) = inr (some-of-map xs h)
