-- The plain reading is two-valued: truth is decided by a finite search, without an axiom. Assumes nothing.
use Prim.Native.Nat.{ℕ, zero, suc, ◌<◌, ◌≤◌}
use native.Mathlib.Omega.{arith}
use native.Mathlib.Nat.{eq-or-lt_of_le}
use mathlib.Core.Path.{◌≡◌, refl, subst}
use mathlib.Core.Bool.{Bool, true, false}
use mathlib.Core.Logic.Dec
use mathlib.Core.Logic.{◌⊎◌, inl, inr, ⊎_elim}
use mathlib.Core.Option.{Option, none, some as just}
use lib.Dec.{T}
use lib.IntN.{ℤ, pos, ◌+ℤ◌}
use Rattle.specification.specs.Number.{least, greatest}
use Rattle.specification.specs.Lines.{Declared}
use Rattle.specification.specs.Ast.{Term, Formula, truth, and, or, imp, neg, eq, compare, ex, some, all, call}
use Rattle.specification.specs.Arithmetic.{eq_z, test, count}
use Rattle.specification.specs.Place.{local, put}
use Rattle.specification.specs.Plain.{Env, value_of, Has, SomeFrom, EachFrom, Truth}
use Rattle.specification.proofs.Laws.Contradiction.{contradiction}
use Rattle.specification.proofs.Laws.Range.{eq_z-eq, eq_z-refl, in32-range, range-in32, range_at, range-in}

-- ---- decisions

T-dec : (b : Bool) → Dec (T b)
T-dec true = yes tt
T-dec false = no (λ t. t)

module _ {A B : Type 0} where
  or-dec : Dec A → Dec B → Dec (A ⊎ B)
  or-dec (yes a) d = yes (inl a)
  or-dec (no n) (yes b) = yes (inr b)
  or-dec (no n) (no k) = no (⊎_elim n k)

  imp-dec : Dec A → Dec B → Dec (A → B)
  imp-dec (yes a) (yes b) = yes (λ _. b)
  imp-dec (yes a) (no n) = no (λ f. n (f a))
  imp-dec (no n) d = yes (λ a. absurd (n a))

-- ---- the search

-- among the numbers below n
below : (P : ℕ → Type 0) → ((i : ℕ) → Dec (P i)) → (n : ℕ) → Dec ((i : ℕ) × (i < n) × P i)
below P d zero = no (λ (i, h, p). omega arith)
below P d (suc n) = go (below P d n) (d n)
  where
    go : Dec ((i : ℕ) × (i < n) × P i) → Dec (P n) → Dec ((i : ℕ) × (i < suc n) × P i)
    go (yes (i, h, p)) e = yes (i, omega arith, p)
    go (no f) (yes p) = yes (n, omega arith, p)
    go (no f) (no g) = no (λ (i, h, p). let h' : i ≤ n = omega arith in ⊎_elim (λ e. g (rw e at p)) (λ l. f (i, l, p)) (eq-or-lt_of_le h'))

module _ (P : ℤ → Type 0) (d : (v : ℤ) → Dec (P v)) (x y : ℤ) where
  some-from : Dec (SomeFrom x y P)
  some-from = Dec.of_iff (there, back) (below (λ i. P (x +ℤ pos i)) (λ i. d (x +ℤ pos i)) (count x y))
    where
      there : (i : ℕ) × (i < count x y) × P (x +ℤ pos i) → SomeFrom x y P
      there (i, h, p) = let r = range-in x y i h in (x +ℤ pos i, r.0, r.1, p)

      back : SomeFrom x y P → (i : ℕ) × (i < count x y) × P (x +ℤ pos i)
      back (v, l, h, p) = let (i, b, e) = range_at x y v l h in (i, b, subst P e p)

-- no counterexample
each_from : (P : ℤ → Type 0) → ((v : ℤ) → Dec (P v)) → (x y : ℤ) → Dec (EachFrom x y P)
each_from P d x y =
    Dec.of_iff (λ n v l h. (Dec.not-not (d v)).0 (λ f. n (v, l, h, f)), λ e (v, l, h, f). f (e v l h))
    (Dec.not (some-from (λ v. ¬ P v) (λ v. Dec.not (d v)) x y))

-- ---- terms

module _ (D : Declared) (ρ : Env) where
  value-dec : (t : Term) → Dec ((x : ℤ) × Has D ρ t x)
  value-dec t = go (value_of D ρ t) refl
    where
      go : (o : Option ℤ) → value_of D ρ t ≡ o → Dec ((x : ℤ) × Has D ρ t x)
      go (just x) e = yes (x, e)
      go none e = no (λ (x, f). contradiction cc)

  one_value : (t : Term) (x y : ℤ) → Has D ρ t x → Has D ρ t y → x ≡ y
  one_value t x y h k = cc

  -- what is asked of the values of two terms
  values-dec :
      (s t : Term) (P : ℤ → ℤ → Type 0) → ((x y : ℤ) → Dec (P x y)) →
      Dec ((x : ℤ) × (y : ℤ) × Has D ρ s x × Has D ρ t y × P x y)
  values-dec s t P d = go (value-dec s) (value-dec t)
    where
      go : Dec ((x : ℤ) × Has D ρ s x) → Dec ((x : ℤ) × Has D ρ t x) → Dec ((x : ℤ) × (y : ℤ) × Has D ρ s x × Has D ρ t y × P x y)
      go (yes (x, h)) (yes (y, k)) =
          Dec.of_iff (λ p. (x, y, h, k, p), λ (x', y', h', k', p). rw (one_value s x' x h' h, one_value t y' y k' k) at p) (d x y)
      go (yes p) (no n) = no (λ (x, y, h, k, p). n (y, k))
      go (no n) e = no (λ (x, y, h, k, p). n (x, h))

-- ---- formulas

module _ (D : Declared) where
  pub decide : (F : Formula) (ρ : Env) → Dec (Truth D ρ F)
  unfolding Truth
  decide truth ρ = yes tt
  decide (and F G) ρ = Dec.and (decide F ρ) (decide G ρ)
  decide (or F G) ρ = or-dec (decide F ρ) (decide G ρ)
  decide (imp tok F G) ρ = imp-dec (decide F ρ) (decide G ρ)
  decide (neg tok F) ρ = Dec.not (decide F ρ)
  decide (eq tok s t) ρ =
      Dec.of_iff (λ (x, y, h, k, e). (x, h, rw (eq_z-eq x y e) k), λ (x, h, k). (x, x, h, k, eq_z-refl x))
      (values-dec D ρ s t (λ x y. T (eq_z x y)) (λ x y. T-dec (eq_z x y)))
  decide (compare tok r s t) ρ = values-dec D ρ s t (λ x y. T (test r x y)) (λ x y. T-dec (test r x y))
  decide (ex l F) ρ =
      Dec.of_iff (λ (v, p, q, t). (v, range-in32 v p q, t), λ (v, i, t). let r = in32-range v i in (v, r.0, r.1, t))
      (some-from (λ v. Truth D (put ρ (local l) v) F) (λ v. decide F (put ρ (local l) v)) least greatest)
  decide (some tok l a b F) ρ =
      values-dec D ρ a b (λ x y. SomeFrom x y (λ v. Truth D (put ρ (local l) v) F))
      (some-from (λ v. Truth D (put ρ (local l) v) F) (λ v. decide F (put ρ (local l) v)))
  decide (all tok l a b F) ρ =
      values-dec D ρ a b (λ x y. EachFrom x y (λ v. Truth D (put ρ (local l) v) F))
      (each_from (λ v. Truth D (put ρ (local l) v) F) (λ v. decide F (put ρ (local l) v)))
  decide (call K ts F) ρ = decide F ρ
