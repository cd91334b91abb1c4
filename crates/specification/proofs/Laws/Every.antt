-- The leaves below each sort of node: each success leaf (`every`), some success or error leaf (`any`). Assumes nothing.
use Prim.Native.Nat.{ℕ, zero, suc, ◌<◌}
use native.Mathlib.Omega.{arith}
use mathlib.Core.Path.{◌≡◌, refl}
use mathlib.Core.Bool.{Bool, true, false}
use lib.Dec.{T}
use lib.IntN.{ℤ}
use Rattle.specification.specs.Ast.{Rel}
use Rattle.specification.specs.Arithmetic.{test}
use Rattle.specification.specs.Value.{Valuation, Side, val, bare, err, Pair, values, faulty, pair_of}
use Rattle.specification.specs.Tree.{Tree, Verdict, verdict, Rest, check, compared, bounded, sons, enquire}
use Rattle.specification.proofs.Laws.Scope.{Every, Any}

-- two values come from sides with values
pub pair_values : (s t : Side) (x y : ℤ) → pair_of s t ≡ values x y → (s ≡ val x) × (t ≡ val y)
unfolding pair_of
pair_values (val a) (val b) x y e = (cc, cc)
pair_values (val a) (bare q) x y e = (cc, cc)
pair_values (val a) (err κ) x y e = (cc, cc)
pair_values (bare p) t x y e = (cc, cc)
pair_values (err κ) t x y e = (cc, cc)

-- ---- each success leaf

module _ (P : Valuation → Type 0) where
  pub check-every : (b : Bool) (k : Rest) (α : Valuation) → (T b → Every P (k α)) → Every P (check b k α)
  unfolding Every
  check-every true k α h = h tt
  check-every false k α h = tt

  pub compared-every :
      (tok : ℕ) (r : Rel) (s t : Side) (k : Rest) (α : Valuation) → ((x y : ℤ) → s ≡ val x → t ≡ val y → T (test r x y) → Every P (k α)) →
      Every P (compared tok r (pair_of s t) k α)
  unfolding Every compared
  compared-every tok r s t k α h = go (pair_of s t) (λ x y e. let v = pair_values s t x y e in h x y v.0 v.1)
    where
      go : (p : Pair) → ((x y : ℤ) → p ≡ values x y → T (test r x y) → Every P (k α)) → Every P (compared tok r p k α)
      go (values x y) h = check-every (test r x y) k α (h x y refl)
      go (faulty κ) h = tt

  pub bounded-every :
      (tok : ℕ) (s t : Side) (k : ℤ → ℤ → Rest) (α : Valuation) → ((x y : ℤ) → s ≡ val x → t ≡ val y → Every P (k x y α)) →
      Every P (bounded tok (pair_of s t) k α)
  unfolding Every bounded
  bounded-every tok s t k α h = go (pair_of s t) (λ x y e. let v = pair_values s t x y e in h x y v.0 v.1)
    where
      go : (p : Pair) → ((x y : ℤ) → p ≡ values x y → Every P (k x y α)) → Every P (bounded tok p k α)
      go (values x y) h = h x y refl
      go (faulty κ) h = tt

  pub sons-every : (x : ℤ) (n : ℕ) (f : ℕ → Tree) → ((i : ℕ) → i < n → Every P (f i)) → Every P (sons x n f)
  unfolding Every sons
  sons-every x zero f h = tt
  sons-every x (suc n) f h = h

  pub enquire-every :
      (inner : Rest) (next : Verdict → Rest) (α : Valuation) → ((v : Verdict) → verdict (inner α) ≡ v → Every P (next v α)) →
      Every P (enquire inner next α)
  unfolding Every enquire
  enquire-every inner next α h = h (verdict (inner α)) refl

-- ---- some success or error leaf: Q holds of the node's valuation, for the error leaf below it

module _ (Q : Valuation → Type 0) where
  pub check-any : (b : Bool) (k : Rest) (α : Valuation) → T b → Any Q (k α) → Any Q (check b k α)
  check-any true k α t h = h
  check-any false k α t h = absurd t

  pub compared-any :
      (tok : ℕ) (r : Rel) (s t : Side) (k : Rest) (α : Valuation) → Q α → ((x y : ℤ) → s ≡ val x → t ≡ val y → T (test r x y) × Any Q (k α)) →
      Any Q (compared tok r (pair_of s t) k α)
  unfolding Any compared
  compared-any tok r s t k α q h = go (pair_of s t) (λ x y e. let v = pair_values s t x y e in h x y v.0 v.1)
    where
      go : (p : Pair) → ((x y : ℤ) → p ≡ values x y → T (test r x y) × Any Q (k α)) → Any Q (compared tok r p k α)
      go (values x y) h = let g = h x y refl in check-any (test r x y) k α g.0 g.1
      go (faulty κ) h = q

  pub bounded-any :
      (tok : ℕ) (s t : Side) (k : ℤ → ℤ → Rest) (α : Valuation) → Q α → ((x y : ℤ) → s ≡ val x → t ≡ val y → Any Q (k x y α)) →
      Any Q (bounded tok (pair_of s t) k α)
  unfolding Any bounded
  bounded-any tok s t k α q h = go (pair_of s t) (λ x y e. let v = pair_values s t x y e in h x y v.0 v.1)
    where
      go : (p : Pair) → ((x y : ℤ) → p ≡ values x y → Any Q (k x y α)) → Any Q (bounded tok p k α)
      go (values x y) h = h x y refl
      go (faulty κ) h = q

  pub sons-any : (x : ℤ) (n : ℕ) (f : ℕ → Tree) (i : ℕ) → i < n → Any Q (f i) → Any Q (sons x n f)
  unfolding Any sons
  sons-any x zero f i h a = absurd (omega arith)
  sons-any x (suc n) f i h a = (i, h, a)

  pub enquire-any :
      (inner : Rest) (next : Verdict → Rest) (α : Valuation) → ((v : Verdict) → verdict (inner α) ≡ v → Any Q (next v α)) →
      Any Q (enquire inner next α)
  unfolding Any enquire
  enquire-any inner next α h = h (verdict (inner α)) refl
