-- What the verdict on an inner tree says of its leaves. Assumes nothing.
use Prim.Native.Nat.{ℕ, zero, suc, ◌+◌, ◌<◌}
use native.Mathlib.Nat.{zero-add}
use native.Mathlib.Omega.{arith}
use mathlib.Core.Path.{◌≡◌, refl, subst}
use mathlib.Core.Logic.{◌⊎◌, inl, inr, ⊎_elim}
use Rattle.specification.specs.Value.{Valuation}
use Rattle.specification.specs.Tree.{Tree, success_leaf, failure_leaf, error_leaf, step, fork, fan, ask, Verdict, succeeds, fails, undecided, join, joined, verdict}
use Rattle.specification.proofs.Laws.Contradiction.{contradiction}
use Rattle.specification.proofs.Laws.Scope.{Every, Any}

-- ---- verdicts of parts

join-fails : (v w : Verdict) → join v w ≡ fails → (v ≡ fails) × (w ≡ fails)
join-fails succeeds w e = (e, cc)
join-fails fails w e = (refl, e)
join-fails undecided succeeds e = (cc, e)
join-fails undecided fails e = (e, refl)
join-fails undecided undecided e = (e, e)

join-succeeds : (v w : Verdict) → join v w ≡ succeeds → (v ≡ succeeds) ⊎ (w ≡ succeeds)
join-succeeds succeeds w e = inl refl
join-succeeds fails w e = inr e
join-succeeds undecided succeeds e = inr refl
join-succeeds undecided fails e = inl e
join-succeeds undecided undecided e = inl e

joined-fails : (n i : ℕ) (f : ℕ → Verdict) → joined n i f ≡ fails → (j : ℕ) → j < n → f (i + j) ≡ fails
unfolding joined
joined-fails zero i f e j h = absurd (omega arith)
joined-fails (suc n) i f e zero h =
    let k : i ≡ i + 0 = omega arith in
    subst (λ (m : ℕ). f m ≡ fails) k (join-fails (f i) (joined n (suc i) f) e).0
joined-fails (suc n) i f e (suc j) h =
    let k : suc i + j ≡ i + suc j = omega arith in
    subst (λ (m : ℕ). f m ≡ fails) k (joined-fails n (suc i) f (join-fails (f i) (joined n (suc i) f) e).1 j (omega arith))

joined-succeeds : (n i : ℕ) (f : ℕ → Verdict) → joined n i f ≡ succeeds → (j : ℕ) × (j < i + n) × (f j ≡ succeeds)
unfolding joined
joined-succeeds zero i f e = contradiction cc
joined-succeeds (suc n) i f e =
    ⊎_elim (λ q. (i, omega arith, q)) (λ q. let (j, h, g) = joined-succeeds n (suc i) f q in (j, omega arith, g))
    (join-succeeds (f i) (joined n (suc i) f) e)

-- ---- leaves

-- failure leaves only: no success or error leaf
pub fails-none : (Q : Valuation → Type 0) (T : Tree) → verdict T ≡ fails → Any Q T → ⊥
unfolding Any verdict
fails-none Q (success_leaf β) e a = contradiction cc
fails-none Q failure_leaf e a = a
fails-none Q (error_leaf κ t β) e a = contradiction cc
fails-none Q (step T) e a = fails-none Q T e a
fails-none Q (fork T U) e (inl a) = fails-none Q T (join-fails (verdict T) (verdict U) e).0 a
fails-none Q (fork T U) e (inr a) = fails-none Q U (join-fails (verdict T) (verdict U) e).1 a
fails-none Q (fan x n f) e (i, h, a) = fails-none Q (f i) (rw zero-add at (joined-fails n 0 (λ i. verdict (f i)) e i h)) a
fails-none Q (ask I T) e a = fails-none Q T e a

-- a success leaf: what holds of each holds of one
pub succeeds-one : (P : Valuation → Type 0) (T : Tree) → verdict T ≡ succeeds → Every P T → (β : Valuation) × P β
unfolding Every verdict
succeeds-one P (success_leaf β) e a = (β, a)
succeeds-one P failure_leaf e a = contradiction cc
succeeds-one P (error_leaf κ t β) e a = contradiction cc
succeeds-one P (step T) e a = succeeds-one P T e a
succeeds-one P (fork T U) e a =
    ⊎_elim (λ q. succeeds-one P T q a.0) (λ q. succeeds-one P U q a.1) (join-succeeds (verdict T) (verdict U) e)
succeeds-one P (fan x n f) e a =
    let (i, h, s) = joined-succeeds n 0 (λ i. verdict (f i)) e in
    succeeds-one P (f i) s (a i (omega arith))
succeeds-one P (ask I T) e a = succeeds-one P T e a
