-- Putting at a place; valuations and environments with a value put; and going in and out of a binder's scope. Assumes nothing.
use Prim.Native.Nat.{ℕ}
use mathlib.Core.Path.{◌≡◌, refl, sym, ◌∙◌, ap, subst}
use mathlib.Core.Bool.{Bool, true, false, not}
use lib.Dec.{T, T_not, eqb}
use borrow.Author.Tests.{eqb-true, eq-eqb, ne_eqb}
use lib.IntN.{ℤ}
use Rattle.specification.specs.Bytes.{pick}
use Rattle.specification.specs.Lines.{Declared}
use Rattle.specification.specs.Place.{Place, cell, local, same_place, put}
use Rattle.specification.specs.Value.{Slot, empty, full, Valuation, allowed}
use Rattle.specification.specs.WellFormed.{Scope, enter, Valid}
use Rattle.specification.specs.Plain.{Env}
use Rattle.specification.proofs.Laws.Contradiction.{contradiction}
use Rattle.specification.proofs.Laws.Scope.{In, Agree, Ext}

-- ---- the same place or another

same_true : (p : Place) → same_place p p ≡ true
same_true (cell a) = eq-eqb a a refl
same_true (local a) = eq-eqb a a refl

same_false : (q p : Place) → ¬ (q ≡ p) → same_place q p ≡ false
same_false (cell a) (cell b) n = ne_eqb a b (λ e. n (ap cell e))
same_false (cell a) (local b) n = refl
same_false (local a) (cell b) n = refl
same_false (local a) (local b) n = ne_eqb a b (λ e. n (ap local e))

same-eq : (q p : Place) → same_place q p ≡ true → q ≡ p
same-eq (cell a) (cell b) e = ap cell (eqb-true a b e)
same-eq (cell a) (local b) e = cc
same-eq (local a) (cell b) e = cc
same-eq (local a) (local b) e = ap local (eqb-true a b e)

pub place-dec : (q p : Place) → Dec (q ≡ p)
place-dec q p = go (same_place q p) refl
  where
    go : (b : Bool) → same_place q p ≡ b → Dec (q ≡ p)
    go true e = yes (same-eq q p e)
    go false e = no (λ h. let t : same_place q p ≡ true = rw h (same_true p) in contradiction cc)

-- ---- put

module _ {A : Type 0} (f : Place → A) (p : Place) (a : A) where
  pub put_same : put f p a p ≡ a
  unfolding put
  put_same = rw (same_true p)

  pub put_other : (q : Place) → ¬ (q ≡ p) → put f p a q ≡ f q
  unfolding put
  put_other q n = rw (same_false q p n)

  -- what holds of the value put, and of the others, holds
  pub put-cases : (q : Place) (C : A → Type 0) → (q ≡ p → C a) → (¬ (q ≡ p) → C (f q)) → C (put f p a q)
  put-cases q C same other = go (place-dec q p)
    where
      go : Dec (q ≡ p) → C (put f p a q)
      go (yes e) = rw (e, put_same) (same e)
      go (no n) = rw (put_other q n) (other n)

-- the value of a slot is one that the place may have
abbrev pub SlotIn : Declared → Place → Slot → Type 0
SlotIn D p empty = Unit {0}
SlotIn D p (full v) = T (allowed D p v)

slot-in : (D : Declared) (p : Place) (s : Slot) (v : ℤ) → SlotIn D p s → s ≡ full v → T (allowed D p v)
slot-in D p s v h e = rw e at h

pub valid-put : (D : Declared) (α : Valuation) (p : Place) (s : Slot) → Valid D α → SlotIn D p s → Valid D (put α p s)
valid-put D α p s h t q w =
    put-cases α p s q (λ r. r ≡ full w → T (allowed D q w)) (λ x e. subst (λ p. T (allowed D p w)) (sym x) (slot-in D p s w t e)) (λ n. h q w)

-- ---- agreement and extension

module _ (D : Declared) (S : Scope) where
  pub ext_refl : (α : Valuation) → Ext D S α α
  ext_refl α p i v h = h

  pub ext_trans : (α β γ : Valuation) → Ext D S α β → Ext D S β γ → Ext D S α γ
  ext_trans α β γ e f p i v h = f p i v (e p i v h)

  pub agree-ext : (ρ : Env) (α β : Valuation) → Ext D S α β → Agree D S ρ β → Agree D S ρ α
  agree-ext ρ α β e a = (a.0, λ p i v h. a.1 p i v (e p i v h))

  -- at a place without a value
  pub ext-put : (α : Valuation) (p : Place) (s : Slot) → α p ≡ empty → Ext D S α (put α p s)
  ext-put α p s e q i v h = put-cases α p s q (λ r. r ≡ full v) (λ x. clash (rw x at h)) (λ n. h)
    where
      clash : α p ≡ full v → s ≡ full v
      clash f = cc

  pub agree-put :
      (ρ : Env) (α : Valuation) (p : Place) (s : Slot) → (In D S p → (v : ℤ) → s ≡ full v → ρ p ≡ v) → Agree D S ρ α →
      Agree D S ρ (put α p s)
  agree-put ρ α p s h a =
      (a.0, λ q i v. put-cases α p s q (λ r. r ≡ full v → ρ q ≡ v) (λ x e. ap ρ x ∙ h (rw x at i) v e) (λ n. a.1 q i v))

-- ---- in and out of a binder's scope

module _ (D : Declared) (S : Scope) (l : ℕ) where
  pub in-enter : (q : Place) → In D S q → In D (enter S l) q
  unfolding enter
  in-enter (cell c) i = i
  in-enter (local j) i = go (eqb j l)
    where
      go : (b : Bool) → T (pick b true (S j))
      go true = tt
      go false = i

  pub in-new : In D (enter S l) (local l)
  unfolding enter
  in-new = rw (eq-eqb l l refl) tt

  in-leave : (q : Place) → ¬ (q ≡ local l) → In D (enter S l) q → In D S q
  unfolding enter
  in-leave (cell c) n i = i
  in-leave (local j) n i = rw (ne_eqb j l (λ e. n (ap local e))) at i

  pub agree-enter :
      (ρ : Env) (v : ℤ) (β : Valuation) → ((w : ℤ) → β (local l) ≡ full w → v ≡ w) → Agree D S ρ β →
      Agree D (enter S l) (put ρ (local l) v) β
  unfolding put
  agree-enter ρ v β h a = (a.0, λ q i w e. put-cases ρ (local l) v q (λ z. z ≡ w) (λ x. h w (rw x at e)) (λ n. a.1 q (in-leave q n i) w e))

  -- an environment that gives the local the value it has in an extension
  pub agree-held :
      (ρ : Env) (v : ℤ) (α β : Valuation) → Ext D (enter S l) (put α (local l) (full v)) β → Agree D S ρ β →
      Agree D (enter S l) (put ρ (local l) v) β
  agree-held ρ v α β x = agree-enter ρ v β held
    where
      held : (w : ℤ) → β (local l) ≡ full w → v ≡ w
      held w e = let h = x (local l) in-new v (put_same α (local l) (full v)) in cc

  module _ (fresh : T (not (S l))) where
    pub in-fresh : (q : Place) → In D S q → ¬ (q ≡ local l)
    in-fresh q i e = T_not (S l) fresh (subst (In D S) e i)

    pub agree-leave : (ρ : Env) (v : ℤ) (β : Valuation) → Agree D (enter S l) (put ρ (local l) v) β → Agree D S ρ β
    unfolding put
    agree-leave ρ v β a = (a.0, λ q i w e. sym (put_other ρ (local l) v q (in-fresh q i)) ∙ a.1 q (in-enter q i) w e)

    pub ext-leave : (α β : Valuation) (s : Slot) → Ext D (enter S l) (put α (local l) s) β → Ext D S α β
    ext-leave α β s x q i w e = x q (in-enter q i) w (put_other α (local l) s q (in-fresh q i) ∙ e)

    -- the local gets a value on both sides, or none in the valuation
    pub agree-bind :
        (ρ : Env) (v : ℤ) (α : Valuation) (s : Slot) → ((w : ℤ) → s ≡ full w → v ≡ w) → Agree D S ρ α →
        Agree D (enter S l) (put ρ (local l) v) (put α (local l) s)
    agree-bind ρ v α s h a =
        agree-enter ρ v (put α (local l) s) (λ w e. h w (sym (put_same α (local l) s) ∙ e))
        (agree-put D S ρ α (local l) s (λ i. absurd (in-fresh (local l) i refl)) a)
