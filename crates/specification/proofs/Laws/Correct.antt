-- What is proved of the tree of a list that begins with a formula, whatever the rest of the list is: it is sound and complete (the paper,
-- Theorems 1 and 2, for this tree). Here the two statements, and the cases `true`, `and`, `or` and `call`. Assumes nothing.
use Prim.Native.Nat.{ℕ}
use mathlib.Core.Logic.{inl, inr}
use mathlib.Core.List.{List}
use Rattle.specification.specs.Lines.{Declared}
use Rattle.specification.specs.Ast.{Term, Formula, truth, and, or, call}
use Rattle.specification.specs.Value.{Valuation}
use Rattle.specification.specs.WellFormed.{Scope, Ok, Valid}
use Rattle.specification.specs.Tree.{Rest, grow}
use Rattle.specification.specs.Plain.{Env, Truth}
use Rattle.specification.proofs.Laws.Scope.{Every, Any, Agree, Ext}
use Rattle.specification.proofs.Laws.Outside.{Covers}
use Rattle.specification.proofs.Laws.Place.{ext_refl, ext_trans, agree-ext}

-- F is true in each environment that agrees with β
abbrev pub Proves : Declared → Scope → Formula → Valuation → Type 0
Proves D S F β = (ρ : Env) → Agree D S ρ β → Truth D ρ F

-- P holds of each success leaf, if it does below the rest from each valuation that extends α and proves F
abbrev pub Sound : Declared → Formula → Type 1
Sound D F =
    (S : Scope) → Covers D S → Ok D S F → (k : Rest) (α : Valuation) → Valid D α → (P : Valuation → Type 0) →
    ((β : Valuation) → Ext D S α β → Valid D β → Proves D S F β → Every P (k β)) → Every P (grow D F k α)

-- where F is true in an environment that agrees with α: Q holds of some success or error leaf, if it does of each valuation that agrees,
-- and below the rest from each of them
abbrev pub Complete : Declared → Formula → Type 1
Complete D F =
    (S : Scope) → Covers D S → Ok D S F → (k : Rest) (α : Valuation) → Valid D α → (ρ : Env) → Agree D S ρ α → Truth D ρ F → (Q : Valuation → Type 0) →
    ((β : Valuation) → Agree D S ρ β → Q β) → ((β : Valuation) → Valid D β → Agree D S ρ β → Any Q (k β)) → Any Q (grow D F k α)

module _ (D : Declared) where
  pub truth-sound : Sound D truth
  unfolding grow Every Truth
  truth-sound S c o k α v P go = go α (ext_refl D S α) v (λ ρ a. tt)

  pub truth-complete : Complete D truth
  unfolding grow Any
  truth-complete S c o k α v ρ a t Q q go = go α v a

  pub and_sound : (F G : Formula) → Sound D F → Sound D G → Sound D (and F G)
  unfolding grow Every Ok Truth
  and_sound F G sF sG S c o k α v P go =
      sF S c o.0 (grow D G k) α v P (λ β e vb pF.
      sG S c o.1 k β vb P (λ γ f vg pG.
      go γ (ext_trans D S α β γ e f) vg (λ ρ a. (pF ρ (agree-ext D S ρ β γ f a), pG ρ a))))

  pub and-complete : (F G : Formula) → Complete D F → Complete D G → Complete D (and F G)
  unfolding grow Any Ok Truth
  and-complete F G cF cG S c o k α v ρ a t Q q go =
      cF S c o.0 (grow D G k) α v ρ a t.0 Q q (λ β vb b. cG S c o.1 k β vb ρ b t.1 Q q go)

  pub or_sound : (F G : Formula) → Sound D F → Sound D G → Sound D (or F G)
  unfolding grow Every Ok Truth
  or_sound F G sF sG S c o k α v P go = (
    sF S c o.0 k α v P (λ β e vb p. go β e vb (λ ρ a. inl (p ρ a))),
    sG S c o.1 k α v P (λ β e vb p. go β e vb (λ ρ a. inr (p ρ a))),
  )

  pub or-complete : (F G : Formula) → Complete D F → Complete D G → Complete D (or F G)
  unfolding grow Any Ok Truth
  or-complete F G cF cG S c o k α v ρ a (inl t) Q q go = inl (cF S c o.0 k α v ρ a t Q q go)
  or-complete F G cF cG S c o k α v ρ a (inr t) Q q go = inr (cG S c o.1 k α v ρ a t Q q go)

  module _ (K : ℕ) (ts : List Term) (F : Formula) where
    pub call-sound : Sound D F → Sound D (call K ts F)
    unfolding grow Every Ok Truth
    call-sound sF S c o k α v P go = sF S c o.2 k α v P go

    pub call-complete : Complete D F → Complete D (call K ts F)
    unfolding grow Any Ok Truth
    call-complete cF S c o k α v ρ a t Q q go = cF S c o.2 k α v ρ a t Q q go
