-- Negation and implication (document 02, Two). What an inner tree tells of its formula, both ways: a success leaf, which gave nothing, makes it
-- true in every environment (a filling, and values for the locals bound around) that agrees with the valuation at the `not` or `imp`; failure
-- leaves only means that it is true in none. So `not` and `imp` are sound and complete; each half needs the other half at the inner formula.
-- With both halves proved, the two are laws of every formula: inner-success-true and inner-failures-false in Truth.antt. Assumes nothing.
use Prim.Native.Nat.{ℕ}
use mathlib.Core.Path.{◌≡◌, refl}
use mathlib.Core.Bool.{Bool, true, false}
use lib.IntN.{ℤ}
use Rattle.specification.specs.Bytes.{pick}
use Rattle.specification.specs.Lines.{Declared}
use Rattle.specification.specs.Ast.{Formula, imp, neg}
use Rattle.specification.specs.Arithmetic.{undecided_inside}
use Rattle.specification.specs.Place.{Place}
use Rattle.specification.specs.Value.{Slot, empty, full, Valuation}
use Rattle.specification.specs.WellFormed.{Scope, Ok, Valid}
use Rattle.specification.specs.Outside.{gave}
use Rattle.specification.specs.Tree.{Tree, success_leaf, error_leaf, succeeds, fails, undecided, verdict, denied, implied, done_inside, grow}
use Rattle.specification.specs.Plain.{Env, Truth}
use Rattle.specification.proofs.Laws.Contradiction.{contradiction}
use Rattle.specification.proofs.Laws.Scope.{Every, Any, In, Agree, Ext}
use Rattle.specification.proofs.Laws.Outside.{Covers, gave-none, in-declares, in-outside}
use Rattle.specification.proofs.Laws.Place.{ext_refl}
use Rattle.specification.proofs.Laws.Inner.{fails-none, succeeds-one}
use Rattle.specification.proofs.Laws.Every.{enquire-every, enquire-any}
use Rattle.specification.proofs.Laws.Correct.{Proves, Sound, Complete}

-- the inner tree of F, asked for under α
abbrev pub inner_tree : Declared → Formula → Valuation → Tree
inner_tree D F α = grow D F (done_inside D F α) α

-- true in no environment that agrees with the valuation
abbrev pub Refutes : Declared → Scope → Formula → Valuation → Type 0
Refutes D S F α = (ρ : Env) → Agree D S ρ α → ¬ Truth D ρ F

-- ---- what the inner tree tells

-- the leaf below the empty list, by whether something was given
abbrev leaf_inside : Bool → Valuation → Tree
leaf_inside given β = pick given (error_leaf undecided_inside 0 β) (success_leaf β)

leaf-every : (P : Valuation → Type 0) (given : Bool) (β : Valuation) → (given ≡ false → P β) → Every P (leaf_inside given β)
unfolding Every
leaf-every P true β h = tt
leaf-every P false β h = h refl

leaf-any : (Q : Valuation → Type 0) (given : Bool) (β : Valuation) → Q β → Any Q (leaf_inside given β)
unfolding Any
leaf-any Q true β h = h
leaf-any Q false β h = h

module _ (D : Declared) (F : Formula) (S : Scope) (c : Covers D S) (o : Ok D S F) (α : Valuation) where
  -- β extends α and gave nothing: what agrees with α agrees with β
  agree-given : (β : Valuation) → Ext D S α β → gave D F α β ≡ false → (ρ : Env) → Agree D S ρ α → Agree D S ρ β
  agree-given β x n ρ a = (a.0, λ p i v e. go p i v e (α p) refl)
    where
      go : (p : Place) → In D S p → (v : ℤ) → β p ≡ full v → (s : Slot) → α p ≡ s → ρ p ≡ v
      go p i v e empty f = let g = gave-none D F α β n p (in-declares D S c p i) (in-outside D S F o p i) f in contradiction cc
      go p i v e (full u) f = let g = x p i u f in let h = a.1 p i u f in cc

  -- a leaf that gave nothing: where its valuation proves F, so does α
  pub gave-nothing-proves : (β : Valuation) → Ext D S α β → Proves D S F β → gave D F α β ≡ false → Proves D S F α
  gave-nothing-proves β x pr n ρ a = pr ρ (agree-given β x n ρ a)

  module _ (v : Valid D α) where
    -- each success leaf gave nothing, so F is true in each environment that agrees with α
    success-proves : Sound D F → Every (λ β. Proves D S F α) (inner_tree D F α)
    unfolding Every done_inside
    success-proves sF =
        sF S c o (done_inside D F α) α v (λ β. Proves D S F α) (λ β x vb pr.
        leaf-every (λ β. Proves D S F α) (gave D F α β) β (gave-nothing-proves β x pr))

    -- so where the inner tree succeeds, F is true in each of them
    pub succeeds-proves : Sound D F → verdict (inner_tree D F α) ≡ succeeds → Proves D S F α
    succeeds-proves sF e = (succeeds-one (λ β. Proves D S F α) (inner_tree D F α) e (success-proves sF)).1

    -- failure leaves only: F is true in none of them
    pub fails-refutes : Complete D F → verdict (inner_tree D F α) ≡ fails → Refutes D S F α
    unfolding Any done_inside
    fails-refutes cF e ρ a t =
        fails-none (λ β. Unit {0}) (inner_tree D F α) e
        (cF S c o (done_inside D F α) α v ρ a t (λ β. Unit {0}) (λ β b. tt) (λ β vb b. leaf-any (λ β. Unit {0}) (gave D F α β) β tt))

-- ---- `not` and `imp`

module _ (D : Declared) (tok : ℕ) (F : Formula) (sF : Sound D F) (cF : Complete D F) where
  pub neg-sound : Sound D (neg tok F)
  unfolding grow Every Ok Truth
  neg-sound S c o k α v P go =
      enquire-every P (grow D F (done_inside D F α)) (λ w. denied tok w k) α
      (elim [ succeeds ↦ λ e. tt | fails ↦ λ e. go α (ext_refl D S α) v (fails-refutes D F S c o α v cF e) | undecided ↦ λ e. tt ])

  pub neg-complete : Complete D (neg tok F)
  unfolding grow Any Ok Truth
  neg-complete S c o k α v ρ a t Q q go =
      enquire-any Q (grow D F (done_inside D F α)) (λ w. denied tok w k) α
      (elim [ succeeds ↦ λ e. t (succeeds-proves D F S c o α v sF e ρ a) | fails ↦ λ e. go α v a | undecided ↦ λ e. q α a ])

  pub imp-sound : (G : Formula) → Sound D G → Sound D (imp tok F G)
  unfolding grow Every Ok Truth
  imp-sound G sG S c o k α v P go =
      enquire-every P (grow D F (done_inside D F α)) (λ w. implied tok w (grow D G k) k) α
      (elim [
        | succeeds ↦ λ e. sG S c o.1 k α v P (λ β x vb pG. go β x vb (λ ρ a f. pG ρ a))
        | fails ↦ λ e. go α (ext_refl D S α) v (λ ρ a f. absurd (fails-refutes D F S c o.0 α v cF e ρ a f))
        | undecided ↦ λ e. tt
      ])

  pub imp-complete : (G : Formula) → Complete D G → Complete D (imp tok F G)
  unfolding grow Any Ok Truth
  imp-complete G cG S c o k α v ρ a t Q q go =
      enquire-any Q (grow D F (done_inside D F α)) (λ w. implied tok w (grow D G k) k) α
      (elim [
        | succeeds ↦ λ e. cG S c o.1 k α v ρ a (t (succeeds-proves D F S c o.0 α v sF e ρ a)) Q q go
        | fails ↦ λ e. go α v a
        | undecided ↦ λ e. q α a
      ])
