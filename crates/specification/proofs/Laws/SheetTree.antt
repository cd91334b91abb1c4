-- Demand 3 over the leaves of a sheet's tree: no local is bound at its root, and a filling stands for the environment. Assumes nothing.
use Prim.Native.Nat.{ℕ, ◌<◌}
use mathlib.Core.Path.{◌≡◌}
use mathlib.Core.List.{[], ◌∷◌}
use lib.IntN.{ℤ}
use Rattle.specification.specs.Lines.{Declared, cells}
use Rattle.specification.specs.Ast.{Formula}
use Rattle.specification.specs.Place.{Place, cell, local}
use Rattle.specification.specs.Value.{full, Valuation}
use Rattle.specification.specs.WellFormed.{nowhere, Ok, Valid}
use Rattle.specification.specs.Tree.{tree_of}
use Rattle.specification.specs.Plain.{Truth, Filling, env, Fills}
use Rattle.specification.proofs.Laws.Scope.{Every, Any, In, Agree}
use Rattle.specification.proofs.Laws.Outside.{covers-nowhere}
use Rattle.specification.proofs.Laws.Truth.{laws}

-- a filling agrees with the declared cells that have a value
abbrev pub Matches : Declared → Filling → Valuation → Type 0
Matches D φ β = (c : ℕ) → c < cells D → (v : ℤ) → β (cell c) ≡ full v → φ c ≡ v

-- β at a success leaf of the tree from α
pub record Answer (D : Declared) (F : Formula) (α β : Valuation) : Type 0 where
  pub keeps : (c : ℕ) → c < cells D → (v : ℤ) → α (cell c) ≡ full v → β (cell c) ≡ full v
  pub valid : Valid D β
  pub proves : (φ : Filling) → Fills D φ → Matches D φ β → Truth D (env φ) F

matches-agree : (D : Declared) (φ : Filling) (β : Valuation) → Fills D φ → Matches D φ β → Agree D nowhere (env φ) β
unfolding Fills
matches-agree D φ β f m = (f, agrees)
  where
    agrees : (p : Place) → In D nowhere p → (v : ℤ) → β p ≡ full v → env φ p ≡ v
    agrees (cell c) i = m c i
    agrees (local l) i = absurd i

module _ (D : Declared) (F : Formula) (o : Ok D nowhere F) (α : Valuation) (v : Valid D α) where
  pub sound : Every (Answer D F α) (tree_of D (F ∷ []) α)
  unfolding tree_of Every
  sound =
      (laws D F).0 nowhere (covers-nowhere D) o (tree_of D []) α v (Answer D F α) (λ β e vb pr.
      record { keeps = λ c. e (cell c); valid = vb; proves = λ φ f m. pr (env φ) (matches-agree D φ β f m) })

  pub complete : (φ : Filling) → Fills D φ → Matches D φ α → Truth D (env φ) F → Any (Matches D φ) (tree_of D (F ∷ []) α)
  unfolding tree_of Any
  complete φ f m t =
      (laws D F).1 nowhere (covers-nowhere D) o (tree_of D []) α v (env φ) (matches-agree D φ α f m) t (Matches D φ) (λ β a c. a.1 (cell c))
      (λ β vb a c. a.1 (cell c))
