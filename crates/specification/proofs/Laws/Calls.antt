-- What a call means, in both readings: its procedure's formula with the arguments in place of the parameters. It holds of every call in a
-- formula that was read (Laws/ReadSheet: `read-well-formed`). Assumes nothing.
use Prim.Native.Nat.{ℕ}
use mathlib.Core.Path.{◌≡◌, ap}
use mathlib.Core.List.{List, ◌∷◌}
use Rattle.specification.specs.Lines.{Declared, procedure_of}
use Rattle.specification.specs.Ast.{Term, Formula, call}
use Rattle.specification.specs.Fill.{fill}
use Rattle.specification.specs.Value.{Valuation}
use Rattle.specification.specs.Tree.{step, tree_of, grow}
use Rattle.specification.specs.Plain.{Env, Truth}
use Rattle.specification.specs.WellFormed.{Scope, Ok}

module _ (D : Declared) (S : Scope) (K : ℕ) (ts : List Term) (F : Formula) (ok : Ok D S (call K ts F)) where
  abbrev filled : Formula
  filled = fill ts (procedure_of D K).formula

  -- one node, then the filled formula
  pub call-tree : (Fs : List Formula) (α : Valuation) → tree_of D (call K ts F ∷ Fs) α ≡ step (tree_of D (filled ∷ Fs) α)
  unfolding Ok tree_of grow
  call-tree Fs α = ap (λ G. step (tree_of D (G ∷ Fs) α)) ok.0.filled

  pub call-truth : (ρ : Env) → Truth D ρ (call K ts F) ≡ Truth D ρ filled
  unfolding Ok Truth
  call-truth ρ = ap (Truth D ρ) ok.0.filled
