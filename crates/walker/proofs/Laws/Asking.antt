-- The step into an `imp` or a `not`, for both at once. Assumes nothing.
use Prim.Native.Nat.{◌+◌, ◌<◌}
use native.Mathlib.Omega.{arith}
use mathlib.Core.Path.{◌≡◌}
use mathlib.Core.List.{[], ◌∷◌}
use mathlib.Core.Logic.{inl, inr}
use Rattle.sheet.specs.Tables.{Words}
use Rattle.search.specs.declared.Errors.TheVariants.{Unseen}
use Rattle.search.specs.declared.Go.{Go}
use Rattle.search.specs.Kept.{Pushes}
use Rattle.search.specs.Registers.{down_go}
use Rattle.search.specs.States.{inner_root, errors_word}
use Rattle.search.specs.Steps.{Visited, Stepped}
use Rattle.search.proofs.Heads.{at-form}
use Rattle.search.proofs.Inner.{imp-down, not-down}
use Rattle.walker.specs.Steps.{Asking}

module _ {w : Words} {g : Go} where
  pub asking-visited : Asking w g → Visited w g
  asking-visited (inl x) = x.at
  asking-visited (inr x) = x.at

  pub asking-near : Asking w g → g.due + 4 < 4294967296
  asking-near (inl x) = let a = at-form x.at.ins x.code (omega arith) (omega arith) in omega (arith, a.form.place, a.form.inside)
  asking-near (inr x) = let a = at-form x.at.ins x.code (omega arith) (omega arith) in omega (arith, a.form.place, a.form.inside)

  pub asking-down : Asking w g → {w' : Words} {q : Go} → Pushes w w' g.top (g.inner ∷ errors_word g.bad ∷ (g.depth + 1) ∷ g.due ∷ []) →
      q ≡ down_go g (g.due + 4) (g.top + 4) (g.depth + inner_root) Unseen → Stepped w w' g q
  asking-down (inl x) p e = imp-down x p e
  asking-down (inr x) p e = not-down x p e
