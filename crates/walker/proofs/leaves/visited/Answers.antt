-- `leaves::visited` meets its contract.
use native.Mathlib.Omega.{arith}
use mathlib.Core.Path.{◌∙◌, ap}
use Rattle.specification.specs.Run.{tallies}
use Rattle.walker.proofs.leaves.visited.Goals as goal

pub returns : goal.returns
returns c =
    let g = c.args.g in
    let h = c.requires in
    c.visited.ensures ∙ ap (λ n. tallies n g.tallies.answers g.tallies.errors g.tallies.fails) (omega (arith, h.begun))
