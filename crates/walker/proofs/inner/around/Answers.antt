-- `inner::around` meets its contract.
use native.Mathlib.Omega.{arith}
use mathlib.Core.Path.{◌∙◌, ap}
use lib.Dec.{eqb}
use Rattle.search.specs.States.{errors_of}
use Rattle.walker.proofs.Laws.Back.{around-is, around_depth}
use Rattle.walker.proofs.Laws.Reach.{asks-lies}
use Rattle.walker.proofs.inner.around.Goals as goal

pub at-inner-requires : goal.at-inner-requires
at-inner-requires c = let r = (asks-lies (c.requires).asks).reach in omega (arith, r.low, r.high)

pub at-requires : goal.at-requires
at-requires c = let r = (asks-lies (c.requires).asks).reach in omega (arith, r.low, r.high)

pub at-depth-requires : goal.at-depth-requires
at-depth-requires c = let r = (asks-lies (c.requires).asks).reach in omega (arith, r.low, r.high)

pub resumed-requires : goal.resumed-requires
resumed-requires c = (around_depth c.requires c.at-depth.ensures, (c.requires).visits)

pub returns : goal.returns
returns c =
    around-is c.args.w.now c.args.g c.args.setting (c.requires).high c.at-inner.ensures (c.errors_of-bad.ensures ∙ ap (λ x. errors_of (eqb x 1)) c.at.ensures) c.at-depth.ensures c.resumed.ensures
