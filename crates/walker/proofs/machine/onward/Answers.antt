-- `machine::onward` meets its contract.
use mathlib.Core.Path.{refl}
use Rattle.std.proofs.Common.{rules}
use Rattle.walker.proofs.Laws.Started.{onward-goings, onward-went, onward-full}
use Rattle.walker.proofs.machine.onward.Goals as goal

pub returns-then-eq : goal.returns-then-eq
returns-then-eq c = onward-full (search rules) refl

pub advance-requires : goal.advance-requires
advance-requires c =
    onward-goings c.requires (search rules)

pub shape_of-w : goal.shape_of-w
shape_of-w c = c.advance.auto.w

pub returns : goal.returns
returns c =
    onward-went c.advance.ensures c.state.ensures.0 c.state.ensures.1 (search rules)
