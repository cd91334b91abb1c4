-- `quantifiers::enter_some` meets its contract.
use Rattle.search.proofs.Ranges.{some-none}
use Rattle.walker.proofs.quantifiers.enter_some.Goals as goal

pub fail-requires : goal.fail-requires
fail-requires c = some-none c.requires c.if-high-low.true

pub open-requires : goal.open-requires
open-requires c = (c.requires, c.if-high-low.false)
