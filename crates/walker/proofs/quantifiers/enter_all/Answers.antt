-- `quantifiers::enter_all` meets its contract.
use Rattle.search.proofs.Ranges.{all_none}
use Rattle.walker.proofs.quantifiers.enter_all.Goals as goal

pub go_on-requires : goal.go_on-requires
go_on-requires c = all_none c.requires c.if-high-low.true

pub begin-requires : goal.begin-requires
begin-requires c = (c.requires, c.if-high-low.false)
