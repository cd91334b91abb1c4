-- `atoms::check` meets its contract.
use Rattle.walker.proofs.atoms.check.Goals as goal

pub go_on-requires : goal.go_on-requires
go_on-requires c = c.requires.yes c.if-holds.true

pub fail-requires : goal.fail-requires
fail-requires c = c.requires.no c.if-holds.false
