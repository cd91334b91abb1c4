-- `connectives::enter_true` meets its contract.
use Rattle.search.proofs.Simple.{true-goes}
use Rattle.walker.proofs.connectives.enter_true.Goals as goal

pub go_on-requires : goal.go_on-requires
go_on-requires c = true-goes c.requires
