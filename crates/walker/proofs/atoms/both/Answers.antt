-- `atoms::both` meets its contract.
use Rattle.walker.proofs.Laws.Told.{plans-here, told-knows, told-entered, full-knows}
use Rattle.walker.proofs.atoms.both.Goals as goal

pub quick-s-requires : goal.quick-s-requires
quick-s-requires c = let a = c.requires in plans-here a.0 a.1

pub returns-then-s-ne-UNKNOWN : goal.returns-then-s-ne-UNKNOWN
returns-then-s-ne-UNKNOWN c =
    let a = c.requires in
    told-knows a.0 a.1 c.quick-s.ensures c.if-s-ne-UNKNOWN.true

pub full-requires : goal.full-requires
full-requires c =
    let a = c.requires in
    (told-entered a.0 a.1 c.quick-s.ensures, a.1)

pub returns : goal.returns
returns c =
    let a = c.requires in
    full-knows a.0 a.1 c.quick-s.ensures c.full.ensures
