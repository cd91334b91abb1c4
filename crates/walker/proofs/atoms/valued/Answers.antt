-- `atoms::valued` meets its contract.
use Rattle.walker.proofs.Laws.Atoms.{eq-checks, ne-checks, lt-checks, le-checks, gt-checks, ge-checks, all_left}
use Rattle.walker.proofs.atoms.valued.Goals as goal

pub check-requires : goal.check-requires
check-requires c = eq-checks (rw c.in-6.is at c.requires.0)

pub check-requires-in-7 : goal.check-requires-in-7
check-requires-in-7 c = ne-checks (rw c.in-7.is at c.requires.0)

pub check-requires-in-8 : goal.check-requires-in-8
check-requires-in-8 c = lt-checks (rw c.in-8.is at c.requires.0)

pub check-requires-in-9 : goal.check-requires-in-9
check-requires-in-9 c = le-checks (rw c.in-9.is at c.requires.0)

pub check-requires-in-10 : goal.check-requires-in-10
check-requires-in-10 c = gt-checks (rw c.in-10.is at c.requires.0)

pub check-requires-in-11 : goal.check-requires-in-11
check-requires-in-11 c = ge-checks (rw c.in-11.is at c.requires.0)

pub enter_some-requires : goal.enter_some-requires
enter_some-requires c = rw c.in-13.is at c.requires.0

pub enter_all-requires : goal.enter_all-requires
enter_all-requires c =
    let r = c.in_default.in_default-own.rest in
    let e =
    all_left c.args.code c.requires.1 r.0.0.0.0.0.0.1 r.0.0.0.0.0.1 r.0.0.0.0.1
    r.0.0.0.1 r.0.0.1 r.0.1 r.1 in
    rw e at c.requires.0
