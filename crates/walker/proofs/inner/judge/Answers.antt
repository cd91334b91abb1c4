-- `inner::judge` meets its contract.
use native.Mathlib.Omega.{arith}
use Rattle.walker.proofs.Laws.Reach.{asks-lies}
use Rattle.walker.proofs.Laws.Risen.{judges-arounds, judged-undecided, judged-failed}
use Rattle.walker.proofs.inner.judge.Goals as goal

pub around-q-requires : goal.around-q-requires
around-q-requires c = judges-arounds c.requires

pub set_error-requires : goal.set_error-requires
set_error-requires c = let r = (asks-lies (c.requires).asks).reach in omega (arith, r.low, r.high)

pub returns-in-Seen : goal.returns-in-Seen
returns-in-Seen c = judged-undecided c.requires c.set_error.ensures c.in-Seen.is c.around-q.ensures

pub next-requires : goal.next-requires
next-requires c =
    let p = c.requires in
    let t = asks-lies p.asks in
    omega (arith, t.token, p.token, t.reach.low, t.reach.high)

pub around-requires : goal.around-requires
around-requires c = judges-arounds c.requires

pub returns-in-Unseen : goal.returns-in-Unseen
returns-in-Unseen c = judged-failed c.requires c.next.ensures c.in-Unseen.is c.around.ensures
