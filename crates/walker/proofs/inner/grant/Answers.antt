-- `inner::grant` meets its contract.
use native.Mathlib.Omega.{arith}
use Rattle.walker.proofs.Laws.Reach.{asks-lies}
use Rattle.walker.proofs.Laws.Risen.{grants-arounds, grants-second, grants-failure}
use Rattle.walker.proofs.inner.grant.Goals as goal

pub overflow_sub-g : goal.overflow_sub-g
overflow_sub-g c = omega (arith, (asks-lies (c.requires).asks).reach.low)

pub at-t-requires : goal.at-t-requires
at-t-requires c = let r = (asks-lies (c.requires).asks).reach in omega (arith, r.low, r.high)

pub word-requires : goal.word-requires
word-requires c = let t = asks-lies (c.requires).asks in omega (arith, t.token, c.at-t.ensures, t.reach.low, t.reach.high)

pub overflow_add-t : goal.overflow_add-t
overflow_add-t c = let t = asks-lies (c.requires).asks in omega (arith, t.token, c.at-t.ensures)

pub word-requires-then-word-eq-IMP : goal.word-requires-then-word-eq-IMP
word-requires-then-word-eq-IMP c = let t = asks-lies (c.requires).asks in omega (arith, t.token, c.at-t.ensures, t.reach.low, t.reach.high)

pub around-requires : goal.around-requires
around-requires c = grants-arounds c.requires

pub returns-then-word-eq-IMP : goal.returns-then-word-eq-IMP
returns-then-word-eq-IMP c = grants-second c.requires c.at-t.ensures c.word.ensures c.if-word-eq-IMP.true c.word-then-word-eq-IMP.ensures c.around.ensures

pub around-requires-2 : goal.around-requires-2
around-requires-2 c = grants-arounds c.requires

pub returns : goal.returns
returns c = grants-failure c.requires c.at-t.ensures c.word.ensures c.if-word-eq-IMP.false c.around-2.ensures
