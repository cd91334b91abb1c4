-- `climb::rise_token` meets its contract.
use Rattle.walker.proofs.Laws.Risen.{rises-to, rises-of, ended-rose, left-rose, rises-judges}
use Rattle.walker.proofs.climb.rise_token.Goals as goal

pub other-requires : goal.other-requires
other-requires c = rises-to c.requires c.word-code.ensures c.in-3.is

pub value-requires : goal.value-requires
value-requires c = rises-to c.requires c.word-code.ensures c.in-13.is

pub end-requires : goal.end-requires
end-requires c = (rises-of c.requires c.word-code.ensures c.in-14.is, (c.requires).token)

pub leave-requires : goal.leave-requires
leave-requires c = (rises-of c.requires c.word-code.ensures c.in-15.is, (c.requires).token)

pub judge-requires : goal.judge-requires
judge-requires c = let r = c.in_default.in_default-own.rest in rises-judges c.requires c.word-code.ensures r.0.0.0.1 r.0.0.1 r.0.1 r.1

pub returns-in-14 : goal.returns-in-14
returns-in-14 c = ended-rose c.requires c.word-code.ensures c.in-14.is c.end.ensures

pub returns-in-15 : goal.returns-in-15
returns-in-15 c = left-rose c.requires c.word-code.ensures c.in-15.is c.leave.ensures
