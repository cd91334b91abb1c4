-- `climb::release_token` meets its contract.
use native.Mathlib.Omega.{arith}
use Rattle.walker.proofs.Laws.Reach.{top-reach}
use Rattle.walker.proofs.Laws.Inside.{wins-top}
use Rattle.walker.proofs.Laws.Released.{wins-of, other-fell, closed-fell, ended-fell, left-fell, wins-call}
use Rattle.walker.proofs.climb.release_token.Goals as goal

pub overflow_sub-g : goal.overflow_sub-g
overflow_sub-g c = let r = top-reach (wins-top (c.requires).releases.wins) in omega (arith, r.low)

pub close-requires : goal.close-requires
close-requires c = (wins-of c.requires c.word-code.ensures c.in-13.is, (c.requires).releases.word)

pub end-requires : goal.end-requires
end-requires c = (wins-of c.requires c.word-code.ensures c.in-14.is, (c.requires).releases.word)

pub leave-requires : goal.leave-requires
leave-requires c =
    let r = c.in_default.in_default-own.rest in
    (wins-of c.requires c.word-code.ensures (wins-call c.requires c.word-code.ensures r.0.0.1 r.0.1 r.1), (c.requires).releases.word)

pub returns-in-3 : goal.returns-in-3
returns-in-3 c = other-fell c.requires c.word-code.ensures c.in-3.is c.dropped.ensures

pub returns-in-13 : goal.returns-in-13
returns-in-13 c = closed-fell c.requires c.word-code.ensures c.in-13.is c.close.ensures

pub returns-in-14 : goal.returns-in-14
returns-in-14 c = ended-fell c.requires c.word-code.ensures c.in-14.is c.end.ensures

pub returns-in_default : goal.returns-in_default
returns-in_default c =
    let r = c.in_default.in_default-own.rest in
    left-fell c.requires c.word-code.ensures (wins-call c.requires c.word-code.ensures r.0.0.1 r.0.1 r.1) c.leave.ensures
