-- `calls::leave` meets its contract.
use native.Mathlib.Omega.{arith}
use Rattle.walker.proofs.Laws.Restored.{leaving, leaving-code, leaving-high, leaving-restores, left}
use Rattle.walker.proofs.calls.leave.Goals as goal

pub overflow_add-t : goal.overflow_add-t
overflow_add-t c = let v = leaving (c.requires.0) in omega (arith, v.low, c.requires.1)

pub word-n-requires : goal.word-n-requires
word-n-requires c =
    let v = leaving c.requires.0 in
    omega (arith, v.low, c.requires.1, v.restores.reflags.slots.size)

pub overflow_sub-n : goal.overflow_sub-n
overflow_sub-n c =
    leaving-code c.args.w.now c.args.g c.args.t c.requires.1 c.word-n.ensures (leaving c.requires.0)

pub overflow_add-t-2 : goal.overflow_add-t-2
overflow_add-t-2 c =
    let v = leaving c.requires.0 in
    omega (arith, v.low, c.requires.1)

pub overflow_add-t-3 : goal.overflow_add-t-3
overflow_add-t-3 c =
    let v = leaving c.requires.0 in
    omega (arith, v.low, c.requires.1)

pub word-k-requires : goal.word-k-requires
word-k-requires c =
    let v = leaving c.requires.0 in
    omega (arith, v.low, c.requires.1, v.restores.reflags.slots.size)

pub overflow_sub-from : goal.overflow_sub-from
overflow_sub-from c = omega (arith, (leaving (c.requires.0)).high)

pub overflow_sub-from-2 : goal.overflow_sub-from-2
overflow_sub-from-2 c =
    let h = leaving-high c.args.w.now c.args.g c.args.t c.requires.1 c.word-n.ensures
    (leaving c.requires.0) in
    omega arith

pub restore-requires : goal.restore-requires
restore-requires c =
    leaving-restores c.args.w.now c.args.g c.args.t c.requires.1 c.word-n.ensures
    c.word-k.ensures (leaving c.requires.0)

pub returns : goal.returns
returns c =
    left c.args.w.now c.args.g c.args.t c.requires.1 c.word-n.ensures c.word-k.ensures
    c.restore.ensures c.dropped.ensures
