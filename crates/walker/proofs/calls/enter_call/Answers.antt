-- `calls::enter_call` meets its contract.
use native.Mathlib.Omega.{arith}
use Rattle.search.proofs.Simple.{depth_small}
use Rattle.walker.proofs.Laws.Headed.{headed}
use Rattle.walker.proofs.Laws.Calling.{call-near, code_is, call_returns, call-saves, call-settles, call-arrives, head-inside, body-inside, body-fits}
use Rattle.walker.proofs.Laws.Calling.{call_enters}
use Rattle.walker.proofs.calls.enter_call.Goals as goal

pub overflow_add-t : goal.overflow_add-t
overflow_add-t c =
    let n = call-near c.requires c.requires.at.ins in
    let s = (call_returns c.requires c.requires.at.ins).size in
    omega arith

pub word-n-requires : goal.word-n-requires
word-n-requires c =
    let n = call-near c.requires c.requires.at.ins in
    let s = (call_returns c.requires c.requires.at.ins).size in
    omega arith

pub overflow_sub-n : goal.overflow_sub-n
overflow_sub-n c = omega (arith, c.word-n.ensures, code_is c.requires (c.requires.at.ins))

pub overflow_add-t-2 : goal.overflow_add-t-2
overflow_add-t-2 c =
    let n = call-near c.requires c.requires.at.ins in
    let s = (call_returns c.requires c.requires.at.ins).size in
    omega arith

pub overflow_add-t-3 : goal.overflow_add-t-3
overflow_add-t-3 c =
    let n = call-near c.requires c.requires.at.ins in
    let s = (call_returns c.requires c.requires.at.ins).size in
    omega arith

pub word-k-requires : goal.word-k-requires
word-k-requires c =
    let n = call-near c.requires c.requires.at.ins in
    let s = (call_returns c.requires c.requires.at.ins).size in
    omega arith

pub overflow_add-t-4 : goal.overflow_add-t-4
overflow_add-t-4 c =
    let n = call-near c.requires c.requires.at.ins in
    let s = (call_returns c.requires c.requires.at.ins).size in
    omega arith

pub overflow_add-t-5 : goal.overflow_add-t-5
overflow_add-t-5 c =
    let n = call-near c.requires c.requires.at.ins in
    let s = (call_returns c.requires c.requires.at.ins).size in
    omega arith

pub word-around-requires : goal.word-around-requires
word-around-requires c =
    let n = call-near c.requires c.requires.at.ins in
    let s = (call_returns c.requires c.requires.at.ins).size in
    omega arith

pub back-b-requires : goal.back-b-requires
back-b-requires c =
    call_returns c.requires c.requires.at.ins

pub save-top-requires : goal.save-top-requires
save-top-requires c =
    rw (c.word-n.ensures, c.word-k.ensures) (call-saves c.requires c.requires.at.ins)

pub settle-requires : goal.settle-requires
settle-requires c =
    call-settles c.requires c.requires.at.ins c.save-top.ensures c.word-around.ensures

pub arguments-set-requires : goal.arguments-set-requires
arguments-set-requires c =
    call-arrives c.requires c.requires.at.ins c.save-top.ensures c.word-around.ensures c.word-k.ensures
    c.settle.ensures

pub set_head-requires : goal.set_head-requires
set_head-requires c =
    let h = head-inside c.requires c.word-k.ensures c.save-top.ensures c.settle.ensures
    c.arguments-set.ensures in
    omega arith

pub body-requires : goal.body-requires
body-requires c =
    body-inside c.requires c.word-k.ensures c.word-n.ensures c.word-around.ensures c.back-b.ensures
    c.save-top.ensures c.settle.ensures c.arguments-set.ensures (headed _ c.word-k.result
    c.back-b.result c.args.g.due c.arguments-set.result (head-inside c.requires c.word-k.ensures
    c.save-top.ensures c.settle.ensures c.arguments-set.ensures) c.set_head.ensures)

pub overflow_mul-body : goal.overflow_mul-body
overflow_mul-body c =
    let h = body-fits c.requires c.word-k.ensures c.word-n.ensures c.word-around.ensures c.back-b.ensures
    c.save-top.ensures c.settle.ensures c.arguments-set.ensures (headed _ c.word-k.result
    c.back-b.result c.args.g.due c.arguments-set.result (head-inside c.requires c.word-k.ensures
    c.save-top.ensures c.settle.ensures c.arguments-set.ensures) c.set_head.ensures)
    c.body.ensures in
    omega arith

pub down-requires : goal.down-requires
down-requires c =
    omega (arith, depth_small c.requires.at.ins)

pub returns : goal.returns
returns c =
    call_enters c.requires c.word-k.ensures c.word-n.ensures c.word-around.ensures c.back-b.ensures
    c.save-top.ensures c.settle.ensures c.arguments-set.ensures (headed _ c.word-k.result
    c.back-b.result c.args.g.due c.arguments-set.result (head-inside c.requires c.word-k.ensures
    c.save-top.ensures c.settle.ensures c.arguments-set.ensures) c.set_head.ensures)
    c.body.ensures c.down.ensures
