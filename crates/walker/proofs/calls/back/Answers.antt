-- `calls::back` meets its contract.
use native.Mathlib.Omega.{arith}
use Rattle.walker.proofs.Laws.Saved.{back-returned, back-straight}
use Rattle.walker.proofs.calls.back.Goals as goal

pub next-n-requires : goal.next-n-requires
next-n-requires c = omega (arith, c.requires.token, c.requires.size)

pub word-requires : goal.word-requires
word-requires c = omega (arith, c.requires.next, c.requires.size, c.next-n.ensures)

pub overflow_add-n : goal.overflow_add-n
overflow_add-n c = omega (arith, c.requires.next, c.next-n.ensures)

pub word-requires-then-word-eq-RETURN_CODE : goal.word-requires-then-word-eq-RETURN_CODE
word-requires-then-word-eq-RETURN_CODE c =
    omega (arith, c.requires.next, c.requires.size, c.next-n.ensures)

pub returns-then-word-eq-RETURN_CODE : goal.returns-then-word-eq-RETURN_CODE
returns-then-word-eq-RETURN_CODE c =
    back-returned c.args.w.now c.args.t c.next-n.ensures c.word.ensures c.if-word-eq-RETURN_CODE.true
    c.word-then-word-eq-RETURN_CODE.ensures

pub returns : goal.returns
returns c =
    back-straight c.args.w.now c.args.t c.next-n.ensures c.word.ensures c.if-word-eq-RETURN_CODE.false
