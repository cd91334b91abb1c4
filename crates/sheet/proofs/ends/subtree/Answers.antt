-- Past each operand; the invariant is `Passing`. Assumes nothing.
use Prim.Native.Nat.{◌+◌, ◌-◌}
use native.Mathlib.Omega.{arith}
use mathlib.Core.Path.{◌≡◌, ◌∙◌, ap}
use Rattle.sheet.specs.Sorts.{arity}
use Rattle.sheet.specs.Ends.{tokens_in}
use Rattle.sheet.proofs.Subtrees.{passing-first, passing-more, passing-end}
use Rattle.sheet.proofs.ends.subtree.Goals as goal

pub loop-init : goal.loop-init
loop-init c =
    let all : c.arity-end.result - 0 ≡ c.arity-end.result = omega arith in
    rw all (passing-first c.args.w.now c.args.n c.args.i _ c.requires.0 (c.arity-end.ensures ∙ ap arity c.code.ensures))

pub loop-preserved : goal.loop-preserved
loop-preserved c =
    let l = c.loop in
    let less : c.arity-end.result - (l.counter + 1) ≡ c.arity-end.result - l.counter - 1 = omega arith in
    rw less (passing-more c.args.w.now c.args.n c.args.i l.e (c.arity-end.result - l.counter) _ c.requires.3 (omega arith) c.end-e.ensures l.invariant)

pub returns : goal.returns
returns c =
    let l = c.loop in
    let none : c.arity-end.result - l.counter ≡ 0 = omega arith in
    passing-end (tokens_in c.args.w.now 0 c.args.n) c.args.i l.e (rw none at l.invariant)
