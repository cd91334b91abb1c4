-- By what each code is. Assumes nothing.
use Prim.Native.Nat.{◌+◌}
use native.Mathlib.Omega.{arith}
use mathlib.Core.Path.{sym, ◌∙◌}
use Rattle.mover.proofs.Laws.Words.{inside, empty-low, empty-high, lower-other, upper-other, empty-bounds}
use Rattle.mover.proofs.words.empty_at.Goals as goal
use Rattle.mover.proofs.words.empty_at.Goals.{else-c-ge-SOME-via-else-c-ge-SOME as low}
use Rattle.mover.proofs.words.empty_at.Goals.{else-c-ge-SOME-via-then-c-ge-SOME+else-c-le-ALL as high}
use Rattle.mover.proofs.words.empty_at.Goals.{else-c-ge-SOME-via-then-c-ge-SOME+then-c-le-ALL+else-code-eq-CONSTANT as lower}
use Rattle.mover.proofs.words.empty_at.Goals.{else-c-ge-SOME-via-then-c-ge-SOME+then-c-le-ALL+then-code-eq-CONSTANT+else-code-eq-CONSTANT-2 as upper}

pub operand-requires : goal.operand-requires
operand-requires c =
    let k = c.code-then-code-eq-CONSTANT.ensures in
    omega (arith, inside c.args.w.now (c.args.i + 3) (omega (arith, k, c.if-code-eq-CONSTANT-2.true)), c.requires.0)

pub operand-requires-then-code-eq-CONSTANT-2 : goal.operand-requires-then-code-eq-CONSTANT-2
operand-requires-then-code-eq-CONSTANT-2 c =
    omega (arith, inside c.args.w.now (c.args.i + 2) (omega (arith, c.code.ensures, c.if-code-eq-CONSTANT.true)), c.requires.0)

pub returns-then-code-eq-CONSTANT-2 : goal.returns-then-code-eq-CONSTANT-2
returns-then-code-eq-CONSTANT-2 c =
    let a = c.args in
    let e = c.code-c.ensures in
    sym (empty-bounds a.w.now a.i (omega (arith, e, c.if-c-ge-SOME.true)) (omega (arith, e, c.if-c-le-ALL.true))
    (sym c.code.ensures ∙ c.if-code-eq-CONSTANT.true) (sym c.code-then-code-eq-CONSTANT.ensures ∙ c.if-code-eq-CONSTANT-2.true)
    ∙ rw (← c.operand.ensures, ← c.operand-then-code-eq-CONSTANT-2.ensures))

pub returns-else-c-ge-SOME : goal.returns-else-c-ge-SOME
returns-else-c-ge-SOME c =
    let a = c.args in
    let e = c.code-c.ensures in
    elim c.else-c-ge-SOME.branch [
      | low w ↦ sym (empty-low a.w.now a.i (omega (arith, e, w.if-c-ge-SOME.false)))
      | high w ↦ sym (empty-high a.w.now a.i (omega (arith, e, w.if-c-ge-SOME.true)) (omega (arith, e, w.if-c-le-ALL.false)))
      | lower w ↦
          sym (lower-other a.w.now a.i (omega (arith, e, w.if-c-ge-SOME.true)) (omega (arith, e, w.if-c-le-ALL.true))
          (λ q. w.if-code-eq-CONSTANT.false (w.code.ensures ∙ q)))
      | upper w ↦
          sym (upper-other a.w.now a.i (omega (arith, e, w.if-c-ge-SOME.true)) (omega (arith, e, w.if-c-le-ALL.true))
          (sym w.code.ensures ∙ w.if-code-eq-CONSTANT.true)
          (λ q. w.if-code-eq-CONSTANT-2.false (w.code-then-code-eq-CONSTANT.ensures ∙ q)))
    ]
