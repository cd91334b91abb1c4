-- The lines that are left begin at p. Assumes nothing.
use Prim.Native.Nat.{◌-◌, ◌+◌}
use native.Mathlib.Omega.{arith}
use mathlib.Core.Path.{sym, ◌∙◌}
use lib.ListN.{drop, length-drop}
use Rattle.mover.proofs.Laws.Lines.{line_length-≤, lines-all, lines_none, lines_more}
use Rattle.mover.proofs.lines.lines_end.Goals as goal

pub loop-line-init : goal.loop-line-init
loop-line-init c = (omega arith, lines-all c.args.s.now c.args.n _ (omega arith))

pub loop-line-preserved : goal.loop-line-preserved
loop-line-preserved c =
    let s = c.args.s.now in
    let n = c.args.n in
    let l = c.loop-line in
    let e = c.line_end-p.ensures in (
      omega (arith, e, line_length-≤ (drop l.p s), length-drop l.p s, l.invariant.0),
      sym (lines_more s l.p c.line_end-p.result (n - l._line) (n - (l._line + 1)) e (omega arith)) ∙ l.invariant.1,
    )

pub returns : goal.returns
returns c =
    let l = c.loop-line in
    let n = c.args.n in
    omega (arith, l.invariant.1, lines_none (n - l._line) (drop l.p c.args.s.now) (omega arith))
