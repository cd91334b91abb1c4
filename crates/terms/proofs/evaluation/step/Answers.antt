-- `evaluation::step` meets its contract: each code goes to the function of its kind. Assumes nothing.
use Prim.Native.Nat.{◌+◌, ◌<◌}
use native.Mathlib.Omega.{arith}
use Rattle.tables.specs.Layout.{cells_at, locals_at, dues_at, cell_slot, local_slot}
use Rattle.terms.specs.Parts.{Room}
use Rattle.terms.proofs.Laws.Step.{array-asked, array-stepped, place-asked}
use Rattle.terms.proofs.Laws.Step.{parameter-asked}
use Rattle.terms.proofs.evaluation.step.Goals as goal
use Rattle.terms.proofs.evaluation.step.Goals.{After-operand, After-place-arg-1}

-- what `place` requires of a local's slot, and of a scalar's
at_local : (c : After-operand) →
    (local_slot c.operand.result + 1 < dues_at) × Room c.args.w.now dues_at c.args.s.at
at_local c =
    let a = c.args in
    let k = c.if-k-eq-LOCAL.true in
    place-asked a.w.now a.s a.i a.env c.code-k.ensures c.operand.ensures locals_at (omega (arith, k)) c.requires

at-scalar : (c : After-place-arg-1) →
    (cell_slot c.operand-n.result + 1 < dues_at) × Room c.args.w.now dues_at c.args.s.at
at-scalar c =
    let a = c.args in
    let k = c.if-k-eq-SCALAR.true in
    place-asked a.w.now a.s a.i a.env c.code-k.ensures c.operand-n.ensures cells_at (omega (arith, k)) c.requires

pub element-requires : goal.element-requires
element-requires c =
    let a = c.args in
    array-asked a.w.now a.s a.i a.env c.code-k.ensures c.operand-n.ensures c.requires c.if-k-eq-ARRAY.true

pub returns-then-k-eq-ARRAY : goal.returns-then-k-eq-ARRAY
returns-then-k-eq-ARRAY c =
    let a = c.args in
    array-stepped a.w.now a.s a.i a.env c.code-k.ensures c.operand-n.ensures c.if-k-eq-ARRAY.true c.element.ensures

pub parameter-requires : goal.parameter-requires
parameter-requires c =
    let a = c.args in
    parameter-asked a.w.now a.s a.i a.env c.code-k.ensures c.operand-n.ensures c.if-k-lt-CONSTANT.false c.if-k-eq-SCALAR.false
    c.if-k-eq-LOCAL.false c.if-k-eq-ARRAY.false c.if-k-eq-CONSTANT.false c.requires
