-- Up to the place that is reached every range is full. Assumes nothing.
use Prim.Native.Nat.{◌-◌}
use native.Mathlib.Omega.{arith}
use mathlib.Core.Path.{◌≡◌, refl, sym, ◌∙◌, ap}
use mathlib.Core.Bool.{false, true}
use lib.ListN.{drop}
use Rattle.specification.specs.Bytes.{begins}
use Rattle.mover.proofs.Laws.Ranges.{marked, narrow-none, narrow-here, narrow-later, narrow-fits}
use Rattle.mover.proofs.ranges.narrow.Goals as goal
use Rattle.mover.proofs.ranges.narrow.Goals.{Then-not-begins, Else-not-begins}

-- whether the range at the place that is reached is full
other : (c : Then-not-begins) → let l = c.loop-after in begins (marked (l.after - 1)) (drop l.p c.args.s.now) ≡ false
other c =
    let l = c.loop-after in
    ap (λ t. begins t (drop l.p c.args.s.now)) (sym c.full.ensures) ∙ sym c.begins.ensures ∙ c.if-not-begins.true

whole : (c : Else-not-begins) → let l = c.loop-after in begins (marked (l.after - 1)) (drop l.p c.args.s.now) ≡ true
whole c =
    let l = c.loop-after in
    ap (λ t. begins t (drop l.p c.args.s.now)) (sym c.full.ensures) ∙ sym c.begins.ensures ∙ c.if-not-begins.false

pub loop-after-init : goal.loop-after-init
loop-after-init c = refl

pub returns-then-not-begins : goal.returns-then-not-begins
returns-then-not-begins c =
    let l = c.loop-after in
    sym (l.invariant ∙ narrow-here c.args.s.now l.p l.after (l.after - 1) (omega (arith, c.loop-after-test.true))
    (other (goal.at.returns-then-not-begins c).Then-not-begins))

pub overflow_add-p : goal.overflow_add-p
overflow_add-p c =
    let l = c.loop-after in
    omega (arith, narrow-fits c.args.s.now l.p (l.after - 1) (whole (goal.at.overflow_add-p c).Else-not-begins))

pub loop-after-preserved : goal.loop-after-preserved
loop-after-preserved c =
    let l = c.loop-after in
    l.invariant ∙ narrow-later c.args.s.now l.p l.after (l.after - 1) (omega (arith, c.loop-after-test.true))
    (whole (goal.at.loop-after-preserved c).Else-not-begins)

pub returns : goal.returns
returns c =
    let l = c.loop-after in
    sym (l.invariant ∙ narrow-none c.args.s.now l.p l.after (omega arith))
