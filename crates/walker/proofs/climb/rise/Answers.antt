-- `climb::rise` meets its contract.
use native.Mathlib.Omega.{arith}
use Rattle.walker.proofs.Laws.Reach.{rises-top, top-reach}
use Rattle.walker.proofs.Laws.Risen.{over-rose, rises-slot, undone-rose, rises-from}
use Rattle.walker.proofs.climb.rise.Goals as goal

pub returns-then-g-eq-PATH : goal.returns-then-g-eq-PATH
returns-then-g-eq-PATH c = over-rose c.requires c.if-g-eq-PATH.true c.out.ensures

pub overflow_sub-g : goal.overflow_sub-g
overflow_sub-g c = omega (arith, (top-reach (rises-top c.requires c.if-g-eq-PATH.false)).low)

pub at-x-requires : goal.at-x-requires
at-x-requires c = let r = top-reach (rises-top c.requires c.if-g-eq-PATH.false) in omega (arith, r.low, r.high)

pub undo-requires : goal.undo-requires
undo-requires c = (rises-slot c.requires c.if-g-eq-PATH.false c.at-x.ensures c.if-x-ge-SLOTS.true, c.at-x.ensures)

pub returns-then-x-ge-SLOTS : goal.returns-then-x-ge-SLOTS
returns-then-x-ge-SLOTS c = undone-rose c.requires (rises-slot c.requires c.if-g-eq-PATH.false c.at-x.ensures c.if-x-ge-SLOTS.true) c.undo.ensures

pub rise_token-requires : goal.rise_token-requires
rise_token-requires c = rises-from c.requires c.if-g-eq-PATH.false c.at-x.ensures c.if-x-ge-SLOTS.false
