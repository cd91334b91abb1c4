-- `writer::fill` meets its contract. Assumes nothing.
use native.Mathlib.Omega.{arith}
use Prim.Native.Nat.{◌-◌}
use mathlib.Core.Path.{sym, ◌∙◌, ap}
use lib.Seq.{sets}
use Rattle.specification.specs.Number.{printℕ}
use Rattle.listing.proofs.Laws.Put.{sets-out}
use Rattle.listing.proofs.Laws.Digits.{length_some, last-all, put-digit, fewer-left, one-left, put_first}
use Rattle.listing.proofs.writer.fill.Goals as goal

pub returns-then-memory-at : goal.returns-then-memory-at
returns-then-memory-at c = let a = c.args in sym (sets-out a.memory.now a.at (printℕ a.n) c.if-memory-at.true)

pub loop-place-init : goal.loop-place-init
loop-place-init c =
    let a = c.args in
    record {
      inside = omega (arith, length_some a.n);
      digits = omega arith;
      due = ap (λ d. sets a.memory.now a.at d) (last-all (a.end - a.at) a.n (omega arith));
    }

pub loop-place-preserved : goal.loop-place-preserved
loop-place-preserved c =
    let l = c.loop-place in
    record {
      inside = omega arith;
      digits = omega (arith, fewer-left (l.place - c.args.at) l.left (omega arith) l.invariant.digits);
      due = put-digit c.args.at l.place l.left l.memory (omega arith) c.store.ensures ∙ l.invariant.due;
    }

pub overflow_cast-left-2 : goal.overflow_cast-left-2
overflow_cast-left-2 c = let l = c.loop-place in omega (arith, one-left l.left (omega (arith, l.invariant.digits, l.invariant.inside)))

pub overflow_add-left-2 : goal.overflow_add-left-2
overflow_add-left-2 c = let l = c.loop-place in omega (arith, one-left l.left (omega (arith, l.invariant.digits, l.invariant.inside)))

pub returns : goal.returns
returns c =
    let l = c.loop-place in
    put_first c.args.at l.place l.left l.memory l.invariant.inside (omega arith) (one-left l.left (omega arith)) c.store-2.ensures
    ∙ l.invariant.due
