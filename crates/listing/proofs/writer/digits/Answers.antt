-- `listing::writer::digits` meets its contract: the digits counted and those of the number that is left are those of n and one more.
-- Assumes nothing.
use native.Mathlib.Omega.{arith}
use mathlib.Core.Path.{ap}
use lib.ListN.{length}
use Rattle.specification.proofs.Laws.Canonical.{print-one}
use Rattle.listing.proofs.Laws.Digits.{length_more, length-within}
use Rattle.listing.proofs.writer.digits.Goals as goal

pub loop-left-init : goal.loop-left-init
loop-left-init c = omega arith

pub overflow_add-count : goal.overflow_add-count
overflow_add-count c = omega (arith, length-within 19 c.args.n (omega arith))

pub loop-left-smaller : goal.loop-left-smaller
loop-left-smaller c = omega arith

pub loop-left-preserved : goal.loop-left-preserved
loop-left-preserved c = omega (arith, length_more c.loop-left.left c.loop-left-test.true)

pub returns : goal.returns
returns c = omega (arith, ap length (print-one c.loop-left.left c.loop-left-test.false))
