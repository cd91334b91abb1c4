-- `Writer::value` meets its contract. Assumes nothing.
use native.Mathlib.Omega.{arith}
use mathlib.Core.Path.{ap}
use lib.ListN.{length}
use Rattle.listing.proofs.Laws.Put.{writes-++}
use Rattle.listing.proofs.Laws.Digits.{value_low, value-high}
use Rattle.listing.proofs.writer.Writer.value.Goals as goal

pub byte-requires : goal.byte-requires
byte-requires c = omega (arith, ap length (value_low c.args.word c.if-word-lt-ZERO.true))

pub number-requires : goal.number-requires
number-requires c = omega (arith, ap length (value_low c.args.word c.if-word-lt-ZERO.true), c.byte.ensures.put.end)

pub number-requires-else-word-lt-ZERO : goal.number-requires-else-word-lt-ZERO
number-requires-else-word-lt-ZERO c = omega (arith, ap length (value-high c.args.word c.if-word-lt-ZERO.false))

pub returns-then-word-lt-ZERO : goal.returns-then-word-lt-ZERO
returns-then-word-lt-ZERO c =
    rw (value_low c.args.word c.if-word-lt-ZERO.true) (writes-++ c.byte.ensures c.number.ensures)

pub returns-else-word-lt-ZERO : goal.returns-else-word-lt-ZERO
returns-else-word-lt-ZERO c = rw (value-high c.args.word c.if-word-lt-ZERO.false) c.number-else-word-lt-ZERO.ensures
