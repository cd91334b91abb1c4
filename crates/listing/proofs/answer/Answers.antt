-- `listing::answer` meets its contract. Assumes nothing.
use native.Mathlib.Omega.{arith}
use mathlib.Core.Path.{ap}
use lib.ListN.{length}
use Rattle.listing.proofs.Laws.Pieces.{answer-pieces}
use Rattle.listing.proofs.Laws.Bound.{answer-bound, answer-headed}
use Rattle.listing.proofs.answer.Goals as goal

pub field-requires : goal.field-requires
field-requires c =
    let n = c.args.number in
    omega (arith, ap length (answer-pieces n), answer-bound n c.ranges.number.fits)

pub returns : goal.returns
returns c =
    let n = c.args.number in
    answer-headed n c.ranges.number.fits c.requires (rw (answer-pieces n) c.field.ensures)
