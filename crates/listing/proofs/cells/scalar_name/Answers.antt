-- `cells::scalar_name` meets its contract. Assumes nothing.
use native.Mathlib.Omega.{arith}
use mathlib.Core.Path.{ap}
use lib.ListN.{length}
use Rattle.listing.proofs.Laws.Put.{writes-++}
use Rattle.listing.proofs.Laws.Pieces.{scalar-pieces}
use Rattle.listing.proofs.cells.scalar_name.Goals as goal

pub byte-requires : goal.byte-requires
byte-requires c = omega (arith, ap length (scalar-pieces c.args.n))

pub number-requires : goal.number-requires
number-requires c = omega (arith, ap length (scalar-pieces c.args.n), c.byte.ensures.put.end)

pub returns : goal.returns
returns c = rw (scalar-pieces c.args.n) (writes-++ c.byte.ensures c.number.ensures)
