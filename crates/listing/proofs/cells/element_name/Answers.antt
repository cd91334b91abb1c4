-- `cells::element_name` meets its contract. Assumes nothing.
use native.Mathlib.Omega.{arith}
use Rattle.listing.proofs.Laws.Put.{writes-++}
use Rattle.listing.proofs.Laws.Pieces.{element-pieces, element-length}
use Rattle.listing.proofs.cells.element_name.Goals as goal

pub byte-requires : goal.byte-requires
byte-requires c = omega (arith, element-length c.args.a c.args.e)

pub number-requires : goal.number-requires
number-requires c = omega (arith, element-length c.args.a c.args.e, c.byte.ensures.put.end)

pub byte-requires-2 : goal.byte-requires-2
byte-requires-2 c =
    omega (arith, element-length c.args.a c.args.e, c.byte.ensures.put.end, c.number.ensures.put.end)

pub number-requires-2 : goal.number-requires-2
number-requires-2 c =
    omega (arith, element-length c.args.a c.args.e, c.byte.ensures.put.end, c.number.ensures.put.end, c.byte-2.ensures.put.end)

pub returns : goal.returns
returns c =
    rw (element-pieces c.args.a c.args.e)
    (writes-++ c.byte.ensures (writes-++ c.number.ensures (writes-++ c.byte-2.ensures c.number-2.ensures)))
