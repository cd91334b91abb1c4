-- `listing::error` meets its contract. Assumes nothing.
use native.Mathlib.Omega.{arith}
use Rattle.listing.proofs.Laws.Put.{writes-++}
use Rattle.listing.proofs.Laws.Pieces.{error-pieces}
use Rattle.listing.proofs.Laws.Bound.{error-fields, error-headed}
use Rattle.listing.proofs.error.Goals as goal

pub field-requires : goal.field-requires
field-requires c =
    let a = c.args in
    let f = c.ranges in
    omega (arith, error-fields a.number f.number.fits a.kind a.token f.kind.fits f.token.fits)

pub field-requires-2 : goal.field-requires-2
field-requires-2 c =
    let a = c.args in
    let f = c.ranges in
    omega (arith, error-fields a.number f.number.fits a.kind a.token f.kind.fits f.token.fits, c.field.ensures.put.end)

pub field-requires-3 : goal.field-requires-3
field-requires-3 c =
    let a = c.args in
    let f = c.ranges in
    omega (
      arith,
      error-fields a.number f.number.fits a.kind a.token f.kind.fits f.token.fits,
      c.field.ensures.put.end,
      c.field-2.ensures.put.end,
    )

pub returns : goal.returns
returns c =
    let a = c.args in
    let f = c.ranges in
    error-headed a.number f.number.fits a.kind a.token f.kind.fits f.token.fits c.requires
    (rw (error-pieces a.number a.kind a.token) (writes-++ c.field.ensures (writes-++ c.field-2.ensures c.field-3.ensures)))
