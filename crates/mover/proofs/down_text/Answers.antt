-- Two pieces. Assumes nothing.
use native.Mathlib.Omega.{arith}
use Rattle.listing.proofs.Laws.Put.{writes-++}
use Rattle.mover.proofs.Laws.Texts.{down-pieces, down-long}
use Rattle.mover.proofs.down_text.Goals as goal

pub head-requires : goal.head-requires
head-requires c =
    let a = c.args in
    (c.requires.0.head, omega (arith, down-long a.s.now a.w.now, c.requires.1))

pub rest-requires : goal.rest-requires
rest-requires c =
    let a = c.args in
    let m = c.requires.0 in
    (m.short, m.tables, omega arith, omega (arith, down-long a.s.now a.w.now, c.requires.1, c.head.ensures.put.end))

pub returns : goal.returns
returns c = rw (down-pieces c.args.s.now c.args.w.now) (writes-++ c.head.ensures c.rest.ensures)
