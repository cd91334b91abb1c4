-- Three pieces. Assumes nothing.
use native.Mathlib.Omega.{arith}
use Rattle.listing.proofs.Laws.Put.{writes-++}
use Rattle.mover.proofs.Laws.Texts.{up-pieces, up-long}
use Rattle.mover.proofs.up_text.Goals as goal

pub head-requires : goal.head-requires
head-requires c =
    let a = c.args in
    (c.requires.0.head, omega (arith, up-long a.s.now a.ranges a.w.now, c.requires.1))

pub full_line-requires : goal.full_line-requires
full_line-requires c =
    let a = c.args in
    omega (arith, up-long a.s.now a.ranges a.w.now, c.requires.1, c.head.ensures.put.end)

pub rest-requires : goal.rest-requires
rest-requires c =
    let a = c.args in
    let m = c.requires.0 in
    (m.short, m.tables, omega arith, omega (arith, up-long a.s.now a.ranges a.w.now, c.requires.1, c.head.ensures.put.end, c.full_line.ensures.put.end))

pub returns : goal.returns
returns c =
    let a = c.args in
    rw (up-pieces a.s.now a.ranges a.w.now) (writes-++ c.head.ensures (writes-++ c.full_line.ensures c.rest.ensures))
