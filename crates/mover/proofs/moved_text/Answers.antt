-- By the way. Assumes nothing.
use native.Mathlib.Omega.{arith}
use Rattle.mover.proofs.Laws.Texts.{up-short, tidy-short, down-short}
use Rattle.mover.proofs.moved_text.Goals as goal

pub up_text-requires : goal.up_text-requires
up_text-requires c =
    let a = c.args in
    let m = c.requires.0 in
    (m, omega (arith, up-short a.s.now a.ranges a.w.now, m.short, c.requires.1, c.new-out.ensures.start))

pub tidy_text-requires : goal.tidy_text-requires
tidy_text-requires c =
    let a = c.args in
    let m = c.requires.0 in
    (m, omega (arith, tidy-short a.s.now a.w.now, m.short, c.new-out.ensures.start))

pub down_text-requires : goal.down_text-requires
down_text-requires c =
    let a = c.args in
    let m = c.requires.0 in
    (m, omega (arith, down-short a.s.now a.w.now, m.short, c.new-out.ensures.start))
