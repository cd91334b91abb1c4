-- Two pieces. Assumes nothing.
use Prim.Native.Nat.{suc}
use native.Mathlib.Omega.{arith}
use mathlib.Core.Path.{sym}
use lib.Seq.{length-take-le}
use Rattle.listing.proofs.Laws.Put.{writes-++}
use Rattle.mover.specs.Model.{head_lines}
use Rattle.mover.proofs.Laws.Lines.{lines_length-≤}
use Rattle.mover.proofs.Laws.Texts.{tidy-pieces, tidy-long}
use Rattle.mover.proofs.tidy_text.Goals as goal

pub slice_bounds-text-end : goal.slice_bounds-text-end
slice_bounds-text-end c =
    let s = c.args.s.now in
    sym (length-take-le c.lines_end-k.result s (omega (arith, c.lines_end-k.ensures, lines_length-≤ (suc head_lines) s)))

pub text-requires : goal.text-requires
text-requires c =
    let a = c.args in
    omega (arith, tidy-long a.s.now a.w.now c.lines_end-k.result c.lines_end-k.ensures, c.requires.1)

pub rest-requires : goal.rest-requires
rest-requires c =
    let a = c.args in
    let m = c.requires.0 in
    (m.short, m.tables, omega arith, omega (arith, tidy-long a.s.now a.w.now c.lines_end-k.result c.lines_end-k.ensures, c.requires.1, c.text.ensures.put.end))

pub returns : goal.returns
returns c =
    rw (tidy-pieces c.args.s.now c.args.w.now c.lines_end-k.result c.lines_end-k.ensures) (writes-++ c.text.ensures c.rest.ensures)
