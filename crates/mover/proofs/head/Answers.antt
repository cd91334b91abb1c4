-- Two pieces. Assumes nothing.
use native.Mathlib.Omega.{arith}
use mathlib.Core.Path.{ap}
use lib.ListN.{length, length-append}
use Rattle.listing.proofs.Laws.Put.{writes-++}
use Rattle.mover.specs.Model.{head_lines, head_rest}
use Rattle.mover.proofs.Laws.Lines.{lines_length-≤}
use Rattle.mover.proofs.Laws.Texts.{head-part}
use Rattle.mover.proofs.head.Goals as goal

pub text-requires : goal.text-requires
text-requires c = omega (arith, length-append c.args.edition.now (head_rest c.args.s.now))

pub slice_bounds-text-end : goal.slice_bounds-text-end
slice_bounds-text-end c =
    omega (arith, c.lines_end-h.ensures, lines_length-≤ head_lines c.args.s.now)

pub text-requires-2 : goal.text-requires-2
text-requires-2 c =
    let s = c.args.s.now in
    omega (
      arith,
      length-append c.args.edition.now (head_rest s),
      ap length (head-part s c.requires.0 c.lines_end-h.result c.lines_end-h.ensures),
      c.text.ensures.put.end,
    )

pub returns : goal.returns
returns c =
    rw (head-part c.args.s.now c.requires.0 c.lines_end-h.result c.lines_end-h.ensures) (writes-++ c.text.ensures c.text-2.ensures)
