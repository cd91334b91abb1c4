-- `cells::cell` meets its contract. Assumes nothing.
use native.Mathlib.Omega.{arith}
use mathlib.Core.Path.{◌≡◌, ap}
use mathlib.Core.List.{◌++◌}
use lib.ListN.{length, length-append}
use Rattle.specification.specs.Listing.{cell_label, label_text, lines_text}
use Rattle.listing.specs.Put.{end_text}
use Rattle.listing.specs.Model.{line_at, name_of}
use Rattle.listing.proofs.Laws.Put.{writes-++, writes-[]}
use Rattle.listing.proofs.Laws.Pieces.{no_line, line-pieces}
use Rattle.listing.proofs.cells.cell.Goals as goal
use Rattle.listing.proofs.cells.cell.Goals.{After-cell_value-v}

-- the line's pieces
parted : (c : After-cell_value-v) →
    let a = c.args in
    lines_text (line_at a.w.now (name_of a.name) a.c) ≡ label_text (cell_label (name_of a.name)) ++ end_text c.cell_value-v.result
parted c =
    let a = c.args in
    let f = c.cell_flag in
    line-pieces a.w.now a.c f.result f.ensures c.if-cell_flag-eq0.false c.cell_value-v.result c.cell_value-v.ensures (name_of a.name)

pub returns-then-cell_flag-eq0 : goal.returns-then-cell_flag-eq0
returns-then-cell_flag-eq0 c =
    let a = c.args in
    rw (no_line a.w.now a.c c.cell_flag.result c.cell_flag.ensures (name_of a.name) c.if-cell_flag-eq0.true) (writes-[] a.out.now)

pub label-requires : goal.label-requires
label-requires c =
    let a = c.args in
    let v = c.cell_value-v.result in
    omega (
      arith,
      ap length (parted (goal.at.label-requires c).After-cell_value-v),
      length-append (label_text (cell_label (name_of a.name))) (end_text v),
    )

pub ending-requires : goal.ending-requires
ending-requires c =
    let a = c.args in
    let v = c.cell_value-v.result in
    omega (
      arith,
      ap length (parted (goal.at.ending-requires c).After-cell_value-v),
      length-append (label_text (cell_label (name_of a.name))) (end_text v),
      c.label.ensures.put.end,
    )

pub returns : goal.returns
returns c = rw (parted (goal.at.returns c).After-cell_value-v) (writes-++ c.label.ensures c.ending.ensures)
