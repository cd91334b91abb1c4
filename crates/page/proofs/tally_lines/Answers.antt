-- `page::tally_lines` meets its contract. Assumes nothing.
use Prim.Native.Nat.{◌+◌, ◌≤◌}
use native.Mathlib.Omega.{arith}
use lib.ListN.{length}
use Rattle.specification.specs.Bytes.{bytes}
use Rattle.specification.specs.Printed.{field_text}
use Rattle.listing.proofs.Laws.Put.{writes-++}
use Rattle.page.proofs.Lines.{tally-fields}
use Rattle.page.proofs.tally_lines.Goals as goal
use Rattle.page.proofs.tally_lines.Goals.{After-struct_known-1}

bound : (c : After-struct_known-1) →
    let t = c.args.t in
    length (field_text (bytes "nodes=") t.nodes) + length (field_text (bytes "answers=") t.answers)
    + length (field_text (bytes "errors=") t.errors) + length (field_text (bytes "fails=") t.fails)
    ≤ 71
bound c =
    let f = c.struct_known-1.given in
    tally-fields c.args.t f.0.fits f.1.0.fits f.1.1.0.fits f.1.1.1.0.fits

pub field-requires : goal.field-requires
field-requires c = omega (arith, bound (goal.at.field-requires c).After-struct_known-1, c.requires)

pub field-requires-2 : goal.field-requires-2
field-requires-2 c = omega (arith, bound (goal.at.field-requires-2 c).After-struct_known-1, c.requires, c.field.ensures.put.end)

pub field-requires-3 : goal.field-requires-3
field-requires-3 c =
    omega (arith, bound (goal.at.field-requires-3 c).After-struct_known-1, c.requires, c.field.ensures.put.end, c.field-2.ensures.put.end)

pub field-requires-4 : goal.field-requires-4
field-requires-4 c =
    omega (
      arith,
      bound (goal.at.field-requires-4 c).After-struct_known-1,
      c.requires,
      c.field.ensures.put.end,
      c.field-2.ensures.put.end,
      c.field-3.ensures.put.end,
    )

pub returns : goal.returns
returns c =
    record {
      text = writes-++ c.field.ensures (writes-++ c.field-2.ensures (writes-++ c.field-3.ensures c.field-4.ensures));
      short =
          omega (
            arith,
            bound (goal.at.returns c).After-struct_known-1,
            c.requires,
            c.field.ensures.put.end,
            c.field-2.ensures.put.end,
            c.field-3.ensures.put.end,
            c.field-4.ensures.put.end,
          );
    }
