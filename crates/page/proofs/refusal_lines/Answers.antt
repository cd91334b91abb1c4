-- `page::refusal_lines` meets its contract. Assumes nothing.
use native.Mathlib.Omega.{arith}
use Rattle.listing.proofs.Laws.Put.{writes-++}
use Rattle.page.proofs.Lines.{refusal-fields}
use Rattle.page.proofs.refusal_lines.Goals as goal

pub field-requires : goal.field-requires
field-requires c =
    omega (arith, refusal-fields c.number-number.result c.place-place.result c.number-number.type_inv c.place-place.type_inv)

pub field-requires-2 : goal.field-requires-2
field-requires-2 c =
    omega (arith, refusal-fields c.number-number.result c.place-place.result c.number-number.type_inv c.place-place.type_inv, c.field.ensures.put.end)

pub returns : goal.returns
returns c =
    let bound = refusal-fields c.number-number.result c.place-place.result c.number-number.type_inv c.place-place.type_inv in
    rw (← c.number-number.ensures, ← c.place-place.ensures)
    (record {
      text = writes-++ c.field.ensures c.field-2.ensures;
      short = omega (arith, bound, c.field.ensures.put.end, c.field-2.ensures.put.end);
    })
