-- `Writer::field` meets its contract. Assumes nothing.
use Rattle.listing.proofs.Laws.Put.{writes-++}
use Rattle.listing.proofs.writer.Writer.field.Goals as goal

pub returns : goal.returns
returns c = writes-++ c.text.ensures (writes-++ c.number.ensures c.byte.ensures)
