-- `Writer::ending` meets its contract. Assumes nothing.
use Rattle.listing.proofs.Laws.Put.{writes-++}
use Rattle.listing.proofs.writer.Writer.ending.Goals as goal

pub returns : goal.returns
returns c = writes-++ c.byte.ensures (writes-++ c.value.ensures c.byte-2.ensures)
