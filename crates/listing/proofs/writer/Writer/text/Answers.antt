-- `Writer::text` meets its contract. Assumes nothing.
use Rattle.listing.proofs.Laws.Put.{writes-next, room-next}
use Rattle.listing.proofs.writer.Writer.text.Goals as goal

pub byte-requires : goal.byte-requires
byte-requires c = room-next _ _ c.loop-b-test.true c.requires c.loop-b.invariant

pub loop-b-preserved : goal.loop-b-preserved
loop-b-preserved c = writes-next _ _ c.loop-b-test.true c.loop-b.invariant c.byte.ensures
