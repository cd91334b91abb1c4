-- `Writer::text` meets its contract: the bytes before the next are put. Assumes nothing.
use lib.ListN.{take}
use Rattle.listing.specs.Put.{Writes}
use Rattle.listing.proofs.writer.Writer.text.Given as goal

abbrev pub invariant-loop-b : goal.invariant-loop-b
invariant-loop-b l = Writes l.initial.self l.self (take l.b-index l.bytes)
