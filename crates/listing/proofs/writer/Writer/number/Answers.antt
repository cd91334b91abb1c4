-- `Writer::number` meets its contract. Assumes nothing.
use Rattle.specification.proofs.Laws.Canonical.{print-one}
use Rattle.listing.proofs.writer.Writer.number.Goals as goal

pub byte-requires : goal.byte-requires
byte-requires c = rw (print-one c.args.n c.if-n-lt10.true) at c.requires

pub returns-then-n-lt10 : goal.returns-then-n-lt10
returns-then-n-lt10 c = rw (print-one c.args.n c.if-n-lt10.true) c.byte.ensures
