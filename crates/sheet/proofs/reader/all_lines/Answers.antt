-- From the first line on; what each line leads to is what the next goes from. Assumes nothing.
use Rattle.sheet.proofs.FirstLines.{at-start}
use Rattle.sheet.proofs.reader.all_lines.Goals as goal

pub edition-requires : goal.edition-requires
edition-requires c = rw (c.new.ensures.0, c.new.ensures.1) (at-start c.args.strict c.args.s.now)
