-- `case_file::field_line` has room for the digits of every number.
use native.Mathlib.Omega.{arith}
use Rattle.case_file.proofs.FieldLine.{line-bound}
use Rattle.case_file.proofs.field_line.Goals as goal

pub field-requires : goal.field-requires
field-requires c = omega (arith, line-bound c.args.key.now c.args.n c.requires c.ranges.n.fits, c.new-out.ensures.start)

pub returns : goal.returns
returns c = omega (arith, c.field.ensures.put.end, c.new-out.ensures.start)
