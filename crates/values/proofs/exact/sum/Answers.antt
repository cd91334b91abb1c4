-- `exact::sum` meets its contract: 64 bits hold the sum exactly. Assumes nothing.
use Rattle.specification.specs.Arithmetic.{compute}
use Rattle.values.proofs.Laws.Shifted.{sum_told}
use Rattle.values.proofs.exact.sum.Goals as goal

pub returns : goal.returns
unfolding compute
returns c = sum_told c.args.a c.args.b c.requires.0 c.requires.1
