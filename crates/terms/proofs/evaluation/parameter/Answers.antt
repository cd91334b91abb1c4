-- `evaluation::parameter` meets its contract: the store before the read leaves the frames and the words of open parameters as they were.
-- Assumes nothing.
use Rattle.terms.proofs.Laws.Parameter.{parameter-made}
use Rattle.terms.proofs.evaluation.parameter.Goals as goal

pub returns : goal.returns
returns c =
    parameter-made c.kept-at.ensures c.result.ensures
