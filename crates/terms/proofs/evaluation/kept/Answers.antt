-- `evaluation::kept` meets its contract. Assumes nothing.
use mathlib.Core.Path.{refl}
use Rattle.terms.proofs.Laws.Stack.{saved-made}
use Rattle.terms.proofs.evaluation.kept.Goals as goal

pub returns : goal.returns
returns c = saved-made c.args.w.now _ c.args.s c.requires refl
