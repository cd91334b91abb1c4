-- `evaluation::result` meets its contract. Assumes nothing.
use mathlib.Core.Path.{◌∙◌}
use Rattle.terms.proofs.Laws.Parameter.{result_value}
use Rattle.terms.proofs.evaluation.result.Goals as goal

pub returns-then-word-ne0 : goal.returns-then-word-ne0
returns-then-word-ne0 c =
    result_value c.args.w.now _ _ _ c.argument-slot.ensures c.word-x.ensures
    (λ z. c.if-word-ne0.true (c.word.ensures ∙ z))
