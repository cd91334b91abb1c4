-- `evaluation::element` meets its contract. Assumes nothing.
use Rattle.terms.proofs.Laws.Elements.{element-raised, element-negative, element-outside, element-inside}
use Rattle.terms.proofs.evaluation.element.Goals as goal

pub returns-then-index-ne-VALUE : goal.returns-then-index-ne-VALUE
returns-then-index-ne-VALUE c = element-raised c.if-index-ne-VALUE.true c.raised.ensures

pub returns-then-value-lt-ZERO : goal.returns-then-value-lt-ZERO
returns-then-value-lt-ZERO c = element-negative c.error.ensures c.if-index-ne-VALUE.false c.if-value-lt-ZERO.true

pub returns-then-length-e : goal.returns-then-length-e
returns-then-length-e c =
    element-outside c.first_cell-first.ensures c.first_cell.ensures c.error-then-length-e.ensures c.if-index-ne-VALUE.false
    c.if-value-lt-ZERO.false c.if-length-e.true

pub returns : goal.returns
returns c =
    element-inside c.first_cell-first.ensures c.first_cell.ensures c.if-index-ne-VALUE.false c.if-value-lt-ZERO.false
    c.if-length-e.false c.look.ensures
