-- By the name. Assumes nothing.
use Rattle.std.proofs.lemmas.Result.{err_from_is_err_and}
use Rattle.sheet.proofs.GivenItems.{scalar_below, element-below, item_refused, item-scalar, item-element}
use Rattle.sheet.proofs.given.item_at.Goals as goal

pub returns-in_err-name : goal.returns-in_err-name
returns-in_err-name c = λ D d. let p = err_from_is_err_and c.from_residual.result c.from_residual.ensures.1 in rw (p.1, p.2) (item_refused _ _ _ d c.in_err-name.ensures)

pub valued-requires : goal.valued-requires
valued-requires c = (scalar_below c.requires.0 _ _ c.scalar_cell.ensures, c.requires.1)

pub valued-requires-in-Element : goal.valued-requires-in-Element
valued-requires-in-Element c = (element-below c.requires.0 _ _ _ c.element_cell.ensures, c.requires.1)

pub returns-in-Scalar : goal.returns-in-Scalar
returns-in-Scalar c = λ D d. item-scalar _ _ _ d c.valued.ensures (rw c.in-Scalar.is at c.in_ok-name.ensures) c.scalar_cell.ensures

pub returns-in-Element : goal.returns-in-Element
returns-in-Element c = λ D d. item-element _ _ _ d c.valued-in-Element.ensures (rw c.in-Element.is at c.in_ok-name.ensures) c.element_cell.ensures
