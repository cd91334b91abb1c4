-- `cells::label` meets its contract: by what the cell is. Assumes nothing.
use Rattle.listing.proofs.cells.label.Goals as goal

pub scalar_name-requires : goal.scalar_name-requires
scalar_name-requires c = rw c.in-Scalar.is at c.requires

pub element_name-requires : goal.element_name-requires
element_name-requires c = rw c.in-Element.is at c.requires

pub returns-in-Scalar : goal.returns-in-Scalar
returns-in-Scalar c = rw c.in-Scalar.is c.scalar_name.ensures

pub returns-in-Element : goal.returns-in-Element
returns-in-Element c = rw c.in-Element.is c.element_name.ensures
