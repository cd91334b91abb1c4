-- By the way. Assumes nothing.
use Rattle.mover.specs.Model.{up_result, tidy_result}
use Rattle.mover.proofs.moved.Goals as goal

pub returns-in-Up : goal.returns-in-Up
unfolding up_result
returns-in-Up c = rw c.in-Up.is c.fit.ensures

pub returns-in-Tidy : goal.returns-in-Tidy
unfolding tidy_result
returns-in-Tidy c = rw c.in-Tidy.is c.fit-in-Tidy.ensures

pub returns-in-Down : goal.returns-in-Down
returns-in-Down c = rw c.in-Down.is c.down.ensures
