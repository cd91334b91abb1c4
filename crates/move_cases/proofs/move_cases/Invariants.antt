-- `move_cases::move_cases` is safe and ends: each turn leaves fewer bytes of cases.
use lib.ListN.{length}
use Rattle.move_cases.proofs.move_cases.Given as goal

abbrev pub decreases-loop-cases : goal.decreases-loop-cases
decreases-loop-cases g l = length l.cases
