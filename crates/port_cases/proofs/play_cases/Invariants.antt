-- `port_cases::play_cases` is safe and ends: each turn leaves fewer bytes of cases.
use lib.ListN.{length}
use Rattle.port_cases.proofs.play_cases.Given as goal

abbrev pub decreases-loop-cases : goal.decreases-loop-cases
decreases-loop-cases g l = length l.cases
