-- `vodlasim_c::vodlasim_move_down` meets its contract: `vodlasim::move_down` says all of it but the numbers, which `move_numbers` makes of what it
-- returns.
use mathlib.Core.Path.{ap, ◌∙◌}
use Rattle.specification.specs.Report.{move_report}
use Rattle.vodlasim_c.proofs.vodlasim_move_down.Goals as goal

pub returns : goal.returns
returns c =
    let answered = c.move_down-moved.ensures in
    record { report = c.move_numbers.ensures ∙ ap move_report answered.result; output = answered.output; work = answered.work }
