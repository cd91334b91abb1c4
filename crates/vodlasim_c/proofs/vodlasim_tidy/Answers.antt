-- `vodlasim_c::vodlasim_tidy` meets its contract: `vodlasim::tidy` says all of it but the numbers, which `move_numbers` makes of what it
-- returns.
use mathlib.Core.Path.{ap, ◌∙◌}
use Rattle.specification.specs.Report.{move_report}
use Rattle.vodlasim_c.proofs.vodlasim_tidy.Goals as goal

pub returns : goal.returns
returns c =
    let answered = c.tidy-moved.ensures in
    record { report = c.move_numbers.ensures ∙ ap move_report answered.result; output = answered.output; work = answered.work }
