-- `vodlasim_c::vodlasim_run` meets its contract: `vodlasim::run` says all of it but the numbers, which `numbers` makes of its outcome.
use mathlib.Core.Path.{ap, ◌∙◌}
use Rattle.specification.specs.Report.{report_of}
use Rattle.vodlasim_c.proofs.vodlasim_run.Goals as goal

pub returns : goal.returns
returns c =
    let answered = c.run-outcome.ensures in
    record { report = c.numbers.ensures ∙ ap report_of answered.result; output = answered.output; work = answered.work }
