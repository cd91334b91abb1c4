-- The run is the first part of the rest. Assumes nothing.
use Rattle.sheet.proofs.NumberLines.{numeral-is, numeral-inside}
use Rattle.sheet.proofs.lines.numeral.Goals as goal

pub slice_bounds-result-end : goal.slice_bounds-result-end
slice_bounds-result-end c = numeral-inside _ _ c.run_end-e.ensures

pub returns : goal.returns
returns c = numeral-is c.args.s.now _ c.args.at _ c.value-v.ensures c.run_end-e.ensures
