-- `cases::run_sheet` is safe: the listing that it writes stands in the output.
use Rattle.console.proofs.Parts.{part_length}
use Rattle.page.proofs.Box.{answered-inside}
use Rattle.cases.proofs.run_sheet.Goals as goal

pub slice_bounds-write_page-end : goal.slice_bounds-write_page-end
slice_bounds-write_page-end g c = rw c.written-listing.ensures (answered-inside c.run-outcome.ensures)

pub slice_bounds-write_page-end-2 : goal.slice_bounds-write_page-end-2
slice_bounds-write_page-end-2 g c = part_length _ _ (rw c.written-listing.ensures (answered-inside c.run-outcome.ensures))
