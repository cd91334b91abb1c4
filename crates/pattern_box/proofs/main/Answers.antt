-- `pattern_box::main` is safe: the listing that it writes stands in the output.
use Rattle.page.proofs.Box.{paged-inside}
use Rattle.console.proofs.Parts.{part_length}
use Rattle.pattern_box.proofs.main.Goals as goal

pub slice_bounds-output-end : goal.slice_bounds-output-end
slice_bounds-output-end c = (paged-inside c.run_box-page.ensures).0

pub slice_bounds-write_page-end : goal.slice_bounds-write_page-end
slice_bounds-write_page-end c = part_length _ _ (paged-inside c.run_box-page.ensures).0
