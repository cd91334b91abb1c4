-- What is listed is of the ranges (document 02, Six): no block, of an answer or of an error, names a value that its cell may not have. The theorem
-- is in proofs/Laws/InRanges.antt. Assumes nothing.
use Rattle.std.specs.Prelude.{List, T}
use Rattle.specification.specs.Lists.{Each}
use Rattle.specification.specs.Lines.{Declared, cell_of, in_range}
use Rattle.specification.specs.Listing.{Block}

-- each value that a block names is one that the cell may have
abbrev pub InRanges : Declared → List Block → Type 0
InRanges D listed = Each (λ b. Each (λ n. T (in_range D (cell_of D n.name) n.value)) b.cells) listed
