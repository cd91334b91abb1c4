-- `cells::arrays` meets its contract: the lines before the next are put. Assumes nothing.
use Rattle.specification.specs.Listing.{lines_text}
use Rattle.listing.specs.Put.{Writes}
use Rattle.listing.specs.Model.{each_line, array_lines}
use Rattle.listing.proofs.cells.arrays.Given as goal

abbrev pub invariant-loop-a : goal.invariant-loop-a
invariant-loop-a l = Writes l.initial.out l.out (lines_text (each_line (array_lines l.w) 0 l.a))
