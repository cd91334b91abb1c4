-- `cells::scalars` meets its contract: the lines before the next are put. Assumes nothing.
use Rattle.specification.specs.Listing.{lines_text}
use Rattle.listing.specs.Put.{Writes}
use Rattle.listing.specs.Model.{each_line, scalar_line}
use Rattle.listing.proofs.cells.scalars.Given as goal

abbrev pub invariant-loop-i : goal.invariant-loop-i
invariant-loop-i l = Writes l.initial.out l.out (lines_text (each_line (scalar_line l.w) 0 l.i))
