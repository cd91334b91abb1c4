-- `cells::elements` meets its contract: the lines before the next are put. Assumes nothing.
use Rattle.specification.specs.Listing.{lines_text}
use Rattle.listing.specs.Put.{Writes}
use Rattle.listing.specs.Model.{each_line, element_line}
use Rattle.listing.proofs.cells.elements.Given as goal

abbrev pub invariant-loop-i : goal.invariant-loop-i
invariant-loop-i l = Writes l.initial.out l.out (lines_text (each_line (element_line l.w l.a l.c) 0 l.i))
