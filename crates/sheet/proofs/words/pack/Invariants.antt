-- From the last byte to the first. Assumes nothing.
use Rattle.sheet.proofs.Packed.{Packing}
use Rattle.sheet.proofs.words.pack.Given as goal

abbrev pub invariant-loop-b : goal.invariant-loop-b
invariant-loop-b l = Packing l.t l.b-iterator.iter.rest.now l.n
