-- By the answers of the two lines. Assumes nothing.
use mathlib.Core.Path.{refl, sym, ◌∙◌}
use mathlib.Core.List.{[]}
use native.Mathlib.Omega.{arith}
use Rattle.sheet.proofs.FirstLines.{arrays-found, ranges-found, ranged-long}
use Rattle.sheet.proofs.reader.Reader.arrays.Goals as goal

pub ranges_line-requires : goal.ranges_line-requires
ranges_line-requires c =
    let a = c.args.self in
    let h = arrays-found a.sheet.now _ a.read _ c.requires.0 c.requires.1 c.requires.2 _ c.in_ok-read.ensures in
    (record { declared = _; declares = h.declares [] }, h.small.scalars, omega (arith, h.long, h.enough))

pub returns : goal.returns
returns c =
    let a = c.args.self in
    let h = arrays-found a.sheet.now _ a.read _ c.requires.0 c.requires.1 c.requires.2 _ c.in_ok-read.ensures in
    rw (c.behind.ensures.0, c.behind.ensures.1)
    (refl, refl, ranged-long (sym (c.ranges_line.auto.w ∙ c.arrays_line.auto.w)) (ranges-found a.sheet.now _ _ _ _ h _ _ c.in_ok-next.ensures))
