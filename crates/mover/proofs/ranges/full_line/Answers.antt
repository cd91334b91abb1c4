-- The key, and the ranges if there are any. Assumes nothing.
use native.Mathlib.Omega.{arith}
use mathlib.Core.Path.{ap}
use lib.ListN.{length}
use Rattle.listing.proofs.Laws.Put.{writes-++}
use Rattle.mover.proofs.Laws.Ranges.{line-none, line-some, line-key}
use Rattle.mover.proofs.ranges.full_line.Goals as goal

pub text-requires : goal.text-requires
text-requires c = omega (arith, line-key c.args.n)

pub text-requires-then-n-eq0 : goal.text-requires-then-n-eq0
text-requires-then-n-eq0 c =
    omega (arith, ap length (line-none c.args.n c.if-n-eq0.true), c.text.ensures.put.end)

pub returns-then-n-eq0 : goal.returns-then-n-eq0
returns-then-n-eq0 c =
    rw (line-none c.args.n c.if-n-eq0.true) (writes-++ c.text.ensures c.text-then-n-eq0.ensures)

pub full_ranges-requires : goal.full_ranges-requires
full_ranges-requires c =
    omega (arith, ap length (line-some c.args.n c.if-n-eq0.false), c.text.ensures.put.end)

pub returns : goal.returns
returns c = rw (line-some c.args.n c.if-n-eq0.false) (writes-++ c.text.ensures c.full_ranges.ensures)
