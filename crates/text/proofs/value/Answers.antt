-- The part up to the end is the rest; beyond the end there is none. Assumes nothing.
use native.Mathlib.Omega.{arith}
use Rattle.text.proofs.Laws.Keys.{take_rest, take-end}
use Rattle.text.proofs.value.Goals as goal

pub returns-then-from-s : goal.returns-then-from-s
returns-then-from-s c = take_rest c.args.s.now c.args.from

pub returns : goal.returns
returns c = take-end c.args.s.now c.args.from (omega (arith, c.if-from-s.false))
