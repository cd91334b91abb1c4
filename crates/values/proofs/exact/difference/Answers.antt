-- `exact::difference` meets its contract: 64 bits hold the difference exactly. Assumes nothing.
use lib.IntN.{◌-ℤ◌}
use Rattle.specification.specs.Arithmetic.{compute}
use Rattle.values.proofs.Laws.Shifted.{raised-told, difference-bounded, bounded-values, difference-held}
use Rattle.values.proofs.exact.difference.Goals as goal

pub returns : goal.returns
unfolding compute
returns c =
    let a = c.args in
    raised-told _ _ (difference-held a.a a.b c.requires.0 c.requires.1)
    (bounded-values a.a a.b c.requires.0 c.requires.1 ◌-ℤ◌ difference-bounded)
