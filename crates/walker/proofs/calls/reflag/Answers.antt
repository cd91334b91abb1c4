-- `calls::reflag` meets its contract.
use native.Mathlib.Omega.{arith}
use mathlib.Core.Path.{◌∙◌}
use Rattle.walker.proofs.Laws.Restored.{flagged-same}
use Rattle.walker.proofs.calls.reflag.Goals as goal

pub tags-requires : goal.tags-requires
tags-requires c = omega (arith, c.requires.slots.procedure, c.requires.slots.size)

pub returns-then-set-tags : goal.returns-then-set-tags
returns-then-set-tags c =
    flagged-same c.args.set c.requires (c.if-set-tags.true ∙ c.tags.ensures)

pub flag-requires : goal.flag-requires
flag-requires c = c.requires.slots
