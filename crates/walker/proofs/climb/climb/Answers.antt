-- `climb::climb` meets its contract.
use mathlib.Core.Path.{refl, ◌∙◌}
use Rattle.std.proofs.Common.{rules}
use Rattle.walker.proofs.Laws.Risen.{climbs-first, climbs-rises, climbs-more, climbs-end, climbs-less}
use Rattle.walker.proofs.climb.climb.Goals as goal

pub loop-setting-init : goal.loop-setting-init
loop-setting-init c = (climbs-first c.requires, refl)

pub rise-q-requires : goal.rise-q-requires
rise-q-requires c = climbs-rises c.loop-setting.invariant.0 (search rules)

pub loop-setting-smaller : goal.loop-setting-smaller
loop-setting-smaller c = climbs-less (search rules) c.rise-q.ensures

pub loop-setting-preserved : goal.loop-setting-preserved
loop-setting-preserved c =
    let v = c.loop-setting.invariant in
    (climbs-more v.0 (search rules) c.rise-q.ensures, c.rise-q.auto.w ∙ v.1)

pub shape_of-w : goal.shape_of-w
shape_of-w c = c.loop-setting.invariant.1

pub returns : goal.returns
returns c = climbs-end c.loop-setting.invariant.0 c.requires.mode (search rules)
