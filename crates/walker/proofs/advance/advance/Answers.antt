-- `advance::advance` meets its contract: a visit is due, or the loop is left.
use native.Mathlib.Omega.{arith}
use mathlib.Core.Path.{◌≡◌, refl, ◌∙◌}
use Rattle.std.proofs.Common.{rules}
use Rattle.search.specs.declared.Mode.TheVariants as modes
use Rattle.walker.proofs.Laws.Loops.{going-due, going-sim, going-up, going_next, turns-fall}
use Rattle.walker.proofs.advance.advance.Goals as goal

pub loop-setting-init : goal.loop-setting-init
loop-setting-init c = (refl, omega arith, λ x b s i. i)

pub turn-q-requires : goal.turn-q-requires
turn-q-requires c =
    let a = c.requires in
    let m : c.loop-setting.q.mode ≡ modes.Down = search rules in
    record { c = a.c; b = a.b; set = a.set; mode = m; due = going-due (c.loop-setting.invariant.2 a.c a.b a.set a.going) m }

pub loop-setting-smaller : goal.loop-setting-smaller
loop-setting-smaller c = turns-fall (search rules) c.turn-q.ensures

pub loop-setting-preserved : goal.loop-setting-preserved
loop-setting-preserved c =
    let v = c.loop-setting.invariant in (
      c.turn-q.auto.w ∙ v.0,
      omega (arith, v.1, c.turn-q.ensures.least),
      λ x b s i. going_next s c.turn-q.ensures (going-due (v.2 x b s i) (search rules)),
    )

pub shape_of-w : goal.shape_of-w
shape_of-w c = c.loop-setting.invariant.0

pub returns : goal.returns
returns c =
    let a = c.requires in
    let v = c.loop-setting.invariant in
    let over : ¬ (c.loop-setting.q.mode ≡ modes.Down) = search rules in
    record {
      sim = λ x b s i. going-sim (v.2 x b s i) over;
      over = over;
      stops = going-up (v.2 a.c a.b a.set a.going);
      least = v.1;
    }
