-- `machine::walk` meets its contract: in the world of each sheet that the tables hold, the walk has come to where its run is.
use native.Mathlib.Omega.{arith}
use mathlib.Core.Path.{refl, ◌∙◌}
use mathlib.Core.List.{[]}
use Rattle.std.proofs.Common.{rules}
use Rattle.walker.proofs.Laws.Started.{world_of, world-set, start_small, start-going, reached-first}
use Rattle.walker.proofs.Laws.Started.{reached-due, reached-onwards, reached-next, leaves-fall, finished}
use Rattle.walker.proofs.machine.walk.Goals as goal

pub overflow_mul-task : goal.overflow_mul-task
overflow_mul-task c = let a = c.requires in omega (arith, start_small a.sheet a.prepared.ready)

pub advance-first-requires : goal.advance-first-requires
advance-first-requires c =
    let a = c.requires in
    let h = c.args.out.now in
    record {
      c = world_of c.args.w.now h c.args.task a.sheet;
      b = [];
      set = world-set h a.sheet a.prepared;
      going = start-going h a.sheet a.prepared (omega (arith, c.well_formed.1.1.0)) (omega arith) c.start.ensures c.limited-g.ensures;
    }

pub loop-task-init : goal.loop-task-init
loop-task-init c = (refl, refl, (λ v x p r. r))

pub block-b-requires : goal.block-b-requires
block-b-requires c =
    let a = c.requires in
    let h = c.args.out.now in
    let first = reached-first h a.sheet a.prepared (omega (arith, c.well_formed.1.1.0)) (omega arith) c.start.ensures c.limited-g.ensures
    c.advance-first.ensures c.state-s.ensures in
    reached-due h a.sheet a.prepared (c.loop-task.invariant.2 _ a.sheet a.prepared first) (search rules)

pub onward-s-requires : goal.onward-s-requires
onward-s-requires c =
    let a = c.requires in
    let h = c.args.out.now in
    let first = reached-first h a.sheet a.prepared (omega (arith, c.well_formed.1.1.0)) (omega arith) c.start.ensures c.limited-g.ensures
    c.advance-first.ensures c.state-s.ensures in
    reached-onwards h a.sheet a.prepared (c.loop-task.invariant.2 _ a.sheet a.prepared first) (search rules) c.block-b.ensures

pub loop-task-smaller : goal.loop-task-smaller
loop-task-smaller c =
    let a = c.requires in
    let h = c.args.out.now in
    let first = reached-first h a.sheet a.prepared (omega (arith, c.well_formed.1.1.0)) (omega arith) c.start.ensures c.limited-g.ensures
    c.advance-first.ensures c.state-s.ensures in
    leaves-fall h a.sheet (c.loop-task.invariant.2 _ a.sheet a.prepared first) (search rules) c.block-b.ensures c.onward-s.ensures

pub loop-task-preserved : goal.loop-task-preserved
loop-task-preserved c =
    let a = c.requires in
    let h = c.args.out.now in
    let v = c.loop-task.invariant in (
      c.onward-s.auto.w ∙ v.0,
      c.block-b.ensures.size ∙ v.1,
      (λ y x p r. reached-next h x p (v.2 y x p r) (search rules) c.block-b.ensures c.onward-s.ensures),
    )

pub shape_of-w : goal.shape_of-w
shape_of-w c = c.loop-task.invariant.0 ∙ c.advance-first.auto.w

pub shape_of-out : goal.shape_of-out
shape_of-out c = c.loop-task.invariant.1

pub returns : goal.returns
returns c =
    let a = c.requires in
    let h = c.args.out.now in
    let v = c.loop-task.invariant in
    finished a.sheet a.prepared (search rules) (v.0 ∙ c.advance-first.auto.w) v.1
    (λ x p. v.2 _ x p (reached-first h x p (omega (arith, c.well_formed.1.1.0)) (omega arith) c.start.ensures c.limited-g.ensures
    c.advance-first.ensures c.state-s.ensures))
