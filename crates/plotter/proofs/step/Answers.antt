-- `plotter::step` meets its contract: by the cases of a step.
use Rattle.std.proofs.Common.{sym, refl, ◌∙◌, arith}
use Rattle.std.proofs.lemmas.Option.{slice_get_within, get_or_from_slice_get}
use Rattle.plotter.specs.Port.{idle}
use Rattle.plotter.proofs.Laws.Step.{step-empty, step-idle, step-sends, steps_of}
use Rattle.plotter.proofs.step.Goals as goal

pub returns-in-Some : goal.returns-in-Some
returns-in-Some c =
    let p = c.args.port in
    let u = c.args.unsent.now in
    let taken = sym c.takes.ensures ∙ c.if-takes.true in
    let next = sym c.in-Some.ensures.value in
    let case = rw (get_or_from_slice_get u 0 _ 0 next) at (step-sends p u taken (slice_get_within u 0 _ next)) in
    steps_of p u _ _ case (c.send.ensures ∙ rw c.acknowledge-seen.ensures) refl refl

pub returns-in_default : goal.returns-in_default
returns-in_default c =
    let p = c.args.port in
    let u = c.args.unsent.now in
    steps_of p u (idle p u) _ (step-idle p u (sym c.takes.ensures ∙ c.if-takes.false)) c.acknowledge-seen.ensures refl refl

pub returns-in_default-2 : goal.returns-in_default-2
returns-in_default-2 c =
    let p = c.args.port in
    let u = c.args.unsent.now in
    let nothing = step-empty p u (omega (arith, rw c.in_default.is at c.first.ensures.item)) in
    steps_of p u (idle p u) _ nothing c.acknowledge-seen.ensures refl refl
