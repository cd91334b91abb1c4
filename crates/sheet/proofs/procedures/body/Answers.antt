-- By the answer of the line. Assumes nothing.
use mathlib.Core.Path.{◌∙◌}
use native.Mathlib.Omega.{arith}
use Rattle.std.proofs.lemmas.Result.{err_from_is_err_and}
use Rattle.specification.specs.Sheet.{with_parameters}
use Rattle.sheet.proofs.ProcedureLines.{few-procedures}
use Rattle.sheet.proofs.ProcedureBody.{line_small, line-sized, line_known, body_refused, body-found}
use Rattle.sheet.proofs.procedures.body.Goals as goal

pub to_feed-requires : goal.to_feed-requires
to_feed-requires c =
    let f = c.requires.filled in
    (c.requires.within, line_small c.args.s.now _ c.args.p _ _ c.args.w.now c.requires, omega (arith, f.enough), f.few, line-sized c.args.s.now _ c.args.p _ _ c.args.w.now c.requires)

pub set_proc-requires : goal.set_proc-requires
set_proc-requires c = omega (arith, c.to_feed.auto.w, c.requires.more, few-procedures c.args.p.limits.edition, c.requires.filled.enough)

pub overflow_add-procedures : goal.overflow_add-procedures
overflow_add-procedures c = omega (arith, c.requires.more, few-procedures c.args.p.limits.edition)

pub returns-in_err-read : goal.returns-in_err-read
returns-in_err-read c =
    let p = err_from_is_err_and c.from_residual.result c.from_residual.ensures.1 in rw (p.1, p.2) (let f = c.requires.filled in body_refused c.args.s.now _ c.args.p _ _ c.args.w.now c.requires c.to_feed.new.w _ (c.in_err-read.ensures.1 f.locals f.set (with_parameters c.args.n f.declared) (line_known c.args.s.now _ c.args.p _ _ c.args.w.now c.requires)))

pub returns : goal.returns
returns c =
    let f = c.requires.filled in
    body-found c.args.s.now _ c.args.p _ _ c.args.w.now c.requires c.to_feed.new.w _ _ _ _ (c.in_ok-read.ensures.1 f.locals f.set (with_parameters c.args.n f.declared) (line_known c.args.s.now _ c.args.p _ _ c.args.w.now c.requires))
    c.set_proc.ensures (c.set_proc.auto.w ∙ c.to_feed.auto.w)
