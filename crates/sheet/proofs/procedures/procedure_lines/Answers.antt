-- One line a turn, as long as one follows. Assumes nothing.
use mathlib.Core.Path.{sym, ◌∙◌}
use Rattle.sheet.proofs.ProcedureLines.{no_more}
use Rattle.sheet.proofs.procedures.procedure_lines.Goals as goal

pub returns : goal.returns
returns c = (c.loop-w.invariant.0, no_more _ _ _ _ (sym c.loop-w-test.false ∙ c.more.ensures) c.loop-w.invariant.1)
