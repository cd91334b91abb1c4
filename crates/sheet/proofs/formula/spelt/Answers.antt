-- By the sort, then by what is spelt. Assumes nothing.
use native.Mathlib.Omega.{arith}
use mathlib.Core.Path.{sym, ◌∙◌}
use Rattle.sheet.specs.declared.sorts.Sort.TheVariants.{Procedure}
use Rattle.sheet.proofs.SortNumbers.{sort-differs, sort-same}
use Rattle.sheet.proofs.Spelt.{spells-word, spells-other, spells-unknown, spells-number}
use Rattle.sheet.proofs.formula.spelt.Goals as goal

pub returns-then-ne : goal.returns-then-ne
returns-then-ne c = spells-word _ _ _ _ _ (sort-differs c.args.sort Procedure (sym c.ne.ensures ∙ c.if-ne.true)) c.lex.ensures

pub returns-then-n-ne-PROCEDURE : goal.returns-then-n-ne-PROCEDURE
returns-then-n-ne-PROCEDURE c = spells-other _ _ _ _ _ (sort-same c.args.sort Procedure (sym c.ne.ensures ∙ c.if-ne.false)) c.number-n.ensures c.if-n-ne-PROCEDURE.true

pub returns-then-d-n : goal.returns-then-d-n
returns-then-d-n c =
    spells-unknown _ _ _ _ _ (sort-same c.args.sort Procedure (sym c.ne.ensures ∙ c.if-ne.false)) c.number-n.ensures c.if-n-ne-PROCEDURE.false c.if-d-n.true

pub parameters-requires : goal.parameters-requires
parameters-requires c =
    omega (arith, c.requires.0.procedures)

pub overflow_add-result : goal.overflow_add-result
overflow_add-result c =
    omega (arith, c.parameters.ensures, c.requires.1 c.number-n.result.operand (omega arith))

pub returns : goal.returns
returns c =
    rw c.parameters.ensures (spells-number _ _ _ _ c.number-n.result (sort-same c.args.sort Procedure (sym c.ne.ensures ∙ c.if-ne.false)) c.number-n.ensures c.if-n-ne-PROCEDURE.false (omega arith))
