-- By the sort of the operands. Assumes nothing.
use mathlib.Core.Path.{sym}
use borrow.Author.Tests.{ne_eqb}
use Rattle.sheet.specs.declared.sorts.Sort.TheVariants.{ExLocal, RangeLocal}
use Rattle.sheet.specs.Sorts.{ex_sort, range_sort, arity}
use Rattle.sheet.proofs.CodeOperands.{operands-number, operands-word}
use Rattle.sheet.proofs.SortNumbers.{number-differs}
use Rattle.sheet.proofs.sorts.arity.Goals as goal

pub returns-then-code-ge-PROCEDURE : goal.returns-then-code-ge-PROCEDURE
unfolding arity
returns-then-code-ge-PROCEDURE c = rw (operands-number c.args.code c.if-code-ge-PROCEDURE.true)

pub returns-in-ExLocal : goal.returns-in-ExLocal
unfolding arity
returns-in-ExLocal c = rw (sym (operands-word c.args.code c.if-code-ge-PROCEDURE.false), sym c.word_operands-o.ensures, c.in-ExLocal.is)

pub returns-in-RangeLocal : goal.returns-in-RangeLocal
unfolding arity
returns-in-RangeLocal c = rw (sym (operands-word c.args.code c.if-code-ge-PROCEDURE.false), sym c.word_operands-o.ensures, c.in-RangeLocal.is)

pub returns-in_default : goal.returns-in_default
unfolding arity
returns-in_default c =
    rw (
      sym (operands-word c.args.code c.if-code-ge-PROCEDURE.false),
      sym c.word_operands-o.ensures,
      ne_eqb _ ex_sort (number-differs _ ExLocal c.in_default.not-ExLocal),
      ne_eqb _ range_sort (number-differs _ RangeLocal c.in_default.not-RangeLocal),
    )
