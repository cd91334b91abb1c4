-- By the code of a name or a procedure's number. Assumes nothing.
use native.Mathlib.Omega.{arith}
use lib.ListN.{length-replicate}
use borrow.Author.Tests.{ne_eqb}
use Rattle.tables.specs.Codes.{scalar_code, local_code, array_code, parameter_code, procedure_code, last_code}
use Rattle.sheet.specs.Turn.{declared}
use Rattle.text.proofs.Laws.Ranges.{inside, under, over}
use Rattle.sheet.proofs.formula.is_declared.Goals as goal

pub returns-in-24 : goal.returns-in-24
unfolding declared
returns-in-24 c = rw c.in-24.is

pub returns-in-25 : goal.returns-in-25
unfolding declared
returns-in-25 c = rw c.in-25.is

pub returns-in-26 : goal.returns-in-26
unfolding declared
returns-in-26 c = rw (c.in-26.is, length-replicate)

pub returns-in-27 : goal.returns-in-27
unfolding declared
returns-in-27 c = rw c.in-27.is

pub returns-in-30-to-38 : goal.returns-in-30-to-38
unfolding declared
returns-in-30-to-38 c =
    let code = c.args.t.code in
    rw (
      ne_eqb code scalar_code (λ q. omega arith),
      ne_eqb code local_code (λ q. omega arith),
      ne_eqb code array_code (λ q. omega arith),
      ne_eqb code parameter_code (λ q. omega arith),
      inside procedure_code last_code code (omega arith) (omega arith),
      length-replicate,
    )

pub returns-in_default : goal.returns-in_default
unfolding declared
returns-in_default c =
    let r = c.in_default.in_default-own.rest in
    simp (ne_eqb _ _ r.1, ne_eqb _ _ r.0.1, ne_eqb _ _ r.0.0.1, ne_eqb _ _ r.0.0.0.1, under procedure_code last_code _ c.in_default.if-code-lt30-own.true)

pub returns-in_default-2 : goal.returns-in_default-2
unfolding declared
returns-in_default-2 c =
    let r = c.in_default.in_default-own.rest in
    simp (ne_eqb _ _ r.1, ne_eqb _ _ r.0.1, ne_eqb _ _ r.0.0.1, ne_eqb _ _ r.0.0.0.1, over procedure_code last_code c.args.t.code (omega arith))
