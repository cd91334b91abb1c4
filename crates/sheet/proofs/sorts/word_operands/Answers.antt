-- By ranges of codes. Assumes nothing.
use Prim.Native.Nat.{ℕ, ◌<◌, ◌≤◌}
use mathlib.Core.Path.{◌≡◌, sym}
use native.Mathlib.Omega.{arith}
use Rattle.tables.specs.Codes.{and_code, eq_code, some_code, all_code, call_code, first_operation}
use Rattle.sheet.specs.Sorts.{formula_sort, term_sort, range_sort, operands, word_operands}
use Rattle.sheet.proofs.CodeOperands.{alike, operands-range, operands-above}
use Rattle.sheet.proofs.sorts.word_operands.Goals as goal

pub returns-in-5 : goal.returns-in-5
unfolding word_operands
returns-in-5 c = rw c.in-5.is

pub returns-in-12 : goal.returns-in-12
unfolding word_operands
returns-in-12 c = rw c.in-12.is

pub returns-in-26 : goal.returns-in-26
unfolding word_operands
returns-in-26 c = rw c.in-26.is

pub returns-in-15 : goal.returns-in-15
unfolding word_operands
returns-in-15 c = rw c.in-15.is

pub returns-in-2-to-4 : goal.returns-in-2-to-4
unfolding word_operands alike
returns-in-2-to-4 c = sym (operands-range (operands formula_sort 2) 3 and_code c.args.code tt (omega arith) (omega arith))

pub returns-in-6-to-11 : goal.returns-in-6-to-11
unfolding word_operands alike
returns-in-6-to-11 c = sym (operands-range (operands term_sort 2) 6 eq_code c.args.code tt (omega (arith, c.in-6-to-11.in_default-own.rest.0.0.0.1)) (omega arith))

pub returns-in-13-to-14 : goal.returns-in-13-to-14
unfolding word_operands alike
returns-in-13-to-14 c = sym (operands-range (operands range_sort 1) 2 some_code c.args.code tt (omega (arith, c.in-13-to-14.in_default-own.rest.0.0.1)) (omega arith))

-- after the quantifiers and `call` come the operations
operation-next : (n : ℕ) → all_code < n → (n ≡ call_code → ⊥) → first_operation ≤ n
operation-next n a b = omega arith

pub returns-in-16-to-22 : goal.returns-in-16-to-22
unfolding word_operands alike
returns-in-16-to-22 c = sym (operands-range (operands term_sort 2) 7 first_operation c.args.code tt (operation-next _ c.in-16-to-22.if-code-lt15-own.false c.in-16-to-22.in_default-own.rest.1) (omega (arith, c.in-16-to-22.if-code-lt23-own.true)))

pub returns-in_default : goal.returns-in_default
unfolding word_operands alike
returns-in_default c = sym (operands-range (operands formula_sort 0) 2 0 c.args.code tt (omega arith) (omega arith))

pub returns-in_default-2 : goal.returns-in_default-2
returns-in_default-2 c = sym (operands-above c.args.code c.in_default.in_default-own.rest.0.1 (omega arith))
