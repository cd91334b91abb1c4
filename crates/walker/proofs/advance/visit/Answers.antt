-- `advance::visit` meets its contract, by the code.
use native.Mathlib.Omega.{arith}
use mathlib.Core.Path.{refl, sym, ◌∙◌}
use mathlib.Core.Logic.{inl, inr}
use Rattle.tables.specs.Codes.{true_code, and_code, or_code, imp_code, not_code, ex_code, call_code, local_code}
use Rattle.tables.specs.Leaves.{empty_code, success_code, failure_code, error_code}
use Rattle.walker.proofs.Laws.Returned.{returned-came}
use Rattle.walker.proofs.Laws.Loops.{rise-came}
use Rattle.walker.proofs.Laws.Visited.{due-word, due-entered, due-arrived, due-came, due-within, due-return, due-terms}
use Rattle.walker.proofs.advance.visit.Goals as goal

pub word-code-requires : goal.word-code-requires
word-code-requires c = due-word c.requires

pub enter_empty-requires : goal.enter_empty-requires
enter_empty-requires c = due-entered c.requires c.word-code.ensures empty_code c.in-0.is (λ z. omega arith)

pub enter_true-requires : goal.enter_true-requires
enter_true-requires c = due-entered c.requires c.word-code.ensures true_code c.in-1.is (λ z. omega arith)

pub enter_and-requires : goal.enter_and-requires
enter_and-requires c = due-entered c.requires c.word-code.ensures and_code c.in-2.is (λ z. omega arith)

pub enter_or-requires : goal.enter_or-requires
enter_or-requires c = due-entered c.requires c.word-code.ensures or_code c.in-3.is (λ z. omega arith)

pub enter_inner-requires : goal.enter_inner-requires
enter_inner-requires c = inl (due-entered c.requires c.word-code.ensures imp_code c.in-4.is (λ z. omega arith))

pub enter_inner-requires-in-5 : goal.enter_inner-requires-in-5
enter_inner-requires-in-5 c = inr (due-entered c.requires c.word-code.ensures not_code c.in-5.is (λ z. omega arith))

pub enter_ex-requires : goal.enter_ex-requires
enter_ex-requires c = due-entered c.requires c.word-code.ensures ex_code c.in-12.is (λ z. omega arith)

pub enter_call-requires : goal.enter_call-requires
enter_call-requires c = due-entered c.requires c.word-code.ensures call_code c.in-15.is (λ z. omega arith)

pub success-requires : goal.success-requires
success-requires c = due-arrived c.requires c.word-code.ensures success_code c.in-16.is (λ z. omega arith)

pub failure-requires : goal.failure-requires
failure-requires c = due-entered c.requires c.word-code.ensures failure_code c.in-17.is (λ z. omega arith)

pub error-requires : goal.error-requires
error-requires c = due-entered c.requires c.word-code.ensures error_code c.in-18.is (λ z. omega arith)

pub overflow_add-g : goal.overflow_add-g
overflow_add-g c = omega (arith, (due-return c.requires c.word-code.ensures c.in-19.is).0)

pub word-requires : goal.word-requires
word-requires c = (due-return c.requires c.word-code.ensures c.in-19.is).1

pub enter_again-requires : goal.enter_again-requires
enter_again-requires c = due-entered c.requires c.word-code.ensures local_code c.in-25.is (λ z. omega arith)

pub enter_terms-requires : goal.enter_terms-requires
enter_terms-requires c =
    let r = c.in_default.in_default-own.rest in
    let read = c.word-code.ensures in
    let d = c.requires in
    let h = due-terms d read r.0.0.0.0.0.0.0.0.0.0.0.0.0.1 r.0.0.0.0.0.0.0.0.0.0.0.0.1 r.0.0.0.0.0.0.0.0.0.0.0.1 r.0.0.0.0.0.0.0.0.0.0.1 r.0.0.0.0.0.0.0.0.0.1 r.0.0.0.0.0.0.0.0.1 r.0.0.0.0.0.0.0.1 r.0.0.0.0.0.0.1 r.0.0.0.0.0.1 r.0.0.0.0.1 r.0.0.0.1 r.0.0.1 r.0.1 r.1 in
    (due-entered d read _ refl r.0.0.1, h)

pub returns-in-0 : goal.returns-in-0
returns-in-0 c =
    due-came c.requires c.word-code.ensures empty_code c.in-0.is (λ z. omega arith) c.enter_empty.ensures

pub returns-in-1 : goal.returns-in-1
returns-in-1 c =
    due-came c.requires c.word-code.ensures true_code c.in-1.is (λ z. omega arith) c.enter_true.ensures

pub returns-in-2 : goal.returns-in-2
returns-in-2 c =
    due-came c.requires c.word-code.ensures and_code c.in-2.is (λ z. omega arith) c.enter_and.ensures

pub returns-in-3 : goal.returns-in-3
returns-in-3 c =
    due-came c.requires c.word-code.ensures or_code c.in-3.is (λ z. omega arith) c.enter_or.ensures

pub returns-in-4 : goal.returns-in-4
returns-in-4 c =
    due-came c.requires c.word-code.ensures imp_code c.in-4.is (λ z. omega arith) c.enter_inner.ensures

pub returns-in-5 : goal.returns-in-5
returns-in-5 c =
    due-came c.requires c.word-code.ensures not_code c.in-5.is (λ z. omega arith) c.enter_inner-in-5.ensures

pub returns-in-12 : goal.returns-in-12
returns-in-12 c =
    due-came c.requires c.word-code.ensures ex_code c.in-12.is (λ z. omega arith) c.enter_ex.ensures

pub returns-in-15 : goal.returns-in-15
returns-in-15 c =
    due-came c.requires c.word-code.ensures call_code c.in-15.is (λ z. omega arith) c.enter_call.ensures

pub returns-in-16 : goal.returns-in-16
returns-in-16 c =
    due-within c.requires c.word-code.ensures success_code c.in-16.is (λ z. omega arith) c.success.ensures

pub returns-in-17 : goal.returns-in-17
returns-in-17 c =
    due-came c.requires c.word-code.ensures failure_code c.in-17.is (λ z. omega arith) c.failure.ensures

pub returns-in-18 : goal.returns-in-18
returns-in-18 c =
    due-came c.requires c.word-code.ensures error_code c.in-18.is (λ z. omega arith) c.error.ensures

pub returns-in-20 : goal.returns-in-20
returns-in-20 c = rise-came c.requires (sym c.word-code.ensures ∙ c.in-20.is) c.out.ensures

pub returns-in-19 : goal.returns-in-19
returns-in-19 c =
    returned-came c.requires (sym c.word-code.ensures ∙ c.in-19.is)
    c.word.ensures c.to.ensures

pub returns-in-25 : goal.returns-in-25
returns-in-25 c =
    due-came c.requires c.word-code.ensures local_code c.in-25.is (λ z. omega arith) c.enter_again.ensures

pub returns-in_default : goal.returns-in_default
returns-in_default c =
    due-came c.requires c.word-code.ensures _ refl c.in_default.in_default-own.rest.0.0.1 c.enter_terms.ensures
