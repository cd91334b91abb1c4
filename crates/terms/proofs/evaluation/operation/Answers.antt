-- `evaluation::operation` meets its contract. Assumes nothing.
use Prim.Native.Nat.{◌+◌, ◌-◌}
use native.Mathlib.Omega.{arith}
use mathlib.Core.Path.{◌≡◌}
use lib.ListN.{get_or}
use Rattle.terms.specs.Results.{value_tag}
use Rattle.terms.specs.Machine.{result_words}
use Rattle.terms.proofs.Laws.Results.{operated-left, operated-right, operated-both}
use Rattle.terms.proofs.Laws.Stack.{operation-made}
use Rattle.terms.proofs.evaluation.operation.Goals as goal

pub returns-then-s-ne-VALUE : goal.returns-then-s-ne-VALUE
returns-then-s-ne-VALUE c =
    let a = c.args in
    let w = a.w.now in
    let at = a.s.at - result_words in
    operation-made w a.code a.s _
    (operated-left a.code a.s.tag a.s.value (get_or w at 0) (get_or w (at + 1) 0) at (λ z. omega (arith, c.if-s-ne-VALUE.true))
    c.raised.ensures)

pub returns-then-tag-ne-VALUE : goal.returns-then-tag-ne-VALUE
returns-then-tag-ne-VALUE c =
    let a = c.args in
    let w = a.w.now in
    let at = a.s.at - result_words in
    let valued : a.s.tag ≡ value_tag = omega (arith, c.if-s-ne-VALUE.false) in
    operation-made w a.code a.s _
    (operated-right a.code a.s.tag a.s.value (get_or w at 0) (get_or w (at + 1) 0) at valued c.if-tag-ne-VALUE.true
    c.raised-then-tag-ne-VALUE.ensures)

pub returns : goal.returns
returns c =
    let a = c.args in
    let w = a.w.now in
    let at = a.s.at - result_words in
    let valued : a.s.tag ≡ value_tag = omega (arith, c.if-s-ne-VALUE.false) in
    operation-made w a.code a.s _
    (operated-both a.code a.s.tag a.s.value (get_or w at 0) (get_or w (at + 1) 0) at valued c.if-tag-ne-VALUE.false
    c.calculated.ensures c.found.ensures)
