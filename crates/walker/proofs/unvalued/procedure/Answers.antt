-- `unvalued::procedure` meets its contract. The invariant: no parameter stands in the tokens passed.
use Prim.Native.Nat.{◌+◌}
use native.Mathlib.Omega.{arith}
use mathlib.Core.Path.{refl, sym, ◌∙◌, ap}
use mathlib.Core.Logic.{inl, inr}
use Rattle.walker.specs.Terms.{frame_of}
use Rattle.walker.proofs.Laws.Unvalued.{none_more}
use Rattle.walker.proofs.unvalued.procedure.Goals as goal

pub loop-i-init : goal.loop-i-init
loop-i-init c = λ j low high e. omega arith

pub code-requires : goal.code-requires
code-requires c = let x = c.requires in omega (arith, x.inside, x.size)

pub planned-requires : goal.planned-requires
planned-requires c =
    let x = c.requires in omega (arith, x.inside, x.size)

pub number-requires : goal.number-requires
number-requires c =
    let code = c.code.ensures in
    rw c.planned.ensures (c.requires.slots _ c.loop-i.auto.i c.loop-i-test.true (sym code ∙ c.if-code-eq-PARAMETER.true))

pub overflow_add-result : goal.overflow_add-result
overflow_add-result c = omega (arith, c.number.ensures)

pub returns-then-code-eq-PARAMETER : goal.returns-then-code-eq-PARAMETER
returns-then-code-eq-PARAMETER c =
    inr (record {
      token = c.loop-i.i;
      after = c.loop-i.auto.i;
      before = c.loop-i-test.true;
      code = sym c.code.ensures ∙ c.if-code-eq-PARAMETER.true;
      number = ap (◌+ 1) (c.number.ensures ∙ ap frame_of c.planned.ensures);
    })

pub loop-i-preserved : goal.loop-i-preserved
loop-i-preserved c =
    let code = c.code.ensures in
    let other = c.if-code-eq-PARAMETER.false in
    none_more c.args.w.now c.args.from c.loop-i.i c.loop-i.invariant (λ e. other (code ∙ e))

pub returns : goal.returns
returns c = let none = c.loop-i.invariant in inl (refl, λ j low high e. none j low (omega arith) e)
