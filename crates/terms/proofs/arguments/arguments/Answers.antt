-- `arguments::arguments` meets its contract. The invariant: the arguments passed have their slots. The measure: the tokens left. Assumes nothing.
use native.Mathlib.Omega.{arith}
use native.Mathlib.Numerals.{add-one}
use Rattle.terms.proofs.Laws.Filling.{filling-start, filling-few, filling-token, filling-argues, filling-next, filling-end}
use Rattle.terms.proofs.Laws.Filling.{arrives-inside}
use Rattle.terms.proofs.arguments.arguments.Goals as goal

pub loop-i-init : goal.loop-i-init
loop-i-init c = rw (add-one, add-one) (filling-start _ _ _ _ _ (rw add-one at c.end-to.ensures))

pub argument-requires : goal.argument-requires
argument-requires c =
    omega (arith, filling-few c.loop-i.invariant c.loop-i-test.true c.requires, arrives-inside c.requires)

pub argue-is-requires : goal.argue-is-requires
argue-is-requires c =
    filling-argues c.loop-i.invariant c.loop-i-test.true c.requires c.end-e.ensures c.argument.ensures

pub note-set-requires : goal.note-set-requires
note-set-requires c =
    filling-few c.loop-i.invariant c.loop-i-test.true c.requires

pub loop-i-smaller : goal.loop-i-smaller
loop-i-smaller c =
    omega (arith, (filling-token c.loop-i.invariant c.loop-i-test.true c.requires).1, c.end-e.ensures, c.loop-i-test.true)

pub loop-i-preserved : goal.loop-i-preserved
loop-i-preserved c =
    filling-next c.loop-i.invariant c.loop-i-test.true c.requires c.end-e.ensures c.argument.ensures
    c.argue-is.ensures c.note-set.ensures

pub returns : goal.returns
returns c = filling-end c.loop-i.invariant c.loop-i-test.false
