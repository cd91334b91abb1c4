-- `exact::quotient` meets its contract: 64 bits hold the quotient exactly, and only the word 2147483648 stands for 0. Assumes nothing.
use lib.Signed.{quot_z}
use Rattle.specification.specs.Arithmetic.{compute}
use Rattle.values.proofs.Laws.Exact.{result-read, exact-quotient}
use Rattle.values.proofs.Laws.Shifted.{raised-told, quotient-bounded, bounded-values, divided-operands, shifted-zero, shifted-divided, raised-fits}
use Rattle.values.proofs.exact.quotient.Goals as goal

pub overflow_add-result : goal.overflow_add-result
overflow_add-result c =
    let u = c.requires.0 in let v = c.requires.1 in
    raised-fits _ _ (result-read (divided-operands c.args.a c.args.b u v _ c.in-Some.ensures.some) quot_z exact-quotient)
    (bounded-values c.args.a c.args.b u v quot_z quotient-bounded)

pub returns-in_default : goal.returns-in_default
unfolding compute
returns-in_default c = shifted-zero c.args.a c.args.b c.requires.0 c.requires.1 _ c.in_default.ensures.none

pub returns : goal.returns
unfolding compute
returns c =
    let u = c.requires.0 in let v = c.requires.1 in let d = c.in-Some.ensures.some in
    shifted-divided _ _ u v _ d _ _
    (raised-told _ _ (result-read (divided-operands _ _ u v _ d) quot_z exact-quotient) (bounded-values _ _ u v quot_z quotient-bounded))
