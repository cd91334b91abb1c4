-- `exact::modulus` meets its contract: it is what that quotient leaves. Assumes nothing.
use Rattle.specification.specs.Arithmetic.{compute}
use Rattle.values.proofs.Laws.Floor.{modulus-read}
use Rattle.values.proofs.Laws.Shifted.{raised-told, modulus-bounded, divided-operands, nonzero, shifted-zero, shifted-divided}
use Rattle.values.proofs.exact.modulus.Goals as goal

pub returns-in_default : goal.returns-in_default
unfolding compute
returns-in_default c = shifted-zero c.args.a c.args.b c.requires.0 c.requires.1 _ c.in_default.ensures.none

pub returns : goal.returns
unfolding compute
returns c =
    let u = c.requires.0 in let v = c.requires.1 in let d = c.in-Some.ensures.some in
    let read = modulus-read (divided-operands _ _ u v _ d) (nonzero _ _ u v _ d) c.rounded.result c.rounded.ensures in
    shifted-divided _ _ u v _ d _ _ (raised-told _ _ read (modulus-bounded _ _ u v _ d))
