-- `exact::remainder` meets its contract: the machine's remainder is what the exact quotient leaves, and only the word 2147483648 stands for 0.
-- Assumes nothing.
use mathlib.Core.Path.{sym, ◌∙◌}
use lib.Signed.{rem_z}
use Rattle.specification.specs.Arithmetic.{compute}
use Rattle.specification.proofs.Laws.Rounding.{remainder_is}
use Rattle.values.specs.Shifted.{value_of}
use Rattle.values.proofs.Laws.Exact.{result-read, exact-remainder}
use Rattle.values.proofs.Laws.Shifted.{raised-told, remainder-bounded, bounded-values, divided-operands, shifted-zero, shifted-divided, raised-fits}
use Rattle.values.proofs.exact.remainder.Goals as goal

pub overflow_add-result : goal.overflow_add-result
overflow_add-result c =
    let u = c.requires.0 in let v = c.requires.1 in
    raised-fits _ _ (result-read (divided-operands c.args.a c.args.b u v _ c.in-Some.ensures.some) rem_z exact-remainder)
    (bounded-values c.args.a c.args.b u v rem_z remainder-bounded)

pub returns-in_default : goal.returns-in_default
unfolding compute
returns-in_default c = shifted-zero c.args.a c.args.b c.requires.0 c.requires.1 _ c.in_default.ensures.none

pub returns : goal.returns
unfolding compute
returns c =
    let left = remainder_is (value_of c.args.a) (value_of c.args.b) in
    let u = c.requires.0 in let v = c.requires.1 in let d = c.in-Some.ensures.some in
    shifted-divided _ _ u v _ d _ _
    (raised-told _ _ (result-read (divided-operands _ _ u v _ d) rem_z exact-remainder ∙ sym left)
    (rw left (bounded-values _ _ u v rem_z remainder-bounded)))
