-- `values::remainder` meets its contract: the machine's remainder is what the exact quotient leaves. Assumes nothing.
use mathlib.Core.Path.{sym, ◌∙◌, ap}
use lib.Signed.{rem_z}
use Rattle.specification.specs.Arithmetic.{fit}
use Rattle.specification.proofs.Laws.Rounding.{remainder_is}
use Rattle.specification.proofs.Laws.Division.{divided-nonzero}
use Rattle.values.specs.Word.{signed}
use Rattle.values.specs.Packed.{packed}
use Rattle.values.proofs.Laws.Exact.{Operands, result-read, exact-remainder}
use Rattle.values.proofs.remainder.Goals as goal
use Rattle.values.proofs.remainder.Goals.{In_ok-divisor}

operands : (c : In_ok-divisor) → Operands c.args.x c.args.y c.widen.result c.in_ok-divisor.field-0
operands c =
    record { left_word = c.ranges.x.fits; right_word = c.ranges.y.fits; left = c.widen.ensures; right = c.in_ok-divisor.ensures.ok.0 }

pub returns : goal.returns
returns c =
    let left = remainder_is (signed c.args.x) (signed c.args.y) in
    let read = result-read (operands (goal.at.returns c).In_ok-divisor) rem_z exact-remainder ∙ sym left in
    c.pack.ensures ∙ ap packed (ap fit read ∙ sym (divided-nonzero (signed c.args.y) _ c.in_ok-divisor.ensures.ok.1))
