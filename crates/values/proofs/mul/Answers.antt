-- `values::mul` meets its contract: 64 bits hold the product exactly. Assumes nothing.
use mathlib.Core.Path.{◌∙◌, ap}
use lib.IntN.{ℤ, ◌*ℤ◌}
use Rattle.specification.specs.Arithmetic.{fit}
use Rattle.values.specs.Packed.{packed}
use Rattle.values.proofs.Laws.Exact.{Operands, result_fits, result-read, exact-product}
use Rattle.values.proofs.mul.Goals as goal
use Rattle.values.proofs.mul.Goals.{After-widen-2}

operands : (c : After-widen-2) → Operands c.args.x c.args.y c.widen.result c.widen-2.result
operands c =
    record { left_word = c.ranges.x.fits; right_word = c.ranges.y.fits; left = c.widen.ensures; right = c.widen-2.ensures }

pub overflow_mul-widen : goal.overflow_mul-widen
overflow_mul-widen c = result_fits (operands c) ◌*ℤ◌ exact-product

pub returns : goal.returns
returns c =
    c.pack.ensures ∙ ap (λ (z : ℤ). packed (fit z)) (result-read (operands (goal.at.returns c).After-widen-2) ◌*ℤ◌ exact-product)
