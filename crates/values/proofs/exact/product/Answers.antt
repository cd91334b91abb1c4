-- `exact::product` meets its contract: 64 bits hold the product exactly. Assumes nothing.
use lib.IntN.{◌*ℤ◌}
use Rattle.specification.specs.Arithmetic.{compute}
use Rattle.values.proofs.Laws.Exact.{result-read, exact-product, result_fits}
use Rattle.values.proofs.Laws.Shifted.{raised-told, product-bounded, bounded-values, lowered-operands, raised-fits}
use Rattle.values.proofs.exact.product.Goals as goal

pub overflow_mul-result : goal.overflow_mul-result
overflow_mul-result c = result_fits (lowered-operands c.args.a c.args.b c.requires.0 c.requires.1) ◌*ℤ◌ exact-product

pub overflow_add-result : goal.overflow_add-result
overflow_add-result c =
    let a = c.args in
    raised-fits _ _ (result-read (lowered-operands a.a a.b c.requires.0 c.requires.1) ◌*ℤ◌ exact-product)
    (bounded-values a.a a.b c.requires.0 c.requires.1 ◌*ℤ◌ product-bounded)

pub returns : goal.returns
unfolding compute
returns c =
    let a = c.args in
    raised-told _ _ (result-read (lowered-operands a.a a.b c.requires.0 c.requires.1) ◌*ℤ◌ exact-product)
    (bounded-values a.a a.b c.requires.0 c.requires.1 ◌*ℤ◌ product-bounded)
