-- `climb::unwind` meets its contract.
use borrow.Author.Rules.{rules}
use native.Mathlib.Omega.{arith}
use mathlib.Core.Path.{refl, sym, ◌∙◌}
use Rattle.walker.proofs.Laws.Reach.{top-reach}
use Rattle.walker.proofs.Laws.Inside.{wins-top, wins-fell}
use Rattle.walker.proofs.Laws.Released.{unwinds-first, unwinds-releases, unwinds-more, unwinds-end}
use Rattle.walker.proofs.climb.unwind.Goals as goal

pub overflow_sub-g : goal.overflow_sub-g
overflow_sub-g c = omega (arith, (top-reach (wins-top c.requires)).low)

pub at-x-requires : goal.at-x-requires
at-x-requires c = let r = top-reach (wins-top c.requires) in omega (arith, r.low, r.high)

pub loop-w-init : goal.loop-w-init
loop-w-init c = (unwinds-first c.requires c.at-x.ensures, refl)

pub asks-requires : goal.asks-requires
asks-requires c = let r = top-reach (wins-top (c.loop-w.invariant.0).wins) in (λ h. omega (arith, h, r.low, r.high))

pub release-q-requires : goal.release-q-requires
release-q-requires c = unwinds-releases c.loop-w.invariant.0 (sym c.asks.ensures ∙ c.loop-w-test.true)

pub overflow_sub-q : goal.overflow_sub-q
overflow_sub-q c = omega (arith, (top-reach (wins-top (wins-fell (c.loop-w.invariant.0).wins c.release-q.ensures))).low)

pub at-x-requires-in-loop-w : goal.at-x-requires-in-loop-w
at-x-requires-in-loop-w c = let r = top-reach (wins-top (wins-fell (c.loop-w.invariant.0).wins c.release-q.ensures)) in omega (arith, r.low, r.high)

pub loop-w-smaller : goal.loop-w-smaller
loop-w-smaller c = (c.release-q.ensures).falls

pub loop-w-preserved : goal.loop-w-preserved
loop-w-preserved c = (unwinds-more c.loop-w.invariant.0 c.release-q.ensures c.at-x-in-loop-w.ensures, search rules)

pub returns : goal.returns
returns c = unwinds-end c.loop-w.invariant.0 (sym c.asks.ensures ∙ c.loop-w-test.false)
