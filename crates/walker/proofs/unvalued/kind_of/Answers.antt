-- `unvalued::kind_of` meets its contract.
use mathlib.Core.Path.{refl}
use borrow.Author.Tests.{eq-eqb, ne_eqb}
use Rattle.walker.proofs.unvalued.kind_of.Goals as goal

pub returns-then-tag-eq-BARE : goal.returns-then-tag-eq-BARE
returns-then-tag-eq-BARE c = rw (eq-eqb c.args.tag 1 c.if-tag-eq-BARE.true) refl

pub returns : goal.returns
returns c = rw (ne_eqb c.args.tag 1 c.if-tag-eq-BARE.false) refl
