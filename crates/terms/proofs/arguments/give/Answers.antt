-- `arguments::give` meets its contract. Assumes nothing.
use Rattle.terms.proofs.Laws.Slots.{give-value, give-bare, give-open}
use Rattle.terms.proofs.arguments.give.Goals as goal

pub returns-then-s-eq-VALUE : goal.returns-then-s-eq-VALUE
returns-then-s-eq-VALUE c = give-value c.if-s-eq-VALUE.true c.value.ensures

pub returns-then-s-eq-BARE : goal.returns-then-s-eq-BARE
returns-then-s-eq-BARE c = give-bare c.if-s-eq-BARE.true c.other.ensures

pub returns : goal.returns
returns c = give-open c.if-s-eq-VALUE.false c.if-s-eq-BARE.false c.other-2.ensures
