-- `arguments::place` meets its contract. Assumes nothing.
use Rattle.terms.proofs.Laws.Slots.{place-value, place-bare}
use Rattle.terms.proofs.arguments.place.Goals as goal

pub returns-then-word-ne0 : goal.returns-then-word-ne0
returns-then-word-ne0 c =
    place-value c.word.ensures c.if-word-ne0.true c.word-then-word-ne0.ensures c.value.ensures

pub returns : goal.returns
returns c =
    place-bare c.word.ensures c.if-word-ne0.false c.other.ensures
