-- `unvalued::decide` meets its contract.
use Rattle.walker.proofs.Laws.Decided.{both-valued}
use Rattle.walker.proofs.unvalued.decide.Goals as goal

pub valued-requires : goal.valued-requires
valued-requires c =
    let d = c.requires in
    let v = c.are_values.ensures.yes c.if-are_values.true in
    (both-valued d v.0 v.1, d.terms)

pub lacks-requires : goal.lacks-requires
lacks-requires c = record { decides = c.requires; other = c.are_values.ensures.no c.if-are_values.false }
