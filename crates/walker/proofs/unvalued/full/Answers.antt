-- `unvalued::full` meets its contract.
use native.Mathlib.Omega.{arith}
use Rattle.walker.proofs.Laws.Unvalued.{near, searches, asked, knows}
use Rattle.walker.proofs.unvalued.full.Goals as goal

pub first_term-from-requires : goal.first_term-from-requires
first_term-from-requires c = let a = c.requires in omega (arith, (near a.0 a.1).0)

pub end_of_terms-to-requires : goal.end_of_terms-to-requires
end_of_terms-to-requires c = let a = c.requires in near a.0 a.1

pub procedure-p-requires : goal.procedure-p-requires
procedure-p-requires c =
    let a = c.requires in
    searches a.0 a.1 c.first_term-from.ensures c.end_of_terms-to.ensures

pub sides-requires : goal.sides-requires
sides-requires c =
    let a = c.requires in
    asked a.0 a.1 c.first_term-from.ensures c.end_of_terms-to.ensures c.procedure-p.ensures

pub returns : goal.returns
returns c =
    let a = c.requires in
    knows a.0 a.1 c.first_term-from.ensures c.end_of_terms-to.ensures c.procedure-p.ensures c.sides.ensures
