-- An outcome as numbers, for hosts, and for code that keeps an end in a word. Document 01: "Where an answer is an enum, a definition gives
-- this paper's number and values for each case of the enum". Assumes nothing.
use Rattle.std.specs.Prelude.{ℕ, List, [], ◌∷◌, eqb, Ok, Err}
use Rattle.specification.specs.declared.End.{End}
use Rattle.specification.specs.declared.End.TheVariants.{Done, Spent, Path, Output}
use Rattle.specification.specs.declared.refusals.Refusal.{Refusal}
use Rattle.specification.specs.Bytes.{pick}
use Rattle.specification.specs.Outcome.{Outcome}
use Rattle.specification.specs.Moves.{Move}

abbrev pub end_number : End → ℕ
end_number Done = 0
end_number Spent = 1
end_number Path = 2
end_number Output = 3

-- the end that a number stands for
abbrev pub end_from : ℕ → End
end_from n = pick (eqb n (end_number Done)) Done (pick (eqb n (end_number Spent)) Spent (pick (eqb n (end_number Path)) Path Output))

-- of a refusal: its number, its place, and six zeros
abbrev pub refusal_report : Refusal → List ℕ
refusal_report r = r.number ∷ r.place ∷ 0 ∷ 0 ∷ 0 ∷ 0 ∷ 0 ∷ 0 ∷ []

-- refused number or 0, place, end, nodes, answers, errors, fails, bytes written; of a refused run the last six are zero
abbrev pub report_of : Outcome → List ℕ
report_of (Err r) = refusal_report r
report_of (Ok x) =
    let t = x.tallies in
    0 ∷ 0 ∷ end_number x.end ∷ t.nodes ∷ t.answers ∷ t.errors ∷ t.fails ∷ x.written ∷ []

-- of a move the same places: refused number or 0, place, five zeros, bytes written
abbrev pub move_report : Move → List ℕ
move_report (Err r) = refusal_report r
move_report (Ok written) = 0 ∷ 0 ∷ 0 ∷ 0 ∷ 0 ∷ 0 ∷ 0 ∷ written ∷ []
