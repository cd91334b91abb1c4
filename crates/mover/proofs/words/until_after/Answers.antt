-- By whether the token is dropped, and whether its range is empty. Assumes nothing.
use native.Mathlib.Omega.{arith}
use mathlib.Core.Path.{sym, ◌∙◌}
use Rattle.mover.proofs.Laws.Words.{empty-inside, until-within, until-empty, until-other}
use Rattle.mover.proofs.words.until_after.Goals as goal
use Rattle.mover.proofs.words.until_after.Goals.{else-until-i-via-then-until-i+else-empty_at, else-until-i-via-else-until-i}

pub end-requires : goal.end-requires
end-requires c =
    let a = c.args in
    omega (arith, empty-inside a.w.now a.i (sym c.empty_at.ensures ∙ c.if-empty_at.true), c.requires.0)

pub returns-then-empty_at : goal.returns-then-empty_at
returns-then-empty_at c =
    let a = c.args in
    c.end.ensures
    ∙ sym (until-empty a.w.now a.i a.until c.if-until-i.true (sym c.empty_at.ensures ∙ c.if-empty_at.true))

pub returns-else-until-i : goal.returns-else-until-i
returns-else-until-i c =
    let a = c.args in
    elim c.else-until-i.branch [
      | else-until-i-via-then-until-i+else-empty_at w ↦
          sym (until-other a.w.now a.i a.until w.if-until-i.true (sym w.empty_at.ensures ∙ w.if-empty_at.false))
      | else-until-i-via-else-until-i w ↦ sym (until-within a.w.now a.i a.until w.if-until-i.false)
    ]
