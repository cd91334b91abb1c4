-- `carry` meets its contract, by the laws of Carried.
use native.Mathlib.Omega.{arith}
use mathlib.Core.Path.{sym, ◌∙◌, ap}
use lib.ListN.{length, replicate}
use Rattle.vodlasim.proofs.Carried.{edition-small, known-sheet, refused-answers, moved-answers}
use Rattle.std.proofs.lemmas.Result.{err_from_is_err_and}
use Rattle.vodlasim.proofs.carry.Goals as goal

pub admit-requires : goal.admit-requires
admit-requires c =
    let a = c.args in
    rw c.edition_of.ensures (edition-small a.way)

pub returns-in_err-read : goal.returns-in_err-read
returns-in_err-read c =
    let a = c.args in
    let (e, h) = rw (c.is_strict.ensures, c.edition_of.ensures) at c.admit.ensures in
    let p = err_from_is_err_and c.from_residual.result c.from_residual.ensures.1 in
    rw (p.1, p.2)
    (refused-answers a.way a.sheet.now a.work.now a.output.now _ _ _ (sym c.in_err-read.was ∙ e) h)

pub overflow_add-read : goal.overflow_add-read
overflow_add-read c =
    let a = c.args in
    let (e, h) = rw (c.is_strict.ensures, c.edition_of.ensures) at c.admit.ensures in
    let k = known-sheet a.way a.sheet.now (length a.work.now) (length a.output.now) _ _ (sym c.in_ok-read.was ∙ e) h in
    omega (arith, k.few.0, k.few.1)

pub moved-moved-requires : goal.moved-moved-requires
moved-moved-requires c =
    let a = c.args in
    let (e, h) = rw (c.is_strict.ensures, c.edition_of.ensures) at c.admit.ensures in
    let k = known-sheet a.way a.sheet.now (length a.work.now) (length a.output.now) _ _ (sym c.in_ok-read.was ∙ e) h in
    (k.movable, omega (arith, k.few.0, k.few.1), k.room)

pub returns : goal.returns
returns c =
    let a = c.args in
    let (e, h) = rw (c.is_strict.ensures, c.edition_of.ensures) at c.admit.ensures in
    moved-answers a.way a.sheet.now a.work.now a.output.now _ _ _ _ _
    (sym c.in_ok-read.was ∙ e) h c.moved-moved.ensures
    (c.clear.ensures ∙ ap (λ n. replicate n 0) c.admit.auto.work)
