-- By the answer of the line. Assumes nothing.
use mathlib.Core.Path.{refl, sym}
use Rattle.std.proofs.lemmas.Result.{err_from_is_err_and}
use Rattle.sheet.proofs.AllLines.{given-refused, given-found, filled-long}
use Rattle.sheet.proofs.reader.Reader.given.Goals as goal

pub returns-in_err-at : goal.returns-in_err-at
returns-in_err-at c =
    let p = err_from_is_err_and c.from_residual.result c.from_residual.ensures.1 in rw (p.1, p.2) (given-refused _ _ c.args.self.read _ c.requires c.given_line.new.w _ (c.in_err-at.ensures _ c.requires.vacant))

pub returns : goal.returns
returns c =
    rw (c.behind.ensures.0, c.behind.ensures.1)
    (refl, refl, filled-long (sym c.given_line.auto.w) (given-found _ _ c.args.self.read _ c.requires c.given_line.new.w (c.in_ok-at.ensures _ c.requires.vacant)))
