-- By the number. Assumes nothing.
use mathlib.Core.Path.{refl}
use Rattle.std.proofs.lemmas.Result.{err_from_is_err_and}
use Rattle.sheet.proofs.FirstLines.{scalars-refused, scalars-found}
use Rattle.sheet.proofs.reader.Reader.scalars.Goals as goal

pub returns-in_err-scalars : goal.returns-in_err-scalars
returns-in_err-scalars c =
    let p = err_from_is_err_and c.from_residual.result c.from_residual.ensures.1 in rw (p.1, p.2) (scalars-refused c.args.self.sheet.now c.args.self.read c.requires _ c.in_err-scalars.ensures.reading)

pub returns : goal.returns
returns c =
    rw (c.behind.ensures.0, c.behind.ensures.1) (refl, refl, scalars-found c.args.self.sheet.now c.args.self.read c.requires c.in_ok-scalars.ensures.reading)
