-- By the number. Assumes nothing.
use mathlib.Core.Path.{refl}
use Rattle.std.proofs.lemmas.Result.{err_from_is_err_and}
use Rattle.sheet.proofs.FirstLines.{edition-refused, edition-found}
use Rattle.sheet.proofs.reader.Reader.edition.Goals as goal

pub returns-in_err-edition : goal.returns-in_err-edition
returns-in_err-edition c =
    let p = err_from_is_err_and c.from_residual.result c.from_residual.ensures.1 in rw (p.1, p.2) (edition-refused c.args.self.sheet.now c.args.self.read c.requires _ c.in_err-edition.ensures.reading)

pub returns : goal.returns
returns c =
    rw (c.behind.ensures.0, c.behind.ensures.1) (refl, refl, edition-found c.args.self.sheet.now c.args.self.read c.requires c.in_ok-edition.ensures.reading)
