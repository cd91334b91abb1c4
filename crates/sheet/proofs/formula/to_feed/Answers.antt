-- The tokens, then the line feed. Assumes nothing.
use Rattle.tables.specs.Layout.{max_locals}
use Rattle.std.proofs.lemmas.Result.{err_from_is_err_and}
use Rattle.sheet.specs.FormulaLine.{begin}
use Rattle.sheet.proofs.Bits.{locals_in, bits_in}
use Rattle.sheet.proofs.FormulaRest.{line_refused, through-long, through-no-feed, through-feed}
use Rattle.sheet.proofs.formula.to_feed.Goals as goal

pub returns-in_err-read : goal.returns-in_err-read
returns-in_err-read c =
    let p = err_from_is_err_and c.from_residual.result c.from_residual.ensures.1 in rw (p.1, p.2) (tt, λ B b D g. let x = c.in_err-read.ensures B b in (line_refused (begin c.args.s.now c.args.d c.args.x.at c.args.x.tokens B) D _ _ (x.1 D g), x.0))

pub returns-in_err-at : goal.returns-in_err-at
returns-in_err-at c =
    let p = err_from_is_err_and c.from_residual-in_err-at.result c.from_residual-in_err-at.ensures.1 in rw (p.1, p.2) (tt, λ B b D g. let x = c.in_ok-read.ensures B b in (through-no-feed x D g c.in_err-at.ensures.reading, through-long x))

pub returns : goal.returns
returns c =
    let m = c.args.x.bound in (
      ((c.in_ok-read.ensures (locals_in m max_locals) (bits_in m)).few, c.in_ok-at.ensures.within),
      λ B b D g. through-feed (c.in_ok-read.ensures B b) D g c.in_ok-at.ensures.reading c.in_ok-at.ensures.within,
    )
