-- By the answer of the line. Assumes nothing.
use mathlib.Core.Path.{refl, sym}
use native.Mathlib.Omega.{arith}
use Rattle.std.proofs.lemmas.Result.{err_from_is_err_and}
use Rattle.sheet.proofs.ProcedureBody.{filled-known, filled-sized}
use Rattle.sheet.proofs.AllLines.{formula-refused, formula-found, tabled-long}
use Rattle.sheet.proofs.reader.Reader.formula.Goals as goal

pub formula_line-requires : goal.formula_line-requires
formula_line-requires c =
    let h = c.requires in
    (h.small, omega (arith, h.enough), h.few, filled-sized 0 _ _ c.args.self.read _ h)

pub returns-in_err-tokens : goal.returns-in_err-tokens
returns-in_err-tokens c =
    let p = err_from_is_err_and c.from_residual.result c.from_residual.ensures.1 in rw (p.1, p.2) (let h = c.requires in formula-refused _ _ c.args.self.read _ h c.formula_line.new.w _ (c.in_err-tokens.ensures h.locals h.set h.declared (filled-known 0 _ _ c.args.self.read _ h)))

pub returns : goal.returns
returns c =
    let h = c.requires in (
      refl,
      refl,
      tabled-long (sym c.formula_line.auto.w)
          (formula-found _ _ c.args.self.read _ h c.formula_line.new.w _ _ 0 (c.in_ok-tokens.ensures h.locals h.set h.declared (filled-known 0 _ _ c.args.self.read _ h))),
    )
