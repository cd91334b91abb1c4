-- The key, the formula and its line feed, and the sheet's end; then the ends of the subtrees. Assumes nothing.
use mathlib.Core.Path.{refl}
use native.Mathlib.Omega.{arith}
use Rattle.std.proofs.lemmas.Result.{err_from_is_err_and}
use Rattle.sheet.specs.FormulaLine.{begin}
use Rattle.specification.specs.Bytes.{bytes}
use Rattle.text.proofs.Laws.Keys.{begins-long}
use lib.ListN.{length-drop}
use Rattle.sheet.proofs.Keys.{exactly-found}
use Rattle.sheet.proofs.FormulaRest.{rest-no-key, rest-refused, rest-long, rest_more, rest_end}
use Rattle.sheet.proofs.formula.formula_line.Goals as goal

pub returns-in_err-from : goal.returns-in_err-from
returns-in_err-from c =
    let p = err_from_is_err_and c.from_residual.result c.from_residual.ensures.1 in rw (p.1, p.2) (λ B b D g. (rest-no-key (begin c.args.s.now c.args.d c.args.x.at c.args.x.tokens B) D c.in_err-from.ensures, refl))

pub to_feed-requires : goal.to_feed-requires
to_feed-requires c =
    let a = c.args in
    let (led, from) = exactly-found a.s.now a.x.at (bytes "formula=") 3 c.in_ok-from.ensures in
    (omega (arith, from, begins-long (bytes "formula=") _ led, length-drop a.x.at a.s.now), c.requires.0, c.requires.1, c.requires.2, c.requires.3)

pub returns-in_err-read : goal.returns-in_err-read
returns-in_err-read c =
    let p = err_from_is_err_and c.from_residual-in_err-read.result c.from_residual-in_err-read.ensures.1 in rw (p.1, p.2) (λ B b D g. let x = c.in_err-read.ensures.1 B b D g in (rest-refused (begin c.args.s.now c.args.d c.args.x.at c.args.x.tokens B) D c.in_ok-from.ensures x.0, x.1))

pub returns-then-read-s : goal.returns-then-read-s
returns-then-read-s c =
    rw c.new.ensures (λ B b D g.
    let x = c.in_ok-read.ensures.1 B b D g in
    (rest_more (begin c.args.s.now c.args.d c.args.x.at c.args.x.tokens B) D c.in_ok-from.ensures x c.if-read-s.true, rest-long (begin c.args.s.now c.args.d c.args.x.at c.args.x.tokens B) D c.in_ok-from.ensures x))

pub ends-requires : goal.ends-requires
ends-requires c = (c.in_ok-read.ensures.0.0, omega (arith, c.to_feed.auto.w, c.requires.1))

pub returns : goal.returns
returns c =
    λ B b D g. rest_end (begin c.args.s.now c.args.d c.args.x.at c.args.x.tokens B) D c.in_ok-from.ensures (c.in_ok-read.ensures.1 B b D g) c.if-read-s.false c.requires.1 _ c.ends.ensures
