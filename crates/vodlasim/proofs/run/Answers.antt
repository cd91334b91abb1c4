-- `run` meets its contract, by the laws of Runs.
use native.Mathlib.Omega.{arith}
use mathlib.Core.Path.{sym, ◌∙◌}
use lib.ListN.{length}
use borrow.Author.Tests.{le-leb, lt-leb}
use Rattle.vodlasim.proofs.Runs.{memory-of, first-refused, second-refused, readied, refused-answers, unread-answers, walk-answers}
use Rattle.std.proofs.lemmas.Result.{err_from_is_err_and}
use Rattle.vodlasim.proofs.run.Goals as goal

pub returns-then-not-enough : goal.returns-then-not-enough
returns-then-not-enough c =
    let a = c.args in
    let enough = sym c.enough.ensures ∙ c.if-not-enough.true in
    rw c.new.ensures
    (refused-answers a.sheet.now a.setting a.work.now _ a.output.now 1 0
    (first-refused a.sheet.now a.setting (length a.work.now) (length a.output.now) enough) c.clear.ensures)

pub returns-then-sheet-gt-LONGEST_SHEET : goal.returns-then-sheet-gt-LONGEST_SHEET
returns-then-sheet-gt-LONGEST_SHEET c =
    let a = c.args in
    let enough = sym c.enough.ensures ∙ c.if-not-enough.false in
    rw c.new-then-sheet-gt-LONGEST_SHEET.ensures
    (refused-answers a.sheet.now a.setting a.work.now _ a.output.now 2 4096
    (second-refused a.sheet.now a.setting (length a.work.now) (length a.output.now) enough
    (lt-leb (length a.sheet.now) 4096 c.if-sheet-gt-LONGEST_SHEET.true)) c.clear-then-sheet-gt-LONGEST_SHEET.ensures)

pub read_sheet-requires : goal.read_sheet-requires
read_sheet-requires c =
    let (limit, size) = memory-of c.args.setting.path (length c.args.work.now) (sym c.enough.ensures ∙ c.if-not-enough.false) in
    omega (arith, size)

pub returns-in_err-read : goal.returns-in_err-read
returns-in_err-read c =
    let a = c.args in
    let enough = sym c.enough.ensures ∙ c.if-not-enough.false in
    let read = c.read_sheet.ensures in
    let p = err_from_is_err_and c.from_residual.result c.from_residual.ensures.1 in
    rw (p.1, p.2)
    (unread-answers a.sheet.now a.setting a.work.now _ a.output.now enough
    (le-leb (length a.sheet.now) 4096 c.if-sheet-gt-LONGEST_SHEET.false) _ _
    (sym c.in_err-read.was ∙ read.0) read.1)

pub walk_tables-ran-requires : goal.walk_tables-ran-requires
walk_tables-ran-requires c =
    let a = c.args in
    let enough = sym c.enough.ensures ∙ c.if-not-enough.false in
    let read = c.read_sheet.ensures in
    let (limit, size) = memory-of a.setting.path (length a.work.now) enough in
    readied a.sheet.now a.setting (length a.work.now) limit size _ _ (sym c.in_ok-read.was ∙ read.0) read.1

pub returns : goal.returns
returns c =
    let a = c.args in
    let enough = sym c.enough.ensures ∙ c.if-not-enough.false in
    let read = c.read_sheet.ensures in
    walk-answers a.sheet.now a.setting a.work.now _ a.output.now enough
    (le-leb (length a.sheet.now) 4096 c.if-sheet-gt-LONGEST_SHEET.false) _ _ _ _ _
    (sym c.in_ok-read.was ∙ read.0) read.1 c.walk_tables-ran.ensures c.clear-2.ensures
