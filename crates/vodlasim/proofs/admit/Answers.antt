-- `admit` meets its contract, by the laws of Carried.
use mathlib.Core.Path.{refl, sym, ◌∙◌}
use lib.ListN.{length}
use borrow.Author.Tests.{le-leb, lt-leb}
use Rattle.vodlasim.proofs.Carried.{words-enough, first-refused, second-refused, reads_only}
use Rattle.vodlasim.proofs.admit.Goals as goal

pub returns-then-not-room : goal.returns-then-not-room
returns-then-not-room c =
    let a = c.args in
    let none = sym c.room.ensures ∙ c.if-not-room.true in
    let e = first-refused a.strict a.edition a.sheet.now (length a.work.now) a.size none in
    rw (c.new.ensures, e) (refl, c.clear.ensures)

pub returns-then-sheet-gt-LONGEST_SHEET : goal.returns-then-sheet-gt-LONGEST_SHEET
returns-then-sheet-gt-LONGEST_SHEET c =
    let a = c.args in
    let enough = sym c.room.ensures ∙ c.if-not-room.false in
    let long = lt-leb (length a.sheet.now) 4096 c.if-sheet-gt-LONGEST_SHEET.true in
    let e = second-refused a.strict a.edition a.sheet.now (length a.work.now) a.size enough long in
    rw (c.new-then-sheet-gt-LONGEST_SHEET.ensures, e) (refl, c.clear-then-sheet-gt-LONGEST_SHEET.ensures)

pub read_only-requires : goal.read_only-requires
read_only-requires c =
    let enough = sym c.room.ensures ∙ c.if-not-room.false in
    (c.requires, words-enough (length c.args.work.now) c.args.size enough)

pub returns : goal.returns
returns c =
    let a = c.args in
    let enough = sym c.room.ensures ∙ c.if-not-room.false in
    let short = le-leb (length a.sheet.now) 4096 c.if-sheet-gt-LONGEST_SHEET.false in
    rw (reads_only a.strict a.edition a.sheet.now (length a.work.now) a.size enough short) c.read_only.ensures
