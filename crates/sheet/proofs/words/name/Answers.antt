-- By the first byte. Assumes nothing.
use native.Mathlib.Omega.{arith}
use lib.ListN.{get_or}
use borrow.Author.Tests.{ne_eqb}
use Rattle.sheet.proofs.Lexed.{name-token}
use Rattle.sheet.proofs.words.name.Goals as goal

pub returns-in-118 : goal.returns-in-118
returns-in-118 c = rw (name-token c.args.edition c.args.t.now c.requires, c.in-118.is) c.index.ensures

pub returns-in-108 : goal.returns-in-108
returns-in-108 c = rw (name-token c.args.edition c.args.t.now c.requires, c.in-108.is) c.index-in-108.ensures

pub returns-in-97 : goal.returns-in-97
returns-in-97 c = rw (name-token c.args.edition c.args.t.now c.requires, c.in-97.is) c.index-in-97.ensures

pub returns-in-112 : goal.returns-in-112
returns-in-112 c = rw (name-token c.args.edition c.args.t.now c.requires, c.in-112.is) c.parameter.ensures

pub returns-in_default : goal.returns-in_default
returns-in_default c =
    let b = get_or c.args.t.now 0 0 in
    rw (
      name-token c.args.edition c.args.t.now c.requires,
      ne_eqb 118 b (λ e. omega arith),
      ne_eqb 108 b (λ e. omega arith),
      ne_eqb 97 b (λ e. omega arith),
      ne_eqb 112 b (λ e. omega arith),
    )
    c.word.ensures
