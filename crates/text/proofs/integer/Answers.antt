-- By the class of the first byte; the word is the held value's. Assumes nothing.
use mathlib.Core.Path.{◌≡◌, ◌∙◌, refl, sym, ap}
use Rattle.specification.specs.Bytes.{minus, class_number}
use Rattle.text.specs.declared.Class.TheVariants.{Minus}
use Rattle.text.specs.Class.{class_at}
use Rattle.std.specs.Prelude.{option_and_then}
use Rattle.specification.specs.Number.{natural, integer}
use Rattle.text.specs.Decimal.{capped, plain_word, worded}
use Rattle.text.proofs.Laws.Class.{class-inside, eq-yes, eq-no}
use Rattle.text.proofs.Laws.Decimal.{integer_plain, worded_plain}
use Rattle.text.proofs.integer.Goals as goal
use Rattle.text.proofs.integer.Goals.{Then-eq, Else-eq}

is-minus : (c : Then-eq) → class_at c.args.n.now 0 ≡ class_number minus
is-minus c = eq-yes _ _ _ c.class_at.ensures Minus (sym c.eq.ensures ∙ c.if-eq.true)

pub slice_bounds-natural-count : goal.slice_bounds-natural-count
slice_bounds-natural-count c = class-inside _ 0 minus (is-minus c)

pub slice_bounds-natural-start : goal.slice_bounds-natural-start
slice_bounds-natural-start c = class-inside _ 0 minus (is-minus c)

is-plain : (c : Else-eq) → worded (integer c.args.n.now) ≡ option_and_then plain_word (capped (natural c.args.n.now))
is-plain c =
    let n = c.args.n.now in
    let no = eq-no _ _ _ c.class_at.ensures Minus (sym c.eq.ensures ∙ c.if-eq.false) in
    ap worded (integer_plain n no) ∙ worded_plain (natural n)

pub returns-in_err-natural-2 : goal.returns-in_err-natural-2
returns-in_err-natural-2 c = rw (c.from_residual-in_err-natural-2.ensures, is-plain (goal.at.returns-in_err-natural-2 c).Else-eq, sym c.natural-else-eq.ensures, c.in_err-natural-2.was) refl

pub returns-in_ok-natural-2 : goal.returns-in_ok-natural-2
returns-in_ok-natural-2 c = rw (c.plain_word.ensures, is-plain (goal.at.returns-in_ok-natural-2 c).Else-eq, sym c.natural-else-eq.ensures, c.in_ok-natural-2.was) refl
