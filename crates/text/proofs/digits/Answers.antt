-- A byte that is no digit ends the number, and a digit is read on. Assumes nothing.
use mathlib.Core.Path.{◌≡◌, ◌∙◌, sym, ap}
use mathlib.Core.Bool.{true}
use native.Mathlib.Omega.{arith}
use denote.Enum.Bare.{differs_true, differs_false}
use borrow.Author.Rules.{rules}
use Prim.Native.Nat.{ℕ, ◌+◌}
use lib.ListN.{get_or, drop}
use Rattle.specification.specs.Bytes.{digit, is_in}
use Rattle.specification.proofs.Laws.Canonical.{digit-byte}
use Rattle.text.specs.contracts.Class.{the_type}
use Rattle.text.specs.declared.Class.TheVariants.{Digit}
use Rattle.text.specs.Decimal.{capped, read_on}
use Rattle.text.proofs.Laws.Class.{in-yes, in-no}
use Rattle.text.proofs.Laws.Decimal.{digit_more, digit_none}
use Rattle.text.proofs.digits.Goals as goal
use Rattle.text.proofs.digits.Goals.{Else-ne}

pub returns-then-ne : goal.returns-then-ne
returns-then-ne c =
    let no = differs_true the_type _ _ (sym c.ne.ensures ∙ c.if-ne.true) in
    sym (c.loop-b.invariant.1 ∙ digit_none _ _ _ c.loop-b-test.true (in-no _ _ c.of.ensures Digit no))

-- what the class says of the byte
is_digit : (c : Else-ne) → is_in digit (get_or c.args.s.now c.loop-b.b-index 0) ≡ true
is_digit c = in-yes _ _ c.of.ensures Digit (differs_false the_type (search rules) _ _ (sym c.ne.ensures ∙ c.if-ne.false))

pub overflow_sub-b : goal.overflow_sub-b
overflow_sub-b c = (digit-byte _ (is_digit c)).0

pub loop-b-preserved : goal.loop-b-preserved
loop-b-preserved c =
    let s = c.args.s.now in
    let i = c.loop-b.b-index in (
      omega arith,
      c.loop-b.invariant.1 ∙ digit_more s i _ c.loop-b-test.true (is_digit (goal.at.loop-b-preserved c).Else-ne)
          ∙ ap (λ (k : ℕ). capped (read_on k (drop (i + 1) s))) (sym c.grown-n.ensures),
    )
