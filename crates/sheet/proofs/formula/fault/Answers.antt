-- The tests in their order: 4, 6, then 7, 11 or 12, then 8. Assumes nothing.
use native.Mathlib.Omega.{arith}
use mathlib.Core.Path.{◌∙◌, sym}
use borrow.Author.Tests.{eq-eqb, ne_eqb}
use Rattle.tables.specs.Codes.{local_code, bad_constant_code}
use Rattle.sheet.specs.Turn.{fault_of}
use Rattle.sheet.proofs.Faults.{declared-local}
use Rattle.sheet.proofs.formula.fault.Goals as goal

pub returns-then-t-eq-BAD_CONSTANT : goal.returns-then-t-eq-BAD_CONSTANT
unfolding fault_of
returns-then-t-eq-BAD_CONSTANT c = λ d B m b. rw (eq-eqb _ bad_constant_code c.if-t-eq-BAD_CONSTANT.true)

pub returns-then-not-suits : goal.returns-then-not-suits
unfolding fault_of
returns-then-not-suits c =
    λ d B m b.
    rw (
      ne_eqb _ bad_constant_code c.if-t-eq-BAD_CONSTANT.false,
      sym (c.suits.ensures d m.sort) ∙ c.if-not-suits.true,
    )

pub returns-then-not-is_declared : goal.returns-then-not-is_declared
unfolding fault_of
returns-then-not-is_declared c =
    λ d B m b.
    rw (
      ne_eqb _ bad_constant_code c.if-t-eq-BAD_CONSTANT.false,
      sym (c.suits.ensures d m.sort) ∙ c.if-not-suits.false,
      sym c.is_declared.ensures ∙ c.if-not-is_declared.true,
    )
    c.undeclared.ensures

pub returns-then-t-ne-LOCAL : goal.returns-then-t-ne-LOCAL
unfolding fault_of
returns-then-t-ne-LOCAL c =
    λ d B m b.
    rw (
      ne_eqb _ bad_constant_code c.if-t-eq-BAD_CONSTANT.false,
      sym (c.suits.ensures d m.sort) ∙ c.if-not-suits.false,
      sym c.is_declared.ensures ∙ c.if-not-is_declared.false,
      ne_eqb _ local_code c.if-t-ne-LOCAL.true,
    )

pub in_place-requires : goal.in_place-requires
in_place-requires c =
    omega (arith, declared-local c.args.d c.args.t c.if-t-ne-LOCAL.false (sym c.is_declared.ensures ∙ c.if-not-is_declared.false))

pub returns-then-in_place : goal.returns-then-in_place
unfolding fault_of
returns-then-in_place c =
    λ d B m b.
    rw (
      ne_eqb _ bad_constant_code c.if-t-eq-BAD_CONSTANT.false,
      sym (c.suits.ensures d m.sort) ∙ c.if-not-suits.false,
      sym c.is_declared.ensures ∙ c.if-not-is_declared.false,
      eq-eqb _ local_code c.if-t-ne-LOCAL.false,
      sym (c.in_place.ensures d B m b) ∙ c.if-in_place.true,
    )

pub returns : goal.returns
unfolding fault_of
returns c =
    λ d B m b.
    rw (
      ne_eqb _ bad_constant_code c.if-t-eq-BAD_CONSTANT.false,
      sym (c.suits.ensures d m.sort) ∙ c.if-not-suits.false,
      sym c.is_declared.ensures ∙ c.if-not-is_declared.false,
      eq-eqb _ local_code c.if-t-ne-LOCAL.false,
      sym (c.in_place.ensures d B m b) ∙ c.if-in_place.false,
    )
