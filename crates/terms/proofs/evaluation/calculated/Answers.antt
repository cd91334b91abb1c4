-- `evaluation::calculated` meets its contract: each function of values is the operation of its code. Assumes nothing.
use Rattle.specification.specs.Ast.{add, sub, mul, quo, div, modulo}
use Rattle.specification.specs.Arithmetic.{compute}
use Rattle.terms.proofs.Laws.Results.{calculated-as, calculated-last}
use Rattle.terms.proofs.evaluation.calculated.Goals as goal

pub returns-in-18 : goal.returns-in-18
unfolding compute
returns-in-18 c =
    let a = c.args in
    calculated-as a.code a.x a.y _ add c.in-18.is c.add.ensures

pub returns-in-19 : goal.returns-in-19
unfolding compute
returns-in-19 c =
    let a = c.args in
    calculated-as a.code a.x a.y _ sub c.in-19.is c.sub.ensures

pub returns-in-20 : goal.returns-in-20
unfolding compute
returns-in-20 c =
    let a = c.args in
    calculated-as a.code a.x a.y _ mul c.in-20.is c.mul.ensures

pub returns-in-21 : goal.returns-in-21
unfolding compute
returns-in-21 c =
    let a = c.args in
    calculated-as a.code a.x a.y _ quo c.in-21.is c.quotient.ensures

pub returns-in-16 : goal.returns-in-16
unfolding compute
returns-in-16 c =
    let a = c.args in
    calculated-as a.code a.x a.y _ div c.in-16.is c.floor.ensures

pub returns-in-17 : goal.returns-in-17
unfolding compute
returns-in-17 c =
    let a = c.args in
    calculated-as a.code a.x a.y _ modulo c.in-17.is c.modulus.ensures

pub returns-in_default : goal.returns-in_default
unfolding compute
returns-in_default c =
    let a = c.args in
    let others = c.in_default.in_default-own.rest in
    calculated-last a.code a.x a.y _ others.0.0.0.0.0.1 others.0.0.0.0.1 others.0.0.0.1 others.0.0.1 others.0.1
    others.1 c.remainder.ensures
