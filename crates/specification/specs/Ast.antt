-- Terms, formulas and procedures. Cells, locals, arrays, parameters and procedures stand by their numbers in the sheet; a formula that can
-- end in an error leaf carries the number of its token first. Assumes nothing.
use Rattle.std.specs.Prelude.{ℕ, List, ℤ}

-- `quo` divides toward zero and `div` rounds down; `rem` and `modulo` are what these leave
pub data Op : Type 0 where
  add sub mul quo rem div modulo : Op

-- the atoms that compare and never assign
pub data Rel : Type 0 where
  ne lt le gt ge : Rel

-- a parameter stands in a procedure's line only
pub data Term : Type 0 where
  constant : ℤ → Term
  scalar_at : ℕ → Term
  local_at : ℕ → Term
  parameter : ℕ → Term
  element_at : ℕ → Term → Term
  apply : Op → Term → Term → Term

pub data Formula : Type 0 where
  truth : Formula
  and or : Formula → Formula → Formula
  imp : ℕ → Formula → Formula → Formula
  neg : ℕ → Formula → Formula
  eq : ℕ → Term → Term → Formula
  compare : ℕ → Rel → Term → Term → Formula
  ex : ℕ → Formula → Formula
  some all : ℕ → ℕ → Term → Term → Formula → Formula
  -- a call of a procedure by its number: its arguments, and the procedure's formula with these in place of the parameters
  call : ℕ → List Term → Formula → Formula

-- how many parameters it has, and the formula that they stand in
pub record Procedure : Type 0 where
  pub parameters : ℕ
  pub formula : Formula
