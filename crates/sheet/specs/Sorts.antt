-- The sorts of what is due, and the operands of each code: one definition gives their sort and how many there are, and from it follows how
-- many stand in the table. The enum of src/sorts.rt has them in the order of their numbers. Assumes nothing.
use Rattle.std.specs.Prelude.{ℕ, ◌-◌, eqb, leb}
use Rattle.specification.specs.Bytes.{pick, between}
use Rattle.tables.specs.Codes.{and_code, imp_code, not_code, eq_code, ge_code, ex_code, some_code, all_code, call_code, first_operation, last_operation, array_code, procedure_code}
use Rattle.sheet.specs.declared.sorts.Sort.{Sort}
use Rattle.sheet.specs.declared.sorts.Sort.TheVariants as sort
use Rattle.sheet.specs.declared.sorts.Operands as code

-- ---- sorts

abbrev pub formula_sort : ℕ
formula_sort = 0

abbrev pub term_sort : ℕ
term_sort = 1

-- the upper bound after a lower one that is a constant
abbrev pub upper_sort : ℕ
upper_sort = 2

-- both bounds
abbrev pub bounds_sort : ℕ
bounds_sort = 3

-- a procedure's number
abbrev pub procedure_sort : ℕ
procedure_sort = 4

-- the local of `ex`
abbrev pub ex_sort : ℕ
ex_sort = 5

-- the local of `some` or `all`
abbrev pub range_sort : ℕ
range_sort = 6

-- the number of a sort
abbrev pub sort_number : Sort → ℕ
sort_number sort.Formula = formula_sort
sort_number sort.Term = term_sort
sort_number sort.Upper = upper_sort
sort_number sort.Bounds = bounds_sort
sort_number sort.Procedure = procedure_sort
sort_number sort.ExLocal = ex_sort
sort_number sort.RangeLocal = range_sort

-- ---- operands

-- the number of their sort, and how many they are
pub record Operands : Type 0 where
  pub sort : ℕ
  pub count : ℕ

abbrev pub numbered : code.Operands → Operands
numbered o = record { sort = sort_number o.sort; count = o.count }

abbrev pub operands : ℕ → ℕ → Operands
operands s n = record { sort = s; count = n }

-- the operands of a word are of one sort; a binder has its local, and a call its procedure's number, and the others become due when that is
-- read
unfoldable pub word_operands : ℕ → Operands
word_operands c =
    pick (eqb c not_code) (operands formula_sort 1)
    (pick (between and_code imp_code c) (operands formula_sort 2)
    (pick (between eq_code ge_code c) (operands term_sort 2)
    (pick (eqb c ex_code) (operands ex_sort 1)
    (pick (between some_code all_code c) (operands range_sort 1)
    (pick (between first_operation last_operation c) (operands term_sort 2)
    (pick (eqb c array_code) (operands term_sort 1)
    (pick (eqb c call_code) (operands procedure_sort 1) (operands formula_sort 0))))))))

-- those of a procedure's number are the arguments: its code tells how many
unfoldable pub operands_of : ℕ → Operands
operands_of c = pick (leb procedure_code c) (operands term_sort (c - procedure_code)) (word_operands c)

-- how many stand in the table: after the local of `ex` its formula, after that of `some` or `all` two bounds and the formula; the arguments
-- of a call are operands of the procedure's number
abbrev pub in_table : Operands → ℕ
in_table o = pick (eqb o.sort ex_sort) 2 (pick (eqb o.sort range_sort) 4 o.count)

unfoldable pub arity : ℕ → ℕ
arity c = in_table (operands_of c)
