-- The codes of tokens: a number for each word of the notation, in ranges that separate formulas from terms. src/codes.rt has the same numbers
-- for the code. Assumes nothing.
use Rattle.std.specs.Prelude.{ℕ}

-- ---- formulas

abbrev pub first_formula : ℕ
first_formula = 1

abbrev pub last_formula : ℕ
last_formula = 15

abbrev pub true_code : ℕ
true_code = 1

abbrev pub and_code : ℕ
and_code = 2

abbrev pub or_code : ℕ
or_code = 3

abbrev pub imp_code : ℕ
imp_code = 4

abbrev pub not_code : ℕ
not_code = 5

abbrev pub eq_code : ℕ
eq_code = 6

abbrev pub ne_code : ℕ
ne_code = 7

abbrev pub lt_code : ℕ
lt_code = 8

abbrev pub le_code : ℕ
le_code = 9

abbrev pub gt_code : ℕ
gt_code = 10

abbrev pub ge_code : ℕ
ge_code = 11

abbrev pub ex_code : ℕ
ex_code = 12

abbrev pub some_code : ℕ
some_code = 13

abbrev pub all_code : ℕ
all_code = 14

abbrev pub call_code : ℕ
call_code = 15

-- ---- terms

abbrev pub first_term : ℕ
first_term = 16

abbrev pub last_term : ℕ
last_term = 27

-- operations lie below the other terms: rounding down and what it leaves, and last division toward zero and what it leaves
abbrev pub first_operation : ℕ
first_operation = 16

abbrev pub last_operation : ℕ
last_operation = 22

abbrev pub div_code : ℕ
div_code = 16

abbrev pub mod_code : ℕ
mod_code = 17

abbrev pub add_code : ℕ
add_code = 18

abbrev pub sub_code : ℕ
sub_code = 19

abbrev pub mul_code : ℕ
mul_code = 20

abbrev pub quo_code : ℕ
quo_code = 21

abbrev pub rem_code : ℕ
rem_code = 22

abbrev pub constant_code : ℕ
constant_code = 23

abbrev pub scalar_code : ℕ
scalar_code = 24

abbrev pub local_code : ℕ
local_code = 25

abbrev pub array_code : ℕ
array_code = 26

abbrev pub parameter_code : ℕ
parameter_code = 27

-- ---- no token: bytes that are no word of the set, and a constant in bad form or outside 32 bits

abbrev pub unknown_code : ℕ
unknown_code = 28

abbrev pub bad_constant_code : ℕ
bad_constant_code = 29

-- ---- neither a formula nor a term: the procedure's number in a call, whose code is this one and the procedure's number of parameters

abbrev pub procedure_code : ℕ
procedure_code = 30

-- that of a procedure with eight parameters
abbrev pub last_code : ℕ
last_code = 38
