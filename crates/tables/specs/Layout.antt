-- The layout of the work words: where each table begins, how many entries it may have, and the words of each entry.
--
--   tokens     4 words each: code, operand, the token after its subtree, and one that the plan fills (crates/plan)
--   cells      2 words each, a slot: whether it has a value, and the value's word; without a value its mark (specs/Ranges.antt)
--   locals     2 words each, the same
--   firsts     the first cell of each array, and the end of the cells after the last
--   procs      2 words each, for a procedure: the first token of its formula and the number of its parameters
--   ranges     2 words each, of scalars and then of arrays: the words of the lowest and the highest value
--   dues       3 words each: what is due while a formula is read
--   path       12 words for each node: the records of a walk
--
-- A walk has other tables in the words from dues_at up to the path:
--
--   results    of terms that are being valued, up to opens_at
--   opens      2 words for each procedure and parameter: the result of a parameter that is valued again for each atom, its tag and its word
--   frames     20 words for each procedure (specs/Frames.antt)
--   lasts      one word for each local: the last value of the `all` over it
--   leaves     tokens of no formula (specs/Leaves.antt)
--
-- The words of results and opens are those that the valuing of terms may change.
-- Every other file says these by name; src/lib.rt has the same numbers for the code, and proofs/Laws/Layout.antt the law that each table ends
-- where the next begins. Assumes nothing.
use Rattle.std.specs.Prelude.{ℕ, ◌+◌, ◌*◌, List, get_or}

abbrev pub Words : Type 0
Words = List ℕ

-- ---- document 01's limits: how many entries a table may have

abbrev pub max_tokens : ℕ
max_tokens = 1024

abbrev pub max_cells : ℕ
max_cells = 512

abbrev pub max_scalars : ℕ
max_scalars = 64

abbrev pub max_locals : ℕ
max_locals = 32

abbrev pub max_arrays : ℕ
max_arrays = 16

abbrev pub max_ranges : ℕ
max_ranges = max_scalars + max_arrays

abbrev pub max_nesting : ℕ
max_nesting = 64

abbrev pub max_procs : ℕ
max_procs = 16

abbrev pub max_parameters : ℕ
max_parameters = 8

-- two more are due at each level of nesting, since a word has at most three operands; a call's eight arguments are five more than that
abbrev pub max_dues : ℕ
max_dues = 2 * max_nesting + 1 + 5

abbrev pub max_path : ℕ
max_path = 32768

-- ---- the words of an entry

abbrev pub token_words : ℕ
token_words = 4

abbrev pub slot_words : ℕ
slot_words = 2

abbrev pub due_words : ℕ
due_words = 3

abbrev pub proc_words : ℕ
proc_words = 2

abbrev pub open_words : ℕ
open_words = 2

abbrev pub node_words : ℕ
node_words = 12

-- ---- beginnings

abbrev pub cells_at : ℕ
cells_at = 4096

abbrev pub locals_at : ℕ
locals_at = 5120

abbrev pub firsts_at : ℕ
firsts_at = 5184

abbrev pub procs_at : ℕ
procs_at = 5201

abbrev pub ranges_at : ℕ
ranges_at = 5233

abbrev pub dues_at : ℕ
dues_at = 5393

-- the last result of a term stands outside the words, so the first that stands in them is the second
abbrev pub results_at : ℕ
results_at = dues_at + 2

abbrev pub dues_end : ℕ
dues_end = 5795

abbrev pub opens_at : ℕ
opens_at = 5525

abbrev pub lasts_at : ℕ
lasts_at = 6101

abbrev pub path_at : ℕ
path_at = 6144

-- ---- the first word of an entry

abbrev pub token_slot : ℕ → ℕ
token_slot i = token_words * i

abbrev pub cell_slot : ℕ → ℕ
cell_slot c = cells_at + slot_words * c

abbrev pub local_slot : ℕ → ℕ
local_slot l = locals_at + slot_words * l

abbrev pub first_slot : ℕ → ℕ
first_slot a = firsts_at + a

abbrev pub proc_slot : ℕ → ℕ
proc_slot k = procs_at + proc_words * k

abbrev pub due_slot : ℕ → ℕ
due_slot i = dues_at + due_words * i

-- parameter n of procedure k
abbrev pub open_slot : ℕ → ℕ → ℕ
open_slot k n = opens_at + open_words * max_parameters * k + open_words * n

abbrev pub last_slot : ℕ → ℕ
last_slot l = lasts_at + l

-- the records of a path of d nodes end here at the latest
abbrev pub node_slot : ℕ → ℕ
node_slot d = path_at + node_words * d

-- ---- the words of tokens, cells, arrays, procedures and last values

abbrev pub code_at : Words → ℕ → ℕ
code_at w i = get_or w (token_slot i) 0

abbrev pub operand_at : Words → ℕ → ℕ
operand_at w i = get_or w (token_slot i + 1) 0

-- the number of the token after its subtree
abbrev pub end_at : Words → ℕ → ℕ
end_at w i = get_or w (token_slot i + 2) 0

-- the word that the plan fills
abbrev pub plan_at : Words → ℕ → ℕ
plan_at w i = get_or w (token_slot i + 3) 0

-- 0 where cell c has no value
abbrev pub flag_at : Words → ℕ → ℕ
flag_at w c = get_or w (cell_slot c) 0

-- its value's word
abbrev pub value_at : Words → ℕ → ℕ
value_at w c = get_or w (cell_slot c + 1) 0

-- the first cell of array a
abbrev pub first_at : Words → ℕ → ℕ
first_at w a = get_or w (first_slot a) 0

-- the first token of the formula of procedure k
abbrev pub proc_at : Words → ℕ → ℕ
proc_at w k = get_or w (proc_slot k) 0

-- the number of its parameters
abbrev pub parameters_at : Words → ℕ → ℕ
parameters_at w k = get_or w (proc_slot k + 1) 0

-- the word of the last value of the `all` over local l
abbrev pub last_at : Words → ℕ → ℕ
last_at w l = get_or w (last_slot l) 0
