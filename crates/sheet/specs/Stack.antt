-- What is due, as it stands in the work words: three words an entry, the topmost last; a set of locals is a number, with a bit for each.
-- Assumes nothing.
use Rattle.std.specs.Prelude.{ℕ, ◌+◌, ◌-◌, ◌<◌, ◌≤◌, ◌≡◌, List, [], ◌∷◌, ◌++◌, length, get_or, set, replicate, min}
use Rattle.specification.specs.Formula.{Locals, has}
use Rattle.tables.specs.Layout.{max_locals, due_slot, dues_at, dues_end, operand_at}
use Rattle.tables.specs.Locals.{in_set}
use Rattle.tables.specs.Codes.{procedure_code}
use Rattle.sheet.specs.declared.Token.{Token}
use Rattle.sheet.specs.declared.stack.Entry as code
use Rattle.sheet.specs.Sorts.{formula_sort, term_sort, upper_sort, bounds_sort, procedure_sort, ex_sort, range_sort, sort_number}
use Rattle.sheet.specs.Dues.{Due, due_formula, due_term, due_procedure, due_ex, due_range, due_bounds, due_upper}
use Rattle.sheet.specs.Turn.{room, opens}
use Rattle.sheet.specs.Tables.{Words}

-- ---- sets of locals

-- the set m stands for the list S
pub record Bits (m : ℕ) (S : Locals) : Type 0 where
  pub at : (l : ℕ) → l < max_locals → in_set m l ≡ has l S

-- ---- entries

-- the three words of an entry: the number of its sort, how much deeper nesting may go, and the locals in scope
pub record Entry : Type 0 where
  pub sort : ℕ
  pub room : ℕ
  pub scope : ℕ

abbrev pub worded : code.Entry → Entry
worded e = record { sort = sort_number e.sort; room = e.room; scope = e.scope }

abbrev pub sort_of : Due → ℕ
sort_of (due_formula k S) = formula_sort
sort_of (due_term k S) = term_sort
sort_of (due_procedure k S) = procedure_sort
sort_of (due_ex k S) = ex_sort
sort_of (due_range k S p) = range_sort
sort_of (due_bounds k S p) = bounds_sort
sort_of (due_upper k S p x) = upper_sort

abbrev pub scope_of : Due → Locals
scope_of (due_formula k S) = S
scope_of (due_term k S) = S
scope_of (due_procedure k S) = S
scope_of (due_ex k S) = S
scope_of (due_range k S p) = S
scope_of (due_bounds k S p) = S
scope_of (due_upper k S p x) = S

-- the entry stands for what is due
pub record Means (e : Entry) (d : Due) : Type 0 where
  pub sort : e.sort ≡ sort_of d
  pub room : e.room ≡ room d
  pub scope : Bits e.scope (scope_of d)

-- what is known of it besides its entry, after n tokens: the place of the quantifier's word, and the lower bound as the last of them
abbrev pub Kept : Words → ℕ → ℕ → Due → Type 0
Kept w n word (due_formula k S) = Unit {0}
Kept w n word (due_term k S) = Unit {0}
Kept w n word (due_procedure k S) = Unit {0}
Kept w n word (due_ex k S) = Unit {0}
Kept w n word (due_range k S p) = p ≡ word
Kept w n word (due_bounds k S p) = p ≡ word
Kept w n word (due_upper k S p x) = (p ≡ word) × (0 < n) × (operand_at w (n - 1) ≡ x)

abbrev pub entry : ℕ → ℕ → ℕ → Entry
entry s k m = record { sort = s; room = k; scope = m }

-- ---- the stack

-- the i-th entry from the bottom
abbrev pub entry_at : Words → ℕ → Entry
entry_at w i = entry (get_or w (due_slot i) 0) (get_or w (due_slot i + 1) 0) (get_or w (due_slot i + 2) 0)

-- an entry with the last sort for what is no sort's number
abbrev pub sorted : Entry → Entry
sorted e = entry (min e.sort range_sort) e.room e.scope

-- the words with an entry at i
abbrev pub entered : Words → ℕ → Entry → Words
entered w i e = set (set (set w (due_slot i) e.sort) (due_slot i + 1) e.room) (due_slot i + 2) e.scope

-- the stack holds what is due, the topmost first
unfoldable pub Stacked : Words → List Due → Type 0
Stacked w [] = Unit {0}
Stacked w (d ∷ ds) = Means (entry_at w (length ds)) d × Stacked w ds

-- the words beside the stack are those of the first
pub record Beside (w w' : Words) : Type 0 where
  pub long : length w' ≡ length w
  pub below : (j : ℕ) → j < dues_at → get_or w' j 0 ≡ get_or w j 0
  pub above : (j : ℕ) → dues_end ≤ j → get_or w' j 0 ≡ get_or w j 0

-- ---- what a token makes due

-- the code c is one of those that may stand where e is due: of a word, or of a procedure's number
pub record Coded (e : Entry) (c : ℕ) : Type 0 where
  pub word : e.sort ≤ bounds_sort → c < procedure_code
  pub number : e.sort ≡ procedure_sort → procedure_code ≤ c

-- above n entries, w' has the entry e so many times
pub record Repeated (w w' : Words) (n : ℕ) (e : Entry) (count : ℕ) : Type 0 where
  pub beside : Beside w w'
  pub stack : (d : Due) (ds : List Due) → Means e d → length ds ≡ n → Stacked w ds → Stacked w' (replicate count d ++ ds)

-- above n entries, the r entries of w' have on top what a token makes due where e was due, wherever it stands
pub record Opened (w w' : Words) (n : ℕ) (e : Entry) (t : Token) (r : ℕ) : Type 0 where
  pub beside : Beside w w'
  pub count : (p : ℕ) (d : Due) (ds : List Due) → Means e d → length ds ≡ n → r ≡ length (opens p d t ++ ds)
  pub stack : (p : ℕ) (d : Due) (ds : List Due) → Means e d → length ds ≡ n → Stacked w ds → Stacked w' (opens p d t ++ ds)
