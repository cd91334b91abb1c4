-- What the registers say: whether two modes are the same, whether an error leaf was seen, and the numbers of the register `inner`. Assumes nothing.
use Rattle.std.specs.Prelude.{ℕ, ◌+◌, Bool, true, false}
use denote.Enum.Bare.{sameb}
use Rattle.tables.specs.Ranges.{local_mark}
use Rattle.search.specs.declared.Errors.{Errors}
use Rattle.search.specs.declared.Errors.TheVariants.{Unseen, Seen}
use Rattle.search.specs.declared.Mode.{Mode}
use Rattle.search.specs.contracts.Mode.{the_type}

-- what `==` says of two modes
abbrev pub same : Mode → Mode → Bool
same a b = sameb the_type a b

-- ---- the register `bad`, by whether an error leaf was seen, and the word that a record has of it

abbrev pub errors_of : Bool → Errors
errors_of true = Seen
errors_of false = Unseen

abbrev pub errors_word : Errors → ℕ
errors_word Seen = 1
errors_word Unseen = 0

-- ---- the register `inner`

abbrev pub main_tree : ℕ
main_tree = 0

abbrev pub given_tree : ℕ
given_tree = 1

abbrev pub inner_root : ℕ
inner_root = local_mark + 1
