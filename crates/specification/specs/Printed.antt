-- What the box prints (document 01): "the listing, then the lines end, nodes, answers, errors, fails; or `refused=` and `at=`". And the
-- box's own setting and memory. Assumes nothing.
use Rattle.std.specs.Prelude.{ℕ, ◌++◌, take, Ok, Err}
use Rattle.specification.specs.declared.Setting.{Setting}
use Rattle.specification.specs.declared.Tallies.{Tallies}
use Rattle.specification.specs.declared.End.{End}
use Rattle.specification.specs.declared.End.TheVariants.{Done, Spent, Path, Output}
use Rattle.specification.specs.Bytes.{Bytes, bytes}
use Rattle.specification.specs.Number.{printℕ}
use Rattle.specification.specs.Outcome.{Result, call, written, Outcome, outcome}

-- ---- a page

-- a line: a key with its equals sign, a number, a line feed
abbrev pub field_text : Bytes → ℕ → Bytes
field_text key n = key ++ (printℕ n ++ bytes "\n")

abbrev pub end_word : End → Bytes
end_word Done = bytes "done"
end_word Spent = bytes "spent"
end_word Path = bytes "path"
end_word Output = bytes "output"

abbrev pub end_line : End → Bytes
end_line e = bytes "end=" ++ (end_word e ++ bytes "\n")

abbrev pub tally_lines : Tallies → Bytes
tally_lines t =
    field_text (bytes "nodes=") t.nodes
    ++ (field_text (bytes "answers=") t.answers ++ (field_text (bytes "errors=") t.errors ++ field_text (bytes "fails=") t.fails))

abbrev pub refusal_lines : ℕ → ℕ → Bytes
refusal_lines number place = field_text (bytes "refused=") number ++ field_text (bytes "at=") place

-- the lines after the listing
unfoldable pub closing : Outcome → Bytes
closing (Err r) = refusal_lines r.number r.place
closing (Ok x) = end_line x.end ++ tally_lines x.tallies

-- the listing and then these lines
unfoldable pub printed : Result → Bytes
printed r = written r ++ closing (outcome r)

-- ---- the box

abbrev pub box_path : ℕ
box_path = 512

abbrev pub box_budget : ℕ
box_budget = 1000000

abbrev pub box_skip : ℕ
box_skip = 0

abbrev pub box_setting : Setting
box_setting = record { path = box_path; budget = box_budget; skip = box_skip }

-- work words, and bytes of output
abbrev pub box_words : ℕ
box_words = 12288

abbrev pub box_output : ℕ
box_output = 4096

-- at most so many bytes of the input are read: one more than a sheet may have
abbrev pub box_input : ℕ
box_input = 4097

-- what the box prints for the bytes on its input
unfoldable pub box : Bytes → Bytes
box input = printed (call (take box_input input) box_setting box_words box_output)
