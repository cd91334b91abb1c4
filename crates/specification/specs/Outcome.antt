-- The outcome of a call, from the sheet's bytes, the setting and the lengths of the lent memory; and what stands in the lent memory
-- afterwards. Assumes nothing.
use Rattle.std.specs.Prelude as std
use Rattle.std.specs.Prelude.{ℕ, ◌+◌, ◌*◌, Bool, true, ◌&&◌, List, [], ◌∷◌, ◌++◌, length, drop, replicate, leb, Ok, Err}
use Rattle.specification.specs.declared.Setting.{Setting}
use Rattle.specification.specs.declared.Tallies.{Tallies}
use Rattle.specification.specs.declared.End.{End}
use Rattle.specification.specs.declared.End.TheVariants.{Done, Spent, Path, Output}
use Rattle.specification.specs.declared.Ran.{Ran}
use Rattle.specification.specs.declared.refusals.Refusal.{Refusal}
use Rattle.specification.specs.Refusals.{refusal_with}
use Rattle.specification.specs.Bytes.{Bytes, pick, between}
use Rattle.specification.specs.Parser.{Read, refused, found}
use Rattle.specification.specs.Given.{Item}
use Rattle.specification.specs.Sheet.{Sheet, read_with}
use Rattle.specification.specs.Place.{cell, put}
use Rattle.specification.specs.Value.{Valuation, empty, full}
use Rattle.specification.specs.Tree.{Tree, tree_of}
use Rattle.specification.specs.Visits.{Visit, visits}
use Rattle.specification.specs.Run.{conditions, tallies, Stop, spent, path, output, Run, going, stopped, scan}

-- ---- the run of a sheet

-- a refusal's number and place; or the end, the tallies and the bytes written
pub data Result : Type 0 where
  refusal : ℕ → ℕ → Result
  ran : End → Tallies → Bytes → Result

abbrev pub end_of : Stop → End
end_of spent = Spent
end_of path = Path
end_of output = Output

-- all visited: done
abbrev pub result_of : Run → Result
result_of (going t w) = ran Done t w
result_of (stopped s t w) = ran (end_of s) t w

-- the given values
unfoldable pub start : List Item → Valuation
start [] p = empty
start (i ∷ is) p = put (start is) (cell i.cell) (full i.value) p

-- the root has the sheet's formula and the given values
unfoldable pub root_of : Sheet → Tree
root_of s = tree_of s.declared (s.formula ∷ []) (start s.given)

-- the root is on the path, so its path is 1 long
unfoldable pub visits_of : Sheet → List Visit
visits_of s = visits 1 (root_of s)

unfoldable pub run_of : Sheet → Setting → ℕ → Run
run_of s S size = scan (conditions s.declared S size) (going (tallies 0 0 0 0) []) (visits_of s)

abbrev pub after_reading : Setting → ℕ → Read Sheet → Result
after_reading S size (refused n p) = refusal n p
after_reading S size (found s r) = result_of (run_of s S size)

-- ---- the call: refusal 1, then 2, then the first fault met in reading, then the run

abbrev pub longest_path : ℕ
longest_path = 32768

-- the work words that a path limit asks for
abbrev pub words_for : ℕ → ℕ
words_for limit = 6144 + 12 * limit

abbrev pub enough_memory : Setting → ℕ → Bool
enough_memory S words = between 1 longest_path S.path && leb (words_for S.path) words

-- read strictly, or as before empty ranges were refused
unfoldable pub call_with : Bool → Bytes → Setting → ℕ → ℕ → Result
call_with strict sheet S words size =
    let r = after_reading S size (read_with strict sheet) in
    pick (enough_memory S words) (pick (leb (length sheet) 4096) r (refusal 2 4096)) (refusal 1 0)

abbrev pub call : Bytes → Setting → ℕ → ℕ → Result
call sheet S words size = call_with true sheet S words size

-- ---- what is returned, and the lent memory afterwards

-- the bytes written: none where the sheet is refused
abbrev pub written : Result → Bytes
written (refusal n p) = []
written (ran e t w) = w

-- how the run ended and how many bytes it wrote, or a refusal's number and place
abbrev pub Outcome : Type 0
Outcome = std.Result Ran Refusal

abbrev pub ended : End → Tallies → ℕ → Ran
ended e t n = record { end = e; tallies = t; written = n }

abbrev pub outcome : Result → Outcome
outcome (refusal n p) = Err (refusal_with n p)
outcome (ran e t w) = Ok (ended e t (length w))

-- the output begins with whole blocks, and beyond them holds what it held
unfoldable pub output_after : Result → Bytes → Bytes
output_after r held = written r ++ drop (length (written r)) held

-- all zero
unfoldable pub words_after : List ℕ → List ℕ
words_after held = replicate (length held) 0
