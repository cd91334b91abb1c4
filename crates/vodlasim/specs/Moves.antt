-- Moving the catalogue (document 02, Eight and Nine), over the calls `move_up`, `move_down`, `tidy` and `run`, from their contracts (Moved,
-- Answered) alone. The theorems, of every sheet of whatever bytes, are in proofs/Moves.antt. That every call ends, touches nothing but the lent
-- memory and does its own checking is as in Demands. Assumes nothing.
use Rattle.std.specs.Prelude.{ℕ, ◌≤◌, ◌≡◌, Bool, true, false, ◌⊎◌, length, take, drop, replicate, Ok, Err}
use Rattle.specification.specs.Refusals.{refusal_with}
use Rattle.specification.specs.declared.Setting.{Setting}
use Rattle.specification.specs.declared.Tallies.{Tallies}
use Rattle.specification.specs.declared.End.{End}
use Rattle.specification.specs.Bytes.{Bytes, between}
use Rattle.specification.specs.Sheet.{Sheet}
use Rattle.specification.specs.Outcome as run
use Rattle.specification.specs.Outcome.{call_with, Outcome, ended}
use Rattle.specification.specs.Moves.{refusal, longest_sheet, move_down, tidy, Move}
use Rattle.specification.specs.Moving.{Way, Enough, Carries, HadRoom, RunsAlike}
use Rattle.vodlasim.specs.Lent.{Lent}
use Rattle.vodlasim.specs.Answered.{Answered}
use Rattle.vodlasim.specs.Moved.{Moved}

-- the bytes of the moved sheet
abbrev pub moved_sheet : ℕ → Lent → Bytes
moved_sheet n output = take n output.after

-- lent memory is accounted for
pub record MoveMemory (way : Way) (sheet : Bytes) (work output : Lent) (r : Move) : Type 0 where
  -- when the call returns, the work words are zero
  pub zero : work.after ≡ replicate (length work.before) 0
  -- the output begins with the moved sheet, and beyond it holds what it held before
  pub kept : (n : ℕ) → r ≡ Ok n → (n ≤ length output.before) × (drop n output.after ≡ drop n output.before)
  -- a sheet is refused with a number and a byte place exactly where document 02 refuses it with these
  pub refused :
      (number place : ℕ) →
      (way sheet (length work.before) (length output.before) ≡ refusal number place → r ≡ Err (refusal_with number place)) ×
      (r ≡ Err (refusal_with number place) → way sheet (length work.before) (length output.before) ≡ refusal number place)
  -- and the output is then untouched
  pub untouched : (number place : ℕ) → r ≡ Err (refusal_with number place) → output.after ≡ output.before

-- a pass and a move back of one sheet, with as much memory lent: the pass refuses what the way back refuses, with the same number and place, but for
-- 17, and for 15 and 16, which are of the way back only
abbrev pub PassRefuses : Type 0
PassRefuses =
    (sheet : Bytes) (w o w' o' : Lent) (r r' : Move) → Moved tidy sheet w o r → Moved move_down sheet w' o' r' →
    length w'.before ≡ length w.before → length o'.before ≡ length o.before → (n p : ℕ) →
    (r ≡ Err (refusal_with n p) → (r' ≡ Err (refusal_with n p)) ⊎ ((q : ℕ) × (r' ≡ Err (refusal_with 17 q)))) ×
    (r' ≡ Err (refusal_with n p) → (between 15 17 n ≡ true) ⊎ (r ≡ Err (refusal_with n p)))

-- what stands there is the same sheet, carried over
pub record MovesSheet (strict : Bool) (edition : ℕ) (over : Sheet → Sheet) (sheet : Bytes) (output : Lent) (r : Move) : Type 0 where
  pub carries : (n : ℕ) → r ≡ Ok n →
      Carries strict edition over sheet (moved_sheet n output) × (length sheet ≤ longest_sheet) × (n ≤ longest_sheet)

-- ---- there and back

-- a call one way with a sheet of this sort, and another with what it wrote the other way: the second gives the first one's sheet back, byte for byte
abbrev pub BackAgain : (Bytes → Type 0) → Way → Way → Type 0
BackAgain Sort there back =
    (sheet : Bytes) → Sort sheet → (work output : Lent) (r : Move) → Moved there sheet work output r → (n : ℕ) → r ≡ Ok n →
    (work' output' : Lent) (r' : Move) → Moved back (moved_sheet n output) work' output' r' →
    Enough (length work'.before) (length output'.before) →
    (r' ≡ Ok (length sheet)) × (moved_sheet (length sheet) output' ≡ sheet)

-- what is written needs no second pass: it gives the same bytes
abbrev pub Settled : Way → Type 0
Settled way =
    (sheet : Bytes) (work output : Lent) (r : Move) → Moved way sheet work output r → (n : ℕ) → r ≡ Ok n →
    (work' output' : Lent) (r' : Move) → Moved tidy (moved_sheet n output) work' output' r' →
    Enough (length work'.before) (length output'.before) →
    (r' ≡ Ok n) × (moved_sheet n output' ≡ moved_sheet n output)

-- a sheet that some run accepted is passed as it is
abbrev pub LeftAlone : Type 0
LeftAlone =
    (sheet : Bytes) (S : Setting) (w o : Lent) (e : End) (t : Tallies) (m : ℕ) → Answered sheet S w o (Ok (ended e t m)) →
    (work output : Lent) (r : Move) → Moved tidy sheet work output r → (n : ℕ) → r ≡ Ok n →
    (n ≡ length sheet) × (moved_sheet n output ≡ sheet)

-- ---- runs before and after

-- what is written is never refused but for want of work words, so never with 17
abbrev pub Runs : Way → Type 0
Runs way =
    (sheet : Bytes) (work output : Lent) (r : Move) → Moved way sheet work output r → (n : ℕ) → r ≡ Ok n →
    (S : Setting) (w o : Lent) (x : Outcome) → Answered (moved_sheet n output) S w o x → (number place : ℕ) → x ≡ Err (refusal_with number place) → number ≡ 1

-- a run of a sheet of this sort and a run of the moved sheet, with the same setting and as much memory: they end alike, with the same tallies,
-- and write the same bytes
abbrev pub RunAlike : (Bytes → Type 0) → Way → Type 0
RunAlike Sort way =
    (sheet : Bytes) → Sort sheet → (work output : Lent) (r : Move) → Moved way sheet work output r → (n : ℕ) → r ≡ Ok n →
    (S : Setting) (w o w' o' : Lent) (x x' : Outcome) → Answered sheet S w o x → Answered (moved_sheet n output) S w' o' x' →
    length w'.before ≡ length w.before → o'.before ≡ o.before → (x' ≡ x) × (o'.after ≡ o.after)

-- what a run tells by its answer and its output: a refusal, or the end, the tallies and the bytes written
abbrev pub told : Outcome → Lent → run.Result
told (Err r) output = run.refusal r.number r.place
told (Ok x) output = run.ran x.end x.tallies (take x.written output.after)

-- a run of what is written tells what the sheet told before empty ranges were refused, but for `at=` lines, given output enough for both
abbrev pub RunAsBefore : Way → Type 0
RunAsBefore way =
    (sheet : Bytes) (work output : Lent) (r : Move) → Moved way sheet work output r → (n : ℕ) → r ≡ Ok n →
    (S : Setting) (w o : Lent) (x : Outcome) → Answered (moved_sheet n output) S w o x →
    HadRoom (call_with false sheet S (length w.before) (length o.before)) → HadRoom (told x o) →
    RunsAlike (call_with false sheet S (length w.before) (length o.before)) (told x o)

-- where the sheet itself can be run, this is said of two runs
abbrev pub RunKept : Way → Type 0
RunKept way =
    (sheet : Bytes) (work output : Lent) (r : Move) → Moved way sheet work output r → (n : ℕ) → r ≡ Ok n →
    (S : Setting) (w o w' o' : Lent) (x x' : Outcome) → Answered sheet S w o x → Answered (moved_sheet n output) S w' o' x' →
    length w'.before ≡ length w.before → length o'.before ≡ length o.before →
    HadRoom (told x o) → HadRoom (told x' o') → RunsAlike (told x o) (told x' o')
