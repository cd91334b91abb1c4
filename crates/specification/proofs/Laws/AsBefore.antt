-- A sheet runs as before once it is moved up or tidied: given output enough for both, what it told before empty ranges were refused and what the
-- written sheet tells now are the same but for `at=` lines. A sheet of edition 2 is still run, so there both are runs of today. Assumes nothing.
use Prim.Native.Nat.{ℕ, ◌≤◌}
use mathlib.Core.Path.{◌≡◌, refl}
use mathlib.Core.Bool.{Bool, true, false}
use lib.ListN.{length}
use borrow.Author.Tests.{le-leb}
use Rattle.specification.specs.declared.Setting.{Setting}
use Rattle.specification.specs.Bytes.{Bytes, pick}
use Rattle.specification.specs.Parser.{Reader, found}
use Rattle.specification.specs.Sheet.{Sheet, read_with, read}
use Rattle.specification.specs.Outcome.{Result, refusal, result_of, run_of, enough_memory, call_with, call}
use Rattle.specification.specs.Tidy.{tidied}
use Rattle.specification.specs.Moves.{newer, raised, moved, longest_sheet, move_up, tidy}
use Rattle.specification.specs.Moving.{RunsAlike, HadRoom, RunsAsBefore}
use Rattle.specification.proofs.Laws.ReadSheet.{read-well-formed}
use Rattle.specification.proofs.Laws.Strict.{older-alike}
use Rattle.specification.proofs.Laws.InEdition.{run-alike, raised-ranges}
use Rattle.specification.proofs.Laws.RunsAlike.{tidied-runs}
use Rattle.specification.proofs.Laws.Moves.{no-ranges, up-moves, tidy-moves}

-- both are read, and the second runs as the first one tidied
as_before : (sheet t : Bytes) (s s' : Sheet) (r r' : Reader) → read_with false sheet ≡ found s r → read t ≡ found s' r' →
    length sheet ≤ longest_sheet → length t ≤ longest_sheet →
    (S : Setting) (words size : ℕ) → run_of s' S size ≡ run_of (tidied s) S size →
    HadRoom (call_with false sheet S words size) → HadRoom (call t S words size) → RunsAlike (call_with false sheet S words size) (call t S words size)
unfolding call_with
as_before sheet t s s' r r' e e' long short S words size f =
    rw (e, e', le-leb (length sheet) longest_sheet long, le-leb (length t) longest_sheet short, f)
    (go (enough_memory S words) (result_of (run_of s S size)) (result_of (run_of (tidied s) S size))
    (tidied-runs s (read-well-formed false sheet s r e) S size))
  where
    go : (b : Bool) (x y : Result) → (HadRoom x → HadRoom y → RunsAlike x y) →
        HadRoom (pick b x (refusal 1 0)) → HadRoom (pick b y (refusal 1 0)) → RunsAlike (pick b x (refusal 1 0)) (pick b y (refusal 1 0))
    go true x y h k l = h k l
    go false x y h k l = (refl, refl)

pub tidy-as-before : RunsAsBefore tidy
tidy-as-before sheet t words size e S words' size' =
    let (c, long, short) = tidy-moves sheet t words size e in
    as_before sheet t c.what (tidied c.what) c.reader c.reader' c.from c.to long short S words' size' refl

pub up-as-before : RunsAsBefore move_up
unfolding tidied
up-as-before sheet t words size e S words' size' =
    let (c, long, short) = up-moves sheet t words size e in
    let s = c.what in
    let wide = raised-ranges (tidied s) (no-ranges false sheet s c.reader c.from c.written) in
    as_before sheet t s (raised (tidied s)) c.reader c.reader' c.from c.to long short S words' size'
    (run-alike newer (raised s).declared.ranges (tidied s) wide S size')

-- of edition 2 the run before is the run of today
pub up-still-run : (sheet t : Bytes) (words size : ℕ) → move_up sheet words size ≡ moved t → (S : Setting) (words' size' : ℕ) →
    call_with false sheet S words' size' ≡ call sheet S words' size'
unfolding call_with
up-still-run sheet t words size e S words' size' =
    let (c, long, short) = up-moves sheet t words size e in
    rw (c.from, older-alike sheet c.from (rw c.written))
