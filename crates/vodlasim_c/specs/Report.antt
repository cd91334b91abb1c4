-- What the calls for C and Rust hosts leave in all lent memory: the report (the specification's `report_of`, or `move_report`), the output and
-- the work words.
-- Assumes nothing.
use Rattle.std.specs.Prelude.{ℕ, ◌≡◌, List, length}
use Rattle.specification.specs.declared.Setting.{Setting}
use Rattle.specification.specs.Bytes.{Bytes}
use Rattle.specification.specs.Outcome.{call, outcome, output_after, words_after}
use Rattle.specification.specs.Report.{report_of, move_report}
use Rattle.specification.specs.Moves as moves
use Rattle.specification.specs.Moving.{Way}
use Rattle.vodlasim.specs.Lent.{Lent}

-- a call with these work words, output bytes and, when it returns, numbers in its report
pub record Reported (sheet : Bytes) (S : Setting) (w o : Lent) (numbers : List ℕ) : Type 0 where
  pub report : numbers ≡ report_of (outcome (call sheet S (length w.before) (length o.before)))
  pub output : o.after ≡ output_after (call sheet S (length w.before) (length o.before)) o.before
  pub work : w.after ≡ words_after w.before

-- the same of a move
pub record MoveReported (way : Way) (sheet : Bytes) (w o : Lent) (numbers : List ℕ) : Type 0 where
  pub report : numbers ≡ move_report (moves.outcome (way sheet (length w.before) (length o.before)))
  pub output : o.after ≡ moves.output_after (way sheet (length w.before) (length o.before)) o.before
  pub work : w.after ≡ words_after w.before
