-- The places that the mover's functions answer, the text of each way, and what a move leaves. Assumes nothing.
use Rattle.std.specs.Prelude.{ℕ, ◌≤◌, ◌≡◌, [], length, ltb, Option as Answer, Some, None}
use Rattle.std.proofs.Math.Option.{Option, none, some as just}
use Rattle.specification.specs.Bytes.{Bytes, bytes, pick}
use Rattle.specification.specs.Moves.{Result, longest_sheet, Move, outcome, output_after}
use Rattle.tables.specs.Layout.{Words, path_at}
use Rattle.mover.specs.declared.Way.{Way}
use Rattle.mover.specs.declared.Way.TheVariants.{Up, Tidy, Down}
use Rattle.mover.specs.Model.{lines_length, head_lines, up_text, tidy_text, down_text, up_result, tidy_result, down_result}

-- a place that is answered
abbrev pub placed : Answer ℕ → Option ℕ
placed None = none
placed (Some p) = just p

-- bytes that are dropped with the token i where it is below `until`
abbrev pub kept : ℕ → ℕ → Bytes → Bytes
kept i until t = pick (ltb i until) [] t

-- ---- the moves

-- what a move leans on: the sheet is no longer than any is, its lines are there, and so are the tables
pub record Movable (s : Bytes) (w : Words) : Type 0 where
  pub short : length s ≤ longest_sheet
  pub head : length (bytes "edition=2\n") ≤ lines_length head_lines s
  pub tables : path_at ≤ length w

-- the text that each way writes
abbrev pub moved_text : Way → ℕ → Words → Bytes → Bytes
moved_text Up n w s = up_text n w s
moved_text Tidy n w s = tidy_text w s
moved_text Down n w s = down_text w s

-- and what is due for it
abbrev pub moved_result : Way → ℕ → Words → Bytes → Result
moved_result Up n w s = up_result n w s
moved_result Tidy n w s = tidy_result w s
moved_result Down n w s = down_result n w s

-- what a move with this result returns, and leaves of the output that was held
abbrev pub Done : Result → Move → Bytes → Bytes → Type 0
Done x r held out = (r ≡ outcome x) × (out ≡ output_after x held)
