-- The contract of the calls `move_up`, `move_down` and `tidy`, each with its way of the specification: the result, every byte of the output and
-- every work word afterwards, for each sheet and each length of the lent slices. Assumes nothing.
use Rattle.std.specs.Prelude.{◌≡◌, length}
use Rattle.specification.specs.Bytes.{Bytes}
use Rattle.specification.specs.Outcome.{words_after}
use Rattle.specification.specs.Moves.{Move, outcome, output_after}
use Rattle.specification.specs.Moving.{Way}
use Rattle.vodlasim.specs.Lent.{Lent}

pub record Moved (way : Way) (sheet : Bytes) (w o : Lent) (r : Move) : Type 0 where
  pub result : r ≡ outcome (way sheet (length w.before) (length o.before))
  pub output : o.after ≡ output_after (way sheet (length w.before) (length o.before)) o.before
  pub work : w.after ≡ words_after w.before
