-- The contract of the call `run`: its result, every byte of the output and every work word afterwards are the specification's, for each
-- sheet, each setting and each length of the lent slices. Assumes nothing.
use Rattle.std.specs.Prelude.{◌≡◌, length}
use Rattle.specification.specs.declared.Setting.{Setting}
use Rattle.specification.specs.Bytes.{Bytes}
use Rattle.specification.specs.Outcome.{call, Outcome, outcome, output_after, words_after}
use Rattle.vodlasim.specs.Lent.{Lent}

pub record Answered (sheet : Bytes) (S : Setting) (w o : Lent) (r : Outcome) : Type 0 where
  pub result : r ≡ outcome (call sheet S (length w.before) (length o.before))
  pub output : o.after ≡ output_after (call sheet S (length w.before) (length o.before)) o.before
  pub work : w.after ≡ words_after w.before
