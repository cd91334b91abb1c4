-- What a test program prints where it ends before its input does. Assumes nothing.
use Rattle.std.specs.Prelude.{List, [], ℕ, codes}
use Rattle.std.specs.Prelude.{◌++◌, ◌∷◌}
use Rattle.case_file.specs.declared.Stop.{Stop}
use Rattle.case_file.specs.declared.Stop.TheVariants.{Malformed, TooMuch, Lost}

-- that a case is malformed, and of the other ends nothing
abbrev pub message : Stop → List ℕ
message Malformed = codes "malformed" ++ 10 ∷ []
message TooMuch = []
message (Lost lost) = []
