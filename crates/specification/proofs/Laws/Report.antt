-- The number of an end stands for it. Assumes nothing.
use mathlib.Core.Path.{◌≡◌, refl}
use Rattle.specification.specs.declared.End.{End}
use Rattle.specification.specs.declared.End.TheVariants.{Done, Spent, Path, Output}
use Rattle.specification.specs.Report.{end_number, end_from}

pub end-from : (e : End) → end_from (end_number e) ≡ e
end-from Done = refl
end-from Spent = refl
end-from Path = refl
end-from Output = refl
