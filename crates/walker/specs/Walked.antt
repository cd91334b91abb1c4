-- The contract of the whole walk: from the tables of a sheet, which are planned first, to its run. Assumes nothing.
use Rattle.std.specs.Prelude.{ℕ, ◌≤◌, ◌<◌, ◌≡◌, ◌++◌, length, drop, eqb, Ok}
use Rattle.specification.specs.declared.End.{End}
use Rattle.specification.specs.declared.End.TheVariants.{Done, Spent, Path, Output}
use Rattle.specification.specs.declared.Ran.{Ran}
use Rattle.specification.specs.Bytes.{Bytes, pick}
use Rattle.specification.specs.Lines.{procedure_of}
use Rattle.specification.specs.Sheet.{Sheet}
use Rattle.specification.specs.WellFormed.{WellFormed}
use Rattle.specification.specs.Outcome.{ran, result_of, start, run_of, outcome, output_after}
use Rattle.tables.specs.Layout.{node_slot, last_at, max_procs, max_locals, max_path}
use Rattle.tables.specs.Leaves.{Leaves}
use Rattle.sheet.specs.Tables.{Words}
use Rattle.sheet.specs.Held.{proc_at, FormulaAt, Shallow, Holds, Marked, ArraysAt, RangesAt, ProceduresAt, InOrder}
use Rattle.plan.specs.Next.{end, back}
use Rattle.plan.specs.Planned.{procedure_line, own_line, FormulaPlanned}
use Rattle.search.specs.Registers.{tallied}
use Rattle.walker.specs.declared.State.{State}
use Rattle.walker.specs.declared.Task.{Task}
use Rattle.search.specs.declared.Mode.{Mode}
use Rattle.search.specs.declared.Mode.TheVariants as modes
use Rattle.search.specs.States.{same}
use Rattle.walker.specs.Walks.{Counted}

-- the work words hold the sheet's tables, with room for the path
pub record Ready (w : Words) (t : Task) (s : Sheet) : Type 0 where
  pub well : WellFormed s
  pub formula : FormulaAt w t.formula s.formula
  pub shallow : Shallow max_procs s.formula
  pub procedures : ProceduresAt w s.declared
  pub order : InOrder w (length s.declared.procedures) t.formula
  pub holds : Holds w (start s.given)
  pub marked : Marked w s.declared (start s.given)
  pub firsts : ArraysAt w s.declared
  pub ranges : RangesAt w s.declared
  pub lasts : (l : ℕ) → l < max_locals → last_at w l ≡ 0
  pub scalar_count : t.scalars ≡ s.declared.scalars
  pub array_count : t.arrays ≡ length s.declared.arrays
  pub limit : t.setting.path ≤ max_path
  pub size : node_slot t.setting.path ≤ length w

pub record Readied (w : Words) (t : Task) : Type 0 where
  pub sheet : Sheet
  pub ready : Ready w t sheet

-- and their plan
pub record Prepared (w : Words) (t : Task) (s : Sheet) : Type 0 where
  pub ready : Ready w t s
  pub formula : FormulaPlanned w own_line t.formula s.formula end
  pub procedures :
      (K : ℕ) → K < length s.declared.procedures → FormulaPlanned w (procedure_line K) (proc_at w K) (procedure_of s.declared K).formula (back K)
  pub leaves : Leaves w

pub record Sets (w : Words) (t : Task) : Type 0 where
  pub sheet : Sheet
  pub prepared : Prepared w t sheet

-- how a walk that is over ended: all is visited, no room for a block, or a limit
abbrev pub end_by : Mode → ℕ → ℕ → End
end_by mode nodes budget = pick (same mode modes.Done) Done (pick (same mode modes.Full) Output (pick (eqb nodes budget) Spent Path))

-- the walk is over: its registers and the output are those of the sheet's run
pub record Finished (w w' : Words) (o o' : Bytes) (t : Task) (s : State) : Type 0 where
  pub run :
      (x : Sheet) → Prepared w t x →
      (b : Bytes)
      × (ran (end_by s.go.mode (tallied s.go).nodes t.setting.budget) (tallied s.go) b ≡ result_of (run_of x t.setting (length o)))
      × (s.written ≡ length b)
      × (o' ≡ b ++ drop (length b) o)
  pub counted : Counted s.go
  pub words : length w' ≡ length w
  pub size : length o' ≡ length o

-- the sheet's run, in as many work words
pub record Walked (w w' : Words) (o o' : Bytes) (t : Task) (r : Ran) : Type 0 where
  pub result : (s : Sheet) → Ready w t s → Ok r ≡ outcome (result_of (run_of s t.setting (length o)))
  pub output : (s : Sheet) → Ready w t s → o' ≡ output_after (result_of (run_of s t.setting (length o))) o
  pub words : length w' ≡ length w
