-- The layout has no gaps: each table ends where the next begins, those of the reader and those of a walk. Assumes nothing.
use Prim.Native.Nat.{◌+◌, ◌*◌, ◌≤◌, ◌<◌}
use mathlib.Core.Path.{◌≡◌, refl}
use native.Mathlib.Omega.{arith}
use Rattle.tables.specs.Layout.{max_tokens, max_cells, max_locals, max_arrays, max_procs, max_parameters, max_nesting, max_ranges, max_dues}
use Rattle.tables.specs.Layout.{cells_at, locals_at, firsts_at, procs_at, ranges_at, dues_at, dues_end, results_at, opens_at, lasts_at, path_at}
use Rattle.tables.specs.Layout.{token_slot, cell_slot, local_slot, first_slot, proc_slot, due_slot, open_words, open_slot, last_slot}
use Rattle.tables.specs.Ranges.{range_slot}
use Rattle.tables.specs.Frames.{frames_at, frame_slot, argument_slot}
use Rattle.tables.specs.Leaves.{end_place, rise_place, failure_place, success_place, error_place, leaves_end}

pub record Joined : Type 0 where
  pub tokens : token_slot max_tokens ≡ cells_at
  pub cells : cell_slot max_cells ≡ locals_at
  pub locals : local_slot max_locals ≡ firsts_at
  pub firsts : first_slot (max_arrays + 1) ≡ procs_at
  pub procs : proc_slot max_procs ≡ ranges_at
  pub ranges : range_slot max_ranges ≡ dues_at
  pub dues : due_slot max_dues ≡ dues_end
  pub read : dues_end ≤ path_at
  pub results : results_at + open_words * (max_nesting + 1) ≡ opens_at
  pub opens : open_slot max_procs 0 ≡ frames_at
  pub arguments : argument_slot 0 max_parameters ≡ frame_slot 1
  pub frames : frame_slot max_procs ≡ lasts_at
  pub lasts : last_slot max_locals ≡ end_place
  pub leaves : (end_place < rise_place) × (rise_place < failure_place) × (failure_place < success_place) × (success_place < error_place)
  pub error : error_place + 3 ≡ leaves_end
  pub path : leaves_end ≤ path_at

pub joined : Joined
joined = record {
  tokens = refl;
  cells = refl;
  locals = refl;
  firsts = refl;
  procs = refl;
  ranges = refl;
  dues = refl;
  read = omega arith;
  results = refl;
  opens = refl;
  arguments = refl;
  frames = refl;
  lasts = refl;
  leaves = (omega arith, omega arith, omega arith, omega arith);
  error = refl;
  path = omega arith;
}
