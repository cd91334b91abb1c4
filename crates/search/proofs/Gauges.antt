-- The one limit and the tallies, where a visit is counted by going one deeper. Assumes nothing.
use Prim.Native.Nat.{ℕ, ◌<◌}
use native.Mathlib.Omega.{arith}
use mathlib.Core.Path.{◌≡◌, ap}
use Rattle.specification.specs.Run.{tallies, add_node}
use Rattle.search.specs.declared.Errors.{Errors}
use Rattle.search.specs.declared.Go.{Go}
use Rattle.search.specs.Path.{World}
use Rattle.search.specs.Registers.{tallied, Gauge, down_go}

module _ {c : World} {g : Go} (q : Gauge c g) (room : g.depth < g.stop) where
  pub down-gauge : (t top inner : ℕ) (bad : Errors) → Gauge c (down_go g t top inner bad)
  down-gauge t top inner bad = record {
    tallies = record { fits = q.tallies.fits; budget = q.tallies.budget; leaves = q.tallies.leaves };
    begun = omega (arith, q.begun);
    below = omega arith;
    stop = q.stop;
  }

  pub down-tallied : (t top inner : ℕ) (bad : Errors) → tallied (down_go g t top inner bad) ≡ add_node (tallied g)
  down-tallied t top inner bad =
      let h = q.begun in
      ap (λ n. tallies n g.tallies.answers g.tallies.errors g.tallies.fails) (omega arith)

  -- no limit is reached
  pub room_path : g.depth < c.setting.path
  room_path = omega (arith, q.stop)

  pub room-budget : (tallied g).nodes < c.setting.budget
  room-budget = omega (arith, q.stop, q.begun, q.tallies.budget)
