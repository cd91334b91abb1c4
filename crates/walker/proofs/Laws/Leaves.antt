-- The tallies have room for a leaf. Assumes nothing.
use Prim.Native.Nat.{◌<◌}
use native.Mathlib.Omega.{arith}
use Rattle.specification.specs.Bytes.{Bytes}
use Rattle.specification.specs.Run.{add_node}
use Rattle.sheet.specs.Tables.{Words}
use Rattle.search.specs.declared.Go.{Go}
use Rattle.search.specs.Path.{World}
use Rattle.search.specs.Sim.{In}
use Rattle.search.specs.Registers.{tallied, max_word}
use Rattle.search.proofs.Gauges.{room-budget}
use Rattle.search.proofs.Simple.{depth_small}
use Rattle.walker.specs.Steps.{Visits}

module _ {c : World} {b : Bytes} {w : Words} {g : Go} (i : In c b w g) where
  pub visit-fits : Visits g
  visit-fits = record {
    begun = i.gauge.begun;
    fits = omega (arith, room-budget i.gauge i.room, i.gauge.tallies.fits);
    deep = omega (arith, depth_small i);
  }

  pub fail-fits : ((add_node (tallied g)).answers < max_word) × ((add_node (tallied g)).errors < max_word) × ((add_node (tallied g)).fails < max_word)
  fail-fits =
      let q = i.gauge.tallies in
      let r = room-budget i.gauge i.room in
      (omega (arith, q.fits, q.leaves), omega (arith, q.fits, q.leaves), omega (arith, q.fits, q.leaves))
