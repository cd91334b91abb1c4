-- The contracts of the walk from leaf to leaf: the search goes on, with nothing written. Assumes nothing.
use Rattle.std.specs.Prelude.{◌≤◌, ◌<◌, ◌≡◌}
use Rattle.specification.specs.Bytes.{Bytes}
use Rattle.specification.specs.Run.{output, stopped}
use Rattle.sheet.specs.Tables.{Words}
use Rattle.search.specs.declared.Go.{Go}
use Rattle.search.specs.declared.Mode.TheVariants as modes
use Rattle.search.specs.Path.{World}
use Rattle.search.specs.Sim.{Leaf, Over, Stopped}
use Rattle.search.specs.Registers.{tallied}
use Rattle.search.specs.Climb.{Set}
use Rattle.walker.specs.declared.State.{State}
use Rattle.walker.specs.declared.Task.{Task}
use Rattle.walker.specs.Loop.{Going}

-- the visits since the last leaf can be added to the tallies
pub record Counted (g : Go) : Type 0 where
  pub begun : g.from ≤ g.depth
  pub fits : (tallied g).nodes < 4294967296

-- before the walk goes on: a visit or going up is due or a limit is reached, or there was no room
pub data Goes (c : World) (b : Bytes) (w : Words) (s : State) : Type 0 where
  starts : ¬ (s.go.mode ≡ modes.Full) → Going c b w s.go → Goes c b w s
  overflows : s.go.mode ≡ modes.Full → stopped output (tallied s.go) b ≡ c.result → Counted s.go → Goes c b w s

-- after it: a leaf has a block, or the walk is over
pub data Came (c : World) (b : Bytes) (w : Words) (s : State) : Type 0 where
  leaf : s.go.mode ≡ modes.Block → Leaf c b w s.go → Came c b w s
  done : s.go.mode ≡ modes.Done → Over c b s.go → Came c b w s
  stops : s.go.mode ≡ modes.Stopped → Stopped c b w s.go → Came c b w s
  overflowed : s.go.mode ≡ modes.Full → stopped output (tallied s.go) b ≡ c.result → Counted s.go → Came c b w s

abbrev pub SetBy : World → Task → Type 0
SetBy c t = Set c t.setting

pub record Onwards (w : Words) (s : State) (t : Task) : Type 0 where
  pub c : World
  pub b : Bytes
  pub set : SetBy c t
  pub goes : Goes c b w s

pub record Onward (w w' : Words) (s q : State) (t : Task) : Type 0 where
  pub came : (c : World) (b : Bytes) → SetBy c t → Goes c b w s → Came c b w' q
  pub same : q.written ≡ s.written
  pub least : (tallied s.go).nodes ≤ (tallied q.go).nodes
