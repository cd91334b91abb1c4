-- The contracts of the loop (src/advance.rt). Assumes nothing.
use Rattle.std.specs.Prelude.{ℕ, ◌+◌, ◌-◌, ◌*◌, ◌≤◌, ◌<◌, ◌≡◌, ◌⊎◌, ltb, eqb}
use Rattle.specification.specs.declared.Setting.{Setting}
use Rattle.specification.specs.Bytes.{Bytes, pick}
use Rattle.tables.specs.Layout.{lasts_at}
use Rattle.tables.specs.Frames.{frames_at}
use Rattle.tables.specs.Leaves.{rise_place}
use Rattle.sheet.specs.Tables.{Words}
use Rattle.search.specs.declared.Go.{Go}
use Rattle.search.specs.declared.Mode.TheVariants as modes
use Rattle.search.specs.States.{same}
use Rattle.search.specs.Path.{World}
use Rattle.search.specs.Sim.{In, Up, Sim}
use Rattle.search.specs.Registers.{tallied, out_go}
use Rattle.search.specs.Climb.{Set}

-- ---- what is due

-- a node or leaf that no limit stops, the end of a procedure's formula before one, or going up
pub data Due (c : World) (b : Bytes) (w : Words) (g : Go) : Type 0 where
  visit : In c b w g → Due c b w g
  rising : g.due ≡ rise_place → Up c b w g → Due c b w g

-- in some world of these limits
pub record Dues (w : Words) (g : Go) (setting : Setting) : Type 0 where
  pub c : World
  pub b : Bytes
  pub set : Set c setting
  pub mode : g.mode ≡ modes.Down
  pub due : Due c b w g

-- ---- how often the loop turns

-- turns that are no visits: going up, and the end of a procedure's formula, whose place is in its frame
abbrev pub pending_at : ℕ → ℕ
pending_at due = pick (eqb due rise_place) 3 (pick (ltb due frames_at) 0 (pick (ltb due lasts_at) 1 0))

abbrev pub pending : Go → ℕ
pending g = pick (same g.mode modes.Up) 2 (pending_at g.due)

abbrev pub measure : ℕ → Go → ℕ
measure budget g = 4 * (budget - (tallied g).nodes) + pending g

-- ---- one turn

pub record Came (w w' : Words) (g q : Go) (setting : Setting) : Type 0 where
  pub sim : (c : World) (b : Bytes) → Set c setting → Due c b w g → Sim c b w' q
  pub falls : (q.mode ≡ modes.Down) ⊎ (q.mode ≡ modes.Up) → measure setting.budget q < measure setting.budget g
  pub least : (tallied g).nodes ≤ (tallied q).nodes

-- the invariant in some world of these limits
pub record Simulates (w : Words) (g : Go) (setting : Setting) : Type 0 where
  pub c : World
  pub b : Bytes
  pub set : Set c setting
  pub sim : Sim c b w g

-- no son is finished any more
pub record Risen (w w' : Words) (g q : Go) (setting : Setting) : Type 0 where
  pub sim : (c : World) (b : Bytes) → Set c setting → Sim c b w g → Sim c b w' q
  pub stops : ¬ (q.mode ≡ modes.Up)
  pub falls : q.mode ≡ modes.Down → (q ≡ g) ⊎ ((g.mode ≡ modes.Up) × (measure setting.budget q < measure setting.budget g))
  pub least : (tallied g).nodes ≤ (tallied q).nodes

-- a visit that is due does not come where a limit is reached
abbrev pub limit : Go → Go
limit g = pick (same g.mode modes.Down) (pick (eqb g.depth g.stop) (out_go g modes.Stopped) g) g

pub record Turned (w w' : Words) (g q : Go) (setting : Setting) : Type 0 where
  pub sim : (c : World) (b : Bytes) → Set c setting → Due c b w g → Sim c b w' q
  pub stops : ¬ (q.mode ≡ modes.Up)
  pub room : q.mode ≡ modes.Down → ¬ (q.depth ≡ q.stop)
  pub falls : q.mode ≡ modes.Down → measure setting.budget q < measure setting.budget g
  pub least : (tallied g).nodes ≤ (tallied q).nodes

-- ---- from leaf to leaf

-- a visit is due, or the loop is left
pub data Going (c : World) (b : Bytes) (w : Words) (g : Go) : Type 0 where
  goes : g.mode ≡ modes.Down → Due c b w g → Going c b w g
  left : ¬ (g.mode ≡ modes.Down) → ¬ (g.mode ≡ modes.Up) → Sim c b w g → Going c b w g

pub record Goings (w : Words) (g : Go) (setting : Setting) : Type 0 where
  pub c : World
  pub b : Bytes
  pub set : Set c setting
  pub going : Going c b w g

pub record Advanced (w w' : Words) (g q : Go) (setting : Setting) : Type 0 where
  pub sim : (c : World) (b : Bytes) → Set c setting → Going c b w g → Sim c b w' q
  pub over : ¬ (q.mode ≡ modes.Down)
  pub stops : ¬ (q.mode ≡ modes.Up)
  pub least : (tallied g).nodes ≤ (tallied q).nodes
