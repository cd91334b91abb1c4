-- The contracts of going up, from record to record. Assumes nothing.
use Rattle.std.specs.Prelude.{ℕ, ◌-◌, ◌<◌, ◌≡◌, List, [], ◌∷◌, get_or, eqb}
use Rattle.specification.specs.declared.Setting.{Setting}
use Rattle.specification.specs.Bytes.{Bytes}
use Rattle.sheet.specs.Tables.{Words}
use Rattle.search.specs.declared.Go.{Go}
use Rattle.search.specs.declared.Mode.TheVariants as modes
use Rattle.search.specs.Frame.{Frame, pass, other, bound, began, given, range, asks, called}
use Rattle.search.specs.Path.{World}
use Rattle.search.specs.Registers.{resume_go}
use Rattle.search.specs.States.{errors_of}
use Rattle.search.specs.Sim.{Down, Up, Yes, Sim}

-- ---- frames that have a record

-- without the topmost frames that have none
abbrev pub strip : List Frame → List Frame
strip [] = []
strip (pass α ∷ fr) = strip fr
strip (other E G is α ∷ fr) = other E G is α ∷ fr
strip (bound l s α ∷ fr) = bound l s α ∷ fr
strip (began l v h α ∷ fr) = began l v h α ∷ fr
strip (given p v α ∷ fr) = given p v α ∷ fr
strip (range l x i n E F is α ∷ fr) = range l x i n E F is α ∷ fr
strip (asks tok q is α e ∷ fr) = asks tok q is α e ∷ fr
strip (called C α ∷ fr) = called C α ∷ fr

-- ---- one record, or none

-- a visit is due with the registers of the tree around the topmost record's inner tree
abbrev pub around_go : Words → Go → ℕ → Setting → Go
around_go w g due setting =
    resume_go g due (get_or w (g.top - 2) 0) (g.top - 4) (get_or w (g.top - 4) 0) (errors_of (eqb (get_or w (g.top - 3) 0) 1)) setting

-- the limits of a world
pub record Set (c : World) (setting : Setting) : Type 0 where
  pub path_is : c.setting.path ≡ setting.path
  pub budget_is : c.setting.budget ≡ setting.budget

-- in some world a son is finished
pub record Rises (w : Words) (g : Go) (setting : Setting) : Type 0 where
  pub c : World
  pub b : Bytes
  pub set : Set c setting
  pub mode : g.mode ≡ modes.Up
  pub up : Up c b w g

-- a step up: a visit is due, or all is done, or fewer records are left; no visit is counted
pub record Rose (w w' : Words) (g q : Go) (setting : Setting) : Type 0 where
  pub sim : (c : World) (b : Bytes) → Set c setting → Up c b w g → Sim c b w' q
  pub nodes : q.tallies ≡ g.tallies
  pub counted : q.from ≡ q.depth
  pub falls : q.mode ≡ modes.Up → q.top < g.top

-- ---- after an inner tree has succeeded

pub record Wins (w : Words) (g : Go) : Type 0 where
  pub c : World
  pub b : Bytes
  pub yes : Yes c b w g

-- a record is gone
pub record Fell (w w' : Words) (g q : Go) : Type 0 where
  pub yes : (c : World) (b : Bytes) → Yes c b w g → Yes c b w' q
  pub nodes : q.tallies ≡ g.tallies
  pub falls : q.top < g.top

-- the record of the node that asked is reached: its son is due
pub record Granted (w : Words) (g q : Go) (setting : Setting) : Type 0 where
  pub down : (c : World) (b : Bytes) → Set c setting → Yes c b w g → Down c b w q
  pub mode : q.mode ≡ modes.Down
  pub nodes : q.tallies ≡ g.tallies
  pub counted : q.from ≡ q.depth
