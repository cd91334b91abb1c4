-- The contracts of the functions that go up, beside those of search/specs/Climb. Assumes nothing.
use Rattle.std.specs.Prelude.{ℕ, ◌+◌, ◌-◌, ◌/◌, ◌%◌, ◌≤◌, ◌<◌, ◌≡◌, Bool, true, false, ◌⊎◌, List, set, leb, eqb}
use Rattle.specification.specs.declared.Setting.{Setting}
use Rattle.specification.specs.Bytes.{Bytes, pick}
use Rattle.specification.specs.Value.{Valuation}
use Rattle.specification.specs.Run.{going}
use Rattle.tables.specs.Layout.{cells_at, local_slot, last_slot, path_at}
use Rattle.tables.specs.Codes.{imp_code, not_code}
use Rattle.sheet.specs.Tables.{Words}
use Rattle.search.specs.declared.Go.{Go}
use Rattle.search.specs.declared.Mode.TheVariants as modes
use Rattle.search.specs.Frame.{Frame}
use Rattle.search.specs.Records.{at, had_unit}
use Rattle.search.specs.Path.{World, Path}
use Rattle.search.specs.Sim.{Up, Yes, Sim}
use Rattle.search.specs.Registers.{drop_go}
use Rattle.search.specs.Climb.{Set, Rises}

-- ---- the topmost record

-- in some world a path that has a record
pub record Topped (w : Words) (g : Go) : Type 0 where
  pub c : World
  pub α : Valuation
  pub fr : List Frame
  pub path : Path c w g.top α fr
  pub some : ¬ (g.top ≡ path_at)

-- it keeps a slot
pub record KeepsSlot (w : Words) (g : Go) : Type 0 where
  pub top : Topped w g
  pub slot : cells_at ≤ at w (g.top - 1)

-- it is that of a token with the code n
pub record OfCode (w : Words) (g : Go) (n : ℕ) : Type 0 where
  pub top : Topped w g
  pub low : at w (g.top - 1) < cells_at
  pub code : at w (at w (g.top - 1)) ≡ n

-- the slot is as it was
pub record Undone (w w' : Words) (g q : Go) : Type 0 where
  pub words : w' ≡ set (set w (at w (g.top - 1) % had_unit) (at w (g.top - 1) / had_unit)) (at w (g.top - 1) % had_unit + 1) (at w (g.top - 3))
  pub regs : q ≡ drop_go g (g.top - 3) (at w (g.top - 2))

-- the slot of the topmost quantifier's local
abbrev pub top_slot : Words → Go → ℕ
top_slot w g = local_slot (at w (at w (g.top - 1) + 5))

-- the slot of a `some`'s local is as it was
pub record Closed (w w' : Words) (g q : Go) : Type 0 where
  pub words : w' ≡ set (set w (top_slot w g) (at w (g.top - 5))) (top_slot w g + 1) (at w (g.top - 4))
  pub regs : q ≡ drop_go g (g.top - 5) g.inner

-- and so is that of an `all`'s, and the last value
pub record Ended (w w' : Words) (g q : Go) : Type 0 where
  pub words :
      w' ≡ set (set (set w (last_slot (at w (at w (g.top - 1) + 5))) (at w (g.top - 2))) (top_slot w g) (at w (g.top - 4))) (top_slot w g + 1) (at w (g.top - 3))
  pub regs : q ≡ drop_go g (g.top - 4) g.inner

-- ---- one record, after a son is finished

-- that of the token t
pub record RisesFrom (w : Words) (g : Go) (t : ℕ) (setting : Setting) : Type 0 where
  pub rises : Rises w g setting
  pub some : ¬ (g.top ≡ path_at)
  pub low : at w (g.top - 1) < cells_at
  pub token : t ≡ at w (g.top - 1)

-- which has the code n
pub record RisesTo (w : Words) (g : Go) (n t : ℕ) (setting : Setting) : Type 0 where
  pub from : RisesFrom w g t setting
  pub code : at w (at w (g.top - 1)) ≡ n

-- ---- one record, after an inner tree has succeeded

-- in some world where not all is visited yet an inner tree has succeeded: the node that asked for it is on the path
pub record WinsInside (w : Words) (g : Go) : Type 0 where
  pub c : World
  pub b : Bytes
  pub yes : Yes c b w g
  pub more : ¬ (going g.tallies b ≡ c.result)

-- whether the record whose last word is x is that of a node with an inner tree
abbrev pub asking : Words → ℕ → Bool
asking w x = pick (leb cells_at x) false (pick (eqb (at w x) not_code) true (eqb (at w x) imp_code))

-- the topmost is not; its last word is x
pub record Releases (w : Words) (g : Go) (x : ℕ) : Type 0 where
  pub wins : WinsInside w g
  pub word : x ≡ at w (g.top - 1)
  pub other : asking w x ≡ false

-- it is that of the token t
pub record WinsFrom (w : Words) (g : Go) (t : ℕ) : Type 0 where
  pub releases : Releases w g t
  pub low : t < cells_at

-- ---- inner trees

-- the topmost record is that of a node with an inner tree
abbrev pub OfAsking : Words → Go → Type 0
OfAsking w g = OfCode w g not_code ⊎ OfCode w g imp_code

-- the registers of the tree around it are in that record
pub record Arounds (w : Words) (g : Go) (setting : Setting) : Type 0 where
  pub asks : OfAsking w g
  pub high : path_at + 4 ≤ g.top
  pub depth : at w (g.top - 2) ≤ setting.path
  pub visits : g.tallies.nodes ≤ setting.budget

-- its inner tree is finished without success
pub record Judges (w : Words) (g : Go) (t : ℕ) (setting : Setting) : Type 0 where
  pub rises : Rises w g setting
  pub asks : OfAsking w g
  pub token : t ≡ at w (g.top - 1)

-- or with success
pub record Grants (w : Words) (g : Go) (setting : Setting) : Type 0 where
  pub c : World
  pub b : Bytes
  pub set : Set c setting
  pub yes : Yes c b w g
  pub asks : OfAsking w g

-- all records above that of a node whose inner tree has succeeded are gone
pub record Unwound (w w' : Words) (g q : Go) : Type 0 where
  pub yes : (c : World) (b : Bytes) → Yes c b w g → Yes c b w' q
  pub nodes : q.tallies ≡ g.tallies
  pub asks : OfAsking w' q

-- ---- going up until something is due

pub record Climbed (w w' : Words) (g q : Go) (setting : Setting) : Type 0 where
  pub sim : (c : World) (b : Bytes) → Set c setting → Up c b w g → Sim c b w' q
  pub nodes : q.tallies ≡ g.tallies
  pub counted : q.from ≡ q.depth
  pub stops : ¬ (q.mode ≡ modes.Up)
