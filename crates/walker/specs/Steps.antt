-- The contracts of the functions that enter a node, beside those of search/specs/Steps. Assumes nothing.
use Rattle.std.specs.Prelude.{ℕ, suc, ◌+◌, ◌-◌, ◌≤◌, ◌<◌, ◌≡◌, Bool, true, false, ◌⊎◌, List, get_or}
use Rattle.specification.specs.declared.Setting.{Setting}
use Rattle.specification.specs.Bytes.{Bytes}
use Rattle.specification.specs.Place.{Place}
use Rattle.specification.specs.Value.{empty}
use Rattle.specification.specs.Tree.{step}
use Rattle.values.specs.Word.{signed}
use Rattle.tables.specs.Codes.{imp_code, not_code}
use Rattle.tables.specs.Leaves.{failure_place}
use Rattle.sheet.specs.Tables.{Words}
use Rattle.sheet.specs.Held.{slot_of}
use Rattle.search.specs.declared.Go.{Go}
use Rattle.search.specs.declared.Mode.TheVariants as modes
use Rattle.search.specs.Marks.{Known}
use Rattle.search.specs.Site.{assign_at}
use Rattle.search.specs.Frame.{Item, the, tree_items, site_in, store_in}
use Rattle.search.specs.Path.{World, Job}
use Rattle.search.specs.Sim.{tree, In, Sim}
use Rattle.search.specs.Registers.{tallied}
use Rattle.search.specs.Climb.{Set}
use Rattle.search.specs.Steps.{Visited, Entered, GoesOn, OneLeaf}

-- ---- inner trees

-- an `imp` or a `not`
abbrev pub Asking : Words → Go → Type 0
Asking w g = Entered w g imp_code ⊎ Entered w g not_code

-- ---- atoms

-- one son: what comes next, if the test holds, else a failure leaf
pub record Checks (w : Words) (g : Go) (holds : Bool) : Type 0 where
  pub yes : holds ≡ true → GoesOn w g
  pub no : holds ≡ false → OneLeaf w g failure_place

-- a bare place, whose slot is at the word `slot`, and a value for it
pub record Assigns (w : Words) (g : Go) (slot value : ℕ) (c : World) (b : Bytes) (i : In c b w g) : Type 0 where
  pub place : Place
  pub known : Known c.declared place
  pub slot_is : slot ≡ slot_of place
  pub bare : i.α place ≡ empty
  pub is : List Item
  pub tree_is :
      tree c i.fr i.x i.α
      ≡ step (assign_at c.declared place (signed value) (λ s β. tree_items c.declared is s β) (site_in i.fr) i.α)
  pub next : Job c w (store_in i.fr) i.α (get_or w (g.due + 3) 0) (the is)

-- in every world
pub record Assigning (w : Words) (g : Go) (slot value : ℕ) : Type 0 where
  pub at : Visited w g
  pub fits : value < 4294967296
  pub assigns : (c : World) (b : Bytes) (i : In c b w g) → Assigns w g slot value c b i

-- ---- leaves

-- the visits that the tallies lack can be added
pub record Visits (g : Go) : Type 0 where
  pub begun : g.from ≤ g.depth
  pub fits : g.tallies.nodes + (g.depth - g.from) + 1 < 4294967296
  pub deep : g.depth + 1 < 4294967296

-- ---- with the limits of a run

-- in some world of these limits a node or leaf that no limit stops, whose token has the code n
pub record Arrived (w : Words) (g : Go) (n : ℕ) (setting : Setting) : Type 0 where
  pub c : World
  pub b : Bytes
  pub set : Set c setting
  pub ins : In c b w g
  pub code : get_or w g.due 0 ≡ n

-- what a function makes of it: where the search goes on, the visit is counted
pub record SteppedWithin (w w' : Words) (g q : Go) (setting : Setting) : Type 0 where
  pub sim : (c : World) (b : Bytes) → Set c setting → In c b w g → Sim c b w' q
  pub counts : (q.mode ≡ modes.Down) ⊎ (q.mode ≡ modes.Up) → (tallied q).nodes ≡ suc (tallied g).nodes
  pub least : (tallied g).nodes ≤ (tallied q).nodes
