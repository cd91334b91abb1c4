-- The invariant of the search: what is left to visit gives the run's result. b are the bytes that the listing has so far. Assumes nothing.
use Rattle.std.specs.Prelude.{suc, ◌<◌, ◌≡◌, Bool, false, List}
use Rattle.specification.specs.Bytes.{Bytes}
use Rattle.specification.specs.Value.{Valuation}
use Rattle.specification.specs.Tree.{Tree}
use Rattle.specification.specs.Run.{add_node, going}
use Rattle.sheet.specs.Tables.{Words}
use Rattle.search.specs.declared.Go.{Go}
use Rattle.search.specs.declared.Mode.TheVariants as modes
use Rattle.search.specs.Walk as walks
use Rattle.search.specs.Frame.{What, the, success, failure, error, tree_what, Frame, len, inner_in, site_in, store_in, resume_yes, resume}
use Rattle.search.specs.Site.{son_site}
use Rattle.search.specs.Path.{World, conditions_of, Job, Path}
use Rattle.search.specs.Registers.{tallied, Tallied, Gauge}
use Rattle.search.specs.States.{errors_of}

module _ (c : World) where
  abbrev pub yes : List Frame → walks.Next
  yes fr = resume_yes (conditions_of c) fr

  abbrev pub no : List Frame → Bool → walks.Next
  no fr = resume (conditions_of c) fr

  abbrev pub tree : List Frame → What → Valuation → Tree
  tree fr x α = tree_what c.declared x (site_in fr) α

  -- of a son of the node there
  abbrev pub son : List Frame → What → Valuation → Tree
  son fr x α = tree_what c.declared x (son_site (site_in fr)) α

-- about to visit a node or leaf, within the limits or not
pub record Down (c : World) (b : Bytes) (w : Words) (g : Go) : Type 0 where
  pub x : What
  pub fr : List Frame
  pub α : Valuation
  pub e : Bool
  pub path : Path c w g.top α fr
  pub deep : g.depth ≡ len fr
  pub inner : g.inner ≡ (site_in fr).inner
  pub bad : g.bad ≡ errors_of e
  pub job : Job c w (store_in fr) α g.due x
  pub gauge : Gauge c g
  pub result :
      walks.walk (conditions_of c) (inner_in fr) (suc g.depth) (tree c fr x α) (yes c fr) (no c fr) e (tallied g) b
      ≡ c.result

-- a visit that no limit stops
pub record In (c : World) (b : Bytes) (w : Words) (g : Go) : Type 0 where
  pub x : What
  pub fr : List Frame
  pub α : Valuation
  pub e : Bool
  pub path : Path c w g.top α fr
  pub deep : g.depth ≡ len fr
  pub inner : g.inner ≡ (site_in fr).inner
  pub bad : g.bad ≡ errors_of e
  pub job : Job c w (store_in fr) α g.due x
  pub gauge : Gauge c g
  pub room : g.depth < g.stop
  pub result :
      walks.within (conditions_of c) (inner_in fr) (suc g.depth) (tree c fr x α) (yes c fr) (no c fr) e (add_node (tallied g)) b
      ≡ c.result

-- the present son of the topmost node is finished; all visits are counted
pub record Up (c : World) (b : Bytes) (w : Words) (g : Go) : Type 0 where
  pub fr : List Frame
  pub α : Valuation
  pub e : Bool
  pub path : Path c w g.top α fr
  pub inner : g.inner ≡ (site_in fr).inner
  pub bad : g.bad ≡ errors_of e
  pub counted : g.from ≡ g.depth
  pub tallies : Tallied c g
  pub result : no c fr e g.tallies b ≡ c.result

-- an inner tree has had a success leaf
pub record Yes (c : World) (b : Bytes) (w : Words) (g : Go) : Type 0 where
  pub fr : List Frame
  pub α : Valuation
  pub path : Path c w g.top α fr
  pub counted : g.from ≡ g.depth
  pub tallies : Tallied c g
  pub result : yes c fr g.tallies b ≡ c.result

-- a success or error leaf
abbrev pub IsLeaf : What → Type 0
IsLeaf (the is) = ⊥
IsLeaf success = Unit {0}
IsLeaf failure = ⊥
IsLeaf (error κ tok) = Unit {0}

-- a leaf of the main tree that has a block is visited
pub record Leaf (c : World) (b : Bytes) (w : Words) (g : Go) : Type 0 where
  pub ins : In c b w g
  pub main : inner_in ins.fr ≡ false
  pub leaf : IsLeaf ins.x

-- all is visited
pub record Over (c : World) (b : Bytes) (g : Go) : Type 0 where
  pub counted : g.from ≡ g.depth
  pub tallies : Tallied c g
  pub result : going g.tallies b ≡ c.result

-- a limit is reached
pub record Stopped (c : World) (b : Bytes) (w : Words) (g : Go) : Type 0 where
  pub down : Down c b w g
  pub limit : g.depth ≡ g.stop

pub data Sim (c : World) (b : Bytes) (w : Words) (g : Go) : Type 0 where
  down : g.mode ≡ modes.Down → Down c b w g → Sim c b w g
  up : g.mode ≡ modes.Up → Up c b w g → Sim c b w g
  block : g.mode ≡ modes.Block → Leaf c b w g → Sim c b w g
  done : g.mode ≡ modes.Done → Over c b g → Sim c b w g
  stopped : g.mode ≡ modes.Stopped → Stopped c b w g → Sim c b w g
