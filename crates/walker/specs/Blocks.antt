-- The block of a leaf: its head, the registers once it is passed or where there is no room for it, and what is written. Assumes nothing.
use Rattle.std.specs.Prelude.{ℕ, suc, ◌+◌, ◌≤◌, ◌<◌, ◌≡◌, ◌++◌, length, drop, eqb}
use Rattle.specification.specs.declared.Tallies.{Tallies}
use Rattle.specification.specs.Bytes.{Bytes, pick}
use Rattle.specification.specs.Run.{add_node, add_answer, add_error}
use Rattle.tables.specs.Leaves.{success_place, leaves_end, kind_at, token_at}
use Rattle.sheet.specs.Tables.{Words}
use Rattle.listing.specs.declared.Head.{Head}
use Rattle.listing.specs.declared.Head.TheVariants.{Answer, Error}
use Rattle.search.specs.declared.Go.{Go}
use Rattle.search.specs.declared.Mode.TheVariants as modes
use Rattle.search.specs.Path.{World}
use Rattle.search.specs.Sim.{Leaf}
use Rattle.search.specs.Registers.{tallied, leaf_go, rise_go, max_word}
use Rattle.walker.specs.declared.State.{State}
use Rattle.walker.specs.declared.Task.{Task}
use Rattle.walker.specs.Steps.{Visits}
use Rattle.walker.specs.Walks.{Goes}

-- ---- heads and registers

-- the tallies have room for one leaf more
pub record LeafDue (g : Go) : Type 0 where
  pub visits : Visits g
  pub leaves : g.tallies.answers + g.tallies.errors + g.tallies.fails < max_word

pub record HeadDue (w : Words) (g : Go) : Type 0 where
  pub leaf : LeafDue g
  pub size : leaves_end ≤ length w

-- a success leaf has an answer, another leaf an error
unfoldable pub head_due : Words → Go → Head
head_due w g = pick (eqb g.due success_place) (Answer (suc g.tallies.answers)) (Error (suc g.tallies.errors) (kind_at w) (token_at w))

-- the leaf's visit is counted
abbrev pub visited_leaf : Go → Tallies
visited_leaf g = add_node (tallied g)

unfoldable pub passed_tallies : Go → Tallies
passed_tallies g = pick (eqb g.due success_place) (add_answer (visited_leaf g)) (add_error (visited_leaf g))

-- and so is the leaf; going up is due
abbrev pub passed_go : Go → Go
passed_go g = rise_go (leaf_go g modes.Down g.bad (passed_tallies g))

-- there is no room for its block
abbrev pub full_go : Go → Go
full_go g = leaf_go g modes.Full g.bad (visited_leaf g)

-- ---- the output

-- the output o, lent as h, holds the n bytes b written, and beyond them what it held
pub record Output (h o : Bytes) (n : ℕ) (b : Bytes) : Type 0 where
  pub count : n ≡ length b
  pub inside : n ≤ length h
  pub bytes : o ≡ b ++ drop n h

-- the world of this task, where the output was lent as h
pub record Fixed (c : World) (t : Task) (h : Bytes) : Type 0 where
  pub setting : c.setting ≡ t.setting
  pub size : c.size ≡ length h
  pub scalar_count : t.scalars ≡ c.declared.scalars
  pub array_count : t.arrays ≡ length c.declared.arrays

-- ---- a block

-- in some world a block is due
pub record BlockDue (w : Words) (o : Bytes) (s : State) (t : Task) : Type 0 where
  pub c : World
  pub b : Bytes
  pub held : Bytes
  pub fixed : Fixed c t held
  pub out : Output held o s.written b
  pub leaf : Leaf c b w s.go

-- what it leads to
pub record Wrote (c : World) (w : Words) (h o : Bytes) (s : State) : Type 0 where
  pub b : Bytes
  pub out : Output h o s.written b
  pub goes : Goes c b w s

pub record Blocked (w : Words) (o o' : Bytes) (s s' : State) (t : Task) : Type 0 where
  pub wrote : (c : World) (b h : Bytes) → Fixed c t h → Output h o s.written b → Leaf c b w s.go → Wrote c w h o' s'
  pub nodes : (tallied s'.go).nodes ≡ suc (tallied s.go).nodes
  pub size : length o' ≡ length o
