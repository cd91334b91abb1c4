-- The registers, and the values that the functions of src/registers.rt of the crate walker make. Assumes nothing.
use Rattle.std.specs.Prelude.{ℕ, ◌+◌, ◌-◌, ◌≤◌, ◌<◌, min, ◌≡◌}
use Rattle.specification.specs.declared.Tallies.{Tallies}
use Rattle.specification.specs.declared.Setting.{Setting}
use Rattle.specification.specs.Run.{tallies, add_answer, add_error, add_fail}
use Rattle.tables.specs.Layout.{path_at}
use Rattle.tables.specs.Leaves.{rise_place}
use Rattle.search.specs.declared.Errors.{Errors}
use Rattle.search.specs.declared.Errors.TheVariants.{Unseen}
use Rattle.search.specs.declared.Go.{Go}
use Rattle.search.specs.declared.Mode.{Mode}
use Rattle.search.specs.declared.Tally.{Tally}
use Rattle.search.specs.declared.Tally.TheVariants.{Answer, Error, Failure}
use Rattle.search.specs.declared.Mode.TheVariants as modes
use Rattle.search.specs.Path.{World}
use Rattle.search.specs.States.{main_tree}

-- the tallies with the visits since the last leaf
abbrev pub tallied : Go → Tallies
tallied g = record { nodes = g.tallies.nodes + (g.depth - g.from); answers = g.tallies.answers; errors = g.tallies.errors; fails = g.tallies.fails }

-- the tallies stay within words
pub record Tallied (c : World) (g : Go) : Type 0 where
  pub fits : c.setting.budget < 4294967296
  pub budget : g.tallies.nodes ≤ c.setting.budget
  pub leaves : g.tallies.answers + g.tallies.errors + g.tallies.fails ≤ g.tallies.nodes

-- and the limit
pub record Gauge (c : World) (g : Go) : Type 0 where
  pub tallies : Tallied c g
  pub begun : g.from ≤ g.depth
  pub below : g.depth ≤ g.stop
  pub stop : g.stop ≡ min c.setting.path (g.from + (c.setting.budget - g.tallies.nodes))

-- ---- registers

abbrev pub down_go : Go → ℕ → ℕ → ℕ → Errors → Go
down_go g t top inner bad = record {
  mode = modes.Down;
  due = t;
  depth = g.depth + 1;
  stop = g.stop;
  top = top;
  from = g.from;
  inner = inner;
  bad = bad;
  tallies = g.tallies;
}

abbrev pub to_go : Go → ℕ → Go
to_go g t = record {
  mode = g.mode;
  due = t;
  depth = g.depth;
  stop = g.stop;
  top = g.top;
  from = g.from;
  inner = g.inner;
  bad = g.bad;
  tallies = g.tallies;
}

-- another mode
abbrev pub out_go : Go → Mode → Go
out_go g mode = record {
  mode = mode;
  due = g.due;
  depth = g.depth;
  stop = g.stop;
  top = g.top;
  from = g.from;
  inner = g.inner;
  bad = g.bad;
  tallies = g.tallies;
}

-- the topmost record is gone
abbrev pub drop_go : Go → ℕ → ℕ → Go
drop_go g top inner = record {
  mode = g.mode;
  due = g.due;
  depth = g.depth;
  stop = g.stop;
  top = top;
  from = g.from;
  inner = inner;
  bad = g.bad;
  tallies = g.tallies;
}

-- a visit is due, all visits counted
abbrev pub resume_go : Go → ℕ → ℕ → ℕ → ℕ → Errors → Setting → Go
resume_go g t depth top inner bad setting = record {
  mode = modes.Down;
  due = t;
  depth = depth;
  stop = min setting.path (depth + (setting.budget - g.tallies.nodes));
  top = top;
  from = depth;
  inner = inner;
  bad = bad;
  tallies = g.tallies;
}

-- a leaf was visited
abbrev pub leaf_go : Go → Mode → Errors → Tallies → Go
leaf_go g mode bad t = record {
  mode = mode;
  due = g.due;
  depth = g.depth + 1;
  stop = g.stop;
  top = g.top;
  from = g.depth + 1;
  inner = g.inner;
  bad = bad;
  tallies = t;
}

-- going up is due, no limit is near
abbrev pub rise_go : Go → Go
rise_go g = record {
  mode = modes.Down;
  due = rise_place;
  depth = g.depth;
  stop = 4294967295;
  top = g.top;
  from = g.from;
  inner = g.inner;
  bad = g.bad;
  tallies = g.tallies;
}

abbrev pub start_go : ℕ → Setting → Go
start_go t setting = record {
  mode = modes.Down;
  due = t;
  depth = 0;
  stop = min setting.path setting.budget;
  top = path_at;
  from = 0;
  inner = main_tree;
  bad = Unseen;
  tallies = tallies 0 0 0 0;
}

-- ---- tallies

abbrev pub max_word : ℕ
max_word = 4294967295

-- one leaf more of a kind
abbrev pub counted : Tallies → Tally → Tallies
counted t Answer = add_answer t
counted t Error = add_error t
counted t Failure = add_fail t

-- so many visits more
abbrev pub visited_tallies : Tallies → ℕ → Tallies
visited_tallies t visits = tallies (t.nodes + visits) t.answers t.errors t.fails
