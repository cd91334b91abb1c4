-- A run: the visits read from the left, under path limit, budget, skip and output size (document 01, "The walk and the listing").
-- Assumes nothing.
use Rattle.std.specs.Prelude.{ℕ, suc, ◌+◌, List, [], ◌∷◌, ◌++◌, length, leb, ltb, eqb}
use Rattle.specification.specs.declared.Setting.{Setting}
use Rattle.specification.specs.declared.Tallies.{Tallies}
use Rattle.specification.specs.Bytes.{Bytes, pick}
use Rattle.specification.specs.Lines.{Declared}
use Rattle.specification.specs.Leaves.{answer, error, fail}
use Rattle.specification.specs.Visits.{Event, node, leaf, Visit}
use Rattle.specification.specs.Listing.{answer_head, error_head, block_of, block_text}

-- ---- tallies

abbrev pub tallies : ℕ → ℕ → ℕ → ℕ → Tallies
tallies n a e f = record { nodes = n; answers = a; errors = e; fails = f }

abbrev pub add_node : Tallies → Tallies
add_node t = tallies (suc t.nodes) t.answers t.errors t.fails

abbrev pub add_answer : Tallies → Tallies
add_answer t = tallies t.nodes (suc t.answers) t.errors t.fails

abbrev pub add_error : Tallies → Tallies
add_error t = tallies t.nodes t.answers (suc t.errors) t.fails

abbrev pub add_fail : Tallies → Tallies
add_fail t = tallies t.nodes t.answers t.errors (suc t.fails)

-- the blocks that they count: a skip counts answers and errors alike
abbrev pub block_count : Tallies → ℕ
block_count t = t.answers + t.errors

-- ---- a run

pub data Stop : Type 0 where
  spent path output : Stop

-- on its way, or stopped by a limit: its tallies and the bytes written
pub data Run : Type 0 where
  going : Tallies → Bytes → Run
  stopped : Stop → Tallies → Bytes → Run

-- what a run is held to: the sheet's declarations, the setting, and the size of the output
pub record Conditions : Type 0 where
  pub declared : Declared
  pub setting : Setting
  pub size : ℕ

-- path limit, budget and skip
abbrev pub setting : ℕ → ℕ → ℕ → Setting
setting limit budget skip = record { path = limit; budget = budget; skip = skip }

abbrev pub conditions : Declared → Setting → ℕ → Conditions
conditions D S size = record { declared = D; setting = S; size = size }

module _ (C : Conditions) where
  -- a leaf with a block, with the tallies before and after it: skipped, written, or stopped for want of room
  unfoldable pub block : Tallies → Tallies → Bytes → Bytes → Run
  block t t' w b =
      pick (ltb (block_count t) C.setting.skip) (going t' w)
      (pick (leb (length w + length b) C.size) (going t' (w ++ b)) (stopped output t w))

  -- what a visited node or leaf adds; N counts its kind from 1, skipped blocks included
  unfoldable pub arrive : Event → Tallies → Bytes → Run
  arrive node t w = going t w
  arrive (leaf fail) t w = going (add_fail t) w
  arrive (leaf (answer β)) t w = block t (add_answer t) w (block_text (block_of C.declared (answer_head (suc t.answers)) β))
  arrive (leaf (error kind token β)) t w = block t (add_error t) w (block_text (block_of C.declared (error_head (suc t.errors) kind token) β))

  -- a visit, and the two limits before it
  unfoldable pub visit : Visit → Tallies → Bytes → Run
  visit v t w =
      let r = arrive v.event (add_node t) w in
      pick (eqb t.nodes C.setting.budget) (stopped spent t w) (pick (ltb C.setting.path v.depth) (stopped path t w) r)

  abbrev pub onward : (Run → Run) → Visit → Run → Run
  onward k v (going t w) = k (visit v t w)
  onward k v (stopped e t w) = stopped e t w

  -- the visits one after the other
  unfoldable pub scan : Run → List Visit → Run
  scan s [] = s
  scan s (v ∷ vs) = onward (λ s'. scan s' vs) v s
