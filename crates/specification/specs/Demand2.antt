-- The second demand, as a statement over one place of the sheet's tree: what a run has listed, the way it ended and its four tallies are
-- those of the tree read left to right up to there. A place is the number of visits before it. It names no state of a run: each end
-- has a condition on a place, and a run ends at the first place where one holds. The theorem is in proofs/Laws/Demand2.antt.
-- Assumes nothing.
use Rattle.std.specs.Prelude.{ℕ, suc, ◌+◌, ◌≤◌, ◌<◌, ◌≡◌, List, [], ◌∷◌, length, take, drop}
use Rattle.specification.specs.declared.Setting.{Setting}
use Rattle.specification.specs.declared.Tallies.{Tallies}
use Rattle.specification.specs.declared.End.{End}
use Rattle.specification.specs.declared.End.TheVariants.{Done, Spent, Path, Output}
use Rattle.specification.specs.Sheet.{Sheet}
use Rattle.specification.specs.Listing.{Block, listing_text}
use Rattle.specification.specs.Leaves.{Leaf, leaves, is_answer, is_error, is_fail, how_many, blocks}
use Rattle.specification.specs.Visits.{Event, node, leaf, Visit}
use Rattle.specification.specs.Outcome.{root_of, visits_of}

-- ---- what lies before a place

abbrev pub is_leaf : Event → ℕ
is_leaf node = 0
is_leaf (leaf l) = 1

-- how many of these visits are leaves of the main tree
unfoldable pub leaf_count : List Visit → ℕ
leaf_count [] = 0
leaf_count (v ∷ vs) = is_leaf v.event + leaf_count vs

-- the blocks past the skipped ones
abbrev pub past : ℕ → List Block → List Block
past skip bs = drop skip bs

module _ (s : Sheet) where
  -- the leaves before the place: so many of the tree's, from the left
  unfoldable pub leaves_before : ℕ → List Leaf
  leaves_before n = take (leaf_count (take n (visits_of s))) (leaves (root_of s))

  -- the blocks of the answers and errors among them, past the skipped ones
  unfoldable pub listed_before : ℕ → ℕ → List Block
  listed_before skip n = past skip (blocks s.declared 0 0 (leaves_before n))

  -- this visit comes next
  abbrev pub Next : ℕ → Visit → Type 0
  Next n v = (later : List Visit) × (drop n (visits_of s) ≡ v ∷ later)

  -- ---- the condition of each end

  module _ (S : Setting) (size : ℕ) where
    -- all visited; or, before the next visit, the budget reached, else the path limit passed; or its block does not fit
    abbrev pub Ends : End → ℕ → Type 0
    Ends Done n = n ≡ length (visits_of s)
    Ends Spent n = (v : Visit) × Next n v × (n ≡ S.budget)
    Ends Path n = (v : Visit) × Next n v × (¬ (n ≡ S.budget)) × (S.path < v.depth)
    Ends Output n =
        (v : Visit) × Next n v × (¬ (n ≡ S.budget)) × (v.depth ≤ S.path) × (size < length (listing_text (listed_before S.skip (suc n))))

-- the visits that a run ended at a place has made: the leaf whose block does not fit is in the nodes only
abbrev pub visited : End → ℕ → ℕ
visited Done n = n
visited Spent n = n
visited Path n = n
visited Output n = suc n

-- ---- the demand

pub record ReadLeftToRight (s : Sheet) (S : Setting) (size : ℕ) (end : End) (t : Tallies) (listed : List Block) : Type 0 where
  -- where the run ended
  pub place : ℕ
  -- every answer leaf and every error leaf, past those skipped and up to that place, is listed in that order, and no other
  pub blocks : listed ≡ listed_before s S.skip place
  -- the end is the one whose condition holds there, and no condition holds before
  pub ends : Ends s S size end place
  pub nowhere_before : (n : ℕ) → n < place → (e : End) → ¬ Ends s S size e n
  -- the tallies are the nodes and leaves visited, and the answers, errors and failures among the leaves before that place
  pub nodes : t.nodes ≡ visited end place
  pub answers : t.answers ≡ how_many is_answer (leaves_before s place)
  pub errors : t.errors ≡ how_many is_error (leaves_before s place)
  pub fails : t.fails ≡ how_many is_fail (leaves_before s place)
