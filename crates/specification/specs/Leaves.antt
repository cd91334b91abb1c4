-- The leaves of a tree, from left to right, and the blocks of its answers and errors. An inner tree is no part of the tree that asks it, so
-- its leaves are not listed. No visit and no limit is named here. Assumes nothing.
use Rattle.std.specs.Prelude.{ℕ, zero, suc, Bool, true, false, List, [], ◌∷◌, ◌++◌}
use Rattle.specification.specs.Bytes.{pick}
use Rattle.specification.specs.Lines.{Declared}
use Rattle.specification.specs.Value.{Valuation}
use Rattle.specification.specs.Tree.{Tree, success_leaf, failure_leaf, error_leaf, step, fork, fan, ask}
use Rattle.specification.specs.Listing.{answer_head, error_head, Block, block_of}

-- a success leaf is an answer; an error has its kind and its token
pub data Leaf : Type 0 where
  answer : Valuation → Leaf
  error : ℕ → ℕ → Valuation → Leaf
  fail : Leaf

-- those of n sons, from the i-th on
unfoldable pub son_leaves : ℕ → ℕ → (ℕ → List Leaf) → List Leaf
son_leaves zero i f = []
son_leaves (suc n) i f = f i ++ son_leaves n (suc i) f

unfoldable pub leaves : Tree → List Leaf
leaves (success_leaf β) = answer β ∷ []
leaves failure_leaf = fail ∷ []
leaves (error_leaf κ t β) = error κ t β ∷ []
leaves (step T) = leaves T
leaves (fork T U) = leaves T ++ leaves U
leaves (fan x n f) = son_leaves n 0 (λ i. leaves (f i))
leaves (ask I T) = leaves T

-- ---- how many there are of each

abbrev pub is_answer : Leaf → Bool
is_answer (answer β) = true
is_answer (error κ t β) = false
is_answer fail = false

abbrev pub is_error : Leaf → Bool
is_error (answer β) = false
is_error (error κ t β) = true
is_error fail = false

abbrev pub is_fail : Leaf → Bool
is_fail (answer β) = false
is_fail (error κ t β) = false
is_fail fail = true

unfoldable pub how_many : (Leaf → Bool) → List Leaf → ℕ
how_many f [] = 0
how_many f (l ∷ ls) = pick (f l) (suc (how_many f ls)) (how_many f ls)

-- ---- their blocks

-- in order, after so many answers and errors: N counts its kind from 1; a failure has none
unfoldable pub blocks : Declared → ℕ → ℕ → List Leaf → List Block
blocks D a e [] = []
blocks D a e (answer β ∷ ls) = block_of D (answer_head (suc a)) β ∷ blocks D (suc a) e ls
blocks D a e (error κ t β ∷ ls) = block_of D (error_head (suc e) κ t) β ∷ blocks D a (suc e) ls
blocks D a e (fail ∷ ls) = blocks D a e ls
