-- The visits of a tree: nodes and leaves in preorder, each with the length of the path to it. An inner tree comes after its `not` or `imp`
-- node, on that node's path, and stops at its first success leaf. Assumes nothing.
use Rattle.std.specs.Prelude.{ℕ, zero, suc, List, [], ◌∷◌}
use Rattle.specification.specs.Tree.{Tree, success_leaf, failure_leaf, error_leaf, step, fork, fan, ask}
use Rattle.specification.specs.Leaves.{Leaf, answer, error, fail}

-- a node (in an inner tree a leaf too), or a leaf of the main tree
pub data Event : Type 0 where
  node : Event
  leaf : Leaf → Event

pub record Visit : Type 0 where
  pub depth : ℕ
  pub event : Event

abbrev pub at : ℕ → Event → Visit
at d e = record { depth = d; event = e }

-- one list and then another, each part computed when it is read
infixr 20 ◌then◌
unfoldable pub ◌then◌ : List Visit → List Visit → List Visit
◌then◌ [] ys = ys
◌then◌ (x ∷ xs) ys = let r = xs then ys in x ∷ r

-- n lists, from the i-th on
unfoldable pub each : ℕ → ℕ → (ℕ → List Visit) → List Visit
each zero i f = []
each (suc n) i f = let r = each n (suc i) f in f i then r

-- a visit in an inner tree counts as a node only, and a success leaf is the last
abbrev pub inside_then : ℕ → Event → List Visit → List Visit
inside_then d node vs = at d node ∷ vs
inside_then d (leaf fail) vs = at d node ∷ vs
inside_then d (leaf (error κ t β)) vs = at d node ∷ vs
inside_then d (leaf (answer β)) vs = at d node ∷ []

unfoldable pub inside : List Visit → List Visit
inside [] = []
inside (v ∷ vs) = let r = inside vs in inside_then v.depth v.event r

unfoldable pub visits : ℕ → Tree → List Visit
visits d (success_leaf β) = at d (leaf (answer β)) ∷ []
visits d failure_leaf = at d (leaf fail) ∷ []
visits d (error_leaf κ t β) = at d (leaf (error κ t β)) ∷ []
visits d (step T) = let r = visits (suc d) T in at d node ∷ r
visits d (fork T U) = let u = visits (suc d) U in let r = visits (suc d) T then u in at d node ∷ r
visits d (fan x n f) = let r = each n 0 (λ i. visits (suc d) (f i)) in at d node ∷ r
visits d (ask I T) = let u = visits (suc d) T in let r = inside (visits (suc d) I) then u in at d node ∷ r
