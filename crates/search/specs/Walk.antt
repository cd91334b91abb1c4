-- The walk with continuations: what a machine with a stack does, visit by visit. The law that it is the scan of the tree's visits is in
-- proofs/Walk.antt. Assumes nothing.
use Rattle.std.specs.Prelude.{ℕ, zero, suc, Bool, true, false, ltb, eqb}
use Rattle.specification.specs.declared.Tallies.{Tallies}
use Rattle.specification.specs.Bytes.{Bytes, pick}
use Rattle.specification.specs.Tree.{Tree, success_leaf, failure_leaf, error_leaf, step, fork, fan, ask, Verdict, fails, undecided}
use Rattle.specification.specs.Leaves.{Leaf, answer, error, fail}
use Rattle.specification.specs.Visits as visited
use Rattle.specification.specs.Run.{Conditions, add_node, spent, path, Run, going, stopped, arrive}

-- what comes next, from the tallies and the bytes written
abbrev pub Next : Type 0
Next = Tallies → Bytes → Run

abbrev pub onto : Next → Run → Run
onto k (going t w) = k t w
onto k (stopped s t w) = stopped s t w

-- the verdict on an inner tree without a success leaf, by whether an error leaf was seen
abbrev pub flagged : Bool → Verdict
flagged true = undecided
flagged false = fails

module _ (C : Conditions) where
  -- a visit at the end of a path of d: the two limits, then the node is counted
  unfoldable pub gated : ℕ → Next → Next
  gated d k t w =
      let r = k (add_node t) w in
      pick (eqb t.nodes C.setting.budget) (stopped spent t w) (pick (ltb C.setting.path d) (stopped path t w) r)

  -- a leaf of the main tree, its visit counted, and then k
  unfoldable pub leaf : Leaf → Next → Next
  leaf l k t w = onto k (arrive C (visited.leaf l) t w)

  -- n sons from the i-th on
  unfoldable pub sons_from : ℕ → ℕ → (ℕ → (Bool → Next) → Bool → Next) → (Bool → Next) → Bool → Next
  sons_from zero i g k e t w = k e t w
  sons_from (suc n) i g k e t w = g i (λ e'. sons_from n (suc i) g k e') e t w

  -- a tree whose root's visit at depth d is counted: y after a success leaf of an inner tree, else k with whether an error leaf was seen
  -- in the present inner tree. The first Bool: whether this is an inner tree
  unfoldable pub within : Bool → ℕ → Tree → Next → (Bool → Next) → Bool → Next
  within true d (success_leaf β) y k e t w = y t w
  within true d failure_leaf y k e t w = k e t w
  within true d (error_leaf κ tok β) y k e t w = k true t w
  within false d (success_leaf β) y k e t w = leaf (answer β) (k e) t w
  within false d failure_leaf y k e t w = leaf fail (k e) t w
  within false d (error_leaf κ tok β) y k e t w = leaf (error κ tok β) (k e) t w
  within m d (step T) y k e t w = gated (suc d) (within m (suc d) T y k e) t w
  within m d (fork T U) y k e t w = gated (suc d) (within m (suc d) T y (λ e'. gated (suc d) (within m (suc d) U y k e')) e) t w
  within m d (fan x n f) y k e t w = sons_from n 0 (λ i k' e'. gated (suc d) (within m (suc d) (f i) y k' e')) k e t w
  within m d (ask I T) y k e t w =
      gated (suc d)
      (within true (suc d) I (gated (suc d) (within m (suc d) T y k e)) (λ e'. gated (suc d) (within m (suc d) T y k e)) false)
      t w

  -- a tree whose root is to be visited at depth d
  abbrev pub walk : Bool → ℕ → Tree → Next → (Bool → Next) → Bool → Next
  walk m d T y k e = gated d (within m d T y k e)
