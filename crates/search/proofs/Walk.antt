-- The walk is the scan of the tree's visits, in the main tree and in an inner tree. So a run is a walk, and a walk may go on from an inner
-- tree by what it has seen there, in place of its verdict. Assumes nothing.
use Prim.Native.Nat.{ℕ, zero, suc}
use mathlib.Core.Path.{◌≡◌, refl, sym, ◌∙◌, ap}
use mathlib.Core.Bool.{Bool, true, false}
use mathlib.Core.List.{List, [], ◌∷◌}
use Rattle.specification.specs.declared.Setting.{Setting}
use Rattle.specification.specs.declared.Tallies.{Tallies}
use Rattle.specification.specs.Bytes.{Bytes}
use Rattle.specification.specs.Sheet.{Sheet}
use Rattle.specification.specs.Tree.{Tree, success_leaf, failure_leaf, error_leaf, step, fork, fan, ask, Verdict, succeeds, join, joined, verdict, tree_of}
use Rattle.specification.specs.Visits.{node, Visit, at, ◌then◌, each, inside, visits}
use Rattle.specification.specs.Run.{Conditions, conditions, tallies, Run, going, stopped}
use Rattle.specification.specs.Outcome.{start, root_of, visits_of, run_of}
use Rattle.search.specs.Walk.{Next, onto, flagged, gated, sons_from, within, walk}
use Rattle.search.proofs.Answers.{answered-visits}
use Rattle.search.proofs.Continuation.{after, seen, seen-nil, seen-node, seen-inside, after-fails, by_flags, through, through-nil, through-then, through-leaf, through-node, through-both}

-- ---- equal continuations

module _ (C : Conditions) where
  -- ---- the walk of a tree is the scan of its visits

  abbrev Scans : Bool → ℕ → Tree → Type 0
  Scans m d T =
      (y : Next) (k : Bool → Next) (e : Bool) → walk C m d T y k e ≡ through C (after m (verdict T) y k e) (seen m (visits d T))

  -- a node, where what follows its visit is known
  scans-node : (m : Bool) (d : ℕ) (k k' : Next) (vs : List Visit) →
      k ≡ through C k' (seen m vs) → gated C d k ≡ through C k' (seen m (at d node ∷ vs))
  scans-node m d k k' vs h = rw (seen-node, through-node, h)

  -- n sons from the i-th on
  scans-sons : (m : Bool) (d : ℕ) (f : ℕ → Tree) → ((j : ℕ) → Scans m d (f j)) → (n i : ℕ) (y : Next) (k : Bool → Next) (e : Bool) →
      sons_from C n i (λ j. walk C m d (f j) y) k e ≡
      through C (after m (joined n i (λ j. verdict (f j))) y k e) (seen m (each n i (λ j. visits d (f j))))
  unfolding sons_from joined each
  scans-sons m d f h zero i y k e = rw (after-fails, seen-nil, through-nil)
  scans-sons m d f h (suc n) i y k e =
      let others = sons_from C n (suc i) (λ j. walk C m d (f j) y) k in
      h i y others e ∙
      through-both C m (verdict (f i)) (joined n (suc i) (λ j. verdict (f j))) (visits d (f i)) (each n (suc i) (λ j. visits d (f j)))
      y k others e (answered-visits (f i) d) (scans-sons m d f h n (suc i) y k)

  -- an inner tree, and then what goes on by its verdict, which the walk knows by its flags
  scans-ask : (I : Tree) (d : ℕ) → Scans true d I → (K : Verdict → Next) →
      walk C true d I (K succeeds) (λ e. K (flagged e)) false ≡ through C (K (verdict I)) (inside (visits d I))
  scans-ask I d h K = h (K succeeds) (λ e. K (flagged e)) false ∙ ap (λ k. through C k (inside (visits d I))) (by_flags K (verdict I))

  scans : (m : Bool) (T : Tree) (d : ℕ) → Scans m d T
  unfolding within visits verdict inside
  scans true (success_leaf β) d y k e = rw (through-node, through-nil)
  scans true failure_leaf d y k e = rw (through-node, through-nil)
  scans true (error_leaf κ t β) d y k e = rw (through-node, through-nil)
  scans false (success_leaf β) d y k e = rw (through-leaf, through-nil)
  scans false failure_leaf d y k e = rw (through-leaf, through-nil)
  scans false (error_leaf κ t β) d y k e = rw (through-leaf, through-nil)
  scans m (step T) d y k e =
      scans-node m d (within C m d (step T) y k e) (after m (verdict T) y k e) (visits (suc d) T) (scans m T (suc d) y k e)
  scans m (fork T U) d y k e =
      let second = walk C m (suc d) U y k in
      scans-node m d (within C m d (fork T U) y k e) (after m (join (verdict T) (verdict U)) y k e)
      (visits (suc d) T then visits (suc d) U)
      (scans m T (suc d) y second e ∙
      through-both C m (verdict T) (verdict U) (visits (suc d) T) (visits (suc d) U) y k second e (answered-visits T (suc d))
      (scans m U (suc d) y k))
  scans m (fan x n f) d y k e =
      scans-node m d (within C m d (fan x n f) y k e) (after m (verdict (fan x n f)) y k e) (each n 0 (λ i. visits (suc d) (f i)))
      (scans-sons m (suc d) f (λ j. scans m (f j) (suc d)) n 0 y k e)
  scans m (ask I T) d y k e =
      scans-node m d (within C m d (ask I T) y k e) (after m (verdict T) y k e) (inside (visits (suc d) I) then visits (suc d) T)
      (scans-ask I (suc d) (scans true I (suc d)) (λ v. walk C m (suc d) T y k e) ∙
      rw (seen-inside, through-then, scans m T (suc d) y k e))

  module _ (d : ℕ) (T : Tree) (y : Next) (k : Bool → Next) (e : Bool) (t : Tallies) (w : Bytes) where
    pub walk-main : walk C false d T y k e t w ≡ through C (k e) (visits d T) t w
    walk-main = ap (λ r. r t w) (scans false T d y k e)

  -- the son of a node of `not` or `imp` may be chosen after its inner tree, by what was seen there
  pub within-ask : (I : Tree) (son : Verdict → Tree) (m : Bool) (d : ℕ) (y : Next) (k : Bool → Next) (e : Bool) (t : Tallies) (w : Bytes) →
      within C m d (ask I (son (verdict I))) y k e t w ≡
      walk C true (suc d) I (walk C m (suc d) (son succeeds) y k e) (λ e'. walk C m (suc d) (son (flagged e')) y k e) false t w
  unfolding within
  within-ask I son m d y k e t w =
      let h = scans true I (suc d) in
      let K : Verdict → Next = λ v. walk C m (suc d) (son v) y k e in
      ap (λ r. r t w) (scans-ask I (suc d) h (λ v. K (verdict I)) ∙ sym (scans-ask I (suc d) h K))

-- ---- a run is a walk

onto-going : (r : Run) → onto (λ t w. going t w) r ≡ r
onto-going (going t w) = refl
onto-going (stopped e t w) = refl

pub walk-run : (s : Sheet) (S : Setting) (size : ℕ) → run_of s S size ≡
    walk (conditions s.declared S size) false 1 (tree_of s.declared (s.formula ∷ []) (start s.given)) (λ t w. going t w) (λ e t w. going t w) false
    (tallies 0 0 0 0) []
unfolding run_of root_of visits_of through
walk-run s S size =
    let D = s.declared in
    let T = tree_of D (s.formula ∷ []) (start s.given) in
    sym (walk-main (conditions D S size) 1 T (λ t w. going t w) (λ e t w. going t w) false (tallies 0 0 0 0) [] ∙ onto-going (run_of s S size))
