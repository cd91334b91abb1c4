-- The tree of a list of formulas, clause by clause: the paper, Definition 4 by its numbers, and Definition 8. A conjunction
-- φ ∧ ψ there is a list here that begins with φ; the ways to end in an error are document 01's, and what the inner trees of 5 and 6 count as
-- success is document 02's, Two. Assumes nothing.
use Prim.Native.Nat.{ℕ, suc}
use mathlib.Core.Path.{◌≡◌, refl}
use mathlib.Core.Bool.{true, false}
use mathlib.Core.List.{List, [], ◌∷◌}
use lib.IntN.{ℤ, pos, ◌+ℤ◌}
use Rattle.specification.specs.Lines.{Declared}
use Rattle.specification.specs.Ast.{Rel, Term, Formula, truth, and, or, imp, neg, eq, compare, ex, some, all}
use Rattle.specification.specs.Arithmetic.{no_value, undecided_inside, eq_z, test, count}
use Rattle.specification.specs.Place.{Place, local, put}
use Rattle.specification.specs.Value.{empty, full, Valuation, val, bare, err, faulty, pair_of, side}
use Rattle.specification.specs.Outside.{gave}
use Rattle.specification.specs.Tree.{success_leaf, failure_leaf, error_leaf, step, fork, fan, ask, succeeds, fails, undecided, verdict, Rest, check, assign, equate, compared, bounded, sons, rounds, enquire, done_inside, grow, tree_of}
use Rattle.specification.proofs.Laws.Negation.{inner_tree}

module _ (D : Declared) (α : Valuation) where
  -- 1: the empty conjunction
  pub nil-clause : tree_of D [] α ≡ step (success_leaf α)
  unfolding tree_of
  nil-clause = refl

  -- in the inner tree of F asked for under α: by whether a place outside F got a value
  module _ (F : Formula) (β : Valuation) where
    pub inner-nil-none : gave D F α β ≡ false → done_inside D F α β ≡ step (success_leaf β)
    unfolding done_inside
    inner-nil-none e = rw e

    pub inner-nil-given : gave D F α β ≡ true → done_inside D F α β ≡ step (error_leaf undecided_inside 0 β)
    unfolding done_inside
    inner-nil-given e = rw e

  module _ (Fs : List Formula) where
    pub truth-clause : tree_of D (truth ∷ Fs) α ≡ step (tree_of D Fs α)
    unfolding tree_of grow
    truth-clause = refl

    -- ---- 2: atoms

    module _ (tok : ℕ) (s t : Term) where
      -- closed: go on if true, a failure leaf if false
      module _ (x y : ℤ) (e : side D α s ≡ val x) (f : side D α t ≡ val y) where
        pub eq-closed : tree_of D (eq tok s t ∷ Fs) α ≡ step (check (eq_z x y) (tree_of D Fs) α)
        unfolding tree_of grow equate
        eq-closed = rw (e, f)

        pub compare-closed : (r : Rel) → tree_of D (compare tok r s t ∷ Fs) α ≡ step (check (test r x y) (tree_of D Fs) α)
        unfolding tree_of grow compared pair_of
        compare-closed r = rw (e, f)

      -- an assignment, which is a failure leaf where the place may not have the value; and the symmetrical case
      pub eq-assigns-left :
          (p : Place) (y : ℤ) → side D α s ≡ bare p → side D α t ≡ val y → tree_of D (eq tok s t ∷ Fs) α ≡ step (assign D p y (tree_of D Fs) α)
      unfolding tree_of grow equate
      eq-assigns-left p y e f = rw (e, f)

      pub eq-assigns-right :
          (x : ℤ) (q : Place) → side D α s ≡ val x → side D α t ≡ bare q → tree_of D (eq tok s t ∷ Fs) α ≡ step (assign D q x (tree_of D Fs) α)
      unfolding tree_of grow equate
      eq-assigns-right x q e f = rw (e, f)

      -- otherwise an error leaf; in `eq` a bare side gives way to the other side's error
      pub compare-error :
          (r : Rel) (κ : ℕ) → pair_of (side D α s) (side D α t) ≡ faulty κ → tree_of D (compare tok r s t ∷ Fs) α ≡ step (error_leaf κ tok α)
      unfolding tree_of grow compared
      compare-error r κ e = rw e

      pub eq-bare : (p q : Place) → side D α s ≡ bare p → side D α t ≡ bare q → tree_of D (eq tok s t ∷ Fs) α ≡ step (error_leaf no_value tok α)
      unfolding tree_of grow equate
      eq-bare p q e f = rw (e, f)

      pub eq-error-left : (κ : ℕ) → side D α s ≡ err κ → tree_of D (eq tok s t ∷ Fs) α ≡ step (error_leaf κ tok α)
      unfolding tree_of grow equate
      eq-error-left κ e = rw e

      pub eq-error-right : (x : ℤ) (κ : ℕ) → side D α s ≡ val x → side D α t ≡ err κ → tree_of D (eq tok s t ∷ Fs) α ≡ step (error_leaf κ tok α)
      unfolding tree_of grow equate
      eq-error-right x κ e f = rw (e, f)

      pub eq-error-over-bare :
          (p : Place) (κ : ℕ) → side D α s ≡ bare p → side D α t ≡ err κ → tree_of D (eq tok s t ∷ Fs) α ≡ step (error_leaf κ tok α)
      unfolding tree_of grow equate
      eq-error-over-bare p κ e f = rw (e, f)

    -- ---- 3 and 4: `or` and `and`

    pub or-clause : (F G : Formula) → tree_of D (or F G ∷ Fs) α ≡ fork (tree_of D (F ∷ Fs) α) (tree_of D (G ∷ Fs) α)
    unfolding tree_of grow
    or-clause F G = refl

    pub and-clause : (F G : Formula) → tree_of D (and F G ∷ Fs) α ≡ step (tree_of D (F ∷ G ∷ Fs) α)
    unfolding tree_of grow
    and-clause F G = refl

    -- ---- 5 and 6: `imp` and `not`; the inner tree of F stands at the node, before its son

    module _ (tok : ℕ) (F : Formula) where
      module _ (v : verdict (inner_tree D F α) ≡ fails) where
        pub imp-fails : (G : Formula) → tree_of D (imp tok F G ∷ Fs) α ≡ ask (inner_tree D F α) (tree_of D Fs α)
        unfolding tree_of grow enquire
        imp-fails G = rw v

        pub neg-fails : tree_of D (neg tok F ∷ Fs) α ≡ ask (inner_tree D F α) (tree_of D Fs α)
        unfolding tree_of grow enquire
        neg-fails = rw v

      module _ (v : verdict (inner_tree D F α) ≡ succeeds) where
        pub imp-succeeds : (G : Formula) → tree_of D (imp tok F G ∷ Fs) α ≡ ask (inner_tree D F α) (tree_of D (G ∷ Fs) α)
        unfolding tree_of grow enquire
        imp-succeeds G = rw v

        pub neg-succeeds : tree_of D (neg tok F ∷ Fs) α ≡ ask (inner_tree D F α) failure_leaf
        unfolding tree_of grow enquire
        neg-succeeds = rw v

      module _ (v : verdict (inner_tree D F α) ≡ undecided) where
        pub imp-undecided : (G : Formula) → tree_of D (imp tok F G ∷ Fs) α ≡ ask (inner_tree D F α) (error_leaf undecided_inside tok α)
        unfolding tree_of grow enquire
        imp-undecided G = rw v

        pub neg-undecided : tree_of D (neg tok F ∷ Fs) α ≡ ask (inner_tree D F α) (error_leaf undecided_inside tok α)
        unfolding tree_of grow enquire
        neg-undecided = rw v

    -- ---- 7: `ex`; its local is fresh as it has no value

    pub ex-clause : (l : ℕ) (F : Formula) → tree_of D (ex l F ∷ Fs) α ≡ step (tree_of D (F ∷ Fs) (put α (local l) empty))
    unfolding tree_of grow
    ex-clause l F = refl

    -- ---- Definition 8: `some`, with a son for each value at one node, and `all`

    module _ (tok l : ℕ) (a b : Term) (F : Formula) where
      -- the list that begins with the `all` over n values, the lowest v
      abbrev pub all_over : ℕ → ℤ → Rest
      all_over n v = rounds (grow D F) l (tree_of D Fs) n v

      module _ (κ : ℕ) (e : pair_of (side D α a) (side D α b) ≡ faulty κ) where
        pub some-error : tree_of D (some tok l a b F ∷ Fs) α ≡ step (error_leaf κ tok α)
        unfolding tree_of grow bounded
        some-error = rw e

        pub all-error : tree_of D (all tok l a b F ∷ Fs) α ≡ step (error_leaf κ tok α)
        unfolding tree_of grow bounded
        all-error = rw e

      module _ (x y : ℤ) (e : side D α a ≡ val x) (f : side D α b ≡ val y) where
        pub some-none : count x y ≡ 0 → tree_of D (some tok l a b F ∷ Fs) α ≡ step failure_leaf
        unfolding tree_of grow bounded pair_of sons
        some-none h = rw (e, f, h)

        pub some-values :
            (n : ℕ) → count x y ≡ suc n →
            tree_of D (some tok l a b F ∷ Fs) α ≡ fan x (suc n) (λ i. tree_of D (F ∷ Fs) (put α (local l) (full (x +ℤ pos i))))
        unfolding tree_of grow bounded pair_of sons
        some-values n h = rw (e, f, h)

        pub all-clause : tree_of D (all tok l a b F ∷ Fs) α ≡ all_over (count x y) x α
        unfolding tree_of grow bounded pair_of
        all-clause = rw (e, f)

      pub all_none : (v : ℤ) → all_over 0 v α ≡ step (tree_of D Fs α)
      unfolding rounds
      all_none v = refl

      -- F for the lowest value, then the same `all` over the values left
      pub all-values : (n : ℕ) (v : ℤ) → all_over (suc n) v α ≡ step (grow D F (all_over n (v +ℤ pos 1)) (put α (local l) (full v)))
      unfolding rounds
      all-values n v = refl
