-- No block names a value that its cell may not have: in every valuation of the tree all values are such, those of answers and of errors alike.
-- Assumes nothing.
use Prim.Native.Nat.{ℕ, zero, suc, ◌+◌, ◌<◌}
use native.Mathlib.Omega.{arith}
use mathlib.Core.Path.{◌≡◌, refl}
use mathlib.Core.Bool.{Bool, true, false}
use mathlib.Core.List.{List, [], ◌∷◌}
use lib.Dec.{T}
use lib.IntN.{ℤ, pos, ◌+ℤ◌}
use Rattle.specification.specs.Lists.{Each}
use Rattle.specification.specs.Number.{in32}
use Rattle.specification.specs.Lines.{Declared, cell_of, in_range}
use Rattle.specification.specs.Ast.{Formula, truth, and, or, imp, neg, eq, compare, ex, some, all, call}
use Rattle.specification.specs.Arithmetic.{eq_z, test, count}
use Rattle.specification.specs.Sheet.{Sheet}
use Rattle.specification.specs.Place.{Place, cell, local, put}
use Rattle.specification.specs.Value.{empty, full, Valuation, allowed, Side, val, bare, err, Pair, values, faulty, pair_of, side}
use Rattle.specification.specs.WellFormed.{Scope, enter, nowhere, Ok, Valid, WellFormed}
use Rattle.specification.specs.Tree.{Tree, success_leaf, failure_leaf, error_leaf, step, fork, fan, ask, Rest, check, assign, equate, compared, bounded, sons, rounds, Verdict, succeeds, fails, undecided, verdict, denied, implied, enquire, done_inside, grow, tree_of}
use Rattle.specification.specs.Listing.{cell_names, valued, block_of}
use Rattle.specification.specs.Leaves.{Leaf, answer, error, fail, leaves, son_leaves, blocks}
use Rattle.specification.specs.Outcome.{start, root_of}
use Rattle.specification.specs.InRanges.{InRanges}
use Rattle.specification.proofs.Laws.Lists.{each_map, each-++}
use Rattle.specification.proofs.Laws.Cells.{valued-only}
use Rattle.specification.proofs.Laws.Start.{start-valid}
use Rattle.specification.proofs.Laws.Place.{valid-put}
use Rattle.specification.proofs.Laws.Range.{in32-between, range-in, FromOn, on-each, on-first, on-later}
use Rattle.specification.proofs.Laws.Value.{sane-val}
use Rattle.specification.proofs.Laws.Every.{pair_values}

-- ---- the valuations of a tree's answers and errors

unfoldable Leafs : (Valuation → Type 0) → Tree → Type 0
Leafs P (success_leaf β) = P β
Leafs P failure_leaf = Unit {0}
Leafs P (error_leaf κ t β) = P β
Leafs P (step T) = Leafs P T
Leafs P (fork T U) = Leafs P T × Leafs P U
Leafs P (fan x n f) = (i : ℕ) → i < n → Leafs P (f i)
Leafs P (ask I T) = Leafs P T

module _ (D : Declared) where
  abbrev Of : Tree → Type 0
  Of T = Leafs (Valid D) T

  -- whatever comes after F
  abbrev Stays : Formula → Type 0
  Stays F = (S : Scope) → Ok D S F → (k : Rest) → ((β : Valuation) → Valid D β → Of (k β)) → (α : Valuation) → Valid D α → Of (grow D F k α)

  -- ---- atoms

  check-of : (b : Bool) (k : Rest) (α : Valuation) → (T b → Of (k α)) → Of (check b k α)
  unfolding Leafs
  check-of true k α h = h tt
  check-of false k α h = tt

  module _ (k : Rest) (go : (β : Valuation) → Valid D β → Of (k β)) (α : Valuation) (v : Valid D α) where
    assign-of : (p : Place) (z : ℤ) → Of (assign D p z k α)
    assign-of p z = check-of (allowed D p z) (λ β. k (put β p (full z))) α (λ t. go (put α p (full z)) (valid-put D α p (full z) v t))

    equate-of : (tok : ℕ) (x y : Side) → Of (equate D tok x y k α)
    unfolding Leafs equate
    equate-of tok (val x) (val y) = check-of (eq_z x y) k α (λ t. go α v)
    equate-of tok (val x) (bare q) = assign-of q x
    equate-of tok (val x) (err κ) = v
    equate-of tok (bare p) (val y) = assign-of p y
    equate-of tok (bare p) (bare q) = v
    equate-of tok (bare p) (err κ) = v
    equate-of tok (err κ) y = v

    -- ---- the son that a verdict leads to

    denied-of : (tok : ℕ) (w : Verdict) → Of (denied tok w k α)
    unfolding Leafs
    denied-of tok succeeds = tt
    denied-of tok fails = go α v
    denied-of tok undecided = v

    implied-of : (tok : ℕ) (g : Rest) → Of (g α) → (w : Verdict) → Of (implied tok w g k α)
    unfolding Leafs
    implied-of tok g h succeeds = h
    implied-of tok g h fails = go α v
    implied-of tok g h undecided = v

  -- ---- bounds

  bounded_of : (tok : ℕ) (s t : Side) (k : ℤ → ℤ → Rest) (α : Valuation) → Valid D α → ((x y : ℤ) → s ≡ val x → t ≡ val y → Of (k x y α)) →
      Of (bounded tok (pair_of s t) k α)
  unfolding Leafs bounded
  bounded_of tok s t k α v h = go (pair_of s t) (λ x y e. let u = pair_values s t x y e in h x y u.0 u.1)
    where
      go : (p : Pair) → ((x y : ℤ) → p ≡ values x y → Of (k x y α)) → Of (bounded tok p k α)
      go (values x y) h = h x y refl
      go (faulty κ) h = v

  sons-of : (x : ℤ) (n : ℕ) (f : ℕ → Tree) → ((i : ℕ) → i < n → Of (f i)) → Of (sons x n f)
  unfolding Leafs sons
  sons-of x zero f h = tt
  sons-of x (suc n) f h = h

  rounds-of : (l : ℕ) (F : Rest → Rest) → ((k : Rest) → ((β : Valuation) → Valid D β → Of (k β)) → (β : Valuation) → Valid D β → Of (F k β)) →
      (k : Rest) → ((β : Valuation) → Valid D β → Of (k β)) → (n : ℕ) (x : ℤ) → FromOn (λ z. T (in32 z)) n x → (α : Valuation) → Valid D α → Of (rounds F l k n x α)
  unfolding Leafs rounds
  rounds-of l F f k go zero x r α v = go α v
  rounds-of l F f k go (suc n) x r α v =
      f (rounds F l k n (x +ℤ pos 1)) (rounds-of l F f k go n (x +ℤ pos 1) (on-later (λ z. T (in32 z)) n x r)) (put α (local l) (full x))
      (valid-put D α (local l) (full x) v (on-first (λ z. T (in32 z)) n x r))

  -- ---- every formula

  stays : (F : Formula) → Stays F
  unfolding Leafs grow Ok enquire compared
  stays truth S o k go α v = go α v
  stays (and F G) S o k go α v = stays F S o.0 (grow D G k) (stays G S o.1 k go) α v
  stays (or F G) S o k go α v = (stays F S o.0 k go α v, stays G S o.1 k go α v)
  stays (imp tok F G) S o k go α v = implied-of k go α v tok (grow D G k) (stays G S o.1 k go α v) (verdict (grow D F (done_inside D F α) α))
  stays (neg tok F) S o k go α v = denied-of k go α v tok (verdict (grow D F (done_inside D F α) α))
  stays (eq tok s t) S o k go α v = equate-of k go α v tok (side D α s) (side D α t)
  stays (compare tok r s t) S o k go α v = by (pair_of (side D α s) (side D α t))
    where
      by : (p : Pair) → Of (compared tok r p k α)
      by (values x y) = check-of (test r x y) k α (λ t. go α v)
      by (faulty κ) = v
  stays (ex l F) S o k go α v = stays F (enter S l) o.2 k go (put α (local l) empty) (valid-put D α (local l) empty v tt)
  stays (some tok l a b F) S (oa, ob, d, fresh, oF) k go α v =
      bounded_of tok (side D α a) (side D α b) (λ x y β. sons x (count x y) (λ i. grow D F k (put β (local l) (full (x +ℤ pos i))))) α v (λ x y e f.
      sons-of x (count x y) (λ i. grow D F k (put α (local l) (full (x +ℤ pos i)))) (λ i h.
      let r = range-in x y i h in
      stays F (enter S l) oF k go (put α (local l) (full (x +ℤ pos i)))
      (valid-put D α (local l) (full (x +ℤ pos i)) v
      (in32-between x y (x +ℤ pos i) (sane-val D S α v a oa x e) (sane-val D S α v b ob y f) r.0 r.1))))
  stays (all tok l a b F) S (oa, ob, d, fresh, oF) k go α v =
      bounded_of tok (side D α a) (side D α b) (λ x y. rounds (λ k' β. grow D F k' β) l k (count x y) x) α v (λ x y e f.
      rounds-of l (λ k' β. grow D F k' β) (stays F (enter S l) oF) k go (count x y) x
      (on-each (λ z. T (in32 z)) x y (λ z. in32-between x y z (sane-val D S α v a oa x e) (sane-val D S α v b ob y f))) α v)
  stays (call K ts F) S o k go α v = stays F S o.2 k go α v

  -- ---- and of their blocks

  abbrev IfListed : Leaf → Type 0
  IfListed (answer β) = Valid D β
  IfListed (error κ t β) = Valid D β
  IfListed fail = Unit {0}

  each-sons : (n i : ℕ) (f : ℕ → List Leaf) → ((j : ℕ) → j < i + n → Each IfListed (f j)) → Each IfListed (son_leaves n i f)
  unfolding Each son_leaves
  each-sons zero i f h = tt
  each-sons (suc n) i f h =
      each-++ IfListed (f i) (son_leaves n (suc i) f) (h i (omega arith)) (each-sons n (suc i) f (λ j l. h j (omega arith)))

  leafs-each : (T : Tree) → Of T → Each IfListed (leaves T)
  unfolding Each Leafs leaves
  leafs-each (success_leaf β) h = (h, tt)
  leafs-each failure_leaf h = (tt, tt)
  leafs-each (error_leaf κ t β) h = (h, tt)
  leafs-each (step T) h = leafs-each T h
  leafs-each (fork T U) h = each-++ IfListed (leaves T) (leaves U) (leafs-each T h.0) (leafs-each U h.1)
  leafs-each (fan x n f) h = each-sons n 0 (λ i. leaves (f i)) (λ j l. leafs-each (f j) (h j (omega arith)))
  leafs-each (ask I T) h = leafs-each T h

  cells_in : (β : Valuation) → Valid D β → Each (λ n. T (in_range D (cell_of D n.name) n.value)) (valued D β (cell_names D))
  cells_in β v = each_map (λ n h. v (cell (cell_of D n.name)) n.value h.1) (valued D β (cell_names D)) (valued-only D β)

  blocks-in : (ls : List Leaf) (a e : ℕ) → Each IfListed ls → InRanges D (blocks D a e ls)
  unfolding Each blocks block_of
  blocks-in [] a e h = tt
  blocks-in (answer β ∷ ls) a e h = (cells_in β h.0, blocks-in ls (suc a) e h.1)
  blocks-in (error κ t β ∷ ls) a e h = (cells_in β h.0, blocks-in ls a (suc e) h.1)
  blocks-in (fail ∷ ls) a e h = blocks-in ls a e h.1

-- the blocks of all the tree's answers and errors
pub in_ranges : (s : Sheet) → WellFormed s → InRanges s.declared (blocks s.declared 0 0 (leaves (root_of s)))
unfolding root_of tree_of Leafs
in_ranges s wf =
    let D = s.declared in
    let α = start s.given in
    blocks-in D (leaves (tree_of D (s.formula ∷ []) α)) 0 0
    (leafs-each D (tree_of D (s.formula ∷ []) α) (stays D s.formula nowhere wf.formula (tree_of D []) (λ β v. v) α (start-valid D s.given wf.values)))
