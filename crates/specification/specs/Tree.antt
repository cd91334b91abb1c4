-- The computation tree (the paper, Definition 4, with the bounded quantifiers of 1.4.4): one clause for each case of document 01,
-- "The tree". A node is a list of formulas still to hold and a valuation; the first formula decides. `grow F k α` is the tree of a list
-- that begins with F, where k gives the tree of the rest, so the definition is structural in F. Assumes nothing.
use Rattle.std.specs.Prelude.{ℕ, zero, suc, Bool, true, false, List, [], ◌∷◌, ℤ, pos, ◌+ℤ◌}
use Rattle.specification.specs.Bytes.{pick}
use Rattle.specification.specs.Lines.{Declared}
use Rattle.specification.specs.Ast.{Rel, Formula, truth, and, or, imp, neg, eq, compare, ex, some, all, call}
use Rattle.specification.specs.Arithmetic.{no_value, undecided_inside, eq_z, test, count}
use Rattle.specification.specs.Place.{Place, local, put}
use Rattle.specification.specs.Value.{empty, full, Valuation, allowed, Side, val, bare, err, Pair, values, faulty, pair_of, side}
use Rattle.specification.specs.Outside.{gave}

-- ---- trees

-- a success leaf has its valuation; an error leaf its kind, its token and the valuation it was met in
pub data Tree : Type 0 where
  success_leaf : Valuation → Tree
  failure_leaf : Tree
  error_leaf : ℕ → ℕ → Valuation → Tree
  -- a node with one son, with two; a node of `some`, with its lowest value and n sons by their numbers, one for each value from there on;
  -- a node of `not` or `imp`, with its inner tree and its son
  step : Tree → Tree
  fork : Tree → Tree → Tree
  fan : ℤ → ℕ → (ℕ → Tree) → Tree
  ask : Tree → Tree → Tree

-- ---- the verdict on an inner tree: a success leaf in it; failure leaves only; otherwise

pub data Verdict : Type 0 where
  succeeds fails undecided : Verdict

-- of a tree's parts together
abbrev pub join : Verdict → Verdict → Verdict
join succeeds w = succeeds
join fails w = w
join undecided succeeds = succeeds
join undecided fails = undecided
join undecided undecided = undecided

-- of n sons from the i-th on
unfoldable pub joined : ℕ → ℕ → (ℕ → Verdict) → Verdict
joined zero i f = fails
joined (suc n) i f = let w = joined n (suc i) f in join (f i) w

unfoldable pub verdict : Tree → Verdict
verdict (success_leaf β) = succeeds
verdict failure_leaf = fails
verdict (error_leaf κ t β) = undecided
verdict (step T) = verdict T
verdict (fork T U) = let w = verdict U in join (verdict T) w
verdict (fan x n f) = joined n 0 (λ i. verdict (f i))
verdict (ask I T) = verdict T

-- ---- what a node leads to

-- the tree of the rest of a list, from a valuation
abbrev pub Rest : Type 0
Rest = Valuation → Tree

-- ---- atoms

-- go on, or a failure leaf
abbrev pub check : Bool → Rest → Rest
check true k α = k α
check false k α = failure_leaf

-- a place gets a value, or a failure leaf where it may not have it
abbrev pub assign : Declared → Place → ℤ → Rest → Rest
assign D p v k α = check (allowed D p v) (λ β. k (put β p (full v))) α

-- `eq`: a bare side raises nothing if the other side has an error of its own; two bare sides are kind 1
unfoldable pub equate : Declared → ℕ → Side → Side → Rest → Rest
equate D tok (val x) (val y) k α = check (eq_z x y) k α
equate D tok (val x) (bare q) k α = assign D q x k α
equate D tok (bare p) (val y) k α = assign D p y k α
equate D tok (bare p) (bare q) k α = error_leaf no_value tok α
equate D tok (bare p) (err κ) k α = error_leaf κ tok α
equate D tok (val x) (err κ) k α = error_leaf κ tok α
equate D tok (err κ) y k α = error_leaf κ tok α

-- the atoms that compare
unfoldable pub compared : ℕ → Rel → Pair → Rest → Rest
compared tok r (values x y) k α = check (test r x y) k α
compared tok r (faulty κ) k α = error_leaf κ tok α

-- ---- bounded quantifiers

-- bounds with values, or the quantifier's node with an error leaf as its son
unfoldable pub bounded : ℕ → Pair → (ℤ → ℤ → Rest) → Rest
bounded tok (values x y) k α = k x y α
bounded tok (faulty κ) k α = step (error_leaf κ tok α)

-- `some`: a son for each of n values, the lowest x; an empty range gives a failure leaf
unfoldable pub sons : ℤ → ℕ → (ℕ → Tree) → Tree
sons x zero f = step failure_leaf
sons x (suc n) f = fan x (suc n) f

-- `all` with n values left, the lowest v: a son that begins with F for v, then the same `all` over the values left, then the rest
unfoldable pub rounds : (Rest → Rest) → ℕ → Rest → ℕ → ℤ → Rest
rounds F l k zero v α = let T = k α in step T
rounds F l k (suc n) v α =
    let T = F (λ β. rounds F l k n (v +ℤ pos 1) β) (put α (local l) (full v)) in step T

-- ---- `not` and `imp`

abbrev pub denied : ℕ → Verdict → Rest → Rest
denied tok succeeds k α = failure_leaf
denied tok fails k α = k α
denied tok undecided k α = error_leaf undecided_inside tok α

abbrev pub implied : ℕ → Verdict → Rest → Rest → Rest
implied tok succeeds g k α = g α
implied tok fails g k α = k α
implied tok undecided g k α = error_leaf undecided_inside tok α

-- a node with an inner tree, and the son that the verdict on it leads to
unfoldable pub enquire : Rest → (Verdict → Rest) → Rest
enquire inner next α = let I = inner α in let T = next (verdict I) α in ask I T

-- ---- the tree

-- the empty list: one son, a success leaf
abbrev pub done : Rest
done α = step (success_leaf α)

-- the empty list in the inner tree of F that is asked for under α: one son, a success leaf if no place outside F got a value. Otherwise the leaf
-- leaves the verdict open, as an error leaf does; leaves of inner trees are never listed, so its token is of no account
unfoldable pub done_inside : Declared → Formula → Valuation → Rest
done_inside D F α β = step (pick (gave D F α β) (error_leaf undecided_inside 0 β) (success_leaf β))

module _ (D : Declared) where
  unfoldable pub grow : Formula → Rest → Rest
  grow truth k α = let T = k α in step T
  grow (eq tok s t) k α = let T = equate D tok (side D α s) (side D α t) k α in step T
  grow (compare tok r s t) k α = let T = compared tok r (pair_of (side D α s) (side D α t)) k α in step T
  grow (or F G) k α = let T = grow F k α in let U = grow G k α in fork T U
  grow (and F G) k α = let T = grow F (λ β. grow G k β) α in step T
  grow (imp tok F G) k α = enquire (λ β. grow F (done_inside D F α) β) (λ v. implied tok v (λ β. grow G k β) k) α
  grow (neg tok F) k α = enquire (λ β. grow F (done_inside D F α) β) (λ v. denied tok v k) α
  grow (ex l F) k α = let T = grow F k (put α (local l) empty) in step T
  grow (some tok l a b F) k α =
      bounded tok (pair_of (side D α a) (side D α b))
      (λ x y β. sons x (count x y) (λ i. grow F k (put β (local l) (full (x +ℤ pos i))))) α
  grow (all tok l a b F) k α =
      bounded tok (pair_of (side D α a) (side D α b)) (λ x y. rounds (λ k' β. grow F k' β) l k (count x y) x) α
  grow (call K ts F) k α = let T = grow F k α in step T

  unfoldable pub tree_of : List Formula → Rest
  tree_of [] α = done α
  tree_of (F ∷ Fs) α = grow F (λ β. tree_of Fs β) α
