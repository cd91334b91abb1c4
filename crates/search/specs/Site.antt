-- The tree as the walk knows it. A node knows its site: its place on the path, whether an inner tree there has given a value to a place
-- outside, and for each place without a value where it was bound. So an inner success leaf is judged in constant time. The law that this is
-- the specification's tree is in proofs/Sited.antt. Assumes nothing.
use Rattle.std.specs.Prelude.{ℕ, zero, suc, ◌+◌, ltb, eqb, ℤ, pos, ◌+ℤ◌}
use Rattle.specification.specs.Bytes.{pick}
use Rattle.specification.specs.Lines.{Declared}
use Rattle.specification.specs.Ast.{Formula, truth, and, or, imp, neg, eq, compare, ex, some, all, call}
use Rattle.specification.specs.Arithmetic.{no_value, undecided_inside, eq_z, count}
use Rattle.specification.specs.Place.{Place, local, put}
use Rattle.specification.specs.Value.{empty, full, allowed, Side, val, bare, err, pair_of, side}
use Rattle.specification.specs.Tree.{success_leaf, error_leaf, step, fork, Rest, check, compared, bounded, sons, denied, implied, enquire}
use Rattle.tables.specs.Ranges.{local_mark}
use Rattle.search.specs.States.{main_tree, given_tree, inner_root}

-- ---- sites

-- `depth`: how many nodes are above; `inner`: the register of that name; `marks`: for a local by the depth of the node that bound it, and 0 for
-- a cell, whose mark in the words tells its range
pub record Site : Type 0 where
  pub depth : ℕ
  pub inner : ℕ
  pub marks : Place → ℕ

abbrev pub site : ℕ → ℕ → (Place → ℕ) → Site
site d n m = record { depth = d; inner = n; marks = m }

-- the root of the main tree
abbrev pub root_site : Site
root_site = site 0 main_tree (λ p. 0)

-- a son
abbrev pub son_site : Site → Site
son_site s = site (suc s.depth) s.inner s.marks

-- the mark of a local that a node of this depth binds
abbrev pub bound_mark : ℕ → ℕ
bound_mark depth = local_mark + depth

-- below a binder of the local
abbrev pub bound_site : ℕ → Site → Site
bound_site l s = site (suc s.depth) s.inner (put s.marks (local l) (bound_mark s.depth))

-- the root of an inner tree: what is bound above it has a mark below its number
abbrev pub inner_site : Site → Site
inner_site s = site (suc s.depth) (s.depth + inner_root) s.marks

-- the register once a place with this mark has got a value: in an inner tree it tells of a place outside
abbrev pub after_given : ℕ → ℕ → ℕ
after_given mark inner = pick (ltb mark inner) given_tree inner

-- below an `eq` that gave the place a value
abbrev pub given_site : Place → Site → Site
given_site p s = site (suc s.depth) (after_given (s.marks p) s.inner) s.marks

-- ---- the tree from a site

-- the tree of the rest of a list, from a site
abbrev pub RestAt : Type 0
RestAt = Site → Rest

abbrev pub assign_at : Declared → Place → ℤ → RestAt → RestAt
assign_at D p v k s α = check (allowed D p v) (λ β. k (given_site p s) (put β p (full v))) α

unfoldable pub equate_at : Declared → ℕ → Side → Side → RestAt → RestAt
equate_at D tok (val x) (val y) k s α = check (eq_z x y) (k (son_site s)) α
equate_at D tok (val x) (bare q) k s α = assign_at D q x k s α
equate_at D tok (bare p) (val y) k s α = assign_at D p y k s α
equate_at D tok (bare p) (bare q) k s α = error_leaf no_value tok α
equate_at D tok (bare p) (err κ) k s α = error_leaf κ tok α
equate_at D tok (val x) (err κ) k s α = error_leaf κ tok α
equate_at D tok (err κ) y k s α = error_leaf κ tok α

unfoldable pub rounds_at : (RestAt → RestAt) → ℕ → RestAt → ℕ → ℤ → RestAt
rounds_at F l k zero v s α = step (k (son_site s) α)
rounds_at F l k (suc n) v s α = step (F (λ t β. rounds_at F l k n (v +ℤ pos 1) t β) (bound_site l s) (put α (local l) (full v)))

-- the empty list: one son, a success leaf unless a place outside has got a value
abbrev pub done_at : RestAt
done_at s α = step (pick (eqb s.inner given_tree) (error_leaf undecided_inside 0 α) (success_leaf α))

module _ (D : Declared) where
  unfoldable pub grow_at : Formula → RestAt → RestAt
  grow_at truth k s α = step (k (son_site s) α)
  grow_at (eq tok a b) k s α = step (equate_at D tok (side D α a) (side D α b) k s α)
  grow_at (compare tok r a b) k s α = step (compared tok r (pair_of (side D α a) (side D α b)) (k (son_site s)) α)
  grow_at (or F G) k s α = fork (grow_at F k (son_site s) α) (grow_at G k (son_site s) α)
  grow_at (and F G) k s α = step (grow_at F (λ t β. grow_at G k t β) (son_site s) α)
  grow_at (imp tok F G) k s α =
      enquire (λ β. grow_at F done_at (inner_site s) β) (λ v. implied tok v (λ β. grow_at G k (son_site s) β) (k (son_site s))) α
  grow_at (neg tok F) k s α = enquire (λ β. grow_at F done_at (inner_site s) β) (λ v. denied tok v (k (son_site s))) α
  grow_at (ex l F) k s α = step (grow_at F k (bound_site l s) (put α (local l) empty))
  grow_at (some tok l a b F) k s α =
      bounded tok (pair_of (side D α a) (side D α b))
      (λ x y β. sons x (count x y) (λ i. grow_at F k (bound_site l s) (put β (local l) (full (x +ℤ pos i))))) α
  grow_at (all tok l a b F) k s α =
      bounded tok (pair_of (side D α a) (side D α b)) (λ x y. rounds_at (λ k' t β. grow_at F k' t β) l k (count x y) x s) α
  grow_at (call K ts F) k s α = step (grow_at F k (son_site s) α)
