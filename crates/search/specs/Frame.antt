-- What is left of a walk: the items still to hold, and for each path node what is left to do there. A formula stands here with its
-- parameters, beside the environment that says what they stand for. Assumes nothing.
use Rattle.std.specs.Prelude.{ℕ, suc, ◌+◌, Bool, true, false, List, [], ◌∷◌, length, ℤ, pos, ◌+ℤ◌}
use Rattle.specification.specs.Lines.{Declared}
use Rattle.specification.specs.Ast.{Formula}
use Rattle.specification.specs.Place.{Place, local, put}
use Rattle.specification.specs.Value.{Slot, full, Valuation}
use Rattle.specification.specs.Tree.{Tree, success_leaf, failure_leaf, error_leaf, Verdict, succeeds, denied, implied}
use Rattle.specification.specs.Run.{Conditions, going}
use Rattle.tables.specs.Layout.{path_at}
use Rattle.terms.specs.Environment.{Environment}
use Rattle.search.specs.Walk.{Next, flagged, sons_from, walk}
use Rattle.search.specs.Site.{Site, root_site, son_site, bound_site, given_site, inner_site, rounds_at, done_at, grow_at}
use Rattle.search.specs.Stands.{filled}
use Rattle.search.specs.Store.{Call, Store, root_store, last_store, call_store}

-- ---- items: a formula, or an `all` over the n values from v on

pub data Item : Type 0 where
  form : Environment → Formula → Item
  again : Environment → ℕ → Formula → ℕ → ℤ → Item

module _ (D : Declared) where
  -- the tree of a list of items, from a site
  unfoldable pub tree_items : List Item → Site → Valuation → Tree
  tree_items [] s α = done_at s α
  tree_items (form E F ∷ is) s α = grow_at D (filled E F) (λ t β. tree_items is t β) s α
  tree_items (again E l F n v ∷ is) s α = rounds_at (λ k t β. grow_at D (filled E F) k t β) l (λ t β. tree_items is t β) n v s α

-- what is to be visited: a node with its list, or a leaf
pub data What : Type 0 where
  the : List Item → What
  success failure : What
  error : ℕ → ℕ → What

abbrev pub tree_what : Declared → What → Site → Valuation → Tree
tree_what D (the is) s α = tree_items D is s α
tree_what D success s α = success_leaf α
tree_what D failure s α = failure_leaf
tree_what D (error κ tok) s α = error_leaf κ tok α

-- ---- frames: a path node, with the valuation there

-- what a verdict is asked for: `not`, or `imp` with its second part
pub data Question : Type 0 where
  denying : Question
  implying : Environment → Formula → Question

pub data Frame : Type 0 where
  -- nothing is left to do or to take back
  pass : Valuation → Frame
  -- the second part of an `or`, before these items
  other : Environment → Formula → List Item → Valuation → Frame
  -- a local that `ex` or a later round of `all` bound, with its slot
  bound : ℕ → Slot → Valuation → Frame
  -- a local that `all` bound first, with its value, up to the word of its last value
  began : ℕ → ℤ → ℕ → Valuation → Frame
  -- a place that `eq` gave a value
  given : Place → ℤ → Valuation → Frame
  -- `some` for the local from a lower bound on: the present value's index, how many come after it, its formula before these items
  range : ℕ → ℤ → ℕ → ℕ → Environment → Formula → List Item → Valuation → Frame
  -- an inner tree that token asks for, before these items, and whether the tree around it has had an error leaf
  asks : ℕ → Question → List Item → Valuation → Bool → Frame
  -- a call
  called : Call → Valuation → Frame

-- the valuation at a node, and the one that its present son has
abbrev pub here : Frame → Valuation
here (pass α) = α
here (other E G is α) = α
here (bound l s α) = α
here (began l v h α) = α
here (given p v α) = α
here (range l x i n E F is α) = α
here (asks tok q is α e) = α
here (called C α) = α

abbrev pub below : Frame → Valuation
below (pass α) = α
below (other E G is α) = α
below (bound l s α) = put α (local l) s
below (began l v h α) = put α (local l) (full v)
below (given p v α) = put α p (full v)
below (range l x i n E F is α) = put α (local l) (full (x +ℤ pos i))
below (asks tok q is α e) = α
below (called C α) = α

abbrev pub len : List Frame → ℕ
len [] = 0
len (f ∷ fr) = suc (len fr)

-- the words of a node's record
abbrev pub size_of : Frame → ℕ
size_of (pass α) = 0
size_of (other E G is α) = 2
size_of (bound l s α) = 3
size_of (began l v h α) = 4
size_of (given p v α) = 3
size_of (range l x i n E F is α) = 5
size_of (asks tok q is α e) = 4
size_of (called C α) = length C.level.arguments + 4

-- where the records end
abbrev pub top_of : List Frame → ℕ
top_of [] = path_at
top_of (f ∷ fr) = top_of fr + size_of f

-- whether the sons of the topmost node stand in an inner tree
abbrev pub inner_in : List Frame → Bool
inner_in [] = false
inner_in (pass α ∷ fr) = inner_in fr
inner_in (other E G is α ∷ fr) = inner_in fr
inner_in (bound l s α ∷ fr) = inner_in fr
inner_in (began l v h α ∷ fr) = inner_in fr
inner_in (given p v α ∷ fr) = inner_in fr
inner_in (range l x i n E F is α ∷ fr) = inner_in fr
inner_in (asks tok q is α e ∷ fr) = true
inner_in (called C α ∷ fr) = inner_in fr

-- the site of those sons
abbrev pub site_in : List Frame → Site
site_in [] = root_site
site_in (pass α ∷ fr) = son_site (site_in fr)
site_in (other E G is α ∷ fr) = son_site (site_in fr)
site_in (bound l s α ∷ fr) = bound_site l (site_in fr)
site_in (began l v h α ∷ fr) = bound_site l (site_in fr)
site_in (given p v α ∷ fr) = given_site p (site_in fr)
site_in (range l x i n E F is α ∷ fr) = bound_site l (site_in fr)
site_in (asks tok q is α e ∷ fr) = inner_site (site_in fr)
site_in (called C α ∷ fr) = son_site (site_in fr)

-- and their store
abbrev pub store_in : List Frame → Store
store_in [] = root_store
store_in (pass α ∷ fr) = store_in fr
store_in (other E G is α ∷ fr) = store_in fr
store_in (bound l s α ∷ fr) = store_in fr
store_in (began l v h α ∷ fr) = last_store l h (store_in fr)
store_in (given p v α ∷ fr) = store_in fr
store_in (range l x i n E F is α ∷ fr) = store_in fr
store_in (asks tok q is α e ∷ fr) = store_in fr
store_in (called C α ∷ fr) = call_store C (store_in fr)

-- the son that a verdict leads to, from a site
abbrev pub son_of : Declared → ℕ → Question → List Item → Verdict → Site → Valuation → Tree
son_of D tok denying is v s α = denied tok v (λ β. tree_items D is s β) α
son_of D tok (implying E G) is v s α = implied tok v (λ β. tree_items D (form E G ∷ is) s β) (λ β. tree_items D is s β) α

-- ---- what is left once the present son of the topmost node is finished: after a success leaf of an inner tree, and otherwise

module _ (C : Conditions) where
  -- of one frame at a site, whose sons have paths of d, in an inner tree or not
  abbrev pub yes_of : Frame → Site → ℕ → Bool → Next → (Bool → Next) → Next
  yes_of (pass α) u d m y k = y
  yes_of (other E G is α) u d m y k = y
  yes_of (bound l s α) u d m y k = y
  yes_of (began l v h α) u d m y k = y
  yes_of (given p v α) u d m y k = y
  yes_of (range l x i n E F is α) u d m y k = y
  yes_of (asks tok q is α e) u d m y k = walk C m d (son_of C.declared tok q is succeeds (son_site u) α) y k e
  yes_of (called K α) u d m y k = y

  abbrev pub rest_of : Frame → Site → ℕ → Bool → Next → (Bool → Next) → Bool → Next
  rest_of (pass α) u d m y k = k
  rest_of (other E G is α) u d m y k = λ e. walk C m d (tree_items C.declared (form E G ∷ is) (son_site u) α) y k e
  rest_of (bound l s α) u d m y k = k
  rest_of (began l v h α) u d m y k = k
  rest_of (given p v α) u d m y k = k
  rest_of (range l x i n E F is α) u d m y k =
      λ e. sons_from C n (suc i)
      (λ j k' e'. walk C m d (tree_items C.declared (form E F ∷ is) (bound_site l u) (put α (local l) (full (x +ℤ pos j)))) y k' e') k e
  rest_of (asks tok q is α e) u d m y k = λ e'. walk C m d (son_of C.declared tok q is (flagged e') (son_site u) α) y k e
  rest_of (called K α) u d m y k = k

  abbrev mutual
    pub resume_yes : List Frame → Next
    resume_yes [] = λ t w. going t w
    resume_yes (f ∷ fr) = yes_of f (site_in fr) (suc (suc (len fr))) (inner_in fr) (resume_yes fr) (resume fr)

    pub resume : List Frame → Bool → Next
    resume [] = λ e t w. going t w
    resume (f ∷ fr) = rest_of f (site_in fr) (suc (suc (len fr))) (inner_in fr) (resume_yes fr) (resume fr)
