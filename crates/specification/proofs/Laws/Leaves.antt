-- The leaves among a tree's visits are the tree's leaves, and what holds of a tree's leaves holds of their blocks. Assumes nothing.
use Prim.Native.Nat.{ℕ, zero, suc, ◌+◌, ◌≤◌, ◌<◌}
use native.Mathlib.Omega.{arith}
use native.Mathlib.Nat.{eq-or-lt_of_le}
use mathlib.Core.Path.{◌≡◌, refl, sym, ◌∙◌, ap, subst}
use mathlib.Core.Logic.{◌⊎◌, inl, inr}
use mathlib.Core.List.{List, [], ◌∷◌, ◌++◌, append_assoc}
use lib.ListN.{length, take}
use Rattle.specification.specs.Lists.{Each, Some}
use Rattle.specification.specs.Lines.{Declared}
use Rattle.specification.specs.Value.{Valuation}
use Rattle.specification.specs.Tree.{Tree, success_leaf, failure_leaf, error_leaf, step, fork, fan, ask}
use Rattle.specification.specs.Listing.{Block, cell_names, valued, block_of}
use Rattle.specification.specs.Leaves.{Leaf, answer, error, fail, son_leaves, leaves, blocks}
use Rattle.specification.specs.Visits.{Event, node, leaf, Visit, ◌then◌, each, inside_then, inside, visits}
use Rattle.specification.specs.Demand2.{is_leaf, leaf_count}
use Rattle.specification.specs.Demand3.{IsAnswer}
use Rattle.specification.proofs.Laws.Scope.{Every, Any}
use Rattle.specification.proofs.Laws.Lists.{each-++, some-++}

-- ---- the leaves among visits

abbrev pub leaf_of : Event → List Leaf
leaf_of node = []
leaf_of (leaf l) = l ∷ []

unfoldable pub leaves_in : List Visit → List Leaf
leaves_in [] = []
leaves_in (v ∷ vs) = leaf_of v.event ++ leaves_in vs

pub leaves_in-++ : (xs ys : List Visit) → leaves_in (xs ++ ys) ≡ leaves_in xs ++ leaves_in ys
unfolding leaves_in
leaves_in-++ [] ys = refl
leaves_in-++ (x ∷ xs) ys = ap (leaf_of x.event ++◌) (leaves_in-++ xs ys) ∙ sym (append_assoc (leaf_of x.event) (leaves_in xs) (leaves_in ys))

leaves_in-then : (xs ys : List Visit) → leaves_in (xs then ys) ≡ leaves_in xs ++ leaves_in ys
unfolding leaves_in ◌then◌
leaves_in-then [] ys = refl
leaves_in-then (x ∷ xs) ys = ap (leaf_of x.event ++◌) (leaves_in-then xs ys) ∙ sym (append_assoc (leaf_of x.event) (leaves_in xs) (leaves_in ys))

leaves_in-each : (n i : ℕ) (f : ℕ → List Visit) (g : ℕ → List Leaf) → ((j : ℕ) → leaves_in (f j) ≡ g j) → leaves_in (each n i f) ≡ son_leaves n i g
unfolding leaves_in each son_leaves
leaves_in-each zero i f g h = refl
leaves_in-each (suc n) i f g h = rw (leaves_in-then (f i) (each n (suc i) f), h i, leaves_in-each n (suc i) f g h)

-- no visit in an inner tree is a leaf of the main tree
leaves_in-inside : (vs : List Visit) → leaves_in (inside vs) ≡ []
unfolding leaves_in inside
leaves_in-inside [] = refl
leaves_in-inside (v ∷ vs) = go v.event (leaves_in-inside vs)
  where
    go : (e : Event) → leaves_in (inside vs) ≡ [] → leaves_in (inside_then v.depth e (inside vs)) ≡ []
    go node h = h
    go (leaf fail) h = h
    go (leaf (answer β)) h = refl
    go (leaf (error κ t β)) h = h

pub leaves_in-visits : (T : Tree) (d : ℕ) → leaves_in (visits d T) ≡ leaves T
unfolding leaves_in visits leaves
leaves_in-visits (success_leaf β) d = refl
leaves_in-visits failure_leaf d = refl
leaves_in-visits (error_leaf κ t β) d = refl
leaves_in-visits (step T) d = leaves_in-visits T (suc d)
leaves_in-visits (fork T U) d =
    rw (leaves_in-then (visits (suc d) T) (visits (suc d) U), leaves_in-visits T (suc d), leaves_in-visits U (suc d))
leaves_in-visits (fan x n f) d = leaves_in-each n 0 (λ i. visits (suc d) (f i)) (λ i. leaves (f i)) (λ j. leaves_in-visits (f j) (suc d))
leaves_in-visits (ask I T) d =
    rw (leaves_in-then (inside (visits (suc d) I)) (visits (suc d) T), leaves_in-inside (visits (suc d) I), leaves_in-visits T (suc d))

pub leaf_count-is : (vs : List Visit) → length (leaves_in vs) ≡ leaf_count vs
unfolding leaves_in leaf_count
leaf_count-is [] = refl
leaf_count-is (v ∷ vs) = go v.event (leaf_count-is vs)
  where
    go : (e : Event) → length (leaves_in vs) ≡ leaf_count vs → length (leaf_of e ++ leaves_in vs) ≡ is_leaf e + leaf_count vs
    go node h = omega arith
    go (leaf l) h = omega arith

-- ---- what holds of the leaves

module _ (P : Valuation → Type 0) where
  -- P of the valuation where the leaf is an answer; the leaf is an answer or an error, and P of its valuation
  abbrev IfAnswer : Leaf → Type 0
  IfAnswer (answer β) = P β
  IfAnswer (error κ t β) = Unit {0}
  IfAnswer fail = Unit {0}

  abbrev IsListed : Leaf → Type 0
  IsListed (answer β) = P β
  IsListed (error κ t β) = P β
  IsListed fail = ⊥

  each-sons : (n i : ℕ) (f : ℕ → List Leaf) → ((j : ℕ) → j < i + n → Each IfAnswer (f j)) → Each IfAnswer (son_leaves n i f)
  unfolding Each son_leaves
  each-sons zero i f h = tt
  each-sons (suc n) i f h =
      each-++ IfAnswer (f i) (son_leaves n (suc i) f) (h i (omega arith)) (each-sons n (suc i) f (λ j l. h j (omega arith)))

  some-sons : (n i j : ℕ) (f : ℕ → List Leaf) → i ≤ j → j < i + n → Some IsListed (f j) → Some IsListed (son_leaves n i f)
  unfolding Some son_leaves
  some-sons zero i j f l m h = absurd (omega arith)
  some-sons (suc n) i j f l m h =
      some-++ IsListed (f i) (son_leaves n (suc i) f) (go (eq-or-lt_of_le l) (λ l'. some-sons n (suc i) j f l' (omega arith) h))
    where
      go : (i ≡ j) ⊎ (i < j) → (suc i ≤ j → Some IsListed (son_leaves n (suc i) f)) → Some IsListed (f i) ⊎ Some IsListed (son_leaves n (suc i) f)
      go (inl e) k = inl (subst (λ x. Some IsListed (f x)) (sym e) h)
      go (inr m') k = inr (k m')

  every-leaves : (T : Tree) → Every P T → Each IfAnswer (leaves T)
  unfolding Each Every leaves
  every-leaves (success_leaf β) h = (h, tt)
  every-leaves failure_leaf h = (tt, tt)
  every-leaves (error_leaf κ t β) h = (tt, tt)
  every-leaves (step T) h = every-leaves T h
  every-leaves (fork T U) h = each-++ IfAnswer (leaves T) (leaves U) (every-leaves T h.0) (every-leaves U h.1)
  every-leaves (fan x n f) h = each-sons n 0 (λ i. leaves (f i)) (λ j l. every-leaves (f j) (h j (omega arith)))
  every-leaves (ask I T) h = every-leaves T h

  any-leaves : (T : Tree) → Any P T → Some IsListed (leaves T)
  unfolding Some Any leaves
  any-leaves (success_leaf β) h = inl h
  any-leaves failure_leaf h = absurd h
  any-leaves (error_leaf κ t β) h = inl h
  any-leaves (step T) h = any-leaves T h
  any-leaves (fork T U) (inl h) = some-++ IsListed (leaves T) (leaves U) (inl (any-leaves T h))
  any-leaves (fork T U) (inr h) = some-++ IsListed (leaves T) (leaves U) (inr (any-leaves U h))
  any-leaves (fan x n f) h =
      some-sons n 0 h.0 (λ i. leaves (f i)) (omega arith) (omega (arith, h.1)) (any-leaves (f h.0) h.2)
  any-leaves (ask I T) h = any-leaves T h

-- ---- and of their blocks

module _ (D : Declared) (P : Valuation → Type 0) where
  -- the block has the cells of a valuation of which P holds
  abbrev pub CellsOf : Block → Type 0
  CellsOf b = (β : Valuation) × (b.cells ≡ valued D β (cell_names D)) × P β

  each-blocks : (ls : List Leaf) (a e : ℕ) → Each (IfAnswer P) ls → Each (λ b. IsAnswer b → CellsOf b) (blocks D a e ls)
  unfolding Each blocks block_of
  each-blocks [] a e h = tt
  each-blocks (answer β ∷ ls) a e h = ((λ i. (β, refl, h.0)), each-blocks ls (suc a) e h.1)
  each-blocks (error κ t β ∷ ls) a e h = ((λ i. absurd i), each-blocks ls a (suc e) h.1)
  each-blocks (fail ∷ ls) a e h = each-blocks ls a e h.1

  some-blocks : (ls : List Leaf) (a e : ℕ) → Some (IsListed P) ls → Some CellsOf (blocks D a e ls)
  unfolding Some blocks block_of
  some-blocks [] a e h = absurd h
  some-blocks (answer β ∷ ls) a e (inl h) = inl (β, refl, h)
  some-blocks (answer β ∷ ls) a e (inr h) = inr (some-blocks ls (suc a) e h)
  some-blocks (error κ t β ∷ ls) a e (inl h) = inl (β, refl, h)
  some-blocks (error κ t β ∷ ls) a e (inr h) = inr (some-blocks ls a (suc e) h)
  some-blocks (fail ∷ ls) a e (inl h) = absurd h
  some-blocks (fail ∷ ls) a e (inr h) = some-blocks ls a e h

  -- each success leaf, so each answer block
  pub every-blocks : (T : Tree) → Every P T → Each (λ b. IsAnswer b → CellsOf b) (blocks D 0 0 (leaves T))
  every-blocks T h = each-blocks (leaves T) 0 0 (every-leaves P T h)

  -- some success or error leaf, so some block
  pub any-blocks : (T : Tree) → Any P T → Some CellsOf (blocks D 0 0 (leaves T))
  any-blocks T h = some-blocks (leaves T) 0 0 (any-leaves P T h)

-- the blocks of the first leaves are among those of all
pub each-first-blocks : (D : Declared) (P : Block → Type 0) (k : ℕ) (ls : List Leaf) (a e : ℕ) →
    Each P (blocks D a e ls) → Each P (blocks D a e (take k ls))
unfolding Each blocks
each-first-blocks D P zero ls a e h = tt
each-first-blocks D P (suc k) [] a e h = tt
each-first-blocks D P (suc k) (answer β ∷ ls) a e h = (h.0, each-first-blocks D P k ls (suc a) e h.1)
each-first-blocks D P (suc k) (error κ t β ∷ ls) a e h = (h.0, each-first-blocks D P k ls a (suc e) h.1)
each-first-blocks D P (suc k) (fail ∷ ls) a e h = each-first-blocks D P k ls a e h
