-- The site of a path: how deep it lies, its marks below a binder and in the words, and what its register `inner` says of the tree: in the main
-- tree it is 0, in an inner tree it is not. Assumes nothing.
use Prim.Native.Nat.{ℕ, suc, ◌≤◌, ◌<◌}
use native.Mathlib.Omega.{arith}
use mathlib.Core.Path.{◌≡◌, refl, sym, ap, ◌∙◌}
use mathlib.Core.Bool.{Bool, true, false}
use mathlib.Core.Logic.{◌⊎◌, inl, inr}
use mathlib.Core.List.{List, [], ◌∷◌}
use lib.Dec.{ltb}
use borrow.Author.Tests.{ltb-true, lt-ltb, le-ltb}
use Rattle.specification.specs.Bytes.{pick}
use Rattle.specification.specs.Lines.{Declared}
use Rattle.specification.specs.Place.{Place, cell, local, put}
use Rattle.specification.proofs.Laws.Place.{put_other, put-cases}
use Rattle.tables.specs.Ranges.{unranged, local_mark}
use Rattle.sheet.specs.Tables.{mark_of}
use Rattle.search.specs.Site.{Site, bound_mark, bound_site, after_given}
use Rattle.search.specs.Frame.{Frame, pass, other, bound, began, given, range, asks, called, len, inner_in, site_in}
use Rattle.search.specs.Marks.{marks_in}
use Rattle.search.specs.States.{main_tree, given_tree}

-- a site lies as deep as its path
pub site-depth : (fr : List Frame) → (site_in fr).depth ≡ len fr
site-depth [] = refl
site-depth (pass α ∷ fr) = ap suc (site-depth fr)
site-depth (called C α ∷ fr) = ap suc (site-depth fr)
site-depth (other E G is α ∷ fr) = ap suc (site-depth fr)
site-depth (bound l s α ∷ fr) = ap suc (site-depth fr)
site-depth (began l v h α ∷ fr) = ap suc (site-depth fr)
site-depth (given p v α ∷ fr) = ap suc (site-depth fr)
site-depth (range l x i n E F is α ∷ fr) = ap suc (site-depth fr)
site-depth (asks tok q is α e ∷ fr) = ap suc (site-depth fr)

-- a binder marks no other place
pub bound-other : (l : ℕ) (s : Site) (q : Place) → ¬ (q ≡ local l) → (bound_site l s).marks q ≡ s.marks q
bound-other l s q n = put_other s.marks (local l) (bound_mark s.depth) q n

-- the register n of an inner tree, and of the main tree
abbrev Tells : Bool → ℕ → Type 0
Tells true n = 0 < n
Tells false n = n ≡ main_tree

-- a value that is given leaves it so: in the main tree no mark is below the register
after-tells : (b m : Bool) (n : ℕ) → Tells m n → (n ≡ 0 → b ≡ false) → Tells m (pick b given_tree n)
after-tells true true n h f = omega arith
after-tells true false n h f = let z = f h in cc
after-tells false m n h f = h

register : (fr : List Frame) → Tells (inner_in fr) (site_in fr).inner
register [] = refl
register (pass α ∷ fr) = register fr
register (called C α ∷ fr) = register fr
register (other E G is α ∷ fr) = register fr
register (bound l s α ∷ fr) = register fr
register (began l v h α ∷ fr) = register fr
register (given p v α ∷ fr) =
    after-tells (ltb ((site_in fr).marks p) (site_in fr).inner) (inner_in fr) (site_in fr).inner (register fr)
    (λ e. le-ltb ((site_in fr).marks p) (site_in fr).inner (omega arith))
register (range l x i n E F is α ∷ fr) = register fr
register (asks tok q is α e ∷ fr) = omega arith

pub inner-main : (fr : List Frame) → (site_in fr).inner ≡ main_tree → inner_in fr ≡ false
inner-main fr e = go (inner_in fr) (register fr)
  where
    go : (m : Bool) → Tells m (site_in fr).inner → m ≡ false
    go true h = absurd (omega arith)
    go false h = refl

pub inner-inside : (fr : List Frame) → ¬ ((site_in fr).inner ≡ main_tree) → inner_in fr ≡ true
inner-inside fr n = go (inner_in fr) (register fr)
  where
    go : (m : Bool) → Tells m (site_in fr).inner → m ≡ true
    go true h = refl
    go false h = absurd (n h)

-- ---- the marks in the words

-- a cell has no mark of its own in a site, and a local none or one above those of cells
site-cell : (fr : List Frame) (c : ℕ) → (site_in fr).marks (cell c) ≡ 0
unfolding put
site-cell [] c = refl
site-cell (pass α ∷ fr) c = site-cell fr c
site-cell (called C α ∷ fr) c = site-cell fr c
site-cell (other E G is α ∷ fr) c = site-cell fr c
site-cell (bound l s α ∷ fr) c = site-cell fr c
site-cell (began l v h α ∷ fr) c = site-cell fr c
site-cell (given p v α ∷ fr) c = site-cell fr c
site-cell (range l x i n E F is α ∷ fr) c = site-cell fr c
site-cell (asks tok q is α e ∷ fr) c = site-cell fr c

abbrev Unbound : ℕ → Type 0
Unbound m = (m ≡ unranged) ⊎ (local_mark ≤ m)

bound-local : (l : ℕ) (s : Site) (j : ℕ) → Unbound (s.marks (local j)) → Unbound ((bound_site l s).marks (local j))
bound-local l s j h = put-cases s.marks (local l) (bound_mark s.depth) (local j) Unbound (λ e. inr (omega arith)) (λ n. h)

pub site-local : (fr : List Frame) (l : ℕ) → Unbound ((site_in fr).marks (local l))
site-local [] l = inl refl
site-local (pass α ∷ fr) l = site-local fr l
site-local (called C α ∷ fr) l = site-local fr l
site-local (other E G is α ∷ fr) l = site-local fr l
site-local (bound j s α ∷ fr) l = bound-local j (site_in fr) l (site-local fr l)
site-local (began j v h α ∷ fr) l = bound-local j (site_in fr) l (site-local fr l)
site-local (given p v α ∷ fr) l = site-local fr l
site-local (range j x i n E F is α ∷ fr) l = bound-local j (site_in fr) l (site-local fr l)
site-local (asks tok q is α e ∷ fr) l = site-local fr l

-- the register is none that lies among the marks of cells
abbrev Clear : ℕ → Type 0
Clear n = (n ≤ given_tree) ⊎ (local_mark < n)

after-clear : (b : Bool) (n : ℕ) → Clear n → Clear (pick b given_tree n)
after-clear true n h = inl (omega arith)
after-clear false n h = h

site-clear : (fr : List Frame) → Clear (site_in fr).inner
site-clear [] = inl (omega arith)
site-clear (pass α ∷ fr) = site-clear fr
site-clear (called C α ∷ fr) = site-clear fr
site-clear (other E G is α ∷ fr) = site-clear fr
site-clear (bound l s α ∷ fr) = site-clear fr
site-clear (began l v h α ∷ fr) = site-clear fr
site-clear (given p v α ∷ fr) = after-clear (ltb ((site_in fr).marks p) (site_in fr).inner) (site_in fr).inner (site-clear fr)
site-clear (range l x i n E F is α ∷ fr) = site-clear fr
site-clear (asks tok q is α e ∷ fr) = inr (omega arith)

-- so a cell's mark in the words gives the register that its site gives
pub after-marked : (D : Declared) → ((c : ℕ) → mark_of D c < local_mark) → (fr : List Frame) (p : Place) →
    after_given (marks_in D (site_in fr).marks p) (site_in fr).inner ≡ after_given ((site_in fr).marks p) (site_in fr).inner
after-marked D low fr (local l) = refl
after-marked D low fr (cell c) = rw (site-cell fr c) (by (site_in fr).inner (site-clear fr))
  where
    small : (n : ℕ) → n ≤ given_tree → (m : ℕ) → after_given m n ≡ n
    small n h m = go (ltb m n) refl
      where
        go : (b : Bool) → ltb m n ≡ b → pick b given_tree n ≡ n
        go true e = omega (arith, ltb-true m n e)
        go false e = refl

    by : (n : ℕ) → Clear n → after_given (mark_of D c) n ≡ after_given 0 n
    by n (inl h) = small n h (mark_of D c) ∙ sym (small n h 0)
    by n (inr h) = rw (lt-ltb (mark_of D c) n (omega (arith, low c)), lt-ltb 0 n (omega arith))
