-- What holds of a site and a valuation that are reached from the root of a tree, main or inner: how the marks stand to the depth and to the
-- number of the tree's root, and what the register `inner` tells. It holds at the roots, every node keeps it, and at the empty list it gives
-- the leaf that the specification has. Assumes nothing.
use Prim.Native.Nat.{ℕ, suc, ◌+◌, ◌≤◌, ◌<◌}
use native.Mathlib.Omega.{arith}
use mathlib.Core.Path.{◌≡◌, refl, ap}
use mathlib.Core.Bool.{Bool, true, false}
use mathlib.Core.Logic.{inl}
use lib.Dec.{T, T_not, eqb}
use lib.IntN.{ℤ}
use borrow.Author.Tests.{le-ltb}
use mir.Facts.{eqb_yes}
use Rattle.specification.specs.Bytes.{pick}
use Rattle.specification.specs.Lines.{Declared}
use Rattle.specification.specs.Ast.{Formula}
use Rattle.specification.specs.Arithmetic.{undecided_inside}
use Rattle.specification.specs.Place.{Place, cell, local, put}
use Rattle.specification.specs.Value.{Slot, empty, full, Valuation}
use Rattle.specification.specs.WellFormed.{Scope, nowhere, enter, Ok}
use Rattle.specification.specs.Outside.{binds, outside}
use Rattle.specification.specs.Tree.{success_leaf, error_leaf, step, done, done_inside}
use Rattle.specification.proofs.Laws.Scope.{In}
use Rattle.specification.proofs.Laws.Place.{in-enter}
use Rattle.specification.proofs.Laws.Outside.{Covers, in-declares, in-outside}
use Rattle.search.specs.States.{main_tree, inner_root}
use Rattle.search.specs.Site.{Site, site, root_site, son_site, bound_mark, bound_site, inner_site, given_site, done_at}
use Rattle.search.proofs.Told.{Told, apart, told-put, told-given, told-gave}

-- ---- homes

-- the tree that a site stands in: the main one, or the inner tree of a formula that is asked for under a valuation, with the number that
-- the register has at its root
pub data Home : Type 0 where
  main : Home
  inner : Formula → Valuation → ℕ → Home

-- the home's formula binds the local; of the main tree nothing is said
abbrev pub Bound : Home → ℕ → Type 0
Bound main l = Unit {0}
Bound (inner F α n) l = T (binds F l)

-- ---- the invariant

-- in an inner tree: its root has the number n
record Inside (D : Declared) (S : Scope) (F : Formula) (α : Valuation) (n : ℕ) (s : Site) (β : Valuation) : Type 0 where
  least : inner_root ≤ n
  root : n ≤ bound_mark s.depth
  -- a place in scope has a mark below the number if and only if it is outside F
  around : (p : Place) → In D S p → T (outside F p) → s.marks p < n
  within : (p : Place) → In D S p → ¬ (T (outside F p)) → n ≤ s.marks p
  told : Told D F α n s.inner β

-- by the tree
abbrev Stands : Declared → Scope → Home → Site → Valuation → Type 0
Stands D S main s β = s.inner ≡ main_tree
Stands D S (inner F α n) s β = Inside D S F α n s β

-- what is in scope was bound above
pub record Tracks (D : Declared) (S : Scope) (h : Home) (s : Site) (β : Valuation) : Type 0 where
  low : (p : Place) → In D S p → s.marks p < bound_mark s.depth
  stands : Stands D S h s β

-- ---- at the roots

pub tracks-root : (D : Declared) (α : Valuation) → Tracks D nowhere main root_site α
tracks-root D α = record { low = λ p i. omega arith; stands = refl }

pub tracks-inner :
    {D : Declared} {S : Scope} {h : Home} {s : Site} {β : Valuation} (F : Formula) → Ok D S F → Tracks D S h s β →
    Tracks D S (inner F β (s.depth + inner_root)) (inner_site s) β
tracks-inner {D} {S} {h} {s} {β} F o t =
    record {
      low = λ p i. let a = t.low p i in omega arith;
      stands = record {
        least = omega arith;
        root = omega arith;
        around = λ p i u. let a = t.low p i in omega arith;
        within = λ p i u. absurd (u (in-outside D S F o p i));
        told = inl (refl, λ p u. refl);
      };
    }

-- ---- at a son

-- with its register and its valuation
inside-son :
    {D : Declared} {S : Scope} {F : Formula} {α : Valuation} {n : ℕ} {s : Site} {β : Valuation} → Inside D S F α n s β →
    (r : ℕ) (γ : Valuation) → Told D F α n r γ → Inside D S F α n (site (suc s.depth) r s.marks) γ
inside-son w r γ e =
    record { least = w.least; root = let m = w.root in omega arith; around = w.around; within = w.within; told = e }

pub tracks-son : {D : Declared} {S : Scope} {h : Home} {s : Site} {β : Valuation} → Tracks D S h s β → Tracks D S h (son_site s) β
tracks-son {D} {S} {h} {s} {β} t = record { low = λ p i. let a = t.low p i in omega arith; stands = go h t.stands }
  where
    go : (h : Home) → Stands D S h s β → Stands D S h (son_site s) β
    go main e = e
    go (inner F α n) w = inside-son w s.inner β w.told

-- ---- below a binder, and back

module _ (D : Declared) (S : Scope) (l : ℕ) where
  -- a place in scope below the binder is its local, or in scope around it
  bound-cases :
      (f : Place → ℕ) (a : ℕ) (C : ℕ → Type 0) (q : Place) → In D (enter S l) q → (q ≡ local l → C a) → (In D S q → C (f q)) →
      C (put f (local l) a q)
  unfolding put enter
  bound-cases f a C (cell c) i new old = old i
  bound-cases f a C (local j) i new old = go (eqb j l) (λ e. ap local (eqb_yes e)) i
    where
      go : (b : Bool) → (T b → local j ≡ local l) → T (pick b true (S j)) → C (pick b a (f (local j)))
      go true e u = new (e tt)
      go false e u = old u

  pub tracks-bound :
      {h : Home} {s : Site} {β : Valuation} (x : Slot) → Bound h l → Tracks D S h s β →
      Tracks D (enter S l) h (bound_site l s) (put β (local l) x)
  tracks-bound {h} {s} {β} x b t =
      record {
        low = λ q i. bound-cases s.marks (bound_mark s.depth) (◌< bound_mark (suc s.depth)) q i (λ e. omega arith) (λ j. let a = t.low q j in omega arith);
        stands = go h b t.stands;
      }
    where
      go : (h : Home) → Bound h l → Stands D S h s β → Stands D (enter S l) h (bound_site l s) (put β (local l) x)
      go main b e = e
      go (inner F α n) b w =
          let z : ¬ (T (outside F (local l))) = λ u. T_not (binds F l) u b in
          record {
            least = w.least;
            root = let r = w.root in omega arith;
            around = λ q i u. bound-cases s.marks (bound_mark s.depth) (◌< n) q i (λ e. absurd (apart F q (local l) u z e)) (λ j. w.around q j u);
            within = λ q i u. bound-cases s.marks (bound_mark s.depth) (n ≤◌) q i (λ e. w.root) (λ j. w.within q j u);
            told = told-put D F α n β s.inner (local l) x z w.told;
          }

  pub tracks-leave : {h : Home} {s : Site} {β : Valuation} → Tracks D (enter S l) h s β → Tracks D S h s β
  tracks-leave {h} {s} {β} t = record { low = λ p i. t.low p (in-enter D S l p i); stands = go h t.stands }
    where
      go : (h : Home) → Stands D (enter S l) h s β → Stands D S h s β
      go main e = e
      go (inner F α n) w =
          record {
            least = w.least;
            root = w.root;
            around = λ p i. w.around p (in-enter D S l p i);
            within = λ p i. w.within p (in-enter D S l p i);
            told = w.told;
          }

-- ---- where a place gets a value

module _ (D : Declared) (S : Scope) (c : Covers D S) (p : Place) (v : ℤ) (i : In D S p) (s : Site) (β : Valuation) (bare : β p ≡ empty) where
  pub tracks-given : {h : Home} → Tracks D S h s β → Tracks D S h (given_site p s) (put β p (full v))
  tracks-given {h} t = record { low = λ q j. let a = t.low q j in omega arith; stands = go h t.stands }
    where
      go : (h : Home) → Stands D S h s β → Stands D S h (given_site p s) (put β p (full v))
      go main e = rw (e, le-ltb (s.marks p) 0 (omega arith))
      go (inner F α n) w =
          inside-son w (given_site p s).inner (put β p (full v))
          (told-given D F α n β p v (in-declares D S c p i) bare (s.marks p) (w.around p i) (w.within p i) s.inner w.told)

-- ---- at the empty list

module _ {D : Declared} {S : Scope} {s : Site} {β : Valuation} where
  pub done-main : Tracks D S main s β → done_at s β ≡ done β
  done-main t = rw t.stands

  pub done-inner : {F : Formula} {α : Valuation} {n : ℕ} → Tracks D S (inner F α n) s β → done_at s β ≡ done_inside D F α β
  unfolding done_inside
  done-inner {F} {α} {n} t =
      let w = t.stands in
      ap (λ b. step (pick b (error_leaf undecided_inside 0 β) (success_leaf β))) (told-gave D F α n β s.inner w.least w.told)
