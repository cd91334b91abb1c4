-- What the register `inner` tells in the inner tree of a formula: the number of the tree's root while the places outside the formula are as
-- they were, and `given_tree` once one of them has got a value. It stays so where a local that the formula binds changes and where a bare
-- place gets a value, and at the empty list it is what the specification asks. Assumes nothing.
use Prim.Native.Nat.{ℕ, ◌≤◌, ◌<◌}
use native.Mathlib.Omega.{arith}
use mathlib.Core.Path.{◌≡◌, refl, sym, ◌∙◌, subst}
use mathlib.Core.Bool.{Bool, true, false}
use mathlib.Core.Logic.{◌⊎◌, inl, inr}
use lib.Dec.{T, ltb, eqb}
use lib.IntN.{ℤ}
use borrow.Author.Tests.{lt-ltb, le-ltb, ne_eqb}
use Rattle.specification.specs.Bytes.{pick}
use Rattle.specification.specs.Lines.{Declared}
use Rattle.specification.specs.Ast.{Formula}
use Rattle.specification.specs.Place.{Place, put}
use Rattle.specification.specs.Value.{Slot, empty, full, Valuation}
use Rattle.specification.specs.Outside.{outside, gained, gave}
use Rattle.specification.proofs.Laws.Contradiction.{contradiction}
use Rattle.specification.proofs.Laws.Place.{put_same, put_other}
use Rattle.specification.proofs.Laws.Outside.{Declares, gave-true, gave-false}
use Rattle.search.specs.States.{given_tree, inner_root}

-- a place outside F that has a value under β and had none under α
pub record Gain (D : Declared) (F : Formula) (α β : Valuation) : Type 0 where
  place : Place
  value : ℤ
  declared : Declares D place
  outer : T (outside F place)
  bare : α place ≡ empty
  got : β place ≡ full value

-- the places outside F are as they were
abbrev pub Same : Formula → Valuation → Valuation → Type 0
Same F α β = (p : Place) → T (outside F p) → β p ≡ α p

-- of the root's number n and the register's value r
abbrev pub Told : Declared → Formula → Valuation → ℕ → ℕ → Valuation → Type 0
Told D F α n r β = ((r ≡ n) × Same F α β) ⊎ ((r ≡ given_tree) × Gain D F α β)

-- a place outside F is none that is not
pub apart : (F : Formula) (q p : Place) → T (outside F q) → ¬ (T (outside F p)) → ¬ (q ≡ p)
apart F q p u n e = n (subst (λ r. T (outside F r)) e u)

gained-same : (x : Slot) → gained x x ≡ false
gained-same empty = refl
gained-same (full v) = refl

module _ (D : Declared) (F : Formula) (α : Valuation) (n : ℕ) (β : Valuation) where
  -- what was given stays so where another place changes
  gain-put : (g : Gain D F α β) (p : Place) (x : Slot) → ¬ (g.place ≡ p) → Gain D F α (put β p x)
  gain-put g p x z =
      record {
        place = g.place;
        value = g.value;
        declared = g.declared;
        outer = g.outer;
        bare = g.bare;
        got = put_other β p x g.place z ∙ g.got;
      }

  same-put : Same F α β → (p : Place) (x : Slot) → ¬ (T (outside F p)) → Same F α (put β p x)
  same-put k p x z q u = put_other β p x q (apart F q p u z) ∙ k q u

  -- ---- where a place that is not outside changes

  pub told-put : (r : ℕ) (p : Place) (x : Slot) → ¬ (T (outside F p)) → Told D F α n r β → Told D F α n r (put β p x)
  told-put r p x z (inl (e, k)) = inl (e, same-put k p x z)
  told-put r p x z (inr (e, g)) = inr (e, gain-put g p x (apart F g.place p g.outer z))

  -- ---- where a bare place gets a value: its mark m tells whether it is outside

  module _
      (p : Place) (v : ℤ) (d : Declares D p) (b : β p ≡ empty) (m : ℕ) (around : T (outside F p) → m < n)
      (within : ¬ (T (outside F p)) → n ≤ m)
    where
      gain-new : Same F α β → T (outside F p) → Gain D F α (put β p (full v))
      gain-new k u =
          record { place = p; value = v; declared = d; outer = u; bare = sym (k p u) ∙ b; got = put_same β p (full v) }

      gain-other : (g : Gain D F α β) → ¬ (g.place ≡ p)
      gain-other g x = let e = g.got in let f : β p ≡ full g.value = rw x at e in contradiction cc

      pub told-given : (r : ℕ) → Told D F α n r β → Told D F α n (pick (ltb m r) given_tree r) (put β p (full v))
      told-given r (inl (e, k)) = go (outside F p) refl
        where
          go : (c : Bool) → outside F p ≡ c → Told D F α n (pick (ltb m r) given_tree r) (put β p (full v))
          go true y = let u : T (outside F p) = rw y tt in inr (rw (e, lt-ltb m n (around u)), gain-new k u)
          go false y = let z : ¬ (T (outside F p)) = λ u. rw y at u in inl (rw (e, le-ltb m n (within z)), same-put k p (full v) z)
      told-given r (inr (e, g)) = inr (go (ltb m r), gain-put g p (full v) (gain-other g))
        where
          go : (c : Bool) → pick c given_tree r ≡ given_tree
          go true = refl
          go false = e

  -- ---- at the empty list

  pub told-gave : (r : ℕ) → inner_root ≤ n → Told D F α n r β → eqb r given_tree ≡ gave D F α β
  told-gave r h (inl (e, k)) =
      rw e (ne_eqb n given_tree (λ x. omega arith)) ∙ sym (gave-false D F α β (λ p d u. rw (k p u) (gained-same (α p))))
  told-gave r h (inr (e, g)) = rw e (sym (gave-true D F α β g.place g.value g.declared g.outer g.bare g.got))
