-- Frozen terms: well scoped as they were, and in every branch below what they would be; and what a call's frame says of them. Assumes nothing.
use Prim.Native.Nat.{ℕ, ◌+◌, ◌≤◌, ◌<◌}
use native.Mathlib.Omega.{arith}
use mathlib.Core.Path.{◌≡◌, refl, sym, ◌∙◌, ap}
use mathlib.Core.Bool.{Bool, true, false}
use lib.Dec.{T, ltb}
use lib.IntN.{pos, negsuc}
use Rattle.specification.specs.Lines.{Declared, cells, first_of, length_of}
use Rattle.specification.specs.Ast.{Op, Term, constant, scalar_at, local_at, parameter, element_at, apply}
use Rattle.specification.specs.Arithmetic.{Computed, value, fault, compute}
use Rattle.specification.specs.Place.{Place, cell, local}
use Rattle.specification.specs.Value.{Slot, empty, full, Valuation, Side, val, bare, err, look, Pair, values, faulty, pair_of, side_of, operate, in_array, element_side, side}
use Rattle.specification.specs.WellFormed.{Scope, OkTerm, Valid}
use Rattle.specification.proofs.Laws.Contradiction.{contradiction}
use Rattle.specification.proofs.Laws.Scope.{In, Ext}
use Rattle.specification.proofs.Laws.Value.{sane-val, sane-bare}
use Rattle.specification.proofs.Laws.Lasting.{value_stays, place-stays}
use Rattle.tables.specs.Layout.{max_cells, max_locals}
use Rattle.terms.specs.Environment.{value_for, pinned, frozen_as, frozen, Known}

-- ---- a bare place stays that place

module _ (D : Declared) (α β : Valuation) where
  looked-bare : (s : Slot) (q p : Place) → look s q ≡ bare p → look (β q) q ≡ look (β p) p
  looked-bare empty q p e = let same : q ≡ p = cc in ap (λ (p : Place). look (β p) p) same
  looked-bare (full v) q p e = contradiction cc

  in-array-bare : (b : Bool) (c : ℕ) (p : Place) → in_array D α b c ≡ bare p → in_array D β b c ≡ look (β p) p
  in-array-bare true c p e = looked-bare (α (cell c)) (cell c) p e
  in-array-bare false c p e = contradiction cc

  element-bare : (a : ℕ) (x : Side) (t : Term) (p : Place) → element_side D α a x ≡ bare p →
      element_side D β a (side D β (value_for D α x t)) ≡ look (β p) p
  unfolding element_side side
  element-bare a (val (pos i)) t p e = in-array-bare (ltb i (length_of D a)) (first_of D a + i) p e
  element-bare a (val (negsuc i)) t p e = contradiction cc
  element-bare a (bare q) t p e = contradiction cc
  element-bare a (err κ) t p e = contradiction cc

  never-bare : (o : Op) (x : Pair) (p : Place) → operate o x ≡ bare p → ⊥
  never-bare o (faulty κ) p e = contradiction cc
  never-bare o (values x y) p e = go (compute o x y) e
    where
      go : (c : Computed) → side_of c ≡ bare p → ⊥
      go (value z) e = contradiction cc
      go (fault κ) e = contradiction cc

  pub pinned-looks : (t : Term) (p : Place) → side D α t ≡ bare p → side D β (pinned D α t) ≡ look (β p) p
  unfolding side pinned
  pinned-looks (constant z) p e = contradiction cc
  pinned-looks (scalar_at c) p e = looked-bare (α (cell c)) (cell c) p e
  pinned-looks (local_at l) p e = looked-bare (α (local l)) (local l) p e
  pinned-looks (parameter n) p e = contradiction cc
  pinned-looks (element_at a t) p e = element-bare a (side D α t) t p e
  pinned-looks (apply o s t) p e = absurd (never-bare o (pair_of (side D α s) (side D α t)) p e)

-- ---- in scope

module _ (D : Declared) (S : Scope) (α : Valuation) (valid : Valid D α) where
  value-ok : (t : Term) → OkTerm D S t → (x : Side) → side D α t ≡ x → OkTerm D S (value_for D α x t)
  unfolding OkTerm
  value-ok t h (val z) e = sane-val D S α valid t h z e
  value-ok t h (bare p) e = h
  value-ok t h (err κ) e = h

  pinned-ok : (t : Term) → OkTerm D S t → OkTerm D S (pinned D α t)
  unfolding OkTerm pinned
  pinned-ok (constant z) h = h
  pinned-ok (scalar_at c) h = h
  pinned-ok (local_at l) h = h
  pinned-ok (parameter n) h = h
  pinned-ok (element_at a t) h = (h.0, value-ok t h.1 (side D α t) refl)
  pinned-ok (apply o s t) h = h

  pub frozen-ok : (t : Term) → OkTerm D S t → OkTerm D S (frozen D α t)
  unfolding frozen OkTerm
  frozen-ok t h = go (side D α t) refl
    where
      go : (x : Side) → side D α t ≡ x → OkTerm D S (frozen_as D α x t)
      go (val z) e = sane-val D S α valid t h z e
      go (bare p) e = pinned-ok t h
      go (err κ) e = h

-- ---- the same in every branch below

pub frozen_same : (D : Declared) (S : Scope) (α β : Valuation) → Ext D S α β → (t : Term) → OkTerm D S t →
    side D β (frozen D α t) ≡ side D β t
unfolding frozen side
frozen_same D S α β ext t h = go (side D α t) refl
  where
    go : (x : Side) → side D α t ≡ x → side D β (frozen_as D α x t) ≡ side D β t
    go (val z) e = sym (value_stays D S α β ext t h z e)
    go (bare p) e = pinned-looks D α β t p e ∙ sym (place-stays D S α β ext t h p e)
    go (err κ) e = refl

-- ---- its place is in the tables

pub place-known : (D : Declared) (S : Scope) (α : Valuation) → ((l : ℕ) → T (S l) → l < max_locals) → cells D ≤ max_cells → (t : Term) → OkTerm D S t →
    (p : Place) → side D α t ≡ bare p → Known p
place-known D S α locals few t h p e = go p (sane-bare D S α t h p e).0
  where
    go : (p : Place) → In D S p → Known p
    go (cell c) i = omega (arith, few)
    go (local l) i = locals l i
