-- What a term is stays so along a branch, for terms and valuations in scope: a value stays, and a bare place stays that place, with or
-- without a value. So an argument that has a value, or is a place, when its call is entered need not be valued again. Assumes nothing.
use Prim.Native.Nat.{ℕ, ◌+◌, ◌<◌}
use mathlib.Core.Path.{◌≡◌, refl}
use mathlib.Core.Bool.{Bool, true, false}
use lib.Dec.{T, ltb, ltb→lt}
use lib.IntN.{ℤ, pos, negsuc}
use Rattle.specification.specs.Lines.{Declared, cells, first_of, length_of}
use Rattle.specification.specs.Ast.{Op, Term, constant, scalar_at, local_at, parameter, element_at, apply}
use Rattle.specification.specs.Arithmetic.{Computed, value, fault, compute}
use Rattle.specification.specs.Place.{Place, cell, local}
use Rattle.specification.specs.Value.{Slot, empty, full, Valuation, Side, val, bare, err, look, pair_of, side_of, operate, in_array, element_side, side}
use Rattle.specification.specs.WellFormed.{Scope, OkTerm}
use Rattle.specification.proofs.Laws.Scope.{In, Ext}
use Rattle.specification.proofs.Laws.Elements.{scalar-declared, element-declared}

module _ (D : Declared) (S : Scope) (α β : Valuation) (ext : Ext D S α β) where
  -- what a side under α says of the same term under β; of an error nothing
  abbrev Stays : Side → Side → Type 0
  Stays (val z) s = s ≡ val z
  Stays (bare p) s = s ≡ look (β p) p
  Stays (err κ) s = Unit {0}

  look-stays : (p : Place) → In D S p → (s : Slot) → α p ≡ s → Stays (look s p) (look (β p) p)
  look-stays p i empty e = refl
  look-stays p i (full v) e = rw (ext p i v e)

  in-array-stays : (b : Bool) (c : ℕ) → (T b → c < cells D) → Stays (in_array D α b c) (in_array D β b c)
  in-array-stays true c h = look-stays (cell c) (h tt) (α (cell c)) refl
  in-array-stays false c h = tt

  element-stays : (a : ℕ) (s t : Side) → Stays s t → Stays (element_side D α a s) (element_side D β a t)
  unfolding element_side
  element-stays a (val (pos i)) t e =
      rw e (in-array-stays (ltb i (length_of D a)) (first_of D a + i) (λ u. element-declared D a i (ltb→lt i (length_of D a) u)))
  element-stays a (val (negsuc i)) t e = tt
  element-stays a (bare p) t e = tt
  element-stays a (err κ) t e = tt

  computed-stays : (c : Computed) → Stays (side_of c) (side_of c)
  computed-stays (value z) = refl
  computed-stays (fault κ) = tt

  operate-stays : (o : Op) (s t x y : Side) → Stays s x → Stays t y → Stays (operate o (pair_of s t)) (operate o (pair_of x y))
  unfolding pair_of
  operate-stays o (val a) (val b) x y e f = rw (e, f) (computed-stays (compute o a b))
  operate-stays o (val a) (bare q) x y e f = tt
  operate-stays o (val a) (err κ) x y e f = tt
  operate-stays o (bare p) t x y e f = tt
  operate-stays o (err κ) t x y e f = tt

  side-stays : (t : Term) → OkTerm D S t → Stays (side D α t) (side D β t)
  unfolding side OkTerm
  side-stays (constant z) h = refl
  side-stays (scalar_at c) h = look-stays (cell c) (scalar-declared D c h) (α (cell c)) refl
  side-stays (local_at l) h = look-stays (local l) h (α (local l)) refl
  side-stays (parameter n) h = tt
  side-stays (element_at a t) h = element-stays a (side D α t) (side D β t) (side-stays t h.1)
  side-stays (apply o s t) h = operate-stays o (side D α s) (side D α t) (side D β s) (side D β t) (side-stays s h.0) (side-stays t h.1)

  -- a value stays
  pub value_stays : (t : Term) → OkTerm D S t → (z : ℤ) → side D α t ≡ val z → side D β t ≡ val z
  value_stays t h z e = rw e at (side-stays t h)

  -- a bare place stays that place
  pub place-stays : (t : Term) → OkTerm D S t → (p : Place) → side D α t ≡ bare p → side D β t ≡ look (β p) p
  place-stays t h p e = rw e at (side-stays t h)
