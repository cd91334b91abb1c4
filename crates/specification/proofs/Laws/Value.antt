-- What the side of an atom says under a valuation: of the term's value in an environment that agrees, of its being in 32 bits, and of
-- the bare place, which is in scope and empty. Assumes nothing.
use Prim.Native.Nat.{ℕ, zero, suc, ◌+◌, ◌<◌}
use mathlib.Core.Path.{◌≡◌, refl, ap, subst}
use mathlib.Core.Bool.{Bool, true, false}
use mathlib.Core.Option.{Option, none, some as just}
use lib.Dec.{T, ltb, ltb→lt}
use lib.IntN.{ℤ, pos, negsuc, ◌+ℤ◌, ◌-ℤ◌, ◌*ℤ◌}
use lib.Signed.{quot_z}
use Rattle.specification.specs.Bytes.{pick}
use Rattle.specification.specs.Number.{in32}
use Rattle.specification.specs.Lines.{Declared, cells, first_of, length_of}
use Rattle.specification.specs.Ast.{Op, add, sub, mul, quo, rem, div, modulo, Term, constant, scalar_at, local_at, parameter, element_at, apply}
use Rattle.specification.specs.Arithmetic.{no_value, outside_array, outside32, Computed, value, fault, fit, divided, floor_z, remains, compute}
use Rattle.specification.specs.Place.{Place, cell, local}
use Rattle.specification.specs.Value.{Slot, empty, full, Valuation, Side, val, bare, err, look, Pair, values, faulty, pair_of, side_of, operate, in_array, element_side, side}
use Rattle.specification.specs.WellFormed.{Scope, OkTerm, Valid}
use Rattle.specification.specs.Plain.{Env, kept, applied, element_value, value_of, Has}
use Rattle.specification.proofs.Laws.Allowed.{allowed-in32}
use Rattle.specification.proofs.Laws.Scope.{In, Agree}
use Rattle.specification.proofs.Laws.Elements.{scalar-declared, element-declared}

-- ---- the value in an environment that agrees

abbrev pub Tells : Env → Side → Option ℤ → Type 0
Tells ρ (val x) o = o ≡ just x
Tells ρ (bare p) o = o ≡ just (ρ p)
Tells ρ (err κ) o = Unit {0}

look-tells : (ρ : Env) (p : Place) (s : Slot) → ((v : ℤ) → s ≡ full v → ρ p ≡ v) → Tells ρ (look s p) (just (ρ p))
look-tells ρ p empty h = refl
look-tells ρ p (full v) h = ap just (h v refl)

computed-tells : (ρ : Env) (c : Computed) → Tells ρ (side_of c) (kept c)
computed-tells ρ (value z) = refl
computed-tells ρ (fault κ) = tt

module _ (D : Declared) (S : Scope) (ρ : Env) (α : Valuation) (a : Agree D S ρ α) where
  in_array-tells : (b : Bool) (c : ℕ) → (T b → c < cells D) → Tells ρ (in_array D α b c) (pick b (just (ρ (cell c))) none)
  in_array-tells true c h = look-tells ρ (cell c) (α (cell c)) (a.1 (cell c) (h tt))
  in_array-tells false c h = tt

  element-tells :
      (n : ℕ) (s : Side) (o : Option ℤ) → Tells ρ s o →
      Tells ρ (element_side D α n s) (element_value D ρ n o)
  unfolding element_side
  element-tells n (val (pos i)) o e =
      rw e (in_array-tells (ltb i (length_of D n)) (first_of D n + i) (λ t. element-declared D n i (ltb→lt i (length_of D n) t)))
  element-tells n (val (negsuc i)) o e = tt
  element-tells n (bare p) o e = tt
  element-tells n (err κ) o e = tt

  operate-tells :
      (o : Op) (s t : Side) (x y : Option ℤ) → Tells ρ s x → Tells ρ t y →
      Tells ρ (operate o (pair_of s t)) (applied o x y)
  unfolding pair_of
  operate-tells o (val x) (val y) x' y' e f = rw (e, f) (computed-tells ρ (compute o x y))
  operate-tells o (val x) (bare q) x' y' e f = tt
  operate-tells o (val x) (err κ) x' y' e f = tt
  operate-tells o (bare p) t x' y' e f = tt
  operate-tells o (err κ) t x' y' e f = tt

  side-tells : (t : Term) → OkTerm D S t → Tells ρ (side D α t) (value_of D ρ t)
  unfolding side value_of OkTerm
  side-tells (constant z) h = refl
  side-tells (scalar_at c) h = look-tells ρ (cell c) (α (cell c)) (a.1 (cell c) (scalar-declared D c h))
  side-tells (local_at l) h = look-tells ρ (local l) (α (local l)) (a.1 (local l) h)
  side-tells (parameter n) h = tt
  side-tells (element_at n t) h = element-tells n (side D α t) (value_of D ρ t) (side-tells t h.1)
  side-tells (apply o s t) h =
      operate-tells o (side D α s) (side D α t) (value_of D ρ s) (value_of D ρ t) (side-tells s h.0) (side-tells t h.1)

  -- a value under the valuation is the value in the environment, and a bare place has the value there
  pub has-val : (t : Term) → OkTerm D S t → (x : ℤ) → side D α t ≡ val x → Has D ρ t x
  has-val t h x e = rw e at (side-tells t h)

  pub has-bare : (t : Term) → OkTerm D S t → (p : Place) → side D α t ≡ bare p → Has D ρ t (ρ p)
  has-bare t h p e = rw e at (side-tells t h)

  pub same-val : (t : Term) → OkTerm D S t → (x y : ℤ) → side D α t ≡ val x → Has D ρ t y → y ≡ x
  same-val t h x y e f = let g = has-val t h x e in cc

-- ---- results of operations: in 32 bits, and never a place

abbrev Firm : Side → Type 0
Firm (val x) = T (in32 x)
Firm (bare p) = ⊥
Firm (err κ) = Unit {0}

fit-firm : (z : ℤ) → Firm (side_of (fit z))
unfolding fit
fit-firm z = go (in32 z) (λ t. t)
  where
    go : (b : Bool) → (T b → T (in32 z)) → Firm (side_of (pick b (value z) (fault outside32)))
    go true h = h tt
    go false h = tt

divided-firm : (y : ℤ) (c : Computed) → Firm (side_of c) → Firm (side_of (divided y c))
divided-firm (pos zero) c h = tt
divided-firm (pos (suc n)) c h = h
divided-firm (negsuc n) c h = h

quotient-firm : (y z : ℤ) → Firm (side_of (divided y (fit z)))
quotient-firm y z = divided-firm y (fit z) (fit-firm z)

compute-firm : (o : Op) (x y : ℤ) → Firm (side_of (compute o x y))
unfolding compute
compute-firm add x y = fit-firm (x +ℤ y)
compute-firm sub x y = fit-firm (x -ℤ y)
compute-firm mul x y = fit-firm (x *ℤ y)
compute-firm quo x y = quotient-firm y (quot_z x y)
compute-firm rem x y = quotient-firm y (remains x y (quot_z x y))
compute-firm div x y = quotient-firm y (floor_z x y)
compute-firm modulo x y = quotient-firm y (remains x y (floor_z x y))

-- what holds of firm sides, and of the places in scope as they are looked at, holds of every side
module _ (D : Declared) (S : Scope) (α : Valuation) (G : Side → Type 0) (firm : (s : Side) → Firm s → G s)
    (looked : (p : Place) → In D S p → (s : Slot) → α p ≡ s → G (look s p)) where
  operate-firm : (o : Op) (p : Pair) → G (operate o p)
  operate-firm o (values x y) = firm (side_of (compute o x y)) (compute-firm o x y)
  operate-firm o (faulty κ) = firm (err κ) tt

  in_array-firm : (b : Bool) (c : ℕ) → (T b → c < cells D) → G (in_array D α b c)
  in_array-firm true c h = looked (cell c) (h tt) (α (cell c)) refl
  in_array-firm false c h = firm (err outside_array) tt

  element-firm : (n : ℕ) (s : Side) → G (element_side D α n s)
  unfolding element_side
  element-firm n (val (pos i)) =
      in_array-firm (ltb i (length_of D n)) (first_of D n + i) (λ t. element-declared D n i (ltb→lt i (length_of D n) t))
  element-firm n (val (negsuc i)) = firm (err outside_array) tt
  element-firm n (bare p) = firm (err no_value) tt
  element-firm n (err κ) = firm (err κ) tt

  side-firm : (t : Term) → OkTerm D S t → G (side D α t)
  unfolding side OkTerm
  side-firm (constant z) h = firm (val z) h
  side-firm (scalar_at c) h = looked (cell c) (scalar-declared D c h) (α (cell c)) refl
  side-firm (local_at l) h = looked (local l) h (α (local l)) refl
  side-firm (parameter n) h = firm (err no_value) tt
  side-firm (element_at n t) h = element-firm n (side D α t)
  side-firm (apply o s t) h = operate-firm o (pair_of (side D α s) (side D α t))

-- ---- a value is in 32 bits

module _ (D : Declared) (S : Scope) (α : Valuation) (v : Valid D α) where
  abbrev Fits : Side → Type 0
  Fits (val x) = T (in32 x)
  Fits (bare p) = Unit {0}
  Fits (err κ) = Unit {0}

  firm-fits : (s : Side) → Firm s → Fits s
  firm-fits (val x) h = h
  firm-fits (bare p) h = tt
  firm-fits (err κ) h = tt

  look-fits : (p : Place) → In D S p → (s : Slot) → α p ≡ s → Fits (look s p)
  look-fits p i empty e = tt
  look-fits p i (full x) e = allowed-in32 D p x (v p x e)

  pub sane-val : (t : Term) → OkTerm D S t → (x : ℤ) → side D α t ≡ val x → T (in32 x)
  sane-val t h x e = subst Fits e (side-firm D S α Fits firm-fits look-fits t h)

-- ---- a bare place is in scope and empty

module _ (D : Declared) (S : Scope) (α : Valuation) where
  abbrev Free : Side → Type 0
  Free (val x) = Unit {0}
  Free (bare p) = In D S p × (α p ≡ empty)
  Free (err κ) = Unit {0}

  firm-free : (s : Side) → Firm s → Free s
  firm-free (val x) h = tt
  firm-free (bare p) h = absurd h
  firm-free (err κ) h = tt

  look-free : (p : Place) → In D S p → (s : Slot) → α p ≡ s → Free (look s p)
  look-free p i empty e = (i, e)
  look-free p i (full x) e = tt

  pub sane-bare : (t : Term) → OkTerm D S t → (p : Place) → side D α t ≡ bare p → In D S p × (α p ≡ empty)
  sane-bare t h p e = subst Free e (side-firm D S α Free firm-free look-free t h)
