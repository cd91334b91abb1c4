-- The places outside a formula: when one of them got a value and when none did; what is in scope around a formula is outside it; and a
-- part of a formula binds no more than the whole. Assumes nothing.
use Prim.Native.Nat.{ℕ, zero, suc, ◌≤◌, ◌<◌}
use native.Mathlib.Nat.{eq-or-lt_of_le}
use native.Mathlib.Omega.{arith}
use mathlib.Core.Path.{◌≡◌, refl, sym, ◌∙◌, ap, subst}
use mathlib.Core.Bool.{Bool, true, false, not, ◌&&◌, ◌||◌, or-true}
use mathlib.Core.Logic.{⊎_elim}
use lib.Dec.{T, T_not, not_T, eqb, eqb_refl}
use lib.IntN.{ℤ}
use mir.Facts.{or_yes, eqb_yes}
use Rattle.specification.specs.Bytes.{pick}
use Rattle.specification.specs.Lines.{Declared, cells}
use Rattle.specification.specs.Ast.{Term, Formula, truth, and, or, imp, neg, eq, compare, ex, some, all, call}
use Rattle.specification.specs.Place.{Place, cell, local}
use Rattle.specification.specs.Value.{Slot, empty, full, Valuation}
use Rattle.specification.specs.WellFormed.{Scope, nowhere, enter, Ok}
use Rattle.specification.specs.Outside.{binds, outside, gained, some_below, gave}
use Rattle.specification.proofs.Laws.Contradiction.{contradiction}
use Rattle.specification.proofs.Laws.Scope.{In}

-- ---- below a number

some-below : (n : ℕ) (f : ℕ → Bool) (i : ℕ) → i < n → f i ≡ true → some_below n f ≡ true
unfolding some_below
some-below zero f i h e = absurd (omega arith)
some-below (suc n) f i h e =
    let le : i ≤ n = omega arith in
    ⊎_elim (λ q. ap (◌|| some_below n f) (subst (λ (j : ℕ). f j ≡ true) q e))
    (λ l. ap (f n ||◌) (some-below n f i l e) ∙ or-true (f n)) (eq-or-lt_of_le le)

none_below : (n : ℕ) (f : ℕ → Bool) → ((i : ℕ) → i < n → f i ≡ false) → some_below n f ≡ false
unfolding some_below
none_below zero f h = refl
none_below (suc n) f h = ap (◌|| some_below n f) (h n (omega arith)) ∙ none_below n f (λ i l. h i (omega arith))

-- ---- what was given

-- a cell or a local of the sheet
abbrev pub Declares : Declared → Place → Type 0
Declares D (cell c) = c < cells D
Declares D (local l) = l < D.locals

module _ (D : Declared) (F : Formula) (α β : Valuation) where
  -- whether the place is one that got a value
  abbrev Got : Place → Bool
  Got p = outside F p && gained (α p) (β p)

  got-gave : (p : Place) → Declares D p → Got p ≡ true → gave D F α β ≡ true
  unfolding gave
  got-gave (cell c) d e = ap (◌|| some_below D.locals (λ l. Got (local l))) (some-below (cells D) (λ c. Got (cell c)) c d e)
  got-gave (local l) d e =
      ap (some_below (cells D) (λ c. Got (cell c)) ||◌) (some-below D.locals (λ l. Got (local l)) l d e)
      ∙ or-true (some_below (cells D) (λ c. Got (cell c)))

  -- a declared place outside F has a value under β and had none under α
  pub gave-true : (p : Place) (v : ℤ) → Declares D p → T (outside F p) → α p ≡ empty → β p ≡ full v → gave D F α β ≡ true
  gave-true p v d o e f = got-gave p d (go (outside F p) o)
    where
      go : (b : Bool) → T b → b && gained (α p) (β p) ≡ true
      go true t = rw (e, f)
      go false t = absurd t

  -- no declared place outside F got a value
  pub gave-false : ((p : Place) → Declares D p → T (outside F p) → gained (α p) (β p) ≡ false) → gave D F α β ≡ false
  unfolding gave
  gave-false h =
      ap (◌|| some_below D.locals (λ l. Got (local l))) (none_below (cells D) (λ c. Got (cell c)) (λ c d. got (cell c) d))
      ∙ none_below D.locals (λ l. Got (local l)) (λ l d. got (local l) d)
    where
      go : (b : Bool) (g : Bool) → (T b → g ≡ false) → b && g ≡ false
      go true g k = k tt
      go false g k = refl

      got : (p : Place) → Declares D p → Got p ≡ false
      got p d = go (outside F p) (gained (α p) (β p)) (h p d)

  -- where nothing was given, a declared place outside F without a value has none after
  pub gave-none : gave D F α β ≡ false → (p : Place) → Declares D p → T (outside F p) → α p ≡ empty → β p ≡ empty
  gave-none n p d o e = go (β p) refl
    where
      go : (s : Slot) → β p ≡ s → s ≡ empty
      go empty f = refl
      go (full v) f = let t = gave-true p v d o e f in contradiction cc

-- ---- what a formula binds

-- G binds no local that F does not
abbrev pub Within : Formula → Formula → Type 0
Within F G = (l : ℕ) → T (binds G l) → T (binds F l)

yes-left : (a b : Bool) → T a → T (a || b)
yes-left true b t = tt
yes-left false b t = absurd t

yes-right : (a b : Bool) → T b → T (a || b)
yes-right true b t = tt
yes-right false b t = t

-- each part is within the whole, and so is a binder's local
pub and-within : (F G : Formula) → Within (and F G) F × Within (and F G) G
unfolding binds
and-within F G = ((λ l. yes-left (binds F l) (binds G l)), (λ l. yes-right (binds F l) (binds G l)))

pub or-within : (F G : Formula) → Within (or F G) F × Within (or F G) G
unfolding binds
or-within F G = and-within F G

pub imp-within : (tok : ℕ) (F G : Formula) → Within (imp tok F G) F × Within (imp tok F G) G
unfolding binds
imp-within tok F G = and-within F G

pub ex-within : (j : ℕ) (F : Formula) → T (binds (ex j F) j) × Within (ex j F) F
unfolding binds
ex-within j F = (yes-left (eqb j j) (binds F j) (eqb_refl j), (λ l. yes-right (eqb l j) (binds F l)))

pub some-within : (tok j : ℕ) (a b : Term) (F : Formula) → T (binds (some tok j a b F) j) × Within (some tok j a b F) F
unfolding binds
some-within tok j a b F = ex-within j F

pub all-within : (tok j : ℕ) (a b : Term) (F : Formula) → T (binds (all tok j a b F) j) × Within (all tok j a b F) F
unfolding binds
all-within tok j a b F = ex-within j F

-- ---- what is in scope around a formula

-- under a binder of j
under :
    (S : Scope) (F : Formula) (j l : ℕ) → T (not (S j)) → (T (binds F l) → T (not (enter S j l))) →
    T (eqb l j || binds F l) → T (not (S l))
unfolding enter
under S F j l n h b =
    ⊎_elim (λ e. subst (λ (i : ℕ). T (not (S i))) (sym (eqb_yes e)) n) (λ t. go (eqb l j) (h t)) (or_yes (eqb l j) (binds F l) b)
  where
    go : (c : Bool) → T (not (pick c true (S l))) → T (not (S l))
    go true t = absurd t
    go false t = t

module _ (D : Declared) where
  -- a local bound around F is not bound in it
  pub binds-fresh : (S : Scope) (F : Formula) (l : ℕ) → Ok D S F → T (binds F l) → T (not (S l))
  unfolding binds Ok
  binds-fresh S truth l o b = absurd b
  binds-fresh S (and F G) l o b = ⊎_elim (binds-fresh S F l o.0) (binds-fresh S G l o.1) (or_yes (binds F l) (binds G l) b)
  binds-fresh S (or F G) l o b = ⊎_elim (binds-fresh S F l o.0) (binds-fresh S G l o.1) (or_yes (binds F l) (binds G l) b)
  binds-fresh S (imp tok F G) l o b = ⊎_elim (binds-fresh S F l o.0) (binds-fresh S G l o.1) (or_yes (binds F l) (binds G l) b)
  binds-fresh S (neg tok F) l o b = binds-fresh S F l o b
  binds-fresh S (eq tok s t) l o b = absurd b
  binds-fresh S (compare tok r s t) l o b = absurd b
  binds-fresh S (ex j F) l o b = under S F j l o.1 (binds-fresh (enter S j) F l o.2) b
  binds-fresh S (some tok j s t F) l o b = under S F j l o.3 (binds-fresh (enter S j) F l o.4) b
  binds-fresh S (all tok j s t F) l o b = under S F j l o.3 (binds-fresh (enter S j) F l o.4) b
  binds-fresh S (call K ts F) l o b = binds-fresh S F l o.2 b

  -- the locals in scope are declared
  abbrev pub Covers : Scope → Type 0
  Covers S = (l : ℕ) → T (S l) → l < D.locals

  pub covers-nowhere : Covers nowhere
  covers-nowhere l t = absurd t

  pub covers-enter : (S : Scope) (j : ℕ) → Covers S → j < D.locals → Covers (enter S j)
  unfolding enter
  covers-enter S j c h l t = go (eqb l j) (λ e. eqb_yes e) t
    where
      go : (b : Bool) → (T b → l ≡ j) → T (pick b true (S l)) → l < D.locals
      go true e t = subst (◌< D.locals) (sym (e tt)) h
      go false e t = c l t

  -- a place in scope around F is declared and outside F
  pub in-declares : (S : Scope) → Covers S → (p : Place) → In D S p → Declares D p
  in-declares S c (cell n) i = i
  in-declares S c (local l) i = c l i

  pub in-outside : (S : Scope) (F : Formula) → Ok D S F → (p : Place) → In D S p → T (outside F p)
  in-outside S F o (cell n) i = tt
  in-outside S F o (local l) i = not_T (binds F l) (λ b. T_not (S l) (binds-fresh S F l o b) i)
