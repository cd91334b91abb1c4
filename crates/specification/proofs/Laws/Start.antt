-- The start valuation holds the given values and no others. Assumes nothing.
use Prim.Native.Nat.{ℕ, suc}
use native.Mathlib.Omega.{arith}
use mathlib.Core.Path.{◌≡◌, refl, sym, ◌∙◌, ap}
use mathlib.Core.Bool.{Bool, true, false}
use mathlib.Core.Logic.{◌↔◌, inl, inr}
use mathlib.Core.List.{List, [], ◌∷◌}
use lib.Dec.{T, eqb}
use lib.IntN.{ℤ}
use borrow.Author.Tests.{eqb-true, eq-eqb, ne_eqb}
use Rattle.specification.specs.Bytes.{pick}
use Rattle.specification.specs.Lines.{Declared, in_range}
use Rattle.specification.specs.Given.{Item}
use Rattle.specification.specs.Place.{cell, local, put}
use Rattle.specification.specs.Value.{empty, full}
use Rattle.specification.specs.Outcome.{start}
use Rattle.specification.specs.Plain.{Filling, Keeps}
use Rattle.specification.specs.Lists.{Each, Some}
use Rattle.specification.specs.WellFormed.{Valid, Rising}
use Rattle.specification.proofs.Laws.Contradiction.{contradiction}
use Rattle.specification.proofs.Laws.Lists.{each_map, each_both, each-some}
use Rattle.specification.proofs.Laws.ReadGiven.{rising-above}

-- the item gives this cell this value
abbrev pub Gives : ℕ → ℤ → Item → Type 0
Gives c v i = (i.cell ≡ c) × (i.value ≡ v)

-- ---- each given value stands there

pub start_has : (floor : ℕ) (is : List Item) → Rising floor is → Each (λ i. start is (cell i.cell) ≡ full i.value) is
unfolding start put Each Rising
start_has floor [] h = tt
start_has floor (i ∷ is) h = (
  rw (eq-eqb i.cell i.cell refl),
  each_both is (λ j above e. rw (ne_eqb j.cell i.cell (λ q. omega arith)) e)
      (rising-above (suc i.cell) is h.1) (start_has (suc i.cell) is h.1),
)

-- ---- and nothing else does

pub start-only : (is : List Item) (c : ℕ) (v : ℤ) → start is (cell c) ≡ full v → Some (Gives c v) is
unfolding start put Some
start-only [] c v e = contradiction cc
start-only (i ∷ is) c v e = go (eqb c i.cell) refl e (start-only is c v)
  where
    go : (b : Bool) → eqb c i.cell ≡ b → pick b (full i.value) (start is (cell c)) ≡ full v →
        (start is (cell c) ≡ full v → Some (Gives c v) is) → Some (Gives c v) (i ∷ is)
    go true t q k = inl (sym (eqb-true c i.cell t), cc)
    go false t q k = inr (k q)

pub start-local : (is : List Item) (l : ℕ) → start is (local l) ≡ empty
unfolding start put
start-local [] l = refl
start-local (i ∷ is) l = start-local is l

pub start-valid : (D : Declared) (is : List Item) → Each (λ i. T (in_range D i.cell i.value)) is → Valid D (start is)
start-valid D is h (cell c) v e = each-some is (λ i t g. rw (g.0, g.1) at t) h (start-only is c v e)
start-valid D is h (local l) v e = contradiction (cc (start-local is l))

-- ---- fillings that keep the given values are those that match it

keeps-each : (is : List Item) (φ : Filling) → Keeps is φ ↔ Each (λ i. φ i.cell ≡ i.value) is
unfolding Keeps Each
keeps-each [] φ = (λ h. tt, λ h. tt)
keeps-each (i ∷ is) φ = let r = keeps-each is φ in (λ h. (h.0, r.0 h.1), λ h. (h.0, r.1 h.1))

-- the filling has each value that the start valuation has
abbrev pub Matches : List Item → Filling → Type 0
Matches is φ = (c : ℕ) (v : ℤ) → start is (cell c) ≡ full v → φ c ≡ v

pub keeps-matches : (is : List Item) (φ : Filling) → Keeps is φ → Matches is φ
keeps-matches is φ h c v e = each-some is (λ i k g. ap φ (sym g.0) ∙ k ∙ g.1) ((keeps-each is φ).0 h) (start-only is c v e)

pub matches-keeps : (floor : ℕ) (is : List Item) (φ : Filling) → Rising floor is → Matches is φ → Keeps is φ
matches-keeps floor is φ h m = (keeps-each is φ).1 (each_map (λ i e. m i.cell i.value e) is (start_has floor is h))
