-- The lines of a block are those of the declared cells that have a value, with that value, in cell order; what a filling that agrees with
-- them is. Assumes nothing.
use Prim.Native.Nat.{ℕ, zero, suc, ◌+◌, ◌≤◌, ◌<◌}
use native.Mathlib.Omega.{arith}
use mathlib.Core.Path.{◌≡◌, refl, sym, ◌∙◌, ap}
use mathlib.Core.Bool.{true}
use mathlib.Core.Logic.{inl, inr}
use mathlib.Core.List.{List, [], ◌∷◌, map}
use lib.IntN.{ℤ}
use Rattle.specification.specs.Lines.{Declared, CellName, cells, is_declared, cell_of}
use Rattle.specification.specs.Place.{cell}
use Rattle.specification.specs.Value.{Slot, empty, full, Valuation}
use Rattle.specification.specs.Listing.{Named, cell_names, named_if, valued}
use Rattle.specification.specs.Plain.{Filling}
use Rattle.specification.specs.Lists.{Each, Some}
use Rattle.specification.proofs.Laws.Contradiction.{contradiction}
use Rattle.specification.proofs.Laws.Lists.{each_map, some-elim, some-and-each, each-of-map, some-of-map}
use Rattle.specification.proofs.Laws.Names.{from, each_from, some-from, name-cells, Known, names-declared, names-below}

-- each cell below those of all lines after it
unfoldable pub Rising : Declared → List Named → Type 0
Rising D [] = Unit {0}
Rising D (n ∷ ns) = Each (λ m. cell_of D n.name < cell_of D m.name) ns × Rising D ns

module _ (D : Declared) (β : Valuation) where
  -- ---- each line is of a declared cell, and has its value

  -- the line's value is that of its cell
  abbrev HasValue : Named → Type 0
  HasValue n = β (cell (cell_of D n.name)) ≡ full n.value

  valued-each : (P : CellName → Type 0) (ns : List CellName) → Each P ns → Each (λ n. P n.name × HasValue n) (valued D β ns)
  unfolding valued Each
  valued-each P [] h = tt
  valued-each P (n ∷ ns) h = go (β (cell (cell_of D n))) refl (valued-each P ns h.1)
    where
      go : (s : Slot) → β (cell (cell_of D n)) ≡ s → Each (λ m. P m.name × HasValue m) (valued D β ns) →
          Each (λ m. P m.name × HasValue m) (named_if n s (valued D β ns))
      go empty e k = k
      go (full v) e k = ((h.0, e), k)

  pub valued-only :
      Each (λ n. (is_declared D n.name ≡ true) × (β (cell (cell_of D n.name)) ≡ full n.value)) (valued D β (cell_names D))
  valued-only = valued-each (Known D) (cell_names D) (names-declared D)

  -- ---- each cell that has a value has its line

  module _ (c : ℕ) (v : ℤ) (e : β (cell c) ≡ full v) where
    -- the line of this cell, with this value
    abbrev Here : Named → Type 0
    Here n = (cell_of D n.name ≡ c) × (n.value ≡ v)

    some-later : (n : CellName) (s : Slot) (ms : List Named) → Some Here ms → Some Here (named_if n s ms)
    unfolding Some
    some-later n empty ms h = h
    some-later n (full z) ms h = inr h

    valued-some : (ns : List CellName) → Some (λ n. cell_of D n ≡ c) ns → Some Here (valued D β ns)
    unfolding valued Some
    valued-some [] h = absurd h
    valued-some (n ∷ ns) (inl h) = rw (ap (λ x. β (cell x)) h ∙ e) (inl (h, refl))
    valued-some (n ∷ ns) (inr h) = some-later n (β (cell (cell_of D n))) (valued D β ns) (valued-some ns h)

  pub names-valued : (c : ℕ) → c < cells D → (v : ℤ) → β (cell c) ≡ full v →
      Some (λ n. (cell_of D n.name ≡ c) × (n.value ≡ v)) (valued D β (cell_names D))
  names-valued c l v e =
      valued-some c v e (cell_names D)
      (some-of-map (λ d. d ≡ c) (cell_of D) (cell_names D) (rw (name-cells D) (some-from 0 (cells D) c (omega arith) (omega arith))))

  -- ---- a filling that agrees with the lines

  -- it has the value of each cell that has one
  pub agrees-matches : (φ : Filling) → Each (λ n. φ (cell_of D n.name) ≡ n.value) (valued D β (cell_names D)) →
      (c : ℕ) → c < cells D → (v : ℤ) → β (cell c) ≡ full v → φ c ≡ v
  agrees-matches φ h c l v e =
      some-elim (λ n k. ap φ (sym k.0.0) ∙ k.1 ∙ k.0.1) (valued D β (cell_names D))
      (some-and-each (λ n. (cell_of D n.name ≡ c) × (n.value ≡ v)) (λ n. φ (cell_of D n.name) ≡ n.value)
      (valued D β (cell_names D)) (names-valued c l v e) h)

  -- and a filling that has those agrees
  pub matches-agrees : (φ : Filling) → ((c : ℕ) → c < cells D → (v : ℤ) → β (cell c) ≡ full v → φ c ≡ v) →
      Each (λ n. φ (cell_of D n.name) ≡ n.value) (valued D β (cell_names D))
  matches-agrees φ f =
      each_map (λ n h. f (cell_of D n.name) h.0 n.value h.1) (valued D β (cell_names D))
      (valued-each (λ n. cell_of D n < cells D) (cell_names D) (names-below D))

  -- ---- the order of the lines

  rises : (ns : List CellName) (i k : ℕ) → map (cell_of D) ns ≡ from i k → Rising D (valued D β ns)
  unfolding from valued Rising
  rises [] i k e = tt
  rises (n ∷ ns) i zero e = contradiction cc
  rises (n ∷ ns) i (suc k) e =
      let p : cell_of D n ≡ i = cc in
      let q : map (cell_of D) ns ≡ from (suc i) k = cc in
      let b = each-of-map (λ c. (suc i ≤ c) × (c < suc i + k)) (cell_of D) ns (rw q (each_from (suc i) k)) in
      go (β (cell (cell_of D n)))
      (each_map (λ m h. omega (arith, p, h.0.0)) (valued D β ns)
      (valued-each (λ m. (suc i ≤ cell_of D m) × (cell_of D m < suc i + k)) ns b))
      (rises ns (suc i) k q)
    where
      go : (s : Slot) → Each (λ m. cell_of D n < cell_of D m.name) (valued D β ns) →
          Rising D (valued D β ns) → Rising D (named_if n s (valued D β ns))
      go empty a r = r
      go (full v) a r = (a, r)

  pub valued-rises : Rising D (valued D β (cell_names D))
  valued-rises = rises (cell_names D) 0 (cells D) (name-cells D)
