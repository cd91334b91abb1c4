-- Elements of arrays: where an array begins and ends among the cells, and an element from what the code tested. Assumes nothing.
use Prim.Native.Nat.{ℕ, suc, ◌+◌, ◌-◌, ◌<◌, ◌≤◌}
use native.Mathlib.Omega.{arith}
use native.Mathlib.Numerals.{add-one}
use mathlib.Core.Path.{◌≡◌, sym, ◌∙◌}
use borrow.Author.Tests.{lt-ltb, le-ltb}
use mathlib.Core.List.{List}
use lib.ListN.{length}
use lib.IntN.{ℤ, pos, negsuc}
use Rattle.specification.specs.Lines.{Declared, first_of, length_of}
use Rattle.specification.specs.Ast.{Term}
use Rattle.specification.specs.Place.{cell}
use Rattle.specification.specs.Value.{Valuation, val, bare, err, element_side}
use Rattle.specification.specs.Arithmetic.{outside_array}
use Rattle.specification.proofs.Laws.Elements.{first_next, first-limit}
use Rattle.values.specs.Word.{biased}
use Rattle.tables.specs.Layout.{cell_slot, first_at, max_cells}
use Rattle.sheet.specs.Tables.{Words}
use Rattle.terms.specs.declared.Stack.{Stack}
use Rattle.terms.specs.Results.{stack_of, error_of, Raised, Looked, value_tag}
use Rattle.terms.specs.Machine.{Context}
use Rattle.terms.specs.Parts.{Element, Elements}

-- ---- where arrays stand

module _ {w : Words} {p : ℕ} {D : Declared} {α : Valuation} {ts : List Term} (c : Context w p D α ts) (a : ℕ) (declared : a < length D.arrays) where
  pub first-at : first_at w a ≡ first_of D a
  first-at = c.arrays a (omega (arith, c.few))

  pub next-at : first_at w (a + 1) ≡ first_of D a + length_of D a
  next-at = rw add-one (c.arrays (suc a) (omega (arith, c.few)) ∙ first_next D a)

  pub elements : Elements w a
  elements =
      record {
        number = omega (arith, c.few);
        rising = omega (arith, first-at, next-at);
        last = rw add-one (omega (arith, c.arrays (suc a) (omega (arith, c.few)), first-limit D (suc a), c.cells));
        size = c.size;
      }

-- ---- one element

module _ {w : Words} {a : ℕ} {s : Stack} where
  pub element-raised : {r : Stack} → (s.tag ≡ value_tag → ⊥) → Raised s.tag s.value s.at r → Element w a s r
  unfolding element_side
  element-raised n h i D α ts (val z) c d e v = absurd (n e)
  element-raised n h i D α ts (bare p) c d e v = h (bare p) e v
  element-raised n h i D α ts (err κ) c d e v = h (err κ) e v

  -- an index that has a value
  element-value : {r : Stack} → s.tag ≡ value_tag →
      ((p : ℕ) (D : Declared) (α : Valuation) (ts : List Term) (z : ℤ) → Context w p D α ts → a < length D.arrays → s.value ≡ biased z →
      r ≡ stack_of s.at (element_side D α a (val z))) → Element w a s r
  element-value t h i D α ts (val z) c d e v = h i D α ts z c d v
  element-value t h i D α ts (bare p) c d e v = absurd (omega (arith, t, e))
  element-value t h i D α ts (err κ) c d e v = absurd (omega (arith, t, e))

  pub element-negative : {r : Stack} → r ≡ error_of outside_array s.at → s.tag ≡ value_tag → s.value < 2147483648 → Element w a s r
  unfolding element_side
  element-negative {r} q t l = element-value t go
    where
      go : (p : ℕ) (D : Declared) (α : Valuation) (ts : List Term) (z : ℤ) → Context w p D α ts → a < length D.arrays → s.value ≡ biased z →
          r ≡ stack_of s.at (element_side D α a (val z))
      go i D α ts (pos n) c d e = absurd (omega arith)
      go i D α ts (negsuc n) c d e = q

  module _ {first next : ℕ} (first-is : first ≡ first_at w a) (next-is : next ≡ first_at w (a + 1)) where
    pub element-outside : {r : Stack} → r ≡ error_of outside_array s.at → s.tag ≡ value_tag → 2147483648 ≤ s.value →
        next - first ≤ s.value - 2147483648 → Element w a s r
    unfolding element_side
    element-outside {r} q t l o = element-value t go
      where
        go : (p : ℕ) (D : Declared) (α : Valuation) (ts : List Term) (z : ℤ) → Context w p D α ts → a < length D.arrays → s.value ≡ biased z →
            r ≡ stack_of s.at (element_side D α a (val z))
        go i D α ts (pos n) c d e = rw (le-ltb n (length_of D a) (omega (arith, first-at c a d, next-at c a d))) q
        go i D α ts (negsuc n) c d e = absurd (omega arith)

    pub element-inside : {r : Stack} → s.tag ≡ value_tag → 2147483648 ≤ s.value → s.value - 2147483648 < next - first →
        Looked w (cell_slot (first + (s.value - 2147483648))) s.at r → Element w a s r
    unfolding element_side
    element-inside {r} t l o h = element-value t go
      where
        go : (p : ℕ) (D : Declared) (α : Valuation) (ts : List Term) (z : ℤ) → Context w p D α ts → a < length D.arrays → s.value ≡ biased z →
            r ≡ stack_of s.at (element_side D α a (val z))
        go i D α ts (pos n) c d e =
            let from = first-at c a d in
            let to = next-at c a d in
            let here = first_of D a + n in
            let below : here < max_cells = omega (arith, first-limit D (suc a), first_next D a, c.cells) in
            let slot : cell_slot here ≡ cell_slot (first + (s.value - 2147483648)) = omega arith in
            rw (lt-ltb n (length_of D a) (omega arith)) (h (cell here) (α (cell here)) slot (rw (sym slot) (c.holds.cells here below)))
        go i D α ts (negsuc n) c d e = absurd (omega arith)
