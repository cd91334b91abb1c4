-- A block's lines in the pieces that are put one after the other. Assumes nothing.
use Prim.Native.Nat.{ℕ, ◌+◌}
use mathlib.Core.Path.{◌≡◌, refl, sym, ◌∙◌, ap}
use mathlib.Core.List.{[], ◌∷◌, ◌++◌, append_assoc}
use native.Mathlib.Omega.{arith}
use lib.ListN.{length, length-append}
use borrow.Author.Tests.{eq-eqb, ne_eqb}
use Rattle.specification.specs.Bytes.{Bytes, bytes}
use Rattle.specification.specs.Number.{printℕ, printℤ}
use Rattle.specification.specs.Lines.{CellName, scalar, element}
use Rattle.specification.specs.Listing.{cell_label, head_lines, label_text, lines_text}
use Rattle.specification.specs.Printed.{field_text}
use Rattle.listing.specs.declared.Head.TheVariants.{Answer, Error}
use Rattle.listing.specs.Put.{end_text}
use Rattle.listing.specs.Model.{line_at, head_text}
use Rattle.tables.specs.Layout.{Words, flag_at, value_at}

-- ---- a cell's line

module _ (w : Words) (c f : ℕ) (flag : f ≡ flag_at w c) where
  pub no_line : (n : CellName) → f ≡ 0 → lines_text (line_at w n c) ≡ []
  unfolding line_at lines_text
  no_line n h = rw (eq-eqb (flag_at w c) 0 (sym flag ∙ h))

  module _ (some : f ≡ 0 → ⊥) (v : ℕ) (value : v ≡ value_at w c) where
    -- its name, and what stands after it
    pub line-pieces : (n : CellName) → lines_text (line_at w n c) ≡ label_text (cell_label n) ++ end_text v
    unfolding line_at lines_text
    line-pieces n = rw (ne_eqb (flag_at w c) 0 (λ k. some (flag ∙ k)), value)

pub scalar-pieces : (n : ℕ) → label_text (cell_label (scalar n)) ≡ 118 ∷ printℕ n
unfolding label_text
scalar-pieces n = refl

pub element-pieces : (a e : ℕ) → label_text (cell_label (element a e)) ≡ 97 ∷ (printℕ a ++ 46 ∷ printℕ e)
unfolding label_text
element-pieces a e = refl

pub element-length : (a e : ℕ) → length (label_text (cell_label (element a e))) ≡ 2 + length (printℕ a) + length (printℕ e)
element-length a e = omega (arith, ap length (element-pieces a e), length-append (printℕ a) (46 ∷ printℕ e))

-- ---- the head

pub answer-pieces : (n : ℕ) → head_text (Answer n) ≡ field_text (bytes "answer=") n
unfolding head_lines lines_text label_text printℤ
answer-pieces n = refl

-- a line and what follows it
field-then : (key : Bytes) (n : ℕ) (r : Bytes) → key ++ (printℕ n ++ (bytes "\n" ++ r)) ≡ field_text key n ++ r
field-then key n r = simp append_assoc

pub error-pieces : (n kind token : ℕ) →
    head_text (Error n kind token)
    ≡ field_text (bytes "error=") n ++ (field_text (bytes "kind=") kind ++ field_text (bytes "at=") token)
unfolding head_lines lines_text label_text printℤ
error-pieces n kind token =
    field-then (bytes "error=") n (bytes "kind=" ++ (printℕ kind ++ (bytes "\n" ++ field_text (bytes "at=") token))) ∙
    ap (λ r. field_text (bytes "error=") n ++ r) (field-then (bytes "kind=") kind (field_text (bytes "at=") token))
