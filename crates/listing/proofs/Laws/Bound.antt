-- A block is short, so that its length is a number of the machine: a number of 32 bits has at most ten digits. Assumes nothing.
use Prim.Native.Nat.{ℕ, zero, suc, ◌+◌, ◌-◌, ◌*◌, ◌^◌, ◌≤◌, ◌<◌}
use native.Mathlib.Omega.{arith}
use native.Mathlib.Nat.{suc-mul}
use mathlib.Core.Path.{◌≡◌, ap}
use mathlib.Core.Bool.{Bool, true, false}
use mathlib.Core.List.{List, [], ◌∷◌, ◌++◌}
use lib.ListN.{length, get_or, length-append}
use lib.Dec.{eqb}
use Rattle.specification.specs.Bytes.{Bytes, bytes, pick}
use Rattle.specification.specs.Number.{printℕ, printℤ}
use Rattle.specification.specs.Lines.{CellName, scalar, element}
use Rattle.specification.specs.Listing.{Line, cell_label, ◌is◌, label_text, lines_text}
use Rattle.specification.specs.Printed.{field_text}
use Rattle.specification.proofs.Laws.Blocks.{lines_text-++}
use Rattle.values.specs.Word.{signed}
use Rattle.tables.specs.Layout.{Words, cell_slot, flag_at, value_at, first_at, max_cells, max_arrays}
use Rattle.listing.specs.declared.Head.TheVariants.{Answer, Error}
use Rattle.listing.specs.declared.writer.Writer.{Writer}
use Rattle.listing.specs.Put.{Room, Writes}
use Rattle.listing.specs.Model.{Laid, each_line, line_at, scalar_line, element_line, array_lines, head_text, Headed}
use Rattle.listing.proofs.Laws.Digits.{length-within, value-bound}
use Rattle.listing.proofs.Laws.Pieces.{answer-pieces, error-pieces}

-- ---- lines in a row

-- each of the first m at most b long
each-bound : (f : ℕ → List Line) (m b : ℕ) → ((i : ℕ) → i < m → length (lines_text (f i)) ≤ b) →
    (i n : ℕ) → i + n ≤ m → length (lines_text (each_line f i n)) ≤ n * b
unfolding each_line lines_text
each-bound f m b h i zero l = omega arith
each-bound f m b h i (suc n) l =
    omega (
      arith,
      ap length (lines_text-++ (f i) (each_line f (suc i) n)),
      length-append (lines_text (f i)) (lines_text (each_line f (suc i) n)),
      h i (omega arith),
      each-bound f m b h (suc i) n (omega arith),
      suc-mul n b,
    )

-- ---- the head

-- a line whose number has at most k + 1 digits
pub field_bound : (key : Bytes) (k n : ℕ) → n < 10 ^ suc k → length (field_text key n) ≤ length key + suc (suc k)
field_bound key k n h =
    omega (arith, length-append key (printℕ n ++ bytes "\n"), length-append (printℕ n) (bytes "\n"), length-within k n h)

module _ (n : ℕ) (h : n < 4294967296) where
  pub answer-bound : length (head_text (Answer n)) ≤ 47
  answer-bound = omega (arith, ap length (answer-pieces n), field_bound (bytes "answer=") 9 n (omega arith))

  pub answer-headed : {u v : Writer} → u.at ≡ 0 → Writes u v (head_text (Answer n)) → Headed u v (Answer n)
  answer-headed s p = record { text = p; short = omega (arith, p.put.end, answer-bound) }

  module _ (kind token : ℕ) (k : kind < 4294967296) (t : token < 4294967296) where
    -- the three lines together
    pub error-fields :
        length (field_text (bytes "error=") n) + length (field_text (bytes "kind=") kind) + length (field_text (bytes "at=") token) ≤ 47
    error-fields =
        omega (
          arith,
          field_bound (bytes "error=") 9 n (omega arith),
          field_bound (bytes "kind=") 9 kind (omega arith),
          field_bound (bytes "at=") 9 token (omega arith),
        )

    error-bound : length (head_text (Error n kind token)) ≤ 47
    error-bound =
        let f = field_text (bytes "error=") n in
        let g = field_text (bytes "kind=") kind in
        let e = field_text (bytes "at=") token in
        omega (arith, ap length (error-pieces n kind token), length-append f (g ++ e), length-append g e, error-fields)

    pub error-headed : {u v : Writer} → u.at ≡ 0 → Writes u v (head_text (Error n kind token)) → Headed u v (Error n kind token)
    error-headed s p = record { text = p; short = omega (arith, p.put.end, error-bound) }

-- ---- the cells

module _ (w : Words) (word : (j : ℕ) → get_or w j 0 < 4294967296) where
  line-bound : (n : CellName) (c : ℕ) → length (label_text (cell_label n)) ≤ 22 → length (lines_text (line_at w n c)) ≤ 35
  unfolding line_at lines_text
  line-bound n c h = go (eqb (flag_at w c) 0)
    where
      go : (b : Bool) → length (lines_text (pick b [] (cell_label n is signed (value_at w c) ∷ []))) ≤ 35
      go true = omega arith
      go false =
          let v = printℤ (signed (value_at w c)) in
          omega (
            arith,
            length-append (label_text (cell_label n)) (bytes "=" ++ (v ++ bytes "\n")),
            length-append v (bytes "\n"),
            value-bound (value_at w c) (word (cell_slot c + 1)),
          )

  scalar-bound : (i : ℕ) → i < max_cells → length (lines_text (scalar_line w i)) ≤ 35
  unfolding label_text
  scalar-bound i h = line-bound (scalar i) i (omega (arith, length-within 9 i (omega arith)))

  element-bound : (a c i : ℕ) → a < max_arrays → i < max_cells → length (lines_text (element_line w a c i)) ≤ 35
  unfolding label_text
  element-bound a c i h l =
      line-bound (element a i) (c + i)
      (omega (arith, length-append (printℕ a) (bytes "." ++ printℕ i), length-within 9 a (omega arith), length-within 9 i (omega arith)))

  scalars-bound : (n : ℕ) → n ≤ max_cells → length (lines_text (each_line (scalar_line w) 0 n)) ≤ 35 * max_cells
  scalars-bound n h = omega (arith, each-bound (scalar_line w) max_cells 35 scalar-bound 0 n (omega arith))

  module _ (arrays : ℕ) (l : Laid w arrays) where
    array-bound : (a : ℕ) → a < arrays → length (lines_text (array_lines w a)) ≤ 35 * max_cells
    array-bound a h =
        let n = first_at w (a + 1) - first_at w a in
        omega (
          arith,
          each-bound (element_line w a (first_at w a)) max_cells 35 (λ i k. element-bound a (first_at w a) i (omega (arith, l.few)) k) 0 n
              (omega (arith, (l.spans a h).limit)),
          (l.spans a h).limit,
        )

    arrays-bound : length (lines_text (each_line (array_lines w) 0 arrays)) ≤ 286720
    arrays-bound = omega (arith, each-bound (array_lines w) arrays (35 * max_cells) array-bound 0 arrays (omega arith), l.few)

    -- after a short head there is room for the scalars, and then for the arrays
    module _ (scalars p : ℕ) (few : scalars ≤ max_cells) (short : p ≤ 47) where
      pub scalars-room : Room p (lines_text (each_line (scalar_line w) 0 scalars))
      scalars-room = omega (arith, scalars-bound scalars few)

      pub arrays-room : {q : ℕ} → q ≡ p + length (lines_text (each_line (scalar_line w) 0 scalars)) →
          Room q (lines_text (each_line (array_lines w) 0 arrays))
      arrays-room e = omega (arith, scalars-bound scalars few, arrays-bound)
