-- The model's block is the specification's, where the work words hold the declarations and the valuation; so what is written of the one is
-- written of the other. Assumes nothing.
use Prim.Native.Nat.{ℕ, zero, suc, ◌+◌, ◌-◌, ◌≤◌, ◌<◌}
use native.Mathlib.Omega.{arith}
use native.Mathlib.Numerals.{add-one}
use mathlib.Core.Path.{◌≡◌, refl, sym, ◌∙◌, ap}
use mathlib.Core.List.{List, [], ◌∷◌, ◌++◌}
use lib.ListN.{length, get_or, drop, drop_of_length-le}
use lib.Seq.{drop-cons, sets-eq}
use borrow.Author.Tests.{eq-eqb, ne_eqb}
use Rattle.specification.specs.Bytes.{Bytes}
use Rattle.specification.proofs.Laws.Elements.{first_next, first-limit}
use Rattle.specification.specs.Lines.{length_of, Declared, CellName, scalar, element, cells, first_of, cell_of}
use Rattle.specification.specs.Place.{cell}
use Rattle.specification.specs.Value.{Slot, empty, full, Valuation}
use Rattle.specification.specs.Listing.{Named, named_if, valued, scalar_names, element_names, array_names, cell_names, block_of}
use Rattle.specification.specs.Listing.{cell_label, ◌is◌, head_lines, cell_lines, block_lines, lines_text, block_text}
use Rattle.specification.proofs.Laws.Allowed.{in_range-in32}
use Rattle.specification.proofs.Laws.Blocks.{lines_text-++}
use Rattle.values.specs.Word.{signed}
use Rattle.values.proofs.Laws.Word.{signed-biased}
use Rattle.tables.specs.Layout.{Words, cell_slot, flag_at, first_at, max_cells, max_arrays}
use Rattle.sheet.specs.Held.{SlotAt}
use Rattle.listing.specs.declared.Head.{Head}
use Rattle.std.specs.Prelude.{Some, None}
use Rattle.listing.specs.Put.{Put}
use Rattle.listing.specs.Model.{Laid, each_line, line_at, scalar_line, element_line, array_lines, head_of, model_text}
use Rattle.listing.specs.Block.{Shows, Wrote}

-- ---- the arrays' cells

-- as the code has the next array's number
first-after : (D : Declared) (a : ℕ) → first_of D (a + 1) ≡ first_of D a + get_or D.arrays a 0
unfolding length_of
first-after D a = rw (add-one a) (first_next D a)

-- ---- the lines of the cells

module _ {w : Words} {scalars arrays : ℕ} {D : Declared} {β : Valuation} (s : Shows w scalars arrays D β) where
  pub few-scalars : scalars ≤ max_cells
  unfolding cells
  few-scalars = omega (arith, s.limit, s.scalar_count)

  pub laid : Laid w arrays
  laid =
      record {
        size = s.size;
        few = s.few;
        spans = λ a h.
            let k = s.few in
            let e = s.firsts (a + 1) (omega arith) in
            record {
              rising = omega (arith, s.firsts a (omega arith), first-after D a);
              limit = omega (arith, first-limit D (a + 1), s.limit);
            };
      }

  cell-line : (n : CellName) → cell_of D n < max_cells → (ns : List Named) →
      cell_lines (named_if n (β (cell (cell_of D n))) ns) ≡ line_at w n (cell_of D n) ++ cell_lines ns
  unfolding line_at cell_lines
  cell-line n h ns = go (β (cell (cell_of D n))) refl (s.holds.cells (cell_of D n) h)
    where
      go : (t : Slot) → β (cell (cell_of D n)) ≡ t → SlotAt w (cell_slot (cell_of D n)) t →
          cell_lines (named_if n t ns) ≡ line_at w n (cell_of D n) ++ cell_lines ns
      go empty e k = rw (eq-eqb (flag_at w (cell_of D n)) 0 k)
      go (full z) e k =
          let v = ap (λ j. get_or w j 0) {x = cell_slot (cell_of D n) + 1} {y = suc (cell_slot (cell_of D n))} (omega arith) ∙ k.1 in
          rw (ne_eqb (flag_at w (cell_of D n)) 0 (λ q. omega (arith, k.0)))
          (ap (λ y. (cell_label n is y) ∷ cell_lines ns) (sym (ap signed v ∙ signed-biased z (in_range-in32 D (cell_of D n) z (s.valid (cell (cell_of D n)) z e)))))

  scalar-lines : (i n : ℕ) → i + n ≤ max_cells → cell_lines (valued D β (scalar_names i n)) ≡ each_line (scalar_line w) i n
  unfolding scalar_names valued cell_lines each_line cell_of
  scalar-lines i zero h = refl
  scalar-lines i (suc n) h =
      cell-line (scalar i) (omega arith) (valued D β (scalar_names (suc i) n)) ∙
      ap (λ ls. line_at w (scalar i) i ++ ls) (scalar-lines (suc i) n (omega arith))

  element-lines : (a i n : ℕ) → first_of D a + (i + n) ≤ max_cells →
      cell_lines (valued D β (element_names a i n)) ≡ each_line (element_line w a (first_of D a)) i n
  unfolding element_names valued cell_lines each_line cell_of
  element-lines a i zero h = refl
  element-lines a i (suc n) h =
      cell-line (element a i) (omega arith) (valued D β (element_names a (suc i) n)) ∙
      ap (λ ls. line_at w (element a i) (first_of D a + i) ++ ls) (element-lines a (suc i) n (omega arith))

  lines-++ : (xs ys : List CellName) →
      cell_lines (valued D β (xs ++ ys)) ≡ cell_lines (valued D β xs) ++ cell_lines (valued D β ys)
  unfolding valued cell_lines
  lines-++ [] ys = refl
  lines-++ (x ∷ xs) ys = go (β (cell (cell_of D x))) (lines-++ xs ys)
    where
      go : (t : Slot) → cell_lines (valued D β (xs ++ ys)) ≡ cell_lines (valued D β xs) ++ cell_lines (valued D β ys) →
          cell_lines (named_if x t (valued D β (xs ++ ys))) ≡ cell_lines (named_if x t (valued D β xs)) ++ cell_lines (valued D β ys)
      go empty e = e
      go (full z) e = ap (λ ls. (cell_label x is z) ∷ ls) e

  -- one array
  one-array : (a n : ℕ) → a < max_arrays → n ≡ get_or D.arrays a 0 → cell_lines (valued D β (element_names a 0 n)) ≡ array_lines w a
  one-array a n h e =
      let f = s.firsts a (omega arith) in
      let g = s.firsts (a + 1) (omega arith) ∙ first-after D a in
      let d : n ≡ first_at w (a + 1) - first_at w a = omega (arith, f, g) in
      element-lines a 0 n (omega (arith, first-after D a, first-limit D (a + 1), s.limit)) ∙
      ap (λ k. each_line (element_line w a (first_of D a)) 0 k) d ∙
      ap (λ k. each_line (element_line w a k) 0 (first_at w (a + 1) - first_at w a)) (sym f)

  array-lines : (n a : ℕ) → a + n ≡ arrays → cell_lines (valued D β (array_names a (drop a D.arrays))) ≡ each_line (array_lines w) a n
  unfolding array_names valued cell_lines each_line
  array-lines zero a e = rw (drop_of_length-le D.arrays {i = a} (omega (arith, s.array_count)))
  array-lines (suc n) a e =
      rw (drop-cons D.arrays a 0 (omega (arith, s.array_count)))
      (lines-++ (element_names a 0 (get_or D.arrays a 0)) (array_names (suc a) (drop (suc a) D.arrays)) ∙
      ap (λ ls. ls ++ cell_lines (valued D β (array_names (suc a) (drop (suc a) D.arrays))))
      (one-array a (get_or D.arrays a 0) (omega (arith, s.few)) refl) ∙
      ap (λ ls. array_lines w a ++ ls) (array-lines n (suc a) (omega arith)))

  -- ---- the block

  all_lines : cell_lines (valued D β (cell_names D)) ≡ each_line (scalar_line w) 0 scalars ++ each_line (array_lines w) 0 arrays
  unfolding cell_names cells
  all_lines =
      lines-++ (scalar_names 0 D.scalars) (array_names 0 D.arrays) ∙
      ap (λ ls. ls ++ cell_lines (valued D β (array_names 0 D.arrays)))
      (scalar-lines 0 D.scalars (omega (arith, s.limit)) ∙ ap (λ k. each_line (scalar_line w) 0 k) (sym s.scalar_count)) ∙
      ap (λ ls. each_line (scalar_line w) 0 scalars ++ ls) (array-lines arrays 0 (omega arith))

  pub shown : (h : Head) → model_text w scalars arrays h ≡ block_text (block_of D (head_of h) β)
  unfolding block_of block_text block_lines
  shown h =
      sym (lines_text-++ (head_lines (head_of h)) (cell_lines (valued D β (cell_names D))) ∙
      ap (λ t. lines_text (head_lines (head_of h)) ++ t)
      (ap lines_text all_lines ∙ lines_text-++ (each_line (scalar_line w) 0 scalars) (each_line (array_lines w) 0 arrays)))

  -- ---- what is written

  module _ (h : Head) {o : Bytes} {n : ℕ} (e : n ≡ length (model_text w scalars arrays h)) where
    pub wrote_none : length o < n → Wrote (block_text (block_of D (head_of h) β)) o o None
    wrote_none l = (omega (arith, e, ap length (shown h)), refl)

    pub wrote-all : {o' : Bytes} {r : ℕ} → n ≤ length o → Put o o' 0 (model_text w scalars arrays h) r →
        Wrote (block_text (block_of D (head_of h) β)) o o' (Some n)
    wrote-all l p =
        let t = model_text w scalars arrays h in
        rw (← shown h) (e, l, p.bytes ∙ sets-eq t o 0 (omega (arith, e)) ∙ ap (λ k. t ++ drop k o) {x = 0 + length t} {y = n} (omega (arith, e)))
