-- What the tables hold. A list of tokens: a formula among them, from its first token on. A sheet: its procedures and then its formula, the
-- given values and no others, the arrays' first cells; every other word is zero. Assumes nothing.
use Prim.Native.Nat.{ℕ, suc, ◌+◌, ◌≤◌, ◌<◌}
use native.Mathlib.Numerals.{add-one}
use native.Mathlib.Omega.{arith}
use mathlib.Core.Path.{◌≡◌, sym, ◌∙◌, ap, subst}
use mathlib.Core.Logic.{◌≢◌}
use mathlib.Core.List.{List, [], ◌++◌, append-nil, append_assoc}
use lib.ListN.{length, get_or, replicate, take, drop, length-replicate, length-append}
use Rattle.specification.specs.Lines.{Declared, procedure_of}
use Rattle.specification.specs.Given.{Item}
use Rattle.specification.specs.Ast.{Formula}
use Rattle.specification.specs.Sheet.{Sheet}
use Rattle.specification.specs.Place.{cell}
use Rattle.specification.specs.Value.{Slot, empty, full}
use Rattle.specification.specs.WellFormed.{WellFormed}
use Rattle.specification.specs.Outcome.{start}
use Rattle.specification.proofs.Laws.Lists.{each_map}
use Rattle.specification.proofs.Laws.Start.{start-local}
use Rattle.tables.specs.Layout.{max_tokens, max_cells, max_arrays, max_procs, max_ranges, cell_slot, local_slot, first_slot, proc_slot, token_slot, cells_at, locals_at, firsts_at, ranges_at, dues_at, path_at}
use Rattle.tables.specs.Ranges.{range_slot}
use Rattle.tables.proofs.Laws.Ranges.{SameRanges}
use Rattle.sheet.specs.declared.Token.{Token}
use Rattle.sheet.specs.Codes.{formula_tokens, procedures_tokens}
use Rattle.sheet.specs.Tables.{Words, laid_arrays, laid_cells, mark_of, laid_given, laid_tokens, declared_tables, tables_of, sheet_tokens, formula_start, tables}
use Rattle.sheet.specs.Held.{end_at, proc_at, FormulaAt, SlotAt, Holds, Marked, ArraysAt, RangesAt}
use Rattle.sheet.specs.Numbered.{Numbered}
use Rattle.sheet.proofs.After.{formula-subtree}
use Rattle.sheet.proofs.Laid.{tokens-other, ends-other, tokens-length, ends-length, Along, Entry, laid, skip, subtree}
use Rattle.sheet.proofs.Held.{formula-at}
use Rattle.sheet.proofs.Regions.{zeros, firsts-length, firsts-other, firsts-at, given-length, given-other, is_full, word_of, CellWords, given-at}
use Rattle.sheet.proofs.Marks.{span-limit, ranges-length, ranges-other}
use Rattle.sheet.proofs.Ranged.{Fitting, many-few, marks-held, ranges-held, ranges-keep}
use Rattle.sheet.proofs.Procs.{none, first_token, first_next, tokens-split, procs-length, procs-other, procs-at}

-- arrays, ranges and given values, without tokens
abbrev arrayed : Declared → ℕ → Words
arrayed D n = laid_arrays D (replicate n 0)

abbrev ranged : Declared → ℕ → Words
ranged D n = laid_cells D (replicate n 0)

abbrev valued : Declared → List Item → ℕ → Words
valued D is n = laid_given is (ranged D n)

arrayed-length : (D : Declared) (n : ℕ) → length (arrayed D n) ≡ n
unfolding laid_arrays
arrayed-length D n = firsts-length D 0 (suc max_arrays) (replicate n 0) ∙ length-replicate n 0

ranged-length : (D : Declared) (n : ℕ) → length (ranged D n) ≡ n
ranged-length D n = ranges-length D 0 D.ranges (arrayed D n) ∙ arrayed-length D n

valued-length : (D : Declared) (is : List Item) (n : ℕ) → length (valued D is n) ≡ n
valued-length D is n = given-length is (ranged D n) ∙ ranged-length D n

pub declared-length : (D : Declared) (is : List Item) (n : ℕ) → length (declared_tables D is n) ≡ n
declared-length D is n = procs-length 0 0 D.procedures (valued D is n) ∙ valued-length D is n

-- ---- a formula among the tokens

-- stands from its first token on, if it carries the numbers of its tokens there
pub formula-held : (D : Declared) (is : List Item) (xs : List Token) (F : Formula) (rest : List Token) (n : ℕ) → path_at ≤ n →
    length (xs ++ (formula_tokens F ++ rest)) ≤ max_tokens → Numbered (length xs) F → FormulaAt (tables_of D is (xs ++ (formula_tokens F ++ rest)) n) (length xs) F
formula-held D is xs F rest n enough few h =
    let ts = xs ++ (formula_tokens F ++ rest) in
    let w = tables_of D is ts n in
    let a = skip w xs (formula_tokens F ++ rest) 0 (laid ts (declared_tables D is n) (omega (arith, declared-length D is n))) in
    let e : 0 + length xs ≡ length xs = omega arith in
    formula-at w F rest (length xs) (subst (λ j. Along (Entry w) j (formula_tokens F ++ rest)) e a) h
    (omega (arith, length-append xs (formula_tokens F ++ rest), length-append (formula_tokens F) rest))

-- and ends after its last token
pub formula-ends : (D : Declared) (is : List Item) (xs : List Token) (F : Formula) (rest : List Token) (n : ℕ) → path_at ≤ n →
    length (xs ++ (formula_tokens F ++ rest)) ≤ max_tokens →
    end_at (tables_of D is (xs ++ (formula_tokens F ++ rest)) n) (length xs) ≡ length xs + length (formula_tokens F)
formula-ends D is xs F rest n enough few =
    let ts = xs ++ (formula_tokens F ++ rest) in
    let w = tables_of D is ts n in
    let a = skip w xs (formula_tokens F ++ rest) 0 (laid ts (declared_tables D is n) (omega (arith, declared-length D is n))) in
    let e : 0 + length xs ≡ length xs = omega arith in
    (subtree w (formula_tokens F) rest (length xs) (formula-subtree F) (subst (λ j. Along (Entry w) j (formula_tokens F ++ rest)) e a)).0

-- a procedure's tokens lie among those of the sheet
pub body-inside : (s : Sheet) (K : ℕ) → K < length s.declared.procedures →
    first_token s.declared.procedures K + length (formula_tokens (procedure_of s.declared K).formula) ≤ length (sheet_tokens s)
body-inside s K l =
    let Ps = s.declared.procedures in
    let xs = procedures_tokens (take K Ps) in
    let ys = formula_tokens (get_or Ps K none).formula in
    let zs = procedures_tokens (drop (suc K) Ps) in
    omega (
      arith,
      length-append (procedures_tokens Ps) (formula_tokens s.formula),
      ap length (tokens-split Ps K l),
      length-append xs (ys ++ zs),
      length-append ys zs,
    )

module _ (s : Sheet) (n : ℕ) (enough : path_at ≤ n) (few : length (sheet_tokens s) ≤ max_tokens) where
  abbrev first : Words
  first = arrayed s.declared n

  abbrev under : Words
  under = ranged s.declared n

  abbrev filled : Words
  filled = valued s.declared s.given n

  abbrev base : Words
  base = declared_tables s.declared s.given n

  pub tables-length : length (tables s n) ≡ n
  unfolding tables
  tables-length =
      let ts = sheet_tokens s in
      ends-length 0 ts (laid_tokens 0 ts base) ∙ tokens-length 0 ts base ∙ declared-length s.declared s.given n

  -- the formula F lies between the tokens xs and rest
  held-between : (xs : List Token) (F : Formula) (rest : List Token) → sheet_tokens s ≡ xs ++ (formula_tokens F ++ rest) → Numbered (length xs) F →
      FormulaAt (tables s n) (length xs) F
  unfolding tables
  held-between xs F rest e h =
      subst (λ ts. FormulaAt (tables_of s.declared s.given ts n) (length xs) F) (sym e)
      (formula-held s.declared s.given xs F rest n enough (omega (arith, few, ap length e)) h)

  pub held : Numbered (formula_start s) s.formula → FormulaAt (tables s n) (formula_start s) s.formula
  held h = held-between (procedures_tokens s.declared.procedures) s.formula [] (rw append-nil) h

  pub body-held : (K : ℕ) → K < length s.declared.procedures → Numbered (first_token s.declared.procedures K) (procedure_of s.declared K).formula →
      FormulaAt (tables s n) (first_token s.declared.procedures K) (procedure_of s.declared K).formula
  body-held K l h =
      let Ps = s.declared.procedures in
      held-between (procedures_tokens (take K Ps)) (get_or Ps K none).formula (procedures_tokens (drop (suc K) Ps) ++ formula_tokens s.formula)
      (ap (λ xs. xs ++ formula_tokens s.formula) (tokens-split Ps K l) ∙ rw (append_assoc, append_assoc)) h

  pub body-ends : (K : ℕ) → K < length s.declared.procedures →
      end_at (tables s n) (first_token s.declared.procedures K) ≡ first_token s.declared.procedures (suc K)
  unfolding tables
  body-ends K l =
      let Ps = s.declared.procedures in
      let xs = procedures_tokens (take K Ps) in
      let F = (get_or Ps K none).formula in
      let rest = procedures_tokens (drop (suc K) Ps) ++ formula_tokens s.formula in
      let e : sheet_tokens s ≡ xs ++ (formula_tokens F ++ rest) =
      ap (λ ts. ts ++ formula_tokens s.formula) (tokens-split Ps K l) ∙ rw (append_assoc, append_assoc) in
      subst (λ ts. end_at (tables_of s.declared s.given ts n) (length xs) ≡ length xs + length (formula_tokens F)) (sym e)
      (formula-ends s.declared s.given xs F rest n enough (omega (arith, few, ap length e)))
      ∙ sym (first_next Ps K l)

  -- ---- values and arrays

  -- beside the words of the tokens
  beside : (j : ℕ) → ((m : ℕ) → m < length (sheet_tokens s) → (j ≢ token_slot m) × (j ≢ token_slot m + 1) × (j ≢ token_slot m + 2)) →
      get_or (tables s n) j 0 ≡ get_or base j 0
  unfolding tables
  beside j h =
      let ts = sheet_tokens s in
      ends-other j 0 ts (laid_tokens 0 ts base) (λ m x y. (h m (omega arith)).2) ∙
      tokens-other j 0 ts base (λ m x y. let k = h m (omega arith) in (k.0, k.1))

  above : (j : ℕ) → cells_at ≤ j → get_or (tables s n) j 0 ≡ get_or base j 0
  above j h = beside j (λ m x. (omega arith, omega arith, omega arith))

  module _ (ok : WellFormed s) where
    -- beside the words of the procedures
    beside-procs : (j : ℕ) → ((m : ℕ) → m < max_procs → (j ≢ proc_slot m) × (j ≢ proc_slot m + 1)) → get_or base j 0 ≡ get_or filled j 0
    beside-procs j h = procs-other j 0 0 s.declared.procedures filled (λ m a b. h m (omega (arith, ok.limits.procedures)))

    -- the first token of a procedure
    pub first-held : (K : ℕ) → K < length s.declared.procedures → proc_at (tables s n) K ≡ first_token s.declared.procedures K
    first-held K h =
        let e : 0 + K ≡ K = omega arith in
        let f : 0 + first_token s.declared.procedures K ≡ first_token s.declared.procedures K = omega arith in
        above (proc_slot K) (omega arith) ∙
        (rw (e, f) at (procs-at s.declared.procedures 0 0 K filled h (omega (arith, ok.limits.procedures, valued-length s.declared s.given n))).0)

    fits : Fitting s.declared
    fits = record {
      many = ok.limits.ranges;
      ordered = ok.limits.ordered;
      few = omega (arith, ok.limits.scalars, ok.limits.arrays);
      small = ok.limits.cells;
    }

    -- beside the words of ranges and marks
    beside-ranges : (j : ℕ) → ((k : ℕ) → k < max_ranges → (j ≢ range_slot k) × (j ≢ range_slot k + 1)) → ((c : ℕ) → c < max_cells → j ≢ cell_slot c + 1) →
        get_or under j 0 ≡ get_or first j 0
    beside-ranges j k c =
        ranges-other s.declared j 0 s.declared.ranges first (λ i x y.
        let h = k i (omega (arith, many-few s.declared fits)) in
        record { low = h.0; high = h.1; marks = λ m t. c m (omega (arith, t.ends, span-limit s.declared i, ok.limits.cells)) })

    -- a word that holds neither a cell nor an array nor a procedure nor a range
    zero-base : (j : ℕ) → ((c : ℕ) → c < max_cells → (j ≢ cell_slot c) × (j ≢ cell_slot c + 1)) → ((m : ℕ) → m ≤ max_arrays → j ≢ first_slot m) →
        ((m : ℕ) → m < max_procs → (j ≢ proc_slot m) × (j ≢ proc_slot m + 1)) → ((k : ℕ) → k < max_ranges → (j ≢ range_slot k) × (j ≢ range_slot k + 1)) →
        get_or base j 0 ≡ 0
    unfolding laid_arrays
    zero-base j c a p k =
        beside-procs j p ∙
        given-other j s.given under (each_map (λ i h. c i.cell (omega (arith, ok.limits.cells))) s.given ok.declared) ∙
        beside-ranges j k (λ m l. (c m l).1) ∙
        firsts-other s.declared j 0 (suc max_arrays) (replicate n 0) (λ m x y. a m (omega arith)) ∙ zeros n j

    pub arrays-held : ArraysAt (tables s n) s.declared
    unfolding laid_arrays
    arrays-held a h =
        above (first_slot a) (omega arith) ∙
        beside-procs (first_slot a) (λ m x. (omega arith, omega arith)) ∙
        given-other (first_slot a) s.given under
        (each_map (λ i k. (omega (arith, ok.limits.cells), omega (arith, ok.limits.cells))) s.given ok.declared) ∙
        beside-ranges (first_slot a) (λ k x. (omega arith, omega arith)) (λ c x. omega arith) ∙
        firsts-at s.declared a 0 (suc max_arrays) (replicate n 0) (omega arith) (omega arith) (rw length-replicate (omega arith))

    no-array : (j : ℕ) → j < locals_at → get_or first j 0 ≡ 0
    unfolding laid_arrays
    no-array j h = firsts-other s.declared j 0 (suc max_arrays) (replicate n 0) (λ m x y. omega arith) ∙ zeros n j

    -- both words of each cell
    pub cells-held : (c : ℕ) → c < max_cells → CellWords c (mark_of s.declared c) (tables s n) (start s.given (cell c))
    cells-held c h =
        let long = arrayed-length s.declared n in
        let g = given-at c (mark_of s.declared c) 0 s.given under ok.rising h (omega (arith, ranged-length s.declared n)) (
          beside-ranges (cell_slot c) (λ k x. (omega arith, omega arith)) (λ m x. omega arith) ∙ no-array (cell_slot c) (omega arith),
          marks-held s.declared fits first (omega (arith, long)) c (no-array (cell_slot c + 1) (omega arith)) h,
        ) in (
          above (cell_slot c) (omega arith) ∙ beside-procs (cell_slot c) (λ m x. (omega arith, omega arith)) ∙ g.0,
          above (cell_slot c + 1) (omega arith) ∙ beside-procs (cell_slot c + 1) (λ m x. (omega arith, omega arith)) ∙ g.1,
        )

    pub ranges-at : RangesAt (tables s n) s.declared
    ranges-at = ranges-keep same (ranges-held s.declared fits first (omega (arith, arrayed-length s.declared n)))
      where
        still : (j : ℕ) → ranges_at ≤ j → j < dues_at → get_or (tables s n) j 0 ≡ get_or under j 0
        still j x y =
            above j (omega arith) ∙ beside-procs j (λ m l. (omega arith, omega arith)) ∙
            given-other j s.given under (each_map (λ i l. (omega (arith, ok.limits.cells), omega (arith, ok.limits.cells))) s.given ok.declared)

        same : SameRanges under (tables s n)
        same = record {
          lowest = λ k l. still (range_slot k) (omega arith) (omega arith);
          highest = λ k l. still (range_slot k + 1) (omega arith) (omega arith);
        }

    -- ---- every other word

    pub locals-zero : (j : ℕ) → locals_at ≤ j → j < firsts_at → get_or (tables s n) j 0 ≡ 0
    locals-zero j l h = above j (omega arith) ∙ zero-base j (λ c x. (omega arith, omega arith)) (λ m x. omega arith) (λ m x. (omega arith, omega arith)) (λ k x. (omega arith, omega arith))

    -- what is due while the formula is read, the spare words, and the path
    pub rest-zero : (j : ℕ) → dues_at ≤ j → get_or (tables s n) j 0 ≡ 0
    rest-zero j l = above j (omega arith) ∙ zero-base j (λ c x. (omega arith, omega arith)) (λ m x. omega arith) (λ m x. (omega arith, omega arith)) (λ k x. (omega arith, omega arith))

    -- ---- the start valuation

    pub start-marked : Marked (tables s n) s.declared (start s.given)
    start-marked = record {
      cells = λ c h e. rw (add-one, e) at (cells-held c h).1;
      locals = λ l h e. locals-zero (suc (local_slot l)) (omega arith) (omega arith);
    }

    pub start-held : Holds (tables s n) (start s.given)
    start-held = record {
      cells = λ c h. slot (cell_slot c) (mark_of s.declared c) (start s.given (cell c)) (cells-held c h).0 (rw add-one at (cells-held c h).1);
      locals = λ l h. rw start-local (locals-zero (local_slot l) (omega arith) (omega arith));
    }
      where
        slot : (j m : ℕ) (v : Slot) → get_or (tables s n) j 0 ≡ is_full v → get_or (tables s n) (suc j) 0 ≡ word_of m v → SlotAt (tables s n) j v
        slot j m empty x y = x
        slot j m (full z) x y = (x, y)
