-- The lines of given values and of the formula, from the answers of the code that reads each. Those before are in FirstLines, those of
-- procedures in ProcedureLines and ProcedureBody. Assumes nothing.
use Prim.Native.Nat.{ℕ}
use native.Mathlib.Omega.{arith}
use mathlib.Core.Path.{◌≡◌, refl, sym, ap, subst, ◌∙◌}
use Rattle.std.specs.Prelude.{Err}
use mathlib.Core.Bool.{Bool}
use mathlib.Core.List.{List, [], ◌++◌}
use lib.ListN.{length, replicate, length-append}
use Rattle.specification.specs.declared.refusals.Refusal.{Refusal}
use Rattle.specification.specs.Bytes.{Bytes, bytes, feed}
use Rattle.specification.specs.Parser.{Reader, Read, refused, found, give, and_then, ◌>>=◌, ◌>>◌, mark, key, finish}
use Rattle.specification.specs.Lines.{Declared}
use Rattle.specification.specs.Given.{Item}
use Rattle.specification.specs.Ast.{Formula}
use Rattle.specification.specs.Formula.{formula}
use Rattle.specification.specs.Sheet.{with_procedures, procedure_lines, most_procedures, Sheet, refuses, sheet}
use Rattle.tables.specs.Layout.{max_nesting}
use Rattle.sheet.specs.declared.formula.Limits.{Limits}
use Rattle.sheet.specs.declared.formula.Reached.{Reached}
use Rattle.sheet.specs.declared.reader.Progress.{Progress}
use Rattle.sheet.specs.Codes.{formula_tokens, procedures_tokens}
use Rattle.sheet.specs.Reader.{reader_at, line_at}
use Rattle.sheet.specs.Tables.{Words, laid_cells, laid_given, laid_procs, laid_tokens, declared_tables, tables}
use Rattle.sheet.specs.Items.{GivenFound, GivenDone}
use Rattle.sheet.specs.Stack.{Beside}
use Rattle.sheet.specs.Ends.{tokens_in}
use Rattle.sheet.specs.FormulaLine.{line_formula, formula_rest, refuses_in, Begin, begin, Laid, LineRead}
use Rattle.sheet.specs.Rest.{sheet_of, from_formula, from_procedures, from_given}
use Rattle.sheet.specs.Whole.{standing, Stopped, Ranged, Filled, Tabled, left_lines}
use Rattle.sheet.proofs.Left.{then_same}
use Rattle.sheet.proofs.Laid.{tokens-length}
use Rattle.sheet.proofs.Regions.{given-length}
use Rattle.sheet.proofs.Tables.{declared-length}
use Rattle.sheet.proofs.Bits.{bits_none}
use Rattle.sheet.proofs.Entries.{beside-self, beside-then}
use Rattle.sheet.proofs.Beside.{beside-tokens, beside-ends, tokens-both}
use Rattle.sheet.proofs.Subtrees.{beside-tokens-in}

-- ---- the given values

-- after them the sheet's reading goes on as the lines of procedures and the formula's line do
module _ (refusing : Bool) (D : Declared) (is : List Item) where
  abbrev whole : Formula → Reader → Read Sheet
  whole F = give (sheet_of D is F)

  formula-sheet : (r : Reader) →
      and_then (λ u. formula refusing D max_nesting [] >>= λ F. mark feed >> (finish >> whole F)) (key (bytes "formula=") r) ≡
      from_formula refusing D is r
  unfolding formula_rest line_formula
  formula-sheet r = by_key (key (bytes "formula=") r)
    where
      by_end : (F : Formula) (x : Read (Unit {0})) → and_then (λ u. whole F) x ≡ and_then whole (and_then (λ u. give F) x)
      by_end F (refused k p) = refl
      by_end F (found u r) = refl

      by-feed : (F : Formula) (x : Read (Unit {0})) → and_then (λ u. finish >> whole F) x ≡ and_then whole (and_then (λ G. finish >> give G) (and_then (λ u. give F) x))
      by-feed F (refused k p) = refl
      by-feed F (found u r) = by_end F (finish r)

      by-formula : (x : Read Formula) →
          and_then (λ F. mark feed >> (finish >> whole F)) x ≡ and_then whole (and_then (λ F. finish >> give F) (and_then (λ F. mark feed >> give F) x))
      by-formula (refused k p) = refl
      by-formula (found F r) = by-feed F (mark feed r)

      by_key : (x : Read (Unit {0})) →
          and_then (λ u. formula refusing D max_nesting [] >>= λ F. mark feed >> (finish >> whole F)) x ≡
          and_then whole (and_then (λ u. (formula refusing D max_nesting [] >>= λ F. mark feed >> give F) >>= λ F. finish >> give F) x)
      by_key (refused k p) = refl
      by_key (found u r) = by-formula (formula refusing D max_nesting [] r)

procedures-sheet : (refusing : Bool) (k : ℕ) (D : Declared) (is : List Item) (r : Reader) →
    and_then
    (λ Ps. let E = with_procedures Ps D in
    key (bytes "formula=") >> (formula refusing E max_nesting [] >>= λ F. mark feed >> (finish >> give (sheet_of E is F))))
    (procedure_lines refusing k D r) ≡
    from_procedures refusing k D is r
procedures-sheet refusing k D is r = then_same (λ Ps r₁. formula-sheet refusing (with_procedures Ps D) is r₁) (procedure_lines refusing k D r)

module _ (s : Bytes) (n : ℕ) (p : Progress) (w : Words) (h : Ranged s n p w) (w₁ : Words) where
  pub given-refused : (e : Refusal) → GivenDone h.declared s p.reached.at w w₁ (Err e) → Stopped p.limits.strict s e
  unfolding from_given
  given-refused e x = h.rest ∙ rw x.0

  pub given-found : {c : ℕ} → GivenFound h.declared s p.reached.at w w₁ c → Filled (left_lines p.limits) s n (standing p.limits c) w₁
  unfolding from_given laid_procs laid_tokens procedures_tokens
  given-found {c} f = at_place
    where
      d : Limits
      d = p.limits

      edition : ℕ
      edition = h.declared.edition

      most : most_procedures edition ≡ left_lines d
      most =
          let z : d.procedures ≡ 0 = sym h.counts.procedures ∙ ap length h.none in
          ap most_procedures h.counts.edition ∙ omega (arith, z)

      base : Words
      base = laid_given f.items (laid_cells h.declared (replicate n 0))

      same : w₁ ≡ base
      same = f.laid ∙ ap (laid_given f.items) h.words

      at_place : Filled (left_lines p.limits) s n (standing p.limits c) w₁
      at_place = record {
        declared = h.declared;
        items = f.items;
        locals = [];
        rest = h.rest ∙
            rw f.read (procedures-sheet (refuses d.strict edition) (most_procedures edition) h.declared f.items (line_at s c)) ∙
            ap (λ e. from_procedures (refuses d.strict e) (most_procedures edition) h.declared f.items (line_at s c)) h.counts.edition ∙
            ap (λ k. from_procedures (refuses_in d) k h.declared f.items (line_at s c)) most;
        counts = h.counts;
        plain = h.plain;
        small = h.small;
        set = bits_none;
        tokens = ap (λ Ps. length (procedures_tokens Ps)) h.none;
        few = omega arith;
        words = subst (λ Ps. Beside (laid_tokens 0 (procedures_tokens Ps) (laid_procs 0 0 Ps base)) w₁) (sym h.none) (subst (Beside base) (sym same) (beside-self base));
        long = ap length f.laid ∙ given-length f.items w ∙ h.long;
        enough = h.enough;
      }

-- ---- the formula

module _ (s : Bytes) (n : ℕ) (p : Progress) (w : Words) (h : Filled 0 s n p w) (w₁ : Words) where
  abbrev d : Limits
  d = p.limits

  abbrev x : Reached
  x = p.reached

  abbrev here : Begin
  here = begin s d x.at x.tokens h.locals

  abbrev on_formula : Read Formula → Read Sheet
  on_formula y = and_then (λ F. give (sheet_of h.declared h.items F)) y

  -- no procedures are left
  formula-next : sheet d.strict (line_at s 0) ≡ on_formula (formula_rest (refuses_in d) h.declared (reader_at s x.at x.tokens h.locals))
  unfolding procedure_lines
  formula-next = h.rest

  pub formula-refused : (e : Refusal) → LineRead here h.declared w w₁ (Err e) → Stopped d.strict s e
  formula-refused e y = formula-next ∙ ap on_formula y.0

  pub formula-found : (t e m : ℕ) → Laid here h.declared w w₁ t →
      Tabled s n (record { limits = d; reached = record { first = x.tokens; tokens = t; bound = m; at = e } }) w₁
  unfolding tables
  formula-found t e m l =
      let T = procedures_tokens h.declared.procedures in
      let ts = formula_tokens l.formula in
      let base = declared_tables h.declared h.items n in
      let long : length base ≡ n = declared-length h.declared h.items n in
      let size = length-append T ts in
      let there : tokens_in w 0 x.tokens ≡ T =
      ap (tokens_in w 0) (sym h.tokens) ∙ beside-tokens-in T base w (omega (arith, h.tokens, h.few)) (omega (arith, long, h.enough)) h.words in
      let laid = beside-tokens ts x.tokens (rw tokens-length (omega (arith, long, h.enough, l.count, l.few))) h.words in
      let from : laid_tokens 0 (T ++ ts) base ≡ laid_tokens x.tokens ts (laid_tokens 0 T base) =
      tokens-both T ts 0 base ∙ ap (λ i. laid_tokens i ts (laid_tokens 0 T base)) (omega (arith, h.tokens)) in
      record {
        whole = sheet_of h.declared h.items l.formula;
        after = l.after;
        is = formula-next ∙ ap on_formula l.is;
        scalars = h.counts.scalars;
        arrays = h.counts.arrays;
        tokens = omega (arith, size, h.tokens, l.count);
        first = h.tokens;
        words = rw from (beside-then (beside-ends (T ++ ts) 0
            (rw (tokens-length, tokens-length) (omega (arith, size, long, h.enough, h.tokens, l.count, l.few))) laid) (rw there at l.words));
      }

-- ---- over as many words

pub filled-long : {k : ℕ} {s : Bytes} {n m : ℕ} {p : Progress} {w : Words} → n ≡ m → Filled k s n p w → Filled k s m p w
filled-long {k} {s} {n} {m} {p} {w} e h = subst (λ i. Filled k s i p w) e h

pub tabled-long : {s : Bytes} {n m : ℕ} {p : Progress} {w : Words} → n ≡ m → Tabled s n p w → Tabled s m p w
tabled-long {s} {n} {m} {p} {w} e h = subst (λ i. Tabled s i p w) e h
