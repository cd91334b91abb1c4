-- The formula of a procedure's line: what is known where it begins, and what is read after it. Assumes nothing.
use Prim.Native.Nat.{ℕ, zero, suc, pred, ◌+◌, ◌≤◌, ◌<◌}
use native.Mathlib.Numerals.{add-one}
use native.Mathlib.Omega.{arith}
use mathlib.Core.Path.{◌≡◌, refl, sym, ap, ◌∙◌}
use Rattle.std.specs.Prelude.{Err}
use mathlib.Core.List.{List, [], ◌∷◌, ◌++◌}
use lib.ListN.{length, get_or, set, replicate, length-append, length-set}
use Rattle.specification.specs.declared.refusals.Refusal.{Refusal}
use Rattle.specification.specs.Bytes.{Bytes}
use Rattle.specification.specs.Parser.{and_then}
use Rattle.specification.specs.Lines.{Range, Declared, first_of, length_of, procedure_of}
use Rattle.specification.specs.Ast.{Procedure}
use Rattle.specification.specs.Sheet.{with_parameters, with_procedures}
use Rattle.tables.specs.Layout.{max_parameters, max_arrays, proc_slot, first_slot, parameters_at}
use Rattle.sheet.specs.declared.Token.{Token}
use Rattle.sheet.specs.declared.formula.Limits.{Limits}
use Rattle.sheet.specs.declared.formula.Reached.{Reached}
use Rattle.sheet.specs.declared.reader.Progress.{Progress}
use Rattle.sheet.specs.Codes.{formula_tokens, procedures_tokens}
use Rattle.sheet.specs.Reader.{reader_at}
use Rattle.sheet.specs.Tables.{Words, laid_firsts, laid_arrays, range_first, range_width, laid_range, laid_ranges, laid_cells, laid_given, laid_procs, laid_tokens, declared_tables}
use Rattle.sheet.specs.Stack.{Beside}
use Rattle.sheet.specs.FormulaLine.{refuses_in, Small, Sized, Known, Begin, begin, Closed, Closes}
use Rattle.sheet.specs.Rest.{from_procedures, one_more, limits}
use Rattle.sheet.specs.Whole.{Stopped, Filled, left_lines, Begun, OneMore}
use Rattle.sheet.proofs.Laid.{tokens-other, tokens-length}
use Rattle.sheet.proofs.Tables.{declared-length}
use Rattle.sheet.proofs.Procs.{none, tokens-one-more, entered, procs-length, procs-at, procs-more}
use Rattle.sheet.proofs.Entries.{beside-then}
use Rattle.sheet.proofs.Beside.{beside-set, beside-tokens, tokens-both, tokens-set}
use Rattle.sheet.proofs.AllLines.{filled-long}
use Rattle.sheet.proofs.ProcedureLines.{few-procedures}

-- ---- where it begins

-- the words have the procedures
module _ (k : ℕ) (s : Bytes) (n : ℕ) (p : Progress) (w : Words) (h : Filled k s n p w) where
  supplied : (K : ℕ) → K < p.limits.procedures → parameters_at w K ≡ (procedure_of h.declared K).parameters
  supplied K l =
      let Ps = h.declared.procedures in
      let given = laid_given h.items (laid_cells h.declared (replicate n 0)) in
      let e : 0 + K ≡ K = omega arith in
      let long : length given ≡ n = sym (procs-length 0 0 Ps given) ∙ declared-length h.declared h.items n in
      h.words.below (proc_slot K + 1) (omega (arith, h.small.procedures)) ∙
      tokens-other (proc_slot K + 1) 0 (procedures_tokens Ps) (declared_tables h.declared h.items n) (λ m a b. (omega (arith, h.tokens, h.few), omega (arith, h.tokens, h.few))) ∙
      (rw e at (procs-at Ps 0 0 K given (omega (arith, h.counts.procedures)) (omega (arith, long, h.enough, h.counts.procedures, h.small.procedures))).1)

  pub filled-known : Known p.limits w h.declared
  filled-known = record { counts = h.counts; supplied = supplied }

  pub filled-sized : Sized p.limits w
  filled-sized K l = rw (supplied K l) (h.counts.limited.each K)

-- in the line with m parameters
abbrev pub in_line : Limits → ℕ → Limits
in_line d m = limits d.strict d.edition d.scalars d.locals d.arrays d.procedures m

module _ (s : Bytes) (n : ℕ) (p : Progress) (m from : ℕ) (w : Words) (h : Begun s n p m from w) where
  abbrev f : Filled (left_lines p.limits) s n p w
  f = h.filled

  pub line_small : Small (in_line p.limits m)
  line_small = let z = f.small in record { scalars = z.scalars; locals = z.locals; arrays = z.arrays; procedures = z.procedures }

  pub line-sized : Sized (in_line p.limits m) w
  line-sized K l = filled-sized (left_lines p.limits) s n p w f K l

  pub line_known : Known (in_line p.limits m) w (with_parameters m f.declared)
  line_known =
      let c = f.counts in
      let l = c.limited in
      record {
        counts = record {
          edition = c.edition;
          scalars = c.scalars;
          locals = c.locals;
          arrays = c.arrays;
          procedures = c.procedures;
          parameters = refl;
          limited = record { scalars = l.scalars; locals = l.locals; arrays = l.arrays; procedures = l.procedures; each = l.each; parameters = h.parameters };
        };
        supplied = (filled-known (left_lines p.limits) s n p w f).supplied;
      }

-- ---- one procedure more

few-more : (Ps : List Procedure) (P : Procedure) → ((K : ℕ) → (get_or Ps K none).parameters ≤ max_parameters) → P.parameters ≤ max_parameters →
    (K : ℕ) → (get_or (Ps ++ (P ∷ [])) K none).parameters ≤ max_parameters
few-more [] P h l zero = l
few-more [] P h l (suc K) = omega arith
few-more (Q ∷ Ps) P h l zero = h zero
few-more (Q ∷ Ps) P h l (suc K) = few-more Ps P (λ J. h (suc J)) l K

-- the arrays and ranges stay
firsts_same : (D : Declared) (Ps : List Procedure) (a n : ℕ) (w : Words) → laid_firsts (with_procedures Ps D) a n w ≡ laid_firsts D a n w
unfolding laid_firsts first_of
firsts_same D Ps a zero w = refl
firsts_same D Ps a (suc n) w = firsts_same D Ps (suc a) n (set w (first_slot a) (first_of D a))

ranges-same : (D : Declared) (Ps : List Procedure) (rs : List Range) (k : ℕ) (w : Words) → laid_ranges (with_procedures Ps D) k rs w ≡ laid_ranges D k rs w
unfolding laid_ranges range_first range_width first_of length_of
ranges-same D Ps [] k w = refl
ranges-same D Ps (r ∷ rs) k w = ranges-same D Ps rs (suc k) (laid_range D k r w)

cells_same : (D : Declared) (Ps : List Procedure) (w : Words) → laid_cells (with_procedures Ps D) w ≡ laid_cells D w
unfolding laid_arrays
cells_same D Ps w =
    ranges-same D Ps D.ranges 0 (laid_arrays (with_procedures Ps D) w) ∙ ap (laid_ranges D 0 D.ranges) (firsts_same D Ps 0 (suc max_arrays) w)

module _ (s : Bytes) (n : ℕ) (p : Progress) (m from : ℕ) (w : Words) (h : Begun s n p m from w) where
  abbrev d : Limits
  d = p.limits

  abbrev x : Reached
  x = p.reached

  abbrev before : Filled (left_lines p.limits) s n p w
  before = h.filled

  abbrev here : Begin
  here = begin s (in_line d m) from x.tokens before.locals

  abbrev own : Declared
  own = with_parameters m before.declared

  pub body_refused : (w₁ : Words) (e : Refusal) → Closes here own w w₁ (Err e) → Stopped d.strict s e
  body_refused w₁ e y =
      h.rest ∙ ap (and_then (λ F. from_procedures (refuses_in d) (pred (left_lines d)) (one_more before.declared m F) before.items)) y.0

  module _ (w₁ w₂ : Words) (t e b : ℕ) (c : Closed here own w w₁ t e b)
      (put : w₂ ≡ set (set w₁ (proc_slot d.procedures) x.tokens) (proc_slot d.procedures + 1) m) where
    abbrev P : Procedure
    P = record { parameters = m; formula = c.formula }

    abbrev Ps : List Procedure
    Ps = before.declared.procedures

    abbrev more : Declared
    more = one_more before.declared m c.formula

    abbrev after : Limits
    after = limits d.strict d.edition d.scalars d.locals d.arrays (d.procedures + 1) 0

    abbrev there : Reached
    there = record { first = x.tokens; tokens = t; bound = b; at = e }

    abbrev T : List Token
    T = procedures_tokens Ps

    abbrev base : Words
    base = declared_tables before.declared before.items n

    enough-procedures : d.procedures + 1 ≤ 16
    enough-procedures = omega (arith, h.more, few-procedures d.edition)

    many : length more.procedures ≡ d.procedures + 1
    many = omega (arith, length-append Ps (P ∷ []), before.counts.procedures)

    abbrev slot : ℕ
    slot = proc_slot d.procedures

    -- words with the entry of this procedure
    abbrev entry : Words → Words
    entry u = set (set u slot x.tokens) (slot + 1) m

    abbrev ts : List Token
    ts = formula_tokens c.formula

    size : length (T ++ ts) ≡ t
    size = omega (arith, length-append T ts, before.tokens, c.count)

    entry_more : declared_tables more before.items n ≡ entry base
    entry_more =
        let given = laid_given before.items (laid_cells before.declared (replicate n 0)) in
        let K : 0 + length Ps ≡ d.procedures = omega (arith, before.counts.procedures) in
        let i : 0 + length T ≡ x.tokens = omega (arith, before.tokens) in
        ap (λ u. laid_procs 0 0 (Ps ++ (P ∷ [])) (laid_given before.items u)) (cells_same before.declared (Ps ++ (P ∷ [])) (replicate n 0)) ∙
        procs-more Ps P 0 0 given ∙ ap (λ k. entered base k (0 + length T) P) K ∙ ap (λ j. entered base d.procedures j P) i

    tokens-entry : laid_tokens 0 (T ++ ts) (entry base) ≡ entry (laid_tokens 0 (T ++ ts) base)
    tokens-entry =
        tokens-set (T ++ ts) 0 (slot + 1) m (set base slot x.tokens) (omega (arith, size, c.few)) ∙
        ap (λ u. set u (slot + 1) m) (tokens-set (T ++ ts) 0 slot x.tokens base (omega (arith, size, c.few)))

    tokens-behind : laid_tokens 0 (T ++ ts) base ≡ laid_tokens x.tokens ts (laid_tokens 0 T base)
    tokens-behind = tokens-both T ts 0 base ∙ ap (λ i. laid_tokens i ts (laid_tokens 0 T base)) (omega (arith, before.tokens))

    tables_more : laid_tokens 0 (procedures_tokens more.procedures) (declared_tables more before.items n) ≡ entry (laid_tokens x.tokens ts (laid_tokens 0 T base))
    tables_more =
        ap (λ xs. laid_tokens 0 xs (declared_tables more before.items n)) (tokens-one-more Ps P) ∙
        ap (laid_tokens 0 (T ++ ts)) entry_more ∙ tokens-entry ∙ ap entry tokens-behind

    words_more : Beside (laid_tokens 0 (procedures_tokens more.procedures) (declared_tables more before.items n)) w₂
    words_more =
        let long : length (laid_tokens 0 T base) ≡ n = tokens-length 0 T base ∙ declared-length before.declared before.items n in
        let all : length (laid_tokens x.tokens ts (laid_tokens 0 T base)) ≡ n = tokens-length x.tokens ts (laid_tokens 0 T base) ∙ long in
        let behind = beside-then (beside-tokens ts x.tokens (omega (arith, long, before.enough, c.count, c.few)) before.words) c.words in
        let first = beside-set slot x.tokens (omega (arith, all, before.enough, enough-procedures)) behind in
        rw (tables_more, put) (beside-set (slot + 1) m (rw length-set (omega (arith, all, before.enough, enough-procedures))) first)

    found-more : Filled (left_lines after) s n (record { limits = after; reached = there }) w₂
    found-more =
        let l = before.counts.limited in
        record {
          declared = more;
          items = before.items;
          locals = c.locals;
          rest =
              h.rest ∙ ap (and_then (λ F. from_procedures (refuses_in d) (pred (left_lines d)) (one_more before.declared m F) before.items))
              c.is ∙
              ap (λ k. from_procedures (refuses_in d) k more before.items (reader_at s e t c.locals)) (omega arith);
          counts = record {
            edition = before.counts.edition;
            scalars = before.counts.scalars;
            locals = before.counts.locals;
            arrays = before.counts.arrays;
            procedures = many;
            parameters = before.plain;
            limited = record {
              scalars = l.scalars;
              locals = l.locals;
              arrays = l.arrays;
              procedures = omega (arith, many, enough-procedures);
              each = few-more Ps P l.each h.parameters;
              parameters = l.parameters;
            };
          };
          plain = before.plain;
          small = record { scalars = before.small.scalars; locals = before.small.locals; arrays = before.small.arrays; procedures = enough-procedures };
          set = c.set;
          tokens = rw (tokens-one-more Ps P, length-append) (omega (arith, before.tokens, c.count));
          few = c.few;
          words = words_more;
          long = words_more.long ∙ tokens-length 0 (procedures_tokens more.procedures) _ ∙ declared-length more before.items n;
          enough = before.enough;
        }

    pub body-found : length w₂ ≡ n → OneMore s p (record { limits = after; reached = there }) w₂
    body-found long = record { strict = refl; procedures = add-one d.procedures; filled = filled-long (sym long) found-more }
