-- A sheet that is read: the first lines read no token, so that the tokens of its procedures and then of its formula count from 0, and the tables
-- hold the sheet. Assumes nothing.
use Prim.Native.Nat.{ℕ, suc, ◌+◌, ◌≤◌, ◌<◌}
use native.Mathlib.Omega.{arith}
use mathlib.Core.Path.{◌≡◌, refl, sym, ap, subst, ◌∙◌}
use mathlib.Core.Bool.{Bool}
use mathlib.Core.List.{[], ◌++◌}
use lib.ListN.{length, take, drop, length-append}
use Rattle.specification.specs.Bytes.{Bytes, bytes}
use Rattle.specification.specs.Lists.{Each}
use Rattle.specification.specs.Parser.{Reader, found}
use Rattle.specification.specs.Lines.{procedure_of}
use Rattle.specification.specs.Sheet.{most_procedures, Sheet, refuses, opened, read_with}
use Rattle.specification.specs.WellFormed.{WellFormed}
use Rattle.specification.specs.Outcome.{start}
use Rattle.specification.proofs.Laws.Parser.{of-found}
use Rattle.specification.proofs.Laws.LineReaders.{line-by, arrays-by, ranges-by, given_by}
use Rattle.specification.proofs.Laws.SheetLines.{first_declared, Lines, sheet-lines}
use Rattle.specification.proofs.Laws.ReadSheet.{read-well-formed}
use Rattle.tables.specs.Layout.{max_tokens, max_nesting, max_procs, path_at}
use Rattle.sheet.specs.Codes.{formula_tokens, procedures_tokens}
use Rattle.sheet.specs.Tables.{sheet_tokens, formula_start, tables}
use Rattle.sheet.specs.Held.{end_at, proc_at, FormulaAt, Shallow, ProceduresAt, InOrder, Holds, Marked, ArraysAt, RangesAt}
use Rattle.sheet.specs.Numbered.{Numbered}
use Rattle.sheet.proofs.After.{some-token, formula-subtree}
use Rattle.sheet.proofs.Stays.{exactly-stays, stays-composed}
use Rattle.sheet.proofs.Numbered.{renumbered, formula-counts}
use Rattle.sheet.proofs.Shallow.{formula-shallow}
use Rattle.sheet.proofs.Procs.{first_token, first-none, first-all, tokens-split, few-parameters}
use Rattle.sheet.proofs.Bodies.{Bodies, Read, bodies-at, procedures-read}
use Rattle.sheet.proofs.Tables.{held, body-inside, body-held, body-ends, first-held, arrays-held, start-held, start-marked, ranges-at}

-- ---- the tokens of a sheet

-- its procedures' and its formula's tokens count from 0, and are at most 1,024; every call names an earlier procedure
pub record FromZero (s : Sheet) : Type 0 where
  pub bodies : Bodies 0 0 s.declared.procedures
  pub formula : Numbered (formula_start s) s.formula
  pub shallow : Shallow max_procs s.formula
  pub few : length (sheet_tokens s) ≤ max_tokens

module _ (strict : Bool) (b : Bytes) (s : Sheet) (l : Lines strict (opened b) s) (ok : WellFormed s) where
  -- no token before the procedures
  fresh : l.given.after.tokens ≡ 0
  fresh =
      let stays = stays-composed 0 in
      let e = of-found (line-by stays (bytes "edition=") 1 3 (opened b) refl) l.edition.is in
      let v = of-found (line-by stays (bytes "scalars=") 0 64 l.edition.after e) l.scalars.is in
      let w = of-found (line-by stays (bytes "locals=") 0 32 l.scalars.after v) l.locals.is in
      let a = of-found (arrays-by stays s.declared.scalars l.locals.after w) l.arrays.is in
      let r = of-found (ranges-by stays s.declared.edition (s.declared.scalars + length s.declared.arrays) l.arrays.after a) l.ranges.is in
      of-found (given_by stays (first_declared s.declared) l.ranges.after r) l.given.is

  procedures : Read s.declared.procedures l.procedures.after.tokens
  unfolding Bodies Each procedures_tokens
  procedures =
      of-found
      (procedures-read (refuses strict s.declared.edition) (first_declared s.declared) ok.limits.locals
      (most_procedures s.declared.edition) [] l.given.after
      (record { bodies = tt; parameters = tt; tokens = fresh; few = omega (arith, fresh) }))
      l.procedures.is

  lines-count : FromZero s
  lines-count =
      let D = s.declared in
      let p = procedures in
      let t = of-found (exactly-stays l.procedures.after.tokens 3 (bytes "formula=") l.procedures.after refl) l.start.is in
      let c = of-found (formula-counts (refuses strict D.edition) D max_nesting [] l.start.after) l.formula.is in
      let e : l.start.after.tokens ≡ formula_start s = t ∙ p.tokens in
      record {
        bodies = p.bodies;
        formula = renumbered s.formula e c.0;
        shallow = of-found
            (formula-shallow D (refuses strict D.edition) max_procs ok.limits.procedures (few-parameters D.procedures ok.parameters)
            ok.limits.locals max_nesting (omega arith) [] l.start.after)
            l.formula.is;
        few = omega (arith, length-append (procedures_tokens D.procedures) (formula_tokens s.formula), c.1.tokens, c.1.few, e);
      }

pub read-counts : (strict : Bool) (b : Bytes) (s : Sheet) (r : Reader) → read_with strict b ≡ found s r → FromZero s
unfolding read_with
read-counts strict b s r e = lines-count strict b s (sheet-lines e) (read-well-formed strict b s r e)

-- ---- what a walk leans on

pub record Ready (s : Sheet) (n : ℕ) : Type 0 where
  pub formula : FormulaAt (tables s n) (formula_start s) s.formula
  pub shallow : Shallow max_procs s.formula
  pub procedures : ProceduresAt (tables s n) s.declared
  pub order : InOrder (tables s n) (length s.declared.procedures) (formula_start s)
  pub values : Holds (tables s n) (start s.given)
  pub marked : Marked (tables s n) s.declared (start s.given)
  pub ranges : RangesAt (tables s n) s.declared
  pub arrays : ArraysAt (tables s n) s.declared

bodies-held : (s : Sheet) (n : ℕ) → path_at ≤ n → FromZero s → WellFormed s → ProceduresAt (tables s n) s.declared
bodies-held s n h c ok K l =
    let Ps = s.declared.procedures in
    let e : first_token Ps K ≡ _ = sym (first-held s n h c.few ok K l) in
    let b = bodies-at Ps 0 0 K l c.bodies in
    let F = (procedure_of s.declared K).formula in
    let f : 0 + first_token Ps K ≡ first_token Ps K = omega arith in
    let size = body-inside s K l in
    let held = body-held s n h c.few K l (renumbered F f b.numbered) in
    record {
      inside = omega (arith, e, size, c.few, some-token (formula_tokens F) (formula-subtree F));
      formula = subst (λ i. FormulaAt (tables s n) i F) e held;
      shallow = subst (λ k. Shallow k F) (omega arith) b.shallow;
    }

bodies-in-order : (s : Sheet) (n : ℕ) → path_at ≤ n → FromZero s → WellFormed s →
    InOrder (tables s n) (length s.declared.procedures) (formula_start s)
bodies-in-order s n h c ok = record {
  none = λ e. sym (all-tokens 0 (omega arith)) ∙ first-none s.declared.procedures;
  first = λ l. at 0 l ∙ first-none s.declared.procedures;
  next = λ K l. at (suc K) l ∙ sym (ends K (omega arith));
  last = λ K e. sym (all-tokens (suc K) (omega arith)) ∙ sym (ends K (omega arith));
  before = λ K l.
      let F = (procedure_of s.declared K).formula in
      omega (
        arith,
        at K l,
        ap length (tokens-split s.declared.procedures K l),
        length-append (procedures_tokens (take K s.declared.procedures)) (formula_tokens F ++ procedures_tokens (drop (suc K) s.declared.procedures)),
        length-append (formula_tokens F) (procedures_tokens (drop (suc K) s.declared.procedures)),
        some-token (formula_tokens F) (formula-subtree F),
      );
}
  where
    at : (K : ℕ) → K < length s.declared.procedures → proc_at (tables s n) K ≡ first_token s.declared.procedures K
    at K l = first-held s n h c.few ok K l

    ends : (K : ℕ) → K < length s.declared.procedures → end_at (tables s n) (proc_at (tables s n) K) ≡ first_token s.declared.procedures (suc K)
    ends K l = ap (λ (i : ℕ). end_at (tables s n) i) (at K l) ∙ body-ends s n h c.few K l

    all-tokens : (m : ℕ) → length s.declared.procedures ≤ m → first_token s.declared.procedures m ≡ formula_start s
    all-tokens m l = first-all s.declared.procedures m l

pub read-ready : (strict : Bool) (b : Bytes) (s : Sheet) (r : Reader) (n : ℕ) → read_with strict b ≡ found s r → path_at ≤ n → Ready s n
read-ready strict b s r n e h =
    let c = read-counts strict b s r e in
    let ok = read-well-formed strict b s r e in
    record {
      formula = held s n h c.few c.formula;
      shallow = c.shallow;
      procedures = bodies-held s n h c ok;
      order = bodies-in-order s n h c ok;
      values = start-held s n h c.few ok;
      marked = start-marked s n h c.few ok;
      ranges = ranges-at s n h c.few ok;
      arrays = arrays-held s n h c.few ok;
    }
