-- Whatever is read is well formed: a sheet that is read keeps document 01's limits, its given items are as they should be, and its formula is
-- well scoped. Assumes nothing.
use Prim.Native.Nat.{ℕ, ◌+◌, ◌≤◌}
use native.Mathlib.Omega.{arith}
use mathlib.Core.Path.{◌≡◌}
use mathlib.Core.Bool.{Bool, true, false}
use lib.Dec.{eqb}
use mathlib.Core.List.{[]}
use lib.ListN.{length}
use Rattle.specification.specs.Bytes.{Bytes, bytes, pick}
use Rattle.specification.specs.Parser.{Reader, found}
use Rattle.specification.specs.Formula.{Locals, has}
use Rattle.specification.specs.Lists.{Each}
use Rattle.specification.specs.Lines.{Declared, cells, range_number, range_of, in_range}
use Rattle.specification.specs.Sheet.{most_procedures, Sheet, refuses, opened, read_with}
use Rattle.specification.specs.WellFormed.{WellFormed}
use Rattle.specification.proofs.Laws.Contradiction.{contradiction}
use Rattle.specification.proofs.Laws.Parser.{of-found}
use Rattle.specification.proofs.Laws.SheetLines.{first_declared, sheet-lines}
use Rattle.specification.proofs.Laws.ReadLines.{line_post, arrays-post, ranges-line-post, limits}
use Rattle.specification.proofs.Laws.ReadGiven.{given-post}
use Rattle.specification.proofs.Laws.ReadTerm.{Sub}
use Rattle.specification.proofs.Laws.ReadFormula.{Known, formula-post}
use Rattle.specification.proofs.Laws.ReadProcedures.{exactly-keeps, procedures-post}

no-locals : (B : Locals) → Sub [] B
unfolding has
no-locals B j e = contradiction cc

few-procedures : (edition : ℕ) → most_procedures edition ≤ 16
few-procedures edition = go (eqb edition 1)
  where
    go : (b : Bool) → pick b 0 16 ≤ 16
    go true = omega arith
    go false = omega arith

-- no procedure yet
none-known : (D : Declared) → Known (first_declared D) []
none-known D = record { scoped = λ K h. absurd (omega arith); binders = λ K h. absurd (omega arith) }

pub read-well-formed : (strict : Bool) (b : Bytes) (s : Sheet) (r : Reader) → read_with strict b ≡ found s r → WellFormed s
unfolding read_with has Each in_range range_of range_number cells
read-well-formed strict b s r e =
    let l = sheet-lines e in
    let D = s.declared in
    let given = of-found (given-post (first_declared D) l.ranges.after) l.given.is in
    let procs =
    of-found
    (procedures-post 16 (first_declared D) (refuses strict D.edition) (most_procedures D.edition) [] [] (none-known D) tt (omega (arith, few-procedures D.edition)) l.given.after
    (no-locals l.given.after.bound)) l.procedures.is in
    let known : Known D l.procedures.after.bound = record { scoped = procs.known.scoped; binders = procs.known.binders } in
    let start = of-found (exactly-keeps l.procedures.after.bound 3 (bytes "formula=") l.procedures.after (λ j h. h)) l.start.is in
    record {
      limits =
          limits D (of-found (line_post 1 3 (bytes "edition=") (opened b)) l.edition.is)
          (of-found (line_post 0 64 (bytes "scalars=") l.edition.after) l.scalars.is).1
          (of-found (line_post 0 32 (bytes "locals=") l.scalars.after) l.locals.is).1
          (of-found (arrays-post D.scalars l.locals.after) l.arrays.is)
          (of-found (ranges-line-post D.edition (D.scalars + length D.arrays) l.arrays.after) l.ranges.is) procs.count l.parameters;
      values = given.0;
      declared = given.1;
      rising = given.2;
      procedures = procs.known.scoped;
      parameters = procs.few;
      formula = (of-found (formula-post D l.procedures.after.bound known (refuses strict D.edition) 64 l.start.after start) l.formula.is).ok;
    }
