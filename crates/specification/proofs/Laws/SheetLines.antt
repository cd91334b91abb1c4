-- The sheet's lines in their order, for every law about whole sheets: a line of the notation is added to `sheet` and here, and elsewhere
-- only where its own facts are wanted. `Lines` and `sheet-lines` tell what was read, line by line; `sheet-by` puts together what holds of
-- each line's reader (LineReaders), of refusals too. Assumes nothing.
use Prim.Native.Nat.{ℕ, ◌+◌}
use mathlib.Core.Path.{◌≡◌, refl, sym, ap, subst}
use mathlib.Core.Bool.{Bool}
use mathlib.Core.List.{List, []}
use lib.ListN.{length}
use Rattle.specification.specs.Bytes.{bytes, feed}
use Rattle.specification.specs.Parser.{Reader, Read, refused, found, Parser, give, and_then, ◌>>=◌, ◌>>◌, mark, key, finish}
use Rattle.specification.specs.Lines.{line, Declared, arrays_line, ranges_line}
use Rattle.specification.specs.Given.{Item, given_line}
use Rattle.specification.specs.Formula.{formula}
use Rattle.specification.specs.Sheet.{with_parameters, with_procedures, procedure_lines, most_procedures, Sheet, beginning, refuses, sheet}
use Rattle.specification.proofs.Laws.Parser.{Post, refusal, holds, of-found}
use Rattle.specification.proofs.Laws.LineReaders.{Composed, line-by, arrays-by, ranges-by, given_by}

-- ---- what was read

-- the reader m gives a from r, and then comes `after`
pub record Gives {A : Type 0} (m : Parser A) (r : Reader) (a : A) : Type 0 where
  pub after : Reader
  pub is : m r ≡ found a after

-- what is declared before the procedures
abbrev pub first_declared : Declared → Declared
first_declared D = beginning D.edition D.scalars D.locals D.arrays D.ranges

-- each line gives its part of the sheet, from where the line before it ended
pub record Lines (strict : Bool) (r : Reader) (s : Sheet) : Type 0 where
  pub edition : Gives (line (bytes "edition=") 1 3) r s.declared.edition
  pub scalars : Gives (line (bytes "scalars=") 0 64) edition.after s.declared.scalars
  pub locals : Gives (line (bytes "locals=") 0 32) scalars.after s.declared.locals
  pub arrays : Gives (arrays_line s.declared.scalars) locals.after s.declared.arrays
  pub ranges : Gives (ranges_line s.declared.edition (s.declared.scalars + length s.declared.arrays)) arrays.after s.declared.ranges
  pub given : Gives (given_line (first_declared s.declared)) ranges.after s.given
  pub procedures :
      Gives (procedure_lines (refuses strict s.declared.edition) (most_procedures s.declared.edition) (first_declared s.declared))
      given.after s.declared.procedures
  pub parameters : s.declared.parameters ≡ 0
  pub start : Gives (key (bytes "formula=")) procedures.after tt
  pub formula : Gives (formula (refuses strict s.declared.edition) s.declared 64 []) start.after s.formula
  pub feed : Gives (mark feed) formula.after tt
  pub end : Gives finish feed.after tt

module _ {A B : Type 0} {Q : B → Reader → Type 0} {f : A → Parser B} where
  known : (x : Read A) → ((a : A) (r : Reader) → x ≡ found a r → Post Q (f a r)) → Post Q (and_then f x)
  known (refused n p) k = refusal tt
  known (found a r) k = k a r refl

sheet-known : (strict : Bool) (r : Reader) → Post (λ s r'. Lines strict r s) (sheet strict r)
unfolding sheet
sheet-known strict r =
    known (line (bytes "edition=") 1 3 r) λ edition r₁ e.
    known (line (bytes "scalars=") 0 64 r₁) λ scalars r₂ v.
    known (line (bytes "locals=") 0 32 r₂) λ locals r₃ l.
    known (arrays_line scalars r₃) λ arrays r₄ a.
    known (ranges_line edition (scalars + length arrays) r₄) λ ranges r₅ x.
    let E : Declared = beginning edition scalars locals arrays ranges in
    known (given_line E r₅) λ is r₆ g.
    known (procedure_lines (refuses strict edition) (most_procedures edition) E r₆) λ Ps r₇ p.
    let D : Declared = with_procedures Ps E in
    known (key (bytes "formula=") r₇) λ u r₈ k.
    known (formula (refuses strict edition) D 64 [] r₈) λ F r₉ f.
    known (mark feed r₉) λ u r₁₀ m.
    known (finish r₁₀) λ u r₁₁ n.
    holds (record {
      edition = record { after = r₁; is = e };
      scalars = record { after = r₂; is = v };
      locals = record { after = r₃; is = l };
      arrays = record { after = r₄; is = a };
      ranges = record { after = r₅; is = x };
      given = record { after = r₆; is = g };
      procedures = record { after = r₇; is = p };
      parameters = refl;
      start = record { after = r₈; is = k };
      formula = record { after = r₉; is = f };
      feed = record { after = r₁₀; is = m };
      end = record { after = r₁₁; is = n };
    })

pub sheet-lines : {strict : Bool} {r : Reader} {s : Sheet} {r' : Reader} → sheet strict r ≡ found s r' → Lines strict r s
sheet-lines {strict} {r} e = of-found (sheet-known strict r) e

-- and the lines give the sheet
pub lines-sheet : {strict : Bool} {r : Reader} {s : Sheet} (l : Lines strict r s) → sheet strict r ≡ found s l.end.after
unfolding sheet
lines-sheet {strict} {r} {s} l =
    let D = s.declared in
    let whole : Declared = with_procedures D.procedures (first_declared D) in
    let is : D ≡ whole = ap (λ (n : ℕ). with_parameters n D) l.parameters in
    let formula : formula (refuses strict D.edition) whole 64 [] l.start.after ≡ found s.formula l.formula.after =
    subst (λ C. formula (refuses strict D.edition) C 64 [] l.start.after ≡ found s.formula l.formula.after) is l.formula.is in
    rw (
      l.edition.is,
      l.scalars.is,
      l.locals.is,
      l.arrays.is,
      l.ranges.is,
      l.given.is,
      l.procedures.is,
      l.start.is,
      formula,
      l.feed.is,
      l.end.is,
    ) (ap (λ C. found (record { declared = C; given = s.given; formula = s.formula }) l.end.after) (sym is))

-- ---- what every line has

-- from the formula's first token on
abbrev pub from_formula : Bool → Declared → List Item → Parser Sheet
from_formula strict D is =
    formula (refuses strict D.edition) D 64 [] >>= λ F. mark feed >> (finish >> give (record { declared = D; given = is; formula = F }))

-- from the procedures on, where E is declared before them
abbrev pub from_procedures : Bool → Declared → List Item → Parser Sheet
from_procedures strict E is =
    procedure_lines (refuses strict E.edition) (most_procedures E.edition) E >>= λ Ps.
    key (bytes "formula=") >> from_formula strict (with_procedures Ps E) is

-- W of the whole sheet: it goes back over each line that has Q, and holds from the procedures on
module _ {P : ℕ → Type 0} {Q : (A : Type 0) → Parser A → Type 0} (c : Composed P Q) (W : Parser Sheet → Type 0)
    (back : (A : Type 0) (m : Parser A) (f : A → Parser Sheet) → Q A m → ((a : A) → W (f a)) → W (m >>= f)) where
  pub sheet-by : (strict : Bool) → ((E : Declared) (is : List Item) → W (from_procedures strict E is)) → W (sheet strict)
  unfolding sheet
  sheet-by strict rest =
      back _ _ _ (line-by c (bytes "edition=") 1 3) λ edition.
      back _ _ _ (line-by c (bytes "scalars=") 0 64) λ scalars.
      back _ _ _ (line-by c (bytes "locals=") 0 32) λ locals.
      back _ _ _ (arrays-by c scalars) λ arrays.
      back _ _ _ (ranges-by c edition (scalars + length arrays)) λ ranges.
      let E : Declared = beginning edition scalars locals arrays ranges in
      back _ _ _ (given_by c E) λ given. rest E given
