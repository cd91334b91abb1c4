-- The rest of the sheet after some of its lines, as a reader of its own: from each line on the specification reads as this says.
-- Assumes nothing.
use Rattle.std.specs.Prelude.{ℕ, zero, suc, ◌+◌, Bool, List, [], ◌∷◌, ◌++◌, length}
use Rattle.specification.specs.Bytes.{bytes, feed}
use Rattle.specification.specs.Parser.{Parser, and_then, give, ◌>>=◌, ◌>>◌, mark, key, finish}
use Rattle.specification.specs.Lines.{line, Range, Declared, arrays_line, ranges_line}
use Rattle.specification.specs.Given.{Item, given_line}
use Rattle.specification.specs.Ast.{Formula}
use Rattle.specification.specs.Formula.{formula}
use Rattle.specification.specs.Sheet.{with_parameters, with_procedures, procedure_lines, most_procedures, Sheet, beginning, refuses}
use Rattle.tables.specs.Layout.{max_scalars, max_locals, max_nesting}
use Rattle.sheet.specs.declared.formula.Limits.{Limits}
use Rattle.sheet.specs.FormulaLine.{line_formula, formula_rest}

abbrev pub sheet_of : Declared → List Item → Formula → Sheet
sheet_of D is F = record { declared = D; given = is; formula = F }

-- from the formula on
abbrev pub from_formula : Bool → Declared → List Item → Parser Sheet
from_formula refusing D is r = and_then (λ F. give (sheet_of D is F)) (formula_rest refusing D r)

-- from the lines of procedures on, of which up to k may follow
abbrev pub from_procedures : Bool → ℕ → Declared → List Item → Parser Sheet
from_procedures refusing k D is = procedure_lines refusing k D >>= λ Ps. from_formula refusing (with_procedures Ps D) is

-- from the formula of a procedure on, which has m parameters
abbrev pub one_more : Declared → ℕ → Formula → Declared
one_more D m F = with_procedures (D.procedures ++ (record { parameters = m; formula = F } ∷ [])) D

abbrev pub from_body : Bool → ℕ → Declared → List Item → ℕ → Parser Sheet
from_body refusing k D is m = line_formula refusing (with_parameters m D) >>= λ F. from_procedures refusing k (one_more D m F) is

-- from the given values on
unfoldable pub from_given : Bool → Declared → Parser Sheet
from_given strict D =
    given_line D >>= λ given.
    procedure_lines (refuses strict D.edition) (most_procedures D.edition) D >>= λ Ps.
    (let E = with_procedures Ps D in
    key (bytes "formula=") >> (formula (refuses strict D.edition) E max_nesting [] >>= λ F. mark feed >> (finish >> give (sheet_of E given F))))

-- from the ranges on
abbrev pub declaring : Limits → List ℕ → List Range → Declared
declaring d ns rs = beginning d.edition d.scalars d.locals ns rs

abbrev pub from_ranges : Limits → List ℕ → Parser Sheet
from_ranges d ns = ranges_line d.edition (d.scalars + length ns) >>= λ rs. from_given d.strict (declaring d ns rs)

-- from the arrays on
abbrev pub from_arrays : Limits → Parser Sheet
from_arrays d = arrays_line d.scalars >>= from_ranges d

abbrev pub limits : Bool → ℕ → ℕ → ℕ → ℕ → ℕ → ℕ → Limits
limits b e v l a p m = record { strict = b; edition = e; scalars = v; locals = l; arrays = a; procedures = p; parameters = m }

-- from the locals on, from the scalars on, and from the edition on
abbrev pub from_locals : Limits → Parser Sheet
from_locals d = line (bytes "locals=") 0 max_locals >>= λ n. from_arrays (limits d.strict d.edition d.scalars n d.arrays d.procedures d.parameters)

abbrev pub from_scalars : Limits → Parser Sheet
from_scalars d = line (bytes "scalars=") 0 max_scalars >>= λ n. from_locals (limits d.strict d.edition n d.locals d.arrays d.procedures d.parameters)

abbrev pub from_edition : Limits → Parser Sheet
from_edition d = line (bytes "edition=") 1 3 >>= λ n. from_scalars (limits d.strict n d.scalars d.locals d.arrays d.procedures d.parameters)

-- after k of the first three lines
abbrev pub after_numbers : ℕ → Limits → Parser Sheet
after_numbers zero d = from_edition d
after_numbers (suc zero) d = from_scalars d
after_numbers (suc (suc zero)) d = from_locals d
after_numbers (suc (suc (suc k))) d = from_arrays d
