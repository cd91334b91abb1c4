-- The whole sheet: six lines in order, from edition 2 on with lines of procedures before the last, from edition 3 on with a line of ranges
-- after that of arrays; each ended by a line feed, the last line feed being the last byte. Assumes nothing.
use Rattle.std.specs.Prelude.{ℕ, zero, suc, ◌+◌, Bool, true, ◌&&◌, List, [], ◌∷◌, ◌++◌, length, eqb, leb}
use Rattle.specification.specs.Bytes.{Bytes, bytes, pick, feed, colon}
use Rattle.specification.specs.Parser.{Reader, Read, Parser, give, ◌>>=◌, ◌>>◌, spells, mark, key, finish}
use Rattle.specification.specs.Lines.{count, line, Range, Declared, arrays_line, ranges_line}
use Rattle.specification.specs.Given.{Item, given_line}
use Rattle.specification.specs.Ast.{Formula, Procedure}
use Rattle.specification.specs.Formula.{formula}

-- ---- procedures

-- what is declared in a line with so many parameters
abbrev pub with_parameters : ℕ → Declared → Declared
with_parameters n D = record {
  edition = D.edition;
  scalars = D.scalars;
  locals = D.locals;
  arrays = D.arrays;
  ranges = D.ranges;
  procedures = D.procedures;
  parameters = n;
}

-- and after the lines of these procedures
abbrev pub with_procedures : List Procedure → Declared → Declared
with_procedures Ps D = record {
  edition = D.edition;
  scalars = D.scalars;
  locals = D.locals;
  arrays = D.arrays;
  ranges = D.ranges;
  procedures = Ps;
  parameters = D.parameters;
}

-- `proc=N:F`
unfoldable pub procedure_line : Bool → Declared → Parser Procedure
procedure_line refusing D = do
  key (bytes "proc=")
  n ← count 0 8
  mark colon
  F ← formula refusing (with_parameters n D) 64 []
  mark feed
  give (record { parameters = n; formula = F })

-- up to k such lines: all procedures after them. The formula's line, which follows, begins with another letter
unfoldable pub procedure_lines : Bool → ℕ → Declared → Parser (List Procedure)
procedure_lines refusing zero D = give D.procedures
procedure_lines refusing (suc k) D = do
  more ← spells (bytes "p")
  (let r = procedure_line refusing D >>= λ P. procedure_lines refusing k (with_procedures (D.procedures ++ (P ∷ [])) D) in
      pick more r (give D.procedures))

-- how many an edition has at most
abbrev pub most_procedures : ℕ → ℕ
most_procedures edition = pick (eqb edition 1) 0 16

-- ---- the lines

pub record Sheet : Type 0 where
  pub declared : Declared
  pub given : List Item
  pub formula : Formula

-- what is declared before the procedures
abbrev pub beginning : ℕ → ℕ → ℕ → List ℕ → List Range → Declared
beginning edition scalars locals arrays ranges = record {
  edition = edition;
  scalars = scalars;
  locals = locals;
  arrays = arrays;
  ranges = ranges;
  procedures = [];
  parameters = 0;
}

-- the first edition that refuses empty ranges
abbrev pub first_strict : ℕ
first_strict = 3

-- whether an edition refuses them where reading is strict; without that no edition does, as before they were refused
abbrev pub refuses : Bool → ℕ → Bool
refuses strict edition = strict && leb first_strict edition

unfoldable pub sheet : Bool → Parser Sheet
sheet strict = do
  edition ← line (bytes "edition=") 1 3
  scalars ← line (bytes "scalars=") 0 64
  locals ← line (bytes "locals=") 0 32
  arrays ← arrays_line scalars
  ranges ← ranges_line edition (scalars + length arrays)
  let E : Declared = beginning edition scalars locals arrays ranges
  given ← given_line E
  Ps ← procedure_lines (refuses strict edition) (most_procedures edition) E
  let D : Declared = with_procedures Ps E
  key (bytes "formula=")
  F ← formula (refuses strict edition) D 64 []
  mark feed
  finish
  give (record { declared = D; given = given; formula = F })

-- a reader at the sheet's first byte
abbrev pub opened : Bytes → Reader
opened s = record { place = 0; rest = s; tokens = 0; bound = [] }

unfoldable pub read_with : Bool → Bytes → Read Sheet
read_with strict s = sheet strict (opened s)

-- as every call reads that runs a sheet
abbrev pub read : Bytes → Read Sheet
read s = read_with true s
