-- The telling cases of docs/DECISIONS.md on ranges (document 02, Six). Assumes nothing.
use Prim.Native.String.{String}
use mathlib.Core.Path.{◌≡◌, refl}
use mathlib.Core.List.{List, [], ◌∷◌, ◌++◌, map}
use Rattle.specification.specs.Bytes.{Bytes, bytes}
use Rattle.specification.proofs.Cases.Bundles.{ReadDefs, TreeDefs, RunDefs}
use Rattle.specification.proofs.Cases.Case.{Case, boxed, given, due}

-- a sheet of edition 3 with so many scalars, one local and these arrays, its lines of ranges and of given values, and its formula
abbrev sheet_with : String → String → String → String → String → Bytes
sheet_with scalars arrays ranges given formula =
    bytes "edition=3\nscalars="
    ++ bytes scalars ++ bytes "\nlocals=1\narrays=" ++ bytes arrays ++ bytes "\nranges=" ++ bytes ranges ++ bytes "\ngiven=" ++ bytes given ++ bytes "\nformula=" ++ bytes formula ++ bytes "\n"

-- one scalar with this range, at the box
abbrev ranged : String → String → String → Case
ranged range formula page = boxed (sheet_with "1" "" range "" formula) page

-- and a given value
abbrev given_in : String → String → String → Case
given_in range given page = boxed (sheet_with "1" "" range given "true") page

-- one scalar and an array of two
abbrev both : String → String → String → String → Case
both ranges given formula page = boxed (sheet_with "1" "2" ranges given formula) page

-- no cell
abbrev none : String → String → Case
none ranges page = boxed (sheet_with "0" "" ranges "" "true") page

unfoldable pub range_cases : List Case
range_cases =
    -- a value of the range is given, on either border; one outside is a failure leaf, from either side of the `eq`
    ranged "0:4" "eq v0 4" "answer=1\nv0=4\nend=done\nnodes=3\nanswers=1\nerrors=0\nfails=0\n"
    ∷ ranged "0:4" "eq 0 v0" "answer=1\nv0=0\nend=done\nnodes=3\nanswers=1\nerrors=0\nfails=0\n"
    ∷ ranged "0:4" "eq v0 5" "end=done\nnodes=2\nanswers=0\nerrors=0\nfails=1\n"
    ∷ ranged "0:4" "eq -1 v0" "end=done\nnodes=2\nanswers=0\nerrors=0\nfails=1\n"
    ∷ ranged "3:3" "some l0 2 4 eq v0 l0" "answer=1\nv0=3\nend=done\nnodes=8\nanswers=1\nerrors=0\nfails=2\n"
    ∷ ranged "2147483647:2147483647" "eq v0 2147483647" "answer=1\nv0=2147483647\nend=done\nnodes=3\nanswers=1\nerrors=0\nfails=0\n"
    ∷ ranged "-2147483648:-2147483648" "eq v0 -2147483647" "end=done\nnodes=2\nanswers=0\nerrors=0\nfails=1\n"
    -- in inner trees too
    ∷ ranged "0:4" "not eq v0 5" "answer=1\nend=done\nnodes=5\nanswers=1\nerrors=0\nfails=0\n"
    ∷ ranged "0:4" "not eq v0 4" "error=1\nkind=6\nat=0\nend=done\nnodes=5\nanswers=0\nerrors=1\nfails=0\n"
    ∷ ranged "0:4" "imp eq v0 5 eq 1 2" "answer=1\nend=done\nnodes=5\nanswers=1\nerrors=0\nfails=0\n"
    -- a local has all of 32 bits
    ∷ ranged "0:4" "ex l0 eq l0 9" "answer=1\nend=done\nnodes=4\nanswers=1\nerrors=0\nfails=0\n"
    -- every element has its array's range
    ∷ both "0:4,7:9" "" "and eq v0 4 eq a0 1 7" "answer=1\nv0=4\na0.1=7\nend=done\nnodes=5\nanswers=1\nerrors=0\nfails=0\n"
    ∷ both "0:4,7:9" "" "or eq a0 0 6 eq a0 1 10" "end=done\nnodes=5\nanswers=0\nerrors=0\nfails=2\n"
    -- given values: on the border; outside it, after 7 and 10, before a bad byte after it
    ∷ given_in "0:4" "v0:4" "answer=1\nv0=4\nend=done\nnodes=3\nanswers=1\nerrors=0\nfails=0\n"
    ∷ given_in "0:4" "v0:5x" "refused=13\nat=54\n"
    ∷ given_in "0:4" "v0:-1" "refused=13\nat=54\n"
    ∷ given_in "0:4" "v1:5" "refused=7\nat=54\n"
    ∷ both "0:4,7:9" "a0.1:8,a0.0:5" "true" "refused=10\nat=66\n"
    ∷ both "0:4,7:9" "v0:0,a0.0:6" "true" "refused=13\nat=64\n"
    -- lo above hi, once hi is read
    ∷ ranged "1:0" "true" "refused=14\nat=44\n"
    ∷ ranged "1:0x" "true" "refused=14\nat=44\n"
    ∷ ranged "1:x" "true" "refused=4\nat=46\n"
    ∷ ranged "5:2147483648" "true" "refused=4\nat=46\n"
    -- too few, too many, and none where there is no cell
    ∷ ranged "" "true" "refused=4\nat=44\n"
    ∷ both "0:4" "" "true" "refused=5\nat=48\n"
    ∷ both "0:4," "" "true" "refused=4\nat=49\n"
    ∷ both "0:4,7:9,0:1" "" "true" "refused=5\nat=52\n"
    ∷ ranged "0:4," "true" "refused=5\nat=47\n"
    ∷ ranged "0;4" "true" "refused=5\nat=45\n"
    ∷ none "" "answer=1\nend=done\nnodes=3\nanswers=1\nerrors=0\nfails=0\n"
    ∷ none "0:1" "refused=5\nat=44\n"
    -- the line belongs to edition 3
    ∷ boxed (bytes "edition=3\nscalars=0\nlocals=0\narrays=\ngiven=\nformula=true\n") "refused=3\nat=37\n"
    ∷ boxed (bytes "edition=2\nscalars=0\nlocals=0\narrays=\nranges=\ngiven=\nformula=true\n") "refused=3\nat=37\n"
    ∷ []

pub decided-ranges : map given range_cases ≡ map due range_cases
unfolding range_cases ReadDefs TreeDefs RunDefs
decided-ranges = refl
