-- The telling cases of docs/DECISIONS.md on empty ranges in runs (document 02, Nine): what 17 is given for, where it stands and what comes
-- before it, and which empty ranges are no slips. Assumes nothing.
use Prim.Native.String.{String}
use mathlib.Core.Path.{◌≡◌, refl}
use mathlib.Core.List.{List, [], ◌∷◌, ◌++◌, map}
use Rattle.specification.specs.Bytes.{Bytes, bytes}
use Rattle.specification.specs.Printed.{box_setting, box_words}
use Rattle.specification.proofs.Cases.Bundles.{ReadDefs, TreeDefs, RunDefs}
use Rattle.specification.proofs.Cases.Case.{Case, boxed, called, given, due}

-- the lines of edition 3 up to the procedures, with one scalar and two locals
abbrev head : Bytes
head = bytes "edition=3\nscalars=1\nlocals=2\narrays=\nranges=0:9\ngiven=\n"

-- a formula of edition 3 at the box
abbrev newer : String → String → Case
newer formula page = boxed (head ++ bytes "formula=" ++ bytes formula ++ bytes "\n") page

-- and after the line of a procedure
abbrev after : String → String → String → Case
after procedure formula page = boxed (head ++ bytes "proc=" ++ bytes procedure ++ bytes "\nformula=" ++ bytes formula ++ bytes "\n") page

-- of an older edition
abbrev older : String → String → String → Case
older edition formula page =
    boxed (bytes "edition=" ++ bytes edition ++ bytes "\nscalars=1\nlocals=2\narrays=\ngiven=\nformula=" ++ bytes formula ++ bytes "\n") page

unfoldable pub slip_cases : List Case
slip_cases =
    -- 17 at the quantifier, of either sort, by as little as one; equal bounds have one value between them
    newer "some l0 8 1 true" "refused=17\nat=63\n"
    ∷ newer "all l0 2147483647 2147483646 true" "refused=17\nat=63\n"
    ∷ newer "all l0 -1 -2147483648 true" "refused=17\nat=63\n"
    ∷ newer "some l0 1 1 eq v0 l0" "answer=1\nv0=1\nend=done\nnodes=4\nanswers=1\nerrors=0\nfails=0\n"
    -- inside a body and in a procedure's line too
    ∷ newer "or eq v0 1 all l0 1 2 some l1 8 1 true" "refused=17\nat=85\n"
    ∷ after "0:all l0 8 1 true" "true" "refused=17\nat=62\n"
    -- before the byte after the upper bound, and before all that stands in the body
    ∷ newer "some l0 8 1" "refused=17\nat=63\n"
    ∷ newer "some l0 8 1 eq v9 1" "refused=17\nat=63\n"
    -- after the tests of the local and of the upper bound itself
    ∷ newer "some l2 8 1 true" "refused=7\nat=68\n"
    ∷ newer "all l0 8 1x true" "refused=4\nat=72\n"
    -- both bounds are constants where they stand, or it is no slip
    ∷ newer "some l0 8 add 0 1 true" "end=done\nnodes=2\nanswers=0\nerrors=0\nfails=1\n"
    ∷ after "2:some l0 p0 p1 true" "call 0 8 1" "end=done\nnodes=3\nanswers=0\nerrors=0\nfails=1\n"
    -- editions 1 and 2 accept it
    ∷ older "1" "some l0 8 1 true" "end=done\nnodes=2\nanswers=0\nerrors=0\nfails=1\n"
    ∷ older "2" "all l0 8 1 eq v0 1" "answer=1\nend=done\nnodes=3\nanswers=1\nerrors=0\nfails=0\n"
    -- a sheet before its move and after it: only the `at=` line is another, and with too little output only the second has an answer
    ∷ called (bytes "edition=2\nscalars=1\nlocals=1\narrays=\ngiven=\nformula=or some l0 8 1 and eq 1 1 eq 1 1 or lt v0 1 true\n")
    box_setting box_words 29 "error=1\nkind=1\nat=13\nend=output\nnodes=9\nanswers=0\nerrors=1\nfails=1\n"
    ∷ called (bytes "edition=3\nscalars=1\nlocals=1\narrays=\nranges=-2147483648:2147483647\ngiven=\nformula=or eq 0 1 or lt v0 1 true\n")
    box_setting box_words 29 "error=1\nkind=1\nat=5\nanswer=1\nend=done\nnodes=9\nanswers=1\nerrors=1\nfails=1\n"
    ∷ []

pub decided-slips : map given slip_cases ≡ map due slip_cases
unfolding slip_cases ReadDefs TreeDefs RunDefs
decided-slips = refl
