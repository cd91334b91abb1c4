-- The telling cases of docs/DECISIONS.md: where document 01 or 02 can be read two ways, a sheet that tells the readings apart, and sheets at
-- the limits. Assumes nothing.
use Prim.Native.Nat.{ℕ, zero, suc}
use Prim.Native.String.{String}
use mathlib.Core.Path.{◌≡◌, refl}
use mathlib.Core.List.{List, [], ◌∷◌, ◌++◌, map}
use lib.ListN.{replicate}
use Rattle.specification.specs.Bytes.{Bytes, bytes}
use Rattle.specification.specs.Printed.{box_path, box_budget, box_skip, box_words, box_output}
use Rattle.specification.proofs.Cases.Bundles.{ReadDefs, TreeDefs, RunDefs}
use Rattle.specification.proofs.Cases.Case.{Case, boxed, called, given, due, under, sheet_of, single}

-- one scalar and one local, with this line of arrays and this of given values
abbrev pub given_sheet : String → String → Bytes
given_sheet arrays given =
    bytes "edition=1\nscalars=1\nlocals=1\narrays=" ++ bytes arrays ++ bytes "\ngiven=" ++ bytes given ++ bytes "\nformula=true\n"

-- after so many skipped blocks, with so many output bytes
abbrev pub listing : ℕ → ℕ → String → String → Case
listing skip size formula page =
    called (sheet_of "1" "1" "" formula) (record { path = box_path; budget = box_budget; skip = skip }) box_words size page

-- `true` under a path limit and so many work words
abbrev pub lent : ℕ → ℕ → String → Case
lent path words page =
    called (sheet_of "1" "1" "" "true") (record { path = path; budget = box_budget; skip = box_skip }) words box_output page

unfoldable pub repeated : ℕ → Bytes → Bytes
repeated zero bs = []
repeated (suc n) bs = bs ++ repeated n bs

-- a sum of 2^n ones: 2^(n+1) - 1 tokens
unfoldable pub ones : ℕ → Bytes
ones zero = bytes "1"
ones (suc n) = bytes "add " ++ (ones n ++ (bytes " " ++ ones n))

abbrev pub long_sheet : Bytes → Bytes
long_sheet formula = bytes "edition=1\nscalars=0\nlocals=0\narrays=\ngiven=\nformula=" ++ (formula ++ bytes "\n")

-- ---- reading

unfoldable pub readings : List Case
readings =
    single "2147483648" "refused=4\nat=52\n"
    ∷ single "ex 00 true" "refused=4\nat=55\n"
    ∷ single "eq v00 1" "refused=6\nat=55\n"
    ∷ single "and true" "refused=5\nat=60\n"
    ∷ single "and true " "refused=6\nat=61\n"
    ∷ single "true x" "refused=5\nat=56\n"
    ∷ single "ex v0 true" "refused=6\nat=55\n"
    ∷ single "ex l1 true" "refused=7\nat=55\n"
    ∷ single "ex l0 ex l0 true" "refused=8\nat=61\n"
    ∷ single "some l0 l0 3 true" "refused=8\nat=60\n"
    ∷ single "eq l1 1" "refused=7\nat=55\n"
    ∷ single "eq a0" "refused=7\nat=55\n"
    ∷ single "eq v99999999999999999999 1" "refused=7\nat=55\n"
    ∷ boxed (given_sheet "" "v00:1") "refused=4\nat=44\n"
    ∷ boxed (given_sheet "" "5") "refused=5\nat=43\n"
    ∷ boxed (given_sheet "" "v:1") "refused=4\nat=44\n"
    ∷ boxed (given_sheet "" "v1:2147483648") "refused=4\nat=46\n"
    ∷ boxed (given_sheet "" "v1:1;") "refused=7\nat=43\n"
    ∷ boxed (given_sheet "" "v0:1,v1:1") "refused=7\nat=48\n"
    ∷ boxed (given_sheet "2" "a0.1:1,a0.0:2;") "refused=10\nat=51\n"
    ∷ boxed (given_sheet "1,1,1,1,1,1,1,1,1,1,1,1,1,1,1,1,1" "") "refused=4\nat=68\n"
    ∷ boxed (given_sheet "511" "") "answer=1\nend=done\nnodes=3\nanswers=1\nerrors=0\nfails=0\n"
    ∷ boxed (given_sheet "500,12" "") "refused=4\nat=40\n"
    ∷ boxed (given_sheet "1," "") "refused=4\nat=38\n"
    ∷ boxed (bytes "edition=1\nscalars=3-\n") "refused=4\nat=18\n"
    ∷ boxed (bytes "edition=1\nscalars=65\n") "refused=4\nat=18\n"
    ∷ boxed (bytes "edition=4x") "refused=4\nat=8\n"
    ∷ boxed (bytes "edition=1") "refused=5\nat=9\n"
    ∷ boxed (bytes "edition") "refused=3\nat=0\n"
    ∷ boxed (replicate 4096 0) "refused=3\nat=0\n"
    ∷ boxed (replicate 4097 0) "refused=2\nat=4096\n"
    ∷ boxed (replicate 5000 0) "refused=2\nat=4096\n"
    ∷ boxed (long_sheet (repeated 64 (bytes "not "))) "refused=9\nat=308\n"
    ∷ boxed (long_sheet (repeated 63 (bytes "not ") ++ bytes "true")) "end=done\nnodes=160\nanswers=0\nerrors=0\nfails=1\n"
    ∷ boxed (long_sheet (bytes "not not eq " ++ (ones 8 ++ (bytes " " ++ ones 8)))) "refused=9\nat=3125\n"
    ∷ boxed (long_sheet (bytes "not eq " ++ (ones 8 ++ (bytes " " ++ ones 8)))) "end=done\nnodes=5\nanswers=0\nerrors=0\nfails=1\n"
    ∷ []

pub decided-readings : map given readings ≡ map due readings
unfolding readings repeated ones ReadDefs TreeDefs RunDefs
decided-readings = refl

-- ---- the tree and the run

unfoldable pub walks : List Case
walks =
    single "all l0 0 0 true" "answer=1\nend=done\nnodes=5\nanswers=1\nerrors=0\nfails=0\n"
    ∷ single "some l0 v0 3 true" "error=1\nkind=1\nat=0\nend=done\nnodes=2\nanswers=0\nerrors=1\nfails=0\n"
    ∷ boxed (sheet_of "1" "1" "1" "eq a0 v0 div 1 0") "error=1\nkind=1\nat=0\nend=done\nnodes=2\nanswers=0\nerrors=1\nfails=0\n"
    ∷ boxed (sheet_of "1" "1" "1" "eq a0 0 div 1 0") "error=1\nkind=3\nat=0\nend=done\nnodes=2\nanswers=0\nerrors=1\nfails=0\n"
    ∷ boxed (sheet_of "1" "1" "1" "eq a0 1 v0") "error=1\nkind=4\nat=0\nend=done\nnodes=2\nanswers=0\nerrors=1\nfails=0\n"
    ∷ single "all l0 1 2 ex l1 true" "refused=7\nat=66\n"
    ∷ boxed (sheet_of "0" "2" "" "all l0 1 2 ex l1 eq l1 l0") "answer=1\nend=done\nnodes=9\nanswers=1\nerrors=0\nfails=0\n"
    ∷ single "eq v0 mod -2147483648 -1" "answer=1\nv0=0\nend=done\nnodes=3\nanswers=1\nerrors=0\nfails=0\n"
    ∷ single "eq v0 div -2147483648 -1" "error=1\nkind=2\nat=0\nend=done\nnodes=2\nanswers=0\nerrors=1\nfails=0\n"
    ∷ single "some l0 2147483646 2147483647 eq v0 l0" "answer=1\nv0=2147483646\nanswer=2\nv0=2147483647\nend=done\nnodes=7\nanswers=2\nerrors=0\nfails=0\n"
    ∷ under box_path 7 (sheet_of "1" "1" "" "some l0 -2147483648 2147483647 eq v0 l0") "answer=1\nv0=-2147483648\nanswer=2\nv0=-2147483647\nend=spent\nnodes=7\nanswers=2\nerrors=0\nfails=0\n"
    ∷ listing 1 0 "true" "end=done\nnodes=3\nanswers=1\nerrors=0\nfails=0\n"
    ∷ listing 0 10 "eq v0 1" "end=output\nnodes=3\nanswers=0\nerrors=0\nfails=0\n"
    ∷ listing 0 14 "eq v0 1" "answer=1\nv0=1\nend=done\nnodes=3\nanswers=1\nerrors=0\nfails=0\n"
    ∷ listing 0 13 "eq v0 1" "end=output\nnodes=3\nanswers=0\nerrors=0\nfails=0\n"
    ∷ under 2 2 (sheet_of "1" "1" "" "true") "end=spent\nnodes=2\nanswers=0\nerrors=0\nfails=0\n"
    ∷ under 2 box_budget (sheet_of "1" "1" "" "true") "end=path\nnodes=2\nanswers=0\nerrors=0\nfails=0\n"
    ∷ under box_path 0 (sheet_of "1" "1" "" "true") "end=spent\nnodes=0\nanswers=0\nerrors=0\nfails=0\n"
    ∷ lent 0 1000000 "refused=1\nat=0\n"
    ∷ lent 32769 1000000 "refused=1\nat=0\n"
    ∷ lent 32768 399359 "refused=1\nat=0\n"
    ∷ lent 32768 399360 "answer=1\nend=done\nnodes=3\nanswers=1\nerrors=0\nfails=0\n"
    ∷ []

pub decided-walks : map given walks ≡ map due walks
unfolding walks ReadDefs TreeDefs RunDefs
decided-walks = refl

-- ---- inner trees: where a success counts (document 02, Two)

unfoldable pub inners : List Case
inners =
    -- no value is needed first, and none remains after
    single "not and eq v0 0 eq v0 1" "answer=1\nend=done\nnodes=7\nanswers=1\nerrors=0\nfails=0\n"
    ∷ single "and not and eq v0 0 eq v0 1 eq v0 2" "answer=1\nv0=2\nend=done\nnodes=9\nanswers=1\nerrors=0\nfails=0\n"
    ∷ single "imp or eq v0 0 true eq v0 1" "answer=1\nv0=1\nend=done\nnodes=11\nanswers=1\nerrors=0\nfails=0\n"
    ∷ single "imp and eq v0 0 eq v0 1 eq v0 2" "answer=1\nend=done\nnodes=7\nanswers=1\nerrors=0\nfails=0\n"
    ∷ single "imp eq v0 0 true" "error=1\nkind=6\nat=0\nend=done\nnodes=5\nanswers=0\nerrors=1\nfails=0\n"
    ∷ boxed (sheet_of "3" "0" "" "and eq v0 5 not eq v2 2") "error=1\nkind=6\nat=4\nv0=5\nend=done\nnodes=7\nanswers=0\nerrors=1\nfails=0\n"
    -- a success that gives a value before and after one that gives none
    ∷ single "not or eq v0 0 eq 1 1" "end=done\nnodes=9\nanswers=0\nerrors=0\nfails=1\n"
    ∷ single "not or true eq v0 1" "end=done\nnodes=6\nanswers=0\nerrors=0\nfails=1\n"
    ∷ single "not or eq v0 0 eq 1 2" "error=1\nkind=6\nat=0\nend=done\nnodes=8\nanswers=0\nerrors=1\nfails=0\n"
    -- elements
    ∷ boxed (sheet_of "0" "0" "2" "not eq a0 1 0") "error=1\nkind=6\nat=0\nend=done\nnodes=5\nanswers=0\nerrors=1\nfails=0\n"
    ∷ boxed (sheet_of "0" "0" "2" "not and eq a0 1 0 eq a0 1 1") "answer=1\nend=done\nnodes=7\nanswers=1\nerrors=0\nfails=0\n"
    -- locals bound inside, outside, and in an inner tree around
    ∷ single "not ex l0 eq l0 0" "end=done\nnodes=6\nanswers=0\nerrors=0\nfails=1\n"
    ∷ boxed (sheet_of "0" "2" "" "not all l0 0 1 ex l1 eq l1 l0") "end=done\nnodes=11\nanswers=0\nerrors=0\nfails=1\n"
    ∷ single "ex l0 not eq l0 0" "error=1\nkind=6\nat=2\nend=done\nnodes=6\nanswers=0\nerrors=1\nfails=0\n"
    ∷ single "not ex l0 not eq l0 0" "error=1\nkind=6\nat=0\nend=done\nnodes=8\nanswers=0\nerrors=1\nfails=0\n"
    -- what an inner `not` assigns, and the left side of an inner `imp`, is gone; what its G assigns is not
    ∷ single "not not eq v0 0" "error=1\nkind=6\nat=0\nend=done\nnodes=7\nanswers=0\nerrors=1\nfails=0\n"
    ∷ single "not not and eq v0 0 eq v0 1" "end=done\nnodes=9\nanswers=0\nerrors=0\nfails=1\n"
    ∷ single "not imp and eq v0 0 eq v0 1 eq 1 1" "end=done\nnodes=9\nanswers=0\nerrors=0\nfails=1\n"
    ∷ boxed (sheet_of "1" "1" "1" "not imp true eq a0 0 1") "error=1\nkind=6\nat=0\nend=done\nnodes=9\nanswers=0\nerrors=1\nfails=0\n"
    -- limits inside
    ∷ under box_path 5 (sheet_of "1" "1" "" "not and eq v0 0 eq v0 1") "end=spent\nnodes=5\nanswers=0\nerrors=0\nfails=0\n"
    ∷ under 4 box_budget (sheet_of "1" "1" "" "not and eq v0 0 eq v0 1") "end=path\nnodes=4\nanswers=0\nerrors=0\nfails=0\n"
    ∷ under 5 9 (sheet_of "1" "1" "" "not or eq v0 0 eq 1 1") "end=done\nnodes=9\nanswers=0\nerrors=0\nfails=1\n"
    ∷ []

pub decided-inners : map given inners ≡ map due inners
unfolding inners ReadDefs TreeDefs RunDefs
decided-inners = refl
