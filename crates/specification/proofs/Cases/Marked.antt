-- The marked cases of document 01, with document 02's kind 6 for `not eq v0 0`: what the box prints, or a call under another setting.
-- Assumes nothing.
use mathlib.Core.Path.{◌≡◌, refl}
use mathlib.Core.List.{List, [], ◌∷◌, map}
use Rattle.specification.specs.Bytes.{Bytes}
use Rattle.specification.specs.Printed.{box_path, box_budget}
use Rattle.specification.proofs.Cases.Bundles.{ReadDefs, TreeDefs, RunDefs}
use Rattle.specification.proofs.Cases.Case.{Case, boxed, given, due, under, sheet_of, single}

-- formula (1.1) of the paper
abbrev pub formula11 : Bytes
formula11 = sheet_of "2" "0" "" "and and or eq v0 2 eq v0 3 or eq v1 add v0 1 eq 2 v1 eq mul 2 v0 mul 3 v1"

unfoldable pub marked : List Case
marked =
    boxed formula11 "answer=1\nv0=3\nv1=2\nend=done\nnodes=20\nanswers=1\nerrors=0\nfails=3\n"
    ∷ under box_path 19 formula11 "end=spent\nnodes=19\nanswers=0\nerrors=0\nfails=3\n"
    ∷ under 8 box_budget formula11 "end=path\nnodes=19\nanswers=0\nerrors=0\nfails=3\n"
    ∷ under 9 20 formula11 "answer=1\nv0=3\nv1=2\nend=done\nnodes=20\nanswers=1\nerrors=0\nfails=3\n"
    ∷ single "true" "answer=1\nend=done\nnodes=3\nanswers=1\nerrors=0\nfails=0\n"
    ∷ single "and eq v0 0 lt v0 1" "answer=1\nv0=0\nend=done\nnodes=5\nanswers=1\nerrors=0\nfails=0\n"
    ∷ single "and lt v0 1 eq v0 0" "error=1\nkind=1\nat=1\nend=done\nnodes=3\nanswers=0\nerrors=1\nfails=0\n"
    ∷ single "or eq v0 div 1 0 eq v0 3" "error=1\nkind=3\nat=1\nanswer=1\nv0=3\nend=done\nnodes=6\nanswers=1\nerrors=1\nfails=0\n"
    ∷ single "not eq v0 0" "error=1\nkind=6\nat=0\nend=done\nnodes=5\nanswers=0\nerrors=1\nfails=0\n"
    ∷ single "not or eq 1 1 eq 1 div 1 0" "end=done\nnodes=6\nanswers=0\nerrors=0\nfails=1\n"
    ∷ single "not or eq 1 2 eq 1 div 1 0" "error=1\nkind=6\nat=0\nend=done\nnodes=7\nanswers=0\nerrors=1\nfails=0\n"
    ∷ single "all l0 1 0 eq 1 2" "answer=1\nend=done\nnodes=3\nanswers=1\nerrors=0\nfails=0\n"
    ∷ single "some l0 1 0 true" "end=done\nnodes=2\nanswers=0\nerrors=0\nfails=1\n"
    ∷ boxed (sheet_of "1" "1" "3" "all l0 0 2 eq a0 l0 mul l0 l0") "answer=1\na0.0=0\na0.1=1\na0.2=4\nend=done\nnodes=9\nanswers=1\nerrors=0\nfails=0\n"
    ∷ single "eq v0 div -7 2" "answer=1\nv0=-3\nend=done\nnodes=3\nanswers=1\nerrors=0\nfails=0\n"
    ∷ single "eq v0 mod -7 2" "answer=1\nv0=-1\nend=done\nnodes=3\nanswers=1\nerrors=0\nfails=0\n"
    ∷ single "eq v0 add 2147483647 1" "error=1\nkind=2\nat=0\nend=done\nnodes=2\nanswers=0\nerrors=1\nfails=0\n"
    ∷ single "eq v0 2147483648" "refused=4\nat=58\n"
    ∷ []

pub marked-cases : map given marked ≡ map due marked
unfolding marked ReadDefs TreeDefs RunDefs
marked-cases = refl
