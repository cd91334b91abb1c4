-- The telling cases of docs/DECISIONS.md on procedures, parameters and calls (document 02, One). Assumes nothing.
use Prim.Native.String.{String}
use mathlib.Core.Path.{◌≡◌, refl}
use mathlib.Core.List.{List, [], ◌∷◌, ◌++◌, map}
use Rattle.specification.specs.Bytes.{Bytes, bytes}
use Rattle.specification.proofs.Cases.Bundles.{ReadDefs, TreeDefs, RunDefs}
use Rattle.specification.proofs.Cases.Case.{Case, boxed, given, due}
use Rattle.specification.proofs.Cases.Decided.{repeated}

-- a sheet of this edition with two scalars, two locals and an array of two, the lines of its procedures and its formula
abbrev sheet_with : String → Bytes → String → Bytes
sheet_with edition procedures formula =
    bytes "edition=" ++ bytes edition ++ bytes "\nscalars=2\nlocals=2\narrays=2\ngiven=\n" ++ procedures ++ bytes "formula=" ++ bytes formula ++ bytes "\n"

-- of edition 2, at the box
abbrev library : String → String → String → Case
library procedures formula page = boxed (sheet_with "2" (bytes procedures) formula) page

unfoldable pub calls : List Case
calls =
    -- a call is one node, then F; a bare place passed in may be assigned
    library "proc=0:true\n" "call 0" "answer=1\nend=done\nnodes=4\nanswers=1\nerrors=0\nfails=0\n"
    ∷ library "proc=1:eq p0 7\n" "call 0 v0" "answer=1\nv0=7\nend=done\nnodes=4\nanswers=1\nerrors=0\nfails=0\n"
    ∷ library "proc=1:eq p0 7\n" "call 0 a0 1" "answer=1\na0.1=7\nend=done\nnodes=4\nanswers=1\nerrors=0\nfails=0\n"
    ∷ library "proc=1:eq p0 7\n" "ex l0 and call 0 l0 eq v0 l0" "answer=1\nv0=7\nend=done\nnodes=7\nanswers=1\nerrors=0\nfails=0\n"
    -- an argument is valued where it stands; one that stands nowhere is not
    ∷ library "proc=2:and eq p0 1 eq p1 2\n" "call 0 v0 add v0 1" "answer=1\nv0=1\nend=done\nnodes=6\nanswers=1\nerrors=0\nfails=0\n"
    ∷ library "proc=1:true\n" "call 0 div 1 0" "answer=1\nend=done\nnodes=4\nanswers=1\nerrors=0\nfails=0\n"
    ∷ library "proc=1:and eq v0 0 eq p0 5\n" "call 0 a0 v0" "answer=1\nv0=0\na0.0=5\nend=done\nnodes=6\nanswers=1\nerrors=0\nfails=0\n"
    -- the token of an error is the procedure's own
    ∷ library "proc=1:lt p0 3\n" "call 0 v0" "error=1\nkind=1\nat=0\nend=done\nnodes=3\nanswers=0\nerrors=1\nfails=0\n"
    ∷ library "proc=0:true\nproc=1:and true lt p0 3\n" "and true call 1 v1" "error=1\nkind=1\nat=3\nend=done\nnodes=7\nanswers=0\nerrors=1\nfails=0\n"
    -- a procedure called twice binds its locals anew
    ∷ library "proc=1:ex l0 and eq l0 p0 eq l0 p0\n" "and call 0 1 call 0 2" "answer=1\nend=done\nnodes=13\nanswers=1\nerrors=0\nfails=0\n"
    ∷ library "proc=1:some l0 p0 p0 eq v0 l0\n" "or call 0 3 call 0 4" "answer=1\nv0=3\nanswer=2\nv0=4\nend=done\nnodes=11\nanswers=2\nerrors=0\nfails=0\n"
    -- calls of earlier procedures, with parameters in their arguments
    ∷ library "proc=2:eq p0 add p1 1\nproc=1:and eq p0 5 call 0 v1 mul p0 2\n" "call 1 v0" "answer=1\nv0=5\nv1=11\nend=done\nnodes=7\nanswers=1\nerrors=0\nfails=0\n"
    -- inner trees: what is given through a parameter is given outside; locals of a procedure called inside are inside
    ∷ library "proc=1:not eq p0 0\n" "call 0 v0" "error=1\nkind=6\nat=0\nend=done\nnodes=6\nanswers=0\nerrors=1\nfails=0\n"
    ∷ library "proc=1:not eq p0 0\n" "ex l0 call 0 l0" "error=1\nkind=6\nat=0\nend=done\nnodes=7\nanswers=0\nerrors=1\nfails=0\n"
    ∷ library "proc=1:ex l0 eq l0 p0\n" "not call 0 3" "end=done\nnodes=7\nanswers=0\nerrors=0\nfails=1\n"
    ∷ library "proc=1:not and eq p0 0 eq p0 1\n" "call 0 v0" "answer=1\nend=done\nnodes=8\nanswers=1\nerrors=0\nfails=0\n"
    -- refusals
    ∷ library "proc=1:eq p0 1\n" "call -0 v0" "refused=4\nat=73\n"
    ∷ library "proc=1:eq p0 1\n" "call -1 v0" "refused=4\nat=73\n"
    ∷ library "proc=1:eq p0 1\n" "call 00 v0" "refused=4\nat=73\n"
    ∷ library "proc=1:eq p0 1\n" "call v0 v0" "refused=6\nat=73\n"
    ∷ library "proc=1:eq p0 1\n" "call " "refused=6\nat=73\n"
    ∷ library "proc=1:eq p0 1\n" "call 1 v0" "refused=11\nat=73\n"
    ∷ library "proc=1:eq p0 1\n" "call 99999999999 v0" "refused=11\nat=73\n"
    ∷ library "proc=0:call 0\n" "true" "refused=11\nat=57\n"
    ∷ library "proc=1:eq p0 1\n" "call 0" "refused=5\nat=74\n"
    ∷ library "proc=1:eq p0 1\n" "p0" "refused=6\nat=68\n"
    ∷ library "proc=1:eq p0 1\n" "eq p0 1" "refused=12\nat=71\n"
    ∷ library "proc=1:eq p1 1\n" "true" "refused=12\nat=55\n"
    ∷ library "proc=1:eq p00 1\n" "true" "refused=6\nat=55\n"
    ∷ library "proc=9:true\n" "true" "refused=4\nat=50\n"
    ∷ library "proc=-1:true\n" "true" "refused=4\nat=50\n"
    ∷ library "proc=:true\n" "true" "refused=4\nat=50\n"
    ∷ library "proc=0true\n" "true" "refused=5\nat=51\n"
    ∷ library "proc=0:true \n" "true" "refused=5\nat=56\n"
    ∷ library "prod=0:true\n" "true" "refused=3\nat=45\n"
    ∷ library "proc=0:ex l0 true\n" "ex l0 true" "refused=8\nat=74\n"
    ∷ boxed (sheet_with "2" (repeated 17 (bytes "proc=0:true\n")) "true") "refused=3\nat=237\n"
    ∷ boxed (sheet_with "1" (bytes "") "call 0") "refused=6\nat=53\n"
    ∷ boxed (sheet_with "1" (bytes "") "eq p0 1") "refused=6\nat=56\n"
    ∷ boxed (sheet_with "1" (bytes "proc=0:true\n") "true") "refused=3\nat=45\n"
    ∷ []

pub decided-calls : map given calls ≡ map due calls
unfolding calls repeated ReadDefs TreeDefs RunDefs
decided-calls = refl
