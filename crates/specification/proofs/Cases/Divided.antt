-- The telling cases of docs/DECISIONS.md on division (document 02, Seven). Assumes nothing.
use Prim.Native.String.{String}
use mathlib.Core.Path.{◌≡◌, refl}
use mathlib.Core.List.{List, [], ◌∷◌, ◌++◌, map}
use Rattle.specification.specs.Bytes.{bytes}
use Rattle.specification.proofs.Cases.Bundles.{ReadDefs, TreeDefs, RunDefs}
use Rattle.specification.proofs.Cases.Case.{Case, boxed, given, due, single}

-- one scalar and one local, of edition 3, where the scalar may have every value, and of edition 2
abbrev third : String → String → Case
third formula page =
    boxed (bytes "edition=3\nscalars=1\nlocals=1\narrays=\nranges=-2147483648:2147483647\ngiven=\nformula=" ++ bytes formula ++ bytes "\n") page

abbrev second : String → String → Case
second formula page = boxed (bytes "edition=2\nscalars=1\nlocals=1\narrays=\ngiven=\nformula=" ++ bytes formula ++ bytes "\n") page

unfoldable pub division_cases : List Case
division_cases =
    -- rounded down: both signs of both operands, and what is left goes with it by the equation
    third "eq v0 div -7 2" "answer=1\nv0=-4\nend=done\nnodes=3\nanswers=1\nerrors=0\nfails=0\n"
    ∷ third "eq v0 mod -7 2" "answer=1\nv0=1\nend=done\nnodes=3\nanswers=1\nerrors=0\nfails=0\n"
    ∷ third "eq v0 div 7 -2" "answer=1\nv0=-4\nend=done\nnodes=3\nanswers=1\nerrors=0\nfails=0\n"
    ∷ third "eq v0 mod 7 -2" "answer=1\nv0=-1\nend=done\nnodes=3\nanswers=1\nerrors=0\nfails=0\n"
    ∷ third "eq v0 div -7 -2" "answer=1\nv0=3\nend=done\nnodes=3\nanswers=1\nerrors=0\nfails=0\n"
    ∷ third "eq v0 mod -7 -2" "answer=1\nv0=-1\nend=done\nnodes=3\nanswers=1\nerrors=0\nfails=0\n"
    ∷ third "eq v0 div 7 2" "answer=1\nv0=3\nend=done\nnodes=3\nanswers=1\nerrors=0\nfails=0\n"
    ∷ third "eq v0 mod 7 2" "answer=1\nv0=1\nend=done\nnodes=3\nanswers=1\nerrors=0\nfails=0\n"
    ∷ third "eq v0 mod -1 12" "answer=1\nv0=11\nend=done\nnodes=3\nanswers=1\nerrors=0\nfails=0\n"
    ∷ third "eq v0 div -12 12" "answer=1\nv0=-1\nend=done\nnodes=3\nanswers=1\nerrors=0\nfails=0\n"
    ∷ third "eq v0 mod -12 12" "answer=1\nv0=0\nend=done\nnodes=3\nanswers=1\nerrors=0\nfails=0\n"
    -- the older pair under its new words
    ∷ third "eq v0 quo -7 2" "answer=1\nv0=-3\nend=done\nnodes=3\nanswers=1\nerrors=0\nfails=0\n"
    ∷ third "eq v0 rem -7 2" "answer=1\nv0=-1\nend=done\nnodes=3\nanswers=1\nerrors=0\nfails=0\n"
    ∷ third "eq v0 quo 7 -2" "answer=1\nv0=-3\nend=done\nnodes=3\nanswers=1\nerrors=0\nfails=0\n"
    ∷ third "eq v0 rem 7 -2" "answer=1\nv0=1\nend=done\nnodes=3\nanswers=1\nerrors=0\nfails=0\n"
    -- the ends of 32 bits: one quotient is outside them, and no rest is
    ∷ third "eq v0 div -2147483648 -1" "error=1\nkind=2\nat=0\nend=done\nnodes=2\nanswers=0\nerrors=1\nfails=0\n"
    ∷ third "eq v0 mod -2147483648 -1" "answer=1\nv0=0\nend=done\nnodes=3\nanswers=1\nerrors=0\nfails=0\n"
    ∷ third "eq v0 quo -2147483648 -1" "error=1\nkind=2\nat=0\nend=done\nnodes=2\nanswers=0\nerrors=1\nfails=0\n"
    ∷ third "eq v0 rem -2147483648 -1" "answer=1\nv0=0\nend=done\nnodes=3\nanswers=1\nerrors=0\nfails=0\n"
    ∷ third "eq v0 div -2147483648 2147483647" "answer=1\nv0=-2\nend=done\nnodes=3\nanswers=1\nerrors=0\nfails=0\n"
    ∷ third "eq v0 mod -2147483648 2147483647" "answer=1\nv0=2147483646\nend=done\nnodes=3\nanswers=1\nerrors=0\nfails=0\n"
    ∷ third "eq v0 div 2147483647 -2147483648" "answer=1\nv0=-1\nend=done\nnodes=3\nanswers=1\nerrors=0\nfails=0\n"
    ∷ third "eq v0 mod 2147483647 -2147483648" "answer=1\nv0=-1\nend=done\nnodes=3\nanswers=1\nerrors=0\nfails=0\n"
    -- a zero divisor
    ∷ third "eq v0 div 0 0" "error=1\nkind=3\nat=0\nend=done\nnodes=2\nanswers=0\nerrors=1\nfails=0\n"
    ∷ third "eq v0 mod -7 0" "error=1\nkind=3\nat=0\nend=done\nnodes=2\nanswers=0\nerrors=1\nfails=0\n"
    ∷ third "eq v0 quo 7 0" "error=1\nkind=3\nat=0\nend=done\nnodes=2\nanswers=0\nerrors=1\nfails=0\n"
    ∷ third "eq v0 rem 7 0" "error=1\nkind=3\nat=0\nend=done\nnodes=2\nanswers=0\nerrors=1\nfails=0\n"
    -- around a rim
    ∷ third "all l0 0 11 le 0 mod sub l0 1 12" "answer=1\nend=done\nnodes=27\nanswers=1\nerrors=0\nfails=0\n"
    ∷ third "all l0 0 11 le 0 rem sub l0 1 12" "end=done\nnodes=3\nanswers=0\nerrors=0\nfails=1\n"
    -- editions 1 and 2
    ∷ single "eq v0 quo 7 2" "refused=6\nat=58\n"
    ∷ single "eq v0 rem 7 2" "refused=6\nat=58\n"
    ∷ second "eq v0 quo 7 2" "refused=6\nat=58\n"
    ∷ second "eq v0 rem 7 2" "refused=6\nat=58\n"
    ∷ second "eq v0 div -7 2" "answer=1\nv0=-3\nend=done\nnodes=3\nanswers=1\nerrors=0\nfails=0\n"
    ∷ second "eq v0 mod -7 2" "answer=1\nv0=-1\nend=done\nnodes=3\nanswers=1\nerrors=0\nfails=0\n"
    -- a sheet has one edition, its proc lines too
    ∷ boxed (bytes "edition=3\nscalars=1\nlocals=0\narrays=\nranges=0:11\ngiven=\nproc=2:eq p0 mod sub p1 1 12\nformula=call 0 v0 0\n") "answer=1\nv0=11\nend=done\nnodes=4\nanswers=1\nerrors=0\nfails=0\n"
    ∷ boxed (bytes "edition=2\nscalars=1\nlocals=0\narrays=\ngiven=\nproc=2:eq p0 mod sub p1 1 12\nformula=call 0 v0 0\n") "answer=1\nv0=-1\nend=done\nnodes=4\nanswers=1\nerrors=0\nfails=0\n"
    ∷ []

pub decided-division : map given division_cases ≡ map due division_cases
unfolding division_cases ReadDefs TreeDefs RunDefs
decided-division = refl
