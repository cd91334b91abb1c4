-- The telling cases of docs/DECISIONS.md on moving the catalogue (document 02, Eight and Nine). Assumes nothing.
use Prim.Native.String.{String}
use mathlib.Core.Path.{◌≡◌, refl}
use mathlib.Core.List.{List, [], ◌∷◌, ◌++◌, map}
use Rattle.specification.specs.Bytes.{Bytes, bytes}
use Rattle.specification.specs.Moves.{Result, refusal, moved, longest_sheet, words_to_move, move_up, tidy, move_down}
use Rattle.specification.specs.Moving.{Way}
use Rattle.specification.proofs.Cases.Bundles.{ReadDefs, MoveDefs}

-- a sheet, which way it goes, and what is due
pub record Case : Type 0 where
  pub way : Way
  pub sheet : Bytes
  pub due : Result

abbrev up : String → Result → Case
up sheet due = record { way = move_up; sheet = bytes sheet; due = due }

abbrev down : String → Result → Case
down sheet due = record { way = move_down; sheet = bytes sheet; due = due }

abbrev pass : String → Result → Case
pass sheet due = record { way = tidy; sheet = bytes sheet; due = due }

abbrev to : String → Result
to sheet = moved (bytes sheet)

unfoldable pub move_cases : List Case
move_cases =
    -- all of 32 bits for each scalar and each array, and the words of the older pair
    up "edition=2\nscalars=1\nlocals=0\narrays=3\ngiven=v0:7\nproc=1:eq p0 div v0 2\nformula=call 0 mod a0 1 4\n"
    (moved (bytes "edition=3\nscalars=1\nlocals=0\narrays=3\nranges=-2147483648:2147483647,-2147483648:2147483647\n"
    ++ bytes "given=v0:7\nproc=1:eq p0 quo v0 2\nformula=call 0 rem a0 1 4\n"))
    ∷ up "edition=2\nscalars=0\nlocals=0\narrays=\ngiven=\nformula=true\n"
    (to "edition=3\nscalars=0\nlocals=0\narrays=\nranges=\ngiven=\nformula=true\n")
    -- and back
    ∷ down "edition=3\nscalars=1\nlocals=0\narrays=\nranges=-2147483648:2147483647\ngiven=\nformula=eq v0 rem quo 7 2 2\n"
    (to "edition=2\nscalars=1\nlocals=0\narrays=\ngiven=\nformula=eq v0 mod div 7 2 2\n")
    -- another edition is 4 at the edition, before the sheet's later faults
    ∷ up "edition=1x" (refusal 4 8)
    ∷ up "edition=3\nscalars=0\nlocals=0\narrays=\nranges=\ngiven=\nformula=true\n" (refusal 4 8)
    ∷ down "edition=2\nscalars=99" (refusal 4 8)
    -- a fault of the sheet's own comes before 15 and 16
    ∷ down "edition=3\nscalars=1\nlocals=0\narrays=\nranges=0:1\ngiven=\nformula=eq v0 div 1\n" (refusal 5 74)
    -- 15 at the pair, of a scalar or of an array; it comes before 16
    ∷ down "edition=3\nscalars=1\nlocals=0\narrays=\nranges=0:1\ngiven=\nformula=eq v0 div 1 2\n" (refusal 15 44)
    ∷ down "edition=3\nscalars=1\nlocals=0\narrays=2\nranges=-2147483648:2147483647,-2147483647:2147483647\ngiven=\nformula=true\n" (refusal 15 68)
    -- 16 at the word, in a procedure that nothing calls too
    ∷ down "edition=3\nscalars=0\nlocals=0\narrays=\nranges=\ngiven=\nproc=0:eq 1 mod 5 2\nformula=eq 1 div 2 2\n" (refusal 16 64)
    ∷ down "edition=3\nscalars=0\nlocals=0\narrays=\nranges=\ngiven=\nformula=eq 1 quo 2 div 2 2\n" (refusal 16 71)
    -- `eq 0 1` stands for an empty `some` and `true` for an empty `all`, in a procedure and in a body that stays too
    ∷ up "edition=2\nscalars=0\nlocals=3\narrays=\ngiven=\nproc=1:some l0 1 -1 eq l0 p0\nformula=some l1 0 1 and call 0 l1 all l2 3 2 eq l1 l2\n"
    (to "edition=3\nscalars=0\nlocals=3\narrays=\nranges=\ngiven=\nproc=1:eq 0 1\nformula=some l1 0 1 and call 0 l1 true\n")
    -- equal bounds are a range of one value, and a bound that is no constant is left; narrow ranges and words that round down are no matter
    ∷ pass "edition=3\nscalars=1\nlocals=3\narrays=\nranges=0:1\ngiven=\nformula=or some l0 1 1 all l1 2 v0 eq v0 div 5 4 all l2 9 8 true\n"
    (to "edition=3\nscalars=1\nlocals=3\narrays=\nranges=0:1\ngiven=\nformula=or some l0 1 1 all l1 2 v0 eq v0 div 5 4 true\n")
    -- a body is dropped whole; without an empty range the sheet is passed as it is
    ∷ pass "edition=3\nscalars=0\nlocals=2\narrays=\nranges=\ngiven=\nformula=all l0 1 2 some l1 8 1 lt l1 l0\n"
    (to "edition=3\nscalars=0\nlocals=2\narrays=\nranges=\ngiven=\nformula=all l0 1 2 eq 0 1\n")
    ∷ pass "edition=3\nscalars=0\nlocals=1\narrays=\nranges=\ngiven=\nformula=some l0 1 8 true\n"
    (to "edition=3\nscalars=0\nlocals=1\narrays=\nranges=\ngiven=\nformula=some l0 1 8 true\n")
    -- another edition is 4
    ∷ pass "edition=2\nscalars=0\nlocals=0\narrays=\ngiven=\nformula=true\n" (refusal 4 8)
    -- on the way back 17 is the sheet's own, and comes before 15 and 16
    ∷ down "edition=3\nscalars=1\nlocals=1\narrays=\nranges=0:1\ngiven=\nformula=and true all l0 2 1 eq 1 div 1 1\n" (refusal 17 72)
    ∷ []

-- with as much memory as a move asks for
abbrev given : Case → Result
given c = c.way c.sheet words_to_move longest_sheet

pub moves-decided : map given move_cases ≡ map (λ c. c.due) move_cases
unfolding move_cases ReadDefs MoveDefs
moves-decided = refl

-- with less of either it is 1 at place 0, whatever the sheet
pub little-memory : (sheet : Bytes) →
    (move_up sheet 6143 4096 ≡ refusal 1 0) × (tidy sheet 6143 4096 ≡ refusal 1 0) × (move_down sheet 6144 4095 ≡ refusal 1 0)
unfolding MoveDefs
little-memory sheet = (refl, refl, refl)
