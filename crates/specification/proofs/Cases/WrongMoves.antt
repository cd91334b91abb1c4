-- The promises of moving (specs/Moving.antt) shut out wrong moves: a way back that keeps `quo` (keeps-quo), a way up that forgets the arrays'
-- ranges (forgets-arrays), one that leaves `div`, which then rounds down (keeps-div), a pass that leaves an empty range (keeps-empty), and one
-- that takes an empty `all` for false (all-never-holds). Assumes nothing.
use Prim.Native.Nat.{ℕ}
use native.Mathlib.Omega.{arith}
use mathlib.Core.Path.{◌≡◌, refl, sym, ◌∙◌, ap}
use mathlib.Core.Bool.{Bool, true, false}
use lib.ListN.{replicate}
use Rattle.specification.specs.declared.Setting.{Setting}
use Rattle.specification.specs.Bytes.{Bytes, bytes, pick}
use Rattle.specification.specs.Parser.{Read, refused, found}
use Rattle.specification.specs.Lines.{everything}
use Rattle.specification.specs.Ast.{Formula, truth, and, or, imp, neg, eq, compare, ex, some, all, call as calls}
use Rattle.specification.specs.Formula.{empty_range}
use Rattle.specification.specs.Sheet.{Sheet, read_with}
use Rattle.specification.specs.Outcome.{call}
use Rattle.specification.specs.Text.{text_in, text_of}
use Rattle.specification.specs.Tidy.{has_empty_range, falsehood}
use Rattle.specification.specs.Moves.{in_edition, older, newer, raised, lowered, narrow_in, rounding_in, moved, longest_sheet, words_to_move, admitted, after_reading, fitted, unless, move_up}
use Rattle.specification.specs.Moving.{Way, Accepted, Orderly, ThereAndBack, ListsAlike, RunsAsBefore}
use Rattle.specification.proofs.Laws.Contradiction.{contradiction}
use Rattle.specification.proofs.Cases.Bundles.{ReadDefs, TreeDefs, RunDefs, MoveDefs}

-- the box's setting
abbrev boxed : Setting
boxed = record { path = 512; budget = 1000000; skip = 0 }

-- whether what is read has an empty range
abbrev slips : Read Sheet → Bool
slips (refused n p) = false
slips (found s r) = has_empty_range s

is-orderly : (sheet : Bytes) → slips (read_with false sheet) ≡ false → Orderly sheet
is-orderly sheet h s r e = ap slips (sym e) ∙ h

-- ---- a way back that keeps `quo`

abbrev keeps_quo : Way
keeps_quo sheet words size =
    after_reading (λ s. unless 15 (narrow_in s) (unless 16 (rounding_in s) (fitted (text_in newer (lowered s))))) (admitted true newer sheet words size)

abbrev quotient : Bytes
quotient = bytes "edition=3\nscalars=0\nlocals=0\narrays=\nranges=\ngiven=\nformula=eq 3 quo 7 2\n"

-- the older edition has no such word
pub keeps-quo : ¬ ThereAndBack (λ sheet. Unit {0}) keeps_quo move_up
unfolding ReadDefs MoveDefs
keeps-quo law =
    let kept : Bytes = bytes "edition=2\nscalars=0\nlocals=0\narrays=\ngiven=\nformula=eq 3 quo 7 2\n" in
    let e : move_up kept words_to_move longest_sheet ≡ moved quotient =
    law quotient kept tt words_to_move longest_sheet refl words_to_move longest_sheet (omega arith, omega arith) in
    contradiction cc

-- ---- a way up that forgets the arrays' ranges

abbrev scalars_only : Way
scalars_only sheet words size =
    after_reading (λ s. fitted (text_of (in_edition newer (replicate s.declared.scalars everything) s))) (admitted false older sheet words size)

abbrev array : Bytes
array = bytes "edition=2\nscalars=0\nlocals=0\narrays=1\ngiven=\nformula=true\n"

-- the newer edition refuses what it wrote
pub forgets-arrays : ¬ ListsAlike Orderly scalars_only
unfolding ReadDefs MoveDefs TreeDefs RunDefs
forgets-arrays law =
    let short : Bytes = bytes "edition=3\nscalars=0\nlocals=0\narrays=1\nranges=\ngiven=\nformula=true\n" in
    let e : call short boxed 12288 4096 ≡ call array boxed 12288 4096 =
    law array short (is-orderly array refl) words_to_move longest_sheet refl boxed 12288 4096 in
    contradiction cc

-- ---- a way up that leaves the words

abbrev keeps_div : Way
keeps_div sheet words size = after_reading (λ s. fitted (text_in older (raised s))) (admitted false older sheet words size)

abbrev division : Bytes
division = bytes "edition=2\nscalars=0\nlocals=0\narrays=\ngiven=\nformula=eq -3 div -7 2\n"

-- -7 by 2 is -3 toward zero and -4 rounded down
pub keeps-div : ¬ ListsAlike Orderly keeps_div
unfolding ReadDefs MoveDefs TreeDefs RunDefs
keeps-div law =
    let left : Bytes = bytes "edition=3\nscalars=0\nlocals=0\narrays=\nranges=\ngiven=\nformula=eq -3 div -7 2\n" in
    let e : call left boxed 12288 4096 ≡ call division boxed 12288 4096 =
    law division left (is-orderly division refl) words_to_move longest_sheet refl boxed 12288 4096 in
    contradiction cc

-- ---- a pass that leaves an empty range

abbrev keeps_empty : Way
keeps_empty sheet words size = after_reading (λ s. fitted (text_of s)) (admitted false newer sheet words size)

abbrev slip : Bytes
slip = bytes "edition=3\nscalars=0\nlocals=1\narrays=\nranges=\ngiven=\nformula=some l0 8 1 true\n"

-- what it wrote is refused with 17, at the quantifier
pub keeps-empty : ¬ Accepted keeps_empty
unfolding ReadDefs MoveDefs RunDefs
keeps-empty law =
    let e : ◌≡◌ {A = ℕ} 17 1 = law slip slip words_to_move longest_sheet refl boxed 12288 4096 17 60 refl in
    contradiction cc

-- ---- a pass that writes `eq 0 1` for an empty `all`

abbrev false_all : Formula → Formula
false_all truth = truth
false_all (and F G) = and F G
false_all (or F G) = or F G
false_all (imp tok F G) = imp tok F G
false_all (neg tok F) = neg tok F
false_all (eq tok s t) = eq tok s t
false_all (compare tok r s t) = compare tok r s t
false_all (ex l F) = ex l F
false_all (some tok l a b F) = some tok l a b F
false_all (all tok l a b F) = pick (empty_range a b) (falsehood tok) (all tok l a b F)
false_all (calls K ts F) = calls K ts F

abbrev denies_all : Way
denies_all sheet words size =
    after_reading (λ s. fitted (text_of (record { declared = s.declared; given = s.given; formula = false_all s.formula })))
    (admitted false newer sheet words size)

-- the pattern that was listed is gone
pub all-never-holds : ¬ RunsAsBefore denies_all
unfolding ReadDefs MoveDefs TreeDefs RunDefs
all-never-holds law =
    let sheet : Bytes = bytes "edition=3\nscalars=0\nlocals=1\narrays=\nranges=\ngiven=\nformula=all l0 8 1 true\n" in
    let none : Bytes = bytes "edition=3\nscalars=0\nlocals=1\narrays=\nranges=\ngiven=\nformula=eq 0 1\n" in
    let alike = law sheet none words_to_move longest_sheet refl boxed 12288 4096 (λ e. contradiction cc) (λ e. contradiction cc) in
    let answers : ◌≡◌ {A = ℕ} 1 0 = ap (λ t. t.answers) alike.1 in
    contradiction cc
