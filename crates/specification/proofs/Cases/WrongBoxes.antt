-- The third demand alone shuts out wrong boxes (document 01, claim c): one that lists nothing and says `done` (lists-nothing), and one that
-- walks the first branch of an `or` only (first-branch-only); one that lists an answer which is none (invents-an-answer); and one that counts an
-- inner success which gave a value (counts-what-gave). Each law is about the bytes that such a box writes for a small sheet, however it came
-- to write them. The right listing of one such sheet does meet the demand (lists-both). Assumes nothing.
use Prim.Native.Nat.{ℕ}
use native.Mathlib.Omega.{arith}
use Prim.Native.String.{String}
use mathlib.Core.Path.{◌≡◌, refl}
use mathlib.Core.Logic.{inl, inr}
use mathlib.Core.List.{[], ◌∷◌}
use lib.ListN.{length}
use lib.Dec.{T}
use lib.IntN.{pos}
use Rattle.specification.specs.declared.End.TheVariants.{Done}
use Rattle.specification.specs.Lists.{Each, Some}
use Rattle.specification.specs.Bytes.{Bytes, bytes}
use Rattle.specification.specs.Number.{in32}
use Rattle.specification.specs.Lines.{scalar, cell_of}
use Rattle.specification.specs.Ast.{Formula, constant, scalar_at, neg, eq, or}
use Rattle.specification.specs.Parser.{Reader, found}
use Rattle.specification.specs.Sheet.{Sheet, beginning, read}
use Rattle.specification.specs.Listing.{Block, answer_head, listing_text}
use Rattle.specification.specs.Plain.{Filling, value_of, Truth, Fills, Keeps, True}
use Rattle.specification.specs.Run.{tallies}
use Rattle.specification.specs.Outcome.{ran, call}
use Rattle.specification.proofs.Laws.Allowed.{in32-in_range}
use Rattle.specification.proofs.Cases.Case.{sheet_of}
use Rattle.specification.specs.Demand3.{Agrees, Such, Agreement, Demand3}
use Rattle.specification.proofs.Cases.Bundles.{ReadDefs, TreeDefs, RunDefs}
use Rattle.specification.proofs.Laws.Demand3.{demand3}
use Rattle.specification.proofs.Laws.Listed.{demand3-agreement}

-- ---- sheets over one scalar, and their answers

-- nothing is given
abbrev sheet_with : Formula → Sheet
sheet_with F = record { declared = beginning 1 1 0 [] []; given = []; formula = F }

-- its bytes
abbrev pub sheet_text : String → Bytes
sheet_text formula = sheet_of "1" "0" "" formula

-- `eq v0 n`, where the `eq` is this token
abbrev is : ℕ → ℕ → Formula
is token n = eq token (scalar_at 0) (constant (pos n))

-- v0 has the value n
abbrev filled : ℕ → Filling
filled n c = pos n

filled-such : (F : Formula) (n : ℕ) → T (in32 (pos n)) → Such (sheet_with F) (filled n)
unfolding Fills Keeps
filled-such F n h = ((λ c k. in32-in_range (sheet_with F).declared refl c (pos n) h), tt)

-- the block `answer=i`, `v0=n`
abbrev answer : ℕ → ℕ → Block
answer i n = record { head = answer_head i; cells = record { name = scalar 0; value = pos n } ∷ [] }

-- the reader after a sheet with so many tokens
abbrev after : Bytes → ℕ → Reader
after sheet tokens = record { place = length sheet; rest = []; tokens = tokens; bound = [] }

-- ---- one answer

abbrev pub one : Bytes
one = sheet_text "eq v0 1"

abbrev one_formula : Formula
one_formula = is 0 1

reads-one : read one ≡ found (sheet_with one_formula) (after one 3)
unfolding ReadDefs
reads-one = refl

pub lists-nothing : ¬ Demand3 one []
unfolding listing_text True Truth value_of Some
lists-nothing d =
    let a : Agreement (sheet_with one_formula) [] = demand3-agreement reads-one refl d in
    a.complete (filled 1) (filled-such one_formula 1 tt) (pos 1, refl, refl)

-- ---- a negation

abbrev pub negated : Bytes
negated = sheet_text "not eq v0 0"

abbrev negated_formula : Formula
negated_formula = neg 0 (is 1 0)

reads-negated : read negated ≡ found (sheet_with negated_formula) (after negated 4)
unfolding ReadDefs
reads-negated = refl

-- the inner tree's one success gives v0 the value 0; a box that counts it has a failure leaf and lists nothing
pub counts-what-gave : ¬ Demand3 negated []
unfolding listing_text True Truth value_of Some
counts-what-gave d =
    let a : Agreement (sheet_with negated_formula) [] = demand3-agreement reads-negated refl d in
    a.complete (filled 1) (filled-such negated_formula 1 tt) (λ (x, e, f). let z : ◌≡◌ {A = ℕ} 1 0 = cc in absurd (omega arith))

-- ---- an answer in each of two branches

abbrev pub two : Bytes
two = sheet_text "or eq v0 1 eq v0 2"

abbrev two_formula : Formula
two_formula = or (is 1 1) (is 4 2)

reads_two : read two ≡ found (sheet_with two_formula) (after two 7)
unfolding ReadDefs
reads_two = refl

runs-two : call two (record { path = 512; budget = 1000000; skip = 0 }) 12288 4096 ≡
    ran Done (tallies 7 2 0 0) (bytes "answer=1\nv0=1\nanswer=2\nv0=2\n")
unfolding ReadDefs TreeDefs RunDefs
runs-two = refl

-- the listing of the right box
pub lists-both : Demand3 two (bytes "answer=1\nv0=1\nanswer=2\nv0=2\n")
lists-both = demand3 two _ _ _ _ _ refl runs-two

pub first-branch-only : ¬ Demand3 two (bytes "answer=1\nv0=1\n")
unfolding RunDefs True Truth value_of Some Each cell_of
first-branch-only d =
    let a : Agreement (sheet_with two_formula) (answer 1 1 ∷ []) = demand3-agreement reads_two refl d in
    go (a.complete (filled 2) (filled-such two_formula 2 tt) (inr (pos 2, refl, refl)))
  where
    go : ¬ Some (Agrees (sheet_with two_formula).declared (filled 2)) (answer 1 1 ∷ [])
    go (inl (e, u)) = let z : ◌≡◌ {A = ℕ} 2 1 = cc in absurd (omega arith)
    go (inr h) = h

-- 3 is no answer
pub invents-an-answer : ¬ Demand3 two (bytes "answer=1\nv0=1\nanswer=2\nv0=2\nanswer=3\nv0=3\n")
unfolding RunDefs True Truth value_of Each cell_of
invents-an-answer d =
    let a : Agreement (sheet_with two_formula) (answer 1 1 ∷ answer 2 2 ∷ answer 3 3 ∷ []) = demand3-agreement reads_two refl d in
    go ((a.right.sound (filled 3) (filled-such two_formula 3 tt)).1.1.0 tt (refl, tt))
  where
    go : ¬ True (sheet_with two_formula) (filled 3)
    go (inl (x, e, f)) = let z : ◌≡◌ {A = ℕ} 3 1 = cc in absurd (omega arith)
    go (inr (x, e, f)) = let z : ◌≡◌ {A = ℕ} 3 2 = cc in absurd (omega arith)
