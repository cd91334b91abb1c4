-- The blocks past the skipped ones: of no blocks, of some that a predicate holds of, of more blocks, and as a run goes on by one block. Assumes
-- nothing.
use Prim.Native.Nat.{ℕ, zero, suc, ◌-◌}
use native.Mathlib.Omega.{arith}
use mathlib.Core.Path.{◌≡◌, refl}
use mathlib.Core.Bool.{Bool, true, false}
use mathlib.Core.List.{List, [], ◌∷◌, ◌++◌}
use lib.Dec.{ltb}
use borrow.Author.Tests.{ltb-true, ltb-false}
use Rattle.specification.specs.Lists.{Each}
use Rattle.specification.specs.Listing.{Block, listing_text}
use Rattle.specification.specs.Demand2.{past}
use Rattle.specification.proofs.Laws.Lists.{Begins}
use Rattle.specification.proofs.Laws.Settled.{unless}
use Rattle.specification.proofs.Laws.Stops.{due_text}

pub past-none : (skip : ℕ) → past skip [] ≡ []
past-none zero = refl
past-none (suc k) = refl

pub each-past : (P : Block → Type 0) (skip : ℕ) (bs : List Block) → Each P bs → Each P (past skip bs)
unfolding Each
each-past P zero bs h = h
each-past P (suc k) [] h = tt
each-past P (suc k) (b ∷ bs) h = each-past P k bs h.1

pub past-++ : (skip : ℕ) (bs cs : List Block) → Begins (past skip bs) (past skip (bs ++ cs))
past-++ zero bs cs = (cs, refl)
past-++ (suc k) [] cs = (past (suc k) cs, refl)
past-++ (suc k) (b ∷ bs) cs = past-++ k bs cs

-- one block more, where n blocks come before it and m with it
pub skip-one : (skip n m : ℕ) → m ≡ suc n → (b : Block) (bs : List Block) (c : Bool) → ltb n skip ≡ c →
    due_text (unless c b) ++ listing_text (past (skip - m) bs) ≡ listing_text (past (skip - n) (b ∷ bs))
unfolding listing_text
skip-one skip n m e b bs true h =
    let l = ltb-true n skip h in
    let k : skip - n ≡ suc (skip - m) = omega arith in
    rw k
skip-one skip n m e b bs false h =
    let l = ltb-false n skip h in
    let k : skip - n ≡ 0 = omega arith in
    let j : skip - m ≡ 0 = omega arith in
    rw (k, j)
