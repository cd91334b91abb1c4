-- The law of parts alone shuts out wrong boxes: one that numbers blocks anew in each part (numbered-anew), and one whose skip counts answers only
-- (answers-only). Each law is about the blocks that such a box writes in two parts and in one run, for whatever sheet and however it came to
-- write them. Assumes nothing.
use Prim.Native.Nat.{ℕ, ◌≤◌, ◌<◌}
use native.Mathlib.Omega.{arith}
use mathlib.Core.Path.{◌≡◌, refl, sym, ◌∙◌, ap}
use mathlib.Core.List.{List, [], ◌∷◌, ◌++◌}
use lib.ListN.{length}
use lib.IntN.{pos}
use Rattle.specification.specs.declared.Tallies.{Tallies}
use Rattle.specification.specs.declared.End.TheVariants.{Done, Output}
use Rattle.specification.specs.Bytes.{Bytes}
use Rattle.specification.specs.Lines.{scalar}
use Rattle.specification.specs.Listing.{Block, Head, answer_head, listing_text}
use Rattle.specification.specs.Run.{setting}
use Rattle.specification.specs.Outcome.{ran, written, words_for}
use Rattle.specification.proofs.Laws.Contradiction.{contradiction}
use Rattle.specification.proofs.Laws.Blocks.{listing-injective, listing_text-++}
use Rattle.vodlasim.specs.Parts.{Box, Plot, joined, InParts, Plotted, LawOfParts}

-- a head with `v0=n` under it
abbrev block : Head → ℕ → Block
block h n = record { head = h; cells = record { name = scalar 0; value = pos n } ∷ [] }

module _ (box : Box) (sheet : Bytes) (limit budget words size : ℕ) (enough : words_for limit ≤ words) where
  -- what a box writes: the blocks of a first part, those of the part past them, which is the last, and those of one run with enough output
  pub record Writes (first second whole : List Block) : Type 0 where
    pub size₁ : ℕ
    pub size₂ : ℕ
    pub tallies₁ : Tallies
    pub tallies₂ : Tallies
    pub tallies : Tallies
    pub part₁ : box sheet (setting limit budget 0) words size₁ ≡ ran Output tallies₁ (listing_text first)
    pub part₂ : box sheet (setting limit budget (length first)) words size₂ ≡ ran Done tallies₂ (listing_text second)
    pub run : box sheet (setting limit budget 0) words size ≡ ran Done tallies (listing_text whole)
    pub room : length (listing_text (first ++ second)) ≤ size

  law-joins : (first second whole : List Block) → 0 < length first → Writes first second whole → LawOfParts box sheet limit budget →
      whole ≡ first ++ second
  unfolding InParts joined
  law-joins first second whole some w law =
      let p : Plot = record { skip = 0; words = words; size = w.size₁; end = Output; tallies = w.tallies₁; blocks = first } in
      let q : Plot = record { skip = length first; words = words; size = w.size₂; end = Done; tallies = w.tallies₂; blocks = second } in
      let parts : InParts (Plotted box sheet limit budget) 0 (p ∷ []) q = (refl, w.part₁, refl, some, (omega arith, w.part₂, λ h. contradiction cc)) in
      let both = listing_text-++ first second in
      let is = law (p ∷ []) q parts words size enough (rw (sym both) w.room) in
      listing-injective whole (first ++ second) (ap written (sym w.run ∙ is) ∙ sym both)

  -- answers 1 and 2 in one run; in parts answer 1, and answer 1 again
  pub numbered-anew : Writes (block (answer_head 1) 1 ∷ []) (block (answer_head 1) 2 ∷ []) (block (answer_head 1) 1 ∷ block (answer_head 2) 2 ∷ []) →
      ¬ LawOfParts box sheet limit budget
  numbered-anew w law =
      let e = law-joins (block (answer_head 1) 1 ∷ []) (block (answer_head 1) 2 ∷ []) (block (answer_head 1) 1 ∷ block (answer_head 2) 2 ∷ []) (omega arith) w law in
      let same : block (answer_head 2) 2 ≡ block (answer_head 1) 2 = cc in
      let heads : answer_head 2 ≡ answer_head 1 = ap (λ (b : Block). b.head) same in
      let z : ◌≡◌ {A = ℕ} 2 1 = cc in
      omega arith

  -- an error, then an answer in one run; in parts the error, and nothing, since the answer is the first
  pub answers-only : (h : Head) (n m : ℕ) → Writes (block h n ∷ []) [] (block h n ∷ block (answer_head 1) m ∷ []) → ¬ LawOfParts box sheet limit budget
  answers-only h n m w law =
      let e = law-joins (block h n ∷ []) [] (block h n ∷ block (answer_head 1) m ∷ []) (omega arith) w law in
      absurd (omega (arith, ap length e))
