-- A larger budget, all else equal (document 02, Five): the law of budgets, over what a box gives for a call and the bytes that it wrote. The
-- theorem, over the call and every sheet of whatever bytes, is in proofs/Budgets.antt. Assumes nothing.
use Rattle.std.specs.Prelude.{ℕ, ◌≤◌, ◌≡◌, List, ◌++◌}
use Rattle.specification.specs.declared.End.TheVariants.{Spent, Output}
use Rattle.specification.specs.Bytes.{Bytes}
use Rattle.specification.specs.Listing.{Block}
use Rattle.vodlasim.specs.Parts.{Box, Plot, bytes_of, Plotted}

-- what one plot wrote is a beginning of what the other wrote, and so are its blocks; no tally falls
pub record Lengthened (p q : Plot) : Type 0 where
  pub bytes : (more : Bytes) × (bytes_of q ≡ bytes_of p ++ more)
  pub blocks : (more : List Block) × (q.blocks ≡ p.blocks ++ more)
  pub nodes : p.tallies.nodes ≤ q.tallies.nodes
  pub answers : p.tallies.answers ≤ q.tallies.answers
  pub errors : p.tallies.errors ≤ q.tallies.errors
  pub fails : p.tallies.fails ≤ q.tallies.fails

module _ (box : Box) (sheet : Bytes) (limit : ℕ) where
  -- the law of budgets: a larger budget only lengthens. Output is enough where it did not end the run with the larger budget; where it did, as
  -- much output as the other run had is enough for the law
  abbrev pub LawOfBudgets : Type 0
  LawOfBudgets =
      (budget budget' : ℕ) → budget ≤ budget' →
      (p q : Plot) → Plotted box sheet limit budget p → Plotted box sheet limit budget' q → p.skip ≡ q.skip →
      (q.end ≡ Output → p.size ≤ q.size) → Lengthened p q

  -- and a run that did not end `spent` is the same
  abbrev pub SameUnlessSpent : Type 0
  SameUnlessSpent =
      (budget budget' : ℕ) → budget ≤ budget' →
      (p q : Plot) → Plotted box sheet limit budget p → Plotted box sheet limit budget' q → p.skip ≡ q.skip → p.size ≡ q.size →
      (¬ (p.end ≡ Spent)) → (q.end ≡ p.end) × (q.tallies ≡ p.tallies) × (q.blocks ≡ p.blocks)
