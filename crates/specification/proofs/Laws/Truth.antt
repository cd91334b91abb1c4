-- The tree is sound and complete for truth: the induction over all formulas; and what an inner tree tells of any formula. Assumes nothing.
use mathlib.Core.Path.{◌≡◌}
use Rattle.specification.specs.Lines.{Declared}
use Rattle.specification.specs.Ast.{Formula, truth, and, or, imp, neg, eq, compare, ex, some, all, call}
use Rattle.specification.specs.Value.{Valuation}
use Rattle.specification.specs.WellFormed.{Scope, Ok, Valid}
use Rattle.specification.specs.Tree.{succeeds, fails, verdict}
use Rattle.specification.proofs.Laws.Outside.{Covers}
use Rattle.specification.proofs.Laws.Correct.{Proves, Sound, Complete, truth-sound, truth-complete, and_sound, and-complete, or_sound, or-complete, call-sound, call-complete}
use Rattle.specification.proofs.Laws.Atoms.{eq-sound, eq-complete, compare-sound, compare-complete}
use Rattle.specification.proofs.Laws.Quantifiers.{ex-sound, ex-complete, some-sound, some-complete, all_sound, all-complete}
use Rattle.specification.proofs.Laws.Negation.{inner_tree, Refutes, succeeds-proves, fails-refutes, neg-sound, neg-complete, imp-sound, imp-complete}

pub laws : (D : Declared) (F : Formula) → Sound D F × Complete D F
laws D truth = (truth-sound D, truth-complete D)
laws D (and F G) =
    let (sF, cF) = laws D F in let (sG, cG) = laws D G in
    (and_sound D F G sF sG, and-complete D F G cF cG)
laws D (or F G) =
    let (sF, cF) = laws D F in let (sG, cG) = laws D G in
    (or_sound D F G sF sG, or-complete D F G cF cG)
laws D (imp tok F G) =
    let (sF, cF) = laws D F in let (sG, cG) = laws D G in
    (imp-sound D tok F sF cF G sG, imp-complete D tok F sF cF G cG)
laws D (neg tok F) = let (sF, cF) = laws D F in (neg-sound D tok F sF cF, neg-complete D tok F sF cF)
laws D (eq tok s t) = (eq-sound D tok s t, eq-complete D tok s t)
laws D (compare tok r s t) = (compare-sound D tok r s t, compare-complete D tok r s t)
laws D (ex l F) = let (sF, cF) = laws D F in (ex-sound D l F sF, ex-complete D l F cF)
laws D (some tok l a b F) = let (sF, cF) = laws D F in (some-sound D tok l a b F sF, some-complete D tok l a b F cF)
laws D (all tok l a b F) = let (sF, cF) = laws D F in (all_sound D tok l a b F sF, all-complete D tok l a b F cF)
laws D (call K ts F) = let (sF, cF) = laws D F in (call-sound D K ts F sF, call-complete D K ts F cF)

-- ---- both directions of an inner tree

module _ (D : Declared) (F : Formula) (S : Scope) (c : Covers D S) (o : Ok D S F) (α : Valuation) (v : Valid D α) where
  -- a success leaf, which gave nothing, makes F true in each environment that agrees with the valuation
  pub inner-success-true : verdict (inner_tree D F α) ≡ succeeds → Proves D S F α
  inner-success-true = succeeds-proves D F S c o α v (laws D F).0

  -- failure leaves only means that F is true in none
  pub inner-failures-false : verdict (inner_tree D F α) ≡ fails → Refutes D S F α
  inner-failures-false = fails-refutes D F S c o α v (laws D F).1
