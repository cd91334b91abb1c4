-- What a class may be told: a run that ends `done` with no errors has no answers exactly when no pattern exists, however many blocks were
-- skipped. Assumes nothing.
use Prim.Native.Nat.{ℕ, suc}
use native.Mathlib.Omega.{arith}
use mathlib.Core.Path.{◌≡◌, refl, sym, ◌∙◌, ap}
use mathlib.Core.List.{List, [], ◌∷◌, append-nil}
use Rattle.specification.specs.declared.Setting.{Setting}
use Rattle.specification.specs.declared.Tallies.{Tallies}
use Rattle.specification.specs.declared.End.TheVariants.{Done}
use Rattle.specification.specs.Lists.{Each}
use Rattle.specification.specs.Lines.{Declared}
use Rattle.specification.specs.Sheet.{Sheet}
use Rattle.specification.specs.WellFormed.{WellFormed}
use Rattle.specification.specs.Listing.{Block, block_of}
use Rattle.specification.specs.Leaves.{Leaf, answer, error, fail, leaves, is_answer, is_error, how_many, blocks}
use Rattle.specification.specs.Outcome.{root_of, visits_of}
use Rattle.specification.specs.Demand2.{leaves_before, ReadLeftToRight}
use Rattle.specification.specs.Demand3.{IsAnswer, IsError, NoPattern}
use Rattle.specification.proofs.Laws.Leaves.{leaves_in-visits}
use Rattle.specification.proofs.Laws.Demand2.{leaves_before-is}
use Rattle.specification.proofs.Laws.Agreement.{agreement}

-- ---- where there are no leaves of a kind

module _ (D : Declared) where
  no-errors : (ls : List Leaf) (a e : ℕ) → how_many is_error ls ≡ 0 → Each IsAnswer (blocks D a e ls)
  unfolding how_many Each blocks block_of
  no-errors [] a e h = tt
  no-errors (answer β ∷ ls) a e h = (tt, no-errors ls (suc a) e h)
  no-errors (error κ t β ∷ ls) a e h = absurd (omega arith)
  no-errors (fail ∷ ls) a e h = no-errors ls a e h

  no-answers : (ls : List Leaf) (a e : ℕ) → how_many is_answer ls ≡ 0 → Each IsError (blocks D a e ls)
  unfolding how_many Each blocks block_of
  no-answers [] a e h = tt
  no-answers (answer β ∷ ls) a e h = absurd (omega arith)
  no-answers (error κ t β ∷ ls) a e h = (tt, no-answers ls a (suc e) h)
  no-answers (fail ∷ ls) a e h = no-answers ls a e h

  only-errors : (ls : List Leaf) (a e : ℕ) → Each IsError (blocks D a e ls) → how_many is_answer ls ≡ 0
  unfolding how_many Each blocks block_of
  only-errors [] a e h = refl
  only-errors (answer β ∷ ls) a e h = absurd h.0
  only-errors (error κ t β ∷ ls) a e h = only-errors ls a (suc e) h.1
  only-errors (fail ∷ ls) a e h = only-errors ls a e h

-- ---- of a run that ends done

module _ (s : Sheet) (wf : WellFormed s) (S : Setting) (size : ℕ) (t : Tallies) (bs : List Block) (run : ReadLeftToRight s S size Done t bs) where
  -- it has met all the tree's leaves
  all-leaves : leaves_before s run.place ≡ leaves (root_of s)
  unfolding visits_of
  all-leaves =
      ap (leaves_before s) run.ends ∙ leaves_before-is s (visits_of s) [] (sym (append-nil (visits_of s))) ∙ leaves_in-visits (root_of s) 1

  answers-are : t.answers ≡ how_many is_answer (leaves (root_of s))
  answers-are = run.answers ∙ ap (how_many is_answer) all-leaves

  errors-are : t.errors ≡ how_many is_error (leaves (root_of s))
  errors-are = run.errors ∙ ap (how_many is_error) all-leaves

  pub no-pattern : t.errors ≡ 0 → (t.answers ≡ 0 → NoPattern s) × (NoPattern s → t.answers ≡ 0)
  no-pattern none =
      let verdict = (agreement s wf).none_exactly_when (no-errors s.declared (leaves (root_of s)) 0 0 (sym errors-are ∙ none)) in (
        (λ zero. verdict.0 (no-answers s.declared (leaves (root_of s)) 0 0 (sym answers-are ∙ zero))),
        (λ pattern. answers-are ∙ only-errors s.declared (leaves (root_of s)) 0 0 (verdict.1 pattern)),
      )
