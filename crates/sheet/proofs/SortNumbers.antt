-- Laws of the sorts of what is due, by their numbers: comparisons of the code, and an entry that was read from the stack. Assumes nothing.
use Prim.Native.Nat.{ℕ, ◌<◌, ◌≤◌}
use native.Mathlib.Omega.{arith}
use mathlib.Core.Path.{◌≡◌, refl, sym, ap, ◌∙◌}
use mathlib.Core.Bool.{not, true, false}
use mathlib.Core.Logic.{◌⊎◌, inl, inr}
use denote.Enum.Bare.{sameb, differs_true, differs_false}
use borrow.Author.Rules.{rules}
use lib.Dec.{eqb}
use Rattle.specification.specs.Bytes.{pick}
use Rattle.sheet.specs.declared.sorts.Sort.{Sort}
use Rattle.sheet.specs.declared.sorts.Sort.TheVariants.{Formula, Term, Upper, Bounds, Procedure, ExLocal, RangeLocal}
use Rattle.sheet.specs.contracts.sorts.Sort.{the_type}
use Rattle.sheet.specs.Sorts.{procedure_sort, range_sort, sort_number}
use Rattle.sheet.specs.Dues.{Due, due_formula, due_term, due_procedure, due_ex, due_range, due_bounds, due_upper}
use Rattle.sheet.specs.Stack.{Entry, sort_of, Means, sorted}

-- ---- the code's sorts

-- the sort with a number
sort_of_number : ℕ → Sort
sort_of_number n =
    pick (eqb n 0) Formula (pick (eqb n 1) Term (pick (eqb n 2) Upper (pick (eqb n 3) Bounds (pick (eqb n 4) Procedure (pick (eqb n 5) ExLocal RangeLocal)))))

of-number : (s : Sort) → sort_of_number (sort_number s) ≡ s
unfolding sort_of_number
of-number Formula = refl
of-number Term = refl
of-number Upper = refl
of-number Bounds = refl
of-number Procedure = refl
of-number ExLocal = refl
of-number RangeLocal = refl

module _ (s k : Sort) where
  pub number-differs : (s ≡ k → ⊥) → sort_number s ≡ sort_number k → ⊥
  number-differs h e = h (sym (of-number s) ∙ ap sort_of_number e ∙ of-number k)

  -- what the comparison `!=` says
  pub sort-differs : not (sameb the_type s k) ≡ true → sort_number s ≡ sort_number k → ⊥
  sort-differs e = number-differs (differs_true the_type s k e)

  pub sort-same : not (sameb the_type s k) ≡ false → sort_number s ≡ sort_number k
  sort-same e = ap sort_number (differs_false the_type (search rules) s k e)

-- a binder's local is due
pub binder : (s : Sort) → (s ≡ ExLocal) ⊎ (s ≡ RangeLocal) → procedure_sort < sort_number s
binder s (inl e) = omega (arith, ap sort_number e)
binder s (inr e) = omega (arith, ap sort_number e)

-- ---- an entry from the stack

number-low : (d : Due) → sort_of d ≤ range_sort
number-low (due_formula k S) = omega arith
number-low (due_term k S) = omega arith
number-low (due_procedure k S) = omega arith
number-low (due_ex k S) = omega arith
number-low (due_range k S p) = omega arith
number-low (due_bounds k S p) = omega arith
number-low (due_upper k S p x) = omega arith

pub sorted-means : (e : Entry) (d : Due) → Means e d → Means (sorted e) d
sorted-means e d m = record { sort = omega (arith, m.sort, number-low d); room = m.room; scope = m.scope }
