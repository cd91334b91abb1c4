-- A visit by the code of what is due: what each function asks, and what it makes of the loop. Assumes nothing.
use Prim.Native.Nat.{ℕ, ◌+◌, ◌<◌}
use native.Mathlib.Omega.{arith}
use mathlib.Core.Path.{◌≡◌, sym, ◌∙◌}
use lib.ListN.{length, get_or}
use Rattle.tables.specs.Codes.{true_code, and_code, or_code, imp_code, not_code, ex_code, call_code, local_code}
use Rattle.tables.specs.Leaves.{empty_code, success_code, failure_code, error_code, return_code, rise_code}
use Rattle.sheet.specs.Tables.{Words}
use Rattle.search.specs.declared.Go.{Go}
use Rattle.search.specs.Steps.{Entered, Stepped, HasTerms}
use Rattle.search.proofs.Simple.{due-near}
use Rattle.search.proofs.Heads.{at_return}
use Rattle.walker.specs.Steps.{Arrived, SteppedWithin}
use Rattle.walker.specs.Loop.{Due, visit, rising, Dues, Came}
use Rattle.walker.proofs.Laws.Due.{due_in, terms-code, stepped-came}
use Rattle.specification.specs.declared.Setting.{Setting}
use Rattle.walker.proofs.Laws.Loops.{within-came}

-- its code is a word
pub due-word : {w : Words} {g : Go} {setting : Setting} → Dues w g setting → g.due < length w
due-word {w} {g} d = go d.due
  where
    go : Due d.c d.b w g → g.due < length w
    go (visit i) = omega (arith, due-near i)
    go (rising e u) = omega (arith, e, u.path.tables.size)

above-not : (n : ℕ) → ¬ (n ≡ empty_code) → ¬ (n ≡ true_code) → ¬ (n ≡ and_code) → ¬ (n ≡ or_code) → ¬ (n ≡ imp_code) → ¬ (n ≡ not_code) → not_code < n
above-not n a b c d e f = omega arith

-- the code that was read is n
module _ {w : Words} {g : Go} {setting : Setting} (d : Dues w g setting) {code : ℕ} (read : code ≡ get_or w g.due 0) where
  not-up : (n : ℕ) → code ≡ n → ¬ (n ≡ rise_code) → ¬ (get_or w g.due 0 ≡ rise_code)
  not-up n e r z = r (sym e ∙ read ∙ z)

  pub due-entered : (n : ℕ) → code ≡ n → ¬ (n ≡ rise_code) → Entered w g n
  due-entered n e r = record { at = record { c = d.c; b = d.b; ins = due_in d.due (not-up n e r) }; code = sym read ∙ e }

  pub due-arrived : (n : ℕ) → code ≡ n → ¬ (n ≡ rise_code) → Arrived w g n setting
  due-arrived n e r = record { c = d.c; b = d.b; set = d.set; ins = due_in d.due (not-up n e r); code = sym read ∙ e }

  pub due-came : (n : ℕ) → code ≡ n → ¬ (n ≡ rise_code) → {w' : Words} {q : Go} → Stepped w w' g q → Came w w' g q setting
  due-came n e r s = stepped-came d (not-up n e r) s

  pub due-within : (n : ℕ) → code ≡ n → ¬ (n ≡ rise_code) → {w' : Words} {q : Go} → SteppedWithin w w' g q setting → Came w w' g q setting
  due-within n e r s = within-came d (not-up n e r) s

  -- the place that a procedure's end leads to is a word
  pub due-return : code ≡ return_code → (g.due + 1 < 4294967296) × (g.due + 1 < length w)
  due-return e =
      let i = due_in d.due (not-up return_code e (λ z. omega arith)) in
      let r = at_return i (sym read ∙ e) in
      (omega (arith, r.place, r.small), omega (arith, due-near i))

  -- by elimination
  pub due-terms : ¬ (code ≡ empty_code) → ¬ (code ≡ true_code) → ¬ (code ≡ and_code) → ¬ (code ≡ or_code) → ¬ (code ≡ imp_code) → ¬ (code ≡ not_code) →
      ¬ (code ≡ ex_code) → ¬ (code ≡ call_code) → ¬ (code ≡ success_code) → ¬ (code ≡ failure_code) → ¬ (code ≡ error_code) → ¬ (code ≡ rise_code) →
      ¬ (code ≡ return_code) → ¬ (code ≡ local_code) → HasTerms code
  due-terms a b c e f h x y s j k r t l =
      let i = due_in d.due (λ z. r (read ∙ z)) in
      terms-code i code (sym read) (above-not code a b c e f h) x y s j k t l
