-- Sets of locals as words stand for lists of locals: the empty set, a set that has one local more, and any set. Assumes nothing.
use Prim.Native.Nat.{ℕ, zero, suc, ◌^◌, ◌<◌, ◌≤◌}
use native.Mathlib.Omega.{arith}
use mathlib.Core.Path.{◌≡◌, refl, sym, ◌∙◌}
use mathlib.Core.Bool.{Bool, true, false}
use mathlib.Core.List.{[], ◌∷◌}
use lib.Bits.{bit_or}
use lib.Dec.{eqb}
use borrow.Author.Tests.{ne_eqb, eqb-true, eqb-false}
use Rattle.specification.specs.Bytes.{pick}
use Rattle.specification.specs.Formula.{Locals, has}
use Rattle.tables.specs.Layout.{max_locals}
use Rattle.tables.specs.Locals.{in_set}
use Rattle.tables.proofs.Laws.Locals.{in_set-none, in_set-with}
use Rattle.sheet.specs.Stack.{Bits}

pub bits_none : Bits 0 []
unfolding has
bits_none = record { at = λ l h. in_set-none l }

pub bits-more : {m : ℕ} {S : Locals} (k : ℕ) → Bits m S → Bits (bit_or m (2 ^ k)) (k ∷ S)
unfolding has
bits-more {m} k b = record { at = λ l h. in_set-with m k l ∙ rw (b.at l h) }

-- ---- each set stands for a list

-- the locals of a set below n
pub locals_in : ℕ → ℕ → Locals
locals_in m zero = []
locals_in m (suc n) = pick (in_set m n) (n ∷ locals_in m n) (locals_in m n)

has_above : (m n l : ℕ) → n ≤ l → has l (locals_in m n) ≡ false
unfolding has locals_in
has_above m zero l h = refl
has_above m (suc n) l h = by (in_set m n) (has_above m n l (omega arith))
  where
    by : (u : Bool) → has l (locals_in m n) ≡ false → has l (pick u (n ∷ locals_in m n) (locals_in m n)) ≡ false
    by true e = rw (ne_eqb l n (λ q. omega arith)) e
    by false e = e

has-below : (m n l : ℕ) → l < n → has l (locals_in m n) ≡ in_set m l
unfolding has locals_in
has-below m zero l h = absurd (omega arith)
has-below m (suc n) l h = by (in_set m n) refl (eqb l n) refl (λ q. has-below m n l q)
  where
    by : (u : Bool) → in_set m n ≡ u → (v : Bool) → eqb l n ≡ v → (l < n → has l (locals_in m n) ≡ in_set m l) →
        has l (pick u (n ∷ locals_in m n) (locals_in m n)) ≡ in_set m l
    by true p true q r = rw (q, eqb-true l n q) (sym p)
    by true p false q r = rw q (r (omega (arith, eqb-false l n q)))
    by false p true q r = rw (eqb-true l n q) (has_above m n n (omega arith) ∙ sym p)
    by false p false q r = r (omega (arith, eqb-false l n q))

pub bits_in : (m : ℕ) → Bits m (locals_in m max_locals)
bits_in m = record { at = λ l h. sym (has-below m max_locals l h) }
