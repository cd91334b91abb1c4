-- No more are due at once than the table has room for, each within the limit of nesting. Assumes nothing.
use Prim.Native.Nat.{ℕ, zero, suc, ◌+◌, ◌-◌, ◌*◌, ◌≤◌}
use native.Mathlib.Omega.{arith}
use mathlib.Core.Path.{◌≡◌, refl}
use mathlib.Core.Bool.{Bool, true, false}
use mathlib.Core.List.{List, [], ◌∷◌, ◌++◌, append_assoc}
use lib.ListN.{length, replicate}
use lib.Dec.{ltb, eqb}
use Rattle.specification.specs.Bytes.{pick}
use Rattle.specification.specs.Parser.{Reader}
use Rattle.specification.specs.Lines.{Declared}
use Rattle.specification.specs.Formula.{Locals}
use Rattle.tables.specs.Layout.{max_tokens, max_parameters, max_nesting, max_dues}
use Rattle.sheet.specs.declared.Token.{Token}
use Rattle.tables.specs.Codes.{last_formula, first_term, last_term, constant_code, procedure_code}
use Rattle.sheet.specs.Sorts.{operands_of}
use Rattle.sheet.specs.Dues.{Due, due_formula, due_term, due_procedure, due_ex, due_range, due_bounds, due_upper}
use Rattle.sheet.specs.Turn.{room, suits, due_by, dues, upper, opens, fault_of, token_at, fault_at}
use Rattle.text.proofs.Laws.Ranges.{within}
use Rattle.sheet.proofs.CodeOperands.{operands-all, operands-term, operands-number}

-- ---- what is due, weighed

-- a range's local counts for all that its bounds and its formula become, a procedure's number for its arguments
abbrev weight : Due → ℕ
weight (due_formula k S) = 1
weight (due_term k S) = 1
weight (due_procedure k S) = max_parameters
weight (due_ex k S) = 1
weight (due_range k S p) = 3
weight (due_bounds k S p) = 2
weight (due_upper k S p x) = 1

unfoldable pub weights : List Due → ℕ
weights [] = 0
weights (d ∷ ds) = weight d + weights ds

-- a call's arguments are five more than another word's operands: what can still become a call, or a formula with one in it, leaves room
abbrev slack : Due → ℕ
slack (due_formula k S) = 5
slack (due_term k S) = 0
slack (due_procedure k S) = 0
slack (due_ex k S) = 5
slack (due_range k S p) = 5
slack (due_bounds k S p) = 0
slack (due_upper k S p x) = 0

-- each, with those after it, leaves two for each nesting that may still come
unfoldable pub Fits : List Due → Type 0
Fits [] = Unit {0}
Fits (d ∷ ds) = (weights (d ∷ ds) + 2 * room d + slack d ≤ max_dues) × Fits ds

-- the whole formula
pub fits-start : Fits (due_formula max_nesting [] ∷ [])
unfolding Fits weights
fits-start = (omega arith, tt)

-- ---- a turn

module _ (p k : ℕ) (S : Locals) (ds : List Due) where
  -- arguments
  terms-weigh : (n : ℕ) → weights (replicate n (due_term k S) ++ ds) ≡ n + weights ds
  unfolding weights
  terms-weigh zero = omega arith
  terms-weigh (suc n) = omega (arith, terms-weigh n)

  terms-fit : (n : ℕ) → weights ds + n + 2 * k ≤ max_dues → Fits ds → Fits (replicate n (due_term k S) ++ ds)
  unfolding Fits weights
  terms-fit zero h f = f
  terms-fit (suc n) h f = (omega (arith, terms-weigh n), terms-fit n (omega arith) f)

  -- what a formula's token makes due
  formula_fits : weights ds + 2 * k + 8 ≤ max_dues → Fits ds → (c : ℕ) → c ≤ last_formula → Fits (dues p k S (operands_of c) ++ ds)
  unfolding dues due_by Fits weights
  formula_fits h f c l =
      operands-all (λ o. Fits (dues p k S o ++ ds)) c f (omega arith, f) (omega arith, (omega arith, f)) (omega arith, f)
      (omega arith, (omega arith, f))
      (omega arith, f) (omega arith, f) (λ e. (omega arith, f)) (λ e. absurd (omega arith))

  term_fits : weights ds + 2 * k + 3 ≤ max_dues → Fits ds → (c : ℕ) → first_term ≤ c → c ≤ last_term → Fits (dues p k S (operands_of c) ++ ds)
  unfolding dues due_by Fits weights
  term_fits h f c l m =
      operands-term (λ o. Fits (dues p k S o ++ ds)) c l m f (omega arith, f) (omega arith, (omega arith, f))

-- the upper bound after a token of the lower one
upper-weighs : (k : ℕ) (S : Locals) (q : ℕ) (t : Token) → weight (upper k S q t) ≡ 1
unfolding upper
upper-weighs k S q t = by (eqb t.code constant_code)
  where
    by : (b : Bool) → weight (pick b (due_upper k S q t.operand) (due_term k S)) ≡ 1
    by true = refl
    by false = refl

upper_fits : (k : ℕ) (S : Locals) (q : ℕ) (t : Token) (ds : List Due) → weights ds + 2 * k + 1 ≤ max_dues → Fits ds → Fits (upper k S q t ∷ ds)
unfolding upper Fits weights
upper_fits k S q t ds h f = by (eqb t.code constant_code)
  where
    by : (b : Bool) → Fits (pick b (due_upper k S q t.operand) (due_term k S) ∷ ds)
    by true = (omega arith, f)
    by false = (omega arith, f)

-- the first that is due is replaced by what its token makes due
pub fits-turn : (p : ℕ) (d : Due) (ds : List Due) (t : Token) → suits d t.code ≡ true → 1 ≤ room d → Fits (d ∷ ds) → Fits (opens p d t ++ ds)
unfolding opens dues due_by Fits weights
fits-turn p (due_formula zero S) ds t s n f = absurd (omega arith)
fits-turn p (due_formula (suc k) S) ds t s n f = formula_fits p k S ds (omega arith) f.1 t.code (within _ _ _ s).1
fits-turn p (due_term zero S) ds t s n f = absurd (omega arith)
fits-turn p (due_term (suc k) S) ds t s n f = let b = within _ _ _ s in term_fits p k S ds (omega arith) f.1 t.code b.0 b.1
fits-turn p (due_procedure k S) ds t s n f =
    let b = within _ _ _ s in
    rw (operands-number t.code b.0) (terms-fit p k S ds (t.code - procedure_code) (omega (arith, b.1)) f.1)
fits-turn p (due_ex k S) ds t s n f = (omega arith, f.1)
fits-turn p (due_range k S q) ds t s n f = (omega arith, (omega arith, f.1))
fits-turn p (due_bounds zero S q) ds t s n f = absurd (omega arith)
fits-turn p (due_bounds (suc k) S q) ds t s n f =
    let b = within _ _ _ s in
    rw append_assoc (term_fits p k S (upper (suc k) S q t ∷ ds) (omega (arith, upper-weighs (suc k) S q t))
    (upper_fits (suc k) S q t ds (omega arith) f.1) t.code b.0 b.1)
fits-turn p (due_upper zero S q x) ds t s n f = absurd (omega arith)
fits-turn p (due_upper (suc k) S q x) ds t s n f = let b = within _ _ _ s in term_fits p k S ds (omega arith) f.1 t.code b.0 b.1

-- a token stands only where nesting may go deeper
pub room-left : (D : Declared) (d : Due) (r : Reader) → fault_at D d r ≡ 0 → 1 ≤ room d
unfolding fault_at
room-left D d r e = go (room d) (pick (ltb r.tokens max_tokens) (fault_of D d r.bound (token_at D d r)) 9) e
  where
    go : (k n : ℕ) → pick (eqb k 0) 9 n ≡ 0 → 1 ≤ k
    go zero n e = absurd (omega arith)
    go (suc k) n e = omega arith

-- ---- bounds

some-weight : (d : Due) → 1 ≤ weight d
some-weight (due_formula k S) = omega arith
some-weight (due_term k S) = omega arith
some-weight (due_procedure k S) = omega arith
some-weight (due_ex k S) = omega arith
some-weight (due_range k S p) = omega arith
some-weight (due_bounds k S p) = omega arith
some-weight (due_upper k S p x) = omega arith

length-weights : (ds : List Due) → length ds ≤ weights ds
unfolding weights
length-weights [] = omega arith
length-weights (d ∷ ds) = omega (arith, some-weight d, length-weights ds)

pub fits-length : (ds : List Due) → Fits ds → length ds ≤ max_dues
unfolding Fits
fits-length [] f = omega arith
fits-length (d ∷ ds) f = omega (arith, length-weights (d ∷ ds))
