-- What a token makes due, put on the stack: the operands of a code, which are of one sort, or the other operands of a binder.
-- Assumes nothing.
use Prim.Native.Nat.{ℕ, zero, suc, pred, ◌+◌, ◌-◌, ◌^◌, ◌<◌, ◌≤◌}
use native.Mathlib.Omega.{arith}
use mathlib.Core.Path.{◌≡◌, refl, sym, ap, subst, ◌∙◌}
use mathlib.Core.Bool.{not}
use mathlib.Core.List.{List, [], ◌∷◌, ◌++◌, append_assoc}
use lib.ListN.{length, length-append, length-replicate}
use lib.Bits.{bit_or}
use lib.Dec.{T}
use borrow.Author.Tests.{ne_eqb}
use Rattle.specification.specs.Bytes.{between}
use Rattle.specification.specs.Formula.{Locals}
use Rattle.tables.specs.Layout.{max_dues, path_at}
use Rattle.tables.specs.Codes.{constant_code}
use Rattle.sheet.specs.declared.Token.{Token}
use Rattle.sheet.specs.Stack.{Entry}
use Rattle.sheet.specs.Sorts.{Operands}
use Rattle.sheet.specs.Sorts.{formula_sort, term_sort, upper_sort, bounds_sort, procedure_sort, ex_sort, range_sort, word_operands, operands_of}
use Rattle.sheet.specs.Dues.{Due, due_formula, due_term, due_procedure, due_ex, due_range, due_bounds, due_upper}
use Rattle.sheet.specs.Turn.{room, due_by, dues, upper, opens}
use Rattle.sheet.specs.Tables.{Words}
use Rattle.sheet.specs.Stack.{Bits, sort_of, scope_of, Means, entry, entered, Stacked, Beside, Repeated, Opened}
use Rattle.sheet.proofs.CodeOperands.{operands-all}
use Rattle.sheet.proofs.Bits.{bits-more}
use Rattle.sheet.proofs.Entries.{stacked-put, beside-then, beside-put}

-- ---- as what is due

-- of a sort that operands have
abbrev Usual : ℕ → Type 0
Usual s = (s ≤ range_sort) × T (not (between upper_sort bounds_sort s))

abbrev Plain : Operands → Type 0
Plain o = Usual o.sort

plain : (c : ℕ) → Plain (operands_of c)
plain c =
    operands-all Plain c (omega arith, tt) (omega arith, tt) (omega arith, tt) (omega arith, tt) (omega arith, tt) (omega arith, tt) (omega arith, tt)
    (λ e. (omega arith, tt)) (λ e. (omega arith, tt))

means-by : (p s k m : ℕ) (S : Locals) → Usual s → Bits m S → Means (entry s k m) (due_by p s k S)
unfolding due_by
means-by p zero k m S h b = record { sort = refl; room = refl; scope = b }
means-by p (suc zero) k m S h b = record { sort = refl; room = refl; scope = b }
means-by p (suc (suc zero)) k m S h b = absurd h.1
means-by p (suc (suc (suc zero))) k m S h b = absurd h.1
means-by p (suc (suc (suc (suc zero)))) k m S h b = record { sort = refl; room = refl; scope = b }
means-by p (suc (suc (suc (suc (suc zero))))) k m S h b = record { sort = refl; room = refl; scope = b }
means-by p (suc (suc (suc (suc (suc (suc zero)))))) k m S h b = record { sort = refl; room = refl; scope = b }
means-by p (suc (suc (suc (suc (suc (suc (suc s))))))) k m S h b = absurd (omega arith)

-- how much deeper nesting may go at a token's operands: the arguments of a call stand beside its procedure's number
abbrev below : Due → ℕ
below (due_formula k S) = pred k
below (due_term k S) = pred k
below (due_procedure k S) = k
below (due_ex k S) = k
below (due_range k S p) = k
below (due_bounds k S p) = pred k
below (due_upper k S p x) = pred k

-- sorts whose tokens make due their operands and nothing else
abbrev Direct : ℕ → Type 0
Direct s = (s ≤ procedure_sort) × (s ≡ bounds_sort → ⊥)

opens-operands : (p : ℕ) (d : Due) (t : Token) → Direct (sort_of d) → opens p d t ≡ dues p (below d) (scope_of d) (operands_of t.code)
unfolding opens
opens-operands p (due_formula k S) t h = refl
opens-operands p (due_term k S) t h = refl
opens-operands p (due_procedure k S) t h = refl
opens-operands p (due_ex k S) t h = absurd (omega arith)
opens-operands p (due_range k S q) t h = absurd (omega arith)
opens-operands p (due_bounds k S q) t h = absurd (h.1 refl)
opens-operands p (due_upper k S q x) t h = refl

-- how much deeper nesting may go at the operands, by the entry
module _ (e : Entry) (d : Due) (m : Means e d) where
  pub below-number : e.sort ≡ procedure_sort → e.room ≡ below d
  below-number h = m.room ∙ by d (sym m.sort ∙ h)
    where
      by : (d : Due) → sort_of d ≡ procedure_sort → room d ≡ below d
      by (due_formula k S) q = absurd (omega arith)
      by (due_term k S) q = absurd (omega arith)
      by (due_procedure k S) q = refl
      by (due_ex k S) q = absurd (omega arith)
      by (due_range k S p) q = absurd (omega arith)
      by (due_bounds k S p) q = absurd (omega arith)
      by (due_upper k S p x) q = absurd (omega arith)

  pub below_other : (e.sort ≡ procedure_sort → ⊥) → sort_of d ≤ procedure_sort → e.room - 1 ≡ below d
  below_other n h = ap (λ (k : ℕ). k - 1) m.room ∙ by d (λ q. n (m.sort ∙ q)) h
    where
      less : (k : ℕ) → k - 1 ≡ pred k
      less zero = refl
      less (suc k) = omega arith

      by : (d : Due) → (sort_of d ≡ procedure_sort → ⊥) → sort_of d ≤ procedure_sort → room d - 1 ≡ below d
      by (due_formula k S) q l = less k
      by (due_term k S) q l = less k
      by (due_procedure k S) q l = absurd (q refl)
      by (due_ex k S) q l = absurd (omega arith)
      by (due_range k S p) q l = absurd (omega arith)
      by (due_bounds k S p) q l = less k
      by (due_upper k S p x) q l = less k

pub opens-length : (p : ℕ) (d : Due) (t : Token) (ds : List Due) → sort_of d ≤ procedure_sort →
    (operands_of t.code).count + length ds ≤ length (opens p d t ++ ds)
unfolding opens dues
opens-length p (due_formula k S) t ds h = rw (length-append, length-replicate) (omega arith)
opens-length p (due_term k S) t ds h = rw (length-append, length-replicate) (omega arith)
opens-length p (due_procedure k S) t ds h = rw (length-append, length-replicate) (omega arith)
opens-length p (due_ex k S) t ds h = absurd (omega arith)
opens-length p (due_range k S q) t ds h = absurd (omega arith)
opens-length p (due_bounds k S q) t ds h = rw (length-append, length-append, length-replicate) (omega arith)
opens-length p (due_upper k S q x) t ds h = rw (length-append, length-replicate) (omega arith)

-- what is due where the entry is of a sort that one due alone has
module _ (P : Due → Type 0) (e : Entry) where
  only-ex : e.sort ≡ ex_sort → ((k : ℕ) (S : Locals) → Means e (due_ex k S) → P (due_ex k S)) → (d : Due) → Means e d → P d
  only-ex z h (due_formula k S) m = absurd (omega (arith, m.sort))
  only-ex z h (due_term k S) m = absurd (omega (arith, m.sort))
  only-ex z h (due_procedure k S) m = absurd (omega (arith, m.sort))
  only-ex z h (due_ex k S) m = h k S m
  only-ex z h (due_range k S p) m = absurd (omega (arith, m.sort))
  only-ex z h (due_bounds k S p) m = absurd (omega (arith, m.sort))
  only-ex z h (due_upper k S p x) m = absurd (omega (arith, m.sort))

  only-range : procedure_sort < e.sort → (e.sort ≡ ex_sort → ⊥) → ((k : ℕ) (S : Locals) (p : ℕ) → Means e (due_range k S p) → P (due_range k S p)) →
      (d : Due) → Means e d → P d
  only-range y z h (due_formula k S) m = absurd (omega (arith, m.sort))
  only-range y z h (due_term k S) m = absurd (omega (arith, m.sort))
  only-range y z h (due_procedure k S) m = absurd (omega (arith, m.sort))
  only-range y z h (due_ex k S) m = absurd (z m.sort)
  only-range y z h (due_range k S p) m = h k S p m
  only-range y z h (due_bounds k S p) m = absurd (omega (arith, m.sort))
  only-range y z h (due_upper k S p x) m = absurd (omega (arith, m.sort))

  only-bounds : e.sort ≡ bounds_sort → ((k : ℕ) (S : Locals) (p : ℕ) → Means e (due_bounds k S p) → P (due_bounds k S p)) → (d : Due) → Means e d → P d
  only-bounds z h (due_formula k S) m = absurd (omega (arith, m.sort))
  only-bounds z h (due_term k S) m = absurd (omega (arith, m.sort))
  only-bounds z h (due_procedure k S) m = absurd (omega (arith, m.sort))
  only-bounds z h (due_ex k S) m = absurd (omega (arith, m.sort))
  only-bounds z h (due_range k S p) m = absurd (omega (arith, m.sort))
  only-bounds z h (due_bounds k S p) m = h k S p m
  only-bounds z h (due_upper k S p x) m = absurd (omega (arith, m.sort))

-- what a token of the lower bound makes due
pub constant-opens : (i k : ℕ) (S : Locals) (q : ℕ) (t : Token) → t.code ≡ constant_code →
    opens i (due_bounds k S q) t ≡ due_upper k S q t.operand ∷ []
unfolding opens upper dues operands_of word_operands
constant-opens i k S q t c = rw c

pub lower-opens : (i k : ℕ) (S : Locals) (q : ℕ) (t : Token) (ds : List Due) → (t.code ≡ constant_code → ⊥) →
    opens i (due_bounds k S q) t ++ ds ≡ opens i (due_term k S) t ++ (due_term k S ∷ ds)
unfolding opens upper
lower-opens i k S q t ds c = rw (ne_eqb t.code constant_code c, append_assoc)

-- ---- put on the stack

-- operands: k is how much deeper nesting may go at them
module _ (w w' : Words) (n : ℕ) (e : Entry) (t : Token) (f : Direct e.sort) (o : Operands) (q : o ≡ operands_of t.code) (k : ℕ)
    (deep : (d : Due) → Means e d → sort_of d ≤ procedure_sort → k ≡ below d) (p : Repeated w w' n (entry o.sort k e.scope) o.count) where
  direct : (d : Due) → Means e d → Direct (sort_of d)
  direct d m = (omega (arith, m.sort), λ z. f.1 (m.sort ∙ z))

  first : (i : ℕ) (d : Due) → Means e d → opens i d t ≡ dues i (below d) (scope_of d) o
  first i d m = opens-operands i d t (direct d m) ∙ rw q

  means-operand : (i : ℕ) (d : Due) → Means e d → Means (entry o.sort k e.scope) (due_by i o.sort (below d) (scope_of d))
  means-operand i d m =
      let s : Plain o = subst Plain (sym q) (plain t.code) in
      rw (deep d m (direct d m).0) (means-by i o.sort (below d) e.scope (scope_of d) s m.scope)

  pub opened-operands : Opened w w' n e t (n + o.count)
  unfolding dues
  opened-operands = record {
    beside = p.beside;
    count = λ i d ds m r. rw (first i d m, length-append, length-replicate) (omega arith);
    stack = λ i d ds m r s. rw (first i d m) (p.stack (due_by i o.sort (below d) (scope_of d)) ds (means-operand i d m) r s);
  }

module _ (w : Words) (n : ℕ) (e : Entry) (t : Token) (h : n + 3 ≤ max_dues) (l : path_at ≤ length w) where
  -- where a binder's local is due, with m the locals in scope after it
  module _ (m : ℕ) (q : m ≡ bit_or e.scope (2 ^ t.operand)) where
    abbrev body : Entry
    body = entry formula_sort e.room m

    means-body : (d : Due) → Means e d → Means body (due_formula (room d) (t.operand ∷ scope_of d))
    means-body d p = record { sort = refl; room = p.room; scope = rw q (bits-more t.operand p.scope) }

    pub opened-ex : e.sort ≡ ex_sort → Opened w (entered w n body) n e t (n + 1)
    unfolding opens
    opened-ex z = record {
      beside = beside-put w n body (omega arith);
      count = λ i d ds p r. only-ex (λ d. n + 1 ≡ length (opens i d t ++ ds)) e z (λ k S p. omega arith) d p;
      stack = λ i d ds p r s.
          only-ex (λ d. Stacked (entered w n body) (opens i d t ++ ds)) e z
          (λ k S p. stacked-put w _ ds n body r (omega arith) (means-body (due_ex k S) p) s) d p;
    }

    abbrev limits : Entry
    limits = entry bounds_sort e.room e.scope

    pub opened-range : procedure_sort < e.sort → (e.sort ≡ ex_sort → ⊥) → Opened w (entered (entered w n body) (n + 1) limits) n e t (n + 2)
    unfolding opens
    opened-range y z =
        let w₁ = entered w n body in
        let b₁ : Beside w w₁ = beside-put w n body (omega arith) in
        record {
          beside = beside-then b₁ (beside-put w₁ (n + 1) limits (omega arith));
          count = λ i d ds p r. only-range (λ d. n + 2 ≡ length (opens i d t ++ ds)) e y z (λ k S q p. omega arith) d p;
          stack = λ i d ds p r s.
              only-range (λ d. Stacked (entered w₁ (n + 1) limits) (opens i d t ++ ds)) e y z
              (λ k S q p.
              stacked-put w₁ _ (_ ∷ ds) (n + 1) limits (omega arith) (omega (arith, b₁.long))
              (record { sort = refl; room = p.room; scope = p.scope })
              (stacked-put w _ ds n body r (omega arith) (means-body (due_range k S q) p) s)) d p;
        }

  -- where both bounds are due
  module _ (z : e.sort ≡ bounds_sort) where
    abbrev highest : Entry
    highest = entry upper_sort e.room e.scope

    pub opened-constant : t.code ≡ constant_code → Opened w (entered w n highest) n e t (n + 1)
    opened-constant c = record {
      beside = beside-put w n highest (omega arith);
      count = λ i d ds p r. only-bounds (λ d. n + 1 ≡ length (opens i d t ++ ds)) e z (λ k S q p. rw (constant-opens i k S q t c) (omega arith)) d p;
      stack = λ i d ds p r s.
          only-bounds (λ d. Stacked (entered w n highest) (opens i d t ++ ds)) e z
          (λ k S q p. rw (constant-opens i k S q t c)
          (stacked-put w _ ds n highest r (omega arith) (record { sort = refl; room = p.room; scope = p.scope }) s)) d p;
    }

    abbrev other : Entry
    other = entry term_sort e.room e.scope

    pub opened-lower : (t.code ≡ constant_code → ⊥) → (w' : Words) (r : ℕ) → Opened (entered w n other) w' (n + 1) other t r → Opened w w' n e t r
    opened-lower c w' r o = record {
      beside = beside-then (beside-put w n other (omega arith)) o.beside;
      count = λ i d ds p g.
          only-bounds (λ d. r ≡ length (opens i d t ++ ds)) e z
          (λ k S q p. rw (lower-opens i k S q t ds c) (o.count i (due_term k S) (due_term k S ∷ ds) (means p) (omega arith))) d p;
      stack = λ i d ds p g s.
          only-bounds (λ d. Stacked w' (opens i d t ++ ds)) e z
          (λ k S q p.
          rw (lower-opens i k S q t ds c)
          (o.stack i (due_term k S) (due_term k S ∷ ds) (means p) (omega arith) (stacked-put w _ ds n other g (omega arith) (means p) s))) d p;
    }
      where
        means : {k : ℕ} {S : Locals} {q : ℕ} → Means e (due_bounds k S q) → Means other (due_term k S)
        means p = record { sort = refl; room = p.room; scope = p.scope }
