-- Laws of the stack: an entry put on top, and what is beside the stack. Assumes nothing.
use Prim.Native.Nat.{ℕ, suc, ◌+◌, ◌-◌, ◌<◌, ◌≤◌}
use native.Mathlib.Omega.{arith}
use mathlib.Core.Path.{◌≡◌, refl, subst, ◌∙◌}
use mathlib.Core.List.{List, [], ◌∷◌, ◌++◌}
use lib.ListN.{length, get_or, set, replicate, length-set, length-append, length-replicate}
use lib.Seq.{get_or-set_same, get_or-set_other}
use Rattle.tables.specs.Layout.{max_dues, due_slot, dues_at, path_at}
use Rattle.sheet.specs.Stack.{Entry}
use Rattle.sheet.specs.Dues.{Due}
use Rattle.sheet.specs.Tables.{Words}
use Rattle.sheet.specs.Stack.{Means, entry, entry_at, entered, Stacked, Beside, Repeated}

-- ---- one entry

entry_of : (e : Entry) (a b c : ℕ) → a ≡ e.sort → b ≡ e.room → c ≡ e.scope → entry a b c ≡ e
entry_of e a b c p q r = rw (p, q, r)

module _ (w : Words) (i : ℕ) (e : Entry) where
  entered-length : length (entered w i e) ≡ length w
  entered-length = simp length-set

  entered-other : (j : ℕ) → (j ≡ due_slot i → ⊥) → (j ≡ due_slot i + 1 → ⊥) → (j ≡ due_slot i + 2 → ⊥) → get_or (entered w i e) j 0 ≡ get_or w j 0
  entered-other j a b c =
      get_or-set_other (set (set w (due_slot i) e.sort) (due_slot i + 1) e.room) (due_slot i + 2) j e.scope 0 c ∙
      get_or-set_other (set w (due_slot i) e.sort) (due_slot i + 1) j e.room 0 b ∙
      get_or-set_other w (due_slot i) j e.sort 0 a

  module _ (h : due_slot i + 2 < length w) where
    entered_at : entry_at (entered w i e) i ≡ e
    entered_at = entry_of e _ _ _ at-sort at_room at-scope
      where
        at-scope : get_or (entered w i e) (due_slot i + 2) 0 ≡ e.scope
        at-scope = get_or-set_same (set (set w (due_slot i) e.sort) (due_slot i + 1) e.room) (due_slot i + 2) e.scope 0 (simp length-set h)

        at_room : get_or (entered w i e) (due_slot i + 1) 0 ≡ e.room
        at_room =
            get_or-set_other (set (set w (due_slot i) e.sort) (due_slot i + 1) e.room) (due_slot i + 2) (due_slot i + 1) e.scope 0 (λ q. omega arith) ∙
            get_or-set_same (set w (due_slot i) e.sort) (due_slot i + 1) e.room 0 (simp length-set (omega arith))

        at-sort : get_or (entered w i e) (due_slot i) 0 ≡ e.sort
        at-sort =
            get_or-set_other (set (set w (due_slot i) e.sort) (due_slot i + 1) e.room) (due_slot i + 2) (due_slot i) e.scope 0 (λ q. omega arith) ∙
            get_or-set_other (set w (due_slot i) e.sort) (due_slot i + 1) (due_slot i) e.room 0 (λ q. omega arith) ∙
            get_or-set_same w (due_slot i) e.sort 0 (omega arith)

-- ---- the stack

-- the stack is what stands in its words
pub stacked-same : (w w' : Words) (ds : List Due) → ((j : ℕ) → dues_at ≤ j → j < due_slot (length ds) → get_or w' j 0 ≡ get_or w j 0) → Stacked w ds → Stacked w' ds
unfolding Stacked
stacked-same w w' [] h s = tt
stacked-same w w' (d ∷ ds) h s = (
  rw (
    h (due_slot (length ds)) (omega arith) (omega arith),
    h (due_slot (length ds) + 1) (omega arith) (omega arith),
    h (due_slot (length ds) + 2) (omega arith) (omega arith),
  ) s.0,
  stacked-same w w' ds (λ j a b. h j a (omega arith)) s.1,
)

pub stacked-put : (w : Words) (d : Due) (ds : List Due) (n : ℕ) (e : Entry) → length ds ≡ n → due_slot n + 2 < length w → Means e d → Stacked w ds → Stacked (entered w n e) (d ∷ ds)
unfolding Stacked
stacked-put w d ds n e q h m s = (
  rw (q, entered_at w n e h) m,
  stacked-same w (entered w n e) ds (λ j a b. entered-other w n e j (λ r. omega arith) (λ r. omega arith) (λ r. omega arith)) s,
)

-- ---- beside the stack

pub beside-self : (w : Words) → Beside w w
beside-self w = record { long = refl; below = λ j h. refl; above = λ j h. refl }

pub beside-then : {u v w : Words} → Beside u v → Beside v w → Beside u w
beside-then p q = record {
  long = q.long ∙ p.long;
  below = λ j h. q.below j h ∙ p.below j h;
  above = λ j h. q.above j h ∙ p.above j h;
}

pub beside-put : (w : Words) (n : ℕ) (e : Entry) → n < max_dues → Beside w (entered w n e)
beside-put w n e h = record {
  long = entered-length w n e;
  below = λ j l. entered-other w n e j (λ r. omega arith) (λ r. omega arith) (λ r. omega arith);
  above = λ j l. entered-other w n e j (λ r. omega arith) (λ r. omega arith) (λ r. omega arith);
}

-- ---- the same entry more than once

module _ (w : Words) (n : ℕ) (e : Entry) where
  pub repeated-none : Repeated w w n e 0
  repeated-none = record { beside = beside-self w; stack = λ d ds m q s. s }

  pub repeated-more : (w' : Words) (i : ℕ) → n + i < max_dues → path_at ≤ length w → Repeated w w' n e i → Repeated w (entered w' (n + i) e) n e (suc i)
  repeated-more w' i h l p = record {
    beside = beside-then p.beside (beside-put w' (n + i) e h);
    stack = λ d ds m q s.
        let k : length (replicate i d ++ ds) ≡ n + i = rw (length-append, length-replicate) (omega arith) in
        stacked-put w' d (replicate i d ++ ds) (n + i) e k (omega (arith, p.beside.long)) m (p.stack d ds m q s);
  }

  -- by the place of the next: i - n were put
  pub repeated-start : Repeated w w n e (n - n)
  repeated-start = let z : n - n ≡ 0 = omega arith in rw z repeated-none

  pub repeated-next : (w' : Words) (i : ℕ) → n ≤ i → i < max_dues → path_at ≤ length w → Repeated w w' n e (i - n) → Repeated w (entered w' i e) n e (i + 1 - n)
  repeated-next w' i l h k p =
      let at : n + (i - n) ≡ i = omega arith in
      let more : i + 1 - n ≡ suc (i - n) = omega arith in
      rw more (subst (λ j. Repeated w (entered w' j e) n e (suc (i - n))) at (repeated-more w' (i - n) (omega arith) k p))

  pub repeated-end : (w' : Words) (count i : ℕ) → i ≡ n + count → Repeated w w' n e (i - n) → Repeated w w' n e count
  repeated-end w' count i q p = let z : i - n ≡ count = omega arith in rw z at p
