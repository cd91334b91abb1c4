-- The slots of cells and locals: a slot with other contents, and what the words then hold. Assumes nothing.
use Prim.Native.Nat.{ℕ, suc, ◌+◌, ◌≤◌, ◌<◌}
use native.Mathlib.Omega.{arith}
use native.Mathlib.Numerals.{add-one}
use mathlib.Core.Path.{◌≡◌, refl, sym, ◌∙◌, ap}
use lib.ListN.{length, get_or, set, length-set}
use lib.Seq.{get_or-set_same, get_or-set_other}
use Rattle.specification.specs.Lines.{Declared}
use Rattle.specification.specs.Place.{Place, cell, local, put}
use Rattle.specification.specs.Value.{Slot, empty, full, Valuation}
use Rattle.specification.proofs.Laws.Place.{place-dec, put_same, put_other}
use Rattle.tables.specs.Layout.{cells_at, firsts_at, path_at}
use Rattle.tables.specs.Kept.{SameSlots}
use Rattle.sheet.specs.Tables.{Words}
use Rattle.sheet.specs.Held.{SlotAt, slot_of, Holds}
use Rattle.search.specs.Marks.{InTable, marks_in, Marks}
use Rattle.search.specs.Records.{Saved}

-- ---- a slot for each place

-- different places have different words
pub slots_apart : (q p : Place) → ¬ (q ≡ p) → InTable q → InTable p → (k j : ℕ) → k < 2 → j < 2 → slot_of q + k ≡ slot_of p + j → ⊥
slots_apart (cell a) (cell b) n x y k j hk hj e = n (ap cell (omega arith))
slots_apart (cell a) (local b) n x y k j hk hj e = omega arith
slots_apart (local a) (cell b) n x y k j hk hj e = omega arith
slots_apart (local a) (local b) n x y k j hk hj e = n (ap local (omega arith))

-- a place's two words lie between the tokens and the arrays' first cells
pub record Within (p : Place) : Type 0 where
  pub low : cells_at ≤ slot_of p
  pub high : slot_of p + 1 < firsts_at

pub in_table : (p : Place) → InTable p → Within p
in_table (cell a) h = record { low = omega arith; high = omega arith }
in_table (local a) h = record { low = omega arith; high = omega arith }

module _ (w : Words) (α : Valuation) where
  pub slot_held : Holds w α → (p : Place) → InTable p → SlotAt w (slot_of p) (α p)
  slot_held h (cell c) q = h.cells c q
  slot_held h (local l) q = h.locals l q

  pub holds-all : ((p : Place) → InTable p → SlotAt w (slot_of p) (α p)) → Holds w α
  holds-all h = record { cells = λ c q. h (cell c) q; locals = λ l q. h (local l) q }

  -- the two words of a slot, as a node saves them
  pub saved-here : Holds w α → (p : Place) → InTable p → Saved (get_or w (slot_of p) 0) (get_or w (slot_of p + 1) 0) (α p)
  saved-here h p q = go (α p) (slot_held h p q)
    where
      go : (s : Slot) → SlotAt w (slot_of p) s → Saved (get_or w (slot_of p) 0) (get_or w (slot_of p + 1) 0) s
      go empty x = x
      go (full z) x = (x.0, rw add-one x.1)

slot-keep : (w w' : Words) (i : ℕ) (s : Slot) → get_or w' i 0 ≡ get_or w i 0 → get_or w' (suc i) 0 ≡ get_or w (suc i) 0 → SlotAt w i s → SlotAt w' i s
slot-keep w w' i empty e f q = e ∙ q
slot-keep w w' i (full z) e f q = (e ∙ q.0, f ∙ q.1)

-- ---- words with all slots as they were

pub holds-keep : {w w' : Words} {α : Valuation} → SameSlots w w' → Holds w α → Holds w' α
holds-keep {w} {w'} {α} u h = holds-all w' α (λ p q.
    let z = in_table p q in
    slot-keep w w' (slot_of p) (α p) (u.same (slot_of p) z.low (omega (arith, z.high))) (u.same (suc (slot_of p)) (omega (arith, z.low)) (omega (arith, z.high)))
    (slot_held w α h p q))

pub marks-keep : {w w' : Words} {α : Valuation} {m : Place → ℕ} → SameSlots w w' → Marks w α m → Marks w' α m
marks-keep u h p q e =
    let z = in_table p q in
    u.same (slot_of p + 1) (omega (arith, z.low)) (omega (arith, z.high)) ∙ h p q e

-- marks of sites that are the same elsewhere are the same in the words
pub marks-off : (D : Declared) (p : Place) {m n : Place → ℕ} → ((q : Place) → ¬ (q ≡ p) → n q ≡ m q) →
    (q : Place) → ¬ (q ≡ p) → marks_in D n q ≡ marks_in D m q
marks-off D p off (cell c) x = refl
marks-off D p off (local l) x = off (local l) x

-- ---- words with the slot s at p, and every other word as it was

pub record Altered (w w' : Words) (p : Place) (s : Slot) : Type 0 where
  pub others : (j : ℕ) → ¬ (j ≡ slot_of p) → ¬ (j ≡ slot_of p + 1) → get_or w' j 0 ≡ get_or w j 0
  pub now : SlotAt w' (slot_of p) s
  pub size : length w' ≡ length w

module _ {w w' : Words} {p : Place} {s : Slot} (a : Altered w w' p s) (h : InTable p) where
  -- a valuation that is s at p and elsewhere as before
  altered-holds : (α β : Valuation) → Holds w α → ((q : Place) → ¬ (q ≡ p) → β q ≡ α q) → β p ≡ s → Holds w' β
  altered-holds α β x off on = holds-all w' β (λ q k. go q k (place-dec q p))
    where
      go : (q : Place) → InTable q → Dec (q ≡ p) → SlotAt w' (slot_of q) (β q)
      go q k (yes e) = rw (e, on) a.now
      go q k (no n) =
          let at0 : ¬ (slot_of q ≡ slot_of p) = λ e. slots_apart q p n k h 0 0 (omega arith) (omega arith) (omega arith) in
          let at1 : ¬ (slot_of q ≡ slot_of p + 1) = λ e. slots_apart q p n k h 0 1 (omega arith) (omega arith) (omega arith) in
          let at2 : ¬ (suc (slot_of q) ≡ slot_of p) = λ e. slots_apart q p n k h 1 0 (omega arith) (omega arith) (omega arith) in
          let at3 : ¬ (suc (slot_of q) ≡ slot_of p + 1) = λ e. slots_apart q p n k h 1 1 (omega arith) (omega arith) (omega arith) in
          rw (off q n)
          (slot-keep w w' (slot_of q) (α q) (a.others (slot_of q) at0 at1) (a.others (suc (slot_of q)) at2 at3) (slot_held w α x q k))

  pub holds-put : {α : Valuation} → Holds w α → Holds w' (put α p s)
  holds-put {α} x = altered-holds α (put α p s) x (put_other α p s) (put_same α p s)

  -- after another slot there
  pub holds-again : (α : Valuation) (s' : Slot) → Holds w (put α p s') → Holds w' (put α p s)
  holds-again α s' x =
      altered-holds (put α p s') (put α p s) x (λ q n. put_other α p s q n ∙ sym (put_other α p s' q n)) (put_same α p s)

  -- the slot that was there is back
  pub holds-back : (α : Valuation) (s' : Slot) → α p ≡ s → Holds w (put α p s') → Holds w' α
  holds-back α s' e x = altered-holds (put α p s') α x (λ q n. sym (put_other α p s' q n)) e

  -- marks that are the same elsewhere, where p's is the second word
  pub altered-marks : (α β : Valuation) (m n : Place → ℕ) → Marks w α m → ((q : Place) → ¬ (q ≡ p) → β q ≡ α q) →
      ((q : Place) → ¬ (q ≡ p) → n q ≡ m q) → (β p ≡ empty → get_or w' (slot_of p + 1) 0 ≡ n p) → Marks w' β n
  altered-marks α β m n x off same on q k = go (place-dec q p)
    where
      go : Dec (q ≡ p) → β q ≡ empty → get_or w' (slot_of q + 1) 0 ≡ n q
      go (yes e) none = rw e (on (rw e at none))
      go (no f) none =
          let at0 : ¬ (slot_of q + 1 ≡ slot_of p) = λ e. slots_apart q p f k h 1 0 (omega arith) (omega arith) (omega arith) in
          let at1 : ¬ (slot_of q + 1 ≡ slot_of p + 1) = λ e. slots_apart q p f k h 1 1 (omega arith) (omega arith) (omega arith) in
          a.others (slot_of q + 1) at0 at1 ∙ x q k (sym (off q f) ∙ none) ∙ sym (same q f)

-- ---- how the code alters a slot

pub slot-of-saved : (w : Words) (i had old : ℕ) (s : Slot) → Saved had old s → get_or w i 0 ≡ had → get_or w (i + 1) 0 ≡ old → SlotAt w i s
slot-of-saved w i had old empty q e f = e ∙ q
slot-of-saved w i had old (full z) q e f = (e ∙ q.0, rw add-one at (f ∙ q.1))

module _
    (w : Words) {w' : Words} {i : ℕ} (p : Place) (had old : ℕ) (e : i ≡ slot_of p) (h : InTable p) (z : path_at ≤ length w)
    (words : w' ≡ set (set w i had) (i + 1) old)
  where
    pub second_word : get_or w' (slot_of p + 1) 0 ≡ old
    second_word =
        let k = in_table p h in
        let size1 : length (set w i had) ≡ length w = length-set w i had in
        rw (← e, words) (get_or-set_same (set w i had) (i + 1) old 0 (omega (arith, k.high)))

    pub alter : (s : Slot) → Saved had old s → Altered w w' p s
    alter s q =
        let k = in_table p h in
        let w1 : Words = set w i had in
        let at0 : get_or w' (slot_of p) 0 ≡ had =
        rw (← e, words, get_or-set_other w1 (i + 1) i old 0 (λ x. omega arith)) (get_or-set_same w i had 0 (omega (arith, k.high))) in
        record {
          others = λ j m n. rw (words, get_or-set_other w1 (i + 1) j old 0 (λ x. n (omega arith)), get_or-set_other w i j had 0 (λ x. m (omega arith)));
          now = slot-of-saved w' (slot_of p) had old s q at0 second_word;
          size = rw (words, length-set, length-set);
        }
