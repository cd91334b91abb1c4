-- Laws of the readers of keys and marks that the lines share: what the code's answer tells of the bytes, and a line's end. Assumes nothing.
use Prim.Native.Nat.{ℕ, ◌+◌, ◌<◌}
use mathlib.Core.Path.{◌≡◌, refl, sym, ap}
use mathlib.Core.Bool.{Bool, true, false}
use mathlib.Core.List.{[], ◌∷◌}
use native.Mathlib.Omega.{arith}
use lib.ListN.{length, drop, length-drop}
use lib.Seq.{drop-drop}
use Rattle.specification.specs.Bytes.{Bytes, pick, Class, feed, class_number, begins}
use Rattle.specification.specs.Parser.{Read, refused, found, and_then, ◌>>◌, give, next, mark, exactly, past}
use Rattle.specification.proofs.Laws.Contradiction.{contradiction}
use Rattle.text.specs.Class.{class_at}
use Rattle.text.proofs.Laws.Class.{class-next, class-not-next}
use Rattle.sheet.specs.Reader.{line_at}
use Rattle.sheet.proofs.Answers.{on_found, on_refused}

-- what is read of bytes that are due
abbrev nothing : Unit {0}
nothing = tt

-- the place behind them
abbrev place_of : Read (Unit {0}) → ℕ
place_of (refused k p) = p
place_of (found u r) = r.place

-- ---- bytes that are due

module _ (s : Bytes) (at : ℕ) where
  module _ (k : Bytes) (n : ℕ) where
    pub exactly-yes : true ≡ begins k (drop at s) → found tt (line_at s (at + length k)) ≡ exactly n k (line_at s at)
    unfolding exactly
    exactly-yes e = rw (sym e, drop-drop)

    pub exactly-no : false ≡ begins k (drop at s) → refused n at ≡ exactly n k (line_at s at)
    unfolding exactly
    exactly-no e = rw (sym e)

    -- and back
    pub exactly-found : {e : ℕ} → found tt (line_at s e) ≡ exactly n k (line_at s at) → (begins k (drop at s) ≡ true) × (e ≡ at + length k)
    unfolding exactly
    exactly-found {e} q = by (begins k (drop at s)) q
      where
        by : (b : Bool) → found nothing (line_at s e) ≡ pick b (found nothing (past (length k) (line_at s at))) (refused n at) → (b ≡ true) × (e ≡ at + length k)
        by true q = (refl, ap place_of q)
        by false q = contradiction cc

    pub exactly-refused : {i p : ℕ} → refused i p ≡ exactly n k (line_at s at) → (begins k (drop at s) ≡ false) × (i ≡ n) × (p ≡ at)
    unfolding exactly
    exactly-refused {i} {p} q = by (begins k (drop at s)) q
      where
        by : (b : Bool) → refused i p ≡ pick b (found nothing (past (length k) (line_at s at))) (refused n at) → (b ≡ false) × (i ≡ n) × (p ≡ at)
        by true q = contradiction cc
        by false q = (refl, cc, cc)

  module _ (c : Class) where
    pub mark-yes : true ≡ next c (drop at s) → found tt (line_at s (at + 1)) ≡ mark c (line_at s at)
    unfolding mark
    mark-yes e = rw (sym e, drop-drop)

    pub mark-no : false ≡ next c (drop at s) → refused 5 at ≡ mark c (line_at s at)
    unfolding mark
    mark-no e = rw (sym e)

    -- and back
    pub mark-found : {e : ℕ} → found tt (line_at s e) ≡ mark c (line_at s at) → (next c (drop at s) ≡ true) × (e ≡ at + 1)
    unfolding mark
    mark-found {e} q = by (next c (drop at s)) q
      where
        by : (b : Bool) → found nothing (line_at s e) ≡ pick b (found nothing (past 1 (line_at s at))) (refused 5 at) → (b ≡ true) × (e ≡ at + 1)
        by true q = (refl, ap place_of q)
        by false q = contradiction cc

    pub mark-refused : {i p : ℕ} → refused i p ≡ mark c (line_at s at) → (next c (drop at s) ≡ false) × (i ≡ 5) × (p ≡ at)
    unfolding mark
    mark-refused {i} {p} q = by (next c (drop at s)) q
      where
        by : (b : Bool) → refused i p ≡ pick b (found nothing (past 1 (line_at s at))) (refused 5 at) → (b ≡ false) × (i ≡ 5) × (p ≡ at)
        by true q = contradiction cc
        by false q = (refl, cc, cc)

    -- what the class at the place tells
    pub class-tells : (b : Bool) → (b ≡ true → class_at s at ≡ class_number c) → (b ≡ false → class_at s at ≡ class_number c → ⊥) → b ≡ next c (drop at s)
    class-tells true y n = sym (class-next s at c (y refl))
    class-tells false y n = sym (class-not-next s at c (n refl))

-- a byte of a class lies within the sheet
pub next-below : (s : Bytes) (e : ℕ) (c : Class) → next c (drop e s) ≡ true → e < length s
next-below s e c h = omega (arith, length-drop e s, by (drop e s) h)
  where
    by : (bs : Bytes) → next c bs ≡ true → 0 < length bs
    by [] h = contradiction cc
    by (b ∷ bs) h = omega arith

-- ---- the end of a line

-- after what was read on it comes a line feed
abbrev pub closed : {A : Type 0} → Read A → Read A
closed r = and_then (λ a. mark feed >> give a) r

module _ {A : Type 0} (a : A) (s : Bytes) (e : ℕ) where
  pub closed-found : {q : ℕ} → found tt (line_at s q) ≡ mark feed (line_at s e) → closed (found a (line_at s e)) ≡ found a (line_at s q)
  closed-found h = on_found (λ u. give a) h

  pub closed-refused : {k p : ℕ} → refused k p ≡ mark feed (line_at s e) → closed (found a (line_at s e)) ≡ refused k p
  closed-refused h = on_refused (λ u. give a) h
