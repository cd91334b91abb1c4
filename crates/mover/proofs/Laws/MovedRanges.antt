-- The line of ranges: the full one is that of all of 32 bits for each, and a range is written as the full one only where it is all of 32 bits,
-- since its numbers end at a colon and at a comma or line feed. Assumes nothing.
use Prim.Native.Nat.{ℕ, zero, suc, ◌+◌}
use native.Mathlib.Omega.{arith}
use mathlib.Core.Path.{◌≡◌, refl, sym, ◌∙◌, ap}
use mathlib.Core.Bool.{Bool, true, false}
use mathlib.Core.List.{List, [], ◌∷◌, ◌++◌, append_assoc}
use mathlib.Core.Option.{Option, none, some as just}
use lib.ListN.{length, drop, replicate}
use lib.Dec.{eqb}
use lib.IntN.{ℤ}
use borrow.Author.Tests.{eqb-true, eqb-false, eq-eqb}
use Rattle.specification.specs.Bytes.{Bytes, bytes, pick, begins}
use Rattle.specification.specs.Number.{least, greatest, digits, printℕ, printℤ}
use Rattle.specification.specs.Lines.{Range, everything}
use Rattle.specification.specs.Lists.{Each}
use Rattle.specification.specs.Arithmetic.{eq_z}
use Rattle.specification.specs.Text.{led, parted, range_text}
use Rattle.specification.specs.Moves.{is_everything, narrow_at}
use Rattle.specification.proofs.Laws.Contradiction.{contradiction}
use Rattle.specification.proofs.Laws.Lists.{Begins}
use Rattle.specification.proofs.Laws.Parser.{and-true, true-T}
use Rattle.specification.proofs.Laws.Print.{IsDigit, Lacks, printℤ-lacks, printℤ-injective}
use Rattle.specification.proofs.Laws.Range.{eq_z-eq}
use Rattle.mover.specs.Model.{full_range, full_ranges, full_line, narrow_place}

-- ---- all of 32 bits

least-text : printℤ least ≡ bytes "-2147483648"
unfolding printℤ printℕ digits
least-text = refl

greatest-text : printℤ greatest ≡ bytes "2147483647"
unfolding printℤ printℕ digits
greatest-text = refl

everything-text : range_text everything ≡ full_range
everything-text = rw (least-text, greatest-text)

-- ---- the full line

full-ranges : (n : ℕ) → full_ranges (suc n) ≡ full_range ++ (led (bytes ",") range_text (replicate n everything) ++ bytes "\n")
unfolding full_ranges led
full-ranges zero = refl
full-ranges (suc n) = rw (least-text, greatest-text, full-ranges n)

pub full-line : (n : ℕ) → full_line n ≡ bytes "ranges=" ++ (parted (bytes ",") range_text (replicate n everything) ++ bytes "\n")
unfolding full_line parted
full-line zero = refl
full-line (suc n) = rw (full-ranges n, least-text, greatest-text)

-- ---- what begins with what

begins-++ : (k w : Bytes) → begins k (k ++ w) ≡ true
unfolding begins
begins-++ [] w = refl
begins-++ (b ∷ k) w = rw (eq-eqb b b refl) (begins-++ k w)

begins-true : (k bs : Bytes) → begins k bs ≡ true → Begins k bs
unfolding begins
begins-true [] bs e = (bs, refl)
begins-true (b ∷ k) [] e = contradiction cc
begins-true (b ∷ k) (c ∷ bs) e =
    let h = and-true (eqb b c) (begins k bs) e in
    let r = begins-true k bs h.1 in
    (r.0, cc (eqb-true b c h.0, r.1))

-- two that go as far as the first byte c
split : (c : ℕ) (xs ys us vs : Bytes) → Lacks c xs → Lacks c ys → xs ++ c ∷ us ≡ ys ++ c ∷ vs → (xs ≡ ys) × (us ≡ vs)
unfolding Each
split c [] [] us vs h k e = (refl, cc)
split c [] (y ∷ ys) us vs h k e = absurd (eqb-false y c k.0 cc)
split c (x ∷ xs) [] us vs h k e = absurd (eqb-false x c h.0 cc)
split c (x ∷ xs) (y ∷ ys) us vs h k e =
    let r = split c xs ys us vs h.1 k.1 cc in
    (cc r.0, r.1)

-- ---- a range

everything-range : (r : Range) → is_everything r ≡ true → (r.low ≡ least) × (r.high ≡ greatest)
unfolding is_everything
everything-range r e =
    let h = and-true (eq_z r.low least) (eq_z r.high greatest) e in
    (eq_z-eq r.low least (true-T (eq_z r.low least) h.0), eq_z-eq r.high greatest (true-T (eq_z r.high greatest) h.1))

range-everything : (r : Range) → r.low ≡ least → r.high ≡ greatest → is_everything r ≡ true
unfolding is_everything
range-everything r h k = rw (h, k)

range-full : (r : Range) → is_everything r ≡ true → range_text r ≡ full_range
range-full r e = let h = everything-range r e in rw (h.0, h.1, least-text, greatest-text)

regroup : (xs ys : Bytes) (m : ℕ) (w : Bytes) → xs ++ 58 ∷ ys ++ m ∷ [] ++ w ≡ xs ++ 58 ∷ (ys ++ m ∷ w)
regroup xs ys m w = simp append_assoc

-- a range and the mark after it, which is neither a digit nor a minus
module _ (m : ℕ) (f : ¬ IsDigit m) (g : eqb 45 m ≡ false) (r : Range) where
  same-range : (t w : Bytes) → range_text everything ≡ t → Begins (t ++ m ∷ []) (range_text r ++ m ∷ w) → is_everything r ≡ true
  same-range t w e (more, b) =
      let low = printℤ r.low in
      let high = printℤ r.high in
      let h : low ++ 58 ∷ (high ++ m ∷ w) ≡ printℤ least ++ 58 ∷ (printℤ greatest ++ m ∷ more) =
      sym (append_assoc low (58 ∷ high) (m ∷ w)) ∙ b ∙ ap (λ (u : Bytes). u ++ m ∷ [] ++ more) (sym e)
      ∙ regroup (printℤ least) (printℤ greatest) m more in
      let colonless : (z : ℤ) → Lacks 58 (printℤ z) = printℤ-lacks 58 (λ d. omega (arith, d.1)) refl in
      let k = split 58 low (printℤ least) (high ++ m ∷ w) (printℤ greatest ++ m ∷ more) (colonless r.low) (colonless least) h in
      let l = split m high (printℤ greatest) w more (printℤ-lacks m f g r.high) (printℤ-lacks m f g greatest) k.1 in
      range-everything r (printℤ-injective r.low least k.0) (printℤ-injective r.high greatest l.0)

  -- the full one stands here where this is it
  begins-range : (w : Bytes) → begins (full_range ++ m ∷ []) (range_text r ++ m ∷ w) ≡ is_everything r
  begins-range w = go (is_everything r) refl (begins (full_range ++ m ∷ []) (range_text r ++ m ∷ w)) refl
    where
      go : (b : Bool) → is_everything r ≡ b → (c : Bool) → begins (full_range ++ m ∷ []) (range_text r ++ m ∷ w) ≡ c → c ≡ b
      go true e c h =
          sym h ∙ ap (λ (u : Bytes). begins (full_range ++ m ∷ []) (u ++ m ∷ w)) (range-full r e) ∙ begins-++ (full_range ++ m ∷ []) w
      go false e true h =
          let k = same-range full_range w everything-text (begins-true (full_range ++ m ∷ []) (range_text r ++ m ∷ w) h) in
          contradiction cc
      go false e false h = refl

  -- and the search goes on after it: it has 22 bytes, and the mark one
  narrow_step : (p : ℕ) (w : Bytes) (later : ℕ → Bytes → Option ℕ) (due : ℕ → Option ℕ) → ((q : ℕ) → later q w ≡ due q) →
      pick (begins (full_range ++ m ∷ []) (range_text r ++ m ∷ w)) (later (p + 23) (drop 23 (range_text r ++ m ∷ w))) (just p)
      ≡ pick (is_everything r) (due (p + length (range_text r) + 1)) (just p)
  narrow_step p w later due h = rw (begins-range w) (go (is_everything r) refl)
    where
      go : (b : Bool) → is_everything r ≡ b →
          pick b (later (p + 23) (drop 23 (range_text r ++ m ∷ w))) (just p) ≡ pick b (due (p + length (range_text r) + 1)) (just p)
      go true e =
          let k : p + 23 ≡ p + 22 + 1 = omega arith in
          ap (λ (u : Bytes). later (p + 23) (drop 23 (u ++ m ∷ w))) (range-full r e) ∙ h (p + 23) ∙ ap due k
          ∙ sym (ap (λ (u : Bytes). due (p + length u + 1)) (range-full r e))
      go false e = refl

-- ---- the line

pub narrow-at : (rs : List Range) (p : ℕ) (w : Bytes) →
    narrow_place p (length rs) (parted (bytes ",") range_text rs ++ 10 ∷ w) ≡ narrow_at p rs
unfolding narrow_place narrow_at parted led
narrow-at [] p w = refl
narrow-at (r ∷ []) p w =
    rw (append_assoc (range_text r) [] (10 ∷ w))
    (narrow_step 10 (λ d. omega (arith, d.0)) refl r p w (λ q bs. none) (λ q. none) (λ q. refl))
narrow-at (r ∷ s ∷ rs) p w =
    rw (append_assoc (range_text r) (led (bytes ",") range_text (s ∷ rs)) (10 ∷ w))
    (narrow_step 44 (λ d. omega (arith, d.0)) refl r p (parted (bytes ",") range_text (s ∷ rs) ++ 10 ∷ w)
    (λ q bs. narrow_place q (length (s ∷ rs)) bs) (λ q. narrow_at q (s ∷ rs)) (λ q. narrow-at (s ∷ rs) q w))
