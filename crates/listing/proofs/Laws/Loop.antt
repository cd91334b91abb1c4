-- Lines put in a loop, those of 0, of 1 and so on up to n. Assumes nothing.
use Prim.Native.Nat.{ℕ, zero, suc, ◌+◌, ◌-◌, ◌<◌}
use native.Mathlib.Omega.{arith}
use mathlib.Core.Path.{◌≡◌, refl, sym, ◌∙◌, ap}
use mathlib.Core.List.{List, [], ◌++◌, append-nil, append_assoc}
use lib.ListN.{length, length-append}
use Rattle.specification.specs.Listing.{Line, lines_text}
use Rattle.specification.proofs.Laws.Blocks.{lines_text-++}
use Rattle.listing.specs.declared.writer.Writer.{Writer}
use Rattle.listing.specs.Put.{Room, Writes}
use Rattle.listing.specs.Model.{each_line}
use Rattle.listing.proofs.Laws.Put.{writes-++, writes-[]}

module _ (f : ℕ → List Line) where
  -- those of j and the next, cut behind the first i
  each-cut : (i j k : ℕ) → lines_text (each_line f j (i + k)) ≡ lines_text (each_line f j i) ++ lines_text (each_line f (j + i) k)
  unfolding each_line lines_text
  each-cut zero j k =
      ap (λ m. lines_text (each_line f j m)) {x = 0 + k} {y = k} (omega arith) ∙
      ap (λ m. lines_text (each_line f m k)) {x = j} {y = j + 0} (omega arith)
  each-cut (suc i) j k =
      let a = lines_text (f j) in
      ap (λ m. lines_text (each_line f j m)) {x = suc i + k} {y = suc (i + k)} (omega arith) ∙
      lines_text-++ (f j) (each_line f (suc j) (i + k)) ∙
      ap (λ t. a ++ t) (each-cut i (suc j) k) ∙
      sym (append_assoc a (lines_text (each_line f (suc j) i)) (lines_text (each_line f (suc j + i) k))) ∙
      ap (λ t. t ++ lines_text (each_line f (suc j + i) k)) (sym (lines_text-++ (f j) (each_line f (suc j) i))) ∙
      ap (λ m. lines_text (each_line f j (suc i)) ++ lines_text (each_line f m k)) {x = suc j + i} {y = j + suc i} (omega arith)

  each-first : (i k : ℕ) → lines_text (each_line f i (suc k)) ≡ lines_text (f i) ++ lines_text (each_line f (suc i) k)
  unfolding each_line
  each-first i k = lines_text-++ (f i) (each_line f (suc i) k)

  each-none : (i : ℕ) → lines_text (each_line f i 0) ≡ []
  unfolding each_line lines_text
  each-none i = refl

  pub each-next : (i : ℕ) → lines_text (each_line f 0 (i + 1)) ≡ lines_text (each_line f 0 i) ++ lines_text (f i)
  each-next i =
      let z : 0 + i ≡ i = omega arith in
      each-cut i 0 1 ∙
      ap (λ t. lines_text (each_line f 0 i) ++ t)
      (ap (λ m. lines_text (each_line f m 1)) z ∙ each-first i 0 ∙ ap (λ t. lines_text (f i) ++ t) (each-none (suc i)) ∙
      append-nil (lines_text (f i)))

  pub each-split : (n i : ℕ) → i < n →
      lines_text (each_line f 0 n) ≡ lines_text (each_line f 0 i) ++ (lines_text (f i) ++ lines_text (each_line f (suc i) (n - suc i)))
  each-split n i h =
      let z : 0 + i ≡ i = omega arith in
      ap (λ m. lines_text (each_line f 0 m)) {x = n} {y = i + suc (n - suc i)} (omega arith) ∙
      each-cut i 0 (suc (n - suc i)) ∙
      ap (λ t. lines_text (each_line f 0 i) ++ t) (ap (λ m. lines_text (each_line f m (suc (n - suc i)))) z ∙ each-first i (n - suc i))

pub turn-first : (f : ℕ → List Line) (u : Writer) → Writes u u (lines_text (each_line f 0 0))
turn-first f u = rw (each-none f 0) (writes-[] u)

module _ (f : ℕ → List Line) (i : ℕ) {u v : Writer} (p : Writes u v (lines_text (each_line f 0 i))) where
  -- the lines of i, after those before it
  pub turn-next : {w : Writer} → Writes v w (lines_text (f i)) → Writes u w (lines_text (each_line f 0 (i + 1)))
  turn-next q = rw (each-next f i) (writes-++ p q)

  -- for which there is room
  pub turn-room : (n : ℕ) → i < n → Room u.at (lines_text (each_line f 0 n)) → Room v.at (lines_text (f i))
  turn-room n h r =
      let x = lines_text (f i) in
      let y = lines_text (each_line f (suc i) (n - suc i)) in
      omega (
        arith,
        p.put.end,
        ap length (each-split f n i h),
        length-append (lines_text (each_line f 0 i)) (x ++ y),
        length-append x y,
      )
