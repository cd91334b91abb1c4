-- Stores in a row, and bytes that a writer puts one after the other. Assumes nothing.
use Prim.Native.Nat.{ℕ, suc, ◌+◌, ◌≤◌, ◌<◌}
use native.Mathlib.Omega.{arith}
use native.Mathlib.Nat.{add-zero}
use mathlib.Core.Path.{◌≡◌, refl, sym, ◌∙◌, ap}
use mathlib.Core.List.{[], ◌∷◌, ◌++◌}
use lib.ListN.{length, set, get_or, take, length-append, length-take}
use lib.Seq.{sets, set_out, set_comm}
use Rattle.std.proofs.lemmas.List.{take_more}
use Rattle.specification.specs.Bytes.{Bytes}
use Rattle.listing.specs.declared.writer.Writer.{Writer}
use Rattle.listing.specs.Put.{Room, Put, Writes}

-- ---- stores in a row

sets-++ : (o : Bytes) (at : ℕ) (xs ys : Bytes) → sets o at (xs ++ ys) ≡ sets (sets o at xs) (at + length xs) ys
sets-++ o at [] ys = ap (λ k. sets o k ys) (sym (add-zero at))
sets-++ o at (x ∷ xs) ys =
    sets-++ (set o at x) (suc at) xs ys ∙
    ap (λ k. sets (sets (set o at x) (suc at) xs) k ys) {x = suc at + length xs} {y = at + suc (length xs)} (omega arith)

-- a store beyond them may come first
pub sets-before : (o : Bytes) (at : ℕ) (xs : Bytes) (y k : ℕ) → at + length xs ≡ k → sets (set o k y) at xs ≡ sets o at (xs ++ y ∷ [])
sets-before o at [] y k e = ap (λ j. set o j y) {x = k} {y = at} (omega arith)
sets-before o at (x ∷ xs) y k e =
    ap (λ l. sets l (suc at) xs) (set_comm o k at y x (λ q. omega arith)) ∙ sets-before (set o at x) (suc at) xs y k (omega arith)

-- beyond the memory's end nothing is kept
pub sets-out : (o : Bytes) (at : ℕ) (xs : Bytes) → length o ≤ at → sets o at xs ≡ o
sets-out o at [] h = refl
sets-out o at (x ∷ xs) h = rw (set_out o at x h) (sets-out o (suc at) xs (omega arith))

-- ---- bytes one after the other

pub writes-++ : {u v w : Writer} {xs ys : Bytes} → Writes u v xs → Writes v w ys → Writes u w (xs ++ ys)
writes-++ {u} {v} {w} {xs} {ys} p q =
    record {
      memory = q.memory ∙ p.memory;
      put = record {
        bytes = q.put.bytes ∙ rw (p.put.bytes, p.put.end) (sym (sets-++ u.memory.now u.at xs ys));
        end = omega (arith, p.put.end, q.put.end, length-append xs ys);
      };
    }

pub writes-[] : (w : Writer) → Writes w w []
writes-[] w = record { memory = refl; put = record { bytes = refl; end = omega arith } }

-- the i-th byte after those before it
pub writes-next : {u v w : Writer} (t : Bytes) (i : ℕ) → i < length t →
    Writes u v (take i t) → Writes v w (get_or t i 0 ∷ []) → Writes u w (take (i + 1) t)
writes-next t i h p q = rw (take_more t i 0 h) (writes-++ p q)

pub room-next : {u v : Writer} (t : Bytes) (i : ℕ) → i < length t → Room u.at t → Writes u v (take i t) → Room v.at (get_or t i 0 ∷ [])
room-next t i h r p = omega (arith, p.put.end, length-take i t)

-- by a writer at the start of a memory
pub writes-new : {u v : Writer} {o t : Bytes} → u.memory.now ≡ o → u.at ≡ 0 → Writes u v t → Put o v.memory.now 0 t v.at
writes-new e s p = rw (← e, ← s) p.put
