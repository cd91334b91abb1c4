-- Laws of parts of the sheet, and of keys byte by byte. Assumes nothing.
use Prim.Native.Nat.{ℕ, suc, ◌-◌, ◌≤◌}
use mathlib.Core.Path.{◌≡◌, refl, sym, ap, ◌∙◌}
use mathlib.Core.Bool.{Bool, true, false, ◌&&◌}
use mathlib.Core.List.{[], ◌∷◌}
use native.Mathlib.Omega.{arith}
use lib.Dec.{eqb}
use lib.ListN.{length, take, drop, drop_of_length-le, length-drop}
use lib.Seq.{drop-length, take-length}
use Rattle.std.specs.List.{starts_with}
use Rattle.specification.specs.Bytes.{Bytes, begins}
use Rattle.specification.proofs.Laws.Contradiction.{contradiction}

-- ---- parts

module _ (s : Bytes) (n : ℕ) where
  pub take_rest : take (length s - n) (drop n s) ≡ drop n s
  take_rest = ap (λ (k : ℕ). take k (drop n s)) (sym (length-drop n s)) ∙ take-length (drop n s)

pub take-end : (s : Bytes) (n : ℕ) → length s ≤ n → take (length s - length s) (drop (length s) s) ≡ drop n s
take-end s n h = take_rest s (length s) ∙ drop-length s ∙ sym (drop_of_length-le s h)

-- ---- keys, byte by byte

-- what the library's `starts_with` says
pub starts_begins : (key s : Bytes) → starts_with eqb s key ≡ begins key s
unfolding begins
starts_begins [] s = refl
starts_begins (k ∷ ks) [] = refl
starts_begins (k ∷ ks) (b ∷ bs) = ap (λ (t : Bool). eqb k b && t) (starts_begins ks bs)

pub begins-long : (k bs : Bytes) → begins k bs ≡ true → length k ≤ length bs
unfolding begins
begins-long [] bs p = omega arith
begins-long (k ∷ ks) [] p = contradiction cc
begins-long (k ∷ ks) (b ∷ bs) p = go (eqb k b) p (begins-long ks bs)
  where
    go : (t : Bool) → (t && begins ks bs) ≡ true → (begins ks bs ≡ true → length ks ≤ length bs) → suc (length ks) ≤ suc (length bs)
    go true p ih = omega (arith, ih p)
    go false p ih = contradiction cc

-- a key that stands ends within the sheet
pub key_fits : (s key : Bytes) (at : ℕ) → begins key (drop at s) ≡ true → length key ≤ length s - at
key_fits s key at p = omega (arith, begins-long key (drop at s) p, length-drop at s)
