-- Laws of steps that were read or refused, and of what was read, made into another thing (`mapped`). Assumes nothing.
use Prim.Native.Nat.{ℕ}
use mathlib.Core.Path.{◌≡◌, sym, ap}
use Rattle.specification.specs.Parser.{Reader, Read, refused, found, Parser, and_then}
use Rattle.specification.proofs.Laws.Contradiction.{contradiction}
use Rattle.sheet.specs.Answers.{mapped}

-- ---- a step, and what follows it

module _ {A B : Type 0} (f : A → Parser B) {x : Read A} where
  pub on_found : {a : A} {r : Reader} → found a r ≡ x → and_then f x ≡ f a r
  on_found e = ap (and_then f) (sym e)

  pub on_refused : {k p : ℕ} → refused k p ≡ x → and_then f x ≡ refused k p
  on_refused e = ap (and_then f) (sym e)

-- ---- what was read, made into another thing

-- the thing that b was made of
pub record Origin {A B : Type 0} (f : A → B) (b : B) (r : Reader) (x : Read A) : Type 0 where
  pub origin : A
  pub is : x ≡ found origin r
  pub made : f origin ≡ b

module _ {A B : Type 0} (f : A → B) where
  pub mapped-refused : (k p : ℕ) (x : Read A) → refused k p ≡ mapped f x → x ≡ refused k p
  mapped-refused k p (refused i q) e = cc
  mapped-refused k p (found a r) e = contradiction cc

  pub mapped-found : (b : B) (r : Reader) (x : Read A) → found b r ≡ mapped f x → Origin f b r x
  mapped-found b r (refused i q) e = contradiction cc
  mapped-found b r (found a q) e = record { origin = a; is = cc; made = cc }
