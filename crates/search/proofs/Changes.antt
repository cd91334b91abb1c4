-- What a step keeps of the words: after a record is pushed, a slot is changed, a last value is set, an error leaf is told. Assumes nothing.
use Prim.Native.Nat.{ℕ, ◌+◌, ◌≤◌, ◌<◌}
use native.Mathlib.Omega.{arith}
use mathlib.Core.Path.{◌≡◌, refl, ◌∙◌}
use mathlib.Core.List.{List}
use mathlib.Core.Logic.{◌⊎◌, inl, inr}
use lib.ListN.{length, get_or, set, length-set}
use lib.Seq.{get_or-set_same, get_or-set_other}
use Rattle.specification.specs.Place.{Place}
use Rattle.specification.specs.Value.{Slot}
use Rattle.tables.specs.Layout.{cells_at, firsts_at, path_at, max_locals}
use Rattle.tables.specs.Kept.{SameSlots}
use Rattle.sheet.specs.Tables.{Words}
use Rattle.search.specs.Marks.{InTable}
use Rattle.tables.specs.Leaves.{error_place, kind_at, token_at}
use Rattle.search.specs.Kept.{Kept, SameStore, Pushes, Lasts}
use Rattle.search.proofs.Slots.{in_table, Altered}

-- ---- all words below one are the same

module _ {w w' : Words} {top : ℕ} {xs : List ℕ} (g : Pushes w w' top xs) (h : path_at ≤ top) where
  pub pushed-kept : Kept top w w'
  pushed-kept = record {
    tokens = λ j k. g.low j (omega arith);
    firsts = λ j k m. g.low j (omega arith);
    returns = λ K k. g.low _ (omega arith);
    leaves = λ j k m. g.low j (omega arith);
    records = λ j k m. g.low j m;
    size = g.size;
  }

  pub pushed-slots : SameSlots w w'
  pushed-slots = record { same = λ j k m. g.low j (omega arith) }

  pub pushed-store : SameStore w w'
  pushed-store = record { same = λ j k m. g.low j (omega arith) }

pub kept_refl : (top : ℕ) (w : Words) → Kept top w w
kept_refl top w = record {
  tokens = λ j k. refl;
  firsts = λ j k m. refl;
  returns = λ K k. refl;
  leaves = λ j k m. refl;
  records = λ j k m. refl;
  size = refl;
}

pub kept-both : {top : ℕ} {w v u : Words} → Kept top w v → Kept top v u → Kept top w u
kept-both a b = record {
  tokens = λ j k. b.tokens j k ∙ a.tokens j k;
  firsts = λ j k m. b.firsts j k m ∙ a.firsts j k m;
  returns = λ K k. b.returns K k ∙ a.returns K k;
  leaves = λ j k m. b.leaves j k m ∙ a.leaves j k m;
  records = λ j k m. b.records j k m ∙ a.records j k m;
  size = b.size ∙ a.size;
}

-- fewer records
pub kept_less : {top less : ℕ} {w v : Words} → less ≤ top → Kept top w v → Kept less w v
kept_less h a = record {
  tokens = a.tokens;
  firsts = a.firsts;
  returns = a.returns;
  leaves = a.leaves;
  records = λ j k m. a.records j k (omega arith);
  size = a.size;
}

-- ---- a slot

module _ {w w' : Words} {p : Place} {s : Slot} (h : InTable p) (a : Altered w w' p s) where
  off-slot : (j : ℕ) → (j < cells_at) ⊎ (firsts_at ≤ j) → get_or w' j 0 ≡ get_or w j 0
  off-slot j (inl k) = let z = in_table p h in a.others j (λ e. omega (arith, z.low)) (λ e. omega (arith, z.low))
  off-slot j (inr k) = let z = in_table p h in a.others j (λ e. omega (arith, z.high)) (λ e. omega (arith, z.high))

  pub altered-kept : (top : ℕ) → Kept top w w'
  altered-kept top = record {
    tokens = λ j k. off-slot j (inl k);
    firsts = λ j k m. off-slot j (inr k);
    returns = λ K k. off-slot _ (inr (omega arith));
    leaves = λ j k m. off-slot j (inr (omega arith));
    records = λ j k m. off-slot j (inr (omega arith));
    size = a.size;
  }

  pub altered-store : SameStore w w'
  altered-store = record { same = λ j k m. off-slot j (inr (omega arith)) }

-- ---- a last value

module _ {w w' : Words} {l v : ℕ} (h : l < max_locals) (a : Lasts w w' l v) where
  pub lasts-kept : (top : ℕ) → Kept top w w'
  lasts-kept top = record {
    tokens = λ j k. a.others j (λ e. omega arith);
    firsts = λ j k m. a.others j (λ e. omega arith);
    returns = λ K k. a.others _ (λ e. omega arith);
    leaves = λ j k m. a.others j (λ e. omega arith);
    records = λ j k m. a.others j (λ e. omega arith);
    size = a.size;
  }

  pub lasts-slots : SameSlots w w'
  lasts-slots = record { same = λ j k m. a.others j (λ e. omega arith) }

-- ---- an error leaf's kind and token

module _ (w : Words) {w' : Words} (kind tok : ℕ) (words : w' ≡ set (set w (error_place + 1) kind) (error_place + 2) tok) where
  off-error : (j : ℕ) → ¬ (j ≡ error_place + 1) → ¬ (j ≡ error_place + 2) → get_or w' j 0 ≡ get_or w j 0
  off-error j m n =
      rw (words, get_or-set_other (set w (error_place + 1) kind) (error_place + 2) j tok 0 n, get_or-set_other w (error_place + 1) j kind 0 m)

  pub error-kept : (top : ℕ) → Kept top w w'
  error-kept top = record {
    tokens = λ j k. off-error j (λ z. omega arith) (λ z. omega arith);
    firsts = λ j k m. off-error j (λ z. omega arith) (λ z. omega arith);
    returns = λ K k. off-error _ (λ z. omega arith) (λ z. omega arith);
    leaves = λ j k m. off-error j (λ z. omega arith) (λ z. omega arith);
    records = λ j k m. off-error j (λ z. omega arith) (λ z. omega arith);
    size = rw (words, length-set, length-set);
  }

  pub error-slots : SameSlots w w'
  error-slots = record { same = λ j k m. off-error j (λ z. omega arith) (λ z. omega arith) }

  pub error-store : SameStore w w'
  error-store = record { same = λ j k m. off-error j (λ z. omega arith) (λ z. omega arith) }

  pub error-told : path_at ≤ length w → (kind_at w' ≡ kind) × (token_at w' ≡ tok)
  error-told h =
      let w1 : Words = set w (error_place + 1) kind in
      let len1 : length w1 ≡ length w = length-set w (error_place + 1) kind in (
        rw (words, get_or-set_other w1 (error_place + 2) (error_place + 1) tok 0 (λ z. omega arith)) (get_or-set_same w (error_place + 1) kind 0 (omega arith)),
        rw words (get_or-set_same w1 (error_place + 2) tok 0 (omega arith)),
      )
