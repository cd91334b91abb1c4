-- The words before the arguments of a procedure's frame, after `set_head`. Assumes nothing.
use Prim.Native.Nat.{ℕ, ◌+◌, ◌<◌, ◌≤◌}
use native.Mathlib.Omega.{arith}
use mathlib.Core.Path.{◌≡◌, ◌∙◌}
use mathlib.Core.Logic.{◌⊎◌, inl, inr}
use lib.ListN.{length, get_or, set, length-set}
use lib.Seq.{get_or-set_same, get_or-set_other}
use Rattle.tables.specs.Frames.{frame_slot, tags_at, back_at, call_at}
use Rattle.sheet.specs.Tables.{Words}

pub record Headed (w w' : Words) (K back call tags : ℕ) : Type 0 where
  pub others : (j : ℕ) → (j ≤ frame_slot K) ⊎ (frame_slot K + 4 ≤ j) → get_or w' j 0 ≡ get_or w j 0
  pub tags_is : tags_at w' K ≡ tags
  pub back_is : back_at w' K ≡ back
  pub call_is : call_at w' K ≡ call
  pub size : length w' ≡ length w

-- a word that is none of the head's
apart : (K j i : ℕ) → 0 < i → i < 4 → (j ≤ frame_slot K) ⊎ (frame_slot K + 4 ≤ j) → ¬ (j ≡ frame_slot K + i)
apart K j i a b (inl h) z = omega arith
apart K j i a b (inr h) z = omega arith

module _ (w : Words) (K back call tags : ℕ) where
  abbrev w1 : Words
  w1 = set w (frame_slot K + 1) back

  abbrev w2 : Words
  w2 = set w1 (frame_slot K + 2) call

  size-1 : length w1 ≡ length w
  size-1 = length-set w (frame_slot K + 1) back

  size-2 : length w2 ≡ length w1
  size-2 = length-set w1 (frame_slot K + 2) call

  pub headed : {w' : Words} → frame_slot K + 4 ≤ length w → w' ≡ set w2 (frame_slot K + 3) tags → Headed w w' K back call tags
  headed {w'} inside e =
      rw e
      (record {
        others = λ j h.
            get_or-set_other w2 (frame_slot K + 3) j tags 0 (apart K j 3 (omega arith) (omega arith) h) ∙
            get_or-set_other w1 (frame_slot K + 2) j call 0 (apart K j 2 (omega arith) (omega arith) h) ∙
            get_or-set_other w (frame_slot K + 1) j back 0 (apart K j 1 (omega arith) (omega arith) h);
        tags_is = get_or-set_same w2 (frame_slot K + 3) tags 0 (omega (arith, size-1, size-2));
        back_is =
            get_or-set_other w2 (frame_slot K + 3) (frame_slot K + 1) tags 0 (λ z. omega arith) ∙
            get_or-set_other w1 (frame_slot K + 2) (frame_slot K + 1) call 0 (λ z. omega arith) ∙ get_or-set_same w (frame_slot K + 1) back 0 (omega arith);
        call_is = get_or-set_other w2 (frame_slot K + 3) (frame_slot K + 2) tags 0 (λ z. omega arith) ∙ get_or-set_same w1 (frame_slot K + 2) call 0 (omega (arith, size-1));
        size = length-set w2 (frame_slot K + 3) tags ∙ size-2 ∙ size-1;
      })
