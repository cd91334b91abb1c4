-- The record of a call that is entered, and where its procedure returns to. Assumes nothing.
use Prim.Native.Nat.{ℕ, ◌+◌, ◌<◌}
use native.Mathlib.Omega.{arith}
use mathlib.Core.Path.{◌≡◌, refl, sym, ◌∙◌, ap}
use mathlib.Core.List.{[], ◌∷◌}
use lib.ListN.{get_or}
use borrow.Author.Tests.{eq-eqb, ne_eqb}
use Rattle.tables.specs.Frames.{frame_slot, call_at, back_at, tags_at}
use Rattle.tables.specs.Leaves.{return_code}
use Rattle.sheet.specs.Tables.{Words}
use Rattle.search.specs.Kept.{Pushes}
use Rattle.search.specs.Steps.{back_word}
use Rattle.walker.specs.Frames.{Copied, Saves, Saved}

module _ {w w' w'' : Words} {top k n t tags back call : ℕ} (s : Saves w top k n) (f : Copied w w' top k n) (p : Pushes w' w'' (top + n) (tags ∷ back ∷ call ∷ t ∷ [])) where
  below : (j : ℕ) → j < top → get_or w' j 0 ≡ get_or w j 0
  below j h = f.others j (λ i l z. omega arith)

  head-kept : (j : ℕ) → j < 4 → get_or w' (frame_slot k + j) 0 ≡ get_or w (frame_slot k + j) 0
  head-kept j h = below (frame_slot k + j) (omega (arith, s.procedure, s.low))

  pub saved : tags ≡ tags_at w' k → back ≡ back_at w' k → call ≡ call_at w' k → Saved w w'' top k n t (top + n + 4)
  saved et eb ec = record {
    saved = record {
      words = λ j h. p.low (top + j) (omega arith) ∙ f.words j h;
      tags = head 0 (omega arith) (omega arith) ∙ et ∙ head-kept 3 (omega arith);
      back = p.words 1 (omega arith) ∙ eb ∙ head-kept 1 (omega arith);
      token = p.words 2 (omega arith) ∙ ec ∙ head-kept 2 (omega arith);
      own = p.words 3 (omega arith);
    };
    end = refl;
    below = λ j h. p.low j (omega arith) ∙ below j h;
    size = p.size ∙ f.size;
  }
    where
      head : (j : ℕ) → j < 4 → top + n ≡ top + n + j → get_or w'' (top + n) 0 ≡ get_or (tags ∷ back ∷ call ∷ t ∷ []) j 0
      head j h e = ap (λ i. get_or w'' i 0) e ∙ p.words j h

module _ (w : Words) (t : ℕ) {n : ℕ} (en : n ≡ get_or w (t + 3) 0) where
  pub back-returned : {x r : ℕ} → x ≡ get_or w n 0 → x ≡ return_code → r ≡ get_or w (n + 1) 0 → r ≡ back_word w t
  back-returned {x} {r} ex e er = rw (← en, eq-eqb (get_or w n 0) return_code (sym ex ∙ e)) er

  pub back-straight : {x : ℕ} → x ≡ get_or w n 0 → ¬ (x ≡ return_code) → n ≡ back_word w t
  back-straight {x} ex e = rw (← en, ne_eqb (get_or w n 0) return_code (λ z. e (ex ∙ z))) refl
