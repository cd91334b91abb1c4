-- What the words before the dues hold, which are tokens, slots and arrays, all words hold that have the same there. Assumes nothing.
use Prim.Native.Nat.{ℕ, suc, ◌<◌}
use native.Mathlib.Omega.{arith}
use mathlib.Core.Path.{◌∙◌}
use Rattle.specification.specs.Lines.{Declared}
use Rattle.specification.specs.Place.{Place, cell, local}
use Rattle.specification.specs.Value.{Slot, empty, full, Valuation}
use Rattle.tables.specs.Layout.{dues_at, cell_slot, local_slot, first_slot}
use Rattle.tables.specs.Kept.{SameTokens}
use Rattle.terms.specs.Results.{Upto}
use Rattle.sheet.specs.Tables.{Words}
use Rattle.sheet.specs.Held.{SlotAt, slot_of, Holds, ArraysAt}
use Rattle.terms.specs.Environment.{Known}

pub slot_held : {w : Words} {α : Valuation} → Holds w α → (p : Place) → Known p → SlotAt w (slot_of p) (α p)
slot_held h (cell c) l = h.cells c l
slot_held h (local n) l = h.locals n l

module _ (w w' : Words) (same : Upto dues_at w w') where
  pub slot-low : (j : ℕ) (s : Slot) → suc j < dues_at → SlotAt w j s → SlotAt w' j s
  slot-low j empty l h = same j (omega arith) ∙ h
  slot-low j (full z) l h = (same j (omega arith) ∙ h.0, same (suc j) (omega arith) ∙ h.1)

  pub holds-low : {α : Valuation} → Holds w α → Holds w' α
  holds-low {α} h =
      record {
        cells = λ c l. slot-low (cell_slot c) (α (cell c)) (omega arith) (h.cells c l);
        locals = λ n l. slot-low (local_slot n) (α (local n)) (omega arith) (h.locals n l);
      }

  pub arrays-low : (D : Declared) → ArraysAt w D → ArraysAt w' D
  arrays-low D h a l = same (first_slot a) (omega arith) ∙ h a l

  pub tokens-low : SameTokens w w'
  tokens-low j h = same j (omega arith)
