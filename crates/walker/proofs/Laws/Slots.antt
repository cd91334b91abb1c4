-- What the words of locals hold where a quantifier is visited: the flag of a slot, and the last value of an `all` that goes on.
-- A store of a last value. Assumes nothing.
use Prim.Native.Nat.{ℕ, ◌+◌, ◌≤◌, ◌<◌}
use native.Mathlib.Omega.{arith}
use native.Mathlib.Numerals.{add-one}
use mathlib.Core.Path.{◌≡◌, ◌∙◌, ap, subst}
use mathlib.Core.List.{List}
use lib.ListN.{length, get_or, set, length-set}
use lib.Seq.{get_or-set_same, get_or-set_other}
use Rattle.specification.specs.Bytes.{Bytes}
use Rattle.specification.specs.Place.{local}
use Rattle.values.proofs.Laws.Word.{biased-signed}
use Rattle.tables.specs.Layout.{local_slot, last_slot, last_at, path_at, max_locals}
use Rattle.tables.specs.Codes.{local_code}
use Rattle.sheet.specs.Tables.{Words}
use Rattle.sheet.specs.Held.{SlotAt, slot_of}
use Rattle.terms.proofs.Laws.Here.{operand-kept}
use Rattle.search.specs.declared.Go.{Go}
use Rattle.search.specs.Kept.{Lasts, Pushes}
use Rattle.search.specs.Path.{World}
use Rattle.search.specs.Sim.{In}
use Rattle.search.specs.Steps.{Entered}
use Rattle.search.proofs.Slots.{slot_held}
use Rattle.search.proofs.Heads.{at_again}
use Rattle.search.proofs.Binders.{slot_kept}

-- a flag is 0 or 1
pub flag_small : {c : World} {b : Bytes} {w : Words} {g : Go} → In c b w g → (l : ℕ) → l < max_locals → get_or w (local_slot l) 0 ≤ 1
flag_small i l h = (slot_kept i (local l) h).flag

-- the value of an `all`'s local is at most its last
pub again-order : {w : Words} {g : Go} → Entered w g local_code →
    get_or w (local_slot (get_or w (g.due + 1) 0) + 1) 0 ≤ last_at w (get_or w (g.due + 1) 0)
again-order {w} x =
    let i = x.at.ins in
    let r = at_again i x.code in
    let a = r.form in
    let local-is = ap (λ d. get_or w (d + 1) 0) a.place ∙ operand-kept _ w i.path.tables.tokens a.binds.local.0 a.binds.local.1 in
    let held = subst (SlotAt w (slot_of (local r.l))) a.left.value (slot_held w i.α i.path.holds (local r.l) a.binds.small) in
    let value-is = held.1 ∙ biased-signed a.left.current in
    rw (local-is, add-one (local_slot r.l), value-is, i.path.stored.lasts r.l a.binds.small) a.left.after.order

-- one last value is stored, after a record
pub lasts-pushed : {w v w' : Words} {top : ℕ} {xs : List ℕ} → Pushes w v top xs → (l h : ℕ) → l < max_locals → path_at ≤ length w →
    w' ≡ set v (last_slot l) h → Lasts v w' l h
lasts-pushed {v = v} p l h small room e = rw e (record {
  others = λ j n. get_or-set_other v (last_slot l) j h 0 n;
  now = get_or-set_same v (last_slot l) h 0 (omega (arith, p.size));
  size = length-set v (last_slot l) h;
})
