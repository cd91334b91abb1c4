-- The step into an `eq` that gives a place a value, if the place may have it. Assumes nothing.
use Prim.Native.Nat.{ℕ, ◌+◌, ◌≤◌, ◌<◌}
use native.Mathlib.Omega.{arith}
use mathlib.Core.Path.{◌≡◌, refl, sym, ◌∙◌, ap, subst}
use mathlib.Core.Bool.{true, false}
use mathlib.Core.List.{List, [], ◌∷◌}
use mathlib.Core.Logic.{⊎_elim}
use lib.ListN.{length, get_or, set}
use lib.Dec.{T}
use Rattle.specification.specs.Bytes.{Bytes}
use Rattle.specification.specs.Number.{in32}
use Rattle.specification.specs.Lines.{Declared}
use Rattle.specification.specs.Place.{Place, cell, local}
use Rattle.specification.specs.Value.{empty, full, Valuation, allowed}
use Rattle.specification.proofs.Laws.Parser.{T_true}
use Rattle.values.specs.Word.{signed}
use Rattle.values.proofs.Laws.Word.{biased-signed, signed-in32}
use Rattle.tables.specs.Layout.{path_at}
use Rattle.tables.specs.Leaves.{failure_place}
use Rattle.tables.specs.Ranges.{allows}
use Rattle.tables.proofs.Laws.Ranges.{allows-every, allows-local}
use Rattle.sheet.specs.Tables.{Words}
use Rattle.sheet.specs.Held.{slot_of}
use Rattle.search.specs.declared.Go.{Go}
use Rattle.search.specs.Marks.{InTable, Known}
use Rattle.search.specs.Kept.{Pushes}
use Rattle.search.specs.Site.{after_given}
use Rattle.search.specs.Frame.{Frame, the, failure, site_in, store_in}
use Rattle.search.specs.Records.{at, Saved, SlotRecord}
use Rattle.search.specs.Path.{World, Path}
use Rattle.search.specs.Sim.{In}
use Rattle.search.specs.Registers.{down_go}
use Rattle.search.specs.Steps.{Stepped, OneLeaf}
use Rattle.search.proofs.Sites.{site-local, after-marked}
use Rattle.search.proofs.Pending.{pend-given}
use Rattle.search.proofs.Slots.{in_table, saved-here, Altered, alter}
use Rattle.search.proofs.Changes.{kept-both, pushed-kept, pushed-slots, pushed-store, altered-kept, altered-store}
use Rattle.search.proofs.Descent.{down-given}
use Rattle.search.proofs.Simple.{stepped, top-low, top-room}
use Rattle.search.proofs.Binders.{slot_kept, slot-record-keep}
use Rattle.walker.specs.Steps.{Assigning}

-- the place's mark allows the values that the place may have
mark-allows : {c : World} {w : Words} {top : ℕ} {α : Valuation} {fr : List Frame} → Path c w top α fr → (p : Place) (v : ℕ) → Known c.declared p →
    α p ≡ empty → v < 4294967296 → allows w (get_or w (slot_of p + 1) 0) v ≡ allowed c.declared p (signed v)
mark-allows {w = w} P (cell x) v k none h =
    ap (λ (m : ℕ). allows w m v) (P.marks (cell x) k.1 none) ∙ ap (allows w _) (sym (biased-signed v)) ∙
    P.tables.ranges.allowed x k.0 (signed v) (signed-in32 v h)
mark-allows {w = w} {fr = fr} P (local l) v k none h =
    ap (λ (m : ℕ). allows w m v) (P.marks (local l) k none) ∙
    ⊎_elim (λ e. ap (λ (m : ℕ). allows w m v) e ∙ allows-every w v) (λ z. allows-local w v ((site_in fr).marks (local l)) z) (site-local fr l) ∙
    sym (T_true (in32 (signed v)) (signed-in32 v h))

known_in : (D : Declared) (p : Place) → Known D p → InTable p
known_in D (cell c) k = k.1
known_in D (local l) k = k

module _ {w : Words} {g : Go} {slot value : ℕ} (x : Assigning w g slot value) where
  allowed-is : {c : World} {b : Bytes} (i : In c b w g) → allows w (get_or w (slot + 1) 0) value ≡ allowed c.declared (x.assigns c b i).place (signed value)
  allowed-is {c} {b} i = let a = x.assigns c b i in rw a.slot_is (mark-allows i.path a.place value a.known a.bare x.fits)

  -- the slot lies in the tables, and the words are there
  pub slot-near : (slot + 1 < path_at) × (path_at ≤ length w)
  slot-near =
      let i = x.at.ins in
      let a = x.assigns x.at.c x.at.b i in
      let z = in_table a.place (known_in x.at.c.declared a.place a.known) in
      (omega (arith, a.slot_is, z.high), omega (arith, top-low i, top-room i))

  pub assign-fails : allows w (get_or w (slot + 1) 0) value ≡ false → OneLeaf w g failure_place
  assign-fails e = record { at = x.at; son = λ c b i. (failure, (x.assigns c b i).tree_is ∙ rw (sym (allowed-is i) ∙ e), refl) }

  pub assign-down : allows w (get_or w (slot + 1) 0) value ≡ true → {mid w' : Words} → Pushes w mid g.top (get_or w (slot + 1) 0 ∷ g.inner ∷ slot ∷ []) →
      w' ≡ set (set mid slot 1) (slot + 1) value → {inner : ℕ} → inner ≡ after_given (get_or w (slot + 1) 0) g.inner → {q : Go} →
      q ≡ down_go g (get_or w (g.due + 3) 0) (g.top + 3) inner g.bad → Stepped w w' g q
  assign-down may {mid} {w'} p words n e = stepped x.at e (λ c b i.
      let a = x.assigns c b i in
      let D = c.declared in
      let P = i.path in
      let pl = a.place in
      let h = known_in D pl a.known in
      let low = top-low i in
      let room = top-room i in
      let slot_is = a.slot_is in
      let new : Saved 1 value (full (signed value)) = (refl, sym (biased-signed value)) in
      let al : Altered mid w' pl (full (signed value)) = alter mid pl 1 value slot_is h (omega (arith, p.size)) words (full (signed value)) new in
      let ok : allowed D pl (signed value) ≡ true = sym (allowed-is i) ∙ may in
      let none : at w (slot_of pl) ≡ 0 = subst (λ s. Saved (at w (slot_of pl)) (at w (slot_of pl + 1)) s) a.bare (saved-here w i.α P.holds pl h) in
      let z0 : g.top + 0 ≡ g.top = omega arith in
      let rec : SlotRecord D mid g.top pl (site_in i.fr) i.α = record {
        had = at w (slot_of pl);
        kept = rw (rw z0 at (p.words 0 (omega arith)) ∙ ap (λ s. at w (s + 1)) slot_is) (slot_kept i pl h);
        inner = p.words 1 (omega arith) ∙ i.inner;
        slot = p.words 2 (omega arith) ∙ omega (arith, slot_is, none);
      } in
      down-given i pl (signed value) h (subst T (sym ok) tt) (kept-both (pushed-kept p low) (altered-kept h al g.top)) (pushed-slots p low) al
      (record { same = λ j k m. (altered-store h al).same j k m ∙ (pushed-store p low).same j k m })
      (slot-record-keep i pl h al rec) (the a.is) (a.tree_is ∙ rw ok)
      (record {
        m = a.next.m;
        next = a.next.next;
        place = a.next.place;
        rest = pend-given D c.tables (store_in i.fr) i.α pl (signed value) a.bare a.next.m a.next.next a.is a.next.rest;
      })
      (n ∙ rw (slot_is, P.marks pl h a.bare, i.inner) (after-marked D P.tables.ranges.low i.fr pl)))
