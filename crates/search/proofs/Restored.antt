-- Going up: a record that keeps a slot is gone, and the slot is as it was. Assumes nothing.
use Prim.Native.Nat.{ℕ, ◌+◌, ◌-◌, ◌*◌, ◌/◌, ◌%◌, ◌≤◌, ◌<◌}
use native.Mathlib.Omega.{arith}
use mathlib.Core.Path.{◌≡◌, refl, sym, ◌∙◌, ap, subst}
use mathlib.Core.List.{List, ◌∷◌}
use lib.ListN.{length, get_or, set}
use Rattle.specification.specs.declared.Setting.{Setting}
use Rattle.specification.specs.Bytes.{Bytes}
use Rattle.specification.specs.Place.{Place, local, put}
use Rattle.specification.specs.Value.{Slot, full, Valuation}
use Rattle.specification.proofs.Laws.Place.{put_other}
use Rattle.tables.specs.Layout.{cells_at, firsts_at, path_at}
use Rattle.tables.specs.Kept.{SameSlots}
use Rattle.sheet.specs.Tables.{Words}
use Rattle.sheet.specs.Held.{slot_of, Holds}
use Rattle.search.specs.Marks.{marks_in, Marks}
use Rattle.search.specs.declared.Go.{Go}
use Rattle.search.specs.Records.{had_unit}
use Rattle.search.specs.Kept.{Kept}
use Rattle.search.specs.Frame.{Frame, here, below, size_of, top_of, site_in, store_in}
use Rattle.search.specs.Records as records
use Rattle.search.specs.Records.{at, SlotRecord}
use Rattle.search.specs.Path.{World, Stored, Path}
use Rattle.search.specs.Sim.{yes, no, Up, Yes, up}
use Rattle.search.specs.Registers.{drop_go}
use Rattle.search.specs.Climb.{Rises, Rose, Wins, Fell}
use Rattle.search.proofs.RecordsKept.{top-low}
use Rattle.search.proofs.Sites.{bound-other}
use Rattle.search.proofs.Slots.{in_table, holds-keep, holds-back, marks-keep, marks-off, altered-marks, Altered, second_word, alter}
use Rattle.search.proofs.Changes.{kept_refl, kept-both, altered-kept, altered-store}
use Rattle.search.proofs.Paths.{path-pop, stored-keep}
use Rattle.search.proofs.Stripped.{Left, up-strip, yes-strip}
use Rattle.search.proofs.Tops.{top-undo}

-- ---- the path without its topmost frame, whose slot is put back

module _ {c : World} {w : Words} {top : ℕ} {α : Valuation} {f : Frame} {fr : List Frame} (P : Path c w top α (f ∷ fr)) where
  pub words-there : path_at ≤ length w
  words-there = omega (arith, P.tables.size)

  -- the words mid are w, but for the store
  module _ {mid w' : Words} {slot : ℕ} (p : Place) (s : Slot) (had old : ℕ) (b : below f ≡ put (here f) p s) (k : records.Kept c.declared had old p (site_in fr) (here f))
      (off : (q : Place) → ¬ (q ≡ p) → (site_in (f ∷ fr)).marks q ≡ (site_in fr).marks q) (e : slot ≡ slot_of p) (m : Kept (top_of fr) w mid)
      (same : (j : ℕ) → cells_at ≤ j → j < firsts_at → get_or mid j 0 ≡ get_or w j 0) (words : w' ≡ set (set mid slot had) (slot + 1) old) where
    put_back : Altered mid w' p (here f p)
    put_back = alter mid p had old e k.inside (omega (arith, m.size, words-there)) words (here f p) k.saved

    pub back-kept : Kept (top_of fr) w w'
    back-kept = kept-both m (altered-kept k.inside put_back (top_of fr))

    pub back-path : Stored c w' (store_in fr) → Path c w' (top_of fr) (here f) fr
    back-path st =
        let slots : SameSlots w mid = record { same = same } in
        let β = here f in
        let under : α ≡ put β p s = P.chain.0 ∙ b in
        path-pop P back-kept
        (holds-back put_back k.inside β s refl (holds-keep slots (subst (Holds w) under P.holds)))
        (altered-marks put_back k.inside (put β p s) β (marks_in c.declared (site_in (f ∷ fr)).marks) (marks_in c.declared (site_in fr).marks)
        (marks-keep slots (subst (λ γ. Marks w γ (marks_in c.declared (site_in (f ∷ fr)).marks)) under P.marks)) (λ q n. sym (put_other β p s q n))
        (marks-off c.declared p (λ q n. sym (off q n)))
        (λ none. second_word mid p had old e k.inside (omega (arith, m.size, words-there)) words ∙ k.mark none)) st

-- ---- a slot that was changed

-- the two parts of a record's last word
parts : (x s had : ℕ) → x ≡ s + had_unit * had → had ≤ 1 → s < had_unit → (x % had_unit ≡ s) × (x / had_unit ≡ had)
parts x s had e h l = (omega arith, omega arith)

module _ {c : World} {w w' : Words} {top : ℕ} {α : Valuation} {f : Frame} {fr : List Frame} (P : Path c w top α (f ∷ fr)) (p : Place) (s : Slot)
    (b : below f ≡ put (here f) p s) (size : size_of f ≡ 3) (q : SlotRecord c.declared w (top_of fr) p (site_in fr) (here f))
    (off : (r : Place) → ¬ (r ≡ p) → (site_in (f ∷ fr)).marks r ≡ (site_in fr).marks r) (st : store_in (f ∷ fr) ≡ store_in fr)
    (words : w' ≡ set (set w (at w (top - 1) % had_unit) (at w (top - 1) / had_unit)) (at w (top - 1) % had_unit + 1) (at w (top - 3))) where
  last-is : at w (top - 1) ≡ slot_of p + had_unit * q.had
  last-is = let z : top - 1 ≡ top_of fr + 2 = omega (arith, P.ends) in ap (at w) z ∙ q.slot

  slot-parts : (at w (top - 1) % had_unit ≡ slot_of p) × (at w (top - 1) / had_unit ≡ q.had)
  slot-parts = let z = in_table p q.kept.inside in parts (at w (top - 1)) (slot_of p) q.had last-is q.kept.flag (omega (arith, z.high))

  old-is : at w (top - 3) ≡ at w (top_of fr)
  old-is = let z : top - 3 ≡ top_of fr = omega (arith, P.ends) in ap (at w) z

  pub undone-inner : at w (top - 2) ≡ (site_in fr).inner
  undone-inner = let z : top - 2 ≡ top_of fr + 1 = omega (arith, P.ends) in ap (at w) z ∙ q.inner

  pub undone-path : Path c w' (top_of fr) (here f) fr
  undone-path =
      let ws : w' ≡ set (set w (slot_of p) q.had) (slot_of p + 1) (at w (top_of fr)) = words ∙ rw (slot-parts.0, slot-parts.1, old-is) refl in
      back-path P p s q.had (at w (top_of fr)) b q.kept off refl (kept_refl (top_of fr) w) (λ j k m. refl) ws
      (stored-keep (altered-store q.kept.inside (alter w p q.had (at w (top_of fr)) refl q.kept.inside (words-there P) ws (here f p) q.kept.saved))
      (rw st at P.stored))

-- ---- the step up past it

-- a finished son, once more, below
module _ {c : World} {b : Bytes} {w w' : Words} {g : Go} (u : Up c b w g) {top inner : ℕ} where
  pub up-again : {β : Valuation} {fr : List Frame} → Path c w' top β fr → inner ≡ (site_in fr).inner → no c fr u.e g.tallies b ≡ c.result →
      Up c b w' (drop_go g top inner)
  up-again {β} {fr} P n r = record {
    fr = fr;
    α = β;
    e = u.e;
    path = P;
    inner = n;
    bad = u.bad;
    counted = u.counted;
    tallies = record { fits = u.tallies.fits; budget = u.tallies.budget; leaves = u.tallies.leaves };
    result = r;
  }

module _ {c : World} {b : Bytes} {w w' : Words} {g : Go} (u : Yes c b w g) {top inner : ℕ} where
  pub yes-again : {β : Valuation} {fr : List Frame} → Path c w' top β fr → yes c fr g.tallies b ≡ c.result → Yes c b w' (drop_go g top inner)
  yes-again {β} {fr} P r = record {
    fr = fr;
    α = β;
    path = P;
    counted = u.counted;
    tallies = record { fits = u.tallies.fits; budget = u.tallies.budget; leaves = u.tallies.leaves };
    result = r;
  }

top-three : {c : World} {w : Words} {top : ℕ} {α : Valuation} {f : Frame} {fr : List Frame} → Path c w top α (f ∷ fr) → size_of f ≡ 3 → top - 3 ≡ top_of fr
top-three P e = omega (arith, P.ends)

-- from the invariant of a path that has a record
pub rose : {w w' : Words} {g q : Go} {top inner : ℕ} {setting : Setting} → Rises w g setting → q ≡ drop_go g top inner → top < g.top →
    ((c : World) (b : Bytes) → Up c b w g → Up c b w' (drop_go g top inner)) → Rose w w' g q setting
rose r e h f = rw e (record {
  sim = λ c b s u. up r.mode (f c b u);
  nodes = refl;
  counted = r.up.counted;
  falls = λ m. h;
})

pub fell : {w w' : Words} {g q : Go} {top inner : ℕ} → q ≡ drop_go g top inner → top < g.top →
    ((c : World) (b : Bytes) → Yes c b w g → Yes c b w' (drop_go g top inner)) → Fell w w' g q
fell e h f = rw e (record { yes = f; nodes = refl; falls = h })

module _ {w w' : Words} {g : Go} (some : ¬ (g.top ≡ path_at)) (slot : cells_at ≤ at w (g.top - 1))
    (words : w' ≡ set (set w (at w (g.top - 1) % had_unit) (at w (g.top - 1) / had_unit)) (at w (g.top - 1) % had_unit + 1) (at w (g.top - 3))) where
  undo-up : (c : World) (b : Bytes) → Up c b w g → Up c b w' (drop_go g (g.top - 3) (at w (g.top - 2)))
  undo-up c b u =
      let s = up-strip c u in
      top-undo (λ fr. Left c b g u.e fr → Up c b w' (drop_go g (g.top - 3) (at w (g.top - 2)))) some slot
      (λ l x β fr P q.
      up-again u {β = β} {fr = fr} (rw (top-three P refl) (undone-path P (local l) x refl refl P.stack.0 (bound-other l (site_in fr)) refl words))
      (undone-inner P (local l) x refl refl P.stack.0 (bound-other l (site_in fr)) refl words) q.1)
      (λ p v β fr P q.
      up-again u {β = β} {fr = fr} (rw (top-three P refl) (undone-path P p (full v) refl refl P.stack.0 (λ r n. refl) refl words))
      (undone-inner P p (full v) refl refl P.stack.0 (λ r n. refl) refl words) q.1)
      s.fr s.bare s.path s.said

  undo-yes : (c : World) (b : Bytes) → Yes c b w g → Yes c b w' (drop_go g (g.top - 3) (at w (g.top - 2)))
  undo-yes c b u =
      let s = yes-strip c u in
      top-undo (λ fr. yes c fr g.tallies b ≡ c.result → Yes c b w' (drop_go g (g.top - 3) (at w (g.top - 2)))) some slot
      (λ l x β fr P q. yes-again u {β = β} {fr = fr} (rw (top-three P refl) (undone-path P (local l) x refl refl P.stack.0 (bound-other l (site_in fr)) refl words)) q)
      (λ p v β fr P q. yes-again u {β = β} {fr = fr} (rw (top-three P refl) (undone-path P p (full v) refl refl P.stack.0 (λ r n. refl) refl words)) q)
      s.fr s.bare s.path s.said

  pub rose-undone : {setting : Setting} {q : Go} → Rises w g setting → q ≡ drop_go g (g.top - 3) (at w (g.top - 2)) → Rose w w' g q setting
  rose-undone r e = rose r e (let z = r.up.path.ends in omega (arith, top-low r.up.fr)) undo-up

  pub fell-undone : {q : Go} (u : Wins w g) → q ≡ drop_go g (g.top - 3) (at w (g.top - 2)) → Fell w w' g q
  fell-undone u e = fell e (let z = u.yes.path.ends in omega (arith, top-low u.yes.fr)) undo-yes
