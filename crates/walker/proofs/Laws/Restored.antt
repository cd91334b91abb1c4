-- The frame of a procedure comes back from a call's record, which is the topmost. Assumes nothing.
use Prim.Native.Nat.{ℕ, suc, ◌+◌, ◌-◌, ◌<◌, ◌≤◌}
use native.Mathlib.Omega.{arith}
use mathlib.Core.Path.{◌≡◌, refl, ◌∙◌, ap}
use mathlib.Core.List.{List, ◌∷◌}
use mathlib.Core.Logic.{◌⊎◌, inl, inr}
use mathlib.Core.Option.{some as just}
use lib.ListN.{length, get_or, set}
use Rattle.specification.specs.Value.{Valuation}
use Rattle.tables.specs.Layout.{cells_at, token_slot, path_at}
use Rattle.tables.specs.Codes.{call_code, procedure_code}
use Rattle.tables.specs.Frames.{frame_words, frame_slot, argument_slot, tags_at}
use Rattle.sheet.specs.Tables.{Words}
use Rattle.terms.specs.Environment.{flag_of}
use Rattle.terms.proofs.Laws.Here.{code_here}
use Rattle.search.specs.declared.Go.{Go}
use Rattle.search.specs.Kept.{FrameBack}
use Rattle.search.specs.Store.{Call}
use Rattle.search.specs.Frame.{Frame, called, top_of, store_in}
use Rattle.search.specs.Records.{at}
use Rattle.search.specs.Path.{World, Path}
use Rattle.search.specs.Registers.{drop_go}
use Rattle.search.proofs.Pending.{with-same}
use Rattle.search.proofs.Paths.{top-few}
use Rattle.search.proofs.RecordsKept.{top-low}
use Rattle.search.proofs.Stripped.{stripped}
use Rattle.search.proofs.Tops.{top-call}
use Rattle.search.proofs.Leave.{call-number, call-width}
use Rattle.walker.specs.Climbing.{OfCode}
use Rattle.walker.specs.Frames.{Flagged, Refilled, Slots, Refills, Reflags, Restores, top_number, top_width, Left}
use Rattle.walker.proofs.Laws.Headed.{Headed, headed}

-- where the set is the frame's own, the first words are right already
pub flagged-same : {w : Words} {K n : ℕ} (s : ℕ) → Reflags w K n → s ≡ tags_at w K → Flagged w w K s n
flagged-same s r e = record { words = λ j h. rw e (r.flags j h); others = λ k h. refl; size = refl }

-- ---- the three steps back

module _ {w w1 w2 w3 : Words} {K n from back call tags : ℕ} (r : Restores w K n from) (f : Flagged w w1 K tags n) (d : Headed w1 w2 K back call tags)
    (q : Refilled w2 w3 K from n) where
  slots : Slots w K n
  slots = r.reflags.slots

  slot-others : (j : ℕ) → (j < argument_slot K 0) ⊎ (frame_slot K + frame_words ≤ j) → (i : ℕ) → i < n → (¬ (j ≡ argument_slot K i)) × (¬ (j ≡ argument_slot K i + 1))
  slot-others j (inl h) i l = ((λ z. omega arith), (λ z. omega arith))
  slot-others j (inr h) i l = let few = slots.few in ((λ z. omega arith), (λ z. omega arith))

  -- a word of no argument's slot
  outer : (j : ℕ) → (j < argument_slot K 0) ⊎ (frame_slot K + frame_words ≤ j) → get_or w3 j 0 ≡ get_or w2 j 0
  outer j h = q.others j (λ i l. (slot-others j h i l).1)

  first-outer : (j : ℕ) → (j < argument_slot K 0) ⊎ (frame_slot K + frame_words ≤ j) → get_or w1 j 0 ≡ get_or w j 0
  first-outer j h = f.others j (λ i l. (slot-others j h i l).0)

  -- a word of the record
  record-kept : (j : ℕ) → from ≤ j → get_or w1 j 0 ≡ get_or w j 0
  record-kept j h = first-outer j (inr (omega (arith, r.low, slots.procedure)))

  others-kept : (j : ℕ) → (j ≤ frame_slot K) ⊎ (frame_slot K + frame_words ≤ j) → get_or w3 j 0 ≡ get_or w j 0
  others-kept j (inl h) = outer j (inl (omega arith)) ∙ d.others j (inl h) ∙ first-outer j (inl (omega arith))
  others-kept j (inr h) = outer j (inr h) ∙ d.others j (inr (omega arith)) ∙ first-outer j (inr h)

  pub restored : tags ≡ get_or w (from + n) 0 → back ≡ get_or w (from + n + 1) 0 → call ≡ get_or w (from + n + 2) 0 → FrameBack w w3 K n from
  restored et eb ec = record {
    others = others-kept;
    tags = outer (frame_slot K + 3) (inl (omega arith)) ∙ d.tags_is ∙ et;
    back = outer (frame_slot K + 1) (inl (omega arith)) ∙ d.back_is ∙ eb;
    token = outer (frame_slot K + 2) (inl (omega arith)) ∙ d.call_is ∙ ec;
    words = λ j h. q.words j h ∙ d.others (from + j) (inr (omega (arith, r.low, slots.procedure))) ∙ record-kept (from + j) (omega arith);
    flags = λ j h. q.others (argument_slot K j) (λ i l z. omega arith) ∙ d.others (argument_slot K j) (inr (omega arith)) ∙ f.words j h ∙ ap (λ s. flag_of s j) et;
    size = q.size ∙ d.size ∙ f.size;
  }

pub restored-all : {w w1 w2 w3 : Words} {K n from tags back call : ℕ} → Restores w K n from → tags ≡ get_or w (from + n) 0 → back ≡ get_or w (from + n + 1) 0 →
    call ≡ get_or w (from + n + 2) 0 → Flagged w w1 K tags n → w2 ≡ set (set (set w1 (frame_slot K + 1) back) (frame_slot K + 2) call) (frame_slot K + 3) tags →
    Refilled w2 w3 K from n → FrameBack w w3 K n from
restored-all {w1 = w1} {K = K} {tags = tags} {back = back} {call = call} r et eb ec f e q =
    let s = r.reflags.slots in
    restored r f (headed w1 K back call tags (omega (arith, s.procedure, s.size, f.size)) e) q et eb ec

-- the words that the slots are filled from are there after the first two steps
pub refills : {w w1 w2 : Words} {K n from : ℕ} (tags back call : ℕ) → Restores w K n from → Flagged w w1 K tags n →
    w2 ≡ set (set (set w1 (frame_slot K + 1) back) (frame_slot K + 2) call) (frame_slot K + 3) tags → Refills w2 K n from
refills {w1 = w1} {K = K} tags back call r f e =
    let s = r.reflags.slots in
    let size = (headed w1 K back call tags (omega (arith, s.procedure, s.size, f.size)) e).size ∙ f.size in
    record {
      slots = record { procedure = s.procedure; few = s.few; size = omega (arith, s.size) };
      low = r.low;
      inside = omega (arith, r.inside);
    }

-- ---- the topmost record is a call's

pub record Leaving (w : Words) (g : Go) : Type 0 where
  pub restores : Restores w (top_number w g) (top_width w g) (g.top - 4 - top_width w g)
  pub high : path_at + top_width w g + 4 ≤ g.top
  pub code : procedure_code ≤ at w (at w (g.top - 1) + 4)
  pub low : at w (g.top - 1) < cells_at

module _ {c : World} {w : Words} {top : ℕ} {α : Valuation} {C : Call} {β : Valuation} {fr : List Frame} (P : Path c w top α (called C β ∷ fr)) where
  abbrev K : ℕ
  K = C.level.number

  abbrev n : ℕ
  n = length C.level.arguments

  low-top : path_at + n + 4 ≤ top
  low-top = omega (arith, P.ends, top-low fr)

  top-restores : Restores w K n (top - 4 - n)
  top-restores =
      let st = (P.stored.calls K C (with-same (store_in fr).calls K (just C))).2 in
      let q = P.stack.0 in
      let few = top-few c.declared c.tables w (called C β ∷ fr) P.stack in
      let z = P.inside in
      let size : top ≤ length w = omega (arith, P.ends, few, P.tables.size) in
      record {
        reflags = record {
          slots = record { procedure = q.earlier; few = q.few; size = omega (arith, low-top) };
          flags = λ j h. st.flags j (omega (arith, st.calls.count));
        };
        low = omega (arith, low-top);
        inside = omega (arith, low-top);
      }

  top-code : at w (at w (top - 1) + 4) ≡ procedure_code + n
  top-code =
      let q = P.stack.0 in
      let z : top - 1 ≡ top_of fr + n + 3 = omega (arith, P.ends) in
      let token = ap (at w) z ∙ q.token in
      let e : at w (top - 1) + 4 ≡ token_slot (suc C.token) = omega (arith, token) in
      ap (at w) e ∙ code_here c.tables w P.tables.tokens q.small ∙ q.width

  leaving-at : {g : Go} → g.top ≡ top → at w (top - 1) < cells_at → Leaving w g
  leaving-at {g} e low =
      let k-is : top_number w g ≡ K = rw e (call-number P) in
      let n-is : top_width w g ≡ n = rw e (call-width P) in
      record {
        restores = rw (k-is, n-is, e) top-restores;
        high = rw (n-is, e) low-top;
        code = rw e (omega (arith, top-code));
        low = rw e low;
      }

pub leaving : {w : Words} {g : Go} → OfCode w g call_code → Leaving w g
leaving {w} {g} o =
    let t = o.top in
    let s = stripped t.c w g.top t.α (λ fr. Unit {0}) (λ β fr u. u) t.fr t.path tt in
    top-call (λ fr. Leaving w g) t.some o.low o.code (λ C β fr P. leaving-at P refl o.low) s.fr s.bare s.path

-- what is read of it by the call's token t
module _ (w : Words) (g : Go) (t : ℕ) {a : ℕ} (et : t ≡ at w (g.top - 1)) (ea : a ≡ at w (t + 4)) where
  code_is : a ≡ at w (at w (g.top - 1) + 4)
  code_is = ea ∙ ap (λ j. at w (j + 4)) et

  width_is : a - procedure_code ≡ top_width w g
  width_is = ap (λ j. j - procedure_code) code_is

  pub leaving-code : Leaving w g → procedure_code ≤ a
  leaving-code v = omega (arith, v.code, code_is)

  pub leaving-high : Leaving w g → path_at + (a - procedure_code) + 4 ≤ g.top
  leaving-high v = omega (arith, v.high, width_is)

  number_is : {k : ℕ} → k ≡ at w (t + 4 + 1) → k ≡ top_number w g
  number_is ek = let e : t + 4 + 1 ≡ at w (g.top - 1) + 5 = omega arith in ek ∙ ap (at w) e

  pub leaving-restores : {k : ℕ} → k ≡ at w (t + 4 + 1) → Leaving w g → Restores w k (a - procedure_code) (g.top - 4 - (a - procedure_code))
  leaving-restores ek v = rw (number_is ek, width_is) v.restores

  pub left : {w' : Words} {k : ℕ} {q : Go} → k ≡ at w (t + 4 + 1) → FrameBack w w' k (a - procedure_code) (g.top - 4 - (a - procedure_code)) →
      q ≡ drop_go g (g.top - 4 - (a - procedure_code)) g.inner → Left w w' g q
  left ek f e = record { back = rw (number_is ek, width_is) at f; regs = rw width_is at e }
