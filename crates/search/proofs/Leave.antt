-- Going up: the topmost record is a call's, and its procedure's frame is as the call found it. Assumes nothing.
use Prim.Native.Nat.{ℕ, suc, ◌+◌, ◌-◌, ◌≤◌, ◌<◌}
use native.Mathlib.Omega.{arith}
use mathlib.Core.Path.{◌≡◌, refl, sym, ◌∙◌, ap, subst}
use mathlib.Core.Bool.{Bool, true, false}
use mathlib.Core.List.{List, ◌∷◌}
use mathlib.Core.Logic.{◌⊎◌, inl, inr}
use mathlib.Core.Option.{some as just}
use lib.ListN.{length}
use lib.Dec.{eqb, leb}
use borrow.Author.Tests.{eqb-true, eqb-false, leb-true, leb-false}
use Rattle.specification.specs.declared.Setting.{Setting}
use Rattle.specification.specs.Bytes.{Bytes}
use Rattle.specification.specs.Value.{Valuation}
use Rattle.tables.specs.Layout.{cells_at, token_slot, path_at, max_procs}
use Rattle.tables.specs.Kept.{SameSlots}
use Rattle.tables.specs.Codes.{call_code, procedure_code}
use Rattle.sheet.specs.Tables.{Words}
use Rattle.sheet.specs.Held.{Holds}
use Rattle.terms.proofs.Laws.Here.{code_here, operand-here}
use Rattle.search.specs.Marks.{marks_in, Marks}
use Rattle.search.specs.declared.Go.{Go}
use Rattle.tables.specs.Frames.{frame_words, frame_slot}
use Rattle.search.specs.Kept.{Kept, FrameBack}
use Rattle.search.specs.Store.{Call, Store}
use Rattle.search.specs.Site.{Site}
use Rattle.search.specs.Frame.{Frame, called, top_of, site_in, store_in}
use Rattle.search.specs.Records.{at, FrameKept}
use Rattle.search.specs.Path.{World, Framed, Stored, Path}
use Rattle.search.specs.Sim.{yes, Up, Yes}
use Rattle.search.specs.Registers.{drop_go}
use Rattle.search.specs.Climb.{Rises, Rose, Wins, Fell}
use Rattle.search.proofs.Pending.{with-other}
use Rattle.search.proofs.RecordsKept.{top-low}
use Rattle.search.proofs.Slots.{holds-keep, marks-keep}
use Rattle.search.proofs.Paths.{framed-keep, path-pop}
use Rattle.search.proofs.Stripped.{Left, up-strip, yes-strip}
use Rattle.search.proofs.Tops.{top-call}
use Rattle.search.proofs.Restored.{up-again, yes-again, rose, fell}

-- the first word of a frame is no other word of a frame
pub frames-apart : (J K : ℕ) → (frame_slot J ≤ frame_slot K) ⊎ (frame_slot K + frame_words ≤ frame_slot J)
frames-apart J K = go (leb J K) refl
  where
    go : (b : Bool) → leb J K ≡ b → (frame_slot J ≤ frame_slot K) ⊎ (frame_slot K + frame_words ≤ frame_slot J)
    go true e = let h = leb-true J K e in inl (omega arith)
    go false e = let h = leb-false J K e in inr (omega arith)

-- the words of one procedure's frame are not those of another's
pub frames-other : (J K : ℕ) → ¬ (J ≡ K) → (j : ℕ) → j < frame_words → (frame_slot J + j ≤ frame_slot K) ⊎ (frame_slot K + frame_words ≤ frame_slot J + j)
frames-other J K off j h = go (leb J K) refl
  where
    go : (b : Bool) → leb J K ≡ b → (frame_slot J + j ≤ frame_slot K) ⊎ (frame_slot K + frame_words ≤ frame_slot J + j)
    go true e = let y = leb-true J K e in inl (omega arith)
    go false e = let y = leb-false J K e in inr (omega arith)

module _ {w w' : Words} {K n a : ℕ} (f : FrameBack w w' K n a) (small : K < max_procs) where
  back-kept : (top : ℕ) → Kept top w w'
  back-kept top = record {
    tokens = λ j k. f.others j (inl (omega arith));
    firsts = λ j k m. f.others j (inl (omega arith));
    returns = λ J k. f.others _ (frames-apart J K);
    leaves = λ j k m. f.others j (inr (omega arith));
    records = λ j k m. f.others j (inr (omega arith));
    size = f.size;
  }

  back-slots : SameSlots w w'
  back-slots = record { same = λ j k m. f.others j (inl (omega arith)) }

  -- the frame that was
  module _ {c : World} {u : Site} {σ : Store} {B : Call} (k : FrameKept c.declared c.tables w a u σ K n B) where
    back-framed : Framed c w' B
    back-framed = record {
      calls = k.calls;
      plain = k.plain;
      back = rw k.number f.back ∙ k.back;
      token = rw k.number f.token ∙ k.token;
      results = λ j h. rw (k.number, f.tags, f.words j (omega (arith, k.count, k.calls.count))) (k.results j h);
      flags = λ j h. rw (k.number, f.tags) (f.flags j (omega (arith, k.count, k.calls.count)));
    }

-- ---- the path without the call

module _ {c : World} {w : Words} {top : ℕ} {α : Valuation} {C : Call} {β : Valuation} {fr : List Frame} (P : Path c w top α (called C β ∷ fr)) where
  abbrev K : ℕ
  K = C.level.number

  abbrev n : ℕ
  n = length C.level.arguments

  left-stored : {w' : Words} → FrameBack w w' K n (top_of fr) → Stored c w' (store_in fr)
  left-stored {w'} f =
      let q = P.stack.0 in
      let st = P.stored in
      let σ = store_in fr in
      record {
        lasts = λ l h. f.others _ (inr (omega (arith, q.earlier))) ∙ st.lasts l h;
        calls = λ J B e. go J B e (eqb J K) refl;
      }
    where
      go : (J : ℕ) (B : Call) → (store_in fr).calls J ≡ just B → (b : Bool) → eqb J K ≡ b → (B.level.number ≡ J) × (J < max_procs) × Framed c w' B
      go J B e true z =
          let same = eqb-true J K z in
          let q = P.stack.0 in
          let k = q.kept B (ap (store_in fr).calls (sym same) ∙ e) in
          (k.number ∙ sym same, rw same q.earlier, back-framed f q.earlier k)
      go J B e false z =
          let off = eqb-false J K z in
          let r = P.stored.calls J B (with-other (store_in fr).calls K (just C) J off ∙ e) in
          (r.0, r.1, framed-keep B (record { same = λ j l h. f.others _ (rw r.0 (frames-other J K off j h)) }) r.2)

  left-path : {w' : Words} → FrameBack w w' K n (top_of fr) → Path c w' (top_of fr) β fr
  left-path {w'} f =
      let q = P.stack.0 in
      let s = back-slots f q.earlier in
      path-pop P (back-kept f q.earlier (top_of fr)) (holds-keep s (subst (Holds w) P.chain.0 P.holds))
      (marks-keep s (subst (λ γ. Marks w γ (marks_in c.declared (site_in fr).marks)) P.chain.0 P.marks)) (left-stored f)

  -- the procedure's number and the number of arguments, by the call's token
  call_token : at w (top - 1) ≡ token_slot C.token
  call_token = let z : top - 1 ≡ top_of fr + n + 3 = omega (arith, P.ends) in ap (at w) z ∙ P.stack.0.token

  pub call-number : at w (at w (top - 1) + 5) ≡ K
  call-number =
      let q = P.stack.0 in
      let e : at w (top - 1) + 5 ≡ token_slot (suc C.token) + 1 = omega (arith, call_token) in
      ap (at w) e ∙ operand-here c.tables w P.tables.tokens q.small ∙ q.number

  pub call-width : at w (at w (top - 1) + 4) - procedure_code ≡ n
  call-width =
      let q = P.stack.0 in
      let e : at w (top - 1) + 4 ≡ token_slot (suc C.token) = omega (arith, call_token) in
      let z : at w (at w (top - 1) + 4) ≡ procedure_code + n = ap (at w) e ∙ code_here c.tables w P.tables.tokens q.small ∙ q.width in
      omega arith

  left_at : {w' : Words} {k m from : ℕ} → k ≡ at w (at w (top - 1) + 5) → m ≡ at w (at w (top - 1) + 4) - procedure_code → from ≡ top - 4 - m →
      FrameBack w w' k m from → Path c w' from β fr
  left_at {w'} ek em ef f =
      let k-is = ek ∙ call-number in
      let m-is = em ∙ call-width in
      let from_is = ef ∙ ap (λ j. top - 4 - j) m-is ∙ (let z : top - 4 - n ≡ top_of fr = omega (arith, P.ends) in z) in
      rw from_is (left-path (rw (k-is, m-is, from_is) at f))

-- ---- the steps

module _ {w w' : Words} {g : Go} (some : ¬ (g.top ≡ path_at)) (low : at w (g.top - 1) < cells_at) (code : at w (at w (g.top - 1)) ≡ call_code) {k m from : ℕ}
    (ek : k ≡ at w (at w (g.top - 1) + 5)) (em : m ≡ at w (at w (g.top - 1) + 4) - procedure_code) (ef : from ≡ g.top - 4 - m) (f : FrameBack w w' k m from) where
  leave-up : (c : World) (b : Bytes) → Up c b w g → Up c b w' (drop_go g from g.inner)
  leave-up c b u =
      let s = up-strip c u in
      top-call (λ fr. Left c b g u.e fr → Up c b w' (drop_go g from g.inner)) some low code
      (λ C β fr P left. up-again u {β = β} {fr = fr} (left_at P ek em ef f) left.0 left.1) s.fr s.bare s.path s.said

  leave-yes : (c : World) (b : Bytes) → Yes c b w g → Yes c b w' (drop_go g from g.inner)
  leave-yes c b u =
      let s = yes-strip c u in
      top-call (λ fr. yes c fr g.tallies b ≡ c.result → Yes c b w' (drop_go g from g.inner)) some low code
      (λ C β fr P r. yes-again u {β = β} {fr = fr} (left_at P ek em ef f) r) s.fr s.bare s.path s.said

  pub rose-left : {setting : Setting} {q : Go} → Rises w g setting → q ≡ drop_go g from g.inner → Rose w w' g q setting
  rose-left r e = rose r e (let z = r.up.path.ends in omega (arith, top-low r.up.fr)) leave-up

  pub fell-left : {q : Go} → Wins w g → q ≡ drop_go g from g.inner → Fell w w' g q
  fell-left u e = fell e (let z = u.yes.path.ends in omega (arith, top-low u.yes.fr)) leave-yes
