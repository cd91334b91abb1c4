-- Going up: the topmost record is an `all`'s, whose local's slot and last value are as they were. Assumes nothing.
use Prim.Native.Nat.{ℕ, suc, ◌+◌, ◌-◌, ◌≤◌, ◌<◌}
use native.Mathlib.Omega.{arith}
use mathlib.Core.Path.{◌≡◌, refl, sym, ◌∙◌, ap}
use mathlib.Core.Bool.{Bool, true, false}
use mathlib.Core.List.{List, ◌∷◌}
use lib.ListN.{get_or, set}
use lib.Dec.{eqb}
use lib.IntN.{ℤ}
use borrow.Author.Tests.{eqb-true, eqb-false}
use Rattle.specification.specs.declared.Setting.{Setting}
use Rattle.specification.specs.Bytes.{Bytes}
use Rattle.specification.specs.Place.{local}
use Rattle.specification.specs.Value.{full, Valuation}
use Rattle.tables.specs.Layout.{cells_at, firsts_at, token_slot, local_slot, path_at, max_locals}
use Rattle.tables.specs.Codes.{all_code}
use Rattle.sheet.specs.Tables.{Words}
use Rattle.sheet.specs.Held.{slot_of}
use Rattle.terms.proofs.Laws.Here.{operand-here}
use Rattle.search.specs.declared.Go.{Go}
use Rattle.tables.specs.Layout.{last_at}
use Rattle.search.specs.Kept.{Lasts}
use Rattle.search.specs.Store.{Store, last_store}
use Rattle.search.specs.Frame.{Frame, began, top_of, site_in, store_in}
use Rattle.search.specs.Records.{at}
use Rattle.search.specs.Path.{World, Stored, Path}
use Rattle.search.specs.Sim.{yes, Up, Yes}
use Rattle.search.specs.Registers.{drop_go}
use Rattle.search.specs.Climb.{Rises, Rose, Wins, Fell}
use Rattle.search.proofs.Pending.{with-other}
use Rattle.search.proofs.RecordsKept.{top-low}
use Rattle.search.proofs.Sites.{bound-other}
use Rattle.search.proofs.Slots.{in_table, Altered, alter}
use Rattle.search.proofs.Changes.{lasts-kept, lasts-slots}
use Rattle.search.proofs.Paths.{framed-keep}
use Rattle.search.proofs.Stripped.{Left, up-strip, yes-strip}
use Rattle.search.proofs.Tops.{top-all}
use Rattle.search.proofs.Restored.{words-there, back-path, up-again, yes-again, rose, fell}

-- the last value of one local is what it was
last-back : (σ : Store) (l h j n : ℕ) → (j ≡ l → n ≡ σ.last l) → (¬ (j ≡ l) → n ≡ (last_store l h σ).last j) → n ≡ σ.last j
last-back σ l h j n same off = go (eqb j l) refl
  where
    go : (b : Bool) → eqb j l ≡ b → n ≡ σ.last j
    go true e = let z = eqb-true j l e in same z ∙ ap σ.last (sym z)
    go false e = let z = eqb-false j l e in off z ∙ with-other σ.last l h j z

module _ {c : World} {w : Words} {top : ℕ} {α : Valuation} {l : ℕ} {v : ℤ} {h : ℕ} {β : Valuation} {fr : List Frame} (P : Path c w top α (began l v h β ∷ fr)) where
  all_local : at w (at w (top - 1) + 5) ≡ l
  all_local =
      let q = P.stack.0 in
      let z : top - 1 ≡ top_of fr + 3 = omega (arith, P.ends) in
      let t : at w (top - 1) ≡ token_slot q.h = ap (at w) z ∙ q.token in
      let e : at w (top - 1) + 5 ≡ token_slot (suc q.h) + 1 = omega arith in
      ap (at w) e ∙ operand-here c.tables w P.tables.tokens q.small ∙ q.bound

  -- mid are the words with the last value put back
  all-ended : {mid w' : Words} {k slot : ℕ} → k ≡ at w (at w (top - 1) + 5) → slot ≡ local_slot k → Lasts w mid k (at w (top - 2)) →
      w' ≡ set (set mid slot (at w (top - 4))) (slot + 1) (at w (top - 3)) → Path c w' (top - 4) β fr
  all-ended {mid} {w'} {k} {slot} ek es ls words =
      let q = P.stack.0 in
      let p = local l in
      let k-is : k ≡ l = ek ∙ all_local in
      let inside = q.kept.inside in
      let small : k < max_locals = rw k-is inside in
      let el : slot ≡ slot_of p = es ∙ ap local_slot k-is in
      let a0 : top - 4 ≡ top_of fr = omega (arith, P.ends) in
      let a1 : top - 3 ≡ top_of fr + 1 = omega (arith, P.ends) in
      let a2 : top - 2 ≡ top_of fr + 2 = omega (arith, P.ends) in
      let ws : w' ≡ set (set mid slot (at w (top_of fr))) (slot + 1) (at w (top_of fr + 1)) = words ∙ rw (a0, a1) refl in
      let al : Altered mid w' p (β p) =
      alter mid p (at w (top_of fr)) (at w (top_of fr + 1)) el inside (omega (arith, ls.size, words-there P)) ws (β p) q.kept.saved in
      let z = in_table p inside in
      let off : (j : ℕ) → firsts_at ≤ j → get_or w' j 0 ≡ get_or mid j 0 = λ j m. al.others j (λ e. omega (arith, z.high)) (λ e. omega (arith, z.high)) in
      let st = P.stored in
      let stored : Stored c w' (store_in fr) = record {
        lasts = λ j m. last-back (store_in fr) l h j (last_at w' j)
            (λ y. rw y (off _ (omega arith) ∙ ap (last_at mid) (sym k-is) ∙ ls.now ∙ ap (at w) a2 ∙ q.last))
            (λ n. off _ (omega arith) ∙ ls.others _ (λ e. n (omega arith)) ∙ st.lasts j m);
        calls = λ K C f.
            let r = st.calls K C f in
            (r.0, r.1, framed-keep C (record { same = λ j a b. off _ (omega arith) ∙ ls.others _ (λ e. omega (arith, r.0, r.1)) }) r.2);
      } in
      rw a0
      (back-path P p (full v) (at w (top_of fr)) (at w (top_of fr + 1)) refl q.kept (bound-other l (site_in fr)) el (lasts-kept small ls (top_of fr))
      (lasts-slots small ls).same ws stored)

-- ---- the steps

module _ {w mid w' : Words} {g : Go} (some : ¬ (g.top ≡ path_at)) (low : at w (g.top - 1) < cells_at) (code : at w (at w (g.top - 1)) ≡ all_code) {k slot : ℕ}
    (ek : k ≡ at w (at w (g.top - 1) + 5)) (es : slot ≡ local_slot k) (ls : Lasts w mid k (at w (g.top - 2)))
    (words : w' ≡ set (set mid slot (at w (g.top - 4))) (slot + 1) (at w (g.top - 3))) where
  end-up : (c : World) (b : Bytes) → Up c b w g → Up c b w' (drop_go g (g.top - 4) g.inner)
  end-up c b u =
      let s = up-strip c u in
      top-all (λ fr. Left c b g u.e fr → Up c b w' (drop_go g (g.top - 4) g.inner)) some low code
      (λ l v h β fr P left. up-again u {β = β} {fr = fr} (all-ended P ek es ls words) left.0 left.1) s.fr s.bare s.path s.said

  end-yes : (c : World) (b : Bytes) → Yes c b w g → Yes c b w' (drop_go g (g.top - 4) g.inner)
  end-yes c b u =
      let s = yes-strip c u in
      top-all (λ fr. yes c fr g.tallies b ≡ c.result → Yes c b w' (drop_go g (g.top - 4) g.inner)) some low code
      (λ l v h β fr P r. yes-again u {β = β} {fr = fr} (all-ended P ek es ls words) r) s.fr s.bare s.path s.said

  pub rose-ended : {setting : Setting} {q : Go} → Rises w g setting → q ≡ drop_go g (g.top - 4) g.inner → Rose w w' g q setting
  rose-ended r e = rose r e (let z = r.up.path.ends in omega (arith, top-low r.up.fr)) end-up

  pub fell-ended : {q : Go} → Wins w g → q ≡ drop_go g (g.top - 4) g.inner → Fell w w' g q
  fell-ended u e = fell e (let z = u.yes.path.ends in omega (arith, top-low u.yes.fr)) end-yes
