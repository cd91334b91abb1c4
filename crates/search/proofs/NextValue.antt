-- Going up: the topmost record is a `some`'s, and its local gets the next value, or none is left. Assumes nothing.
use Prim.Native.Nat.{ℕ, suc, ◌+◌, ◌-◌, ◌≤◌, ◌<◌}
use native.Mathlib.Omega.{arith}
use native.Mathlib.Numerals.{add-one}
use mathlib.Core.Path.{◌≡◌, refl, sym, ◌∙◌, ap, subst}
use mathlib.Core.List.{List, ◌∷◌}
use lib.ListN.{length, get_or, set, length-set}
use lib.Dec.{T}
use lib.Seq.{get_or-set_same, get_or-set_other}
use lib.IntN.{ℤ, pos, ◌+ℤ◌, +ℤ_assoc}
use Rattle.specification.specs.declared.Setting.{Setting}
use Rattle.specification.specs.Bytes.{Bytes}
use Rattle.specification.specs.Ast.{Formula}
use Rattle.specification.specs.Number.{in32}
use Rattle.specification.specs.Place.{Place, local, put}
use Rattle.specification.specs.Value.{full, Valuation}
use Rattle.specification.proofs.Laws.Contradiction.{contradiction}
use Rattle.specification.proofs.Laws.Place.{put_same, put_other, valid-put}
use Rattle.values.specs.Word.{signed, biased}
use Rattle.values.proofs.Laws.Word.{biased-signed, signed-in32, signed_add}
use Rattle.tables.specs.Layout.{cells_at, token_slot, local_slot, path_at}
use Rattle.tables.specs.Codes.{some_code}
use Rattle.sheet.specs.Tables.{Words}
use Rattle.sheet.specs.Held.{slot_of, Holds, SlotAt}
use Rattle.terms.specs.Environment.{Environment, number_of}
use Rattle.terms.proofs.Laws.Here.{operand-kept}
use Rattle.search.specs.Marks.{InTable, marks_in}
use Rattle.search.specs.declared.Go.{Go}
use Rattle.plan.specs.Next.{token}
use Rattle.search.specs.Walk.{sons_from}
use Rattle.search.specs.Frame.{Item, form, the, Frame, range, len, top_of, site_in, store_in}
use Rattle.search.specs.Stands.{body_of, LeftAfter}
use Rattle.search.specs.Records.{at}
use Rattle.search.specs.Path.{World, Path}
use Rattle.search.specs.Sim.{yes, no, Down, Up, Yes}
use Rattle.search.specs.Registers.{drop_go, resume_go}
use Rattle.search.specs.Climb.{Set, Rises, Rose, Wins, Fell}
use Rattle.search.proofs.Pending.{pend-bound, inside-scoped}
use Rattle.search.proofs.RecordsKept.{SameFrom, record-keep, top-low}
use Rattle.search.proofs.Sites.{site-depth, bound-other}
use Rattle.search.proofs.Slots.{in_table, slot_held, Altered, alter, holds-again, altered-marks}
use Rattle.search.proofs.Changes.{kept_refl, altered-kept, altered-store}
use Rattle.search.proofs.Paths.{path-top, stored-keep}
use Rattle.search.proofs.Stripped.{Left, up-strip, yes-strip}
use Rattle.search.proofs.Tops.{top-some}
use Rattle.search.proofs.Restored.{words-there, back-path, up-again, yes-again, rose, fell}
use Rattle.search.proofs.Resumed.{resumed, rose-down}

-- ---- the values left after a word

module _ {current last n : ℕ} (x : ℤ) (i : ℕ) (a : LeftAfter current last n (x +ℤ pos (suc i))) (more : current < last) where
  next-value : signed (current + 1) ≡ x +ℤ pos (suc i)
  next-value = sym (signed_add current 1) ∙ sym a.lowest

  next_word : current + 1 ≡ biased (x +ℤ pos (suc i))
  next_word = sym (biased-signed (current + 1)) ∙ ap biased next-value

  next-in : T (in32 (x +ℤ pos (suc i)))
  next-in = subst (λ z. T (in32 z)) next-value (signed-in32 (current + 1) (omega (arith, a.fits)))

  next-left : (m : ℕ) → n ≡ suc m → LeftAfter (current + 1) last m (x +ℤ pos (suc (suc i)))
  next-left m e = record {
    fits = a.fits;
    order = omega arith;
    count = omega (arith, a.count);
    lowest =
        ap (λ k. x +ℤ pos k) (sym (add-one (suc i))) ∙ sym (+ℤ_assoc x (pos (suc i)) (pos 1)) ∙ ap (λ z. z +ℤ pos 1) (sym next-value);
  }

-- ---- a slot whose value is another

other-value : (w : Words) {w' : Words} {i : ℕ} (p : Place) (y z : ℤ) → InTable p → SlotAt w (slot_of p) (full y) → i ≡ slot_of p → path_at ≤ length w →
    w' ≡ set w (i + 1) (biased z) → Altered w w' p (full z)
other-value w {w'} {i} p y z h s e size words =
    let k = in_table p h in
    let one : suc (slot_of p) ≡ i + 1 = omega arith in
    let keeps : (j : ℕ) → ¬ (j ≡ slot_of p + 1) → get_or w' j 0 ≡ get_or w j 0 = λ j n. rw (words) (get_or-set_other w (i + 1) j (biased z) 0 (λ x. n (omega arith))) in
    record {
      others = λ j m n. keeps j n;
      now = (keeps (slot_of p) (λ x. omega arith) ∙ s.0, rw (one, words) (get_or-set_same w (i + 1) (biased z) 0 (omega (arith, k.high))));
      size = rw words (length-set w (i + 1) (biased z));
    }

-- ---- what is read of the record and its token

module _ {c : World} {w : Words} {top : ℕ} {α : Valuation} {l : ℕ} {x : ℤ} {i n : ℕ} {E : Environment} {F : Formula} {is : List Item} {β : Valuation} {fr : List Frame}
    (P : Path c w top α (range l x i n E F is β ∷ fr)) where
  pub some-token : at w (top - 1) ≡ token_slot P.stack.0.h
  some-token = let z : top - 1 ≡ top_of fr + 4 = omega (arith, P.ends) in ap (at w) z ∙ P.stack.0.token

  pub some-depth : at w (top - 2) ≡ suc (len fr)
  some-depth = let z : top - 2 ≡ top_of fr + 3 = omega (arith, P.ends) in ap (at w) z ∙ P.stack.0.depth ∙ ap suc (site-depth fr)

  pub some-last : at w (top - 3) ≡ at w (top_of fr + 2)
  some-last = let z : top - 3 ≡ top_of fr + 2 = omega (arith, P.ends) in ap (at w) z

  pub some-local : at w (at w (top - 1) + 5) ≡ l
  some-local =
      let q = P.stack.0 in
      let e : at w (top - 1) + 5 ≡ token_slot (suc q.h) + 1 = omega (arith, some-token) in
      ap (at w) e ∙ operand-kept c.tables w P.tables.tokens q.binds.local.0 q.binds.local.1

  pub some-body : at w (at w (top - 1) + 7) ≡ token_slot (body_of c.tables P.stack.0.h)
  some-body =
      let q = P.stack.0 in
      let e : at w (top - 1) + 7 ≡ token_slot (suc q.h) + 3 = omega (arith, some-token) in
      ap (at w) e ∙ P.tables.tokens (token_slot (suc q.h) + 3) (omega (arith, q.binds.near)) ∙ q.binds.leads

  pub some-held : SlotAt w (slot_of (local l)) (full (x +ℤ pos i))
  some-held =
      subst (SlotAt w (slot_of (local l))) (ap (λ γ. γ (local l)) P.chain.0 ∙ put_same β (local l) (full (x +ℤ pos i)))
      (slot_held w α P.holds (local l) P.stack.0.binds.small)

  pub some-current : at w (slot_of (local l) + 1) ≡ P.stack.0.current
  some-current =
      let q = P.stack.0 in
      let one : slot_of (local l) + 1 ≡ suc (slot_of (local l)) = omega arith in
      ap (at w) one ∙ some-held.1 ∙ ap biased (sym q.value) ∙ biased-signed q.current

  -- the slot is as it was
  some-closed : {w' : Words} {slot : ℕ} → slot ≡ local_slot (at w (at w (top - 1) + 5)) → w' ≡ set (set w slot (at w (top - 5))) (slot + 1) (at w (top - 4)) →
      Path c w' (top - 5) β fr
  some-closed {w'} {slot} es words =
      let q = P.stack.0 in
      let p = local l in
      let el : slot ≡ slot_of p = es ∙ ap local_slot some-local in
      let a0 : top - 5 ≡ top_of fr = omega (arith, P.ends) in
      let a1 : top - 4 ≡ top_of fr + 1 = omega (arith, P.ends) in
      let ws : w' ≡ set (set w slot (at w (top_of fr))) (slot + 1) (at w (top_of fr + 1)) = words ∙ rw (a0, a1) refl in
      rw a0
      (back-path P p (full (x +ℤ pos i)) (at w (top_of fr)) (at w (top_of fr + 1)) refl q.kept (bound-other l (site_in fr)) el (kept_refl (top_of fr) w) (λ j k m. refl) ws
      (stored-keep (altered-store q.kept.inside (alter w p (at w (top_of fr)) (at w (top_of fr + 1)) el q.kept.inside (words-there P) ws (β p) q.kept.saved)) P.stored))

-- ---- the steps

module _ {w : Words} {g : Go} (some : ¬ (g.top ≡ path_at)) (low : at w (g.top - 1) < cells_at) (code : at w (at w (g.top - 1)) ≡ some_code) {slot : ℕ}
    (es : slot ≡ local_slot (at w (at w (g.top - 1) + 5))) where
  next_down : {w' : Words} {setting : Setting} → at w (slot + 1) < at w (g.top - 3) → w' ≡ set w (slot + 1) (at w (slot + 1) + 1) →
      (c : World) (b : Bytes) → Set c setting → Up c b w g →
      Down c b w' (resume_go g (at w (at w (g.top - 1) + 7)) (at w (g.top - 2)) g.top g.inner g.bad setting)
  unfolding sons_from
  next_down {w'} {setting} more words c b st u =
      let s = up-strip c u in
      top-some (λ fr. Left c b g u.e fr → Down c b w' (resume_go g (at w (at w (g.top - 1) + 7)) (at w (g.top - 2)) g.top g.inner g.bad setting)) some low code
      (λ l x i n E F is β fr P left.
      let q = P.stack.0 in
      let p = local l in
      let small = q.binds.small in
      let el : slot ≡ slot_of p = es ∙ ap local_slot (some-local P) in
      let cur : at w (slot + 1) ≡ q.current = ap (λ k. at w (k + 1)) el ∙ some-current P in
      let more' : q.current < at w (top_of fr + 2) = omega (arith, some-last P) in
      let en : n ≡ suc (n - 1) = omega (arith, q.after.count) in
      let v = x +ℤ pos (suc i) in
      let word : at w (slot + 1) + 1 ≡ biased v = ap (◌+ 1) cur ∙ next_word x i q.after more' in
      let al : Altered w w' p (full v) = other-value w p (x +ℤ pos i) v small (some-held P) el (words-there P) (words ∙ ap (set w (slot + 1)) word) in
      let z = in_table p small in
      let same : SameFrom w w' (top_of fr) 5 = record { same = λ j h. al.others (top_of fr + j) (λ e. omega (arith, z.high, top-low fr)) (λ e. omega (arith, z.high, top-low fr)) } in
      let marks = marks_in c.declared (site_in (range l x i n E F is β ∷ fr)).marks in
      let γ = put β p (full v) in
      let off : (r : Place) → ¬ (r ≡ p) → γ r ≡ u.α r = λ r m. put_other β p (full v) r m ∙ sym (ap (λ f. f r) P.chain.0 ∙ put_other β p (full (x +ℤ pos i)) r m) in
      resumed st u.tallies (range l x (suc i) (n - 1) E F is β) fr
      (path-top P (altered-kept small al (top_of fr)) (range l x (suc i) (n - 1) E F is β) P.ends refl
      (record-keep c.declared c.tables w w' (top_of fr) (site_in fr) (store_in fr) (range l x (suc i) (n - 1) E F is β) same
      (record {
        h = q.h;
        next = q.next;
        kept = q.kept;
        current = q.current + 1;
        value = next-value x i q.after more';
        after = next-left x i q.after more' (n - 1) en;
        depth = q.depth;
        token = q.token;
        code = q.code;
        binds = q.binds;
        env = q.env;
        scoped = q.scoped;
        rest = q.rest;
      }))
      (holds-again al small β (full (x +ℤ pos i)) (subst (Holds w) P.chain.0 P.holds))
      (altered-marks al small u.α γ marks marks P.marks off (λ r m. refl) (λ none. let e = sym (put_same β p (full v)) ∙ none in contradiction cc))
      (stored-keep (altered-store small al) P.stored) (valid-put c.declared β p (full v) P.chain.1 (next-in x i q.after more')))
      (some-depth P) (the (form E F ∷ is)) u.e left.0 u.bad
      (record {
        m = number_of E;
        next = token (body_of c.tables q.h);
        place = some-body P;
        rest = record {
          i = body_of c.tables q.h;
          n = q.next;
          leads = refl;
          from = tt;
          inside = q.binds.inside;
          stands = q.binds.body;
          env = q.env;
          later = omega arith;
          scoped = inside-scoped q.scoped;
          rest = pend-bound c.declared c.tables q.scoped.outer l q.scoped.fresh (store_in fr) β (full v) (number_of E) q.next is q.scoped.scoped q.rest;
        };
      })
      (subst (λ k. no c (range l x i k E F is β ∷ fr) u.e g.tallies b ≡ c.result) en left.1))
      s.fr s.bare s.path s.said

  pub rose-next : {w' : Words} {setting : Setting} {q : Go} → at w (slot + 1) < at w (g.top - 3) → w' ≡ set w (slot + 1) (at w (slot + 1) + 1) →
      q ≡ resume_go g (at w (at w (g.top - 1) + 7)) (at w (g.top - 2)) g.top g.inner g.bad setting → Rose w w' g q setting
  rose-next more words e = rose-down e (next_down more words)

  -- the slot is as it was
  module _ {w' : Words} (words : w' ≡ set (set w slot (at w (g.top - 5))) (slot + 1) (at w (g.top - 4))) where
    close_up : ¬ (at w (slot + 1) < at w (g.top - 3)) → (c : World) (b : Bytes) → Up c b w g → Up c b w' (drop_go g (g.top - 5) g.inner)
    unfolding sons_from
    close_up over c b u =
        let s = up-strip c u in
        top-some (λ fr. Left c b g u.e fr → Up c b w' (drop_go g (g.top - 5) g.inner)) some low code
        (λ l x i n E F is β fr P left.
        let q = P.stack.0 in
        let el : slot ≡ slot_of (local l) = es ∙ ap local_slot (some-local P) in
        let cur : at w (slot + 1) ≡ q.current = ap (λ k. at w (k + 1)) el ∙ some-current P in
        let none : n ≡ 0 = omega (arith, q.after.count, q.after.order, some-last P) in
        up-again u {β = β} {fr = fr} (some-closed P es words) left.0 (subst (λ k. no c (range l x i k E F is β ∷ fr) u.e g.tallies b ≡ c.result) none left.1))
        s.fr s.bare s.path s.said

    close-yes : (c : World) (b : Bytes) → Yes c b w g → Yes c b w' (drop_go g (g.top - 5) g.inner)
    close-yes c b u =
        let s = yes-strip c u in
        top-some (λ fr. yes c fr g.tallies b ≡ c.result → Yes c b w' (drop_go g (g.top - 5) g.inner)) some low code
        (λ l x i n E F is β fr P r. yes-again u {β = β} {fr = fr} (some-closed P es words) r) s.fr s.bare s.path s.said

    pub rose-closed : {setting : Setting} {q : Go} → ¬ (at w (slot + 1) < at w (g.top - 3)) → Rises w g setting → q ≡ drop_go g (g.top - 5) g.inner → Rose w w' g q setting
    rose-closed over r e = rose r e (let z = r.up.path.ends in omega (arith, top-low r.up.fr)) (close_up over)

    pub fell-closed : {q : Go} → Wins w g → q ≡ drop_go g (g.top - 5) g.inner → Fell w w' g q
    fell-closed u e = fell e (let z = u.yes.path.ends in omega (arith, top-low u.yes.fr)) close-yes
