-- The steps into `ex`, and into the later rounds of `all`: a local's slot is kept in a record and gets other contents. Assumes nothing.
use Prim.Native.Nat.{ℕ, suc, ◌+◌, ◌-◌, ◌*◌, ◌≤◌, ◌<◌}
use native.Mathlib.Omega.{arith}
use native.Mathlib.Numerals.{add-one}
use mathlib.Core.Path.{◌≡◌, refl, sym, ◌∙◌, ap, subst}
use mathlib.Core.List.{[], ◌∷◌}
use lib.ListN.{get_or, set}
use lib.Dec.{T}
use lib.IntN.{pos, ◌+ℤ◌}
use Rattle.specification.specs.Bytes.{Bytes}
use Rattle.specification.specs.Fill.{fill}
use Rattle.specification.specs.Number.{in32}
use Rattle.specification.specs.Place.{Place, local}
use Rattle.specification.specs.Value.{Slot, empty, full}
use Rattle.specification.proofs.Laws.Contradiction.{contradiction}
use Rattle.specification.proofs.Laws.Place.{put_same}
use Rattle.values.specs.Word.{biased, signed}
use Rattle.values.proofs.Laws.Word.{biased-signed, signed-in32, signed_add}
use Rattle.tables.specs.Layout.{token_slot, local_slot, path_at, max_locals}
use Rattle.tables.specs.Ranges.{local_mark}
use Rattle.tables.specs.Codes.{ex_code, local_code}
use Rattle.sheet.specs.Tables.{Words}
use Rattle.sheet.specs.Held.{SlotAt, slot_of}
use Rattle.terms.specs.Environment.{number_of}
use Rattle.terms.proofs.Laws.Here.{operand-kept}
use Rattle.search.specs.Marks.{InTable}
use Rattle.search.specs.declared.Go.{Go}
use Rattle.search.specs.Records.{had_unit}
use Rattle.tables.specs.Layout.{last_at}
use Rattle.plan.specs.Next.{token}
use Rattle.search.specs.Kept.{Pushes}
use Rattle.search.specs.Frame.{form, again, the, given, tree_items, site_in, store_in}
use Rattle.search.specs.Site.{rounds_at, grow_at}
use Rattle.search.specs.Records as records
use Rattle.search.specs.Records.{at, Saved, SlotRecord, RecordAt}
use Rattle.search.specs.Path.{World}
use Rattle.search.specs.Sim.{tree, In}
use Rattle.search.specs.Stands.{filled, body_of}
use Rattle.search.specs.Registers.{down_go}
use Rattle.search.specs.Steps.{Entered, Stepped}
use Rattle.search.proofs.Pending.{pend-bound, scoped-enter, inside-scoped}
use Rattle.search.proofs.RecordsKept.{record-keep}
use Rattle.search.proofs.Slots.{in_table, slot_held, saved-here, Altered, second_word, alter}
use Rattle.search.proofs.Changes.{kept-both, kept_refl, pushed-kept, pushed-slots, pushed-store, altered-kept, altered-store}
use Rattle.search.proofs.Descent.{down-bound, down-pass}
use Rattle.search.proofs.Heads.{AtForm, at-form, form-tree, AtAgain, at_again}
use Rattle.search.proofs.Simple.{stepped, top-low, top-room}

-- ---- what a record keeps of a slot

saved-flag : (had old : ℕ) (s : Slot) → Saved had old s → had ≤ 1
saved-flag had old empty q = omega arith
saved-flag had old (full z) q = omega (arith, q.0)

module _ {c : World} {b : Bytes} {w : Words} {g : Go} (i : In c b w g) where
  pub slot_kept : (p : Place) → InTable p →
      records.Kept c.declared (at w (slot_of p)) (at w (slot_of p + 1)) p (site_in i.fr) i.α
  slot_kept p h =
      let s = saved-here w i.α i.path.holds p h in
      record {
        inside = h;
        flag = saved-flag (at w (slot_of p)) (at w (slot_of p + 1)) (i.α p) s;
        saved = s;
        mark = λ none. i.path.marks p h none;
      }

  -- a record of three words
  pub slot-record : {w' : Words} {slot : ℕ} (p : Place) → InTable p → slot ≡ slot_of p →
      Pushes w w' g.top (at w (slot + 1) ∷ g.inner ∷ (slot + had_unit * at w slot) ∷ []) →
      SlotRecord c.declared w' g.top p (site_in i.fr) i.α
  slot-record {w'} p h e q =
      let z : g.top + 0 ≡ g.top = omega arith in
      let first = rw z at (q.words 0 (omega arith)) in
      record {
        had = at w (slot_of p);
        kept = rw (first, e) (slot_kept p h);
        inner = q.words 1 (omega arith) ∙ i.inner;
        slot = q.words 2 (omega arith) ∙ rw e refl;
      }

  -- which a changed slot keeps
  pub slot-record-keep : {v w' : Words} {p : Place} {s : Slot} (r : Place) → InTable p → Altered v w' p s →
      SlotRecord c.declared v g.top r (site_in i.fr) i.α → SlotRecord c.declared w' g.top r (site_in i.fr) i.α
  slot-record-keep {v} {w'} {p} r h a q =
      let z = in_table p h in
      let low = top-low i in
      record-keep c.declared c.tables v w' g.top (site_in i.fr) (store_in i.fr) (given r (pos 0) i.α)
      (record { same = λ j k. a.others _ (λ e. omega (arith, z.high)) (λ e. omega (arith, z.high)) }) q

-- ---- `ex`

module _ {w : Words} {g : Go} (x : Entered w g ex_code) where
  module _ {c : World} {b : Bytes} (i : In c b w g) where
    abbrev hidden : AtForm i ex_code
    hidden = at-form i x.code (omega arith) (omega arith)

    local-is : get_or w (g.due + 5) 0 ≡ hidden.under.l
    local-is =
        let a = hidden in
        let u = a.under in
        let p = a.form.place in
        let e : g.due + 5 ≡ token_slot (suc a.form.h) + 1 = omega arith in
        rw e (operand-kept c.tables w i.path.tables.tokens u.local.0 u.local.1)

  pub ex-local : get_or w (g.due + 5) 0 < max_locals
  ex-local = let i = x.at.ins in rw (local-is i) (hidden i).under.small

  pub ex-near : (g.due + 8 < 4294967296) × (g.due + 5 < path_at)
  ex-near = let a = hidden x.at.ins in (omega (arith, a.form.place, a.form.inside), omega (arith, a.form.place, a.form.inside))

  pub ex-down : {mid w' : Words} {q : Go} {slot : ℕ} → slot ≡ local_slot (get_or w (g.due + 5) 0) →
      Pushes w mid g.top (at w (slot + 1) ∷ g.inner ∷ (slot + had_unit * at w slot) ∷ []) →
      w' ≡ set (set mid slot 0) (slot + 1) (local_mark + g.depth) → q ≡ down_go g (g.due + 8) (g.top + 3) g.inner g.bad → Stepped w w' g q
  unfolding grow_at tree_items fill
  ex-down {mid} {w'} {slot = slot} es p words e = stepped x.at e (λ c b i.
      let a = hidden i in
      let u = a.under in
      let l = u.l in
      let z = a.form.place in
      let low = top-low i in
      let room = top-room i in
      let el : slot ≡ slot_of (local l) = es ∙ ap local_slot (local-is i) in
      let al : Altered mid w' (local l) empty = alter mid (local l) 0 (local_mark + g.depth) el u.small (omega (arith, p.size)) words empty refl in
      down-bound i l empty u.small tt (kept-both (pushed-kept p low) (altered-kept u.small al g.top)) (pushed-slots p low) al
      (λ n. second_word mid (local l) 0 (local_mark + g.depth) el u.small (omega (arith, p.size)) words)
      (record { same = λ j k m. (altered-store u.small al).same j k m ∙ (pushed-store p low).same j k m })
      (slot-record-keep i (local l) u.small al (slot-record i (local l) u.small el p))
      (the (form a.E u.body ∷ a.is)) (form-tree i a ∙ rw u.is)
      (record {
        m = number_of a.E;
        next = token (suc (suc a.form.h));
        place = omega arith;
        rest = record {
          i = suc (suc a.form.h);
          n = a.form.n;
          leads = refl;
          from = tt;
          inside = u.near;
          stands = u.under;
          env = a.form.env;
          later = omega arith;
          scoped = rw u.scope (scoped-enter a.form.stands.good.scope l a.is a.form.scoped);
          rest = pend-bound c.declared c.tables a.form.stands.good.scope l u.fresh (store_in i.fr) i.α empty (number_of a.E) a.form.n
              a.is a.form.scoped a.form.rest;
        };
      }))

-- ---- an `all` that comes first again

module _ {w : Words} {g : Go} (x : Entered w g local_code) where
  module _ {c : World} {b : Bytes} (i : In c b w g) where
    abbrev round : AtAgain i
    round = at_again i x.code

    again-tree : tree c i.fr i.x i.α ≡
        rounds_at (λ k t β. grow_at c.declared (filled round.E round.F) k t β) round.l (λ t β. tree_items c.declared round.is t β) round.k round.v
        (site_in i.fr) i.α
    unfolding tree_items
    again-tree = ap (λ y. tree c i.fr y i.α) round.x-is

    again-local : get_or w (g.due + 1) 0 ≡ round.l
    again-local =
        let a = round.form in
        ap (λ d. get_or w (d + 1) 0) a.place ∙ operand-kept c.tables w i.path.tables.tokens a.binds.local.0 a.binds.local.1

    -- the word of the present value
    again-value : {slot : ℕ} → slot ≡ local_slot (get_or w (g.due + 1) 0) → (at w slot ≡ 1) × (at w (slot + 1) ≡ round.form.left.current)
    again-value {slot} e =
        let a = round.form in
        let l = round.l in
        let h = slot_held w i.α i.path.holds (local l) a.binds.small in
        let full-here = subst (SlotAt w (slot_of (local l))) a.left.value h in
        let es : slot ≡ slot_of (local l) = e ∙ ap local_slot again-local in
        (rw es full-here.0, rw (es, add-one (slot_of (local l))) (full-here.1 ∙ biased-signed a.left.current))

    again-last : last_at w (get_or w (g.due + 1) 0) ≡ (store_in i.fr).last round.l
    again-last = rw again-local (i.path.stored.lasts round.l round.form.binds.small)

  pub again-near : (get_or w (g.due + 1) 0 < max_locals) × (4 ≤ g.due) × (g.due + 3 < path_at)
  again-near =
      let i = x.at.ins in
      let a = (round i).form in
      (rw (again-local i) a.binds.small, omega (arith, a.place), omega (arith, a.place, a.binds.near))

  -- no value is left
  pub again-none : {slot : ℕ} → slot ≡ local_slot (get_or w (g.due + 1) 0) → at w (slot + 1) ≡ last_at w (get_or w (g.due + 1) 0) → {q : Go} {n : ℕ} →
      n ≡ get_or w (g.due - 4 + 3) 0 → q ≡ down_go g n g.top g.inner g.bad → Stepped w w g q
  unfolding rounds_at
  again-none es same en e = stepped x.at e (λ c b i.
      let r = round i in
      let a = r.form in
      let z = a.place in
      let none : r.k ≡ 0 = a.left.after.count ∙ omega (arith, sym (again-value i es).1 ∙ same ∙ again-last i) in
      let at-h : g.due - 4 + 3 ≡ token_slot a.h + 3 = omega arith in
      down-pass i (kept_refl g.top w) (record { same = λ j k m. refl }) (record { same = λ j k m. refl }) (the r.is) (again-tree i ∙ rw none)
      (record {
        m = number_of r.E;
        next = a.n;
        place = en ∙ rw at-h (i.path.tables.tokens (token_slot a.h + 3) (omega (arith, a.binds.near))) ∙ a.next;
        rest = a.rest;
      }))

  -- the next value
  pub again-some : {mid w' : Words} {slot value : ℕ} → slot ≡ local_slot (get_or w (g.due + 1) 0) → value ≡ at w (slot + 1) →
      ¬ (value ≡ last_at w (get_or w (g.due + 1) 0)) → Pushes w mid g.top (value ∷ g.inner ∷ (slot + had_unit) ∷ []) →
      w' ≡ set (set mid slot 1) (slot + 1) (value + 1) → {q : Go} {t : ℕ} → t ≡ get_or w (g.due + 3) 0 → q ≡ down_go g t (g.top + 3) g.inner g.bad →
      Stepped w w' g q
  unfolding rounds_at tree_items
  again-some {mid} {w'} {slot} {value} es ev differ p words et e = stepped x.at e (λ c b i.
      let r = round i in
      let a = r.form in
      let l = r.l in
      let σ = store_in i.fr in
      let low = top-low i in
      let room = top-room i in
      let q = a.left.after in
      let cur = a.left.current in
      let here = again-value i es in
      let value-is : value ≡ cur = ev ∙ here.1 in
      let last-is = again-last i in
      let more : r.k ≡ suc (σ.last l - (cur + 1)) = q.count ∙ omega (arith, q.order) in
      let next : signed (value + 1) ≡ r.v = ap (λ n. signed (n + 1)) value-is ∙ sym (signed_add cur 1) ∙ sym q.lowest in
      let el : slot ≡ slot_of (local l) = es ∙ ap local_slot (again-local i) in
      let new : Saved 1 (value + 1) (full r.v) = (refl, sym (ap biased (sym next) ∙ biased-signed (value + 1))) in
      let al : Altered mid w' (local l) (full r.v) = alter mid (local l) 1 (value + 1) el a.binds.small (omega (arith, p.size)) words (full r.v) new in
      let good : T (in32 r.v) = subst (λ z. T (in32 z)) next (signed-in32 (value + 1) (omega (arith, q.fits, q.order))) in
      let kept = slot_kept i (local l) a.binds.small in
      let z0 : g.top + 0 ≡ g.top = omega arith in
      let rec : SlotRecord c.declared mid g.top (local l) (site_in i.fr) i.α = record {
        had = at w (slot_of (local l));
        kept = rw (rw z0 at (p.words 0 (omega arith)) ∙ ev ∙ ap (λ s. at w (s + 1)) el) kept;
        inner = p.words 1 (omega arith) ∙ i.inner;
        slot = p.words 2 (omega arith) ∙ omega (arith, el, rw el at here.0);
      } in
      let inside = a.scoped in
      let S = a.binds.body.good.scope in
      down-bound i l (full r.v) a.binds.small good (kept-both (pushed-kept p low) (altered-kept a.binds.small al g.top)) (pushed-slots p low) al
      (λ n. contradiction cc)
      (record { same = λ j k m. (altered-store a.binds.small al).same j k m ∙ (pushed-store p low).same j k m })
      (slot-record-keep i (local l) a.binds.small al rec)
      (the (form r.E r.F ∷ again r.E l r.F (σ.last l - (cur + 1)) (r.v +ℤ pos 1) ∷ r.is)) (again-tree i ∙ rw more)
      (record {
        m = number_of r.E;
        next = token (body_of c.tables a.h);
        place = et ∙ ap (λ d. get_or w (d + 3) 0) a.place ∙ i.path.tables.tokens (token_slot (suc a.h) + 3) (omega (arith, a.binds.near)) ∙ a.binds.leads;
        rest = record {
          i = body_of c.tables a.h;
          n = token (suc a.h);
          leads = refl;
          from = tt;
          inside = a.binds.inside;
          stands = a.binds.body;
          env = a.env;
          later = omega arith;
          scoped = (a.binds.scoped, inside-scoped inside);
          rest = record {
            h = a.h;
            n = a.n;
            leads = refl;
            from = tt;
            code = a.code;
            next = a.next;
            binds = a.binds;
            left = record {
              current = value + 1;
              value = put_same i.α (local l) (full r.v) ∙ ap full (sym next);
              after = record {
                fits = q.fits;
                order = omega (arith, q.order);
                count = omega arith;
                lowest = ap (◌+ℤ pos 1) (sym next);
              };
            };
            env = a.env;
            later = omega arith;
            scoped = inside;
            rest = pend-bound c.declared c.tables inside.outer l inside.fresh σ i.α (full r.v) (number_of r.E) a.n r.is
                inside.scoped a.rest;
          };
        };
      }))
