-- The steps into `some` and `all` whose bounds have values: no value between them, or the first value. Assumes nothing.
use Prim.Native.Nat.{ℕ, suc, ◌+◌, ◌-◌, ◌≤◌, ◌<◌}
use native.Mathlib.Omega.{arith}
use native.Mathlib.Numerals.{add-one}
use mathlib.Core.Path.{◌≡◌, refl, sym, ◌∙◌, ap}
use mathlib.Core.List.{[], ◌∷◌}
use lib.ListN.{get_or, set}
use lib.Dec.{T, eqb}
use mathlib.Core.Bool.{Bool, true, false}
use borrow.Author.Tests.{eqb-true, eqb-false}
use lib.IntN.{pos, ◌+ℤ◌}
use Rattle.specification.specs.Bytes.{Bytes}
use Rattle.specification.specs.Fill.{fill}
use Rattle.specification.specs.Number.{in32}
use Rattle.specification.specs.Arithmetic.{count}
use Rattle.specification.specs.Place.{local, put}
use Rattle.specification.specs.Value.{full, pair_of}
use Rattle.specification.specs.Tree.{bounded, sons}
use Rattle.specification.proofs.Laws.Place.{put_same}
use Rattle.values.specs.Word.{biased, signed}
use Rattle.values.proofs.Laws.Word.{biased-signed, signed-in32, signed-count, signed_add}
use Rattle.tables.specs.Layout.{token_slot, local_slot, firsts_at, path_at, max_locals}
use Rattle.tables.specs.Codes.{some_code, all_code}
use Rattle.sheet.specs.Tables.{Words}
use Rattle.sheet.specs.Held.{slot_of}
use Rattle.terms.specs.Environment.{number_of}
use Rattle.terms.proofs.Laws.Here.{operand-kept}
use Rattle.search.specs.declared.Go.{Go}
use Rattle.tables.specs.Layout.{last_at}
use Rattle.tables.specs.Leaves.{failure_place}
use Rattle.plan.specs.Next.{token}
use Rattle.search.specs.Kept.{Pushes, Lasts}
use Rattle.search.specs.Store.{Store, with, last_store}
use Rattle.search.specs.Frame.{form, again, the, failure, tree_items, site_in, store_in}
use Rattle.search.specs.Site.{rounds_at, grow_at, bound_site}
use Rattle.search.specs.Stands.{filled, body_of}
use Rattle.search.specs.Pend.{Inside}
use Rattle.search.specs.Records.{at, Saved}
use Rattle.search.specs.Path.{World, Stored}
use Rattle.search.specs.Sim.{tree, In}
use Rattle.search.specs.Registers.{down_go}
use Rattle.search.specs.Steps.{Stepped, GoesOn, OneLeaf, Valued}
use Rattle.search.proofs.Pending.{with-same, with-other, pend-bound, pend-last, env-last, inside-scoped}
use Rattle.search.proofs.Sites.{site-depth}
use Rattle.search.proofs.Slots.{in_table, Altered, alter}
use Rattle.search.proofs.Changes.{kept-both, pushed-kept, pushed-slots, pushed-store, altered-kept, altered-store, lasts-kept, lasts-slots}
use Rattle.search.proofs.Paths.{framed-keep}
use Rattle.search.proofs.Descent.{down-began, down-range}
use Rattle.search.proofs.Heads.{AtForm, at-form, form-tree}
use Rattle.search.proofs.Simple.{stepped, top-low, top-room, next-job}
use Rattle.search.proofs.Binders.{slot_kept}

-- ---- how many values there are

module _ (low high : ℕ) where
  count_none : high < low → count (signed low) (signed high) ≡ 0
  count_none h = signed-count low high ∙ omega arith

  count-some : low ≤ high → count (signed low) (signed high) ≡ suc (high - low)
  count-some h = signed-count low high ∙ omega arith

-- ---- `some`

module _ {w : Words} {g : Go} {low high : ℕ} (x : Valued w g some_code low high) where
  module _ {c : World} {b : Bytes} (i : In c b w g) where
    abbrev tried : AtForm i some_code
    tried = at-form i x.at.code (omega arith) (omega arith)

    some-tree : tree c i.fr i.x i.α ≡
        sons (signed low) (count (signed low) (signed high))
        (λ j. grow_at c.declared (filled tried.E tried.under.body) (λ s β. tree_items c.declared tried.is s β) (bound_site tried.under.l (site_in i.fr))
        (put i.α (local tried.under.l) (full (signed low +ℤ pos j))))
    unfolding grow_at fill bounded pair_of
    some-tree =
        let a = tried in
        let u = a.under in
        let s = x.sides c b i a.E a.F a.is a.x-is u.low u.high (rw u.is (refl, refl)) in
        form-tree i a ∙ rw (u.is, s.0, s.1)

    some-local : get_or w (g.due + 5) 0 ≡ tried.under.l
    some-local =
        let a = tried in
        let u = a.under in
        let p = a.form.place in
        let e : g.due + 5 ≡ token_slot (suc a.form.h) + 1 = omega arith in
        ap (λ k. get_or w k 0) e ∙ operand-kept c.tables w i.path.tables.tokens u.binds.local.0 u.binds.local.1

    some-body : get_or w (g.due + 7) 0 ≡ token_slot (body_of c.tables tried.form.h)
    some-body =
        let a = tried in
        let p = a.form.place in
        let e : g.due + 7 ≡ token_slot (suc a.form.h) + 3 = omega arith in
        ap (λ k. get_or w k 0) e ∙ i.path.tables.tokens (token_slot (suc a.form.h) + 3) (omega (arith, a.under.binds.near)) ∙ a.under.binds.leads

  pub some_near : (get_or w (g.due + 5) 0 < max_locals) × (g.due + 7 < path_at)
  some_near = let i = x.at.at.ins in (rw (some-local i) (tried i).under.binds.small, omega (arith, (tried i).form.place, (tried i).form.inside))

  pub some-none : high < low → OneLeaf w g failure_place
  unfolding sons
  some-none h = record {
    at = x.at.at;
    son = λ c b i. (failure, some-tree i ∙ rw (count_none low high h), refl);
  }

  pub some-open : low ≤ high → {mid w' : Words} {slot : ℕ} → slot ≡ local_slot (get_or w (g.due + 5) 0) →
      Pushes w mid g.top (at w slot ∷ at w (slot + 1) ∷ high ∷ (g.depth + 1) ∷ g.due ∷ []) → w' ≡ set (set mid slot 1) (slot + 1) low →
      {q : Go} → q ≡ down_go g (get_or w (g.due + 7) 0) (g.top + 5) g.inner g.bad → Stepped w w' g q
  unfolding sons tree_items
  some-open order {mid} {w'} {slot} es p words e = stepped x.at.at e (λ c b i.
      let a = tried i in
      let u = a.under in
      let l = u.l in
      let S = a.form.stands.good.scope in
      let low-top = top-low i in
      let room = top-room i in
      let small = u.binds.small in
      let el : slot ≡ slot_of (local l) = es ∙ ap local_slot (some-local i) in
      let none_more : low + 0 ≡ low = omega arith in
      let zero_is : signed low +ℤ pos 0 ≡ signed low = signed_add low 0 ∙ ap signed none_more in
      let new : Saved 1 low (full (signed low +ℤ pos 0)) = (refl, sym (ap biased zero_is ∙ biased-signed low)) in
      let al : Altered mid w' (local l) (full (signed low +ℤ pos 0)) =
      alter mid (local l) 1 low el small (omega (arith, p.size)) words (full (signed low +ℤ pos 0)) new in
      let good : T (in32 (signed low +ℤ pos 0)) = rw zero_is (signed-in32 low x.left_fits) in
      let z = in_table (local l) small in
      let keep : (j : ℕ) → path_at ≤ j → get_or w' j 0 ≡ get_or mid j 0 = λ j h. al.others j (λ e. omega (arith, z.high)) (λ e. omega (arith, z.high)) in
      let word : (k : ℕ) → k < 5 → get_or w' (g.top + k) 0 ≡ get_or (at w slot ∷ at w (slot + 1) ∷ high ∷ (g.depth + 1) ∷ g.due ∷ []) k 0 =
      λ k h. keep (g.top + k) (omega arith) ∙ p.words k h in
      let z0 : g.top + 0 ≡ g.top = omega arith in
      let first = rw z0 at (word 0 (omega arith)) in
      let kept = slot_kept i (local l) small in
      let fresh-rest = pend-bound c.declared c.tables S l u.fresh (store_in i.fr) i.α (full (signed low +ℤ pos 0)) (number_of a.E) a.form.n
      a.is a.form.scoped a.form.rest in
      let inside : Inside u.binds.body.good.scope l a.is = record { outer = S; scope = u.scope; fresh = u.fresh; scoped = a.form.scoped } in
      down-range i l (signed low) (high - low) a.E u.body a.is small good
      (kept-both (pushed-kept p low-top) (altered-kept small al g.top)) (pushed-slots p low-top) al
      (record { same = λ j k m. (altered-store small al).same j k m ∙ (pushed-store p low-top).same j k m })
      (record {
        h = a.form.h;
        next = a.form.n;
        kept = rw (first ∙ ap (at w) el, word 1 (omega arith) ∙ ap (λ s. at w (s + 1)) el) kept;
        current = low;
        value = sym zero_is;
        after = record {
          fits = rw (word 2 (omega arith)) x.right_fits;
          order = rw (word 2 (omega arith)) order;
          count = rw (word 2 (omega arith)) refl;
          lowest = refl;
        };
        depth = word 3 (omega arith) ∙ add-one g.depth ∙ ap suc (i.deep ∙ sym (site-depth i.fr));
        token = word 4 (omega arith) ∙ a.form.place;
        code = a.code;
        binds = u.binds;
        env = a.form.env;
        scoped = inside;
        rest = a.form.rest;
      })
      (some-tree i ∙ rw (count-some low high order))
      (record {
        m = number_of a.E;
        next = token (body_of c.tables a.form.h);
        place = some-body i;
        rest = record {
          i = body_of c.tables a.form.h;
          n = a.form.n;
          leads = refl;
          from = tt;
          inside = u.binds.inside;
          stands = u.binds.body;
          env = a.form.env;
          later = omega arith;
          scoped = inside-scoped inside;
          rest = fresh-rest;
        };
      }))

-- ---- `all`

-- the last value of one local is another
last-is : (σ : Store) (l h j n : ℕ) → (j ≡ l → n ≡ h) → (¬ (j ≡ l) → n ≡ σ.last j) → n ≡ (last_store l h σ).last j
last-is σ l h j n same off = go (eqb j l) refl
  where
    go : (b : Bool) → eqb j l ≡ b → n ≡ with σ.last l h j
    go true e = let z = eqb-true j l e in same z ∙ sym (ap (with σ.last l h) z ∙ with-same σ.last l h)
    go false e = let z = eqb-false j l e in off z ∙ sym (with-other σ.last l h j z)

module _ {w : Words} {g : Go} {low high : ℕ} (x : Valued w g all_code low high) where
  module _ {c : World} {b : Bytes} (i : In c b w g) where
    abbrev covered : AtForm i all_code
    covered = at-form i x.at.code (omega arith) (omega arith)

    all-tree : tree c i.fr i.x i.α ≡
        rounds_at (λ k t β. grow_at c.declared (filled covered.E covered.under.body) k t β) covered.under.l
        (λ s β. tree_items c.declared covered.is s β) (count (signed low) (signed high)) (signed low) (site_in i.fr) i.α
    unfolding grow_at fill bounded pair_of
    all-tree =
        let a = covered in
        let u = a.under in
        let s = x.sides c b i a.E a.F a.is a.x-is u.low u.high (rw u.is (refl, refl)) in
        form-tree i a ∙ rw (u.is, s.0, s.1)

    all_local : get_or w (g.due + 5) 0 ≡ covered.under.l
    all_local =
        let a = covered in
        let u = a.under in
        let p = a.form.place in
        let e : g.due + 5 ≡ token_slot (suc a.form.h) + 1 = omega arith in
        ap (λ k. get_or w k 0) e ∙ operand-kept c.tables w i.path.tables.tokens u.binds.local.0 u.binds.local.1

    all-body : get_or w (g.due + 7) 0 ≡ token_slot (body_of c.tables covered.form.h)
    all-body =
        let a = covered in
        let p = a.form.place in
        let e : g.due + 7 ≡ token_slot (suc a.form.h) + 3 = omega arith in
        ap (λ k. get_or w k 0) e ∙ i.path.tables.tokens (token_slot (suc a.form.h) + 3) (omega (arith, a.under.binds.near)) ∙ a.under.binds.leads

  pub all_near : (get_or w (g.due + 5) 0 < max_locals) × (g.due + 7 < path_at)
  all_near = let i = x.at.at.ins in (rw (all_local i) (covered i).under.binds.small, omega (arith, (covered i).form.place, (covered i).form.inside))

  pub all_none : high < low → GoesOn w g
  unfolding rounds_at
  all_none h = record {
    at = x.at.at;
    son = λ c b i. let a = covered i in (a.is, all-tree i ∙ rw (count_none low high h), next-job i a a.under.next);
  }

  pub all-begin : low ≤ high → {v mid w' : Words} {l slot : ℕ} → l ≡ get_or w (g.due + 5) 0 → slot ≡ local_slot l →
      Pushes w v g.top (at w slot ∷ at w (slot + 1) ∷ last_at w l ∷ g.due ∷ []) → Lasts v mid l high → w' ≡ set (set mid slot 1) (slot + 1) low →
      {q : Go} → q ≡ down_go g (get_or w (g.due + 7) 0) (g.top + 4) g.inner g.bad → Stepped w w' g q
  unfolding rounds_at tree_items
  all-begin order {v} {mid} {w'} {l = l₀} {slot = slot} e₀ es p ls words e = stepped x.at.at e (λ c b i.
      let a = covered i in
      let u = a.under in
      let l = u.l in
      let S = a.form.stands.good.scope in
      let σ = store_in i.fr in
      let low-top = top-low i in
      let room = top-room i in
      let small = u.binds.small in
      let l-is : l₀ ≡ l = e₀ ∙ all_local i in
      let small₀ : l₀ < max_locals = rw l-is small in
      let el : slot ≡ slot_of (local l) = es ∙ ap local_slot l-is in
      let new : Saved 1 low (full (signed low)) = (refl, sym (biased-signed low)) in
      let al : Altered mid w' (local l) (full (signed low)) =
      alter mid (local l) 1 low el small (omega (arith, p.size, ls.size)) words (full (signed low)) new in
      let good : T (in32 (signed low)) = signed-in32 low x.left_fits in
      let z = in_table (local l) small in
      let off : (j : ℕ) → firsts_at ≤ j → get_or w' j 0 ≡ get_or mid j 0 = λ j h. al.others j (λ e. omega (arith, z.high)) (λ e. omega (arith, z.high)) in
      let word : (k : ℕ) → k < 4 → get_or w' (g.top + k) 0 ≡ get_or (at w slot ∷ at w (slot + 1) ∷ last_at w l₀ ∷ g.due ∷ []) k 0 =
      λ k h. off (g.top + k) (omega arith) ∙ ls.others (g.top + k) (λ e. omega arith) ∙ p.words k h in
      let z0 : g.top + 0 ≡ g.top = omega arith in
      let first = rw z0 at (word 0 (omega arith)) in
      let kept = slot_kept i (local l) small in
      let st = i.path.stored in
      let inside : Inside u.binds.body.good.scope l a.is = record { outer = S; scope = u.scope; fresh = u.fresh; scoped = a.form.scoped } in
      let rest₁ = pend-bound c.declared c.tables S l u.fresh σ i.α (full (signed low)) (number_of a.E) a.form.n a.is a.form.scoped a.form.rest in
      let rest₂ = pend-last c.declared c.tables S l u.fresh σ (put i.α (local l) (full (signed low))) high (number_of a.E) a.form.n a.is
      a.form.scoped rest₁ in
      let envs = env-last σ l high a.E a.form.env in
      let stored : Stored c w' (last_store l high σ) = record {
        lasts = λ j h. last-is σ l high j (last_at w' j)
            (λ y. rw y (off _ (omega arith) ∙ ap (last_at mid) (sym l-is) ∙ ls.now))
            (λ n. off _ (omega arith) ∙ ls.others _ (λ e. n (omega arith)) ∙ p.low _ (omega arith) ∙ st.lasts j h);
        calls = λ K C f.
            let q = st.calls K C f in
            (q.0, q.1, framed-keep C (record { same = λ j a b. off _ (omega arith) ∙ ls.others _ (λ e. omega (arith, q.0, q.1)) ∙ p.low _ (omega (arith, q.0, q.1)) }) q.2);
      } in
      down-began i l (signed low) high small good
      (kept-both (kept-both (pushed-kept p low-top) (lasts-kept small₀ ls g.top)) (altered-kept small al g.top))
      (record { same = λ j k m. (lasts-slots small₀ ls).same j k m ∙ (pushed-slots p low-top).same j k m }) al stored
      (record {
        h = a.form.h;
        kept = rw (first ∙ ap (at w) el, word 1 (omega arith) ∙ ap (λ s. at w (s + 1)) el) kept;
        last = word 2 (omega arith) ∙ ap (last_at w) l-is ∙ st.lasts l small;
        token = word 3 (omega arith) ∙ a.form.place;
        code = a.code;
        small = omega (arith, u.binds.near);
        bound = u.binds.local.1;
      })
      (the (form a.E u.body ∷ again a.E l u.body (high - low) (signed low +ℤ pos 1) ∷ a.is))
      (all-tree i ∙ rw (count-some low high order))
      (record {
        m = number_of a.E;
        next = token (body_of c.tables a.form.h);
        place = all-body i;
        rest = record {
          i = body_of c.tables a.form.h;
          n = token (suc a.form.h);
          leads = refl;
          from = tt;
          inside = u.binds.inside;
          stands = u.binds.body;
          env = envs;
          later = omega arith;
          scoped = (u.binds.scoped, inside-scoped inside);
          rest = record {
            h = a.form.h;
            n = a.form.n;
            leads = refl;
            from = tt;
            code = a.code;
            next = u.next;
            binds = u.binds;
            left = record {
              current = low;
              value = put_same i.α (local l) (full (signed low));
              after = rw (with-same σ.last l high) (record { fits = x.right_fits; order = order; count = refl; lowest = refl });
            };
            env = envs;
            later = omega arith;
            scoped = inside;
            rest = rest₂;
          };
        };
      }))
