-- The end of a procedure's formula, which is no node: what comes after the call is due, and the loop turns once for it. Assumes nothing.
use Prim.Native.Nat.{ℕ, suc, ◌+◌, ◌<◌}
use native.Mathlib.Omega.{arith}
use mathlib.Core.Path.{◌≡◌, refl, sym, ◌∙◌, ap, subst}
use mathlib.Core.List.{List, [], ◌∷◌}
use lib.ListN.{get_or}
use borrow.Author.Tests.{ne_eqb, lt-ltb, le-ltb}
use Rattle.specification.specs.declared.Setting.{Setting}
use Rattle.specification.specs.Bytes.{Bytes}
use Rattle.specification.specs.Lines.{Declared}
use Rattle.specification.specs.Value.{Valuation}
use Rattle.tables.specs.Layout.{token_slot, lasts_at}
use Rattle.tables.specs.Frames.{frames_at, frame_slot}
use Rattle.tables.specs.Leaves.{rise_place, return_code, rise_code}
use Rattle.sheet.specs.Tables.{Words}
use Rattle.plan.specs.Next.{Next, back, place_of, From}
use Rattle.search.specs.declared.Go.{Go}
use Rattle.search.specs.Frame.{Item, form, again, store_in}
use Rattle.search.specs.Store.{Store, resolve}
use Rattle.search.specs.Pend.{Pend}
use Rattle.search.specs.Path.{World, Job}
use Rattle.search.specs.Sim.{Down, In, down}
use Rattle.search.specs.Registers.{to_go}
use Rattle.search.proofs.Heads.{Return, at_return}
use Rattle.search.proofs.Called.{pend-plain, frame_back}
use Rattle.search.proofs.Visits.{in-at}
use Rattle.walker.specs.Loop.{Dues, pending_at, Came}
use Rattle.walker.proofs.Laws.Due.{due_in, down-pending}

-- ---- what a procedure's end leads to stands for the same items

module _ (D : Declared) (t : Words) (σ : Store) (α : Valuation) where
  pend-resolved : (m : ℕ) (x : Next) (is : List Item) → Pend D t σ α m x is → Pend D t σ α m (resolve σ x) is
  pend-resolved m x [] q = (ap (resolve σ) q.0, subst (From m) (sym q.0) tt)
  pend-resolved m x (form E F ∷ is) q = record {
    i = q.i;
    n = q.n;
    leads = ap (resolve σ) q.leads;
    from = subst (From m) (sym q.leads) tt;
    inside = q.inside;
    stands = q.stands;
    env = q.env;
    later = q.later;
    scoped = q.scoped;
    rest = q.rest;
  }
  pend-resolved m x (again E l F k v ∷ is) q = record {
    h = q.h;
    n = q.n;
    leads = ap (resolve σ) q.leads;
    from = subst (From m) (sym q.leads) tt;
    code = q.code;
    next = q.next;
    binds = q.binds;
    left = q.left;
    env = q.env;
    later = q.later;
    scoped = q.scoped;
    rest = q.rest;
  }

  -- a token or the end of a list
  pending-none : (due : ℕ) → ¬ (due ≡ rise_place) → (due < frames_at) → pending_at due ≡ 0
  pending-none due n h = rw (ne_eqb due rise_place n, lt-ltb due frames_at h) refl

  pend-pending : (m : ℕ) (x : Next) (is : List Item) → Pend D t σ α m x is → pending_at (place_of (resolve σ x)) ≡ 0
  pend-pending m x [] q = rw q.0 refl
  pend-pending m x (form E F ∷ is) q = let h = q.inside in rw q.leads (pending-none (token_slot q.i) (λ e. omega arith) (omega arith))
  pend-pending m x (again E l F k v ∷ is) q =
      let h = q.binds.near in rw q.leads (pending-none (token_slot (suc q.h)) (λ e. omega arith) (omega arith))

-- ---- the turn

module _ {c : World} {b : Bytes} {w : Words} {g : Go} (i : In c b w g) (code : get_or w g.due 0 ≡ return_code) where
  abbrev end-here : Return c (store_in i.fr) i.α g.due w i.x
  end-here = at_return i code

  abbrev leads-to : Next
  leads-to = resolve (store_in i.fr) (back end-here.K)

  leads-place : get_or w (g.due + 1) 0 ≡ place_of leads-to
  leads-place =
      let r = end-here in
      let σ = store_in i.fr in
      ap (λ j. get_or w (j + 1) 0) r.place
      ∙ frame_back i r.K r.small (σ.calls r.K) refl (pend-plain c.declared c.tables σ i.α r.m (back r.K) r.is r.rest)

  pub returned : Down c b w (to_go g (get_or w (g.due + 1) 0))
  returned =
      let r = end-here in
      in-at i (get_or w (g.due + 1) 0) (subst (Job c w (store_in i.fr) i.α (get_or w (g.due + 1) 0)) (sym r.the-is) (record {
        m = r.m;
        next = leads-to;
        place = leads-place;
        rest = pend-resolved c.declared c.tables (store_in i.fr) i.α r.m (back r.K) r.is r.rest;
      }))

  pub return-pending : pending_at (get_or w (g.due + 1) 0) ≡ 0
  return-pending =
      let r = end-here in
      ap pending_at leads-place ∙ pend-pending c.declared c.tables (store_in i.fr) i.α r.m (back r.K) r.is r.rest

  pub end-pending : pending_at g.due ≡ 1
  end-pending =
      let r = end-here in
      let h = r.small in
      rw (r.place, ne_eqb (frame_slot r.K) rise_place (λ e. omega arith), le-ltb (frame_slot r.K) frames_at (omega arith), lt-ltb (frame_slot r.K) lasts_at (omega arith)) refl

pub returned-came : {w : Words} {g q : Go} {setting : Setting} {place : ℕ} → Dues w g setting → get_or w g.due 0 ≡ return_code → place ≡ get_or w (g.due + 1) 0 →
    q ≡ to_go g place → Came w w g q setting
returned-came {w} {g} d code at e =
    let n : ¬ (get_or w g.due 0 ≡ rise_code) = λ z. omega arith in
    let i = due_in d.due n in
    let t = get_or w (g.due + 1) 0 in
    let before = down-pending g d.mode ∙ end-pending i code in
    let after = down-pending (to_go g t) d.mode ∙ return-pending i code in
    rw (e ∙ ap (to_go g) at) (record {
      sim = λ c b s u. down d.mode (returned (due_in u n) code);
      falls = λ m. omega (arith, before, after);
      least = omega arith;
    })
