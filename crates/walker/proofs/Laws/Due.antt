-- What is due: the node or leaf that is visited, going up, and the end of a procedure's formula, which leads to what comes after its call; which codes
-- there are, and that each turn of the loop leaves fewer. Assumes nothing.
use Prim.Native.Nat.{ℕ, ◌≤◌, ◌<◌}
use native.Mathlib.Omega.{arith}
use mathlib.Core.Path.{◌≡◌, refl, sym, ◌∙◌, ap}
use mathlib.Core.Bool.{Bool, true, false}
use mathlib.Core.Logic.{◌⊎◌, inl, inr}
use mathlib.Core.List.{[], ◌∷◌}
use lib.ListN.{get_or}
use lib.Dec.{ltb, eqb, leb}
use borrow.Author.Tests.{eqb-true, eqb-false, leb-true, leb-false, eq-eqb, ne_eqb}
use denote.Enum.Bare.{false_same, true_same}
use Rattle.specification.specs.declared.Setting.{Setting}
use Rattle.specification.proofs.Laws.Contradiction.{contradiction}
use Rattle.specification.specs.Bytes.{Bytes, pick}
use Rattle.specification.specs.Value.{Valuation}
use Rattle.tables.specs.Layout.{token_slot, lasts_at}
use Rattle.tables.specs.Codes.{not_code, ex_code, call_code, local_code, ge_code, some_code}
use Rattle.tables.specs.Frames.{frames_at, frame_slot}
use Rattle.tables.specs.Leaves.{end_place, success_place, failure_place, error_place, rise_place, success_code, failure_code, error_code, return_code, rise_code}
use Rattle.sheet.specs.Tables.{Words}
use Rattle.search.specs.declared.Go.{Go}
use Rattle.search.specs.contracts.Mode.{the_type}
use Rattle.search.specs.declared.Mode.TheVariants as modes
use Rattle.search.specs.States.{same}
use Rattle.search.specs.Frame.{form, again, What, the, success, failure, error, store_in}
use Rattle.search.specs.Store.{Store}
use Rattle.search.specs.Path.{World}
use Rattle.search.specs.Sim.{Down, In, Up, Sim, down, up, block, done, stopped}
use Rattle.search.specs.Steps.{Stepped, HasTerms}
use Rattle.terms.proofs.Laws.Here.{code_here}
use Rattle.search.proofs.ByCode.{code-range}
use Rattle.search.proofs.Heads.{Head, here, head}
use Rattle.search.proofs.Gauges.{room-budget}
use Rattle.walker.specs.Loop.{Due, visit, rising, Dues, pending_at, pending, Came}

-- ---- places

place-known : {c : World} {w : Words} {σ : Store} {α : Valuation} {due : ℕ} (x : What) → Head c σ α due w x → ¬ (due ≡ rise_place)
place-known (the []) (inl q) e = omega arith
place-known (the (form E F ∷ is)) (inl q) e = omega (arith, q.place, q.inside)
place-known (the (again E l F k v ∷ is)) (inl q) e = omega (arith, q.place, q.binds.near)
place-known success (inl q) e = omega arith
place-known failure (inl q) e = omega arith
place-known (error κ tok) (inl q) e = omega (arith, q.0)
place-known x (inr q) e = omega (arith, q.place, q.small)

-- what a visit is due of is not the way up
pub down-place : {c : World} {b : Bytes} {w : Words} {g : Go} → Down c b w g → ¬ (g.due ≡ rise_place)
down-place {c} {b} {w} {g} q = place-known q.x (head c (store_in q.fr) q.α g.due w q.x q.job)

-- ---- the invariant by its mode

module _ {c : World} {b : Bytes} {w : Words} {g : Go} where
  pub sim-up : Sim c b w g → g.mode ≡ modes.Up → Up c b w g
  sim-up (down m q) e = contradiction cc
  sim-up (up m q) e = q
  sim-up (block m q) e = contradiction cc
  sim-up (done m q) e = contradiction cc
  sim-up (stopped m q) e = contradiction cc

  pub sim-down : Sim c b w g → g.mode ≡ modes.Down → Down c b w g
  sim-down (down m q) e = q
  sim-down (up m q) e = contradiction cc
  sim-down (block m q) e = contradiction cc
  sim-down (done m q) e = contradiction cc
  sim-down (stopped m q) e = contradiction cc

-- ---- codes

-- what has a visit has the code of a formula, of the empty list, of a leaf, of a procedure's end, or of a local
abbrev Code : ℕ → Type 0
Code n = (n ≤ return_code) ⊎ (n ≡ local_code)

module _ {c : World} {b : Bytes} {w : Words} {g : Go} (i : In c b w g) where
  leaf-code : {k : ℕ} (p : ℕ) → g.due ≡ p → get_or w p 0 ≡ k → k ≤ return_code → Code (get_or w g.due 0)
  leaf-code p e q h = inl (omega (arith, ap (λ j. get_or w j 0) e ∙ q))

  known : (x : What) → Head c (store_in i.fr) i.α g.due w x → Code (get_or w g.due 0)
  known (the []) (inl q) = leaf-code end_place q i.path.tables.leaves.end (omega arith)
  known (the (form E F ∷ is)) (inl q) =
      let r = code-range c.declared c.tables E q.h F q.n q.stands in
      leaf-code (token_slot q.h) q.place (code_here c.tables w i.path.tables.tokens q.inside) (omega (arith, r.1))
  known (the (again E l F k v ∷ is)) (inl q) =
      inr (ap (λ j. get_or w j 0) q.place ∙ code_here c.tables w i.path.tables.tokens (omega (arith, q.binds.near)) ∙ q.binds.local.0.code)
  known success (inl q) = leaf-code success_place q i.path.tables.leaves.success (omega arith)
  known failure (inl q) = leaf-code failure_place q i.path.tables.leaves.failure (omega arith)
  known (error κ tok) (inl q) = leaf-code error_place q.0 i.path.tables.leaves.error (omega arith)
  known x (inr q) = leaf-code (frame_slot q.K) q.place (i.path.tables.leaves.returns q.K q.small) (omega arith)

  code-known : Code (get_or w g.due 0)
  code-known = known i.x (here i)

  pub not-rise : ¬ (get_or w g.due 0 ≡ rise_code)
  not-rise e = go code-known
    where
      go : Code (get_or w g.due 0) → ⊥
      go (inl h) = omega arith
      go (inr h) = omega arith

-- by elimination
has-terms : (n : ℕ) → n ≤ return_code → ge_code < n → ¬ (n ≡ ex_code) → n < call_code → HasTerms n
has-terms n h k x y = go (eqb n some_code) refl
  where
    go : (b : Bool) → eqb n some_code ≡ b → HasTerms n
    go true e = inr (inl (eqb-true n some_code e))
    go false e = let z = eqb-false n some_code e in inr (inr (omega arith))

below-call : (n : ℕ) → n ≤ return_code → ¬ (n ≡ call_code) → ¬ (n ≡ success_code) → ¬ (n ≡ failure_code) → ¬ (n ≡ error_code) → ¬ (n ≡ return_code) → n < call_code
below-call n h y s f r t = omega arith

pub terms-code : {c : World} {b : Bytes} {w : Words} {g : Go} → In c b w g → (n : ℕ) → get_or w g.due 0 ≡ n → not_code < n → ¬ (n ≡ ex_code) → ¬ (n ≡ call_code) →
    ¬ (n ≡ success_code) → ¬ (n ≡ failure_code) → ¬ (n ≡ error_code) → ¬ (n ≡ return_code) → ¬ (n ≡ local_code) → HasTerms n
terms-code {w = w} {g = g} i n e low x y s f r t l = go (code-known i) (leb n ge_code) refl
  where
    go : Code (get_or w g.due 0) → (b : Bool) → leb n ge_code ≡ b → HasTerms n
    go (inr h) b z = absurd (l (sym e ∙ h))
    go (inl h) true z = inl (low, leb-true n ge_code z)
    go (inl h) false z = has-terms n (rw e at h) (leb-false n ge_code z) x (below-call n (rw e at h) y s f r t)

-- ---- what is due, by its code

module _ {c : World} {b : Bytes} {w : Words} {g : Go} where
  pub due_in : Due c b w g → ¬ (get_or w g.due 0 ≡ rise_code) → In c b w g
  due_in (visit i) n = i
  due_in (rising e u) n = absurd (n (ap (λ j. get_or w j 0) e ∙ u.path.tables.leaves.rise))

  pub due-up : Due c b w g → get_or w g.due 0 ≡ rise_code → Up c b w g
  due-up (visit i) e = absurd (not-rise i e)
  due-up (rising p u) e = u

-- ---- how often the loop turns

pending-at : (due : ℕ) → pending_at due ≤ 3
pending-at due = go (eqb due rise_place) (ltb due frames_at) (ltb due lasts_at)
  where
    go : (a b c : Bool) → pick a 3 (pick b 0 (pick c 1 0)) ≤ 3
    go true b c = omega arith
    go false true c = omega arith
    go false false true = omega arith
    go false false false = omega arith

pub pending-most : (g : Go) → pending g ≤ 3
pending-most g = go (same g.mode modes.Up)
  where
    go : (a : Bool) → pick a 2 (pending_at g.due) ≤ 3
    go true = omega arith
    go false = pending-at g.due

pub pending-up : (g : Go) → g.mode ≡ modes.Up → pending g ≡ 2
pending-up g e = rw (true_same the_type g.mode modes.Up e) refl

pub down-pending : (g : Go) → g.mode ≡ modes.Down → pending g ≡ pending_at g.due
down-pending g e = rw (false_same the_type tt g.mode modes.Up (λ z. contradiction cc)) refl

pub pending-down : (g : Go) → g.mode ≡ modes.Down → ¬ (g.due ≡ rise_place) → pending g ≤ 1
pending-down g e n =
    let z = down-pending g e in
    let r : pending_at g.due ≤ 1 = rw (ne_eqb g.due rise_place n) (go (ltb g.due frames_at) (ltb g.due lasts_at)) in
    omega (arith, z, r)
  where
    go : (b c : Bool) → pick b 0 (pick c 1 0) ≤ 1
    go true c = omega arith
    go false true = omega arith
    go false false = omega arith

pub pending-rise : (g : Go) → g.mode ≡ modes.Down → g.due ≡ rise_place → pending g ≡ 3
pending-rise g e p = down-pending g e ∙ rw (eq-eqb g.due rise_place p) refl

-- a visit leaves fewer
pub stepped-came : {w w' : Words} {g q : Go} {setting : Setting} → Dues w g setting → ¬ (get_or w g.due 0 ≡ rise_code) → Stepped w w' g q →
    Came w w' g q setting
stepped-came {g = g} {q = q} d n st =
    let i = due_in d.due n in
    let room = room-budget i.gauge i.room in
    let most = pending-most q in
    record {
      sim = λ c b s u. st.sim c b (due_in u n);
      falls = λ m. let count = st.counts m in omega (arith, d.set.budget_is);
      least = st.least;
    }
