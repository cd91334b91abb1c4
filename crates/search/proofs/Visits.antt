-- A visit that no limit stops, and the end of a procedure's formula, whose place stands for what comes after the call. Assumes nothing.
use Prim.Native.Nat.{ℕ, suc, ◌≤◌, ◌<◌}
use native.Mathlib.Omega.{arith}
use mathlib.Core.Path.{◌≡◌, refl, sym, ◌∙◌}
use borrow.Author.Tests.{ne_eqb, le-ltb}
use Rattle.specification.specs.declared.Tallies.{Tallies}
use Rattle.specification.specs.Bytes.{Bytes}
use Rattle.specification.specs.Run.{Conditions, add_node}
use Rattle.sheet.specs.Tables.{Words}
use Rattle.search.specs.declared.Go.{Go}
use Rattle.search.specs.Walk.{Next, gated}
use Rattle.search.specs.Frame.{store_in}
use Rattle.search.specs.Path.{World, conditions_of, Job}
use Rattle.search.specs.Sim.{Down, In}
use Rattle.search.specs.Registers.{tallied, to_go}
use Rattle.search.proofs.Gauges.{room_path, room-budget}

-- ---- the two limits

gate-open : (C : Conditions) (d : ℕ) (k : Next) (t : Tallies) (b : Bytes) → ¬ (t.nodes ≡ C.setting.budget) → d ≤ C.setting.path → gated C d k t b ≡ k (add_node t) b
unfolding gated
gate-open C d k t b n h = rw (ne_eqb t.nodes C.setting.budget n, le-ltb C.setting.path d h) refl

module _ {c : World} {b : Bytes} {w : Words} {g : Go} where
  pub down-in : Down c b w g → g.depth < g.stop → In c b w g
  down-in q room = record {
    x = q.x;
    fr = q.fr;
    α = q.α;
    e = q.e;
    path = q.path;
    deep = q.deep;
    inner = q.inner;
    bad = q.bad;
    job = q.job;
    gauge = q.gauge;
    room = room;
    result =
        let n = room-budget q.gauge room in
        let d = room_path q.gauge room in
        sym (gate-open (conditions_of c) (suc g.depth) _ (tallied g) b (λ z. omega arith) (omega arith)) ∙ q.result;
  }

  -- another place stands for the same
  pub in-at : (i : In c b w g) (t : ℕ) → Job c w (store_in i.fr) i.α t i.x → Down c b w (to_go g t)
  in-at q t j = record {
    x = q.x;
    fr = q.fr;
    α = q.α;
    e = q.e;
    path = q.path;
    deep = q.deep;
    inner = q.inner;
    bad = q.bad;
    job = j;
    gauge = record {
      tallies = record { fits = q.gauge.tallies.fits; budget = q.gauge.tallies.budget; leaves = q.gauge.tallies.leaves };
      begun = q.gauge.begun;
      below = q.gauge.below;
      stop = q.gauge.stop;
    };
    result =
        let n = room-budget q.gauge q.room in
        let d = room_path q.gauge q.room in
        gate-open (conditions_of c) (suc g.depth) _ (tallied g) b (λ z. omega arith) (omega arith) ∙ q.result;
  }
