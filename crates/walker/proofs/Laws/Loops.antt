-- The loop: a turn is a visit, going up and the limit; what is due after it, and that fewer turns are left. Assumes nothing.
use Prim.Native.Nat.{ℕ, suc, ◌+◌, ◌-◌, ◌*◌, ◌≤◌, ◌<◌}
use native.Mathlib.Omega.{arith}
use mathlib.Core.Path.{◌≡◌, refl, sym, ◌∙◌, ap}
use mathlib.Core.Bool.{Bool, true, false}
use mathlib.Core.Logic.{◌⊎◌, inl, inr}
use lib.ListN.{get_or}
use lib.Dec.{eqb}
use borrow.Author.Tests.{eq-eqb, ne_eqb, eqb-true, eqb-false}
use denote.Enum.Bare.{false_same, same_false, same_true, true_same}
use Rattle.specification.specs.declared.Setting.{Setting}
use Rattle.specification.proofs.Laws.Contradiction.{contradiction}
use Rattle.specification.specs.Bytes.{Bytes, pick}
use Rattle.tables.specs.Leaves.{rise_code}
use Rattle.sheet.specs.Tables.{Words}
use Rattle.search.specs.declared.Go.{Go}
use Rattle.search.specs.declared.Mode.{Mode}
use Rattle.search.specs.contracts.Mode.{the_type}
use Rattle.search.specs.declared.Mode.TheVariants as modes
use Rattle.search.specs.States.{same}
use Rattle.search.specs.Path.{World}
use Rattle.search.specs.Sim.{Down, Up, Sim, up, stopped}
use Rattle.search.specs.Registers.{tallied, out_go}
use Rattle.search.specs.Climb.{Set, Rises}
use Rattle.search.proofs.Gauges.{room-budget}
use Rattle.search.proofs.Visits.{down-in}
use Rattle.walker.specs.Steps.{SteppedWithin}
use Rattle.walker.specs.Climbing.{Climbed}
use Rattle.walker.specs.Loop.{Due, visit, rising, Dues, pending, measure, Came, Simulates, Risen, limit, Turned, Going, goes, left}
use Rattle.walker.proofs.Laws.Due.{not-rise, sim-up, sim-down, down-place, due_in, due-up, pending-most, pending-up, pending-down, pending-rise}

-- ---- visits with the limits, and the way up

pub within-came : {w w' : Words} {g q : Go} {setting : Setting} → Dues w g setting → ¬ (get_or w g.due 0 ≡ rise_code) → SteppedWithin w w' g q setting →
    Came w w' g q setting
within-came {q = q} d n st =
    let i = due_in d.due n in
    let room = room-budget i.gauge i.room in
    let most = pending-most q in
    record {
      sim = λ c b s u. st.sim c b s (due_in u n);
      falls = λ m. let count = st.counts m in omega (arith, d.set.budget_is);
      least = st.least;
    }

out-up : {c : World} {b : Bytes} {w : Words} {g : Go} (mode : Mode) → Up c b w g → Up c b w (out_go g mode)
out-up mode u = record {
  fr = u.fr;
  α = u.α;
  e = u.e;
  path = u.path;
  inner = u.inner;
  bad = u.bad;
  counted = u.counted;
  tallies = record { fits = u.tallies.fits; budget = u.tallies.budget; leaves = u.tallies.leaves };
  result = u.result;
}

pub rise-came : {w : Words} {g q : Go} {setting : Setting} → Dues w g setting → get_or w g.due 0 ≡ rise_code → q ≡ out_go g modes.Up → Came w w g q setting
rise-came {w} {g} {setting = setting} d code e = rw e (record {
  sim = λ c b s u. up refl (out-up modes.Up (due-up u code));
  falls = λ m. go d.due;
  least = omega arith;
})
  where
    go : Due d.c d.b w g → 4 * (setting.budget - (tallied g).nodes) + pending (out_go g modes.Up) < 4 * (setting.budget - (tallied g).nodes) + pending g
    go (visit i) = absurd (not-rise i code)
    go (rising p u) = omega (arith, pending-up (out_go g modes.Up) refl, pending-rise g d.mode p)

-- ---- going up

pub risen-rises : {w : Words} {g : Go} {setting : Setting} → Simulates w g setting → g.mode ≡ modes.Up → Rises w g setting
risen-rises s m = record { c = s.c; b = s.b; set = s.set; mode = m; up = sim-up s.sim m }

pub risen-none : {w : Words} {g q : Go} {setting : Setting} → ¬ (g.mode ≡ modes.Up) → q ≡ g → Risen w w g q setting
risen-none n e = rw e (record { sim = λ c b s i. i; stops = n; falls = λ m. inl refl; least = omega arith })

pub risen-climbed : {w w' : Words} {g q : Go} {setting : Setting} → Simulates w g setting → g.mode ≡ modes.Up → Climbed w w' g q setting → Risen w w' g q setting
risen-climbed {g = g} {q = q} s m cl =
    let u = sim-up s.sim m in
    record {
      sim = λ c b k i. cl.sim c b k (sim-up i m);
      stops = cl.stops;
      falls = λ z.
          let q-down = sim-down (cl.sim s.c s.b s.set u) z in
          let few = pending-down q z (down-place q-down) in
          let two = pending-up g m in
          let same = ap (λ t. t.nodes) cl.nodes in
          inr (m, omega (arith, few, two, same, cl.counted, u.counted));
      least = let same = ap (λ t. t.nodes) cl.nodes in omega (arith, same, u.counted);
    }

-- ---- the limit

out-down : {c : World} {b : Bytes} {w : Words} {g : Go} (mode : Mode) → Down c b w g → Down c b w (out_go g mode)
out-down mode q = record {
  x = q.x;
  fr = q.fr;
  α = q.α;
  e = q.e;
  path = q.path;
  deep = q.deep;
  inner = q.inner;
  bad = q.bad;
  job = q.job;
  gauge = record {
    tallies = record { fits = q.gauge.tallies.fits; budget = q.gauge.tallies.budget; leaves = q.gauge.tallies.leaves };
    begun = q.gauge.begun;
    below = q.gauge.below;
    stop = q.gauge.stop;
  };
  result = q.result;
}

-- the limit by what was tested
pub limit-other : (g : Go) → ¬ (g.mode ≡ modes.Down) → limit g ≡ g
limit-other g n = rw (false_same the_type tt g.mode modes.Down n) refl

pub limit-stop : (g : Go) → g.mode ≡ modes.Down → g.depth ≡ g.stop → limit g ≡ out_go g modes.Stopped
limit-stop g m e = rw (true_same the_type g.mode modes.Down m, eq-eqb g.depth g.stop e) refl

pub limit-room : (g : Go) → g.mode ≡ modes.Down → ¬ (g.depth ≡ g.stop) → limit g ≡ g
limit-room g m n = rw (true_same the_type g.mode modes.Down m, ne_eqb g.depth g.stop n) refl

-- what is said of the limit, by cases
module _ (Q : Go → Type 0) (g : Go) where
  limit-cases : (¬ (g.mode ≡ modes.Down) → Q g) → (g.mode ≡ modes.Down → g.depth ≡ g.stop → Q (out_go g modes.Stopped)) →
      (g.mode ≡ modes.Down → ¬ (g.depth ≡ g.stop) → Q g) → Q (limit g)
  limit-cases a b c = go (same g.mode modes.Down) refl (eqb g.depth g.stop) refl
    where
      go : (x : Bool) → same g.mode modes.Down ≡ x → (y : Bool) → eqb g.depth g.stop ≡ y → Q (limit g)
      go false e y f = let n = same_false the_type g.mode modes.Down e in rw (limit-other g n) (a n)
      go true e true f =
          let m = same_true the_type tt g.mode modes.Down e in
          let s = eqb-true g.depth g.stop f in
          rw (limit-stop g m s) (b m s)
      go true e false f =
          let m = same_true the_type tt g.mode modes.Down e in
          let s = eqb-false g.depth g.stop f in
          rw (limit-room g m s) (c m s)

limit-sim : {c : World} {b : Bytes} {w : Words} {g : Go} → Sim c b w g → Sim c b w (limit g)
limit-sim {c} {b} {w} {g} i = limit-cases (Sim c b w) g
    (λ n. i)
    (λ m e. stopped refl (record { down = out-down modes.Stopped (sim-down i m); limit = e }))
    (λ m n. i)

-- ---- one turn

pub turn-simulates : {w w' : Words} {g q : Go} {setting : Setting} → Dues w g setting → Came w w' g q setting → Simulates w' q setting
turn-simulates d came = record { c = d.c; b = d.b; set = d.set; sim = came.sim d.c d.b d.set d.due }

pub turned : {w w1 w' : Words} {g v r q : Go} {setting : Setting} → Came w w1 g v setting → Risen w1 w' v r setting → q ≡ limit r → Turned w w' g q setting
turned {w} {w1} {w'} {g} {v} {r} {q} {setting} came ris e = rw e (record {
  sim = λ c b s u. limit-sim (ris.sim c b s (came.sim c b s u));
  stops = limit-cases (λ z. ¬ (z.mode ≡ modes.Up)) r (λ n. ris.stops) (λ m s k. contradiction cc) (λ m s. ris.stops);
  room = limit-cases (λ z. z.mode ≡ modes.Down → ¬ (z.depth ≡ z.stop)) r (λ n m. absurd (n m)) (λ m s k. contradiction cc) (λ m s k. s);
  falls = limit-cases (λ z. z.mode ≡ modes.Down → measure setting.budget z < measure setting.budget g) r (λ n m. absurd (n m)) (λ m s k. contradiction cc) (λ m s k. go m (ris.falls m));
  least = let z = came.least in let y = ris.least in limit-cases (λ z. (tallied g).nodes ≤ (tallied z).nodes) r (λ n. omega arith) (λ m s. omega arith) (λ m s. omega arith);
})
  where
    go : r.mode ≡ modes.Down → (r ≡ v) ⊎ ((v.mode ≡ modes.Up) × (measure setting.budget r < measure setting.budget v)) → measure setting.budget r < measure setting.budget g
    go m (inl z) = rw z (came.falls (inl (sym (ap (λ x. x.mode) z) ∙ m)))
    go m (inr z) = let f = came.falls (inr z.0) in omega (arith, z.1, f)

-- ---- all turns

-- a visit that is due is within the limits
room-due : {c : World} {b : Bytes} {w : Words} {g : Go} → Down c b w g → ¬ (g.depth ≡ g.stop) → Due c b w g
room-due q n = visit (down-in q (omega (arith, q.gauge.below)))

pub going-first : {c : World} {b : Bytes} {w : Words} {g : Go} → g.mode ≡ modes.Down → Down c b w g → Going c b w (limit g)
going-first {c} {b} {w} {g} m q = limit-cases (Going c b w) g
    (λ n. absurd (n m))
    (λ k e. left (λ z. contradiction cc) (λ z. contradiction cc) (stopped refl (record { down = out-down modes.Stopped q; limit = e })))
    (λ k n. goes m (room-due q n))

pub going-due : {c : World} {b : Bytes} {w : Words} {g : Go} → Going c b w g → g.mode ≡ modes.Down → Due c b w g
going-due (goes m d) e = d
going-due (left n k i) e = absurd (n e)

pub going-sim : {c : World} {b : Bytes} {w : Words} {g : Go} → Going c b w g → ¬ (g.mode ≡ modes.Down) → Sim c b w g
going-sim (goes m d) n = absurd (n m)
going-sim (left k j i) n = i

pub going-up : {c : World} {b : Bytes} {w : Words} {g : Go} → Going c b w g → ¬ (g.mode ≡ modes.Up)
going-up (goes m d) e = contradiction cc
going-up (left n k i) e = k e

pub going_next : {c : World} {b : Bytes} {w w' : Words} {g q : Go} {setting : Setting} → Set c setting → Turned w w' g q setting → Due c b w g → Going c b w' q
going_next {c} {b} {w} {w'} {g} {q} s t u = go (same q.mode modes.Down) refl
  where
    go : (x : Bool) → same q.mode modes.Down ≡ x → Going c b w' q
    go true e = let m = same_true the_type tt q.mode modes.Down e in goes m (room-due (sim-down (t.sim c b s u) m) (t.room m))
    go false e = left (same_false the_type q.mode modes.Down e) t.stops (t.sim c b s u)

-- the loop's measure: how often it turns, and once more
abbrev pub turns : ℕ → Go → ℕ
turns budget g = pick (same g.mode modes.Down) (suc (measure budget g)) 0

pub turns-fall : {w w' : Words} {g q : Go} {setting : Setting} → g.mode ≡ modes.Down → Turned w w' g q setting → turns setting.budget q < turns setting.budget g
turns-fall {g = g} {q = q} {setting = setting} m t = go (same q.mode modes.Down) refl
  where
    more : turns setting.budget g ≡ suc (measure setting.budget g)
    more = rw (true_same the_type g.mode modes.Down m) refl

    go : (x : Bool) → same q.mode modes.Down ≡ x → turns setting.budget q < turns setting.budget g
    go true e = let k = same_true the_type tt q.mode modes.Down e in let z : turns setting.budget q ≡ suc (measure setting.budget q) = rw e refl in omega (arith, more, z, t.falls k)
    go false e = let z : turns setting.budget q ≡ 0 = rw e refl in omega (arith, more, z)
