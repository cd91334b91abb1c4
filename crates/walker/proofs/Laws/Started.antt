-- The plan of the tables, the start of the walk, the leaves that it comes to and its end. Assumes nothing.
use Prim.Native.Nat.{ℕ, suc, ◌-◌, ◌≤◌, ◌<◌}
use native.Mathlib.Omega.{arith}
use native.Mathlib.Numerals.{add-one}
use mathlib.Core.Path.{◌≡◌, refl, sym, ap, ◌∙◌, subst}
use mathlib.Core.Bool.{Bool, true, false}
use mathlib.Core.List.{[], ◌∷◌, ◌++◌}
use lib.ListN.{length, drop}
use lib.Dec.{eqb}
use borrow.Author.Tests.{eq-eqb, ne_eqb, eqb-true, eqb-false, lt-ltb}
use denote.Enum.Bare.{true_same}
use Rattle.specification.specs.declared.End.{End}
use Rattle.specification.specs.declared.Tallies.{Tallies}
use Rattle.specification.specs.Bytes.{Bytes, pick}
use Rattle.specification.specs.Sheet.{Sheet}
use Rattle.specification.specs.Place.{cell, local}
use Rattle.specification.specs.WellFormed.{nowhere}
use Rattle.specification.specs.Run.{Conditions, conditions, tallies, going, stopped, spent, path, output}
use Rattle.specification.specs.Outcome.{ran, result_of, start, run_of, ended, output_after}
use Rattle.specification.proofs.Laws.Start.{start-valid}
use Rattle.specification.proofs.Laws.Contradiction.{contradiction}
use Rattle.tables.specs.Layout.{max_tokens, token_slot}
use Rattle.sheet.specs.Tables.{Words}
use Rattle.sheet.specs.Held.{proc_at, end_at, InOrder}
use Rattle.sheet.proofs.Ranged.{ranges-keep}
use Rattle.plan.specs.Next.{end, token}
use Rattle.plan.specs.Plans.{Lined, Plans, Planned}
use Rattle.plan.proofs.Laws.Here.{formula-ends, formula-kept, procedures-kept}
use Rattle.search.specs.declared.Go.{Go}
use Rattle.search.specs.contracts.Mode.{the_type}
use Rattle.search.specs.declared.Mode.TheVariants as modes
use Rattle.search.specs.States.{same}
use Rattle.search.specs.Marks.{marks_in, Marks}
use Rattle.search.specs.Walk.{Next, walk, gated}
use Rattle.search.specs.Frame.{form, the}
use Rattle.search.specs.Stands.{Good}
use Rattle.search.specs.Path.{World, conditions_of}
use Rattle.search.specs.Sim.{Down, Leaf, Over, Stopped, Sim, down, up, block, done, stopped as stopped_sim}
use Rattle.search.specs.Registers.{tallied, start_go}
use Rattle.search.proofs.Gauges.{room-budget}
use Rattle.search.proofs.Slots.{holds-keep}
use Rattle.search.proofs.Walk.{walk-run}
use Rattle.search.proofs.Alike.{fill_none}
use Rattle.search.proofs.Sited.{root-sited}
use Rattle.walker.specs.declared.State.{State}
use Rattle.walker.specs.declared.Task.{Task}
use Rattle.walker.specs.Loop.{limit, Going, Goings, Advanced}
use Rattle.walker.specs.Walks as walks
use Rattle.walker.specs.Walks.{Goes, starts, overflows, Counted, Came, leaf, SetBy, Onwards, Onward}
use Rattle.walker.specs.Blocks.{Output, Fixed, BlockDue, Blocked}
use Rattle.walker.specs.Walked.{Ready, Prepared, end_by, Finished, Walked}
use Rattle.walker.proofs.Laws.Loops.{going-first}

-- ---- the plan

lined : {w : Words} {t : Task} (s : Sheet) → Ready w t s → Lined w t.formula s
lined s a = record { well = a.well; formula = a.formula; procedures = a.procedures; order = a.order }

pub ready-plans : {w : Words} {t : Task} (s : Sheet) → Ready w t s → Plans w t.formula
ready-plans s a = record { sheet = s; lined = lined s a; size = omega (arith, a.size) }

-- what holds of the tables holds of the planned ones
module _ {w v : Words} (t : Task) (p : Planned w v t.formula) where
  proc-same : (K : ℕ) → K < 16 → proc_at v K ≡ proc_at w K
  proc-same K h = p.cells _ (omega arith) (omega arith)

  order-kept : (s : Sheet) → Ready w t s → length s.declared.procedures ≤ 16 → InOrder v (length s.declared.procedures) t.formula
  order-kept s a few =
      let ends : (K : ℕ) → K < length s.declared.procedures → end_at v (proc_at v K) ≡ end_at w (proc_at w K) =
      λ K h. ap (end_at v) (proc-same K (omega arith)) ∙ p.tokens.end (proc_at w K) (a.procedures K h).inside in
      record {
        none = a.order.none;
        first = λ h. proc-same 0 (omega arith) ∙ a.order.first h;
        next = λ K h. proc-same (suc K) (omega arith) ∙ a.order.next K h ∙ sym (ends K (omega arith));
        last = λ K e. a.order.last K e ∙ sym (ends K (omega arith));
        before = λ K h. rw (proc-same K (omega arith)) (a.order.before K h);
      }

  pub prepared : (s : Sheet) → Ready w t s → Prepared v t s
  prepared s a =
      let few = a.well.limits.procedures in
      record {
        ready = record {
          well = a.well;
          formula = formula-kept p.tokens s.formula t.formula a.formula;
          shallow = a.shallow;
          procedures = procedures-kept p.tokens (λ j h k. p.cells j (omega arith) (omega arith)) s.declared few a.procedures;
          order = order-kept s a few;
          holds = holds-keep (record { same = λ j k m. p.cells j k (omega arith) }) a.holds;
          marked = record {
            cells = λ c h e. p.cells _ (omega arith) (omega arith) ∙ a.marked.cells c h e;
            locals = λ l h e. p.cells _ (omega arith) (omega arith) ∙ a.marked.locals l h e;
          };
          firsts = λ n h. p.cells _ (omega arith) (omega (arith, a.well.limits.arrays)) ∙ a.firsts n h;
          ranges = ranges-keep (record { lowest = λ j h. p.cells _ (omega arith) (omega arith); highest = λ j h. p.cells _ (omega arith) (omega arith) }) a.ranges;
          lasts = λ l h. p.lasts l h ∙ a.lasts l h;
          scalar_count = a.scalar_count;
          array_count = a.array_count;
          limit = a.limit;
          size = rw p.size a.size;
        };
        formula = p.formula s (lined s a);
        procedures = λ K h. rw (proc-same K (omega (arith, few))) (p.procedures s (lined s a) K h);
        leaves = p.leaves;
      }

-- ---- the start

-- what the run of a sheet is about
abbrev pub world_of : Words → Bytes → Task → Sheet → World
world_of w o t s =
    record { tables = w; declared = s.declared; setting = t.setting; size = length o; result = run_of s t.setting (length o) }

pub start_small : {w : Words} {t : Task} (s : Sheet) → Ready w t s → t.formula < max_tokens
start_small {w} {t} s a = let e = formula-ends w t.formula s.formula a.formula in omega (arith, e.after, e.inside)

module _ (o : Bytes) {w : Words} {t : Task} (s : Sheet) (p : Prepared w t s) where
  pub world-fixed : Fixed (world_of w o t s) t o
  world-fixed = record { setting = refl; size = refl; scalar_count = p.ready.scalar_count; array_count = p.ready.array_count }

  pub world-set : SetBy (world_of w o t s) t
  world-set = record { path_is = refl; budget_is = refl }

  start-down : t.setting.budget < 4294967296 → Down (world_of w o t s) [] w (start_go (token_slot t.formula) t.setting)
  start-down fits = let a = p.ready in record {
    x = the (form [] s.formula ∷ []);
    fr = [];
    α = start s.given;
    e = false;
    path = record {
      tables = record {
        size = a.size;
        limit = a.limit;
        tokens = λ j h. refl;
        arrays = a.firsts;
        ranges = a.ranges;
        cells = a.well.limits.cells;
        few = a.well.limits.arrays;
        leaves = p.leaves;
        procedures = record {
          none = a.well.limits.parameters;
          few = a.well.limits.procedures;
          ok = a.well.procedures;
          bodies = λ K h. record { held = a.procedures K h; planned = p.procedures K h };
          same = λ K h. refl;
        };
      };
      ends = refl;
      inside = omega arith;
      stack = tt;
      chain = tt;
      holds = a.holds;
      marks = marked;
      stored = record { lasts = a.lasts; calls = λ K C e. contradiction cc };
      valid = start-valid s.declared s.given a.well.values;
    };
    deep = refl;
    inner = refl;
    bad = refl;
    job = record {
      m = 0;
      next = token t.formula;
      place = refl;
      rest = record {
        i = t.formula;
        n = end;
        leads = refl;
        from = tt;
        inside = start_small s a;
        stands = record { held = a.formula; good = start-good; planned = p.formula };
        env = tt;
        later = omega arith;
        scoped = tt;
        rest = (refl, tt);
      };
    };
    gauge = record {
      tallies = record { fits = fits; budget = omega arith; leaves = omega arith };
      begun = omega arith;
      below = omega arith;
      stop = omega arith;
    };
    result = ap (λ T. walk (conditions s.declared t.setting (length o)) false 1 T (λ t w. going t w) (λ e t w. going t w) false (tallies 0 0 0 0) [])
        (root-sited s.declared s.formula a.well.formula (start s.given)) ∙ sym (walk-run s t.setting (length o));
  }
    where
      start-good : Good s.declared [] s.formula
      start-good = record {
        scope = nowhere;
        locals = λ l h. absurd h;
        ok = rw (fill_none s.formula) p.ready.well.formula;
        shallow = p.ready.shallow;
      }

      marked : Marks w (start s.given) (marks_in s.declared (λ p. 0))
      marked (cell c) h e = rw add-one (p.ready.marked.cells c h e)
      marked (local l) h e = rw add-one (p.ready.marked.locals l h e)

  -- the first state, at its limit or not
  pub start-going : t.setting.budget < 4294967296 → {q g : Go} {place : ℕ} → place ≡ token_slot t.formula →
      g ≡ start_go place t.setting → q ≡ limit g → Going (world_of w o t s) [] w q
  start-going fits {q} {g} pl e f =
      let z = f ∙ ap limit (e ∙ ap (λ j. start_go j t.setting) pl) in
      subst (λ x. Going (world_of w o t s) [] w x) (sym z) (going-first refl (start-down fits))

-- ---- from leaf to leaf

-- the search goes on
pub onward-goings : {w : Words} {s : State} {t : Task} → Onwards w s t → ¬ (s.go.mode ≡ modes.Full) → Goings w s.go t.setting
onward-goings {w} {s} {t} a n = go a.goes
  where
    go : Goes a.c a.b w s → Goings w s.go t.setting
    go (starts m x) = record { c = a.c; b = a.b; set = a.set; going = x }
    go (overflows m r f) = absurd (n m)

sim-came : {c : World} {b : Bytes} {w : Words} {g : Go} {q : State} → q.go ≡ g → ¬ (g.mode ≡ modes.Down) → ¬ (g.mode ≡ modes.Up) → Sim c b w g → Came c b w q
sim-came e n k (down m i) = absurd (n m)
sim-came e n k (up m i) = absurd (k m)
sim-came {c} {b} {w} {g} {q} e n k (block m i) = leaf (ap (λ x. x.mode) e ∙ m) (subst (λ x. Leaf c b w x) (sym e) i)
sim-came {c} {b} {w} {g} {q} e n k (done m i) = walks.done (ap (λ x. x.mode) e ∙ m) (subst (λ x. Over c b x) (sym e) i)
sim-came {c} {b} {w} {g} {q} e n k (stopped_sim m i) = walks.stops (ap (λ x. x.mode) e ∙ m) (subst (λ x. Stopped c b w x) (sym e) i)

pub onward-went : {w w' : Words} {s q : State} {t : Task} {g : Go} → Advanced w w' s.go g t.setting →
    q.go ≡ g → q.written ≡ s.written → ¬ (s.go.mode ≡ modes.Full) → Onward w w' s q t
onward-went {w} {w'} {s} {q} {t} v e n f = record {
  came = λ c b k x. go k x;
  same = n;
  least = let z = ap (λ x. (tallied x).nodes) e in omega (arith, z, v.least);
}
  where
    go : {c : World} {b : Bytes} → SetBy c t → Goes c b w s → Came c b w' q
    go k (starts m x) = sim-came e v.over v.stops (v.sim _ _ k x)
    go k (overflows m r j) = absurd (f m)

pub onward-full : {w : Words} {s q : State} {t : Task} → s.go.mode ≡ modes.Full → q ≡ s → Onward w w s q t
onward-full {w} {s} {q} {t} m e = rw e (record { came = λ c b k x. go x; same = refl; least = omega arith })
  where
    go : {c : World} {b : Bytes} → Goes c b w s → Came c b w s
    go (starts n x) = absurd (n m)
    go (overflows d r j) = walks.overflowed d r j

came-leaf : {c : World} {b : Bytes} {w : Words} {s : State} → Came c b w s → s.go.mode ≡ modes.Block → Leaf c b w s.go
came-leaf (leaf m l) e = l
came-leaf (walks.done m o) e = contradiction cc
came-leaf (walks.stops m o) e = contradiction cc
came-leaf (walks.overflowed m r j) e = contradiction cc

-- ---- the end

-- all visits are counted
counted-tallied : (g : Go) → g.from ≡ g.depth → tallied g ≡ g.tallies
counted-tallied g e = ap (λ n. tallies n g.tallies.answers g.tallies.errors g.tallies.fails) (omega arith)

gate-spent : (C : Conditions) (d : ℕ) (k : Next) (t : Tallies) (b : Bytes) → t.nodes ≡ C.setting.budget → gated C d k t b ≡ stopped spent t b
unfolding gated
gate-spent C d k t b e = rw (eq-eqb t.nodes C.setting.budget e) refl

gate-path : (C : Conditions) (d : ℕ) (k : Next) (t : Tallies) (b : Bytes) → ¬ (t.nodes ≡ C.setting.budget) → C.setting.path < d → gated C d k t b ≡ stopped path t b
unfolding gated
gate-path C d k t b n h = rw (ne_eqb t.nodes C.setting.budget n, lt-ltb C.setting.path d h) refl

-- the run of the world's sheet, as the registers tell it
abbrev Ended : World → Bytes → Task → Go → Type 0
Ended c b t g = ran (end_by g.mode (tallied g).nodes t.setting.budget) (tallied g) b ≡ result_of c.result

end-done : (c : World) (b : Bytes) (t : Task) (g : Go) → g.mode ≡ modes.Done → Over c b g → Ended c b t g
end-done c b t g m o = rw (m, counted-tallied g o.counted) (ap result_of o.result)

end-full : (c : World) (b : Bytes) (t : Task) (g : Go) → g.mode ≡ modes.Full → stopped output (tallied g) b ≡ c.result → Ended c b t g
end-full c b t g m r = rw m (ap result_of r)

end-stopped : (c : World) (b : Bytes) (t : Task) (g : Go) {w : Words} → SetBy c t → g.mode ≡ modes.Stopped → Stopped c b w g → Ended c b t g
end-stopped c b t g set m o = go (eqb (tallied g).nodes t.setting.budget) refl
  where
    go : (x : Bool) → eqb (tallied g).nodes t.setting.budget ≡ x → Ended c b t g
    go true e =
        let z = eqb-true (tallied g).nodes t.setting.budget e in
        rw (m, e) (ap result_of (sym (gate-spent (conditions_of c) (suc g.depth) _ (tallied g) b (z ∙ sym set.budget_is)) ∙ o.down.result))
    go false e =
        let z = eqb-false (tallied g).nodes t.setting.budget e in
        let q = o.down.gauge in
        rw (m, e) (ap result_of (sym (gate-path (conditions_of c) (suc g.depth) _ (tallied g) b (λ y. z (y ∙ set.budget_is))
        (omega (arith, o.limit, q.stop, q.begun, q.tallies.budget, set.budget_is, z))) ∙ o.down.result))

came-ended : (c : World) (b : Bytes) (t : Task) (q : State) {w : Words} → SetBy c t → Came c b w q → ¬ (q.go.mode ≡ modes.Block) → Ended c b t q.go
came-ended c b t q set (leaf m l) n = absurd (n m)
came-ended c b t q set (walks.done m o) n = end-done c b t q.go m o
came-ended c b t q set (walks.stops m o) n = end-stopped c b t q.go set m o
came-ended c b t q set (walks.overflowed m r j) n = end-full c b t q.go m r

came-counted : {c : World} {b : Bytes} {w : Words} {q : State} → Came c b w q → Counted q.go
came-counted (leaf m l) = let z = l.ins.gauge in record { begun = z.begun; fits = omega (arith, room-budget z l.ins.room, z.tallies.fits) }
came-counted (walks.done m o) = record { begun = omega (arith, o.counted); fits = omega (arith, o.counted, o.tallies.budget, o.tallies.fits) }
came-counted (walks.stops m o) =
    let z = o.down.gauge in record { begun = z.begun; fits = omega (arith, z.begun, z.below, z.stop, z.tallies.budget, z.tallies.fits) }
came-counted (walks.overflowed m r j) = j

-- ---- the loop over leaves

-- the bytes written so far, and where the walk of the sheet x is
pub record Reached (v : Words) (h : Bytes) (t : Task) (x : Sheet) (w : Words) (o : Bytes) (s : State) : Type 0 where
  pub b : Bytes
  pub out : Output h o s.written b
  pub came : Came (world_of v h t x) b w s

-- the first leaf, or the end
pub reached-first : (h : Bytes) {v w : Words} {t : Task} (x : Sheet) → Prepared v t x → t.setting.budget < 4294967296 → {g q r : Go} {s : State} {place : ℕ} →
    place ≡ token_slot t.formula → g ≡ start_go place t.setting → q ≡ limit g →
    Advanced v w q r t.setting → (s.go ≡ r) × (s.written ≡ 0) → Reached v h t x w h s
reached-first h {v} {w} {t} x p fits pl e f a k = record {
  b = [];
  out = rw k.1 (record { count = refl; inside = omega arith; bytes = refl });
  came = sim-came k.0 a.over a.stops (a.sim (world_of v h t x) [] (world-set h x p) (start-going h x p fits pl e f));
}

pub reached-due : (h : Bytes) {v w : Words} {o : Bytes} {t : Task} (x : Sheet) {s : State} → Prepared v t x → Reached v h t x w o s → s.go.mode ≡ modes.Block →
    BlockDue w o s t
reached-due h {v} {w} {o} {t} x {s} p r m = record {
  c = world_of v h t x;
  b = r.b;
  held = h;
  fixed = world-fixed h x p;
  out = r.out;
  leaf = came-leaf r.came m;
}

pub reached-onwards : (h : Bytes) {v w : Words} {o o' : Bytes} {t : Task} (x : Sheet) {s q : State} → Prepared v t x → Reached v h t x w o s → s.go.mode ≡ modes.Block →
    Blocked w o o' s q t → Onwards w q t
reached-onwards h {v} {w} {o} {o'} {t} x {s} {q} p r m k =
    let wr = k.wrote (world_of v h t x) r.b h (world-fixed h x p) r.out (came-leaf r.came m) in
    record { c = world_of v h t x; b = wr.b; set = world-set h x p; goes = wr.goes }

pub reached-next : (h : Bytes) {v w w' : Words} {o o' : Bytes} {t : Task} (x : Sheet) {s q n : State} → Prepared v t x → Reached v h t x w o s → s.go.mode ≡ modes.Block →
    Blocked w o o' s q t → Onward w w' q n t → Reached v h t x w' o' n
reached-next h {v} {w} {w'} {o} {o'} {t} x {s} {q} {n} p r m k on =
    let wr = k.wrote (world_of v h t x) r.b h (world-fixed h x p) r.out (came-leaf r.came m) in
    record { b = wr.b; out = rw on.same wr.out; came = on.came (world_of v h t x) wr.b (world-set h x p) wr.goes }

-- how many leaves are left at most, and once more
abbrev pub leaves_left : ℕ → State → ℕ
leaves_left budget s = pick (same s.go.mode modes.Block) (suc (budget - (tallied s.go).nodes)) 0

pub leaves-fall : (h : Bytes) {v w w' : Words} {o o' : Bytes} {t : Task} (x : Sheet) {s q n : State} → Reached v h t x w o s → s.go.mode ≡ modes.Block →
    Blocked w o o' s q t → Onward w w' q n t → leaves_left t.setting.budget n < leaves_left t.setting.budget s
leaves-fall h {t = t} x {s} {q} {n} r m k on = go (same n.go.mode modes.Block) refl
  where
    more : leaves_left t.setting.budget s ≡ suc (t.setting.budget - (tallied s.go).nodes)
    more = rw (true_same the_type s.go.mode modes.Block m) refl

    go : (b : Bool) → same n.go.mode modes.Block ≡ b → leaves_left t.setting.budget n < leaves_left t.setting.budget s
    go true e =
        let l = came-leaf r.came m in
        let room = room-budget l.ins.gauge l.ins.room in
        let z : leaves_left t.setting.budget n ≡ suc (t.setting.budget - (tallied n.go).nodes) = rw e refl in
        omega (arith, more, z, on.least, k.nodes, room)
    go false e = let z : leaves_left t.setting.budget n ≡ 0 = rw e refl in omega (arith, more, z)

pub finished : {v w : Words} {h o : Bytes} {t : Task} {s : State} (x : Sheet) → Prepared v t x → ¬ (s.go.mode ≡ modes.Block) → length w ≡ length v → length o ≡ length h →
    ((x : Sheet) → Prepared v t x → Reached v h t x w o s) → Finished v w h o t s
finished {v} {w} {h} {o} {t} {s} x p n words size f = record {
  run = λ y a.
      let r = f y a in
      (r.b, came-ended (world_of v h t y) r.b t s (world-set h y a) r.came n, r.out.count, r.out.bytes ∙ ap (λ (k : ℕ). r.b ++ drop k h) r.out.count);
  counted = came-counted (f x p).came;
  words = words;
  size = size;
}

-- ---- the whole

pub walked : {w v w' : Words} {o o' : Bytes} {t : Task} {s : State} {e : End} {u : Tallies} → Planned w v t.formula → Finished v w' o o' t s → u ≡ tallied s.go →
    e ≡ end_by s.go.mode u.nodes t.setting.budget → Walked w w' o o' t (ended e u s.written)
unfolding output_after
walked {t = t} {s = s} p f eu ee = record {
  result = λ x a. let r = f.run x (prepared t p x a) in rw (← r.1, ee, eu, r.2) refl;
  output = λ x a. let r = f.run x (prepared t p x a) in rw (← r.1) r.3;
  words = f.words ∙ p.size;
}
