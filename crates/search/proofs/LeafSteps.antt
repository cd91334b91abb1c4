-- The leaves: of an inner tree and failure leaves, after which the search goes up, and those of the main tree that have a block. Assumes nothing.
use Prim.Native.Nat.{suc}
use native.Mathlib.Omega.{arith}
use mathlib.Core.Path.{◌≡◌, refl, sym, ◌∙◌}
use mathlib.Core.Bool.{Bool, true, false}
use mathlib.Core.Logic.{◌⊎◌, inl, inr}
use Rattle.specification.specs.declared.Tallies.{Tallies}
use Rattle.specification.specs.Bytes.{Bytes}
use Rattle.specification.proofs.Laws.Contradiction.{contradiction}
use Rattle.specification.specs.Run.{add_node, add_fail, arrive}
use Rattle.sheet.specs.Tables.{Words}
use Rattle.search.specs.declared.Errors.{Errors}
use Rattle.search.specs.declared.Errors.TheVariants.{Seen}
use Rattle.search.specs.declared.Go.{Go}
use Rattle.search.specs.declared.Mode.{Mode}
use Rattle.search.specs.declared.Mode.TheVariants as modes
use Rattle.tables.specs.Leaves.{success_code, failure_code, error_code}
use Rattle.search.specs.Walk.{leaf, within}
use Rattle.search.specs.Frame.{inner_in}
use Rattle.search.specs.Path.{World}
use Rattle.search.specs.Sim.{no, In, Up, Yes, IsLeaf, up, block}
use Rattle.search.specs.Registers.{tallied, Tallied, out_go, leaf_go}
use Rattle.search.specs.Steps.{Entered, Stepped}
use Rattle.search.specs.States.{main_tree, errors_of}
use Rattle.search.proofs.Sites.{inner-main, inner-inside}
use Rattle.search.proofs.Gauges.{room-budget}
use Rattle.search.proofs.Heads.{at-success, at-failure, at-error}

module _ {c : World} {b : Bytes} {w : Words} {g : Go} (i : In c b w g) where
  -- ---- the register `inner`

  main-here : g.inner ≡ main_tree → inner_in i.fr ≡ false
  main-here e = inner-main i.fr (sym i.inner ∙ e)

  inside-here : ¬ (g.inner ≡ main_tree) → inner_in i.fr ≡ true
  inside-here n = inner-inside i.fr (λ e. n (i.inner ∙ e))

  -- ---- tallies

  visit-tallied : {mode : Mode} {bad : Errors} → Tallied c (leaf_go g mode bad (add_node (tallied g)))
  visit-tallied = let q = i.gauge.tallies in record {
    fits = q.fits;
    budget = room-budget i.gauge i.room;
    leaves = omega (arith, q.leaves);
  }

  fail-tallied : {mode : Mode} {bad : Errors} → Tallied c (leaf_go g mode bad (add_fail (add_node (tallied g))))
  fail-tallied = let q = i.gauge.tallies in record {
    fits = q.fits;
    budget = room-budget i.gauge i.room;
    leaves = omega (arith, q.leaves);
  }

  -- ---- going up

  leaf-up : {mode : Mode} {bad : Errors} (t : Tallies) (e : Bool) → Tallied c (leaf_go g mode bad t) → bad ≡ errors_of e → no c i.fr e t b ≡ c.result → Up c b w (leaf_go g mode bad t)
  leaf-up t e q n r = record {
    fr = i.fr;
    α = i.α;
    e = e;
    path = i.path;
    inner = i.inner;
    bad = n;
    counted = refl;
    tallies = q;
    result = r;
  }

leaf-stepped : {w : Words} {g q : Go} {bad : Errors} (t : Tallies) → t.nodes ≡ suc (tallied g).nodes → q ≡ leaf_go g modes.Up bad t →
    ((c : World) (b : Bytes) → In c b w g → Up c b w (leaf_go g modes.Up bad t)) → Stepped w w g q
leaf-stepped {g = g} t n e f = rw e (record { sim = λ c b i. up refl (f c b i); counts = λ m. omega (arith, n); least = omega (arith, n) })

module _ {w : Words} {g : Go} (x : Entered w g failure_code) where
  -- a failure leaf of an inner tree is not counted
  pub inner-failed : ¬ (g.inner ≡ main_tree) → {q : Go} → q ≡ leaf_go g modes.Up g.bad (add_node (tallied g)) → Stepped w w g q
  unfolding within
  inner-failed n e = leaf-stepped {w = w} {g = g} (add_node (tallied g)) refl e
      (λ c b i. leaf-up i (add_node (tallied g)) i.e (visit-tallied i) i.bad (rw (at-failure i x.code, inside-here i n) at i.result))

  pub main-failed : g.inner ≡ main_tree → {q : Go} → q ≡ leaf_go g modes.Up g.bad (add_fail (add_node (tallied g))) → Stepped w w g q
  unfolding within leaf arrive
  main-failed n e = leaf-stepped {w = w} {g = g} (add_fail (add_node (tallied g))) refl e
      (λ c b i. leaf-up i (add_fail (add_node (tallied g))) i.e (fail-tallied i) i.bad (rw (at-failure i x.code, main-here i n) at i.result))

module _ {w : Words} {g : Go} (x : Entered w g error_code) where
  pub inner-erred : ¬ (g.inner ≡ main_tree) → {q : Go} → q ≡ leaf_go g modes.Up Seen (add_node (tallied g)) → Stepped w w g q
  unfolding within
  inner-erred n e = leaf-stepped {w = w} {g = g} (add_node (tallied g)) refl e
      (λ c b i. leaf-up i (add_node (tallied g)) true (visit-tallied i) refl (rw ((at-error i x.code).x-is, inside-here i n) at i.result))

-- an inner tree has succeeded
pub inner-won : {w : Words} {g : Go} → Entered w g success_code → ¬ (g.inner ≡ main_tree) → {mode : Mode} (c : World) (b : Bytes) → In c b w g →
    Yes c b w (leaf_go g mode g.bad (add_node (tallied g)))
unfolding within
inner-won {g = g} x n c b i = record {
  fr = i.fr;
  α = i.α;
  path = i.path;
  counted = refl;
  tallies = visit-tallied i;
  result = rw (at-success i x.code, inside-here i n) at i.result;
}

-- ---- a leaf with a block

out-in : {c : World} {b : Bytes} {w : Words} {g : Go} (mode : Mode) → In c b w g → In c b w (out_go g mode)
out-in mode i = record {
  x = i.x;
  fr = i.fr;
  α = i.α;
  e = i.e;
  path = i.path;
  deep = i.deep;
  inner = i.inner;
  bad = i.bad;
  job = i.job;
  gauge = record {
    tallies = record { fits = i.gauge.tallies.fits; budget = i.gauge.tallies.budget; leaves = i.gauge.tallies.leaves };
    begun = i.gauge.begun;
    below = i.gauge.below;
    stop = i.gauge.stop;
  };
  room = i.room;
  result = i.result;
}

pub leaf-block : {w : Words} {g q : Go} → ((c : World) (b : Bytes) (i : In c b w g) → IsLeaf i.x) → g.inner ≡ main_tree → q ≡ out_go g modes.Block → Stepped w w g q
unfolding out-in
leaf-block {g = g} f n e = rw e (record {
  sim = λ c b i. block refl (record { ins = out-in modes.Block i; main = main-here i n; leaf = f c b i });
  counts = λ m. absurd (no_mode m);
  least = omega arith;
})
  where
    no_mode : (modes.Block ≡ modes.Down) ⊎ (modes.Block ≡ modes.Up) → ⊥
    no_mode (inl z) = contradiction cc
    no_mode (inr z) = contradiction cc

pub answers : {w : Words} {g q : Go} → Entered w g success_code → g.inner ≡ main_tree → q ≡ out_go g modes.Block → Stepped w w g q
answers {w} {g} x n e = leaf-block {w = w} {g = g} (λ c b i. rw (at-success i x.code) tt) n e

pub errs : {w : Words} {g q : Go} → Entered w g error_code → g.inner ≡ main_tree → q ≡ out_go g modes.Block → Stepped w w g q
errs {w} {g} x n e = leaf-block {w = w} {g = g} (λ c b i. rw (at-error i x.code).x-is tt) n e
