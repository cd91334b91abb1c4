-- What the plan of two terms tells at a node that is entered, and what is known of them after it. Assumes nothing.
use Prim.Native.Nat.{ℕ, ◌<◌}
use native.Mathlib.Omega.{arith}
use mathlib.Core.Path.{◌≡◌, sym, ◌∙◌}
use mathlib.Core.Logic.{inl, inr}
use lib.ListN.{length}
use Rattle.specification.specs.Bytes.{Bytes}
use Rattle.specification.specs.Value.{Side}
use Rattle.sheet.specs.Tables.{Words}
use Rattle.plan.proofs.Laws.Carried.{terms-planned-here}
use Rattle.terms.specs.declared.Sides.{Sides}
use Rattle.terms.specs.Environment.{number_of}
use Rattle.terms.specs.Results.{sides_of}
use Rattle.terms.proofs.Laws.Here as kept
use Rattle.quick.specs.Told.{unknown_tag, side_in}
use Rattle.quick.specs.Quick.{Answers, Both, Plans, Quick}
use Rattle.search.specs.declared.Go.{Go}
use Rattle.search.specs.Path.{World}
use Rattle.search.specs.Sim.{In}
use Rattle.search.specs.Steps.{Entered, Stepped, HasTerms}
use Rattle.walker.specs.Terms.{Tells, Decides, Knows}
use Rattle.walker.proofs.Laws.Memory.{memory-in}
use Rattle.walker.proofs.Laws.Terms.{Spans, TermsHere, terms-here, each}
use Rattle.walker.proofs.Laws.Spare.{off-kept, kept_back, in-spare, entered-spare, stepped-spare}

-- ---- before

pub spans-after : (t : Words) (n h first end : ℕ) → Spans t n h first end → h < first
spans-after t n h first end (inl q) = omega (arith, q.1)
spans-after t n h first end (inr q) = omega (arith, q.1)

module _ {c : World} {b : Bytes} {w : Words} {g : Go} (i : In c b w g) {n : ℕ} (a : TermsHere i n) where
  pub both-here : Both w a.form.h a.first c.declared i.α a.E a.left a.right
  both-here =
      let s = i.path.tables.tokens in
      let q = a.terms in
      let here = kept.terms-here c.tables w s a.first a.end a.left a.right q.terms in
      let after = spans-after c.tables n a.form.h a.first a.end a.spans in
      record {
        memory = memory-in i.path a.E a.form.env;
        scope = q.scope;
        locals = q.locals;
        left_ok = q.left;
        right_ok = q.right;
        before = after;
        left = here.0;
        right = here.1;
        left_low = q.left_low;
        right_low = q.right_low;
        planned = terms-planned-here c.tables w s (number_of a.E) a.form.h a.first a.end a.left a.right q.terms after q.planned;
      }

module _ {w : Words} {g : Go} {n : ℕ} (x : Entered w g n) (h : HasTerms n) where
  pub plans-here : Plans w g.due
  plans-here =
      let i = x.at.ins in
      let a = terms-here i x.code h in
      record {
        token = a.form.h;
        place = a.form.place;
        first = a.first;
        declared = x.at.c.declared;
        valuation = i.α;
        environment = a.E;
        left = a.left;
        right = a.right;
        both = both-here i a;
      }

  -- ---- after

  pub tells : {w' : Words} {r : Sides} → Quick w w' g.due r → Tells w' g n r
  tells {w'} {r} q =
      let k = off-kept w w' q.kept in
      let back = kept_back w w' k in
      let z : length w ≡ length w' = sym q.size in
      let x' = entered-spare w w' k q.size x h in
      record {
        at = x';
        terms = h;
        sides = λ c b i E F is e s t p.
            each x h (Answers r)
            (λ c b i a. q.sides a.form.h a.first c.declared i.α a.E a.left a.right a.form.place (both-here i a))
            c b (in-spare w' w back z i) E F is e s t p;
      }

answered : (r : Sides) (x y : Side) → Answers r x y → ¬ (r.ltag ≡ unknown_tag) → r ≡ sides_of x y
answered r x y (inl e) m = absurd (m e)
answered r x y (inr q) m = q.sides

module _ {w : Words} {g : Go} {n : ℕ} {r : Sides} (d : Tells w g n r) where
  told-decides : ¬ (r.ltag ≡ unknown_tag) → Decides w g n r
  told-decides m = record {
    at = d.at;
    terms = d.terms;
    sides = λ c b i E F is e s t p. answered r (side_in c.declared i.α E s) (side_in c.declared i.α E t) (d.sides c b i E F is e s t p) m;
  }

-- ---- what is known

module _ {w w' : Words} {g : Go} {n : ℕ} {r : Sides} (x : Entered w g n) (h : HasTerms n) (q : Quick w w' g.due r) where
  -- by the plan
  pub told-knows : ¬ (r.ltag ≡ unknown_tag) → Knows w w' g n r
  told-knows m = record { decides = told-decides (tells x h q) m; kept = off-kept w w' q.kept; size = q.size }

  -- by the full evaluation after it
  pub told-entered : Entered w' g n
  told-entered = entered-spare w w' (off-kept w w' q.kept) q.size x h

  pub full-knows : {v : Words} {s : Sides} → Knows w' v g n s → Knows w v g n s
  full-knows {v} k = record {
    decides = k.decides;
    kept = λ j z. k.kept j z ∙ off-kept w w' q.kept j z;
    size = k.size ∙ q.size;
  }

-- where the search goes on, from the words before
pub stepped-known : {w mid w' : Words} {g q : Go} {n : ℕ} {r : Sides} → Knows w mid g n r → Stepped mid w' g q → Stepped w w' g q
stepped-known {w} {mid} k s = stepped-spare w mid k.kept k.size s
