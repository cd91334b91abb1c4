-- A step that changes only the words in which terms are worked out changes nothing of the search. Assumes nothing.
use Prim.Native.Nat.{ℕ}
use native.Mathlib.Omega.{arith}
use mathlib.Core.Path.{◌≡◌, sym, ◌∙◌}
use mathlib.Core.Logic.{inl, inr}
use lib.ListN.{length}
use Rattle.specification.specs.Bytes.{Bytes}
use Rattle.specification.specs.Value.{Valuation}
use Rattle.tables.specs.Kept.{SameSlots}
use Rattle.sheet.specs.Tables.{Words}
use Rattle.terms.specs.Results.{Kept}
use Rattle.terms.specs.Machine.{OffStack}
use Rattle.search.specs.declared.Go.{Go}
use Rattle.search.specs.Kept as steps
use Rattle.search.specs.Kept.{SameStore}
use Rattle.search.specs.Store.{Store}
use Rattle.search.specs.Frame.{What, the, success, failure, error, store_in}
use Rattle.search.specs.Path.{World, Job}
use Rattle.search.specs.Sim.{In}
use Rattle.search.specs.Steps.{Visited, Entered, Stepped, HasTerms}
use Rattle.search.proofs.Slots.{holds-keep, marks-keep}
use Rattle.search.proofs.Paths.{path-kept, stored-keep}
use Rattle.walker.proofs.Laws.Terms.{terms-here}

-- results alone are such words
pub off-kept : (w w' : Words) → OffStack w w' → Kept w w'
off-kept w w' h k (inl z) = h k (inl z)
off-kept w w' h k (inr z) = h k (inr (omega arith))

pub kept_back : (w w' : Words) → Kept w w' → Kept w' w
kept_back w w' h k z = sym (h k z)

module _ (w w' : Words) (k : Kept w w') (size : length w' ≡ length w) where
  pub spare-kept : (top : ℕ) → steps.Kept top w w'
  spare-kept top = record {
    tokens = λ j a. k j (inl (omega arith));
    firsts = λ j a b. k j (inl (omega arith));
    returns = λ K a. k _ (inr (omega arith));
    leaves = λ j a b. k j (inr (omega arith));
    records = λ j a b. k j (inr (omega arith));
    size = size;
  }

  pub spare-slots : SameSlots w w'
  spare-slots = record { same = λ j a b. k j (inl (omega arith)) }

  pub spare-store : SameStore w w'
  spare-store = record { same = λ j a b. k j (inr (omega arith)) }

  pub job-spare : (c : World) (σ : Store) (α : Valuation) (due : ℕ) (x : What) → Job c w σ α due x → Job c w' σ α due x
  job-spare c σ α due (the is) q = q
  job-spare c σ α due success q = q
  job-spare c σ α due failure q = q
  job-spare c σ α due (error κ tok) q = (q.0, k _ (inr (omega arith)) ∙ q.1, k _ (inr (omega arith)) ∙ q.2)

  abbrev pub in-spare : {c : World} {b : Bytes} {g : Go} → In c b w g → In c b w' g
  in-spare {c} {b} {g} i = record {
    x = i.x;
    fr = i.fr;
    α = i.α;
    e = i.e;
    path = path-kept i.path (spare-kept g.top)
        (holds-keep spare-slots i.path.holds) (marks-keep spare-slots i.path.marks) (stored-keep spare-store i.path.stored);
    deep = i.deep;
    inner = i.inner;
    bad = i.bad;
    job = job-spare c (store_in i.fr) i.α g.due i.x i.job;
    gauge = i.gauge;
    room = i.room;
    result = i.result;
  }

  abbrev pub visited-spare : {g : Go} → Visited w g → Visited w' g
  visited-spare v = record { c = v.c; b = v.b; ins = in-spare v.ins }

  pub entered-spare : {g : Go} {n : ℕ} → Entered w g n → HasTerms n → Entered w' g n
  entered-spare x h =
      let a = terms-here x.at.ins x.code h in
      record { at = visited-spare x.at; code = k _ (inl (omega (arith, a.form.place, a.form.inside))) ∙ x.code }

  pub stepped-spare : {v : Words} {g q : Go} → Stepped w' v g q → Stepped w v g q
  stepped-spare s = record { sim = λ c b i. s.sim c b (in-spare i); counts = s.counts; least = s.least }
