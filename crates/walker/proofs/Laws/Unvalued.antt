-- A formula whose terms their plan does not tell: its tokens, what the full evaluation is asked of them, and what it says. Assumes nothing.
use Prim.Native.Nat.{ℕ, suc, ◌+◌, ◌/◌, ◌≤◌, ◌<◌}
use native.Mathlib.Omega.{arith}
use native.Mathlib.Numerals.{add-one}
use mathlib.Core.Path.{◌≡◌, refl, sym, ◌∙◌, ap, subst}
use mathlib.Core.Bool.{Bool, true, false}
use mathlib.Core.List.{[]}
use mathlib.Core.Logic.{inl, inr}
use lib.ListN.{length}
use lib.Dec.{ltb}
use borrow.Author.Tests.{ltb-true, ltb-false, lt-ltb, le-ltb}
use Rattle.specification.specs.Bytes.{Bytes}
use Rattle.specification.specs.Fill.{fill_term}
use Rattle.specification.specs.WellFormed.{OkTerm}
use Rattle.tables.specs.Layout.{token_slot, plan_at, max_tokens, path_at}
use Rattle.tables.specs.Codes.{ex_code, parameter_code}
use Rattle.sheet.specs.Tables.{Words}
use Rattle.sheet.specs.Held.{code_at, end_at, TermsAt}
use Rattle.terms.specs.declared.Sides.{Sides}
use Rattle.terms.specs.Environment.{Environment, terms_of, number_of, pointer_of}
use Rattle.terms.specs.Results as results
use Rattle.terms.specs.Results.{sides_of, span, Stand, Asked}
use Rattle.terms.proofs.Laws.Here as kept
use Rattle.search.specs.declared.Go.{Go}
use Rattle.search.specs.Path.{World}
use Rattle.search.specs.Sim.{In}
use Rattle.search.specs.Steps.{Entered, HasTerms}
use Rattle.walker.specs.Terms.{Knows, Decides, first_term, end_of_terms, Searches, NoneIn, Found}
use Rattle.walker.proofs.Laws.Terms.{Spans, TermsHere, terms-here, each}
use Rattle.walker.proofs.Laws.Told.{both-here, spans-after}
use Rattle.walker.proofs.Laws.Spare.{kept_back, in-spare, entered-spare}
use Rattle.walker.proofs.Laws.Parameters.{no-parameter, ParameterAt, either, parameter-at, one-procedure}

-- one token more without a parameter
pub none_more : (w : Words) (from i : ℕ) → NoneIn w from i → (code_at w i ≡ parameter_code → ⊥) → NoneIn w from (i + 1)
none_more w from i h m j low high e = go (ltb j i) refl
  where
    go : (b : Bool) → ltb j i ≡ b → ⊥
    go true z = h j low (ltb-true j i z) e
    go false z = let same : j ≡ i = omega (arith, ltb-false j i z) in m (ap (code_at w) (sym same) ∙ e)

module _ {c : World} {b : Bytes} {w : Words} {g : Go} (i : In c b w g) {n : ℕ} (a : TermsHere i n) where
  -- ---- the tokens of the terms

  terms-stand : TermsAt w a.first a.end a.left a.right
  terms-stand = kept.terms-here c.tables w i.path.tables.tokens a.first a.end a.left a.right a.terms.terms

  left-ends : kept.Ends w a.first
  left-ends = kept.term-ends w a.first a.left terms-stand.0

  right-ends : kept.Ends w (end_at w a.first)
  right-ends = kept.term-ends w (end_at w a.first) a.right terms-stand.1

  end-near : a.end ≤ max_tokens
  end-near = omega (arith, terms-stand.2, right-ends.inside)

  head_near : a.form.h + 1 < max_tokens
  head_near = omega (arith, spans-after c.tables n a.form.h a.first a.end a.spans, left-ends.after, left-ends.inside)

  head-is : g.due / 4 ≡ a.form.h
  head-is = let p = a.form.place in omega arith

  first-is : first_term (g.due / 4) n ≡ a.first
  first-is = rw head-is (go a.spans)
    where
      go : Spans c.tables n a.form.h a.first a.end → first_term a.form.h n ≡ a.first
      go (inl q) = rw (lt-ltb n ex_code q.0) (omega (arith, q.1))
      go (inr q) = rw (le-ltb n ex_code q.0) (omega (arith, q.1))

  end_is : end_of_terms w (g.due / 4) n ≡ a.end
  end_is = rw head-is (go a.spans)
    where
      go : Spans c.tables n a.form.h a.first a.end → end_of_terms w a.form.h n ≡ a.end
      go (inl q) = rw (lt-ltb n ex_code q.0) (kept.end-here c.tables w i.path.tables.tokens (omega (arith, head_near)) ∙ sym q.2)
      go (inr q) =
          let same : plan_at w (a.form.h + 1) ≡ token_slot a.end =
          rw (add-one a.form.h) (i.path.tables.tokens (token_slot (suc a.form.h) + 3) (omega (arith, head_near)) ∙ q.2) in
          rw (le-ltb n ex_code q.0) (omega arith)

  -- ---- parameters there

  parameter-in : (j : ℕ) → a.first ≤ j → j < a.end → code_at w j ≡ parameter_code → ParameterAt w (terms_of a.E) (number_of a.E) j
  parameter-in j low high code =
      let q = both-here i a in
      let D = c.declared in
      let ts = terms_of a.E in
      let K = number_of a.E in
      let none = q.memory.filled in
      either w D q.scope ts K j none code (end_at w a.first)
      (λ z. parameter-at w D q.scope ts K j none code a.left a.first (token_slot a.form.h) q.left q.planned.left q.left_ok low z)
      (λ z. parameter-at w D q.scope ts K j none code a.right (end_at w a.first) _ q.right q.planned.right q.right_ok z
      (omega (arith, terms-stand.2)))

  searches-here : Searches w a.first a.end
  searches-here = record {
    inside = end-near;
    size = (both-here i a).memory.size;
    slots = λ j l h k. let q = parameter-in j l h k in omega (arith, q.slot);
  }

  -- ---- what is asked

  -- an environment in which the terms are what they are
  pub record Standing (p : ℕ) : Type 0 where
    pub env : Environment
    pub stand : Stand w (span a.first a.end) p c.declared i.α env a.left a.right
    pub left-same : fill_term (terms_of env) a.left ≡ fill_term (terms_of a.E) a.left
    pub right-same : fill_term (terms_of env) a.right ≡ fill_term (terms_of a.E) a.right

  standing : {p : ℕ} → Found w a.first a.end p → Standing p
  standing {p} (inr o) =
      let q = both-here i a in
      let e : p ≡ pointer_of a.E =
      o.number ∙ one-procedure c.declared w o.token a.E q.memory.environment
      (parameter-in o.token o.after o.before o.code) in
      record {
        env = a.E;
        stand = record {
          memory = rw e q.memory;
          terms = terms-stand;
          scope = q.scope;
          locals = q.locals;
          left = q.left_ok;
          right = q.right_ok;
          left_low = q.left_low;
          right_low = q.right_low;
        };
        left-same = refl;
        right-same = refl;
      }
  standing {p} (inl o) =
      let q = both-here i a in
      let m = q.memory in
      let left : (E : Environment) → fill_term (terms_of E) a.left ≡ a.left =
      λ E. no-parameter w (terms_of E) a.left a.first q.left (λ j x y. o.1 j x (omega (arith, terms-stand.2, right-ends.after))) in
      let right : (E : Environment) → fill_term (terms_of E) a.right ≡ a.right =
      λ E. no-parameter w (terms_of E) a.right (end_at w a.first) q.right
      (λ j x y. o.1 j (omega (arith, left-ends.after)) (omega (arith, terms-stand.2))) in
      let left-same = left [] ∙ sym (left a.E) in
      let right-same = right [] ∙ sym (right a.E) in
      record {
        env = [];
        stand = record {
          memory = record {
            holds = m.holds;
            valid = m.valid;
            arrays = m.arrays;
            cells = m.cells;
            few = m.few;
            filled = m.filled;
            pointer = o.0;
            environment = tt;
            size = m.size;
          };
          terms = terms-stand;
          scope = q.scope;
          locals = q.locals;
          left = subst (OkTerm c.declared q.scope) (sym left-same) q.left_ok;
          right = subst (OkTerm c.declared q.scope) (sym right-same) q.right_ok;
          left_low = q.left_low;
          right_low = q.right_low;
        };
        left-same = left-same;
        right-same = right-same;
      }

-- ---- the code's numbers

module _ {w : Words} {g : Go} {n : ℕ} (x : Entered w g n) (h : HasTerms n) where
  pub near : (g.due / 4 + 1 < max_tokens) × (path_at ≤ length w)
  near =
      let i = x.at.ins in
      let a = terms-here i x.code h in
      let z = head_near i a in
      (omega (arith, head-is i a), (both-here i a).memory.size)

module _ {w : Words} {g : Go} {n : ℕ} (x : Entered w g n) (h : HasTerms n) {from to : ℕ} (ef : from ≡ first_term (g.due / 4) n)
    (et : to ≡ end_of_terms w (g.due / 4) n) where
  pub searches : Searches w from to
  searches =
      let i = x.at.ins in
      let a = terms-here i x.code h in
      rw (ef ∙ first-is i a, et ∙ end_is i a) (searches-here i a)

  found_here : {c : World} {b : Bytes} {p : ℕ} (i : In c b w g) (a : TermsHere i n) → Found w from to p → Found w a.first a.end p
  found_here {p = p} i a f = subst (λ s. Found w s a.end p) (ef ∙ first-is i a) (subst (λ e. Found w from e p) (et ∙ end_is i a) f)

  stand-there : {c : World} {b : Bytes} {p : ℕ} (i : In c b w g) (a : TermsHere i n) {E : Environment} →
      Stand w (span a.first a.end) p c.declared i.α E a.left a.right → Stand w (span from to) p c.declared i.α E a.left a.right
  stand-there {c} {p = p} i a {E} q =
      let D = c.declared in
      subst (λ s. Stand w (span s to) p D i.α E a.left a.right) (sym (ef ∙ first-is i a))
      (subst (λ e. Stand w (span a.first e) p D i.α E a.left a.right) (sym (et ∙ end_is i a)) q)

  pub asked : {p : ℕ} → Found w from to p → Asked w from to p
  asked {p} f =
      let i = x.at.ins in
      let a = terms-here i x.code h in
      let s = standing i a (found_here i a f) in
      record {
        declared = x.at.c.declared;
        valuation = i.α;
        environment = s.env;
        left = a.left;
        right = a.right;
        stand = stand-there i a s.stand;
      }

  pub decides : {p : ℕ} {w' : Words} {r : Sides} → Found w from to p → results.Valued w w' from to p r → Decides w' g n r
  decides {p} {w'} {r} f v =
      let back = kept_back w w' v.kept in
      record {
        at = entered-spare w w' v.kept v.size x h;
        terms = h;
        sides = λ c b i E F is e s t q.
            each x h (λ y z. r ≡ sides_of y z)
            (λ c b i a.
            let z = standing i a (found_here i a f) in
            let k = v.sides c.declared i.α z.env a.left a.right (stand-there i a z.stand) in
            rw (z.left-same, z.right-same) at k)
            c b (in-spare w' w back (sym v.size) i) E F is e s t q;
      }

  pub knows : {p : ℕ} {w' : Words} {r : Sides} → Found w from to p → results.Valued w w' from to p r → Knows w w' g n r
  knows f v = record { decides = decides f v; kept = v.kept; size = v.size }
