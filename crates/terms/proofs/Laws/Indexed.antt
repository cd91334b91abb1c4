-- An argument of two tokens is an element with a simple index, and what it is follows from the index's slot. Assumes nothing.
use Prim.Native.Nat.{ℕ, suc, ◌+◌, ◌<◌, ◌≤◌}
use native.Mathlib.Omega.{arith}
use native.Mathlib.Numerals.{add-one}
use mathlib.Core.Path.{◌≡◌, refl, sym, ◌∙◌, ap, subst}
use mathlib.Core.Bool.{Bool, true}
use lib.ListN.{length, get_or}
use Rattle.specification.specs.Lines.{Declared}
use Rattle.specification.specs.Ast.{Term, constant, scalar_at, local_at, parameter, element_at, apply}
use Rattle.specification.specs.Fill.{fill_term}
use Rattle.specification.specs.Value.{Valuation, Side, val, bare, err, element_side, side}
use Rattle.specification.specs.WellFormed.{OkTerm}
use Rattle.specification.proofs.Laws.Contradiction.{contradiction}
use Rattle.tables.specs.Layout.{path_at, plan_at, max_tokens}
use Rattle.sheet.specs.Tables.{Words}
use Rattle.sheet.specs.Held.{operand_at, end_at, TermAt, height}
use Rattle.plan.specs.Instructions.{is_simple}
use Rattle.plan.specs.Planned.{ArgumentPlanned, SlotPlanned}
use Rattle.terms.specs.declared.Stack.{Stack}
use Rattle.terms.specs.Environment.{Environment, terms_of, number_of}
use Rattle.terms.specs.Results.{tag_of, word_of, stack_of, value_tag}
use Rattle.terms.specs.Parts.{Elements, Element}
use Rattle.terms.specs.Arguments.{Bound, Written, ResultOf, Stands, Gives, Indexes}
use Rattle.terms.proofs.Laws.Here.{term-ends}
use Rattle.terms.proofs.Laws.Stack.{tag_is, value-is}
use Rattle.terms.proofs.Laws.Elements.{elements}
use Rattle.terms.proofs.Laws.Slots.{SlotSays, stands-says, bound-as, program}

-- ---- the element and its index

pub record ElementStands (w : Words) (from to p : ℕ) (D : Declared) (α : Valuation) (E : Environment) (t : Term) : Type 0 where
  pub array : ℕ
  pub index : Term
  pub is : t ≡ element_at array index
  pub declared : array < length D.arrays
  pub operand : operand_at w from ≡ array
  pub stands : Stands w (from + 1) to p D α E index

-- a simple index is planned as an argument is
index-planned : (w : Words) (K i : ℕ) (t : Term) → end_at w i ≡ suc i → TermAt w i t → SlotPlanned w K i (is_simple t) t → ArgumentPlanned w K i t
index-planned w K i (constant z) e at planned = planned
index-planned w K i (scalar_at c) e at planned = planned
index-planned w K i (local_at l) e at planned = planned
index-planned w K i (parameter n) e at planned = planned
index-planned w K i (element_at a t) e at planned = absurd (omega (arith, at.0.end, (term-ends w (suc i) t at.2).after))
index-planned w K i (apply o s t) e at planned = tt

module _ {w : Words} {from to p : ℕ} {D : Declared} {α : Valuation} {E : Environment} where
  pub element-stands : (t : Term) → Stands w from to p D α E t → to ≡ from + 2 → ElementStands w from to p D α E t
  unfolding fill_term OkTerm height
  element-stands (constant z) g short = absurd (omega (arith, g.end, g.term.0.end))
  element-stands (scalar_at c) g short = absurd (omega (arith, g.end, g.term.0.end))
  element-stands (local_at l) g short = absurd (omega (arith, g.end, g.term.0.end))
  element-stands (parameter n) g short = absurd (omega (arith, g.end, g.term.0.end))
  element-stands (apply o s t) g short =
      absurd
      (omega
      (arith, g.end, g.term.0.end, (term-ends w (suc from) s g.term.1).after, (term-ends w (end_at w (suc from)) t g.term.2).after))
  element-stands (element_at a t) g short =
      let ends : end_at w (suc from) ≡ suc (suc from) = omega (arith, g.end, g.term.0.end) in
      record {
        array = a;
        index = t;
        is = refl;
        declared = g.ok.0;
        operand = g.term.1;
        stands =
            rw add-one
            (record {
              memory = g.memory;
              fresh = g.fresh;
              term = g.term.2;
              end = omega (arith, ends);
              planned = index-planned w (number_of E) (suc from) t ends g.term.2 g.planned;
              scope = g.scope;
              locals = g.locals;
              ok = g.ok.1;
              low = omega (arith, g.low);
            });
      }

-- ---- by the index's slot

module _ {w : Words} {from to p : ℕ} (short : to ≡ from + 2) {x : Side} (v : Gives w from to p x) where
  element-of : ElementStands w from to p v.declared v.valuation v.environment v.term
  element-of = element-stands v.term v.stands short

  index-side : Side
  index-side = side v.declared v.valuation (fill_term (terms_of v.environment) element-of.index)

  index-says : SlotSays w (plan_at w (from + 1)) index-side
  unfolding index-side
  index-says = stands-says element-of.stands (omega arith)

  element-is : x ≡ element_side v.declared v.valuation element-of.array index-side
  unfolding index-side side fill_term
  element-is = v.is ∙ ap (λ (u : Term). side v.declared v.valuation (fill_term (terms_of v.environment) u)) element-of.is

  index-ends : from + 1 < max_tokens
  index-ends = let ends = term-ends w (from + 1) element-of.index element-of.stands.term in omega (arith, ends.after, ends.inside)

-- the index's value
value-tag : {n : ℕ} (y : Side) → Written true n y → (value_tag ≡ tag_of y) × (n ≡ word_of y)
value-tag (val z) h = (refl, sym h.word)
value-tag (bare q) h = let z = h.value in contradiction cc
value-tag (err κ) h = let z = h.value in contradiction cc

module _ {w : Words} {slot s from to p : ℕ} (g : Indexes w slot s from to p) where
  says : {x : Side} (v : Gives w from to p x) → SlotSays w s (index-side g.short v)
  says v = subst (λ (s : ℕ). SlotSays w s (index-side g.short v)) (sym g.planned) (index-says g.short v)

  pub index-inside : (s + 1 < path_at) × (path_at ≤ length w) × (from + 1 < max_tokens)
  index-inside =
      let v = g.argues.gives in
      ((says v).inside, v.stands.memory.size, index-ends g.short v)

  pub index-elements : {a : ℕ} → a ≡ operand_at w from → Elements w a
  index-elements e =
      let v = g.argues.gives in
      let t = element-of g.short v in
      rw (e, t.operand) (elements (program v.stands).context t.array t.declared)

  module _ {f n a : ℕ} {i e : Stack} (flag : f ≡ get_or w s 0) (some : ¬ (f ≡ 0)) (word : n ≡ get_or w (s + 1) 0) (array : a ≡ operand_at w from)
      (tag : i.tag ≡ value_tag) (value : i.value ≡ n) (found : Element w a i e) where
    gives : (x : Side) → Gives w from to p x → ResultOf e x
    gives x v =
        let t = element-of g.short v in
        let y = index-side g.short v in
        let told = value-tag y ((says v).value (λ z. some (flag ∙ z))) in
        let at : a ≡ t.array = array ∙ t.operand in
        let is : e ≡ stack_of i.at (element_side v.declared v.valuation a y) =
        found p v.declared v.valuation (terms_of v.environment) y (program v.stands).context (rw at t.declared) (tag ∙ told.0)
        (value ∙ word ∙ told.1) in
        let same : x ≡ element_side v.declared v.valuation a y =
        element-is g.short v ∙ ap (λ (k : ℕ). element_side v.declared v.valuation k y) (sym at) in
        rw same (record { tag = tag_is is; word = value-is is })

    pub index-gives : {w' : Words} {r : Bool} → Bound w w' slot r (ResultOf e) → Bound w w' slot r (Gives w from to p)
    index-gives b = bound-as gives b
