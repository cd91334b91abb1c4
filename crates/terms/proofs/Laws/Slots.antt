-- What an argument's slot says: of one that is written, of a place's, of the slot of a simple term, and of the result of any term. Assumes nothing.
use Prim.Native.Nat.{ℕ, suc, ◌+◌, ◌<◌, ◌≤◌}
use native.Mathlib.Omega.{arith, not-le}
use native.Mathlib.Numerals.{add-one}
use mathlib.Core.Path.{◌≡◌, refl, sym, ◌∙◌}
use mathlib.Core.Bool.{Bool, true, false}
use mathlib.Core.List.{[], ◌∷◌}
use mathlib.Core.Logic.{◌⊎◌, inl, inr}
use lib.ListN.{length, get_or, set as list_set, length-set, get_or-eq_default}
use lib.Seq.{get_or-set_same, get_or-set_other}
use Rattle.specification.specs.Bytes.{pick}
use Rattle.specification.specs.Lines.{Declared, cells}
use Rattle.specification.specs.Ast.{Term, constant, scalar_at, local_at, parameter, element_at, apply}
use Rattle.specification.specs.Fill.{fill_term}
use Rattle.specification.specs.Place.{Place, cell, local}
use Rattle.specification.specs.Value.{Slot, empty, full, Valuation, Side, val, bare, err, look, side}
use Rattle.specification.specs.WellFormed.{OkTerm}
use Rattle.tables.specs.Layout.{path_at, dues_at, results_at, slot_words, plan_at, max_procs}
use Rattle.tables.specs.Locals.{in_set}
use Rattle.tables.specs.Frames.{frames_at, argument_slot, tags_at}
use Rattle.sheet.specs.Tables.{Words}
use Rattle.sheet.specs.Held.{end_at, TermAt, SlotAt, slot_of, Holds}
use Rattle.plan.specs.Planned.{ArgumentPlanned}
use Rattle.terms.specs.Environment.{Level, Environment, terms_of, number_of, Known, IsValue, IsPlace, LevelAt, EnvAt, Memory}
use Rattle.terms.specs.declared.Stack.{Stack}
use Rattle.terms.specs.Results.{tag_of, word_of, value_tag, bare_tag, stack_of}
use Rattle.terms.specs.Machine.{items, OffStack, Program, Passes, Passed}
use Rattle.terms.specs.Arguments.{Bound, Written, Looks, ResultOf, Stands, Gives, Argues, Binds, Leads}
use Rattle.terms.proofs.Laws.Low.{slot_held}
use Rattle.terms.proofs.Laws.Here.{term-ends}
use Rattle.terms.proofs.Laws.Stack.{tag_is, value-is}
use Rattle.terms.proofs.Laws.Environment.{number-low}
use Rattle.terms.proofs.Laws.Program.{one, passed-one}

-- ---- a slot that is written

module _ (w : Words) (slot x : ℕ) (room : slot + 1 < length w) where
  abbrev stored : ℕ → Words
  stored flag = list_set (list_set w slot flag) (slot + 1) x

  stored-flag : (flag : ℕ) → get_or (stored flag) slot 0 ≡ flag
  stored-flag flag =
      get_or-set_other (list_set w slot flag) (slot + 1) slot x 0 (λ e. omega arith) ∙ get_or-set_same w slot flag 0 (omega arith)

  stored-word : (flag : ℕ) → get_or (stored flag) (slot + 1) 0 ≡ x
  stored-word flag = get_or-set_same (list_set w slot flag) (slot + 1) x 0 (rw length-set room)

  stored_other : (flag j : ℕ) → (j < slot) ⊎ (slot + slot_words ≤ j) → get_or (stored flag) j 0 ≡ get_or w j 0
  stored_other flag j (inl l) =
      get_or-set_other (list_set w slot flag) (slot + 1) j x 0 (λ e. omega arith) ∙ get_or-set_other w slot j flag 0 (λ e. omega arith)
  stored_other flag j (inr l) =
      get_or-set_other (list_set w slot flag) (slot + 1) j x 0 (λ e. omega arith) ∙ get_or-set_other w slot j flag 0 (λ e. omega arith)

  pub bound-written : {w' : Words} (b : Bool) → w' ≡ stored (pick b 1 0) → Bound w w' slot b (Written b x)
  bound-written b e =
      record {
        says = λ s t.
            record {
              told = sym t.value;
              flag = rw e (stored-flag (pick b 1 0));
              word = rw e (stored-word (pick b 1 0)) ∙ sym t.word;
            };
        kept = λ j off o. rw e (stored_other (pick b 1 0) j o);
        size = rw (e, length-set, length-set) refl;
      }

-- after the stack has changed, and for other sides
pub bound-after : {w w₁ w' : Words} {slot : ℕ} {r : Bool} {P Q : Side → Type 0} → OffStack w w₁ → length w₁ ≡ length w →
    ((x : Side) → Q x → P x) → Bound w₁ w' slot r P → Bound w w' slot r Q
bound-after off z f b =
    record {
      says = λ x q. b.says x (f x q);
      kept = λ j o k. b.kept j o k ∙ off j o;
      size = b.size ∙ z;
    }

pub bound-as : {w w' : Words} {slot : ℕ} {r : Bool} {P Q : Side → Type 0} → ((x : Side) → Q x → P x) → Bound w w' slot r P → Bound w w' slot r Q
bound-as f b = bound-after (λ k o. refl) refl f b

-- ---- the slot of a place

place-low : (p : Place) → Known p → slot_of p + 1 < dues_at
place-low (cell c) k = omega arith
place-low (local l) k = omega arith

pub looks-low : {w : Words} {p : ℕ} {x : Side} → Looks w p x → p + 1 < dues_at
looks-low h = omega (arith, h.at, place-low h.place h.known)

module _ {w : Words} {p : ℕ} where
  pub looks-value : {x : Side} → ¬ (get_or w p 0 ≡ 0) → Looks w p x → Written true (get_or w (p + 1) 0) x
  looks-value d h = rw h.is (go h.slot h.held)
    where
      go : (s : Slot) → SlotAt w p s → Written true (get_or w (p + 1) 0) (look s h.place)
      go empty e = absurd (d e)
      go (full z) e = record { value = refl; word = rw add-one (sym e.1) }

  pub looks-bare : {x : Side} → get_or w p 0 ≡ 0 → Looks w p x → Written false p x
  looks-bare d h = rw h.is (go h.slot h.held)
    where
      go : (s : Slot) → SlotAt w p s → Written false p (look s h.place)
      go empty e = record { value = refl; word = sym h.at }
      go (full z) e = absurd (omega (arith, e.0))

-- ---- the slot of a simple term

pub record SlotSays (w : Words) (s : ℕ) (x : Side) : Type 0 where
  pub inside : s + 1 < path_at
  pub value : ¬ (get_or w s 0 ≡ 0) → Written true (get_or w (s + 1) 0) x
  pub low : get_or w s 0 ≡ 0 → s < frames_at → Written false s x
  pub place : get_or w s 0 ≡ 0 → frames_at ≤ s → ¬ (get_or w (s + 1) 0 ≡ 0) → Looks w (get_or w (s + 1) 0) x

place-says : {w : Words} {α : Valuation} → Holds w α → (p : Place) → Known p → SlotSays w (slot_of p) (look (α p) p)
place-says {w} {α} holds p known =
    let looks : Looks w (slot_of p) (look (α p) p) =
    record { place = p; slot = α p; known = known; at = refl; held = slot_held holds p known; is = refl } in
    let low = place-low p known in
    record {
      inside = omega arith;
      value = λ d. looks-value d looks;
      low = λ e l. looks-bare e looks;
      place = λ e l. absurd (omega arith);
    }

-- a parameter's
flag_one : (b : Bool) (f : ℕ) → f ≡ pick b 0 1 → ¬ (f ≡ 0) → ◌≡◌ {A = ℕ} (pick b 0 1) 1
flag_one true f e d = absurd (d e)
flag_one false f e d = refl

parameter-says : {w : Words} {D : Declared} {α : Valuation} (L : Level) (E : Environment) (n : ℕ) → Holds w α → L.number < max_procs →
    n < length L.terms → LevelAt D w L E → SlotSays w (argument_slot L.number n) (side D α (get_or L.terms n (parameter n)))
unfolding side
parameter-says {w} {D} {α} L E n holds low l v =
    let t = get_or L.terms n (parameter n) in
    let r = v.results n l in
    let flag = v.flags n l in
    let few = v.calls.arguments.few in
    let count = v.calls.count in
    record {
      inside = omega arith;
      value = λ d. is-value (r.value (flag_one (in_set (tags_at w L.number) n) (get_or w (argument_slot L.number n) 0) flag d));
      low = λ e m. absurd (omega arith);
      place = λ e m d. is-place (r.place (sym flag ∙ e) d);
    }
  where
    is-value : {t : Term} {x : ℕ} → IsValue t x → Written true x (side D α t)
    is-value h = rw h.term (record { value = refl; word = sym h.word })

    is-place : {t : Term} {x : ℕ} → IsPlace D t x → Looks w x (side D α t)
    is-place h =
        record {
          place = h.place;
          slot = α h.place;
          known = h.known;
          at = h.word;
          held = rw h.word (slot_held holds h.place h.known);
          is = h.looks α;
        }

-- of the simple term that is an argument of one token, by its planned word
module _ {w : Words} {from to p : ℕ} {D : Declared} {α : Valuation} {E : Environment} where
  pub stands-says : {t : Term} → Stands w from to p D α E t → to ≡ from + 1 → SlotSays w (plan_at w from) (side D α (fill_term (terms_of E) t))
  unfolding side fill_term OkTerm cells
  stands-says {t} g short = go t g.term g.planned g.ok
    where
      m : Memory w p D α E
      m = g.memory

      ends : end_at w from ≡ suc from
      ends = omega (arith, g.end)

      outer : (E : Environment) (n : ℕ) → EnvAt D w E → OkTerm D g.scope (get_or (terms_of E) n (parameter n)) →
          SlotSays w (argument_slot (number_of E) n) (side D α (get_or (terms_of E) n (parameter n)))
      outer [] n env ok = absurd (omega (arith, m.filled))
      outer (L ∷ E) n env ok =
          parameter-says L E n m.holds (number-low D w L E env)
          (not-le (length L.terms) n
          (λ l. let left : n < D.parameters = rw (get_or-eq_default L.terms (parameter n) l) at ok in omega (arith, m.filled)))
          env.0

      go : (t : Term) → TermAt w from t → ArgumentPlanned w (number_of E) from t → OkTerm D g.scope (fill_term (terms_of E) t) →
          SlotSays w (plan_at w from) (side D α (fill_term (terms_of E) t))
      go (constant z) at planned ok =
          rw planned
          (record {
            inside = omega (arith, at.0.after, at.0.inside);
            value = λ d. record { value = refl; word = sym at.1 };
            low = λ e l. absurd (omega (arith, at.0.code));
            place = λ e l. absurd (omega (arith, at.0.after, at.0.inside));
          })
      go (scalar_at c) at planned ok = rw planned (place-says m.holds (cell c) (omega (arith, m.cells)))
      go (local_at l) at planned ok = rw planned (place-says m.holds (local l) (g.locals l ok))
      go (parameter n) at planned ok = rw planned (outer E n m.environment ok)
      go (element_at a t) at planned ok = absurd (omega (arith, at.0.end, ends, (term-ends w (suc from) t at.2).after))
      go (apply o s t) at planned ok =
          absurd (omega (arith, at.0.end, ends, (term-ends w (suc from) s at.1).after, (term-ends w (end_at w (suc from)) t at.2).after))

-- ---- a result

module _ {tag v : ℕ} (x : Side) (t : tag ≡ tag_of x) (e : v ≡ word_of x) where
  pub tag-value : tag ≡ value_tag → Written true v x
  tag-value d = go x t e
    where
      go : (x : Side) → tag ≡ tag_of x → v ≡ word_of x → Written true v x
      go (val z) t e = record { value = refl; word = sym e }
      go (bare p) t e = absurd (omega arith)
      go (err κ) t e = absurd (omega arith)

  pub tag-bare : tag ≡ bare_tag → Written false v x
  tag-bare d = go x t e
    where
      go : (x : Side) → tag ≡ tag_of x → v ≡ word_of x → Written false v x
      go (val z) t e = absurd (omega arith)
      go (bare p) t e = record { value = refl; word = sym e }
      go (err κ) t e = absurd (omega arith)

  pub tag_open : ¬ (tag ≡ value_tag) → ¬ (tag ≡ bare_tag) → Written false 0 x
  tag_open a b = go x t
    where
      go : (x : Side) → tag ≡ tag_of x → Written false 0 x
      go (val z) t = absurd (a t)
      go (bare p) t = absurd (b t)
      go (err κ) t = record { value = refl; word = refl }

module _ {s : Stack} {w w' : Words} {slot : ℕ} {r : Bool} where
  pub give-value : s.tag ≡ value_tag → Bound w w' slot r (Written true s.value) → Bound w w' slot r (ResultOf s)
  give-value d b = bound-as (λ x h. tag-value x h.tag h.word d) b

  pub give-bare : s.tag ≡ bare_tag → Bound w w' slot r (Written false s.value) → Bound w w' slot r (ResultOf s)
  give-bare d b = bound-as (λ x h. tag-bare x h.tag h.word d) b

  pub give-open : ¬ (s.tag ≡ value_tag) → ¬ (s.tag ≡ bare_tag) → Bound w w' slot r (Written false 0) → Bound w w' slot r (ResultOf s)
  give-open a c b = bound-as (λ x h. tag_open x h.tag h.word a c) b

-- ---- the functions

module _ {w w' : Words} {slot : ℕ} {r : Bool} where
  -- a place's slot
  module _ {p f : ℕ} (flag : f ≡ get_or w p 0) where
    pub place-value : {x : ℕ} → ¬ (f ≡ 0) → x ≡ get_or w (p + 1) 0 → Bound w w' slot r (Written true x) → Bound w w' slot r (Looks w p)
    place-value d e b = bound-as (λ s h. rw e (looks-value (λ z. d (flag ∙ z)) h)) b

    pub place-bare : f ≡ 0 → Bound w w' slot r (Written false p) → Bound w w' slot r (Looks w p)
    place-bare d b = bound-as (λ s h. looks-bare (sym flag ∙ d) h) b

module _ {w : Words} {slot s from to p : ℕ} (g : Binds w slot s from to p) where
  says : (x : Side) → Gives w from to p x → SlotSays w s x
  says x v = rw (g.planned, v.is) (stands-says v.stands g.short)

  pub binds-inside : (s + 1 < path_at) × (path_at ≤ length w)
  binds-inside = let v = g.argues.gives in ((says g.argues.side v).inside, v.stands.memory.size)

  module _ {w' : Words} {r : Bool} {f : ℕ} (flag : f ≡ get_or w s 0) where
    pub bind-value : {x : ℕ} → ¬ (f ≡ 0) → x ≡ get_or w (s + 1) 0 → Bound w w' slot r (Written true x) → Bound w w' slot r (Gives w from to p)
    bind-value d e b = bound-as (λ x v. rw e ((says x v).value (λ z. d (flag ∙ z)))) b

    pub bind-low : f ≡ 0 → s < frames_at → Bound w w' slot r (Written false s) → Bound w w' slot r (Gives w from to p)
    bind-low d l b = bound-as (λ x v. (says x v).low (sym flag ∙ d) l) b

module _ {w : Words} {slot s from to p : ℕ} (g : Leads w slot s from to p) {q : ℕ} (word : q ≡ get_or w (s + 1) 0) (some : ¬ (q ≡ 0)) where
  leads : (x : Side) → Gives w from to p x → Looks w q x
  leads x v = rw word ((says g.binds x v).place g.empty g.later (λ z. some (word ∙ z)))

  pub leads-low : q + 1 < path_at
  leads-low = omega (arith, looks-low (leads g.binds.argues.side g.binds.argues.gives))

  pub leads-place : {w' : Words} {r : Bool} → Bound w w' slot r (Looks w q) → Bound w w' slot r (Gives w from to p)
  leads-place b = bound-as leads b

-- any term
module _ {w : Words} {from to p : ℕ} where
  pub program : {D : Declared} {α : Valuation} {E : Environment} {t : Term} → Stands w from to p D α E t →
      Program w from to p D α (terms_of E) (items t [])
  program {t = t} g = rw g.end (one g.memory g.fresh g.scope g.locals from t g.term g.ok g.low)

  pub argues-passes : {slot : ℕ} → Argues w slot from to p → Passes w from to p
  argues-passes a =
      let v = a.gives in
      record {
        declared = v.declared;
        valuation = v.valuation;
        terms = terms_of v.environment;
        items = items v.term [];
        program = program v.stands;
      }

  module _ {w₁ : Words} {s : Stack} (passed : Passed w w₁ from to p s) where
    held : (x : Side) → Gives w from to p x → s ≡ stack_of results_at x
    held x v = rw v.is (passed-one passed v.declared v.valuation (terms_of v.environment) v.term (program v.stands))

    pub work-gives : {w' : Words} {slot : ℕ} {r : Bool} → Bound w₁ w' slot r (ResultOf s) → Bound w w' slot r (Gives w from to p)
    work-gives b = bound-after passed.kept passed.size (λ x v. record { tag = tag_is (held x v); word = value-is (held x v) }) b
