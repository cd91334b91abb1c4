-- The arguments of a call go into their slots one after the other: what each slot says, and the set of those that are no values. Assumes nothing.
use Prim.Native.Nat.{ℕ, zero, suc, ◌+◌, ◌<◌, ◌≤◌}
use native.Mathlib.Omega.{arith}
use native.Mathlib.Numerals.{add-one}
use borrow.Author.Count.{below_more}
use borrow.Author.Tests.{eq-eqb, ne_eqb}
use mathlib.Core.Path.{◌≡◌, refl, sym, ◌∙◌}
use mathlib.Core.Bool.{Bool, true, false, not}
use mathlib.Core.List.{List, [], ◌∷◌}
use mathlib.Core.Logic.{◌⊎◌, inl, inr}
use lib.ListN.{length, get_or, drop}
use Rattle.specification.specs.Lines.{Declared}
use Rattle.specification.specs.Ast.{Term, parameter}
use Rattle.specification.specs.Fill.{fill_term}
use Rattle.specification.specs.Value.{Valuation, Side, side}
use Rattle.specification.proofs.Laws.Contradiction.{contradiction}
use Rattle.tables.specs.Layout.{dues_at, opens_at, path_at, max_parameters, max_procs, max_tokens}
use Rattle.tables.specs.Frames.{argument_slot}
use Rattle.tables.specs.Kept.{SameTokens}
use Rattle.tables.specs.Locals.{in_set}
use Rattle.tables.proofs.Laws.Locals.{in_set-none, in_set-with}
use Rattle.sheet.specs.Tables.{Words}
use Rattle.sheet.specs.Held.{end_at, TermAt, ArgumentsAt}
use Rattle.plan.specs.Planned.{ArgumentPlanned, ArgumentsPlanned}
use Rattle.plan.proofs.Laws.Carried.{arguments-planned-same}
use Rattle.terms.specs.Environment.{Environment, terms_of, number_of}
use Rattle.terms.specs.Results.{Upto}
use Rattle.terms.specs.Calls.{Call, Fresh, Tells, Arrives, Arrived}
use Rattle.terms.specs.Arguments.{Says, Bound, Stands, Gives, Argues, noted}
use Rattle.terms.proofs.Laws.Low.{tokens-low}
use Rattle.terms.proofs.Laws.Here.{token-ends, term-ends, term-here, end-here}
use Rattle.terms.proofs.Laws.Environment.{env-few}
use Rattle.terms.proofs.Laws.Arguments.{Next, next_of, arguments-end, argument-ok, argument-low}
use Rattle.terms.proofs.Laws.Outer.{SameFrom, memory-outer, fresh-outer}

-- ---- the set

module _ (set n : ℕ) where
  noted_other : (b : Bool) (m : ℕ) → (m ≡ n → ⊥) → in_set (noted set n b) m ≡ in_set set m
  noted_other true m d = refl
  noted_other false m d = rw (in_set-with set n m, ne_eqb m n d) refl

  noted_here : in_set set n ≡ false → (b : Bool) → in_set (noted set n b) n ≡ not b
  noted_here e true = e
  noted_here e false = rw (in_set-with set n n, eq-eqb n n refl) refl

-- what the slot says, the set says
tells-here : {w : Words} {K set n : ℕ} {x : Side} (b : Bool) → in_set set n ≡ not b → Says w (argument_slot K n) b x → Tells w K set n x
tells-here true e s =
    record { value = λ a. sym s.told; other = λ a. contradiction (cc); flag = rw e s.flag; word = s.word }
tells-here false e s =
    record { value = λ a. contradiction (cc); other = λ a. sym s.told; flag = rw e s.flag; word = s.word }

-- and it stays where the slot and the set do
tells-same : {w w' : Words} {K set set' n : ℕ} {x : Side} → in_set set' n ≡ in_set set n →
    get_or w' (argument_slot K n) 0 ≡ get_or w (argument_slot K n) 0 → get_or w' (argument_slot K n + 1) 0 ≡ get_or w (argument_slot K n + 1) 0 →
    Tells w K set n x → Tells w' K set' n x
tells-same e f g t =
    record {
      value = λ a. t.value (sym e ∙ a);
      other = λ a. t.other (sym e ∙ a);
      flag = rw e (f ∙ t.flag);
      word = g ∙ t.word;
    }

-- ---- the plan of the next argument

next-planned : (w : Words) (K : ℕ) (ts : List Term) (n k i e : ℕ) → ArgumentsAt w i e (drop n ts) → i < e → ArgumentsPlanned w K i (drop n ts) →
    ArgumentPlanned w K i (get_or ts n (parameter k)) × ArgumentsPlanned w K (end_at w i) (drop (suc n) ts)
next-planned w K [] zero k i e h l p = absurd (omega arith)
next-planned w K [] (suc n) k i e h l p = absurd (omega arith)
next-planned w K (t ∷ ts) zero k i e h l p = p
next-planned w K (t ∷ ts) (suc n) k i e h l p = next-planned w K ts n k i e h l p

argument-planned-here : (w w' : Words) → SameTokens w w' → (K : ℕ) (t : Term) (i : ℕ) → TermAt w i t → ArgumentPlanned w K i t →
    ArgumentPlanned w' K i t
argument-planned-here w w' same K t i q p =
    (arguments-planned-same w w' max_tokens (λ k h. same k (omega arith)) K (t ∷ []) i (end_at w i) (q, refl) (term-ends w i t q).inside (p, tt)).0

number-few : {w : Words} {h K p : ℕ} {D : Declared} {α : Valuation} {E : Environment} {ts : List Term} → Call w h K p D α E ts → K < max_procs
number-few {w} {D = D} {E = E} c = omega (arith, c.earlier, env-few D w E c.memory.environment)

-- ---- the loop

-- the first n have their slots, and the next stands at token i
pub record Fills (w₀ w : Words) (h K i n set : ℕ) (D : Declared) (α : Valuation) (E : Environment) (ts : List Term) : Type 0 where
  pub rest : ArgumentsAt w₀ i (end_at w₀ (suc h)) (drop n ts)
  pub planned : ArgumentsPlanned w₀ (number_of E) i (drop n ts)
  pub each : (m : ℕ) → m < n → Tells w K set m (side D α (fill_term (terms_of E) (get_or ts m (parameter m))))
  pub later : (m : ℕ) → n ≤ m → in_set set m ≡ false

-- all words but those of the stack and of the slots of procedure K
abbrev KeptSlots : ℕ → Words → Words → Type 0
KeptSlots K w w' =
    (j : ℕ) → (j < dues_at) ⊎ (opens_at ≤ j) → (j < argument_slot K 0) ⊎ (argument_slot K max_parameters ≤ j) → get_or w' j 0 ≡ get_or w j 0

pub record Filling (w₀ w : Words) (h K p to i n set : ℕ) : Type 0 where
  pub end : to ≡ end_at w₀ (suc h)
  pub kept : KeptSlots K w₀ w
  pub size : length w ≡ length w₀
  pub state : (D : Declared) (α : Valuation) (E : Environment) (ts : List Term) → Call w₀ h K p D α E ts → Fresh w₀ D α E →
      Fills w₀ w h K i n set D α E ts

pub filling-start : (w : Words) (h K p to : ℕ) → to ≡ end_at w (suc h) → Filling w w h K p to (suc (suc h)) 0 0
filling-start w h K p to e =
    record {
      end = e;
      kept = λ j a b. refl;
      size = refl;
      state = λ D α E ts c fresh.
          record {
            rest = c.call.arguments;
            planned = c.planned;
            each = λ m l. absurd (omega arith);
            later = λ m l. in_set-none m;
          };
    }

module _ {w₀ w : Words} {h K p to i n set : ℕ} (filling : Filling w₀ w h K p to i n set) where
  low : Upto dues_at w₀ w
  low j l = filling.kept j (inl l) (inl (omega arith))

  pub filling-end : to ≤ i → Arrived w₀ w h K p set
  filling-end l =
      let last : end_at w₀ (suc h) ≤ i = omega (arith, filling.end) in
      record {
        each = λ D α E ts c fresh m k.
            let s = filling.state D α E ts c fresh in
            s.each m (omega (arith, arguments-end w₀ ts n i (end_at w₀ (suc h)) s.rest last));
        kept = filling.kept;
        size = filling.size;
      }

  module _ (l : i < to) where
    more : i < end_at w₀ (suc h)
    more = omega (arith, filling.end)

    module _ {D : Declared} {α : Valuation} {E : Environment} {ts : List Term} (c : Call w₀ h K p D α E ts) (fresh : Fresh w₀ D α E) where
      state : Fills w₀ w h K i n set D α E ts
      state = filling.state D α E ts c fresh

      next : Next w₀ i (end_at w₀ (suc h)) n ts
      next = next_of w₀ ts n i (end_at w₀ (suc h)) state.rest more

      plans : ArgumentPlanned w₀ (number_of E) i (get_or ts n (parameter n)) × ArgumentsPlanned w₀ (number_of E) (end_at w₀ i) (drop (suc n) ts)
      plans = next-planned w₀ (number_of E) ts n n i (end_at w₀ (suc h)) state.rest more state.planned

      token : i < max_tokens
      token = omega (arith, next.ends.after, next.ends.inside)

      few : n < max_parameters
      few = omega (arith, next.inside, c.arguments.few)

      -- the frames of E are after that of K
      outer : SameFrom (number_of E) w₀ w
      outer j a b = filling.kept j (inr (omega arith)) (inr (omega (arith, c.earlier)))

      stands : {e : ℕ} → e ≡ end_at w i → Stands w i e p D α E (get_or ts n (parameter n))
      stands end =
          let given = c.arguments in
          let tokens = tokens-low w₀ w low in
          record {
            memory = memory-outer low outer filling.size c.memory;
            fresh = fresh-outer w₀ w D α E c.memory.environment outer (λ j a b. filling.kept j (inr a) (inl (omega arith))) fresh;
            term = term-here w₀ w tokens (get_or ts n (parameter n)) i next.term;
            end = end;
            planned = argument-planned-here w₀ w tokens (number_of E) (get_or ts n (parameter n)) i next.term plans.0;
            scope = given.scope;
            locals = given.locals;
            ok = argument-ok given n next.inside;
            low = argument-low given n next.inside;
          }

    module _ (a : Arrives w₀ h K p) where
      pub filling-few : n < max_parameters
      filling-few = few a.call a.fresh

      pub filling-token : (i < max_tokens) × (i < end_at w i)
      filling-token =
          let there = token a.call a.fresh in
          (there, rw (end-here w₀ w (tokens-low w₀ w low) there) (next a.call a.fresh).ends.after)

      module _ {e slot : ℕ} (end : e ≡ end_at w i) (place : slot ≡ argument_slot K n) where
        pub filling-argues : Argues w slot i e p
        filling-argues =
            let D = a.declared in
            let E = a.environment in
            let t = get_or a.arguments n (parameter n) in
            record {
              side = side D a.valuation (fill_term (terms_of E) t);
              gives =
                  record {
                    declared = D;
                    valuation = a.valuation;
                    environment = E;
                    term = t;
                    stands = stands a.call a.fresh end;
                    is = refl;
                  };
              room = omega (arith, filling-few, a.call.earlier, number-few a.call, a.call.memory.size, filling.size);
            }

        module _ {w' : Words} {b : Bool} {tags : ℕ} (bound : Bound w w' slot b (Gives w i e p)) (is : tags ≡ noted set n b) where
          -- what each of the first n + 1 is
          module _ {D : Declared} {α : Valuation} {E : Environment} {ts : List Term} (c : Call w₀ h K p D α E ts) (fresh : Fresh w₀ D α E) where
            abbrev side_at : ℕ → Side
            side_at m = side D α (fill_term (terms_of E) (get_or ts m (parameter m)))

            here : Tells w' K tags n (side_at n)
            here =
                tells-here b (rw is (noted_here set n ((state c fresh).later n (omega arith)) b))
                (rw place at
                (bound.says (side_at n)
                (record {
                  declared = D;
                  valuation = α;
                  environment = E;
                  term = get_or ts n (parameter n);
                  stands = stands c fresh end;
                  is = refl;
                })))

            each : (m : ℕ) → m < n + 1 → Tells w' K tags m (side_at m)
            each =
                below_more (λ (m : ℕ). Tells w' K tags m (side_at m)) n
                (λ m l.
                tells-same (rw is (noted_other set n b m (λ y. omega arith)))
                (bound.kept (argument_slot K m) (inr (omega arith)) (inl (omega (arith, place))))
                (bound.kept (argument_slot K m + 1) (inr (omega arith)) (inl (omega (arith, place)))) ((state c fresh).each m l)) here

          pub filling-next : Filling w₀ w' h K p to e (n + 1) tags
          filling-next =
              record {
                end = filling.end;
                kept = λ j u v. bound.kept j u (apart j v) ∙ filling.kept j u v;
                size = bound.size ∙ filling.size;
                state = λ D α E ts c fresh.
                    let ends = end-here w₀ w (tokens-low w₀ w low) (token c fresh) in
                    record {
                      rest = rw (end, ends, add-one) (next c fresh).rest;
                      planned = rw (end, ends, add-one) (plans c fresh).1;
                      each = each c fresh;
                      later = λ m k. rw is (noted_other set n b m (λ y. omega arith) ∙ (state c fresh).later m (omega arith));
                    };
              }
            where
              apart : (j : ℕ) → (j < argument_slot K 0) ⊎ (argument_slot K max_parameters ≤ j) → (j < slot) ⊎ (slot + 2 ≤ j)
              apart j (inl l) = inl (omega (arith, place))
              apart j (inr l) = inr (omega (arith, place, filling-few))

pub arrives-inside : {w : Words} {h K p : ℕ} → Arrives w h K p → (suc h < max_tokens) × (path_at ≤ length w) × (K < max_procs)
arrives-inside a =
    let c = a.call in
    let ends = token-ends c.call.token in
    (omega (arith, ends.after, ends.inside), c.memory.size, number-few c)
