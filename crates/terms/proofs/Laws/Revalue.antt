-- The open parameters of one call: one is valued again, and then each in turn. Assumes nothing.
use Prim.Native.Nat.{ℕ, suc, ◌+◌, ◌-◌, ◌/◌, ◌<◌, ◌≤◌}
use native.Mathlib.Omega.{arith}
use native.Mathlib.Numerals.{add-one}
use borrow.Author.Count.{below_more}
use borrow.Author.Tests.{eq-eqb}
use mathlib.Core.Path.{◌≡◌, refl, sym, ◌∙◌, ap}
use mathlib.Core.Bool.{true}
use mathlib.Core.List.{[], ◌∷◌}
use mathlib.Core.Logic.{◌⊎◌, inl, inr}
use lib.ListN.{length, get_or, drop}
use Rattle.specification.specs.Lines.{Declared}
use Rattle.specification.specs.Ast.{Term, parameter}
use Rattle.specification.specs.Fill.{fill_term}
use Rattle.specification.specs.Value.{Valuation, side}
use Rattle.tables.specs.Layout.{Words, token_words, dues_at, opens_at, path_at, open_slot, plan_at, max_procs, max_parameters, max_tokens}
use Rattle.tables.specs.Frames.{frames_at, argument_slot, call_at}
use Rattle.sheet.specs.Held.{end_at, ArgumentsAt}
use Rattle.terms.specs.Environment.{Level, Environment, terms_of, pointer_of, Memory}
use Rattle.terms.specs.Results.{Upto, EntryAt, Kept}
use Rattle.terms.specs.Machine.{items, Program}
use Rattle.terms.specs.Calls.{Fresh, number_at, around_at, is_open, Revalues, Revalued, RevaluesOne, RevaluedOne}
use Rattle.terms.proofs.Laws.Low.{tokens-low}
use Rattle.terms.proofs.Laws.Here.{term-here, end-here}
use Rattle.terms.proofs.Laws.Environment.{memory_kept, memory-around, fresh-same}
use Rattle.terms.proofs.Laws.Environment as environment
use Rattle.terms.proofs.Laws.Program.{one, run-one}
use Rattle.terms.proofs.Laws.Arguments.{Next, next_of, arguments-end, argument-ok, argument-low}
use Rattle.terms.proofs.Laws.Chain.{number_is, around-is}

-- ---- whether a parameter is open

both-open : (w : Words) (k n : ℕ) → get_or w (argument_slot k n) 0 ≡ 0 → get_or w (argument_slot k n + 1) 0 ≡ 0 → is_open w k n ≡ true
both-open w k n o z = rw (eq-eqb (get_or w (argument_slot k n) 0) 0 o, eq-eqb (get_or w (argument_slot k n + 1) 0) 0 z) refl

-- ---- each in turn

-- parameter m of the call L, if it is open, has its result in the words w
abbrev Done : Words → Words → Declared → Valuation → Level → ℕ → Type 0
Done w₀ w D α L m = m < length L.terms → get_or w₀ (argument_slot L.number m) 0 ≡ 0 → get_or w₀ (argument_slot L.number m + 1) 0 ≡ 0 →
    EntryAt w (open_slot L.number m) (side D α (get_or L.terms m (parameter m)))

-- the first n have their results, and the next argument stands at token i
pub record Rounds (w₀ w : Words) (p i n : ℕ) (D : Declared) (α : Valuation) (L : Level) (E : Environment) : Type 0 where
  pub rest : ArgumentsAt w₀ i (end_at w₀ (number_at w₀ p)) (drop n L.arguments)
  pub around : Fresh w D α E
  pub done : (m : ℕ) → m < n → Done w₀ w D α L m

pub record Round (w₀ w : Words) (p i n : ℕ) : Type 0 where
  pub kept : Kept w₀ w
  pub size : length w ≡ length w₀
  pub state : (D : Declared) (α : Valuation) (L : Level) (E : Environment) → Memory w₀ p D α (L ∷ E) → Fresh w₀ D α E → Rounds w₀ w p i n D α L E

round-start : (w : Words) (p : ℕ) → Round w w p (suc (number_at w p)) 0
round-start w p =
    record {
      kept = λ k o. refl;
      size = refl;
      state = λ D α L E m fresh.
          record {
            rest = rw (number_is p m.environment.0 m.pointer) m.environment.0.calls.call.arguments;
            around = fresh;
            done = λ j l. absurd (omega arith);
          };
    }

module _ {w₀ w : Words} {p i n : ℕ} (round : Round w₀ w p i n) where
  low : Upto dues_at w₀ w
  low j h = round.kept j (inl h)

  -- a parameter's slot is as it was
  slot_same : (k m : ℕ) → (get_or w (argument_slot k m) 0 ≡ get_or w₀ (argument_slot k m) 0)
      × (get_or w (argument_slot k m + 1) 0 ≡ get_or w₀ (argument_slot k m + 1) 0)
  slot_same k m = (round.kept (argument_slot k m) (inr (omega arith)), round.kept (argument_slot k m + 1) (inr (omega arith)))

  round-end : end_at w₀ (number_at w₀ p) ≤ i → Revalued w₀ w p
  round-end l =
      record {
        fresh = λ D α L E m fresh.
            let s = round.state D α L E m fresh in
            let all = arguments-end w₀ L.arguments n i (end_at w₀ (number_at w₀ p)) s.rest l in
            let count = m.environment.0.calls.count in
            λ j h o z.
            let same = slot_same L.number j in
            s.done j (omega arith) h (sym same.0 ∙ o) (sym same.1 ∙ z);
        kept = round.kept;
        size = round.size;
      }

  module _ (more : i < end_at w₀ (number_at w₀ p)) where
    module _ {D : Declared} {α : Valuation} {L : Level} {E : Environment} (m : Memory w₀ p D α (L ∷ E)) (fresh : Fresh w₀ D α E) where
      state : Rounds w₀ w p i n D α L E
      state = round.state D α L E m fresh

      next : Next w₀ i (end_at w₀ (number_at w₀ p)) n L.arguments
      next = next_of w₀ L.arguments n i (end_at w₀ (number_at w₀ p)) state.rest more

      token : i < max_tokens
      token = omega (arith, next.ends.after, next.ends.inside)

      -- the argument's own term
      abbrev argument : Term
      argument = get_or L.arguments n (parameter n)

      around : Memory w (pointer_of E) D α E
      around = memory_kept round.kept round.size (memory-around m)

      program : Program w i (end_at w i) (pointer_of E) D α (terms_of E) (items argument [])
      program =
          let given = m.environment.0.calls.arguments in
          one around state.around given.scope given.locals i argument
          (term-here w₀ w (tokens-low w₀ w low) argument i next.term) (argument-ok given n next.inside) (argument-low given n next.inside)

      number-low : L.number < max_procs
      number-low = environment.number-low D w₀ L E m.environment

      few : n < max_parameters
      few = omega (arith, next.inside, m.environment.0.calls.arguments.few)

      pointer_is : around_at w₀ p ≡ pointer_of E
      pointer_is = around-is p m.environment.0 m.pointer

    round-few : Revalues w₀ p → n < max_parameters
    round-few a = few a.memory a.fresh

    round-token : Revalues w₀ p → (i < max_tokens) × (i < end_at w i)
    round-token a =
        let there = token a.memory a.fresh in
        (there, rw (end-here w₀ w (tokens-low w₀ w low) there) (next a.memory a.fresh).ends.after)

    round-asks : Revalues w₀ p → RevaluesOne w i (end_at w i) (around_at w₀ p) (p - 1) n
    round-asks a =
        let m = a.memory in
        let f = a.fresh in
        record {
          passes =
              record {
                declared = a.declared;
                valuation = a.valuation;
                terms = terms_of a.environment;
                items = items (argument m f) [];
                program = rw (pointer_is m f) (program m f);
              };
          procedure = omega (arith, m.pointer, number-low m f);
          number = few m f;
        }

    round-next : {w' : Words} → RevaluedOne w w' i (end_at w i) (around_at w₀ p) (p - 1) n → Revalues w₀ p → Round w₀ w' p (end_at w i) (n + 1)
    round-next {w'} r a =
        record {
          kept = λ j o. r.kept j (off j o) (apart j o) ∙ round.kept j o;
          size = r.size ∙ round.size;
          state = λ D α L E m fresh.
              let s = state m fresh in
              let level = m.environment.0 in
              let is : p - 1 ≡ L.number = omega (arith, m.pointer) in
              record {
                rest = rw (end-here w₀ w (tokens-low w₀ w low) (token m fresh), add-one n) (next m fresh).rest;
                around =
                    fresh-same w w' D α E (around m fresh).environment
                    (λ j u v. r.kept j (inr (omega arith)) (inr (omega (arith, asks.procedure, asks.number))))
                    (λ j u v. r.kept j (inr (omega arith)) (inr (omega (arith, is, level.calls.earlier, asks.number)))) s.around;
                done =
                    below_more (Done w₀ w' D α L) n
                    (λ j l u o z.
                    let entry = s.done j l u o z in
                    let at = open_slot L.number j in (
                      r.kept at (inr (omega arith)) (inl (omega (arith, is))) ∙ entry.0,
                      r.kept (at + 1) (inr (omega arith)) (inl (omega (arith, is))) ∙ entry.1,
                    ))
                    (λ u o z.
                    let term = argument m fresh in
                    let same = slot_same L.number n in
                    let opened = both-open w L.number n (same.0 ∙ o) (same.1 ∙ z) in
                    rw ((level.results n u).opened (sym (level.flags n u) ∙ o) z, sym is)
                    (r.entry (rw is opened) D α (terms_of E) (items term []) (side D α (fill_term (terms_of E) term))
                    (rw (pointer_is m fresh) (program m fresh)) (run-one D α (terms_of E) term)));
              };
        }
      where
        asks : RevaluesOne w i (end_at w i) (around_at w₀ p) (p - 1) n
        asks = round-asks a

        off : (j : ℕ) → (j < dues_at) ⊎ (frames_at ≤ j) → (j < dues_at) ⊎ (opens_at ≤ j)
        off j (inl l) = inl l
        off j (inr l) = inr (omega arith)

        apart : (j : ℕ) → (j < dues_at) ⊎ (frames_at ≤ j) → (j < open_slot (p - 1) n) ⊎ (open_slot (p - 1) n + 1 < j)
        apart j (inl l) = inl (omega arith)
        apart j (inr l) = inr (omega (arith, asks.procedure, asks.number))

-- ---- as the code reads the call

pub record CallRead (w : Words) (p number to env : ℕ) : Type 0 where
  pub asks : Revalues w p
  pub token : number ≡ number_at w p
  pub end : to ≡ end_at w (number_at w p)
  pub around : env ≡ around_at w p

-- x is the word of the call in the frame
pub call-read : {w : Words} {p x env to : ℕ} → Revalues w p → x ≡ call_at w (p - 1) → env ≡ plan_at w (x / token_words + 1) →
    to ≡ end_at w (x / token_words + 1) → CallRead w p (x / token_words + 1) to env
call-read {w} a call around end =
    record {
      asks = a;
      token = ap (λ (x : ℕ). x / token_words + 1) call;
      end = end ∙ ap (λ (x : ℕ). end_at w (x / token_words + 1)) call;
      around = around ∙ ap (λ (x : ℕ). plan_at w (x / token_words + 1)) call;
    }

module _ {w₀ w : Words} {p number to env i n : ℕ} (c : CallRead w₀ p number to env) (round : Round w₀ w p i n) where
  pub read-end : to ≤ i → Revalued w₀ w p
  read-end l = round-end round (omega (arith, c.end))

  module _ (l : i < to) where
    more : i < end_at w₀ (number_at w₀ p)
    more = omega (arith, c.end)

    pub read-few : n < max_parameters
    read-few = round-few round more c.asks

    -- the token is in the table, which is in the words, and its subtree ends after it
    pub read-token : (i < max_tokens) × (path_at ≤ length w) × (i < end_at w i)
    read-token =
        let there = round-token round more c.asks in
        (there.0, omega (arith, round.size, c.asks.memory.size), there.1)

    module _ {e : ℕ} (end : e ≡ end_at w i) where
      pub read-asks : RevaluesOne w i e env (p - 1) n
      read-asks = rw (end, c.around) (round-asks round more c.asks)

      pub read_next : {w' : Words} → RevaluedOne w w' i e env (p - 1) n → Round w₀ w' p e (n + 1)
      read_next r = rw end (round-next round more (rw (end, c.around) at r) c.asks)
