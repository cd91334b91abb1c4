-- The calls that are active, found from the innermost procedure outwards: the next one, how many they are, and the one at a number. Assumes nothing.
use Prim.Native.Nat.{ℕ, zero, suc, ◌+◌, ◌-◌, ◌<◌, ◌≤◌}
use native.Mathlib.Omega.{arith}
use native.Mathlib.Numerals.{add-one}
use mathlib.Core.Path.{◌≡◌, refl, sym, ◌∙◌, ap, subst}
use mathlib.Core.List.{[], ◌∷◌}
use lib.ListN.{length, get_or, drop}
use lib.Seq.{drop-cons}
use Rattle.specification.specs.Lines.{Declared}
use Rattle.tables.specs.Layout.{Words, path_at, max_procs, token_slot, plan_at}
use Rattle.tables.specs.Frames.{call_at}
use Rattle.terms.specs.Environment.{Level, Environment, pointer_of, LevelAt, EnvAt}
use Rattle.terms.specs.Calls.{Settles, Active, number_at, around_at, Counted, Outward, Reached}
use Rattle.terms.proofs.Laws.Here.{token-ends}
use Rattle.terms.proofs.Laws.Environment.{env-few, number-low}

-- ---- the innermost call

pub number_is : {D : Declared} {w : Words} {L : Level} {E : Environment} (p : ℕ) (v : LevelAt D w L E) → p ≡ suc L.number →
    number_at w p ≡ suc v.token
number_is {w = w} {L = L} p v e =
    let number : p - 1 ≡ L.number = omega arith in
    let place : call_at w (p - 1) ≡ token_slot v.token = rw number v.place in
    omega (arith, place)

pub around-is : {D : Declared} {w : Words} {L : Level} {E : Environment} (p : ℕ) → LevelAt D w L E → p ≡ suc L.number →
    around_at w p ≡ pointer_of E
around-is {w = w} p v e = ap (λ (i : ℕ). plan_at w i) (number_is p v e) ∙ v.calls.around

pub active-of : (D : Declared) (w : Words) (L : Level) (E : Environment) (p : ℕ) → EnvAt D w (L ∷ E) → p ≡ suc L.number → path_at ≤ length w →
    Active w p
active-of D w L E p h e size =
    let low = number-low D w L E h in
    let ends = token-ends h.0.calls.call.token in
    record {
      some = omega arith;
      procedure = omega arith;
      token = omega (arith, number_is p h.0 e, ends.after, ends.inside);
      size = size;
    }

-- ---- n calls further out

pub env-drop : (D : Declared) (w : Words) (E : Environment) (n : ℕ) → EnvAt D w E → EnvAt D w (drop n E)
env-drop D w E zero h = h
env-drop D w [] (suc n) h = h
env-drop D w (L ∷ E) (suc n) h = env-drop D w E n h.1

pub none_left : (E : Environment) (n : ℕ) → length E ≤ n → drop n E ≡ []
none_left [] zero l = refl
none_left [] (suc n) l = refl
none_left (L ∷ E) zero l = absurd (omega arith)
none_left (L ∷ E) (suc n) l = none_left E n (omega arith)

some_left : (E : Environment) (n : ℕ) → (pointer_of (drop n E) ≡ 0 → ⊥) → n < length E
some_left [] zero d = absurd (d refl)
some_left [] (suc n) d = absurd (d refl)
some_left (L ∷ E) zero d = omega arith
some_left (L ∷ E) (suc n) d = omega (arith, some_left E n d)

all-passed : (E : Environment) (n : ℕ) → pointer_of (drop n E) ≡ 0 → length E ≤ n
all-passed [] n e = omega arith
all-passed (L ∷ E) zero e = absurd (omega arith)
all-passed (L ∷ E) (suc n) e = omega (arith, all-passed E n e)

-- no call
abbrev no_level : Level
no_level = record { number = 0; arguments = []; terms = [] }

-- the call after the first n
abbrev pub level_at : Environment → ℕ → Level
level_at E n = get_or E n no_level

pub split : (E : Environment) (n : ℕ) → n < length E → drop n E ≡ level_at E n ∷ drop (suc n) E
split E n h = drop-cons E n no_level h

module _ (D : Declared) (w : Words) (E : Environment) (n q : ℕ) (h : EnvAt D w E) (l : n < length E) (e : q ≡ pointer_of (drop n E)) where
  here : EnvAt D w (level_at E n ∷ drop (suc n) E)
  here = subst (EnvAt D w) (split E n l) (env-drop D w E n h)

  pointed : q ≡ suc (level_at E n).number
  pointed = e ∙ ap pointer_of (split E n l)

  out-active : path_at ≤ length w → Active w q
  out-active = active-of D w (level_at E n) (drop (suc n) E) q here pointed

  out-next : around_at w q ≡ pointer_of (drop (suc n) E)
  out-next = around-is q here.0 pointed

pub calls-few : {w : Words} {p : ℕ} (a : Settles w p) → length a.environment ≤ max_procs
calls-few {w} a = omega (arith, env-few a.declared w a.environment a.memory.environment)

-- ---- how many they are

-- n calls are passed, and q points to the next
pub record Passing (w : Words) (p n q : ℕ) : Type 0 where
  pub each : (D : Declared) (E : Environment) → EnvAt D w E → p ≡ pointer_of E → (n ≤ length E) × (q ≡ pointer_of (drop n E))

pub passing-start : (w : Words) (p : ℕ) → Passing w p 0 p
passing-start w p = record { each = λ D E h e. (omega arith, e) }

pub passing-end : {w : Words} {p n q : ℕ} → Passing w p n q → q ≡ 0 → Counted w p n
passing-end {n = n} g z D E h e =
    let r = g.each D E h e in
    omega (arith, r.0, all-passed E n (sym r.1 ∙ z))

module _ {w : Words} {p n q : ℕ} (g : Passing w p n q) (some : q ≡ 0 → ⊥) where
  passing-more : (D : Declared) (E : Environment) → EnvAt D w E → p ≡ pointer_of E → n < length E
  passing-more D E h e = some_left E n (λ z. some ((g.each D E h e).1 ∙ z))

  pub passing-asks : Settles w p → Active w q
  passing-asks a =
      let m = a.memory in
      let E = a.environment in
      out-active a.declared w E n q m.environment (passing-more a.declared E m.environment m.pointer)
      (g.each a.declared E m.environment m.pointer).1 m.size

  pub passing-few : Settles w p → n < max_procs
  passing-few a =
      let m = a.memory in
      omega (arith, passing-more a.declared a.environment m.environment m.pointer, calls-few a)

  pub passing-next : {r : ℕ} → r ≡ around_at w q → Passing w p (n + 1) r
  passing-next {r} is =
      record {
        each = λ D E h e.
            let more = passing-more D E h e in
            (omega arith, rw add-one (is ∙ out-next D w E n q h more (g.each D E h e).1));
      }

-- ---- the one at a number

module _ (w : Words) (p : ℕ) {n q j : ℕ} (g : Reached w p n q) (less : n < j) where
  pub outward-asks : Outward w p j → Active w q
  outward-asks a =
      let s = a.settles in
      let m = s.memory in
      let E = s.environment in
      out-active s.declared w E n q m.environment (omega (arith, a.within))
      (g s.declared E m.environment m.pointer (omega (arith, a.within))) m.size

  pub outward-next : {r : ℕ} → r ≡ around_at w q → Reached w p (n + 1) r
  outward-next {r} is D E h e l = rw add-one (is ∙ out-next D w E n q h (omega arith) (g D E h e (omega arith)))
