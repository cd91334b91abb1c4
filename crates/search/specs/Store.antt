-- What a walk keeps beside the valuation: for each local the last value of its `all`, and for each procedure the call that it is active in or was last
-- active in. Assumes nothing.
use Rattle.std.specs.Prelude.{ℕ, ◌<◌, ◌≡◌, [], ◌∷◌, eqb}
use Rattle.std.proofs.Math.Option.{Option, none, some as just}
use Rattle.specification.specs.Bytes.{pick}
use Rattle.terms.specs.Environment.{Level, Environment, number_of}
use Rattle.plan.specs.Next.{Next, end, token, back}

-- a call: what its procedure's parameters stand for, the environment around it, its token, and what comes after it
pub record Call : Type 0 where
  pub level : Level
  pub around : Environment
  pub token : ℕ
  pub back : Next

pub record Store : Type 0 where
  pub last : ℕ → ℕ
  pub calls : ℕ → Option Call

abbrev pub store : (ℕ → ℕ) → (ℕ → Option Call) → Store
store f g = record { last = f; calls = g }

-- at the root
abbrev pub root_store : Store
root_store = store (λ l. 0) (λ K. none)

module _ {A : Type 0} where
  -- the same function but at one number
  unfoldable pub with : (ℕ → A) → ℕ → A → ℕ → A
  with f k a j = let b = f j in pick (eqb j k) a b

-- below an `all` over the local l up to the word h
abbrev pub last_store : ℕ → ℕ → Store → Store
last_store l h σ = store (with σ.last l h) σ.calls

-- below a call
abbrev pub call_store : Call → Store → Store
call_store C σ = store σ.last (with σ.calls C.level.number (just C))

-- what comes next, past a procedure's end
abbrev pub back_of : ℕ → Option Call → Next
back_of K none = back K
back_of K (just C) = C.back

abbrev pub resolve : Store → Next → Next
resolve σ end = end
resolve σ (token i) = token i
resolve σ (back K) = back_of K (σ.calls K)

-- the calls of an environment are the store's
pub record Active (σ : Store) (L : Level) (E : Environment) : Type 0 where
  pub call : Call
  pub there : σ.calls L.number ≡ just call
  pub level : call.level ≡ L
  pub around : call.around ≡ E
  pub earlier : L.number < number_of E

abbrev pub EnvIn : Store → Environment → Type 0
EnvIn σ [] = Unit {0}
EnvIn σ (L ∷ E) = Active σ L E × EnvIn σ E
