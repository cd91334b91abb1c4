-- The contracts of src/calls.rt and src/arguments.rt: open parameters that are valued again, and the arguments of a call that is entered. Assumes
-- nothing.
use Rattle.std.specs.Prelude.{ℕ, suc, ◌+◌, ◌-◌, ◌/◌, ◌<◌, ◌≤◌, ◌≡◌, Bool, true, false, List, [], ◌∷◌, map, ◌⊎◌, length, get_or, drop, eqb}
use Rattle.specification.specs.Bytes.{pick}
use Rattle.specification.specs.Lines.{Declared}
use Rattle.specification.specs.Ast.{Term, parameter}
use Rattle.specification.specs.Fill.{fill_term, fill_terms}
use Rattle.specification.specs.Value.{Valuation, Side, val, bare, err, side}
use Rattle.values.specs.Word.{biased}
use Rattle.tables.specs.Layout.{max_procs, max_parameters, max_tokens, token_words, dues_at, opens_at, path_at, open_slot, plan_at}
use Rattle.tables.specs.Frames.{argument_slot, call_at}
use Rattle.tables.specs.Locals.{in_set}
use Rattle.sheet.specs.Tables.{Words}
use Rattle.sheet.specs.Held.{slot_of}
use Rattle.plan.specs.Planned.{ArgumentsPlanned}
use Rattle.terms.specs.Environment.{frozen, Level, Environment, terms_of, number_of, CallAt, Arguments, flag_of}
use Rattle.terms.specs.Environment.{pointer_of, EnvAt, Memory}
use Rattle.terms.specs.Results.{EntryAt, Kept}
use Rattle.terms.specs.Machine.{Item, run, Program, Passes}

-- ---- open parameters

-- each open parameter of the innermost call has its result in the words for it
abbrev pub Fresh : Words → Declared → Valuation → Environment → Type 0
Fresh w D α [] = Unit {0}
Fresh w D α (L ∷ E) = (n : ℕ) → n < length L.terms → get_or w (argument_slot L.number n) 0 ≡ 0 → get_or w (argument_slot L.number n + 1) 0 ≡ 0 →
    EntryAt w (open_slot L.number n) (side D α (get_or L.terms n (parameter n)))

pub record Settles (w : Words) (p : ℕ) : Type 0 where
  pub declared : Declared
  pub valuation : Valuation
  pub environment : Environment
  pub memory : Memory w p declared valuation environment

pub record Settled (w w' : Words) (p : ℕ) : Type 0 where
  pub fresh : (D : Declared) (α : Valuation) (E : Environment) → Memory w p D α E → Fresh w' D α E
  pub kept : Kept w w'
  pub size : length w' ≡ length w

-- ---- their parts

-- the token of the procedure's number in the call that p is active in
abbrev pub number_at : Words → ℕ → ℕ
number_at w p = call_at w (p - 1) / token_words + 1

-- the pointer around that call
abbrev pub around_at : Words → ℕ → ℕ
around_at w p = plan_at w (number_at w p)

-- the call of p has its frame, and stands in the table
pub record Active (w : Words) (p : ℕ) : Type 0 where
  pub some : 0 < p
  pub procedure : p ≤ max_procs
  pub token : number_at w p < max_tokens
  pub size : path_at ≤ length w

-- n calls are active from p outwards
abbrev pub Counted : Words → ℕ → ℕ → Type 0
Counted w p n = (D : Declared) (E : Environment) → EnvAt D w E → p ≡ pointer_of E → n ≡ length E

-- there is a call n calls further out than p, or the sheet's formula
pub record Outward (w : Words) (p n : ℕ) : Type 0 where
  pub settles : Settles w p
  pub within : n ≤ length settles.environment

-- q points to what is n calls further out than p
abbrev pub Reached : Words → ℕ → ℕ → ℕ → Type 0
Reached w p n q = (D : Declared) (E : Environment) → EnvAt D w E → p ≡ pointer_of E → n ≤ length E → q ≡ pointer_of (drop n E)

-- parameter n of procedure k is open
abbrev pub is_open : Words → ℕ → ℕ → Bool
is_open w k n = pick (eqb (get_or w (argument_slot k n) 0) 0) (eqb (get_or w (argument_slot k n + 1) 0) 0) false

-- p points to a procedure, and the open parameters of the procedure around its call have their results
pub record Revalues (w : Words) (p : ℕ) : Type 0 where
  pub declared : Declared
  pub valuation : Valuation
  pub level : Level
  pub environment : Environment
  pub memory : Memory w p declared valuation (level ∷ environment)
  pub fresh : Fresh w declared valuation environment

pub record Revalued (w w' : Words) (p : ℕ) : Type 0 where
  pub fresh : (D : Declared) (α : Valuation) (L : Level) (E : Environment) → Memory w p D α (L ∷ E) → Fresh w D α E → Fresh w' D α (L ∷ E)
  pub kept : Kept w w'
  pub size : length w' ≡ length w

pub record RevaluesOne (w : Words) (from to p k n : ℕ) : Type 0 where
  pub passes : Passes w from to p
  pub procedure : k < max_procs
  pub number : n < max_parameters

pub record RevaluedOne (w w' : Words) (from to p k n : ℕ) : Type 0 where
  pub entry : is_open w k n ≡ true → (D : Declared) (α : Valuation) (ts : List Term) (xs : List Item) (x : Side) →
      Program w from to p D α ts xs → run D α ts xs ≡ x ∷ [] → EntryAt w' (open_slot k n) x
  pub kept : (j : ℕ) → (j < dues_at) ⊎ (opens_at ≤ j) → (j < open_slot k n) ⊎ (open_slot k n + 1 < j) → get_or w' j 0 ≡ get_or w j 0
  pub size : length w' ≡ length w

-- ---- a call is entered

-- what its parameters stand for: its arguments, frozen
abbrev pub level_of : Declared → Valuation → Environment → ℕ → List Term → Level
level_of D α E K ts = record { number = K; arguments = ts; terms = map (frozen D α) (fill_terms (terms_of E) ts) }

-- a call of procedure K with these arguments stands at token h, in the environment E
pub record Call (w : Words) (h K p : ℕ) (D : Declared) (α : Valuation) (E : Environment) (ts : List Term) : Type 0 where
  pub memory : Memory w p D α E
  pub earlier : K < number_of E
  pub call : CallAt w h K ts
  pub arguments : Arguments D E ts
  pub planned : ArgumentsPlanned w (number_of E) (suc (suc h)) ts

-- and the open parameters of the procedure around it have their results
pub record Arrives (w : Words) (h K p : ℕ) : Type 0 where
  pub declared : Declared
  pub valuation : Valuation
  pub environment : Environment
  pub arguments : List Term
  pub call : Call w h K p declared valuation environment arguments
  pub fresh : Fresh w declared valuation environment

abbrev pub is_value : Side → Bool
is_value (val z) = true
is_value (bare p) = false
is_value (err κ) = false

-- the second word of an argument's slot
abbrev pub argument_word : Side → ℕ
argument_word (val z) = biased z
argument_word (bare p) = slot_of p
argument_word (err κ) = 0

-- the slot of parameter n of procedure K, and the set of those that are no values, are those of the side x
pub record Tells (w : Words) (K set n : ℕ) (x : Side) : Type 0 where
  pub value : in_set set n ≡ false → is_value x ≡ true
  pub other : in_set set n ≡ true → is_value x ≡ false
  pub flag : get_or w (argument_slot K n) 0 ≡ flag_of set n
  pub word : get_or w (argument_slot K n + 1) 0 ≡ argument_word x

-- the arguments went into the slots of procedure K
pub record Arrived (w w' : Words) (h K p set : ℕ) : Type 0 where
  pub each : (D : Declared) (α : Valuation) (E : Environment) (ts : List Term) → Call w h K p D α E ts → Fresh w D α E →
      (n : ℕ) → n < length ts → Tells w' K set n (side D α (fill_term (terms_of E) (get_or ts n (parameter n))))
  pub kept : (j : ℕ) → (j < dues_at) ⊎ (opens_at ≤ j) → (j < argument_slot K 0) ⊎ (argument_slot K max_parameters ≤ j) → get_or w' j 0 ≡ get_or w j 0
  pub size : length w' ≡ length w
