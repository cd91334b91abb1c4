-- Environments: what a procedure's parameters stand for where its formula is walked, and how the frames of procedures hold it. A procedure's
-- formula stands in the table of tokens once, with its parameters in it; a walk has it together with an environment. Assumes nothing.
use Rattle.std.specs.Prelude.{ℕ, suc, ◌+◌, ◌<◌, ◌≤◌, ◌≡◌, List, [], ◌∷◌, length, get_or, T, ℤ}
use Rattle.specification.specs.Bytes.{pick}
use Rattle.specification.specs.Lists.{Each}
use Rattle.specification.specs.Lines.{Declared, cells, procedure_of}
use Rattle.specification.specs.Ast.{Term, constant, scalar_at, local_at, parameter, element_at, apply}
use Rattle.specification.specs.Fill.{fill_term, fill_terms}
use Rattle.specification.specs.Place.{Place, cell, local}
use Rattle.specification.specs.Value.{Valuation, Side, val, bare, err, look, side}
use Rattle.specification.specs.WellFormed.{Scope, OkTerm, Valid}
use Rattle.values.specs.Word.{biased}
use Rattle.tables.specs.Layout.{max_cells, max_locals, max_arrays, max_nesting, max_procs, max_parameters, path_at, token_slot, plan_at}
use Rattle.tables.specs.Codes.{procedure_code}
use Rattle.tables.specs.Locals.{in_set}
use Rattle.tables.specs.Frames.{argument_slot, call_at, tags_at}
use Rattle.sheet.specs.Tables.{Words}
use Rattle.sheet.specs.Held.{operand_at, end_at, TokenAt, ArgumentsAt, height, slot_of, Holds, ArraysAt}

-- ---- frozen terms

-- An argument is valued when its call is entered. Where it has a value then, or is a bare place, it is that value or place in every branch
-- below; else it stays the term that it is.
module _ (D : Declared) (α : Valuation) where
  abbrev pub value_for : Side → Term → Term
  value_for (val z) t = constant z
  value_for (bare p) t = t
  value_for (err κ) t = t

  -- an element keeps its array and has its index's value
  unfoldable pub pinned : Term → Term
  pinned (constant z) = constant z
  pinned (scalar_at c) = scalar_at c
  pinned (local_at l) = local_at l
  pinned (parameter n) = parameter n
  pinned (element_at a t) = element_at a (value_for (side D α t) t)
  pinned (apply o s t) = apply o s t

  abbrev pub frozen_as : Side → Term → Term
  frozen_as (val z) t = constant z
  frozen_as (bare p) t = pinned t
  frozen_as (err κ) t = t

  unfoldable pub frozen : Term → Term
  frozen t = frozen_as (side D α t) t

-- ---- environments

-- one active call: its procedure's number, its arguments as they stand in the table, and what the procedure's parameters stand for
pub record Level : Type 0 where
  pub number : ℕ
  pub arguments : List Term
  pub terms : List Term

-- the innermost call first
abbrev pub Environment : Type 0
Environment = List Level

abbrev pub terms_of : Environment → List Term
terms_of [] = []
terms_of (L ∷ E) = L.terms

-- a call names an earlier procedure than the one that it stands in, and in the sheet's formula any
abbrev pub number_of : Environment → ℕ
number_of [] = max_procs
number_of (L ∷ E) = L.number

-- one more than the number of the innermost procedure, 0 where there is none
abbrev pub pointer_of : Environment → ℕ
pointer_of [] = 0
pointer_of (L ∷ E) = suc L.number

-- ---- calls in the tokens

-- at token h stands a call of procedure K with these arguments
pub record CallAt (w : Words) (h K : ℕ) (ts : List Term) : Type 0 where
  pub token : TokenAt w (suc h) (procedure_code + length ts) (end_at w (suc h))
  pub number : operand_at w (suc h) ≡ K
  pub arguments : ArgumentsAt w (suc (suc h)) (end_at w (suc h)) ts

-- arguments that can be valued in E
pub record Arguments (D : Declared) (E : Environment) (ts : List Term) : Type 0 where
  pub few : length ts ≤ max_parameters
  pub low : Each (λ t. height t ≤ max_nesting) ts
  pub scope : Scope
  pub locals : (l : ℕ) → T (scope l) → l < max_locals
  pub ok : Each (OkTerm D scope) (fill_terms (terms_of E) ts)

-- ---- calls in the frames

-- a place that has a slot in the words
abbrev pub Known : Place → Type 0
Known (cell c) = c < max_cells
Known (local l) = l < max_locals

-- the term is a constant, and x its word
pub record IsValue (t : Term) (x : ℕ) : Type 0 where
  pub number : ℤ
  pub term : t ≡ constant number
  pub word : x ≡ biased number

-- the term is one place under every valuation, and x the first word of its slot
pub record IsPlace (D : Declared) (t : Term) (x : ℕ) : Type 0 where
  pub place : Place
  pub known : Known place
  pub looks : (α : Valuation) → side D α t ≡ look (α place) place
  pub word : x ≡ slot_of place

-- a call at token h of procedure L .number, in the environment E: what does not change while it is active
pub record Calls (D : Declared) (w : Words) (h : ℕ) (L : Level) (E : Environment) : Type 0 where
  pub earlier : L.number < number_of E
  pub call : CallAt w h L.number L.arguments
  pub around : plan_at w (suc h) ≡ pointer_of E
  pub arguments : Arguments D E L.arguments
  pub count : length L.terms ≡ length L.arguments
  pub arity : length L.terms ≡ (procedure_of D L.number).parameters

-- what the two words of an argument's slot say of the term t that the parameter stands for: a value, a place, or open, and then it is the argument u in
-- the environment E around the call
pub record Result (D : Declared) (E : Environment) (flag x : ℕ) (u t : Term) : Type 0 where
  pub value : flag ≡ 1 → IsValue t x
  pub place : flag ≡ 0 → ¬ (x ≡ 0) → IsPlace D t x
  pub opened : flag ≡ 0 → x ≡ 0 → t ≡ fill_term (terms_of E) u

-- the first word of an argument's slot, by whether it is among those that are no values
abbrev pub flag_of : ℕ → ℕ → ℕ
flag_of set n = pick (in_set set n) 0 1

-- second words of the slots of a call's arguments, and which of them are no values
abbrev pub Results : Declared → Environment → Level → ℕ → (ℕ → ℕ) → Type 0
Results D E L set x =
    (n : ℕ) → n < length L.terms → Result D E (flag_of set n) (x n) (get_or L.arguments n (parameter n)) (get_or L.terms n (parameter n))

-- the frame of its procedure is that of the call L in the environment E
pub record LevelAt (D : Declared) (w : Words) (L : Level) (E : Environment) : Type 0 where
  pub token : ℕ
  pub place : call_at w L.number ≡ token_slot token
  pub calls : Calls D w token L E
  pub results : Results D E L (tags_at w L.number) (λ n. get_or w (argument_slot L.number n + 1) 0)
  pub flags : (n : ℕ) → n < length L.terms → get_or w (argument_slot L.number n) 0 ≡ flag_of (tags_at w L.number) n

-- the frames are those of E
abbrev pub EnvAt : Declared → Words → Environment → Type 0
EnvAt D w [] = Unit {0}
EnvAt D w (L ∷ E) = LevelAt D w L E × EnvAt D w E

-- ---- what a term is valued from

-- the words hold the valuation α, the arrays of D, and the environment E, which p points to
pub record Memory (w : Words) (p : ℕ) (D : Declared) (α : Valuation) (E : Environment) : Type 0 where
  pub holds : Holds w α
  pub valid : Valid D α
  pub arrays : ArraysAt w D
  pub cells : cells D ≤ max_cells
  pub few : length D.arrays ≤ max_arrays
  -- no parameter is left in a filled term
  pub filled : D.parameters ≡ 0
  pub pointer : p ≡ pointer_of E
  pub environment : EnvAt D w E
  pub size : path_at ≤ length w
