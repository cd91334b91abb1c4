-- The contracts of the inner functions of src/arguments.rt: one argument goes into its slot, and into the set of those that are no values where it is
-- none. Assumes nothing.
use Rattle.std.specs.Prelude.{ℕ, ◌+◌, ◌^◌, ◌<◌, ◌≤◌, ◌≡◌, Bool, ◌⊎◌, length, get_or, T}
use Rattle.std.specs.Int.Bits.{bit_or}
use Rattle.specification.specs.Bytes.{pick}
use Rattle.specification.specs.Lines.{Declared}
use Rattle.specification.specs.Ast.{Term}
use Rattle.specification.specs.Fill.{fill_term}
use Rattle.specification.specs.Place.{Place}
use Rattle.specification.specs.Value.{Slot, Valuation, Side, look, side}
use Rattle.specification.specs.WellFormed.{Scope, OkTerm}
use Rattle.tables.specs.Layout.{dues_at, opens_at, slot_words, plan_at, max_locals, max_nesting}
use Rattle.tables.specs.Frames.{frames_at}
use Rattle.sheet.specs.Tables.{Words}
use Rattle.sheet.specs.Held.{end_at, TermAt, height, SlotAt, slot_of}
use Rattle.plan.specs.Planned.{ArgumentPlanned}
use Rattle.terms.specs.Environment.{Environment, terms_of, number_of, Known, Memory}
use Rattle.terms.specs.declared.Stack.{Stack}
use Rattle.terms.specs.Results.{tag_of, word_of}
use Rattle.terms.specs.Calls.{Fresh, is_value, argument_word}

-- ---- what a slot has after it is written

-- the words of the slot, and the answer, are those of the side x
pub record Says (w : Words) (slot : ℕ) (r : Bool) (x : Side) : Type 0 where
  pub told : r ≡ is_value x
  pub flag : get_or w slot 0 ≡ pick r 1 0
  pub word : get_or w (slot + 1) 0 ≡ argument_word x

-- they are those of each side that meets P, and all words stay but those of the stack and of the slot
pub record Bound (w w' : Words) (slot : ℕ) (r : Bool) (P : Side → Type 0) : Type 0 where
  pub says : (x : Side) → P x → Says w' slot r x
  pub kept : (j : ℕ) → (j < dues_at) ⊎ (opens_at ≤ j) → (j < slot) ⊎ (slot + slot_words ≤ j) → get_or w' j 0 ≡ get_or w j 0
  pub size : length w' ≡ length w

-- ---- which sides an argument may have

-- the second word is v, and b says whether it is a value
pub record Written (b : Bool) (v : ℕ) (x : Side) : Type 0 where
  pub value : is_value x ≡ b
  pub word : argument_word x ≡ v

-- what the slot p of a place has
pub record Looks (w : Words) (p : ℕ) (x : Side) : Type 0 where
  pub place : Place
  pub slot : Slot
  pub known : Known place
  pub at : p ≡ slot_of place
  pub held : SlotAt w p slot
  pub is : x ≡ look slot place

-- the result s of a term
pub record ResultOf (s : Stack) (x : Side) : Type 0 where
  pub tag : s.tag ≡ tag_of x
  pub word : s.value ≡ word_of x

-- the argument t stands from one token up to another, in the environment E
pub record Stands (w : Words) (from to p : ℕ) (D : Declared) (α : Valuation) (E : Environment) (t : Term) : Type 0 where
  pub memory : Memory w p D α E
  pub fresh : Fresh w D α E
  pub term : TermAt w from t
  pub end : to ≡ end_at w from
  pub planned : ArgumentPlanned w (number_of E) from t
  pub scope : Scope
  pub locals : (l : ℕ) → T (scope l) → l < max_locals
  pub ok : OkTerm D scope (fill_term (terms_of E) t)
  pub low : height t ≤ max_nesting

-- x is its side
pub record Gives (w : Words) (from to p : ℕ) (x : Side) : Type 0 where
  pub declared : Declared
  pub valuation : Valuation
  pub environment : Environment
  pub term : Term
  pub stands : Stands w from to p declared valuation environment term
  pub is : x ≡ side declared valuation (fill_term (terms_of environment) term)

-- ---- what the functions lean on

-- an argument stands there, and the slot is in the words
pub record Argues (w : Words) (slot from to p : ℕ) : Type 0 where
  pub side : Side
  pub gives : Gives w from to p side
  pub room : slot + 1 < length w

-- it is two tokens, so an element with a simple index, and s the planned word of the index
pub record Indexes (w : Words) (slot s from to p : ℕ) : Type 0 where
  pub argues : Argues w slot from to p
  pub short : to ≡ from + 2
  pub planned : s ≡ plan_at w (from + 1)

-- it is one token, and s its planned word
pub record Binds (w : Words) (slot s from to p : ℕ) : Type 0 where
  pub argues : Argues w slot from to p
  pub short : to ≡ from + 1
  pub planned : s ≡ plan_at w from

-- a slot in a frame, without a value
pub record Leads (w : Words) (slot s from to p : ℕ) : Type 0 where
  pub binds : Binds w slot s from to p
  pub empty : get_or w s 0 ≡ 0
  pub later : frames_at ≤ s

-- ---- the set

-- the set with n, unless it is a value
abbrev pub noted : ℕ → ℕ → Bool → ℕ
noted set n r = pick r set (bit_or set (2 ^ n))
