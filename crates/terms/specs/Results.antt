-- What a term is, as words: a tag and a word. The contract of `sides`. Assumes nothing.
use Rattle.std.specs.Prelude.{ℕ, ◌+◌, ◌<◌, ◌≤◌, ◌≡◌, ◌⊎◌, length, get_or, T}
use Rattle.specification.specs.Lines.{Declared}
use Rattle.specification.specs.Ast.{Term}
use Rattle.specification.specs.Fill.{fill_term}
use Rattle.specification.specs.Arithmetic.{no_value}
use Rattle.specification.specs.Place.{Place}
use Rattle.specification.specs.Value.{Slot, Valuation, Side, val, bare, err, look, side}
use Rattle.specification.specs.WellFormed.{Scope, OkTerm}
use Rattle.values.specs.Word.{biased}
use Rattle.tables.specs.Layout.{dues_at, max_locals, max_nesting}
use Rattle.tables.specs.Frames.{frames_at}
use Rattle.sheet.specs.Tables.{Words}
use Rattle.sheet.specs.Held.{TermsAt, height, SlotAt, slot_of}
use Rattle.terms.specs.declared.Stack.{Stack}
use Rattle.terms.specs.declared.Sides.{Sides}
use Rattle.terms.specs.Environment.{Environment, terms_of, Memory}

-- ---- results

-- what a result's word is; src/tags.rt has the same numbers
abbrev pub value_tag : ℕ
value_tag = 0

abbrev pub bare_tag : ℕ
bare_tag = 1

abbrev pub error_tag : ℕ
error_tag = 2

abbrev pub tag_of : Side → ℕ
tag_of (val z) = value_tag
tag_of (bare p) = bare_tag
tag_of (err κ) = error_tag

abbrev pub word_of : Side → ℕ
word_of (val z) = biased z
word_of (bare p) = slot_of p
word_of (err κ) = κ

-- the last result, where the others end at the word `at`
abbrev pub stack_of : ℕ → Side → Stack
stack_of at x = record { at = at; tag = tag_of x; value = word_of x }

abbrev pub sides_of : Side → Side → Sides
sides_of x y = record { ltag = tag_of x; rtag = tag_of y; left = word_of x; right = word_of y }

-- ---- the two sides of an atom, or the bounds of a quantifier

-- tokens from one up to another
pub record Span : Type 0 where
  pub from : ℕ
  pub to : ℕ

abbrev pub span : ℕ → ℕ → Span
span from to = record { from = from; to = to }

-- the terms s and t stand in these tokens, in words that hold α, the arrays of D and the environment E, which p points to
pub record Stand (w : Words) (x : Span) (p : ℕ) (D : Declared) (α : Valuation) (E : Environment) (s t : Term) : Type 0 where
  pub memory : Memory w p D α E
  pub terms : TermsAt w x.from x.to s t
  pub scope : Scope
  pub locals : (l : ℕ) → T (scope l) → l < max_locals
  pub left : OkTerm D scope (fill_term (terms_of E) s)
  pub right : OkTerm D scope (fill_term (terms_of E) t)
  pub left_low : height s ≤ max_nesting
  pub right_low : height t ≤ max_nesting

pub record Asked (w : Words) (from to p : ℕ) : Type 0 where
  pub declared : Declared
  pub valuation : Valuation
  pub environment : Environment
  pub left : Term
  pub right : Term
  pub stand : Stand w (span from to) p declared valuation environment left right

-- the same words below n
abbrev pub Upto : ℕ → Words → Words → Type 0
Upto n w w' = (j : ℕ) → j < n → get_or w' j 0 ≡ get_or w j 0

-- all words but those that the valuing of terms may change
abbrev pub Kept : Words → Words → Type 0
Kept w w' = (k : ℕ) → (k < dues_at) ⊎ (frames_at ≤ k) → get_or w' k 0 ≡ get_or w k 0

pub record Valued (w w' : Words) (from to p : ℕ) (r : Sides) : Type 0 where
  pub sides : (D : Declared) (α : Valuation) (E : Environment) (s t : Term) → Stand w (span from to) p D α E s t →
      r ≡ sides_of (side D α (fill_term (terms_of E) s)) (side D α (fill_term (terms_of E) t))
  pub kept : Kept w w'
  pub size : length w' ≡ length w

-- ---- small functions

abbrev pub error_of : ℕ → ℕ → Stack
error_of κ at = record { at = at; tag = error_tag; value = κ }

-- the error of an operand that has no value
abbrev pub raise : Side → Side
raise (val z) = val z
raise (bare p) = err no_value
raise (err κ) = err κ

abbrev pub Raised : ℕ → ℕ → ℕ → Stack → Type 0
Raised tag value at r = (x : Side) → tag ≡ tag_of x → value ≡ word_of x → r ≡ stack_of at (raise x)

abbrev pub Looked : Words → ℕ → ℕ → Stack → Type 0
Looked w i at r = (p : Place) (s : Slot) → slot_of p ≡ i → SlotAt w i s → r ≡ stack_of at (look s p)

-- the two words from k on are this result
abbrev pub EntryAt : Words → ℕ → Side → Type 0
EntryAt w k x = (get_or w k 0 ≡ tag_of x) × (get_or w (k + 1) 0 ≡ word_of x)
