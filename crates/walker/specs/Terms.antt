-- The contracts of the functions that enter a formula with two terms, by what these are. Assumes nothing.
use Rattle.std.specs.Prelude.{ℕ, ◌+◌, ◌-◌, ◌/◌, ◌≤◌, ◌<◌, ◌≡◌, Bool, true, false, List, ◌∷◌, ◌⊎◌, length, ltb, eqb}
use Rattle.specification.specs.Bytes.{Bytes, pick}
use Rattle.specification.specs.Ast.{Term, Formula}
use Rattle.specification.specs.Fill.{fill_term}
use Rattle.specification.specs.Arithmetic.{no_value}
use Rattle.specification.specs.Value.{Side, side}
use Rattle.tables.specs.Layout.{code_at, end_at, plan_at, token_words, max_tokens, path_at}
use Rattle.tables.specs.Codes.{eq_code, ex_code, parameter_code}
use Rattle.tables.specs.Frames.{frames_at, frame_words}
use Rattle.sheet.specs.Tables.{Words}
use Rattle.terms.specs.declared.Sides.{Sides}
use Rattle.terms.specs.Environment.{Environment, terms_of}
use Rattle.terms.specs.Results.{value_tag, bare_tag, sides_of, Kept}
use Rattle.quick.specs.Quick.{Answers}
use Rattle.search.specs.declared.Go.{Go}
use Rattle.search.specs.Frame.{Item, form, the}
use Rattle.search.specs.Path.{World}
use Rattle.search.specs.Sim.{In}
use Rattle.search.specs.Steps.{Entered, TermsOf, HasTerms}

-- a formula with two terms, of the code n, and what holds of these in every world
pub record Sided (w : Words) (g : Go) (n : ℕ) (P : Side → Side → Type 0) : Type 0 where
  pub at : Entered w g n
  pub terms : HasTerms n
  pub sides :
      (c : World) (b : Bytes) (i : In c b w g) (E : Environment) (F : Formula) (is : List Item) → i.x ≡ the (form E F ∷ is) → (s t : Term) → TermsOf F s t →
      P (side c.declared i.α (fill_term (terms_of E) s)) (side c.declared i.α (fill_term (terms_of E) t))

-- what their plan tells
abbrev pub Tells : Words → Go → ℕ → Sides → Type 0
Tells w g n r = Sided w g n (Answers r)

-- what they are
abbrev pub Decides : Words → Go → ℕ → Sides → Type 0
Decides w g n r = Sided w g n (λ x y. r ≡ sides_of x y)

-- whether both are values
pub record AreValues (r : Sides) (b : Bool) : Type 0 where
  pub yes : b ≡ true → (r.ltag ≡ value_tag) × (r.rtag ≡ value_tag)
  pub no : b ≡ false → r.ltag ≡ value_tag → r.rtag ≡ value_tag → ⊥

-- not both values
pub record Lacks (w : Words) (g : Go) (n : ℕ) (r : Sides) : Type 0 where
  pub decides : Decides w g n r
  pub other : r.ltag ≡ value_tag → r.rtag ≡ value_tag → ⊥

-- of an `eq`
abbrev pub Equates : Words → Go → Sides → Type 0
Equates w g r = Lacks w g eq_code r

-- the kind of the error of a term without a value
abbrev pub kind_of : ℕ → ℕ → ℕ
kind_of tag value = pick (eqb tag bare_tag) no_value value

-- what they are is known, and of the words only those that the valuing of terms may change are others
pub record Knows (w w' : Words) (g : Go) (n : ℕ) (r : Sides) : Type 0 where
  pub decides : Decides w' g n r
  pub kept : Kept w w'
  pub size : length w' ≡ length w

-- ---- the tokens of the terms

-- those of the formula at token h with this code begin
abbrev pub first_term : ℕ → ℕ → ℕ
first_term h code = pick (ltb code ex_code) (h + 1) (h + 2)

-- and end
abbrev pub end_of_terms : Words → ℕ → ℕ → ℕ
end_of_terms w h code = pick (ltb code ex_code) (end_at w h) (plan_at w (h + 1) / token_words)

-- ---- the procedure whose parameters stand in the tokens from one up to another

-- the number of the procedure whose frame has the slot
abbrev pub frame_of : ℕ → ℕ
frame_of slot = (slot - frames_at) / frame_words

-- parameters have slots in frames
pub record Searches (w : Words) (from to : ℕ) : Type 0 where
  pub inside : to ≤ max_tokens
  pub size : path_at ≤ length w
  pub slots : (i : ℕ) → from ≤ i → i < to → code_at w i ≡ parameter_code → frames_at ≤ plan_at w i

-- no parameter stands there
abbrev pub NoneIn : Words → ℕ → ℕ → Type 0
NoneIn w from to = (i : ℕ) → from ≤ i → i < to → code_at w i ≡ parameter_code → ⊥

-- one does, of the procedure before the number r
pub record OneIn (w : Words) (from to r : ℕ) : Type 0 where
  pub token : ℕ
  pub after : from ≤ token
  pub before : token < to
  pub code : code_at w token ≡ parameter_code
  pub number : r ≡ frame_of (plan_at w token) + 1

abbrev pub Found : Words → ℕ → ℕ → ℕ → Type 0
Found w from to r = ((r ≡ 0) × NoneIn w from to) ⊎ OneIn w from to r
