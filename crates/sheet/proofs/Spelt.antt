-- The token that bytes spell where something is due, by the sort that is due: a word of the edition, or a procedure's number with the number of
-- its parameters. Assumes nothing.
use Prim.Native.Nat.{ℕ, zero, suc, ◌+◌, ◌≤◌, ◌<◌}
use native.Mathlib.Omega.{arith}
use mathlib.Core.Path.{◌≡◌, refl, sym, ap, ◌∙◌}
use mathlib.Core.List.{List, [], ◌∷◌}
use mathlib.Core.Option.{Option, none, some as just}
use lib.ListN.{length, get_or}
use borrow.Author.Tests.{eq-eqb, ne_eqb}
use Rattle.specification.specs.Bytes.{Bytes}
use Rattle.specification.specs.Lines.{Declared}
use Rattle.specification.specs.Words.{Word, word_of, number_of}
use Rattle.specification.specs.Formula.{Locals}
use Rattle.tables.specs.Layout.{parameters_at}
use Rattle.tables.specs.Codes.{procedure_code}
use Rattle.sheet.specs.declared.Token.{Token}
use Rattle.sheet.specs.declared.formula.Limits.{Limits}
use Rattle.sheet.specs.Codes.{token, token_of}
use Rattle.sheet.specs.Sorts.{procedure_sort}
use Rattle.sheet.specs.Dues.{Due, due_formula, due_term, due_procedure, due_ex, due_range, due_bounds, due_upper}
use Rattle.sheet.specs.Turn.{word_for, counting, token_in}
use Rattle.sheet.specs.Tables.{Words}
use Rattle.sheet.specs.Stack.{sort_of}
use Rattle.sheet.specs.FormulaLine.{Spells}
use Rattle.sheet.proofs.Procs.{none as blank}

module _ (D : Declared) where
  word-token : (d : Due) → (sort_of d ≡ procedure_sort → ⊥) → (o : Option Word) → token_in D d o ≡ token_of o
  unfolding token_of
  word-token d n none = refl
  word-token (due_formula k S) n (just w) = refl
  word-token (due_term k S) n (just w) = refl
  word-token (due_procedure k S) n (just w) = absurd (n refl)
  word-token (due_ex k S) n (just w) = refl
  word-token (due_range k S p) n (just w) = refl
  word-token (due_bounds k S p) n (just w) = refl
  word-token (due_upper k S p x) n (just w) = refl

  word-for : (d : Due) → (sort_of d ≡ procedure_sort → ⊥) → (bs : Bytes) → word_for D d bs ≡ word_of D.edition bs
  word-for (due_formula k S) n bs = refl
  word-for (due_term k S) n bs = refl
  word-for (due_procedure k S) n bs = absurd (n refl)
  word-for (due_ex k S) n bs = refl
  word-for (due_range k S p) n bs = refl
  word-for (due_bounds k S p) n bs = refl
  word-for (due_upper k S p x) n bs = refl

  number-token : (k : ℕ) (S : Locals) (o : Option Word) → token_in D (due_procedure k S) o ≡ counting D (token_of o)
  unfolding token_of
  number-token k S none = refl
  number-token k S (just w) = refl

  number_in : (d : Due) → sort_of d ≡ procedure_sort → (bs : Bytes) → token_in D d (word_for D d bs) ≡ counting D (token_of (number_of bs))
  number_in (due_formula k S) e bs = absurd (omega arith)
  number_in (due_term k S) e bs = absurd (omega arith)
  number_in (due_procedure k S) e bs = number-token k S (number_of bs)
  number_in (due_ex k S) e bs = absurd (omega arith)
  number_in (due_range k S p) e bs = absurd (omega arith)
  number_in (due_bounds k S p) e bs = absurd (omega arith)
  number_in (due_upper k S p x) e bs = absurd (omega arith)

-- a number that no procedure has
beyond : {A : Type 0} (xs : List A) (n : ℕ) (d : A) → length xs ≤ n → get_or xs n d ≡ d
beyond [] n d h = refl
beyond (x ∷ xs) zero d h = absurd (omega arith)
beyond (x ∷ xs) (suc n) d h = beyond xs n d (omega arith)

coded : (t : Token) (c : ℕ) → t.code ≡ c → t ≡ token c t.operand
coded t c e = ap (λ x. token x t.operand) e

module _ (bs : Bytes) (sort : ℕ) (l : Limits) (w : Words) (t : Token) where
  pub spells-word : (sort ≡ procedure_sort → ⊥) → t ≡ token_of (word_of l.edition bs) → Spells bs sort l w t
  spells-word n e D d g q =
      let other : sort_of d ≡ procedure_sort → ⊥ = λ r. n (q ∙ r) in
      e ∙ sym (word-token D d other (word_for D d bs) ∙ ap token_of (word-for D d other bs) ∙ ap (λ x. token_of (word_of x bs)) g.counts.edition)

  module _ (s : sort ≡ procedure_sort) (e : t ≡ token_of (number_of bs)) where
    numbered : (D : Declared) (d : Due) → sort ≡ sort_of d → token_in D d (word_for D d bs) ≡ counting D t
    numbered D d q = number_in D d (sym q ∙ s) bs ∙ ap (counting D) (sym e)

    pub spells-other : (t.code ≡ procedure_code → ⊥) → Spells bs sort l w t
    spells-other n D d g q = rw (numbered D d q, ne_eqb t.code procedure_code n)

    module _ (c : t.code ≡ procedure_code) where
      pub spells-unknown : l.procedures ≤ t.operand → Spells bs sort l w t
      spells-unknown h D d g q =
          let b = beyond D.procedures t.operand blank (omega (arith, g.counts.procedures)) in
          rw (numbered D d q, eq-eqb t.code procedure_code c, b) (coded t procedure_code c)

      pub spells-number : t.operand < l.procedures → Spells bs sort l w (token (procedure_code + parameters_at w t.operand) t.operand)
      spells-number h D d g q = rw (numbered D d q, eq-eqb t.code procedure_code c, g.supplied t.operand h)
