-- Of what is due only the first carries the place of a quantifier's word or a lower bound, so that the code keeps one place and finds the bound
-- as the last token. Assumes nothing.
use Prim.Native.Nat.{ℕ, zero, suc, pred, ◌-◌, ◌<◌, ◌≤◌}
use native.Mathlib.Omega.{arith}
use mathlib.Core.Path.{◌≡◌, refl}
use mathlib.Core.Bool.{Bool, true, false}
use mathlib.Core.List.{List, [], ◌∷◌, ◌++◌}
use lib.ListN.{replicate}
use lib.Dec.{eqb}
use borrow.Author.Tests.{eqb-true, eqb-false}
use Rattle.specification.specs.Bytes.{pick}
use Rattle.specification.specs.Formula.{Locals}
use Rattle.tables.specs.Layout.{operand_at}
use Rattle.tables.specs.Codes.{last_formula, first_term, last_term, constant_code, procedure_code}
use Rattle.sheet.specs.declared.Token.{Token}
use Rattle.sheet.specs.Sorts.{formula_sort, operands_of}
use Rattle.sheet.specs.Dues.{Due, due_formula, due_term, due_procedure, due_ex, due_range, due_bounds, due_upper}
use Rattle.sheet.specs.Turn.{suits, due_by, dues, opens}
use Rattle.sheet.specs.Tables.{Words}
use Rattle.sheet.specs.Stack.{sort_of, Kept}
use Rattle.text.proofs.Laws.Ranges.{within}
use Rattle.sheet.proofs.CodeOperands.{operands-all, operands-term, operands-number}
use Rattle.sheet.proofs.Opened.{constant-opens, lower-opens}

-- ---- what carries neither

abbrev Plain : Due → Type 0
Plain (due_formula k S) = Unit {0}
Plain (due_term k S) = Unit {0}
Plain (due_procedure k S) = Unit {0}
Plain (due_ex k S) = Unit {0}
Plain (due_range k S p) = ⊥
Plain (due_bounds k S p) = ⊥
Plain (due_upper k S p x) = ⊥

unfoldable pub Plains : List Due → Type 0
Plains [] = Unit {0}
Plains (d ∷ ds) = Plain d × Plains ds

-- the first is known by the words and the place, the others carry nothing
unfoldable pub Tops : Words → ℕ → ℕ → List Due → Type 0
Tops w n word [] = Unit {0}
Tops w n word (d ∷ ds) = Kept w n word d × Plains ds

module _ (w : Words) (n word : ℕ) where
  plain-kept : (d : Due) → Plain d → Kept w n word d
  plain-kept (due_formula k S) p = tt
  plain-kept (due_term k S) p = tt
  plain-kept (due_procedure k S) p = tt
  plain-kept (due_ex k S) p = tt
  plain-kept (due_range k S q) p = absurd p
  plain-kept (due_bounds k S q) p = absurd p
  plain-kept (due_upper k S q x) p = absurd p

  plains-tops : (ds : List Due) → Plains ds → Tops w n word ds
  unfolding Plains Tops
  plains-tops [] h = tt
  plains-tops (d ∷ ds) h = (plain-kept d h.0, h.1)

  -- ---- a token's operands

  module _ (k : ℕ) (S : Locals) (ds : List Due) (h : Plains ds) where
    terms-plain : (m : ℕ) → Plains (replicate m (due_term k S) ++ ds)
    unfolding Plains
    terms-plain zero = h
    terms-plain (suc m) = (tt, terms-plain m)

    terms-tops : (m : ℕ) → Tops w n word (replicate m (due_term k S) ++ ds)
    terms-tops m = plains-tops (replicate m (due_term k S) ++ ds) (terms-plain m)

    term-tops : (at c : ℕ) → first_term ≤ c → c ≤ last_term → Tops w n word (dues at k S (operands_of c) ++ ds)
    unfolding dues due_by Plains Tops
    term-tops at c a b = operands-term (λ o. Tops w n word (dues at k S o ++ ds)) c a b (plains-tops ds h) (tt, h) (tt, (tt, h))

    formula-tops : (c : ℕ) → c ≤ last_formula → Tops w n word (dues word k S (operands_of c) ++ ds)
    unfolding dues due_by Plains Tops
    formula-tops c b =
        operands-all (λ o. Tops w n word (dues word k S o ++ ds)) c (plains-tops ds h) (tt, h) (tt, (tt, h)) (tt, h) (tt, (tt, h)) (tt, h) (refl, h)
        (λ e. (tt, h)) (λ e. absurd (omega arith))

-- ---- a turn: the token t at the place `at` is the last of n

abbrev pub word_after : ℕ → ℕ → ℕ → ℕ
word_after sort at word = pick (eqb sort formula_sort) at word

module _ (w w' : Words) (m n word at : ℕ) (t : Token) (some : 0 < n) (last : operand_at w' (n - 1) ≡ t.operand) where
  pub tops-turn : (d : Due) (ds : List Due) → suits d t.code ≡ true → Kept w m word d → Plains ds →
      Tops w' n (word_after (sort_of d) at word) (opens at d t ++ ds)
  unfolding opens dues due_by Plains Tops
  tops-turn (due_formula k S) ds s e h = formula-tops w' n at (pred k) S ds h t.code (within _ _ _ s).1
  tops-turn (due_term k S) ds s e h = let b = within _ _ _ s in term-tops w' n word (pred k) S ds h at t.code b.0 b.1
  tops-turn (due_procedure k S) ds s e h = numbered (within _ _ _ s).0
    where
      numbered : procedure_code ≤ t.code → Tops w' n word (dues at k S (operands_of t.code) ++ ds)
      numbered a = rw (operands-number t.code a) (terms-tops w' n word k S ds h (t.code - procedure_code))
  tops-turn (due_ex k S) ds s e h = (tt, h)
  tops-turn (due_range k S q) ds s e h = (e, (tt, h))
  tops-turn (due_bounds k S q) ds s e h = by (eqb t.code constant_code) refl
    where
      by : (b : Bool) → eqb t.code constant_code ≡ b → Tops w' n word (opens at (due_bounds k S q) t ++ ds)
      by true c = rw (constant-opens at k S q t (eqb-true t.code constant_code c)) ((e, some, last), h)
      by false c =
          let b = within _ _ _ s in
          rw (lower-opens at k S q t ds (eqb-false t.code constant_code c))
          (term-tops w' n word (pred k) S (due_term k S ∷ ds) (tt, h) at t.code b.0 b.1)
  tops-turn (due_upper k S q x) ds s e h = let b = within _ _ _ s in term-tops w' n word (pred k) S ds h at t.code b.0 b.1
