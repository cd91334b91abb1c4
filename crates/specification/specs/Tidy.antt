-- Empty ranges are typing slips (document 02, Nine): a sheet without them. `eq 0 1` stands for a `some` whose range is empty and `true` for such
-- an `all`, their bodies dropped; the tokens behind them get other numbers. Ranges are looked at where they stand: a parameter as a bound is no
-- constant, whatever a call puts in its place. Assumes nothing.
use Rattle.std.specs.Prelude.{ℕ, suc, ◌+◌, Bool, false, ◌||◌, List, [], ◌∷◌, ◌++◌, length, get_or, pos}
use Rattle.specification.specs.Bytes.{pick}
use Rattle.specification.specs.Ast.{constant, Formula, truth, and, or, imp, neg, eq, compare, ex, some, all, call, Procedure}
use Rattle.specification.specs.Fill.{fill}
use Rattle.specification.specs.Formula.{empty_range}
use Rattle.specification.specs.Sheet.{with_procedures, Sheet}
use Rattle.specification.specs.Text.{term_words, formula_words}

-- ---- which sheets have one

-- the body of a call is its procedure's, and looked at there
unfoldable pub has_empty : Formula → Bool
has_empty truth = false
has_empty (and F G) = has_empty F || has_empty G
has_empty (or F G) = has_empty F || has_empty G
has_empty (imp tok F G) = has_empty F || has_empty G
has_empty (neg tok F) = has_empty F
has_empty (eq tok s t) = false
has_empty (compare tok r s t) = false
has_empty (ex l F) = has_empty F
has_empty (some tok l a b F) = empty_range a b || has_empty F
has_empty (all tok l a b F) = empty_range a b || has_empty F
has_empty (call K ts F) = false

unfoldable pub any_empty : List Procedure → Bool
any_empty [] = false
any_empty (P ∷ Ps) = has_empty P.formula || any_empty Ps

-- in the line of a procedure, or in the formula's
unfoldable pub has_empty_range : Sheet → Bool
has_empty_range s = any_empty s.declared.procedures || has_empty s.formula

-- ---- without them

-- never true
abbrev pub falsehood : ℕ → Formula
falsehood tok = eq tok (constant (pos 0)) (constant (pos 1))

unfoldable pub dropped : Formula → Formula
dropped truth = truth
dropped (and F G) = and (dropped F) (dropped G)
dropped (or F G) = or (dropped F) (dropped G)
dropped (imp tok F G) = imp tok (dropped F) (dropped G)
dropped (neg tok F) = neg tok (dropped F)
dropped (eq tok s t) = eq tok s t
dropped (compare tok r s t) = compare tok r s t
dropped (ex l F) = ex l (dropped F)
dropped (some tok l a b F) = let G = some tok l a b (dropped F) in pick (empty_range a b) (falsehood tok) G
dropped (all tok l a b F) = let G = all tok l a b (dropped F) in pick (empty_range a b) truth G
dropped (call K ts F) = call K ts F

-- ---- as it is read

-- how many tokens a formula has
abbrev pub token_count : Formula → ℕ
token_count F = length (formula_words F)

-- its tokens by their numbers, the first n, in a sheet whose procedures are Ps: a call means what they say
unfoldable pub numbered : List Procedure → ℕ → Formula → Formula
numbered Ps n truth = truth
numbered Ps n (and F G) = and (numbered Ps (suc n) F) (numbered Ps (suc n + token_count F) G)
numbered Ps n (or F G) = or (numbered Ps (suc n) F) (numbered Ps (suc n + token_count F) G)
numbered Ps n (imp tok F G) = imp n (numbered Ps (suc n) F) (numbered Ps (suc n + token_count F) G)
numbered Ps n (neg tok F) = neg n (numbered Ps (suc n) F)
numbered Ps n (eq tok s t) = eq n s t
numbered Ps n (compare tok r s t) = compare n r s t
numbered Ps n (ex l F) = ex l (numbered Ps (2 + n) F)
numbered Ps n (some tok l a b F) = some n l a b (numbered Ps (2 + n + length (term_words a ++ term_words b)) F)
numbered Ps n (all tok l a b F) = all n l a b (numbered Ps (2 + n + length (term_words a ++ term_words b)) F)
numbered Ps n (call K ts F) = call K ts (fill ts (get_or Ps K (record { parameters = 0; formula = truth })).formula)

-- the tokens of all lines of procedures
unfoldable pub tokens_before : List Procedure → ℕ
tokens_before [] = 0
tokens_before (P ∷ Ps) = token_count P.formula + tokens_before Ps

-- a formula without empty ranges, behind the lines of these procedures
abbrev pub tidied_formula : List Procedure → Formula → Formula
tidied_formula Ps F = numbered Ps (tokens_before Ps) (dropped F)

abbrev pub tidied_procedure : List Procedure → Procedure → Procedure
tidied_procedure Ps P = record { parameters = P.parameters; formula = tidied_formula Ps P.formula }

-- the lines of procedures, behind those that are tidied
unfoldable pub tidied_procedures : List Procedure → List Procedure → List Procedure
tidied_procedures done [] = done
tidied_procedures done (P ∷ Ps) = tidied_procedures (done ++ (tidied_procedure done P ∷ [])) Ps

unfoldable pub tidied : Sheet → Sheet
tidied s =
    let Ps = tidied_procedures [] s.declared.procedures in
    record { declared = with_procedures Ps s.declared; given = s.given; formula = tidied_formula Ps s.formula }
