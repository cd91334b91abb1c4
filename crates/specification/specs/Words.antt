-- The token words, a closed set, and the word that a token's bytes spell. The edition chooses the words and the operation that each
-- means: nothing after the reading asks for it. Assumes nothing.
use Rattle.std.specs.Prelude.{ℕ, List, [], ◌∷◌, ◌++◌, eqb, ltb, ℤ}
use Rattle.std.proofs.Math.Option.{Option, none, some as just}
use Rattle.specification.specs.Bytes.{Bytes, bytes, pick, in_number, same, begins}
use Rattle.specification.specs.Number.{natural, integer, in32}
use Rattle.specification.specs.Ast.{Op, add, sub, mul, quo, rem, div, modulo, Rel, ne, lt, le, gt, ge}

pub data FormulaWord : Type 0 where
  true_word and_word or_word imp_word not_word eq_word ex_word some_word all_word call_word : FormulaWord
  rel_word : Rel → FormulaWord

pub data TermWord : Type 0 where
  constant_word : ℤ → TermWord
  scalar_word local_word array_word parameter_word : ℕ → TermWord
  op_word : Op → TermWord

pub data Word : Type 0 where
  formula_word : FormulaWord → Word
  term_word : TermWord → Word
  -- the number of a procedure
  number_word : ℕ → Word
  unknown : Word

pub record Entry : Type 0 where
  pub text : Bytes
  pub word : Word

infixr 70 ◌means◌
abbrev pub ◌means◌ : Bytes → Word → Entry
◌means◌ t w = record { text = t; word = w }

-- the words that every edition has and that mean the same in each, names and constants aside
unfoldable pub common_words : List Entry
common_words =
    bytes "true" means formula_word true_word
    ∷ bytes "and" means formula_word and_word
    ∷ bytes "or" means formula_word or_word
    ∷ bytes "imp" means formula_word imp_word
    ∷ bytes "not" means formula_word not_word
    ∷ bytes "eq" means formula_word eq_word
    ∷ bytes "ne" means formula_word (rel_word ne)
    ∷ bytes "lt" means formula_word (rel_word lt)
    ∷ bytes "le" means formula_word (rel_word le)
    ∷ bytes "gt" means formula_word (rel_word gt)
    ∷ bytes "ge" means formula_word (rel_word ge)
    ∷ bytes "ex" means formula_word ex_word
    ∷ bytes "some" means formula_word some_word
    ∷ bytes "all" means formula_word all_word
    ∷ bytes "add" means term_word (op_word add)
    ∷ bytes "sub" means term_word (op_word sub)
    ∷ bytes "mul" means term_word (op_word mul)
    ∷ []

-- division toward zero, as editions 1 and 2 write it
unfoldable pub older_division : List Entry
older_division =
    bytes "div" means term_word (op_word quo)
    ∷ bytes "mod" means term_word (op_word rem)
    ∷ []

-- the first edition whose `div` and `mod` round down
abbrev pub first_rounding : ℕ
first_rounding = 3

-- both divisions, as it writes them
unfoldable pub division : List Entry
division =
    bytes "div" means term_word (op_word div)
    ∷ bytes "mod" means term_word (op_word modulo)
    ∷ bytes "quo" means term_word (op_word quo)
    ∷ bytes "rem" means term_word (op_word rem)
    ∷ []

-- the words of an edition beside the common ones
unfoldable pub own_words : ℕ → List Entry
own_words edition =
    pick (eqb edition 1) older_division
    (bytes "call" means formula_word call_word ∷ pick (ltb edition first_rounding) older_division division)

-- all of an edition
unfoldable pub words : ℕ → List Entry
words edition = common_words ++ own_words edition

-- vN, lN, aN or, from edition 2 on, pN, where N is in good form
abbrev pub named : (ℕ → TermWord) → Option ℕ → Word
named w none = unknown
named w (just n) = term_word (w n)

unfoldable pub name_of : ℕ → Bytes → Word
name_of edition [] = unknown
name_of edition (b ∷ bs) =
    pick (begins (bytes "v") (b ∷ bs)) (named scalar_word (natural bs))
    (pick (begins (bytes "l") (b ∷ bs)) (named local_word (natural bs))
    (pick (begins (bytes "a") (b ∷ bs)) (named array_word (natural bs))
    (pick (begins (bytes "p") (b ∷ bs)) (pick (eqb edition 1) unknown (named parameter_word (natural bs))) unknown)))

-- the word of the first entry with these bytes, else a name
unfoldable pub find : ℕ → Bytes → List Entry → Word
find edition t [] = name_of edition t
find edition t (e ∷ es) = let r = find edition t es in pick (same t e.text) e.word r

abbrev pub constant_of : Option ℤ → Option Word
constant_of none = none
constant_of (just z) = pick (in32 z) (just (term_word (constant_word z))) none

-- the word of a token; none for a constant in bad form or outside 32 bits. A token that begins with a digit or minus is a constant
unfoldable pub word_of : ℕ → Bytes → Option Word
word_of edition [] = just unknown
word_of edition (b ∷ bs) =
    pick (in_number b) (constant_of (integer (b ∷ bs))) (just (find edition (b ∷ bs) (words edition)))

abbrev pub numeral : Option ℕ → Option Word
numeral none = none
numeral (just n) = just (number_word n)

-- the word of a token where a procedure's number is due, however large it is; none for one with a minus or in bad form
unfoldable pub number_of : Bytes → Option Word
number_of [] = just unknown
number_of (b ∷ bs) = pick (in_number b) (numeral (natural (b ∷ bs))) (just unknown)
