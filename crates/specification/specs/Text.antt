-- The text of a sheet: the bytes that are read as it, in the spelling of its edition. The notation is canonical, with one spelling for each
-- number, name and space, so what was read determines the bytes. The two laws are in proofs/Laws/SheetText.antt. Assumes nothing.
use Rattle.std.specs.Prelude.{ℕ, List, [], ◌∷◌, ◌++◌, get_or, ltb}
use Rattle.specification.specs.Bytes.{Bytes, bytes, pick}
use Rattle.specification.specs.Number.{printℕ, printℤ}
use Rattle.specification.specs.Lines.{Range, Declared, first_ranged, CellName, scalar}
use Rattle.specification.specs.Given.{Item}
use Rattle.specification.specs.Ast.{Op, add, sub, mul, quo, rem, div, modulo, Rel, ne, lt, le, gt, ge, Term, constant, scalar_at, local_at, parameter, element_at, apply, Formula, truth, and, or, imp, neg, eq, compare, ex, some, all, call, Procedure}
use Rattle.specification.specs.Words.{FormulaWord, true_word, and_word, or_word, imp_word, not_word, eq_word, ex_word, some_word, all_word, call_word, rel_word, TermWord, constant_word, scalar_word, local_word, array_word, parameter_word, op_word, Word, formula_word, term_word, number_word, unknown, first_rounding}
use Rattle.specification.specs.Sheet.{Sheet}
use Rattle.specification.specs.Listing.{cell_label, label_text, cell_names}

-- ---- lists

module _ {A : Type 0} (mark : Bytes) (text : A → Bytes) where
  -- the text of each, after a mark
  unfoldable pub led : List A → Bytes
  led [] = []
  led (x ∷ xs) = mark ++ (text x ++ led xs)

  -- and with the mark between them
  unfoldable pub parted : List A → Bytes
  parted [] = []
  parted (x ∷ xs) = text x ++ led xs

-- ---- words

-- editions 1 and 2 write the older pair as edition 3 writes the one that rounds down
unfoldable pub op_text : ℕ → Op → Bytes
op_text edition add = bytes "add"
op_text edition sub = bytes "sub"
op_text edition mul = bytes "mul"
op_text edition quo = pick (ltb edition first_rounding) (bytes "div") (bytes "quo")
op_text edition rem = pick (ltb edition first_rounding) (bytes "mod") (bytes "rem")
op_text edition div = bytes "div"
op_text edition modulo = bytes "mod"

unfoldable pub rel_text : Rel → Bytes
rel_text ne = bytes "ne"
rel_text lt = bytes "lt"
rel_text le = bytes "le"
rel_text gt = bytes "gt"
rel_text ge = bytes "ge"

unfoldable pub formula_word_text : FormulaWord → Bytes
formula_word_text true_word = bytes "true"
formula_word_text and_word = bytes "and"
formula_word_text or_word = bytes "or"
formula_word_text imp_word = bytes "imp"
formula_word_text not_word = bytes "not"
formula_word_text eq_word = bytes "eq"
formula_word_text ex_word = bytes "ex"
formula_word_text some_word = bytes "some"
formula_word_text all_word = bytes "all"
formula_word_text call_word = bytes "call"
formula_word_text (rel_word r) = rel_text r

unfoldable pub term_word_text : ℕ → TermWord → Bytes
term_word_text edition (constant_word z) = printℤ z
term_word_text edition (scalar_word n) = bytes "v" ++ printℕ n
term_word_text edition (local_word n) = bytes "l" ++ printℕ n
term_word_text edition (array_word n) = bytes "a" ++ printℕ n
term_word_text edition (parameter_word n) = bytes "p" ++ printℕ n
term_word_text edition (op_word o) = op_text edition o

-- no bytes for a word that is none
unfoldable pub word_text : ℕ → Word → Bytes
word_text edition (formula_word w) = formula_word_text w
word_text edition (term_word w) = term_word_text edition w
word_text edition (number_word n) = printℕ n
word_text edition unknown = []

-- ---- formulas: their words in prefix order

unfoldable pub term_words : Term → List Word
term_words (constant z) = term_word (constant_word z) ∷ []
term_words (scalar_at n) = term_word (scalar_word n) ∷ []
term_words (local_at l) = term_word (local_word l) ∷ []
term_words (parameter n) = term_word (parameter_word n) ∷ []
term_words (element_at a t) = term_word (array_word a) ∷ term_words t
term_words (apply o s t) = term_word (op_word o) ∷ (term_words s ++ term_words t)

unfoldable pub argument_words : List Term → List Word
argument_words [] = []
argument_words (t ∷ ts) = term_words t ++ argument_words ts

abbrev pub binder_word : ℕ → Word
binder_word l = term_word (local_word l)

-- a call is written with its procedure's number and its arguments
unfoldable pub formula_words : Formula → List Word
formula_words truth = formula_word true_word ∷ []
formula_words (and F G) = formula_word and_word ∷ (formula_words F ++ formula_words G)
formula_words (or F G) = formula_word or_word ∷ (formula_words F ++ formula_words G)
formula_words (imp tok F G) = formula_word imp_word ∷ (formula_words F ++ formula_words G)
formula_words (neg tok F) = formula_word not_word ∷ formula_words F
formula_words (eq tok s t) = formula_word eq_word ∷ (term_words s ++ term_words t)
formula_words (compare tok r s t) = formula_word (rel_word r) ∷ (term_words s ++ term_words t)
formula_words (ex l F) = formula_word ex_word ∷ binder_word l ∷ formula_words F
formula_words (some tok l a b F) = formula_word some_word ∷ binder_word l ∷ (term_words a ++ (term_words b ++ formula_words F))
formula_words (all tok l a b F) = formula_word all_word ∷ binder_word l ∷ (term_words a ++ (term_words b ++ formula_words F))
formula_words (call K ts F) = formula_word call_word ∷ number_word K ∷ argument_words ts

-- words in the spelling of an edition, one space between
abbrev pub spelt : ℕ → List Word → Bytes
spelt edition ws = parted (bytes " ") (word_text edition) ws

-- ---- lines

abbrev pub number_line : Bytes → ℕ → Bytes
number_line key n = key ++ (printℕ n ++ bytes "\n")

abbrev pub arrays_text : List ℕ → Bytes
arrays_text ns = bytes "arrays=" ++ (parted (bytes ",") printℕ ns ++ bytes "\n")

abbrev pub range_text : Range → Bytes
range_text r = printℤ r.low ++ (bytes ":" ++ printℤ r.high)

-- none before the first edition with ranges
unfoldable pub ranges_text : ℕ → List Range → Bytes
ranges_text edition rs = pick (ltb edition first_ranged) [] (bytes "ranges=" ++ (parted (bytes ",") range_text rs ++ bytes "\n"))

-- the name of a cell by its number
abbrev pub name_of : Declared → ℕ → CellName
name_of D c = get_or (cell_names D) c (scalar 0)

unfoldable pub item_text : Declared → Item → Bytes
item_text D i = label_text (cell_label (name_of D i.cell)) ++ (bytes ":" ++ printℤ i.value)

abbrev pub given_text : Declared → List Item → Bytes
given_text D is = bytes "given=" ++ (parted (bytes ",") (item_text D) is ++ bytes "\n")

-- what stands before a procedure's formula
abbrev pub procedure_key : Procedure → Bytes
procedure_key P = bytes "proc=" ++ (printℕ P.parameters ++ bytes ":")

unfoldable pub procedure_text : ℕ → Procedure → Bytes
procedure_text edition P = procedure_key P ++ (spelt edition (formula_words P.formula) ++ bytes "\n")

unfoldable pub procedures_text : ℕ → List Procedure → Bytes
procedures_text edition [] = []
procedures_text edition (P ∷ Ps) = procedure_text edition P ++ procedures_text edition Ps

abbrev pub formula_text : ℕ → Formula → Bytes
formula_text edition F = bytes "formula=" ++ (spelt edition (formula_words F) ++ bytes "\n")

-- ---- the sheet

-- the lines before that of ranges
unfoldable pub head_text : Declared → Bytes
head_text D =
    number_line (bytes "edition=") D.edition ++ (number_line (bytes "scalars=") D.scalars
    ++ (number_line (bytes "locals=") D.locals ++ arrays_text D.arrays))

-- its lines in order, its words in the spelling of an edition
unfoldable pub text_in : ℕ → Sheet → Bytes
text_in edition s =
    let D = s.declared in
    head_text D ++ (ranges_text D.edition D.ranges ++ (given_text D s.given
    ++ (procedures_text edition D.procedures ++ formula_text edition s.formula)))

-- in its own
abbrev pub text_of : Sheet → Bytes
text_of s = text_in s.declared.edition s
