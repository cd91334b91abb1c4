-- Lines in chunks: a word or key is the letters of one, and the byte after it the mark. How a chunk is rewritten, and that tokens before the
-- first to be written say nothing. Assumes nothing.
use Prim.Native.Nat.{ℕ, suc, ◌≤◌}
use native.Mathlib.Omega.{arith}
use mathlib.Core.Path.{◌≡◌, refl, ap}
use mathlib.Core.Bool.{Bool, true, false, or-true}
use mathlib.Core.List.{List, [], ◌∷◌, ◌++◌}
use lib.Dec.{ltb}
use borrow.Author.Tests.{le-ltb}
use Rattle.specification.specs.Bytes.{Bytes, bytes, pick, letter, class_of, class_number, is_in, in_number, run}
use Rattle.specification.specs.Lists.{Each}
use Rattle.specification.specs.Number.{printℕ, printℤ}
use Rattle.specification.specs.Ast.{Op, add, sub, mul, quo, rem, div, modulo, Rel, ne, lt, le, gt, ge}
use Rattle.specification.specs.Words.{FormulaWord, true_word, and_word, or_word, imp_word, not_word, eq_word, ex_word, some_word, all_word, call_word, rel_word, constant_word, scalar_word, local_word, array_word, parameter_word, op_word, Word, formula_word, term_word, number_word, unknown, first_rounding}
use Rattle.specification.specs.Text.{op_text, rel_text, formula_word_text, term_word_text, word_text}
use Rattle.specification.proofs.Laws.Lists.{each_map}
use Rattle.specification.proofs.Laws.Canonical.{run-passes, printℕ-number, printℤ-number}
use Rattle.tables.specs.Layout.{Words, end_at}
use Rattle.mover.specs.Model.{in_word, Chunk, chunk, chunks, is_key, token_code, empty_at, stand_in, spelling, until_after, word_piece, mark_piece, rewritten}

-- ---- letters

abbrev pub Letters : Bytes → Type 0
Letters = Each (λ b. in_word b ≡ true)

number-letter : (b : ℕ) → in_number b ≡ true → in_word b ≡ true
unfolding in_word
number-letter b e = rw e (or-true (is_in letter b))

pub number-letters : (n : ℕ) → Letters (printℕ n)
number-letters n = each_map number-letter (printℕ n) (printℕ-number n)

rel-letters : (r : Rel) → Letters (rel_text r)
unfolding run in_word is_in class_number class_of rel_text
rel-letters ne = run-passes in_word (bytes "ne")
rel-letters lt = run-passes in_word (bytes "lt")
rel-letters le = run-passes in_word (bytes "le")
rel-letters gt = run-passes in_word (bytes "gt")
rel-letters ge = run-passes in_word (bytes "ge")

formula-letters : (w : FormulaWord) → Letters (formula_word_text w)
unfolding run in_word is_in class_number class_of formula_word_text
formula-letters true_word = run-passes in_word (bytes "true")
formula-letters and_word = run-passes in_word (bytes "and")
formula-letters or_word = run-passes in_word (bytes "or")
formula-letters imp_word = run-passes in_word (bytes "imp")
formula-letters not_word = run-passes in_word (bytes "not")
formula-letters eq_word = run-passes in_word (bytes "eq")
formula-letters ex_word = run-passes in_word (bytes "ex")
formula-letters some_word = run-passes in_word (bytes "some")
formula-letters all_word = run-passes in_word (bytes "all")
formula-letters call_word = run-passes in_word (bytes "call")
formula-letters (rel_word r) = rel-letters r

division-letters : (b : Bool) → Letters (pick b (bytes "div") (bytes "quo")) × Letters (pick b (bytes "mod") (bytes "rem"))
unfolding run in_word is_in class_number class_of
division-letters true = (run-passes in_word (bytes "div"), run-passes in_word (bytes "mod"))
division-letters false = (run-passes in_word (bytes "quo"), run-passes in_word (bytes "rem"))

op-letters : (edition : ℕ) (o : Op) → Letters (op_text edition o)
unfolding run in_word is_in class_number class_of op_text
op-letters edition add = run-passes in_word (bytes "add")
op-letters edition sub = run-passes in_word (bytes "sub")
op-letters edition mul = run-passes in_word (bytes "mul")
op-letters edition quo = (division-letters (ltb edition first_rounding)).0
op-letters edition rem = (division-letters (ltb edition first_rounding)).1
op-letters edition div = run-passes in_word (bytes "div")
op-letters edition modulo = run-passes in_word (bytes "mod")

pub word-letters : (edition : ℕ) (w : Word) → Letters (word_text edition w)
unfolding Each in_word is_in class_number class_of word_text term_word_text
word-letters edition (formula_word w) = formula-letters w
word-letters edition (term_word (constant_word z)) = each_map number-letter (printℤ z) (printℤ-number z)
word-letters edition (term_word (scalar_word n)) = (refl, number-letters n)
word-letters edition (term_word (local_word n)) = (refl, number-letters n)
word-letters edition (term_word (array_word n)) = (refl, number-letters n)
word-letters edition (term_word (parameter_word n)) = (refl, number-letters n)
word-letters edition (term_word (op_word o)) = op-letters edition o
word-letters edition (number_word n) = number-letters n
word-letters edition unknown = tt

-- ---- a chunk

chunks-first : (t : Bytes) (m : ℕ) (rest : Bytes) → Letters t → in_word m ≡ false → chunks (t ++ m ∷ rest) ≡ chunk t (m ∷ []) ∷ chunks rest
unfolding chunks Each
chunks-first [] m rest h e = rw e
chunks-first (b ∷ t) m rest h e = rw (h.0, chunks-first t m rest h.1 e)

-- a mark that ends a key, or that ends a word
pub record Mark (key : Bool) (m : ℕ) : Type 0 where
  pub outside : in_word m ≡ false
  pub ends : (t : Bytes) → is_key (chunk t (m ∷ [])) ≡ key

module _ (w : Words) (newer : Bool) (t : Bytes) (m : ℕ) (rest : Bytes) (h : Letters t) (i until : ℕ) where
  pub key-rewritten : Mark true m → rewritten w newer i until (chunks (t ++ m ∷ rest)) ≡ t ++ m ∷ rewritten w newer i until (chunks rest)
  unfolding rewritten
  key-rewritten k = rw (chunks-first t m rest h k.outside, k.ends t)

  pub word-rewritten : Mark false m →
      rewritten w newer i until (chunks (t ++ m ∷ rest))
      ≡ word_piece w newer i until t ++ (mark_piece w i until (m ∷ []) ++ rewritten w newer (suc i) (until_after w i until) (chunks rest))
  unfolding rewritten
  word-rewritten k = rw (chunks-first t m rest h k.outside, k.ends t)

-- ---- where all that is dropped is passed

module _ (w : Words) (newer : Bool) where
  mark-past : (e : Bool) (i until : ℕ) (mark : Bytes) (later : ℕ → Bytes) → until ≤ i → later until ≡ later 0 →
      let u = pick e (end_at w i) until in
      let v = pick e (end_at w i) 0 in
      pick (ltb (suc i) u) [] mark ++ later u ≡ pick (ltb (suc i) v) [] mark ++ later v
  mark-past true i until mark later h l = refl
  mark-past false i until mark later h l = rw (le-ltb (suc i) until (omega arith), le-ltb (suc i) 0 (omega arith), l)

  -- what is written from the word of token i on
  abbrev from_word : Chunk → List Chunk → ℕ → ℕ → Bytes
  from_word c cs i until =
      word_piece w newer i until c.letters ++ (mark_piece w i until c.mark ++ rewritten w newer (suc i) (until_after w i until) cs)

  word-past : (c : Chunk) (cs : List Chunk) (i until : ℕ) → until ≤ i →
      rewritten w newer (suc i) until cs ≡ rewritten w newer (suc i) 0 cs → from_word c cs i until ≡ from_word c cs i 0
  unfolding word_piece mark_piece until_after
  word-past c cs i until h l =
      let t = pick (empty_at w i) (stand_in w i) (spelling newer (token_code w i) c.letters) in
      rw (le-ltb i until h, le-ltb i 0 (omega arith))
      (ap (t ++◌) (mark-past (empty_at w i) i until c.mark (λ u. rewritten w newer (suc i) u cs) h l))

  pub rewritten-past : (cs : List Chunk) (i until : ℕ) → until ≤ i → rewritten w newer i until cs ≡ rewritten w newer i 0 cs
  unfolding rewritten
  rewritten-past [] i until h = refl
  rewritten-past (c ∷ cs) i until h =
      rw (rewritten-past cs i until h, word-past c cs i until h (rewritten-past cs (suc i) until (omega arith)))
