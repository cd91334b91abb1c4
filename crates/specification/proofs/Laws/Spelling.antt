-- Each word has one spelling in an edition: the bytes that are read as a word of the edition are its text, and its text is read as it.
-- Assumes nothing.
use Prim.Native.Nat.{ℕ, ◌<◌}
use native.Mathlib.Omega.{arith}
use mathlib.Core.Path.{◌≡◌, refl, ◌∙◌, ap, subst}
use mathlib.Core.Logic.{◌⊎◌, inl, inr}
use mathlib.Core.Bool.{Bool, true, false, not, and-false}
use mathlib.Core.List.{List, [], ◌∷◌}
use mathlib.Core.Option.{Option, none, some as just}
use lib.Dec.{T, eqb, ltb}
use lib.IntN.{ℤ}
use lib.ListN.{get_or}
use borrow.Author.Tests.{eqb-true, ltb-true, ne_eqb}
use Rattle.specification.specs.Bytes.{Bytes, bytes, pick, class_of, class_number, is_in, in_number, in_token, run, same, begins}
use Rattle.specification.specs.Number.{well_formed, natural, integer, in32, printℕ, printℤ}
use Rattle.specification.specs.Ast.{Op, add, sub, mul, quo, rem, div, modulo, Rel, ne, lt, le, gt, ge}
use Rattle.specification.specs.Words.{FormulaWord, true_word, and_word, or_word, imp_word, not_word, eq_word, ex_word, some_word, all_word, call_word, rel_word, TermWord, constant_word, scalar_word, local_word, array_word, parameter_word, op_word, Word, formula_word, term_word, number_word, unknown, Entry, ◌means◌, common_words, older_division, first_rounding, division, own_words, words, named, name_of, find, constant_of, word_of, numeral, number_of}
use Rattle.specification.specs.Text.{op_text, rel_text, formula_word_text, term_word_text, word_text}
use Rattle.specification.specs.Moves.{rounds_down, is_rounding}
use Rattle.specification.specs.Lists.{Each}
use Rattle.specification.proofs.Laws.Contradiction.{contradiction}
use Rattle.specification.proofs.Laws.Lists.{each_map, each-++}
use Rattle.specification.proofs.Laws.Parser.{true-T, T_true, false-T, and-true}
use Rattle.specification.proofs.Laws.Print.{IsDigit, printℕ-numeral, natural-printℕ, integer-printℤ}
use Rattle.specification.proofs.Laws.Canonical.{natural-canonical, integer-canonical, printℕ-number, printℤ-number, printℕ-token, printℤ-token, run-passes}

-- ---- the words of an edition

-- the edition has the word: calls and parameters from 2 on, the two that round down from the first with rounding on, constants of 32 bits
abbrev pub Belongs : ℕ → Word → Type 0
Belongs edition (formula_word true_word) = Unit {0}
Belongs edition (formula_word and_word) = Unit {0}
Belongs edition (formula_word or_word) = Unit {0}
Belongs edition (formula_word imp_word) = Unit {0}
Belongs edition (formula_word not_word) = Unit {0}
Belongs edition (formula_word eq_word) = Unit {0}
Belongs edition (formula_word ex_word) = Unit {0}
Belongs edition (formula_word some_word) = Unit {0}
Belongs edition (formula_word all_word) = Unit {0}
Belongs edition (formula_word call_word) = T (not (eqb edition 1))
Belongs edition (formula_word (rel_word r)) = Unit {0}
Belongs edition (term_word (constant_word z)) = T (in32 z)
Belongs edition (term_word (scalar_word n)) = Unit {0}
Belongs edition (term_word (local_word n)) = Unit {0}
Belongs edition (term_word (array_word n)) = Unit {0}
Belongs edition (term_word (parameter_word n)) = T (not (eqb edition 1))
Belongs edition (term_word (op_word add)) = Unit {0}
Belongs edition (term_word (op_word sub)) = Unit {0}
Belongs edition (term_word (op_word mul)) = Unit {0}
Belongs edition (term_word (op_word quo)) = Unit {0}
Belongs edition (term_word (op_word rem)) = Unit {0}
Belongs edition (term_word (op_word div)) = T (not (ltb edition first_rounding))
Belongs edition (term_word (op_word modulo)) = T (not (ltb edition first_rounding))
Belongs edition (number_word n) = ⊥
Belongs edition unknown = ⊥

-- of editions 2 and 3

formula-belongs : (edition : ℕ) → T (not (eqb edition 1)) → (w : FormulaWord) → Belongs edition (formula_word w)
formula-belongs edition h true_word = tt
formula-belongs edition h and_word = tt
formula-belongs edition h or_word = tt
formula-belongs edition h imp_word = tt
formula-belongs edition h not_word = tt
formula-belongs edition h eq_word = tt
formula-belongs edition h ex_word = tt
formula-belongs edition h some_word = tt
formula-belongs edition h all_word = tt
formula-belongs edition h call_word = h
formula-belongs edition h (rel_word r) = tt

op-belongs : (edition : ℕ) (o : Op) → (rounds_down o ≡ true → T (not (ltb edition first_rounding))) → Belongs edition (term_word (op_word o))
unfolding rounds_down
op-belongs edition add h = tt
op-belongs edition sub h = tt
op-belongs edition mul h = tt
op-belongs edition quo h = tt
op-belongs edition rem h = tt
op-belongs edition div h = h refl
op-belongs edition modulo h = h refl

pub belongs-newer : (w : Word) → Belongs 2 w → Belongs 3 w
belongs-newer (formula_word w) h = formula-belongs 3 tt w
belongs-newer (term_word (constant_word z)) h = h
belongs-newer (term_word (scalar_word n)) h = tt
belongs-newer (term_word (local_word n)) h = tt
belongs-newer (term_word (array_word n)) h = tt
belongs-newer (term_word (parameter_word n)) h = tt
belongs-newer (term_word (op_word o)) h = op-belongs 3 o (λ e. tt)
belongs-newer (number_word n) h = h
belongs-newer unknown h = h

pub belongs-older : (w : Word) → is_rounding w ≡ false → Belongs 3 w → Belongs 2 w
unfolding is_rounding
belongs-older (formula_word w) e h = formula-belongs 2 tt w
belongs-older (term_word (constant_word z)) e h = h
belongs-older (term_word (scalar_word n)) e h = tt
belongs-older (term_word (local_word n)) e h = tt
belongs-older (term_word (array_word n)) e h = tt
belongs-older (term_word (parameter_word n)) e h = tt
belongs-older (term_word (op_word o)) e h = op-belongs 2 o (λ d. contradiction cc)
belongs-older (number_word n) e h = h
belongs-older unknown e h = h

pub older-rounds-not : (w : Word) → Belongs 2 w → is_rounding w ≡ false
unfolding is_rounding rounds_down
older-rounds-not (formula_word w) h = refl
older-rounds-not (term_word (constant_word z)) h = refl
older-rounds-not (term_word (scalar_word n)) h = refl
older-rounds-not (term_word (local_word n)) h = refl
older-rounds-not (term_word (array_word n)) h = refl
older-rounds-not (term_word (parameter_word n)) h = refl
older-rounds-not (term_word (op_word add)) h = refl
older-rounds-not (term_word (op_word sub)) h = refl
older-rounds-not (term_word (op_word mul)) h = refl
older-rounds-not (term_word (op_word quo)) h = refl
older-rounds-not (term_word (op_word rem)) h = refl
older-rounds-not (term_word (op_word div)) h = absurd h
older-rounds-not (term_word (op_word modulo)) h = absurd h
older-rounds-not (number_word n) h = refl
older-rounds-not unknown h = refl

-- ---- a test, and bytes compared

T_false : (b : Bool) → T (not b) → b ≡ false
T_false true h = absurd h
T_false false h = refl

same_bytes : (s t : Bytes) → same s t ≡ true → s ≡ t
unfolding same
same_bytes [] [] e = refl
same_bytes [] (y ∷ ys) e = contradiction cc
same_bytes (x ∷ xs) [] e = contradiction cc
same_bytes (x ∷ xs) (y ∷ ys) e =
    let a = and-true (eqb x y) (same xs ys) e in
    let p : x ≡ y = eqb-true x y a.0 in
    let q : xs ≡ ys = same_bytes xs ys a.1 in
    cc

-- a name has digits from its second byte on, so it is no text with a letter there
name-other : (c : ℕ) (ds t : Bytes) → Each IsDigit ds → T (ltb 57 (get_or t 1 0)) → same (c ∷ ds) t ≡ false
unfolding same Each
name-other c ds [] h l = refl
name-other c ds (x ∷ []) h l = absurd l
name-other c [] (x ∷ y ∷ ys) h l = and-false (eqb c x)
name-other c (d ∷ ds) (x ∷ y ∷ ys) h l =
    let m : 57 < y = ltb-true 57 y (T_true (ltb 57 y) l) in
    let e : eqb d y ≡ false = ne_eqb d y (λ q. omega (arith, h.0.1)) in
    rw e (and-false (eqb c x))

-- ---- the words that are listed

-- edition 1 is before the first with rounding
first-older : (edition : ℕ) → eqb edition 1 ≡ true → ltb edition first_rounding ≡ true
first-older edition e = ap (λ n. ltb n first_rounding) (eqb-true edition 1 e)

module _ (edition : ℕ) where
  -- of an entry: it has its word's text, its word is the edition's, and a letter is its second byte
  abbrev Right : Entry → Type 0
  Right e = e.text ≡ word_text edition e.word

  abbrev Own : Entry → Type 0
  Own e = Belongs edition e.word

  abbrev Lettered : Entry → Type 0
  Lettered e = T (ltb 57 (get_or e.text 1 0))

  abbrev Fits : Entry → Type 0
  Fits e = Right e × Own e × Lettered e

  all_fit : (es : List Entry) → Each Right es → Each Own es → Each Lettered es → Each Fits es
  unfolding Each
  all_fit [] r o l = tt
  all_fit (e ∷ es) r o l = ((r.0, o.0, l.0), all_fit es r.1 o.1 l.1)

  common-fit : Each Fits common_words
  unfolding common_words Each word_text formula_word_text rel_text term_word_text op_text
  common-fit =
      all_fit common_words
      (refl, (refl, (refl, (refl, (refl, (refl, (refl, (refl, (refl, (refl, (refl, (refl, (refl, (refl, (refl, (refl, (refl, tt)))))))))))))))))
      (tt, (tt, (tt, (tt, (tt, (tt, (tt, (tt, (tt, (tt, (tt, (tt, (tt, (tt, (tt, (tt, (tt, tt)))))))))))))))))
      (tt, (tt, (tt, (tt, (tt, (tt, (tt, (tt, (tt, (tt, (tt, (tt, (tt, (tt, (tt, (tt, (tt, tt)))))))))))))))))

  older-fit : ltb edition first_rounding ≡ true → Each Fits older_division
  unfolding older_division Each word_text term_word_text op_text
  older-fit e = ((rw e, tt, tt), ((rw e, tt, tt), tt))

  division-fit : ltb edition first_rounding ≡ false → Each Fits division
  unfolding division Each word_text term_word_text op_text
  division-fit e =
      let r : T (not (ltb edition first_rounding)) = false-T (ltb edition first_rounding) e in
      ((refl, r, tt), ((refl, r, tt), ((rw e, tt, tt), ((rw e, tt, tt), tt))))

  words-fit : Each Fits (words edition)
  unfolding words own_words Each word_text formula_word_text
  words-fit =
      each-++ Fits common_words (own_words edition) common-fit (go (eqb edition 1) (ltb edition first_rounding) refl refl)
    where
      go : (b c : Bool) → eqb edition 1 ≡ b → ltb edition first_rounding ≡ c →
          Each Fits (pick b older_division (bytes "call" means formula_word call_word ∷ pick c older_division division))
      go true c p q = older-fit (first-older edition p)
      go false true p q = ((refl, false-T (eqb edition 1) p, tt), older-fit q)
      go false false p q = ((refl, false-T (eqb edition 1) p, tt), division-fit q)

-- ---- what is read as a word of the edition is its text

module _ (edition : ℕ) where
  abbrev Spelt : Bytes → Word → Type 0
  Spelt t w = (w ≡ unknown) ⊎ ((t ≡ word_text edition w) × Belongs edition w)

  either : (t : Bytes) (b : Bool) (w x : Word) → (b ≡ true → Spelt t w) → (b ≡ false → Spelt t x) → Spelt t (pick b w x)
  either t true w x h k = h refl
  either t false w x h k = k refl

  -- a name by its letter
  named-spelt : (c b : ℕ) (bs : Bytes) (w : ℕ → TermWord) → ((n : ℕ) → word_text edition (term_word (w n)) ≡ c ∷ printℕ n) →
      ((n : ℕ) → Belongs edition (term_word (w n))) → begins (c ∷ []) (b ∷ bs) ≡ true → Spelt (b ∷ bs) (named w (natural bs))
  unfolding begins
  named-spelt c b bs w h k e = go (natural bs) refl
    where
      go : (o : Option ℕ) → natural bs ≡ o → Spelt (b ∷ bs) (named w o)
      go none f = inl refl
      go (just n) f =
          let p : c ≡ b = eqb-true c b (and-true (eqb c b) true e).0 in
          let q : bs ≡ printℕ n = natural-canonical bs n f in
          let s : b ∷ bs ≡ word_text edition (term_word (w n)) = cc (h n) in
          inr (s, k n)

  name-spelt : (t : Bytes) → Spelt t (name_of edition t)
  unfolding name_of word_text term_word_text
  name-spelt [] = inl refl
  name-spelt (b ∷ bs) =
      let t = b ∷ bs in
      either t (begins (bytes "v") t) _ _ (named-spelt 118 b bs scalar_word (λ n. refl) (λ n. tt)) λ _.
      either t (begins (bytes "l") t) _ _ (named-spelt 108 b bs local_word (λ n. refl) (λ n. tt)) λ _.
      either t (begins (bytes "a") t) _ _ (named-spelt 97 b bs array_word (λ n. refl) (λ n. tt)) λ _.
      either t (begins (bytes "p") t) _ _
      (λ p. either t (eqb edition 1) _ _ (λ _. inl refl)
      (λ f. named-spelt 112 b bs parameter_word (λ n. refl) (λ n. false-T (eqb edition 1) f) p))
      λ _. inl refl

  find-spelt : (t : Bytes) (es : List Entry) → Each (Fits edition) es → Spelt t (find edition t es)
  unfolding find Each
  find-spelt t [] h = name-spelt t
  find-spelt t (e ∷ es) h =
      either t (same t e.text) e.word (find edition t es)
      (λ s. inr (same_bytes t e.text s ∙ h.0.0, h.0.1)) (λ _. find-spelt t es h.1)

  constant-spelt : (t : Bytes) (w : Word) → constant_of (integer t) ≡ just w → Spelt t w
  unfolding word_text term_word_text
  constant-spelt t w e = go (integer t) refl e
    where
      by_bits : (z : ℤ) → integer t ≡ just z → (b : Bool) → in32 z ≡ b → pick b (just (term_word (constant_word z))) none ≡ just w → Spelt t w
      by_bits z f true i q =
          let s : term_word (constant_word z) ≡ w = cc in
          subst (Spelt t) s (inr (integer-canonical t z f, true-T (in32 z) i))
      by_bits z f false i q = contradiction cc

      go : (o : Option ℤ) → integer t ≡ o → constant_of o ≡ just w → Spelt t w
      go none f q = contradiction cc
      go (just z) f q = by_bits z f (in32 z) refl q

  pub word_of-spelt : (t : Bytes) (w : Word) → word_of edition t ≡ just w → Spelt t w
  unfolding word_of
  word_of-spelt [] w e = let s : w ≡ unknown = cc in inl s
  word_of-spelt (b ∷ bs) w e = go (in_number b) e
    where
      go : (c : Bool) → pick c (constant_of (integer (b ∷ bs))) (just (find edition (b ∷ bs) (words edition))) ≡ just w → Spelt (b ∷ bs) w
      go true q = constant-spelt (b ∷ bs) w q
      go false q =
          let s : find edition (b ∷ bs) (words edition) ≡ w = cc in
          subst (Spelt (b ∷ bs)) s (find-spelt (b ∷ bs) (words edition) (words-fit edition))

-- ---- and its text is read as it

number_read : (edition : ℕ) (t : Bytes) (z : ℤ) → Each (λ b. in_number b ≡ true) t → integer t ≡ just z → T (in32 z) →
    word_of edition t ≡ just (term_word (constant_word z))
unfolding word_of integer Each
number_read edition [] z h e i = contradiction cc
number_read edition (b ∷ bs) z h e i = rw h.0 (rw e (rw (T_true (in32 z) i)))

module _ (edition : ℕ) where
  -- none of the entries has these bytes
  find-name : (t : Bytes) (es : List Entry) → Each (λ e. same t e.text ≡ false) es → find edition t es ≡ name_of edition t
  unfolding find Each
  find-name t [] h = refl
  find-name t (e ∷ es) h = rw h.0 (find-name t es h.1)

  name-read : (c n : ℕ) → in_number c ≡ false → word_of edition (c ∷ printℕ n) ≡ just (name_of edition (c ∷ printℕ n))
  unfolding word_of
  name-read c n h =
      let d = (printℕ-numeral n).all_digits in
      let others = each_map (λ e k. name-other c (printℕ n) e.text d k.2) (words edition) (words-fit edition) in
      rw h (ap just (find-name (c ∷ printℕ n) (words edition) others))

  older-read : (b c : Bool) → eqb edition 1 ≡ b → ltb edition first_rounding ≡ c →
      (word_of edition (op_text edition quo) ≡ just (term_word (op_word quo)))
      × (word_of edition (op_text edition rem) ≡ just (term_word (op_word rem)))
  unfolding word_of in_number is_in class_number class_of words common_words own_words older_division division find same op_text
  older-read true true p q = (rw (q, p), rw (q, p))
  older-read true false p q = contradiction (cc (first-older edition p))
  older-read false true p q = (rw (q, p, q), rw (q, p, q))
  older-read false false p q = (rw (q, p, q), rw (q, p, q))

  newer-read : (b : Bool) → eqb edition 1 ≡ b → ltb edition first_rounding ≡ false →
      (word_of edition (bytes "div") ≡ just (term_word (op_word div))) × (word_of edition (bytes "mod") ≡ just (term_word (op_word modulo)))
  unfolding word_of in_number is_in class_number class_of words common_words own_words division find same
  newer-read true p q = contradiction (cc (first-older edition p))
  newer-read false p q = (rw (p, q), rw (p, q))

  rel-read : (r : Rel) → word_of edition (rel_text r) ≡ just (formula_word (rel_word r))
  unfolding word_of in_number is_in class_number class_of words common_words find same rel_text
  rel-read ne = refl
  rel-read lt = refl
  rel-read le = refl
  rel-read gt = refl
  rel-read ge = refl

  formula-read : (w : FormulaWord) → Belongs edition (formula_word w) → word_of edition (formula_word_text w) ≡ just (formula_word w)
  unfolding word_of in_number is_in class_number class_of words common_words own_words find same formula_word_text
  formula-read true_word h = refl
  formula-read and_word h = refl
  formula-read or_word h = refl
  formula-read imp_word h = refl
  formula-read not_word h = refl
  formula-read eq_word h = refl
  formula-read ex_word h = refl
  formula-read some_word h = refl
  formula-read all_word h = refl
  formula-read call_word h = rw (T_false (eqb edition 1) h)
  formula-read (rel_word r) h = rel-read r

  op-read : (o : Op) → Belongs edition (term_word (op_word o)) → word_of edition (op_text edition o) ≡ just (term_word (op_word o))
  unfolding word_of in_number is_in class_number class_of words common_words find same op_text
  op-read add h = refl
  op-read sub h = refl
  op-read mul h = refl
  op-read quo h = (older-read (eqb edition 1) (ltb edition first_rounding) refl refl).0
  op-read rem h = (older-read (eqb edition 1) (ltb edition first_rounding) refl refl).1
  op-read div h = (newer-read (eqb edition 1) refl (T_false (ltb edition first_rounding) h)).0
  op-read modulo h = (newer-read (eqb edition 1) refl (T_false (ltb edition first_rounding) h)).1

  pub word_of-text : (w : Word) → Belongs edition w → word_of edition (word_text edition w) ≡ just w
  unfolding word_text term_word_text in_number is_in class_number class_of name_of begins
  word_of-text (formula_word w) h = formula-read w h
  word_of-text (term_word (constant_word z)) h = number_read edition (printℤ z) z (printℤ-number z) (integer-printℤ z) h
  word_of-text (term_word (scalar_word n)) h = name-read 118 n refl ∙ rw (natural-printℕ n)
  word_of-text (term_word (local_word n)) h = name-read 108 n refl ∙ rw (natural-printℕ n)
  word_of-text (term_word (array_word n)) h = name-read 97 n refl ∙ rw (natural-printℕ n)
  word_of-text (term_word (parameter_word n)) h =
      name-read 112 n refl ∙ rw (T_false (eqb edition 1) h, natural-printℕ n)
  word_of-text (term_word (op_word o)) h = op-read o h
  word_of-text (number_word n) h = absurd h
  word_of-text unknown h = absurd h

-- ---- which no space or line feed ends

abbrev Token : Bytes → Type 0
Token = Each (λ b. in_token b ≡ true)

rel-token : (r : Rel) → Token (rel_text r)
unfolding run in_token is_in class_number class_of rel_text
rel-token ne = run-passes in_token (bytes "ne")
rel-token lt = run-passes in_token (bytes "lt")
rel-token le = run-passes in_token (bytes "le")
rel-token gt = run-passes in_token (bytes "gt")
rel-token ge = run-passes in_token (bytes "ge")

formula-token : (w : FormulaWord) → Token (formula_word_text w)
unfolding run in_token is_in class_number class_of formula_word_text
formula-token true_word = run-passes in_token (bytes "true")
formula-token and_word = run-passes in_token (bytes "and")
formula-token or_word = run-passes in_token (bytes "or")
formula-token imp_word = run-passes in_token (bytes "imp")
formula-token not_word = run-passes in_token (bytes "not")
formula-token eq_word = run-passes in_token (bytes "eq")
formula-token ex_word = run-passes in_token (bytes "ex")
formula-token some_word = run-passes in_token (bytes "some")
formula-token all_word = run-passes in_token (bytes "all")
formula-token call_word = run-passes in_token (bytes "call")
formula-token (rel_word r) = rel-token r

older-token : (b : Bool) → Token (pick b (bytes "div") (bytes "quo")) × Token (pick b (bytes "mod") (bytes "rem"))
unfolding run in_token is_in class_number class_of
older-token true = (run-passes in_token (bytes "div"), run-passes in_token (bytes "mod"))
older-token false = (run-passes in_token (bytes "quo"), run-passes in_token (bytes "rem"))

op-token : (edition : ℕ) (o : Op) → Token (op_text edition o)
unfolding run in_token is_in class_number class_of op_text
op-token edition add = run-passes in_token (bytes "add")
op-token edition sub = run-passes in_token (bytes "sub")
op-token edition mul = run-passes in_token (bytes "mul")
op-token edition quo = (older-token (ltb edition first_rounding)).0
op-token edition rem = (older-token (ltb edition first_rounding)).1
op-token edition div = run-passes in_token (bytes "div")
op-token edition modulo = run-passes in_token (bytes "mod")

pub word_text-token : (edition : ℕ) (w : Word) → Token (word_text edition w)
unfolding Each in_token is_in class_number class_of word_text term_word_text
word_text-token edition (formula_word w) = formula-token w
word_text-token edition (term_word (constant_word z)) = printℤ-token z
word_text-token edition (term_word (scalar_word n)) = (refl, printℕ-token n)
word_text-token edition (term_word (local_word n)) = (refl, printℕ-token n)
word_text-token edition (term_word (array_word n)) = (refl, printℕ-token n)
word_text-token edition (term_word (parameter_word n)) = (refl, printℕ-token n)
word_text-token edition (term_word (op_word o)) = op-token edition o
word_text-token edition (number_word n) = printℕ-token n
word_text-token edition unknown = tt

-- ---- the number of a procedure

pub number-spelt : (t : Bytes) (n : ℕ) → number_of t ≡ just (number_word n) → t ≡ printℕ n
unfolding number_of
number-spelt [] n e = contradiction cc
number-spelt (b ∷ bs) n e = go (in_number b) (natural (b ∷ bs)) refl e
  where
    go : (c : Bool) (o : Option ℕ) → natural (b ∷ bs) ≡ o → pick c (numeral o) (just unknown) ≡ just (number_word n) → b ∷ bs ≡ printℕ n
    go true none f q = contradiction cc
    go true (just m) f q = let s : m ≡ n = cc in natural-canonical (b ∷ bs) m f ∙ ap printℕ s
    go false o f q = contradiction cc

numeral-read : (t : Bytes) (n : ℕ) → Each (λ b. in_number b ≡ true) t → natural t ≡ just n → number_of t ≡ just (number_word n)
unfolding number_of natural well_formed Each
numeral-read [] n h e = contradiction cc
numeral-read (b ∷ bs) n h e = rw (h.0, e)

pub spelt-number : (n : ℕ) → number_of (printℕ n) ≡ just (number_word n)
spelt-number n = numeral-read (printℕ n) n (printℕ-number n) (natural-printℕ n)
