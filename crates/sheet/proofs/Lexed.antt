-- The token of bytes: a constant, else a word of the set, else a name; where a procedure's number is due, a number. Assumes nothing.
use mathlib.Core.Path.{◌≡◌, refl, ap}
use mathlib.Core.Bool.{Bool, true, false, ◌&&◌}
use mathlib.Core.List.{List, [], ◌∷◌}
use mathlib.Core.Option.{Option, none, some as just}
use Prim.Native.Nat.{ℕ, ◌-◌, ◌<◌}
use native.Mathlib.Omega.{arith}
use lib.Dec.{T, eqb}
use lib.ListN.{length, get_or, take, drop, length-drop}
use lib.Seq.{take_all}
use lib.IntN.{ℤ}
use borrow.Author.Tests.{eq-eqb, ne_eqb}
use Rattle.specification.specs.Bytes.{Bytes, pick, in_number, same, begins}
use Rattle.specification.specs.Number.{natural, integer, in32}
use Rattle.specification.specs.Words.{Entry, TermWord, constant_word, scalar_word, local_word, array_word, parameter_word, term_word, unknown, words, named, name_of, find, constant_of, word_of, numeral, number_of}
use Rattle.values.specs.Word.{biased}
use Rattle.text.specs.Decimal.{held, capped, worded}
use Rattle.std.specs.Prelude.{Some, None}
use Rattle.std.specs.Prelude as code
use Rattle.tables.specs.Codes.{constant_code, scalar_code, local_code, array_code, parameter_code, unknown_code, bad_constant_code, procedure_code}
use Rattle.sheet.specs.declared.Token.{Token}
use Rattle.sheet.specs.Codes.{token, index_word, term_token, token_of}
use Rattle.sheet.specs.Packed.{entry_code, code_in, indexed, parameter_token}
use Rattle.sheet.proofs.Packed.{first, second, sound, brief, Sound, sound-of, all-brief}

-- a word of the set is its code's token; any other bytes are a name
found : (edition : ℕ) (es : List Entry) (t : Bytes) → T (brief es) →
    token_of (just (find edition t es)) ≡ pick (eqb (code_in t es) 0) (token_of (just (name_of edition t))) (token (code_in t es) 0)
unfolding code_in brief find
found edition [] t b = refl
found edition (e ∷ es) t b = go (same t e.text) (sound-of e (first (sound e) (brief es) b)) (found edition es t (second (sound e) (brief es) b))
  where
    go : (u : Bool) → Sound e → token_of (just (find edition t es)) ≡ pick (eqb (code_in t es) 0) (token_of (just (name_of edition t))) (token (code_in t es) 0) →
        token_of (just (pick u e.word (find edition t es))) ≡
        pick (eqb (pick u (entry_code e) (code_in t es)) 0) (token_of (just (name_of edition t))) (token (pick u (entry_code e) (code_in t es)) 0)
    go true l q = rw (ne_eqb (entry_code e) 0 (λ z. omega (arith, l.some))) (ap (token (entry_code e)) l.plain)
    go false l q = q

module _ (edition : ℕ) where
  -- ---- the token of bytes

  module _ (t : Bytes) (h : 0 < length t) where
    pub lex-constant : in_number (get_or t 0 0) ≡ true → word_of edition t ≡ constant_of (integer t)
    unfolding word_of
    lex-constant e = by t h e
      where
        by : (t : Bytes) → 0 < length t → in_number (get_or t 0 0) ≡ true → word_of edition t ≡ constant_of (integer t)
        by [] h e = absurd (omega arith)
        by (x ∷ xs) h e = rw e

    lex-find : in_number (get_or t 0 0) ≡ false → word_of edition t ≡ just (find edition t (words edition))
    unfolding word_of
    lex-find e = by t h e
      where
        by : (t : Bytes) → 0 < length t → in_number (get_or t 0 0) ≡ false → word_of edition t ≡ just (find edition t (words edition))
        by [] h e = absurd (omega arith)
        by (x ∷ xs) h e = rw e

    pub lex-word : in_number (get_or t 0 0) ≡ false → (code_in t (words edition) ≡ 0 → ⊥) → token_of (word_of edition t) ≡ token (code_in t (words edition)) 0
    lex-word e n = rw (lex-find e, found edition (words edition) t (all-brief edition), ne_eqb (code_in t (words edition)) 0 n)

    pub lex-name : in_number (get_or t 0 0) ≡ false → code_in t (words edition) ≡ 0 → token_of (word_of edition t) ≡ token_of (just (name_of edition t))
    lex-name e n = rw (lex-find e, found edition (words edition) t (all-brief edition), eq-eqb (code_in t (words edition)) 0 n)

  pub lex-none : (t : Bytes) → length t ≡ 0 → token_of (word_of edition t) ≡ token unknown_code 0
  unfolding word_of token_of
  lex-none [] h = refl
  lex-none (x ∷ xs) h = absurd (omega arith)

-- ---- constants and names

-- the token of a constant's word
abbrev pub constant_token : code.Option ℕ → Token
constant_token None = token bad_constant_code 0
constant_token (Some v) = token constant_code v

pub constant-token : (o : Option ℤ) → constant_token (worded o) ≡ token_of (constant_of o)
unfolding token_of
constant-token none = refl
constant-token (just z) = go (in32 z)
  where
    go : (u : Bool) → constant_token (pick u (Some (biased z)) None) ≡ token_of (pick u (just (term_word (constant_word z))) none)
    go true = refl
    go false = refl

-- the token of a name, by what was read of its index
abbrev pub index_token : ℕ → code.Option ℕ → Token
index_token c None = token unknown_code 0
index_token c (Some n) = token c (index_word n)

pub index-token : (c : ℕ) (o : Option ℕ) → index_token c (capped o) ≡ indexed c o
index-token c none = refl
index-token c (just n) = let e : index_word (held n) ≡ index_word n = omega arith in ap (token c) e

pub rest-whole : (t : Bytes) → take (length t - 1) (drop 1 t) ≡ drop 1 t
rest-whole t = take_all (length t - 1) (drop 1 t) (omega (arith, length-drop 1 t))

named-index : (w : ℕ → TermWord) (c : ℕ) → ((n : ℕ) → term_token (w n) ≡ token c (index_word n)) → (o : Option ℕ) → token_of (just (named w o)) ≡ indexed c o
unfolding token_of
named-index w c h none = refl
named-index w c h (just n) = h n

-- a name by its first byte
abbrev pub name_token : ℕ → ℕ → Option ℕ → Token
name_token edition b o =
    pick (eqb 118 b) (indexed scalar_code o)
    (pick (eqb 108 b) (indexed local_code o)
    (pick (eqb 97 b) (indexed array_code o)
    (pick (eqb 112 b) (parameter_token edition o) (token unknown_code 0))))

pub name-token : (edition : ℕ) (t : Bytes) → 0 < length t → token_of (just (name_of edition t)) ≡ name_token edition (get_or t 0 0) (natural (drop 1 t))
unfolding name_of begins token_of
name-token edition [] h = absurd (omega arith)
name-token edition (b ∷ bs) h = go (eqb 118 b) (eqb 108 b) (eqb 97 b) (eqb 112 b)
  where
    by-edition : (e : Bool) →
        token_of (just (pick e unknown (named parameter_word (natural bs)))) ≡ pick e (token unknown_code 0) (indexed parameter_code (natural bs))
    by-edition true = refl
    by-edition false = named-index parameter_word parameter_code (λ n. refl) (natural bs)

    go : (x y z u : Bool) →
        token_of (just
        (pick (x && true) (named scalar_word (natural bs))
        (pick (y && true) (named local_word (natural bs))
        (pick (z && true) (named array_word (natural bs))
        (pick (u && true) (pick (eqb edition 1) unknown (named parameter_word (natural bs))) unknown))))) ≡
        pick x (indexed scalar_code (natural bs))
        (pick y (indexed local_code (natural bs))
        (pick z (indexed array_code (natural bs))
        (pick u (parameter_token edition (natural bs)) (token unknown_code 0))))
    go true y z u = named-index scalar_word scalar_code (λ n. refl) (natural bs)
    go false true z u = named-index local_word local_code (λ n. refl) (natural bs)
    go false false true u = named-index array_word array_code (λ n. refl) (natural bs)
    go false false false true = by-edition (eqb edition 1)
    go false false false false = refl

-- ---- a procedure's number

pub number-none : (t : Bytes) → length t ≡ 0 → token_of (number_of t) ≡ token unknown_code 0
unfolding number_of token_of
number-none [] h = refl
number-none (x ∷ xs) h = absurd (omega arith)

pub number-other : (t : Bytes) → 0 < length t → in_number (get_or t 0 0) ≡ false → token_of (number_of t) ≡ token unknown_code 0
unfolding number_of token_of
number-other [] h e = absurd (omega arith)
number-other (x ∷ xs) h e = rw e

pub number-numeral : (t : Bytes) → 0 < length t → in_number (get_or t 0 0) ≡ true → number_of t ≡ numeral (natural t)
unfolding number_of
number-numeral [] h e = absurd (omega arith)
number-numeral (x ∷ xs) h e = rw e

-- by what was read of it
abbrev pub numeral_token : code.Option ℕ → Token
numeral_token None = token bad_constant_code 0
numeral_token (Some n) = token procedure_code (index_word n)

pub numeral-token : (o : Option ℕ) → numeral_token (capped o) ≡ token_of (numeral o)
unfolding token_of
numeral-token none = refl
numeral-token (just n) = let e : index_word (held n) ≡ index_word n = omega arith in ap (token procedure_code) e
