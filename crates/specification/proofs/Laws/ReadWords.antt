-- The constant of a word that is read lies in 32 bits. Assumes nothing.
use Prim.Native.Nat.{ℕ}
use mathlib.Core.Path.{◌≡◌, refl, subst}
use mathlib.Core.Bool.{Bool, true, false}
use mathlib.Core.List.{List, [], ◌∷◌}
use mathlib.Core.Option.{Option, none, some as just}
use lib.Dec.{T, eqb, ltb}
use lib.IntN.{ℤ}
use Rattle.specification.specs.Bytes.{Bytes, bytes, pick, in_number, same, begins}
use Rattle.specification.specs.Number.{natural, integer, in32}
use Rattle.specification.specs.Words.{call_word, TermWord, constant_word, scalar_word, local_word, array_word, parameter_word, op_word, Word, formula_word, term_word, number_word, unknown, Entry, ◌means◌, common_words, older_division, first_rounding, division, own_words, words, named, name_of, find, constant_of, word_of, numeral, number_of}
use Rattle.specification.specs.Lists.{Each}
use Rattle.specification.proofs.Laws.Contradiction.{contradiction}
use Rattle.specification.proofs.Laws.Lists.{each-++}
use Rattle.specification.proofs.Laws.Parser.{true-T}

-- a constant lies in 32 bits; of another word nothing is asked
abbrev pub InBits : Word → Type 0
InBits (formula_word w) = Unit {0}
InBits (number_word n) = Unit {0}
InBits unknown = Unit {0}
InBits (term_word (constant_word z)) = T (in32 z)
InBits (term_word (scalar_word n)) = Unit {0}
InBits (term_word (local_word n)) = Unit {0}
InBits (term_word (array_word n)) = Unit {0}
InBits (term_word (parameter_word n)) = Unit {0}
InBits (term_word (op_word o)) = Unit {0}

pub record WordOk (w : Word) : Type 0 where
  pub in_bits : InBits w

module _ {w x : Word} where
  either : (b : Bool) → WordOk w → WordOk x → WordOk (pick b w x)
  either true h k = h
  either false h k = k

-- ---- names and the words of an edition

named_ok : (w : ℕ → TermWord) (o : Option ℕ) → ((n : ℕ) → InBits (term_word (w n))) → WordOk (named w o)
named_ok w none h = record { in_bits = tt }
named_ok w (just n) h = record { in_bits = h n }

name-ok : (edition : ℕ) (t : Bytes) → WordOk (name_of edition t)
unfolding name_of
name-ok edition [] = record { in_bits = tt }
name-ok edition (b ∷ bs) =
    either (begins (bytes "v") (b ∷ bs)) (named_ok scalar_word (natural bs) λ n. tt)
    (either (begins (bytes "l") (b ∷ bs)) (named_ok local_word (natural bs) λ n. tt)
    (either (begins (bytes "a") (b ∷ bs)) (named_ok array_word (natural bs) λ n. tt)
    (either {x = unknown} (begins (bytes "p") (b ∷ bs))
    (either {w = unknown} (eqb edition 1) (record { in_bits = tt }) (named_ok parameter_word (natural bs) λ n. tt))
    (record { in_bits = tt }))))

abbrev Entries : List Entry → Type 0
Entries = Each (λ e. InBits e.word)

find-ok : (edition : ℕ) (t : Bytes) (es : List Entry) → Entries es → WordOk (find edition t es)
unfolding find Each
find-ok edition t [] h = name-ok edition t
find-ok edition t (e ∷ es) h = either (same t e.text) (record { in_bits = h.0 }) (find-ok edition t es h.1)

common-ok : Entries common_words
unfolding common_words Each
common-ok = (tt, (tt, (tt, (tt, (tt, (tt, (tt, (tt, (tt, (tt, (tt, (tt, (tt, (tt, (tt, (tt, (tt, tt)))))))))))))))))

own-ok : (edition : ℕ) → Entries (own_words edition)
unfolding own_words older_division division Each
own-ok edition = go (eqb edition 1) (ltb edition first_rounding)
  where
    go : (b c : Bool) → Entries (pick b older_division (bytes "call" means formula_word call_word ∷ pick c older_division division))
    go true c = (tt, (tt, tt))
    go false true = (tt, (tt, (tt, tt)))
    go false false = (tt, (tt, (tt, (tt, (tt, tt)))))

words-ok : (edition : ℕ) → Entries (words edition)
unfolding words
words-ok edition = each-++ (λ e. InBits e.word) common_words (own_words edition) common-ok (own-ok edition)

-- ---- constants and tokens

constant-ok : (o : Option ℤ) (w : Word) → constant_of o ≡ just w → WordOk w
constant-ok none w e = contradiction cc
constant-ok (just z) w e = go (in32 z) refl e
  where
    go : (b : Bool) → in32 z ≡ b → pick b (just (term_word (constant_word z))) none ≡ just w → WordOk w
    go true t q = let s : term_word (constant_word z) ≡ w = cc in subst WordOk s (record { in_bits = true-T (in32 z) t })
    go false t q = contradiction cc

pub word_ok : (edition : ℕ) (t : Bytes) (w : Word) → word_of edition t ≡ just w → WordOk w
unfolding word_of
word_ok edition [] w e = let s : unknown ≡ w = cc in subst WordOk s (record { in_bits = tt })
word_ok edition (b ∷ bs) w e = go (in_number b) e
  where
    go : (d : Bool) → pick d (constant_of (integer (b ∷ bs))) (just (find edition (b ∷ bs) (words edition))) ≡ just w → WordOk w
    go true q = constant-ok (integer (b ∷ bs)) w q
    go false q = let s : find edition (b ∷ bs) (words edition) ≡ w = cc in subst WordOk s (find-ok edition (b ∷ bs) (words edition) (words-ok edition))

-- the word of a procedure's number is no constant
pub number_ok : (t : Bytes) (w : Word) → number_of t ≡ just w → WordOk w
unfolding number_of
number_ok [] w e = let s : unknown ≡ w = cc in subst WordOk s (record { in_bits = tt })
number_ok (b ∷ bs) w e = go (in_number b) (natural (b ∷ bs)) e
  where
    go : (d : Bool) (o : Option ℕ) → pick d (numeral o) (just unknown) ≡ just w → WordOk w
    go true none q = contradiction cc
    go true (just n) q = let s : number_word n ≡ w = cc in subst WordOk s (record { in_bits = tt })
    go false o q = let s : unknown ≡ w = cc in subst WordOk s (record { in_bits = tt })
