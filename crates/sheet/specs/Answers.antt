-- The answers of the code that reads the lines, put into the specification's words. Assumes nothing.
use Rattle.std.specs.Prelude.{ℕ, ℤ, Result, Ok, Err}
use Rattle.specification.specs.declared.refusals.Refusal.{Refusal}
use Rattle.specification.specs.Bytes.{Bytes, Class}
use Rattle.specification.specs.Parser.{Read, refused, found, Parser, give, ◌>>=◌, ◌>>◌, mark, key}
use Rattle.specification.specs.Lines.{count}
use Rattle.values.specs.Word.{signed}
use Rattle.sheet.specs.Codes.{index_word}
use Rattle.sheet.specs.Reader.{line_at}

-- ---- an answer as a reading

-- what the code answers: a value, or a refusal as its number and place
abbrev pub Answer : Type 0 → Type 0
Answer A = Result A Refusal

-- by what the value is read as
abbrev pub reading : {A B : Type 0} → (A → Read B) → Answer A → Read B
reading f (Ok a) = f a
reading f (Err e) = refused e.number e.place

-- the place after what was read, which is told beside
abbrev pub place_read : {A : Type 0} → A → Bytes → Answer ℕ → Read A
place_read a s r = reading (λ e. found a (line_at s e)) r

-- what was read, made into another thing, and the place after it
abbrev pub made_read : {A B : Type 0} → (A → B) → Bytes → Answer (A × ℕ) → Read B
made_read f s r = reading (λ x. found (f x.0) (line_at s x.1)) r

-- as it is
abbrev pub value_read : {A : Type 0} → Bytes → Answer (A × ℕ) → Read A
value_read s r = made_read (λ a. a) s r

-- a value's word
abbrev pub word_read : Bytes → Answer (ℕ × ℕ) → Read ℤ
word_read s r = made_read signed s r

-- ---- numbers

-- a key, a number within limits, and a byte of the class: with a line feed a line with one number, with a colon a procedure's line up to its
-- formula
abbrev pub number_to : Bytes → ℕ → ℕ → Class → Parser ℕ
number_to k lo hi c = key k >> (count lo hi >>= λ n. mark c >> give n)

-- what was read, made into another thing
abbrev pub mapped : {A B : Type 0} → (A → B) → Read A → Read B
mapped f (refused k p) = refused k p
mapped f (found a r) = found (f a) r

-- an index that is too large for a word is not declared, so the largest word stands for it
abbrev pub held_index : Read ℕ → Read ℕ
held_index r = mapped index_word r
