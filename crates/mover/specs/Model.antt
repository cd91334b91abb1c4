-- What the mover does with bytes: it counts lines, writes a line of full ranges or looks for one that is not, and writes the lines of formulas
-- anew by the table of tokens. That this is the move of the sheet which these bytes are the text of is in proofs/Laws. Assumes nothing.
use Rattle.std.specs.Prelude.{ℕ, zero, suc, ◌+◌, Bool, true, false, ◌&&◌, ◌||◌, List, [], ◌∷◌, ◌++◌, length, take, drop, eqb, ltb}
use Rattle.std.proofs.Math.Option.{Option, none, some as just}
use Rattle.specification.specs.Bytes.{Bytes, bytes, pick, between, begins}
use Rattle.specification.specs.Moves.{Result, fitted, unless}
-- letters, digits and minus signs; an equals sign, a colon, a space and a line feed are marks
unfoldable pub use Rattle.text.specs.Class.{in_word}
use Rattle.tables.specs.Layout.{Words, max_tokens, code_at, operand_at, end_at}
use Rattle.tables.specs.Codes.{some_code, all_code, quo_code, rem_code, constant_code}

-- ---- lines

-- the bytes of the first line, with its line feed
unfoldable pub line_length : Bytes → ℕ
line_length [] = 0
line_length (b ∷ bs) = let n = suc (line_length bs) in pick (eqb b 10) 1 n

-- of the first n lines
unfoldable pub lines_length : ℕ → Bytes → ℕ
lines_length zero bs = 0
lines_length (suc n) bs = line_length bs + lines_length n (drop (line_length bs) bs)

-- the lines before that of ranges, and with it
abbrev pub head_lines : ℕ
head_lines = 4

-- ---- full ranges

abbrev pub full_range : Bytes
full_range = bytes "-2147483648:2147483647"

-- what follows a range that n more come after
abbrev pub mark_after : ℕ → Bytes
mark_after zero = bytes "\n"
mark_after (suc n) = bytes ","

unfoldable pub full_ranges : ℕ → Bytes
full_ranges zero = []
full_ranges (suc n) = full_range ++ (mark_after n ++ full_ranges n)

-- the line of n full ranges
unfoldable pub full_line : ℕ → Bytes
full_line zero = bytes "ranges=\n"
full_line (suc n) = bytes "ranges=" ++ full_ranges (suc n)

-- the place of the first of n ranges that is not full, where these bytes begin at p with the first
unfoldable pub narrow_place : ℕ → ℕ → Bytes → Option ℕ
narrow_place p zero bs = none
narrow_place p (suc n) bs =
    let t = full_range ++ mark_after n in
    let later = narrow_place (p + length t) n (drop (length t) bs) in
    pick (begins t bs) later (just p)

-- ---- chunks of lines: the letters of a word or key, and the mark after them, none at the end

pub record Chunk : Type 0 where
  pub letters : Bytes
  pub mark : Bytes

abbrev pub chunk : Bytes → Bytes → Chunk
chunk t m = record { letters = t; mark = m }

-- one letter more before the first
abbrev pub extended : ℕ → List Chunk → List Chunk
extended b [] = chunk (b ∷ []) [] ∷ []
extended b (c ∷ cs) = chunk (b ∷ c.letters) c.mark ∷ cs

unfoldable pub chunks : Bytes → List Chunk
chunks [] = []
chunks (b ∷ bs) = let cs = chunks bs in pick (in_word b) (extended b cs) (chunk [] (b ∷ []) ∷ cs)

-- of a line's key: an equals sign or a colon ends it
unfoldable pub is_key : Chunk → Bool
is_key c = begins (bytes "=") c.mark || begins (bytes ":") c.mark

-- ---- the words of lines, by the table of tokens

-- the code of token i, 0 where the table has none
unfoldable pub token_code : Words → ℕ → ℕ
token_code w i = pick (ltb i max_tokens) (code_at w i) 0

-- a quantifier with an empty range begins at token i: after its local come two constants, the first above the second
unfoldable pub empty_at : Words → ℕ → Bool
empty_at w i =
    between some_code all_code (token_code w i)
    && (eqb (token_code w (i + 2)) constant_code && (eqb (token_code w (i + 3)) constant_code && ltb (operand_at w (i + 3)) (operand_at w (i + 2))))

-- what stands for it
unfoldable pub stand_in : Words → ℕ → Bytes
stand_in w i = pick (eqb (token_code w i) some_code) (bytes "eq 0 1") (bytes "true")

-- a word by its code in the newer edition's spelling or the older's: division toward zero has two, any other word the letters it has
unfoldable pub spelling : Bool → ℕ → Bytes → Bytes
spelling newer code letters =
    pick (eqb code quo_code) (pick newer (bytes "quo") (bytes "div")) (pick (eqb code rem_code) (pick newer (bytes "rem") (bytes "mod")) letters)

-- tokens below `until` are dropped; the same after token i, where an empty range that begins there is dropped up to its end
unfoldable pub until_after : Words → ℕ → ℕ → ℕ
until_after w i until = pick (ltb i until) until (pick (empty_at w i) (end_at w i) until)

-- what is written for the word of token i, and the mark after it unless it is dropped with the word
unfoldable pub word_piece : Words → Bool → ℕ → ℕ → Bytes → Bytes
word_piece w newer i until letters =
    pick (ltb i until) [] (pick (empty_at w i) (stand_in w i) (spelling newer (token_code w i) letters))

unfoldable pub mark_piece : Words → ℕ → ℕ → Bytes → Bytes
mark_piece w i until mark = pick (ltb (suc i) (until_after w i until)) [] mark

-- lines whose first token is the i-th
unfoldable pub rewritten : Words → Bool → ℕ → ℕ → List Chunk → Bytes
rewritten w newer i until [] = []
rewritten w newer i until (c ∷ cs) =
    let key = c.letters ++ (c.mark ++ rewritten w newer i until cs) in
    let word =
    word_piece w newer i until c.letters ++ (mark_piece w i until c.mark ++ rewritten w newer (suc i) (until_after w i until) cs) in
    pick (is_key c) key word

-- ---- rounding down

-- a word of the newer edition that does so comes, after its space
abbrev pub rounds : Bytes → Bool
rounds bs = begins (bytes " div") bs || begins (bytes " mod") bs

-- the place of the first such word, where these bytes begin at p
unfoldable pub rounding_place : ℕ → Bytes → Option ℕ
rounding_place p [] = none
rounding_place p (b ∷ bs) = let later = rounding_place (suc p) bs in pick (rounds (b ∷ bs)) (just (suc p)) later

-- ---- the moves

-- the lines before that of ranges, without the edition's
abbrev pub head_rest : Bytes → Bytes
head_rest s = drop (length (bytes "edition=2\n")) (take (lines_length head_lines s) s)

-- what stands after the first k lines: the next, of given values, as it stands, and the lines of formulas
unfoldable pub rest_text : Words → Bool → ℕ → Bytes → Bytes
rest_text w newer k s =
    let e = lines_length (suc k) s in
    drop (lines_length k s) (take e s) ++ rewritten w newer 0 0 (chunks (drop e s))

-- n is the number of ranges
unfoldable pub up_text : ℕ → Words → Bytes → Bytes
up_text n w s = bytes "edition=3\n" ++ (head_rest s ++ (full_line n ++ rest_text w true head_lines s))

-- the lines up to that of ranges stay
unfoldable pub tidy_text : Words → Bytes → Bytes
tidy_text w s = take (lines_length (suc head_lines) s) s ++ rest_text w true (suc head_lines) s

unfoldable pub down_text : Words → Bytes → Bytes
down_text w s = bytes "edition=2\n" ++ (head_rest s ++ rest_text w false (suc head_lines) s)

unfoldable pub narrow_of : ℕ → Bytes → Option ℕ
narrow_of n s = let p = lines_length head_lines s + length (bytes "ranges=") in narrow_place p n (drop p s)

unfoldable pub rounding_of : Bytes → Option ℕ
rounding_of s = let p = lines_length (suc head_lines) s in rounding_place p (drop p s)

unfoldable pub up_result : ℕ → Words → Bytes → Result
up_result n w s = fitted (up_text n w s)

unfoldable pub tidy_result : Words → Bytes → Result
tidy_result w s = fitted (tidy_text w s)

unfoldable pub down_result : ℕ → Words → Bytes → Result
down_result n w s = unless 15 (narrow_of n s) (unless 16 (rounding_of s) (fitted (down_text w s)))
