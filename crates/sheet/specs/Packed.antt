-- Words by their numbers: a word's bytes packed into one number, by which the code looks it up, and the code that stands for it.
-- Assumes nothing.
use Rattle.std.specs.Prelude.{ℕ, ◌+◌, ◌*◌, List, [], ◌∷◌, eqb}
use Rattle.std.specs.Prelude as code
use Rattle.std.proofs.Math.Option.{Option, none, some as just}
use Rattle.specification.specs.Bytes.{Bytes, pick, same}
use Rattle.specification.specs.Words.{Entry}
use Rattle.tables.specs.Codes.{parameter_code, unknown_code}
use Rattle.sheet.specs.declared.Token.{Token}
use Rattle.sheet.specs.Codes.{token, index_word, token_of}

-- the first byte lowest, and a 1 above the last
unfoldable pub packed : Bytes → ℕ
packed [] = 1
packed (b ∷ bs) = b + 256 * packed bs

abbrev pub entry_code : Entry → ℕ
entry_code e = (token_of (just e.word)).code

-- the code of the first entry with these bytes, 0 where there is none
unfoldable pub code_in : Bytes → List Entry → ℕ
code_in t [] = 0
code_in t (e ∷ es) = let r = code_in t es in pick (same t e.text) (entry_code e) r

-- the same by the number of the bytes
unfoldable pub code_by : ℕ → List Entry → ℕ
code_by k [] = 0
code_by k (e ∷ es) = let r = code_by k es in pick (eqb k (packed e.text)) (entry_code e) r

-- no word has the code 0, which says that there is none
abbrev pub code_or_none : ℕ → code.Option ℕ
code_or_none c = pick (eqb c 0) code.None (code.Some c)

-- a name's token, by the code of its letter and its index
abbrev pub indexed : ℕ → Option ℕ → Token
indexed c none = token unknown_code 0
indexed c (just n) = token c (index_word n)

-- the token of pN, which is no word of edition 1
abbrev pub parameter_token : ℕ → Option ℕ → Token
parameter_token edition o = pick (eqb edition 1) (token unknown_code 0) (indexed parameter_code o)
