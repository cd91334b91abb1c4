-- Reading: a reader carries the sheet and how far it has read, and reading gives a refusal, with its number and byte place, or
-- what was read and the reader after it. Assumes nothing.
use Rattle.std.specs.Prelude.{ℕ, ◌+◌, Bool, true, false, List, [], ◌∷◌, length, drop}
use Rattle.std.proofs.Math.Option.{Option, none, some}
use Rattle.specification.specs.Bytes.{Bytes, pick, Class, is_in, run, begins}

-- the place, the sheet from there on, how many tokens were read, and the locals that have a binder
pub record Reader : Type 0 where
  pub place : ℕ
  pub rest : Bytes
  pub tokens : ℕ
  pub bound : List ℕ

pub data Read (A : Type 0) : Type 0 where
  refused : ℕ → ℕ → Read A
  found : A → Reader → Read A

abbrev pub Parser : Type 0 → Type 0
Parser A = Reader → Read A

module _ {A : Type 0} where
  abbrev pub give : A → Parser A
  give a r = found a r

  -- a refusal with this number, at this place
  abbrev pub refuse : ℕ → ℕ → Parser A
  refuse n p r = refused n p

  -- on where the test holds, else a refusal
  abbrev pub require : Bool → ℕ → ℕ → Parser A → Parser A
  require true n p q = q
  require false n p q = refuse n p

  -- what there is, or a refusal
  abbrev pub present : ℕ → ℕ → Option A → Parser A
  present n p none = refuse n p
  present n p (some a) = give a

module _ {A B : Type 0} where
  abbrev pub and_then : (A → Parser B) → Read A → Read B
  and_then f (refused n p) = refused n p
  and_then f (found a r) = f a r

  infixl 10 ◌>>=◌ ◌>>◌
  abbrev pub ◌>>=◌ : Parser A → (A → Parser B) → Parser B
  ◌>>=◌ m f r = and_then f (m r)

  abbrev pub ◌>>◌ : Parser A → Parser B → Parser B
  ◌>>◌ m n r = and_then (λ a. n) (m r)

-- past the first n bytes
abbrev pub past : ℕ → Reader → Reader
past n r = record { place = r.place + n; rest = drop n r.rest; tokens = r.tokens; bound = r.bound }

-- the place of the next byte
abbrev pub here : Parser ℕ
here r = found r.place r

-- the first byte is of the class; false at the end
abbrev pub next : Class → Bytes → Bool
next c [] = false
next c (b ∷ bs) = is_in c b

-- whether the next byte is of the class; nothing is read
abbrev pub sees : Class → Parser Bool
sees c r = found (next c r.rest) r

-- whether these bytes come next; nothing is read
abbrev pub spells : Bytes → Parser Bool
spells k r = found (begins k r.rest) r

-- a byte of the class; any other, or the sheet's end, is 5
unfoldable pub mark : Class → Parser (Unit {0})
mark c r = pick (next c r.rest) (found tt (past 1 r)) (refused 5 r.place)

-- these bytes; any others are refused with the number
unfoldable pub exactly : ℕ → Bytes → Parser (Unit {0})
exactly n k r = pick (begins k r.rest) (found tt (past (length k) r)) (refused n r.place)

-- a line's key and its equals sign; anything else is 3
abbrev pub key : Bytes → Parser (Unit {0})
key k = exactly 3 k

-- the longest run of bytes that pass the test
unfoldable pub taken : (ℕ → Bool) → Parser Bytes
taken f r = let bs = run f r.rest in found bs (past (length bs) r)

abbrev pub ended : Bytes → Bool
ended [] = true
ended (b ∷ bs) = false

-- the sheet's end; a byte after it is 5
abbrev pub finish : Parser (Unit {0})
finish r = pick (ended r.rest) (found tt r) (refused 5 r.place)
