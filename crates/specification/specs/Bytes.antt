-- Bytes, and the class of a byte (document 01, "The sheet"). A byte is a natural number below 256; a sheet and a listing are
-- lists of bytes. Reading depends on a byte only through its class, and through its own value where a word or digit is matched.
-- Assumes nothing.
use Rattle.std.specs.Prelude.{ℕ, Bool, true, false, not, ◌&&◌, ◌||◌, List, [], ◌∷◌, leb, eqb}
use Prim.Native.String.{String}
use Prim.Native.Char.{code as char_code}

abbrev pub Bytes : Type 0
Bytes = List ℕ

-- the bytes of a text, so that keys, words and whole sheets are written as they stand
abbrev pub bytes : String → Bytes
bytes String.[] = []
bytes (String.◌∷◌ c s) = char_code c ∷ bytes s

-- the first where the test holds, else the second
abbrev pub pick {ℓ} : {A : Type ℓ} → Bool → A → A → A
pick true a b = a
pick false a b = b

-- from the first to the second, both included
abbrev pub between : ℕ → ℕ → ℕ → Bool
between lo hi n = leb lo n && leb n hi

-- ---- classes

pub data Class : Type 0 where
  letter digit space feed minus equals comma colon point other : Class

-- the class of a byte, by ranges of byte values
unfoldable pub class_of : ℕ → Class
class_of b =
    pick (between 97 122 b) letter
    (pick (between 48 57 b) digit
    (pick (eqb b 32) space
    (pick (eqb b 10) feed
    (pick (eqb b 45) minus
    (pick (eqb b 61) equals
    (pick (eqb b 44) comma
    (pick (eqb b 58) colon
    (pick (eqb b 46) point other))))))))

-- a number for each class, the one that the box has for it
unfoldable pub class_number : Class → ℕ
class_number other = 0
class_number letter = 1
class_number digit = 2
class_number space = 3
class_number feed = 4
class_number minus = 5
class_number equals = 6
class_number comma = 7
class_number colon = 8
class_number point = 9

-- whether a byte is of a class
unfoldable pub is_in : Class → ℕ → Bool
is_in c b = eqb (class_number c) (class_number (class_of b))

-- digits and minus signs make a number
unfoldable pub in_number : ℕ → Bool
in_number b = is_in digit b || is_in minus b

-- a token ends at a space, a line feed or the sheet's end
unfoldable pub in_token : ℕ → Bool
in_token b = not (is_in space b || is_in feed b)

-- ---- lists of bytes

-- the longest run from the start of bytes that pass the test
unfoldable pub run : (ℕ → Bool) → Bytes → Bytes
run f [] = []
run f (b ∷ bs) = let r = b ∷ run f bs in pick (f b) r []

-- the two are the same bytes
unfoldable pub same : Bytes → Bytes → Bool
same [] [] = true
same [] (y ∷ ys) = false
same (x ∷ xs) [] = false
same (x ∷ xs) (y ∷ ys) = eqb x y && same xs ys

-- the second begins with the first
unfoldable pub begins : Bytes → Bytes → Bool
begins [] s = true
begins (k ∷ ks) [] = false
begins (k ∷ ks) (b ∷ bs) = eqb k b && begins ks bs
