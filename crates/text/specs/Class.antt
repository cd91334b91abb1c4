-- The class at a place of the sheet, and the test of each kind of run. The classes are the specification's. Assumes nothing.
use Rattle.std.specs.Prelude.{ℕ, Bool, ◌||◌, [], ◌∷◌, drop, Option, Some, None}
use Rattle.specification.specs.Bytes.{Bytes, class_of, class_number, is_in, in_number, in_token}
use Rattle.specification.specs.Bytes.{letter, digit, space, feed, minus, equals, comma, colon, point, other}
use Rattle.specification.specs.Bytes as named
use Rattle.text.specs.declared.Class.{Class}
use Rattle.text.specs.declared.Class.TheVariants as code
use Rattle.text.specs.declared.Run.{Run}
use Rattle.text.specs.declared.Run.TheVariants as kind

-- the specification's class of the same name
abbrev pub specified : Class → named.Class
specified code.Letter = letter
specified code.Digit = digit
specified code.Space = space
specified code.Feed = feed
specified code.Minus = minus
specified code.Equals = equals
specified code.Comma = comma
specified code.Colon = colon
specified code.Point = point
specified code.Other = other

-- the class number of a class at a place, 10 where there is none
abbrev pub number_at : Option Class → ℕ
number_at (Some c) = class_number (specified c)
number_at None = 10

-- the class number of the first byte, 10 where there is none
abbrev pub head_class : Bytes → ℕ
head_class [] = 10
head_class (b ∷ bs) = class_number (class_of b)

-- the class number of the byte at a place, 10 at the sheet's end and beyond
unfoldable pub class_at : Bytes → ℕ → ℕ
class_at s at = head_class (drop at s)

-- the bytes of words and keys: letters, digits and minus signs
unfoldable pub in_word : ℕ → Bool
in_word b = is_in letter b || in_number b

-- the bytes of a run of a kind
abbrev pub passing : Run → ℕ → Bool
passing kind.Number = in_number
passing kind.Token = in_token
passing kind.Word = in_word
