-- The lines with one number, the line of arrays and that of ranges: what a sheet declares. In the lines before the procedures a number is
-- the longest run of digits and minus signs. Assumes nothing.
use Rattle.std.specs.Prelude.{ℕ, zero, suc, ◌+◌, ◌-◌, Bool, ◌&&◌, List, [], ◌∷◌, take, get_or, ltb, ℤ}
use Rattle.std.specs.Int.Signed.{le_z}
use Rattle.specification.specs.Bytes.{Bytes, bytes, pick, between, feed, comma, colon, in_number}
use Rattle.specification.specs.Number.{natural, integer, least, greatest, within, in32}
use Rattle.specification.specs.Parser.{Parser, give, refuse, require, present, ◌>>=◌, ◌>>◌, here, sees, mark, taken, key}
use Rattle.specification.specs.Ast.{truth, Procedure}

-- ---- numbers

-- a number without a minus, however large
unfoldable pub index : Parser ℕ
index = do
  p ← here
  bs ← taken in_number
  present 4 p (natural bs)

-- a number within its limits
unfoldable pub count : ℕ → ℕ → Parser ℕ
count lo hi = do
  p ← here
  n ← index
  require (between lo hi n) 4 p (give n)

-- a value in 32 bits
unfoldable pub value : Parser ℤ
value = do
  p ← here
  bs ← taken in_number
  z ← present 4 p (integer bs)
  require (in32 z) 4 p (give z)

-- ---- a line with one number

unfoldable pub line : Bytes → ℕ → ℕ → Parser ℕ
line k lo hi = do
  key k
  n ← count lo hi
  mark feed
  give n

-- ---- what is declared

-- the lowest and the highest value
pub record Range : Type 0 where
  pub low : ℤ
  pub high : ℤ

-- where a formula stands: the sheet's edition, how many scalars and locals there are, the length of each array, and the range of each scalar
-- and then of each array, none before edition 3; the procedures of the lines before, and how many parameters the line has, 0 for the sheet's
-- formula
pub record Declared : Type 0 where
  pub edition : ℕ
  pub scalars : ℕ
  pub locals : ℕ
  pub arrays : List ℕ
  pub ranges : List Range
  pub procedures : List Procedure
  pub parameters : ℕ

-- ---- arrays

-- lengths with commas between, where k more arrays may follow and so many cells are left
unfoldable pub lengths : ℕ → ℕ → Parser (List ℕ)
lengths zero left = here >>= refuse 4
lengths (suc k) left = do
  n ← count 1 left
  more ← sees comma
  ns ← (let r = mark comma >> lengths k (left - n) in pick more r (give []))
  give (n ∷ ns)

-- empty, or up to 16 lengths; scalars and elements together are at most 512
unfoldable pub arrays_line : ℕ → Parser (List ℕ)
arrays_line scalars = do
  key (bytes "arrays=")
  none ← sees feed
  ns ← pick none (give []) (lengths 16 (512 - scalars))
  mark feed
  give ns

-- ---- ranges

-- `lo:hi`; lo above hi is 14 at lo
unfoldable pub range : Parser Range
range = do
  p ← here
  lo ← value
  mark colon
  hi ← value
  require (le_z lo hi) 14 p (give (record { low = lo; high = hi }))

-- k of them, the first after `lead` and each other after a comma
unfoldable pub ranges : Parser (Unit {0}) → ℕ → Parser (List Range)
ranges lead zero = give []
ranges lead (suc k) = do
  lead
  r ← range
  rs ← ranges (mark comma) k
  give (r ∷ rs)

-- the first edition with ranges
abbrev pub first_ranged : ℕ
first_ranged = 3

-- from it on, a line with k ranges
unfoldable pub ranges_line : ℕ → ℕ → Parser (List Range)
ranges_line edition k = pick (ltb edition first_ranged) (give []) (do
  key (bytes "ranges=")
  rs ← ranges (give tt) k
  mark feed
  give rs)

-- a value of 32 bits that lies in the range
unfoldable pub contains : Range → ℤ → Bool
contains r z = in32 z && within r.low r.high z

-- all of 32 bits
abbrev pub everything : Range
everything = record { low = least; high = greatest }

-- ---- cells: the scalars, then the elements of the arrays in order

unfoldable pub sum : List ℕ → ℕ
sum [] = 0
sum (n ∷ ns) = n + sum ns

-- which of the arrays of these lengths the i-th of their elements is in
unfoldable pub array_of : List ℕ → ℕ → ℕ
array_of [] i = 0
array_of (n ∷ ns) i = let a = suc (array_of ns (i - n)) in pick (ltb i n) 0 a

-- `v0` or `a0.2`
pub data CellName : Type 0 where
  scalar : ℕ → CellName
  element : ℕ → ℕ → CellName

module _ (D : Declared) where
  unfoldable pub cells : ℕ
  cells = D.scalars + sum D.arrays

  -- the first cell of an array
  unfoldable pub first_of : ℕ → ℕ
  first_of a = D.scalars + sum (take a D.arrays)

  -- 0 where the array is not declared
  unfoldable pub length_of : ℕ → ℕ
  length_of a = get_or D.arrays a 0

  unfoldable pub is_declared : CellName → Bool
  is_declared (scalar n) = ltb n D.scalars
  is_declared (element a e) = ltb e (length_of a)

  -- the number of a cell by its name
  unfoldable pub cell_of : CellName → ℕ
  cell_of (scalar n) = n
  cell_of (element a e) = first_of a + e

  -- the number of a cell's range: the scalar's, or that of the element's array after the scalars
  unfoldable pub range_number : ℕ → ℕ
  range_number c = pick (ltb c D.scalars) c (D.scalars + array_of D.arrays (c - D.scalars))

  -- all of 32 bits where the sheet has no line of ranges
  unfoldable pub range_of : ℕ → Range
  range_of c = get_or D.ranges (range_number c) everything

  -- the values that a cell may have
  unfoldable pub in_range : ℕ → ℤ → Bool
  in_range c z = contains (range_of c) z

-- ---- procedures

-- the one with this number, where there is one
abbrev pub procedure_of : Declared → ℕ → Procedure
procedure_of D K = get_or D.procedures K (record { parameters = 0; formula = truth })
