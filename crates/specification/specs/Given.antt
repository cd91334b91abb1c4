-- The line of given values: empty, or items `v0:7` or `a0.2:-1` with commas between, in strictly rising cell order. Assumes nothing.
use Rattle.std.specs.Prelude.{ℕ, zero, suc, List, [], ◌∷◌, leb, ℤ}
use Rattle.specification.specs.Bytes.{bytes, pick, feed, comma, colon, point}
use Rattle.specification.specs.Parser.{Parser, give, require, ◌>>=◌, ◌>>◌, here, sees, spells, mark, exactly, key}
use Rattle.specification.specs.Lines.{index, value, Declared, CellName, scalar, element, is_declared, cell_of, in_range}

-- a given cell and its value
pub record Item : Type 0 where
  pub cell : ℕ
  pub value : ℤ

unfoldable pub scalar_name : Parser CellName
scalar_name = do
  exactly 5 (bytes "v")
  n ← index
  give (scalar n)

unfoldable pub element_name : Parser CellName
element_name = do
  exactly 5 (bytes "a")
  a ← index
  mark point
  e ← index
  give (element a e)

-- a cell's name: begun by neither letter, it is 5
unfoldable pub name : Parser CellName
name = do
  v ← spells (bytes "v")
  pick v scalar_name element_name

module _ (D : Declared) where
  -- an item: 4 and 5 as read, then 7, then 10 where its cell is below the floor, then 13 where its value is none that the cell may have
  unfoldable pub item : ℕ → Parser Item
  item floor = do
    p ← here
    n ← name
    mark colon
    z ← value
    require (is_declared D n) 7 p
        (require (leb floor (cell_of D n)) 10 p
        (require (in_range D (cell_of D n) z) 13 p (give (record { cell = cell_of D n; value = z }))))

  -- items with commas between, where k more may follow. There are 512 cells at most, so an item after 512 others has no cell
  -- above theirs and is refused by itself
  unfoldable pub items : ℕ → ℕ → Parser (List Item)
  items zero floor = do
    i ← item floor
    give (i ∷ [])
  items (suc k) floor = do
    i ← item floor
    more ← sees comma
    is ← (let r = mark comma >> items k (suc i.cell) in pick more r (give []))
    give (i ∷ is)

  unfoldable pub given_line : Parser (List Item)
  given_line = do
    key (bytes "given=")
    none ← sees feed
    is ← pick none (give []) (items 512 0)
    mark feed
    give is
