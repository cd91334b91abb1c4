-- What a user sees of a run: the sheet that its bytes are read as, and the blocks that stand in the bytes written (document 01: "Listed is
-- what stands in the bytes written"). Assumes nothing.
use Rattle.std.specs.Prelude.{◌≡◌, List}
use Rattle.specification.specs.Bytes.{Bytes}
use Rattle.specification.specs.Parser.{Reader, found}
use Rattle.specification.specs.Sheet.{Sheet, read}
use Rattle.specification.specs.Listing.{Block, listing_text}

pub record Listed (sheet written : Bytes) : Type 0 where
  pub what : Sheet
  pub reader : Reader
  pub reads : read sheet ≡ found what reader
  pub blocks : List Block
  pub stands : written ≡ listing_text blocks
  -- no other blocks can stand there
  pub only : (bs : List Block) → written ≡ listing_text bs → bs ≡ blocks
