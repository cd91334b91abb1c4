-- What comes of a leaf with a block, in the words of what is due: none where it is skipped. Assumes nothing.
use Prim.Native.Nat.{◌+◌}
use mathlib.Core.Path.{◌≡◌, refl}
use mathlib.Core.Bool.{Bool, true, false}
use mathlib.Core.List.{◌++◌}
use mathlib.Core.Option.{Option, none, some}
use lib.ListN.{length}
use lib.Dec.{leb}
use Rattle.specification.specs.declared.Tallies.{Tallies}
use Rattle.specification.specs.Bytes.{Bytes, pick}
use Rattle.specification.specs.Listing.{Block, block_text}
use Rattle.specification.specs.Run.{Conditions, output, Run, going, stopped}

-- none where it is skipped
abbrev pub unless : Bool → Block → Option Block
unless true b = none
unless false b = some b

module _ (C : Conditions) where
  -- after a visit within budget and path limit: a block that is due is written, or finds no room
  abbrev pub settled : Tallies → Tallies → Bytes → Option Block → Run
  settled t t' w none = going t' w
  settled t t' w (some b) = pick (leb (length w + length (block_text b)) C.size) (going t' (w ++ block_text b)) (stopped output t w)

  pub settles : (c : Bool) (t t' : Tallies) (w : Bytes) (b : Block) →
      pick c (going t' w) (pick (leb (length w + length (block_text b)) C.size) (going t' (w ++ block_text b)) (stopped output t w)) ≡
      settled t t' w (unless c b)
  settles true t t' w b = refl
  settles false t t' w b = refl
