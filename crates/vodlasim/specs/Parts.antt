-- A long listing in several plots (document 02, Five): the law of parts, progress, and the skip of the next part, over what a box gives for a
-- call and the bytes that it wrote. The theorems, over the call and every sheet of whatever bytes, are in proofs/Parts.antt. Assumes nothing.
use Rattle.std.specs.Prelude.{ℕ, ◌+◌, ◌≤◌, ◌<◌, ◌≡◌, List, [], ◌∷◌, ◌++◌, length, take, Ok}
use Rattle.specification.specs.declared.Setting.{Setting}
use Rattle.specification.specs.declared.Tallies.{Tallies}
use Rattle.specification.specs.declared.End.{End}
use Rattle.specification.specs.declared.End.TheVariants.{Output}
use Rattle.specification.specs.Lists.{Each}
use Rattle.specification.specs.Bytes.{Bytes}
use Rattle.specification.specs.Parser.{Reader, found}
use Rattle.specification.specs.Sheet.{Sheet, read}
use Rattle.specification.specs.Listing.{Block, block_text, listing_text}
use Rattle.specification.specs.Leaves.{leaves, blocks}
use Rattle.specification.specs.Run.{setting}
use Rattle.specification.specs.Outcome.{Result, refusal, ran, root_of, words_for, ended}
use Rattle.specification.specs.Demand2.{past}
use Rattle.vodlasim.specs.Lent.{Lent}
use Rattle.vodlasim.specs.Answered.{Answered}

-- what a box gives for a sheet's bytes, a setting, and the lengths of the lent work words and output; ours is `call`
abbrev pub Box : Type 0
Box = Bytes → Setting → ℕ → ℕ → Result

-- ---- a plot: one run of a sheet

-- its skip and the lengths of the lent memory; the way it ended, its tallies and the blocks that it wrote
pub record Plot : Type 0 where
  pub skip : ℕ
  pub words : ℕ
  pub size : ℕ
  pub end : End
  pub tallies : Tallies
  pub blocks : List Block

-- the bytes that it wrote
abbrev pub bytes_of : Plot → Bytes
bytes_of p = listing_text p.blocks

-- those of several, joined
unfoldable pub joined : List Plot → Plot → Bytes
joined [] last = bytes_of last
joined (p ∷ ps) last = bytes_of p ++ joined ps last

-- the block that is due after so many: the next one of the sheet's tree
abbrev pub Due : Sheet → ℕ → Block → Type 0
Due s skip b = (later : List Block) × (past skip (blocks s.declared 0 0 (leaves (root_of s))) ≡ b ∷ later)

-- parts: plots of a kind, of which the first has this skip, and each later one skips besides what those before it wrote; each but the last ended
-- `output` after at least one block, and the last ended otherwise
module _ (Kind : Plot → Type 0) where
  unfoldable pub InParts : ℕ → List Plot → Plot → Type 0
  InParts skip [] last = (last.skip ≡ skip) × Kind last × (¬ (last.end ≡ Output))
  InParts skip (p ∷ ps) last =
      (p.skip ≡ skip) × Kind p × (p.end ≡ Output) × (0 < length p.blocks) × InParts (skip + length p.blocks) ps last

-- ---- of one box and one sheet, with one path limit and budget

module _ (box : Box) (sheet : Bytes) (limit budget : ℕ) where
  -- the box gives this plot
  abbrev pub Plotted : Plot → Type 0
  Plotted p = box sheet (setting limit budget p.skip) p.words p.size ≡ ran p.end p.tallies (bytes_of p)

  -- the law of parts: joined, they are the bytes of one run with skip 0 and any output at least that long, and it ends as the last one did
  abbrev pub LawOfParts : Type 0
  LawOfParts =
      (ps : List Plot) (last : Plot) → InParts Plotted 0 ps last →
      (words size : ℕ) → words_for limit ≤ words → length (joined ps last) ≤ size →
      box sheet (setting limit budget 0) words size ≡ ran last.end last.tallies (joined ps last)

  -- with less output it ends `output`, after a beginning of them
  abbrev pub LessIsCut : Type 0
  LessIsCut =
      (ps : List Plot) (last : Plot) → InParts Plotted 0 ps last →
      (words size : ℕ) → words_for limit ≤ words → size < length (joined ps last) →
      (t : Tallies) × (w more : Bytes) × (box sheet (setting limit budget 0) words size ≡ ran Output t w) × (joined ps last ≡ w ++ more)

  -- progress: a plot that ended `output` had a block due, and wrote it if it had room for it
  abbrev pub Progress : Type 0
  Progress =
      (s : Sheet) (r : Reader) → read sheet ≡ found s r → (p : Plot) → Plotted p → p.end ≡ Output →
      (b : Block) × Due s p.skip b × (length (block_text b) ≤ p.size → (more : List Block) × (p.blocks ≡ b ∷ more))

  -- so whoever goes on, lending at each number of blocks plotted an output with room for the block that is due then, comes to a last part
  abbrev pub Finishes : Type 0
  Finishes =
      (words : ℕ) (size : ℕ → ℕ) →
      ((s : Sheet) (r : Reader) → read sheet ≡ found s r → (skip : ℕ) (b : Block) → Due s skip b → length (block_text b) ≤ size skip) →
      (end : End) (t : Tallies) (w : Bytes) → box sheet (setting limit budget 0) words (size 0) ≡ ran end t w →
      (ps : List Plot) × (last : Plot) × InParts Plotted 0 ps last × Each (λ p. (p.words ≡ words) × (p.size ≡ size p.skip)) (ps ++ last ∷ [])

  -- the next part's skip is in the tallies of the last one; it is no more than the budget, so a setting can have it
  abbrev pub NextSkip : Type 0
  NextSkip =
      (p : Plot) → Plotted p → 0 < length p.blocks →
      (p.tallies.answers + p.tallies.errors ≡ p.skip + length p.blocks) × (p.skip + length p.blocks ≤ budget)

  -- a sheet that is refused is refused in every run, with the same number and place
  abbrev pub RefusedAlike : Type 0
  RefusedAlike =
      (skip skip' words words' size size' number place : ℕ) → words_for limit ≤ words → words_for limit ≤ words' →
      box sheet (setting limit budget skip) words size ≡ refusal number place →
      box sheet (setting limit budget skip') words' size' ≡ refusal number place

-- ---- of the public call

-- it shows this plot: by its result, and by what stands at the beginning of its output
abbrev pub Shown : Bytes → ℕ → ℕ → Plot → Type 0
Shown sheet limit budget p =
    (work output : Lent) × (p.words ≡ length work.before) × (p.size ≡ length output.before) ×
    Answered sheet (setting limit budget p.skip) work output (Ok (ended p.end p.tallies (length (bytes_of p)))) ×
    (take (length (bytes_of p)) output.after ≡ bytes_of p)
