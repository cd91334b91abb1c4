-- What moving the catalogue promises (document 02, Eight and Nine), over what a move or the pass gives for a sheet's bytes, so many work words and
-- so many output bytes. The theorems, of `move_up`, `move_down` and `tidy` and every sheet of whatever bytes, are in proofs/Laws/Moves.antt; moves
-- of which the promises are false are in proofs/Cases/WrongMoves.antt. Assumes nothing.
use Rattle.std.specs.Prelude.{ℕ, ◌≤◌, ◌≡◌, Bool, true, false, ◌⊎◌, [], ◌∷◌, length, eqb}
use Rattle.specification.specs.declared.Setting.{Setting}
use Rattle.specification.specs.declared.End.TheVariants.{Output}
use Rattle.specification.specs.Bytes.{Bytes, bytes, pick, between, begins}
use Rattle.specification.specs.Parser.{Reader, found}
use Rattle.specification.specs.Sheet.{Sheet, read_with, read}
use Rattle.specification.specs.Outcome as outcome
use Rattle.specification.specs.Outcome.{call_with, call}
use Rattle.specification.specs.Tidy.{has_empty_range}
use Rattle.specification.specs.Moves.{Result, refusal, moved, longest_sheet, words_to_move, move_down, tidy}

abbrev pub Way : Type 0
Way = Bytes → ℕ → ℕ → Result

-- as much lent memory as a move asks for
abbrev pub Enough : ℕ → ℕ → Type 0
Enough words size = (words_to_move ≤ words) × (longest_sheet ≤ size)

-- ---- what is written

-- one is accepted as a sheet of this edition, and the other as the same sheet carried over
pub record Carries (strict : Bool) (edition : ℕ) (over : Sheet → Sheet) (sheet t : Bytes) : Type 0 where
  pub what : Sheet
  pub reader : Reader
  pub reader' : Reader
  pub from : read_with strict sheet ≡ found what reader
  pub written : what.declared.edition ≡ edition
  pub to : read t ≡ found (over what) reader'

-- what is written for a sheet of this edition is that sheet carried over, and neither passes the longest
abbrev pub Moves : Bool → ℕ → (Sheet → Sheet) → Way → Type 0
Moves strict edition over way =
    (sheet t : Bytes) (words size : ℕ) → way sheet words size ≡ moved t →
    Carries strict edition over sheet t × (length sheet ≤ longest_sheet) × (length t ≤ longest_sheet)

-- what is written is run: no call refuses it but for want of work words, so none with 17
abbrev pub Accepted : Way → Type 0
Accepted way =
    (sheet t : Bytes) (words size : ℕ) → way sheet words size ≡ moved t →
    (S : Setting) (words' size' n p : ℕ) → call t S words' size' ≡ outcome.refusal n p → n ≡ 1

-- the pass refuses what the way back refuses, with the same number and place, but for 17, and for 15 and 16, which are of the way back only
abbrev pub RefusesAsBack : Type 0
RefusesAsBack =
    (sheet : Bytes) (words size n p : ℕ) →
    (tidy sheet words size ≡ refusal n p →
    (move_down sheet words size ≡ refusal n p) ⊎ ((q : ℕ) × (move_down sheet words size ≡ refusal 17 q))) ×
    (move_down sheet words size ≡ refusal n p → (between 15 17 n ≡ true) ⊎ (tidy sheet words size ≡ refusal n p))

-- a pass over what is written changes nothing
abbrev pub Settles : Way → Type 0
Settles way =
    (sheet t : Bytes) (words size : ℕ) → way sheet words size ≡ moved t →
    (words' size' : ℕ) → Enough words' size' → tidy t words' size' ≡ moved t

-- ---- sheets without empty ranges

-- however it is read
abbrev pub Orderly : Bytes → Type 0
Orderly sheet = (s : Sheet) (r : Reader) → read_with false sheet ≡ found s r → has_empty_range s ≡ false

-- both ways give the same for such a sheet
abbrev pub SameWhereOrderly : Way → Way → Type 0
SameWhereOrderly way way' = (sheet : Bytes) → Orderly sheet → (words size : ℕ) → way sheet words size ≡ way' sheet words size

-- ---- there and back

-- a sheet of this sort that went there comes back as the same bytes, whatever else was lent
abbrev pub ThereAndBack : (Bytes → Type 0) → Way → Way → Type 0
ThereAndBack Sort there back =
    (sheet t : Bytes) → Sort sheet → (words size : ℕ) → there sheet words size ≡ moved t →
    (words' size' : ℕ) → Enough words' size' → back t words' size' ≡ moved sheet

-- ---- runs before and after

-- both sheets list alike: a run gives the same for every setting, number of work words and output size
abbrev pub ListsAlike : (Bytes → Type 0) → Way → Type 0
ListsAlike Sort way =
    (sheet t : Bytes) → Sort sheet → (words size : ℕ) → way sheet words size ≡ moved t →
    (S : Setting) (words' size' : ℕ) → call t S words' size' ≡ call sheet S words' size'

-- at the beginning of a line, in a line that is kept, in one that is not
pub data Reach : Type 0 where
  fresh kept passed : Reach

-- a listing without its `at=` lines
unfoldable pub without_at : Reach → Bytes → Bytes
without_at r [] = []
without_at fresh (b ∷ bs) =
    let line = b ∷ without_at (pick (eqb b 10) fresh kept) bs in
    let other = without_at passed bs in
    pick (begins (bytes "at=") (b ∷ bs)) other line
without_at kept (b ∷ bs) = b ∷ without_at (pick (eqb b 10) fresh kept) bs
without_at passed (b ∷ bs) = without_at (pick (eqb b 10) fresh passed) bs

-- the same refusal; or the same end, the same four tallies, and but for `at=` lines the same listing
abbrev pub RunsAlike : outcome.Result → outcome.Result → Type 0
RunsAlike (outcome.refusal n p) (outcome.refusal m q) = (n ≡ m) × (p ≡ q)
RunsAlike (outcome.refusal n p) (outcome.ran e t w) = ⊥
RunsAlike (outcome.ran e t w) (outcome.refusal n p) = ⊥
RunsAlike (outcome.ran e t w) (outcome.ran e' t' w') = (e ≡ e') × (t ≡ t') × (without_at fresh w ≡ without_at fresh w')

-- the output was enough
abbrev pub HadRoom : outcome.Result → Type 0
HadRoom (outcome.refusal n p) = Unit {0}
HadRoom (outcome.ran e t w) = ¬ (e ≡ Output)

-- given output enough for both, the sheet ran before empty ranges were refused as what is written runs now
abbrev pub RunsAsBefore : Way → Type 0
RunsAsBefore way =
    (sheet t : Bytes) (words size : ℕ) → way sheet words size ≡ moved t →
    (S : Setting) (words' size' : ℕ) → HadRoom (call_with false sheet S words' size') → HadRoom (call t S words' size') →
    RunsAlike (call_with false sheet S words' size') (call t S words' size')
