-- The user's three demands over the call `run`, sentence by sentence, from its contract (Answered) alone; and which numbers a refusal has
-- (`Reasoned`, of moves too). The theorems are in proofs/Demands.antt, those of moves in proofs/Moves.antt.
--
-- Three sentences of the first demand stand in no record, since the toolchain proves them of every function. "Every run ends": a function
-- is accepted only with a number that falls in each loop and at each recursive call. "Nothing outside the lent memory is read or written": a
-- function reaches no memory but its own locals and the slices it is lent, each index is proved to lie in its slice, and the sheet is
-- lent for reading only. "The call does its own checking": `run` has no `requires`. Assumes nothing.
use Rattle.std.specs.Prelude.{ℕ, ◌≤◌, ◌<◌, ◌≡◌, List, [], ◌∷◌, ◌++◌, length, take, drop, replicate, Result, Ok, Err}
use Rattle.specification.specs.declared.refusals.Refusal.{Refusal}
use Rattle.specification.specs.Refusals.{OfReason, refusal_with}
use Rattle.specification.specs.declared.Setting.{Setting}
use Rattle.specification.specs.declared.Tallies.{Tallies}
use Rattle.specification.specs.declared.End.{End}
use Rattle.specification.specs.declared.End.TheVariants.{Done}
use Rattle.specification.specs.Bytes.{Bytes}
use Rattle.specification.specs.Parser.{Reader, found}
use Rattle.specification.specs.Sheet.{Sheet, read}
use Rattle.specification.specs.Listing.{Block, listing_text}
use Rattle.specification.specs.Outcome.{refusal, call, Outcome, ended}
use Rattle.specification.specs.Report.{report_of}
use Rattle.specification.specs.Listed.{Listed}
use Rattle.specification.specs.Demand2.{ReadLeftToRight}
use Rattle.specification.specs.Demand3.{NoPattern, Right, Demand3}
use Rattle.specification.specs.InRanges.{InRanges}
use Rattle.vodlasim.specs.Lent.{Lent}

-- demand 1: lent memory is accounted for
pub record Memory (sheet : Bytes) (S : Setting) (work output : Lent) (r : Outcome) : Type 0 where
  -- when the call returns, the work words are zero
  pub zero : work.after ≡ replicate (length work.before) 0
  -- the output begins with whole blocks, and beyond them holds what it held before
  pub blocks :
      (end : End) (t : Tallies) (n : ℕ) → r ≡ Ok (ended end t n) →
      (n ≤ length output.before) × ((bs : List Block) × (take n output.after ≡ listing_text bs)) ×
      (drop n output.after ≡ drop n output.before)
  -- a sheet is refused with a number and a byte place exactly where document 01 refuses it with these
  pub refused :
      (number place : ℕ) →
      (call sheet S (length work.before) (length output.before) ≡ refusal number place → r ≡ Err (refusal_with number place)) ×
      (r ≡ Err (refusal_with number place) → call sheet S (length work.before) (length output.before) ≡ refusal number place)
  -- and the output is then untouched, all tallies and the bytes written are zero
  pub untouched :
      (number place : ℕ) → r ≡ Err (refusal_with number place) →
      (output.after ≡ output.before) × (report_of r ≡ number ∷ place ∷ 0 ∷ 0 ∷ 0 ∷ 0 ∷ 0 ∷ 0 ∷ [])

-- a refusal, of a run or of a move, has the number of a reason, so one from 1 to 17
pub record Reasoned {A : Type 0} (r : Result A Refusal) : Type 0 where
  pub refused : (e : Refusal) → r ≡ Err e → OfReason e.number

-- demand 2: the listing is the tree, read left to right; of every run, whatever was skipped and however it ended
pub record Lists (sheet : Bytes) (S : Setting) (output : Lent) (r : Outcome) : Type 0 where
  pub ran :
      (end : End) (t : Tallies) (n : ℕ) → r ≡ Ok (ended end t n) →
      (l : Listed sheet (take n output.after)) × ReadLeftToRight l.what S (length output.before) end t l.blocks

-- demand 3: a run that ends done with skip 0 agrees with the plain reading
pub record Agrees (sheet : Bytes) (S : Setting) (output' : Bytes) (r : Outcome) : Type 0 where
  pub done : (t : Tallies) (n : ℕ) → S.skip ≡ 0 → r ≡ Ok (ended Done t n) → Demand3 sheet (take n output')
  -- its tallies say the same at any skip: where there is no error, there is no answer exactly when there is no pattern
  pub none :
      (t : Tallies) (n : ℕ) → r ≡ Ok (ended Done t n) → t.errors ≡ 0 →
      (l : Listed sheet (take n output')) × (t.answers ≡ 0 → NoPattern l.what) × (NoPattern l.what → t.answers ≡ 0)
  -- and the answers of any run are right, whatever was skipped and however it ended
  pub right :
      (end : End) (t : Tallies) (n : ℕ) → r ≡ Ok (ended end t n) →
      (l : Listed sheet (take n output')) × Right l.what l.blocks

-- no block that a run listed, of an answer or of an error, names a value outside its cell's range, whatever was skipped and however it ended
pub record KeepsRanges (sheet output' : Bytes) (r : Outcome) : Type 0 where
  pub ran :
      (end : End) (t : Tallies) (n : ℕ) → r ≡ Ok (ended end t n) →
      (l : Listed sheet (take n output')) × InRanges l.what.declared l.blocks

-- a sheet that is cut short, as where a read fails, is refused and never runs as another pattern
pub record CutShort (sheet : Bytes) (r : Outcome) : Type 0 where
  pub refused :
      (missing : Bytes) (s : Sheet) (reader : Reader) → 0 < length missing → read (sheet ++ missing) ≡ found s reader →
      (number : ℕ) × (place : ℕ) × (r ≡ Err (refusal_with number place))
