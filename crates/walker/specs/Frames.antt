-- The contracts of src/calls.rt: the frame of a procedure that goes into a call's record, and that comes back from it. Assumes nothing.
use Rattle.std.specs.Prelude.{ℕ, ◌+◌, ◌-◌, ◌≤◌, ◌<◌, ◌≡◌, length, get_or}
use Rattle.tables.specs.Layout.{max_procs, max_parameters, path_at}
use Rattle.tables.specs.Codes.{procedure_code}
use Rattle.tables.specs.Frames.{argument_slot, tags_at}
use Rattle.sheet.specs.Tables.{Words}
use Rattle.terms.specs.Environment.{flag_of}
use Rattle.search.specs.declared.Go.{Go}
use Rattle.search.specs.Kept.{FrameBack, FrameSaved}
use Rattle.search.specs.Records.{at}
use Rattle.search.specs.Registers.{drop_go}

-- ---- words that are written one after the other

-- the words at the first n places are these, and no others changed
pub record Filled (w w' : Words) (place x : ℕ → ℕ) (n : ℕ) : Type 0 where
  pub words : (j : ℕ) → j < n → get_or w' (place j) 0 ≡ x j
  pub others : (k : ℕ) → ((j : ℕ) → j < n → ¬ (k ≡ place j)) → get_or w' k 0 ≡ get_or w k 0
  pub size : length w' ≡ length w

-- from the word `top` on: the second words of the slots of n arguments of procedure K
abbrev pub Copied : Words → Words → ℕ → ℕ → ℕ → Type 0
Copied w w' top K n = Filled w w' (λ j. top + j) (λ j. get_or w (argument_slot K j + 1) 0) n

-- the first words of those slots, by the set of those that are no values
abbrev pub Flagged : Words → Words → ℕ → ℕ → ℕ → Type 0
Flagged w w' K set n = Filled w w' (λ j. argument_slot K j) (λ j. flag_of set j) n

-- their second words, by the words from `from` on
abbrev pub Refilled : Words → Words → ℕ → ℕ → ℕ → Type 0
Refilled w w' K from n = Filled w w' (λ j. argument_slot K j + 1) (λ j. get_or w (from + j) 0) n

-- the slots of n arguments of procedure K
pub record Slots (w : Words) (K n : ℕ) : Type 0 where
  pub procedure : K < max_procs
  pub few : n ≤ max_parameters
  pub size : path_at ≤ length w

-- and words for them, from the word `from` on
pub record Refills (w : Words) (K n from : ℕ) : Type 0 where
  pub slots : Slots w K n
  pub low : path_at ≤ from
  pub inside : from + n ≤ length w

-- their first words are those of the set that the frame has
pub record Reflags (w : Words) (K n : ℕ) : Type 0 where
  pub slots : Slots w K n
  pub flags : (j : ℕ) → j < n → get_or w (argument_slot K j) 0 ≡ flag_of (tags_at w K) j

-- and there is a record of the procedure's frame from the word `from` on
pub record Restores (w : Words) (K n from : ℕ) : Type 0 where
  pub reflags : Reflags w K n
  pub low : path_at ≤ from
  pub inside : from + n + 3 ≤ length w

-- ---- calls

-- there is room for the record of a call of procedure K with n arguments
pub record Saves (w : Words) (top K n : ℕ) : Type 0 where
  pub procedure : K < max_procs
  pub few : n ≤ max_parameters
  pub low : path_at ≤ top
  pub room : top + 12 ≤ length w

-- the record is there, and ends at the word r
pub record Saved (w w' : Words) (top K n t r : ℕ) : Type 0 where
  pub saved : FrameSaved w w' top K n t
  pub end : r ≡ top + n + 4
  pub below : (j : ℕ) → j < top → get_or w' j 0 ≡ get_or w j 0
  pub size : length w' ≡ length w

-- the token t, and what comes after it, stand before the path
pub record Returns (w : Words) (t : ℕ) : Type 0 where
  pub token : t + 3 < path_at
  pub next : at w (t + 3) + 1 < path_at
  pub size : path_at ≤ length w

-- the procedure's number and how many arguments it has, of the call whose record is the topmost
abbrev pub top_number : Words → Go → ℕ
top_number w g = at w (at w (g.top - 1) + 5)

abbrev pub top_width : Words → Go → ℕ
top_width w g = at w (at w (g.top - 1) + 4) - procedure_code

-- the frame is as it was
pub record Left (w w' : Words) (g q : Go) : Type 0 where
  pub back : FrameBack w w' (top_number w g) (top_width w g) (g.top - 4 - top_width w g)
  pub regs : q ≡ drop_go g (g.top - 4 - top_width w g) g.inner
