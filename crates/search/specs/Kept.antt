-- What a step of the search keeps of the words: tokens, the arrays' first cells, procedures and ranges, the codes of tokens of no formula, and the
-- records below a word. Slots and the store (last values and frames) are said apart. Assumes nothing.
use Rattle.std.specs.Prelude.{ℕ, ◌+◌, ◌≤◌, ◌<◌, ◌≡◌, List, ◌⊎◌, length, get_or}
use Rattle.tables.specs.Layout.{Words, firsts_at, dues_at, path_at, max_procs}
use Rattle.tables.specs.Kept.{SameTokens}
use Rattle.tables.specs.Frames.{frames_at, frame_words, frame_slot, argument_slot, tags_at, back_at, call_at}
use Rattle.tables.specs.Leaves.{end_place, error_place}
use Rattle.tables.specs.Layout.{lasts_at, last_at}
use Rattle.terms.specs.Environment.{flag_of}

pub record Kept (top : ℕ) (w w' : Words) : Type 0 where
  pub tokens : SameTokens w w'
  pub firsts : (j : ℕ) → firsts_at ≤ j → j < dues_at → get_or w' j 0 ≡ get_or w j 0
  pub returns : (K : ℕ) → K < max_procs → get_or w' (frame_slot K) 0 ≡ get_or w (frame_slot K) 0
  pub leaves : (j : ℕ) → end_place ≤ j → j ≤ error_place → get_or w' j 0 ≡ get_or w j 0
  pub records : (j : ℕ) → path_at ≤ j → j < top → get_or w' j 0 ≡ get_or w j 0
  pub size : length w' ≡ length w

-- frames and last values
pub record SameStore (w w' : Words) : Type 0 where
  pub same : (j : ℕ) → frames_at ≤ j → j < end_place → get_or w' j 0 ≡ get_or w j 0

-- the words xs go to where the records end
pub record Pushes (w w' : Words) (top : ℕ) (xs : List ℕ) : Type 0 where
  pub low : (j : ℕ) → j < top → get_or w' j 0 ≡ get_or w j 0
  pub words : (k : ℕ) → k < length xs → get_or w' (top + k) 0 ≡ get_or xs k 0
  pub size : length w' ≡ length w

-- the frame of procedure K, but its first word, is what the words from a on hold of it, with n arguments
pub record FrameBack (w w' : Words) (K n a : ℕ) : Type 0 where
  pub others : (j : ℕ) → (j ≤ frame_slot K) ⊎ (frame_slot K + frame_words ≤ j) → get_or w' j 0 ≡ get_or w j 0
  pub tags : tags_at w' K ≡ get_or w (a + n) 0
  pub back : back_at w' K ≡ get_or w (a + n + 1) 0
  pub token : call_at w' K ≡ get_or w (a + n + 2) 0
  pub words : (j : ℕ) → j < n → get_or w' (argument_slot K j + 1) 0 ≡ get_or w (a + j) 0
  pub flags : (j : ℕ) → j < n → get_or w' (argument_slot K j) 0 ≡ flag_of (get_or w (a + n) 0) j
  pub size : length w' ≡ length w

-- a call of procedure K with n arguments has a record from the word `top` on: what the procedure's frame held, and the call's token
pub record FrameSaved (w w' : Words) (top K n t : ℕ) : Type 0 where
  pub words : (j : ℕ) → j < n → get_or w' (top + j) 0 ≡ get_or w (argument_slot K j + 1) 0
  pub tags : get_or w' (top + n) 0 ≡ tags_at w K
  pub back : get_or w' (top + n + 1) 0 ≡ back_at w K
  pub token : get_or w' (top + n + 2) 0 ≡ call_at w K
  pub own : get_or w' (top + n + 3) 0 ≡ t

-- below the word `top` only the frame of K may be another, but its first word, and the words in which terms are worked out
pub record FrameSet (w w' : Words) (top K : ℕ) : Type 0 where
  pub others : (j : ℕ) → j < top → (j < dues_at) ⊎ (frames_at ≤ j) → (j ≤ frame_slot K) ⊎ (frame_slot K + frame_words ≤ j) → get_or w' j 0 ≡ get_or w j 0
  pub size : length w' ≡ length w

-- the last value of the local l's `all`
pub record Lasts (w w' : Words) (l h : ℕ) : Type 0 where
  pub others : (j : ℕ) → ¬ (j ≡ lasts_at + l) → get_or w' j 0 ≡ get_or w j 0
  pub now : last_at w' l ≡ h
  pub size : length w' ≡ length w
