-- Tokens of no formula, that a walk comes to like those of formulas: the end of a list of formulas, leaves of the tree, and the way back up. They
-- stand in spare words, the end of a procedure's formula in its frame. src/leaves.rt has the same numbers for the code. Assumes nothing.
use Rattle.std.specs.Prelude.{ℕ, ◌+◌, ◌<◌, ◌≡◌, get_or, set}
use Rattle.tables.specs.Layout.{Words, max_procs}
use Rattle.tables.specs.Frames.{frame_slot}

-- ---- places

abbrev pub end_place : ℕ
end_place = 6133

abbrev pub rise_place : ℕ
rise_place = 6134

abbrev pub failure_place : ℕ
failure_place = 6135

abbrev pub success_place : ℕ
success_place = 6136

abbrev pub error_place : ℕ
error_place = 6137

-- the word after the last
abbrev pub leaves_end : ℕ
leaves_end = 6140

-- ---- codes

abbrev pub empty_code : ℕ
empty_code = 0

abbrev pub success_code : ℕ
success_code = 16

abbrev pub failure_code : ℕ
failure_code = 17

abbrev pub error_code : ℕ
error_code = 18

abbrev pub return_code : ℕ
return_code = 19

abbrev pub rise_code : ℕ
rise_code = 20

-- ---- the kind and the token of the error leaf that is due

abbrev pub kind_at : Words → ℕ
kind_at w = get_or w (error_place + 1) 0

abbrev pub token_at : Words → ℕ
token_at w = get_or w (error_place + 2) 0

-- ---- the codes are there

-- written, but those of procedures' ends
abbrev pub coded : Words → Words
coded w = set (set (set (set (set w end_place empty_code) rise_place rise_code) failure_place failure_code) success_place success_code) error_place error_code

-- of the ends of the first n procedures
abbrev pub Returns : ℕ → Words → Type 0
Returns n w = (K : ℕ) → K < n → get_or w (frame_slot K) 0 ≡ return_code

pub record Leaves (w : Words) : Type 0 where
  pub end : get_or w end_place 0 ≡ empty_code
  pub failure : get_or w failure_place 0 ≡ failure_code
  pub success : get_or w success_place 0 ≡ success_code
  pub error : get_or w error_place 0 ≡ error_code
  pub rise : get_or w rise_place 0 ≡ rise_code
  pub returns : Returns max_procs w
