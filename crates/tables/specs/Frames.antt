-- Frames of procedures: what a procedure's parameters stand for while its formula is walked. A frame has 20 words: a token of no formula
-- (specs/Leaves.antt) that a walk comes to at the end of the procedure's formula, what comes after the call, the call's token, which arguments
-- are no values, and a slot for each argument. src/frames.rt has the same numbers for the code. Assumes nothing.
use Rattle.std.specs.Prelude.{ℕ, ◌+◌, ◌*◌, get_or}
use Rattle.tables.specs.Layout.{Words, slot_words}

abbrev pub frames_at : ℕ
frames_at = 5781

abbrev pub frame_words : ℕ
frame_words = 20

-- the words before the arguments' slots
abbrev pub head_words : ℕ
head_words = 4

abbrev pub frame_slot : ℕ → ℕ
frame_slot K = frames_at + frame_words * K

-- parameter n of procedure K
abbrev pub argument_slot : ℕ → ℕ → ℕ
argument_slot K n = frame_slot K + head_words + slot_words * n

-- what comes after the call
abbrev pub back_at : Words → ℕ → ℕ
back_at w K = get_or w (frame_slot K + 1) 0

-- the call's token
abbrev pub call_at : Words → ℕ → ℕ
call_at w K = get_or w (frame_slot K + 2) 0

-- which arguments are no values
abbrev pub tags_at : Words → ℕ → ℕ
tags_at w K = get_or w (frame_slot K + 3) 0
