-- The words of ranges, and the mark of a place: the second word of its slot while it has no value. 0 is that of a cell that may have all values
-- of 32 bits; up to max_ranges it is one more than the number of the cell's range; above it is the mark of a local, which tells where it was
-- bound (the walker's specs/Site.antt). Assumes nothing.
use Rattle.std.specs.Prelude.{ℕ, suc, ◌+◌, ◌-◌, ◌*◌, Bool, ◌&&◌, ◌||◌, leb, eqb, get_or}
use Rattle.tables.specs.Layout.{Words, max_ranges, ranges_at}

-- ---- ranges

abbrev pub range_words : ℕ
range_words = 2

abbrev pub range_slot : ℕ → ℕ
range_slot k = ranges_at + range_words * k

-- the words of the lowest and the highest value of range k
abbrev pub lowest_at : Words → ℕ → ℕ
lowest_at w k = get_or w (range_slot k) 0

abbrev pub highest_at : Words → ℕ → ℕ
highest_at w k = get_or w (range_slot k + 1) 0

-- ---- marks

-- of a cell that may have every value
abbrev pub unranged : ℕ
unranged = 0

-- of a cell with range k
abbrev pub range_mark : ℕ → ℕ
range_mark k = suc k

-- the lowest of a local
abbrev pub local_mark : ℕ
local_mark = suc max_ranges

-- range k has the value of this word: words compare as their values do
abbrev pub inside : Words → ℕ → ℕ → Bool
inside w k value = leb (lowest_at w k) value && leb value (highest_at w k)

-- a place with this mark may have the value of this word
unfoldable pub allows : Words → ℕ → ℕ → Bool
allows w mark value = eqb mark unranged || (leb local_mark mark || inside w (mark - 1) value)
