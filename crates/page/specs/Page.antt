-- The page in lent memory: the listing at the start of the output, the lines after it at the start of memory of their own. Assumes nothing.
use Rattle.std.specs.Prelude.{ℕ, ◌≤◌, ◌≡◌, List, ◌++◌, length, take, drop, replicate, Ok, Err}
use Rattle.specification.specs.Bytes.{Bytes}
use Rattle.specification.specs.Outcome.{Result, call, written, Outcome, outcome, output_after}
use Rattle.specification.specs.Printed.{closing, box_setting, box_words, box_output, box}
use Rattle.listing.specs.declared.writer.Writer.{Writer}
use Rattle.listing.specs.Put.{Writes}
use Rattle.vodlasim.specs.Lent.{Lent}
use Rattle.page.specs.declared.Page.{Page}

-- the bytes written that an outcome tells
abbrev pub written_of : Outcome → ℕ
written_of (Err r) = 0
written_of (Ok x) = x.written

-- the longest line of an end, `end=output`; and the longest lines after a listing, that and four tallies of ten digits
abbrev pub end_most : ℕ
end_most = 11

abbrev pub closing_most : ℕ
closing_most = 82

-- some of these lines, put where a writer stands; they end among the first so many bytes
pub record Lined (most : ℕ) (before after : Writer) (t : Bytes) : Type 0 where
  pub text : Writes before after t
  pub short : after.at ≤ most

-- the lines after the listing at the start of memory that is b before and b' after; beyond them it holds what it held
pub record Closed (o : Outcome) (b b' : Bytes) (r : ℕ) : Type 0 where
  pub lines : b' ≡ closing o ++ drop r b
  pub count : r ≡ length (closing o)

-- the box's run of a sheet
abbrev pub box_run : Bytes → Result
box_run sheet = call sheet box_setting box_words box_output

-- its page in the output o and in the memory l of the lines after the listing, where the call leaves the work words w'
pub record Paged (sheet : Bytes) (w' : List ℕ) (o l : Lent) (r : Page) : Type 0 where
  -- what the box prints
  pub page : take r.listing o.after ++ take r.closing l.after ≡ box sheet
  -- the listing, and beyond it what the output held
  pub listing : r.listing ≡ length (written (box_run sheet))
  pub output : o.after ≡ output_after (box_run sheet) o.before
  -- the lines after it, and beyond them what their memory held
  pub closed : Closed (outcome (box_run sheet)) l.before l.after r.closing
  -- the work words are zero
  pub work : w' ≡ replicate box_words 0
