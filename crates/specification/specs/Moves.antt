-- Moving the catalogue (document 02, Eight and Nine): a sheet of edition 2 in edition 3, the way back, and a pass over sheets of edition 3. The
-- same cells, given values and formulas stand in both; only the edition, the line of ranges and the spelling of two words are others. What is
-- written in edition 3 has no empty range. What holds of the three is in specs/Moving.antt. Assumes nothing.
use Rattle.std.specs.Prelude as std
use Rattle.std.specs.Prelude.{ℕ, ◌+◌, Bool, true, false, ◌&&◌, List, [], ◌∷◌, ◌++◌, length, drop, replicate, leb, Ok, Err}
use Rattle.std.proofs.Math.Option.{Option, none, some as just}
use Rattle.specification.specs.declared.refusals.Refusal.{Refusal}
use Rattle.specification.specs.Refusals.{refusal_with}
use Rattle.specification.specs.Bytes.{Bytes, bytes, pick}
use Rattle.specification.specs.Number.{least, greatest}
use Rattle.specification.specs.Parser.{Read, refused, found, and_then}
use Rattle.specification.specs.Lines.{line, Range, Declared, everything}
use Rattle.specification.specs.Ast.{Op, add, sub, mul, quo, rem, div, modulo, Formula, Procedure}
use Rattle.specification.specs.Words.{constant_word, scalar_word, local_word, array_word, parameter_word, op_word, Word, formula_word, term_word, number_word, unknown}
use Rattle.specification.specs.Sheet.{Sheet, opened, read_with}
use Rattle.specification.specs.Arithmetic.{eq_z}
use Rattle.specification.specs.Text.{word_text, formula_words, range_text, head_text, ranges_text, given_text, procedure_key, procedure_text, text_of}
use Rattle.specification.specs.Tidy.{tidied}

-- ---- the same sheet in another edition

-- what is declared in it, with these ranges
abbrev pub declared_in : ℕ → List Range → Declared → Declared
declared_in edition ranges D = record {
  edition = edition;
  scalars = D.scalars;
  locals = D.locals;
  arrays = D.arrays;
  ranges = ranges;
  procedures = D.procedures;
  parameters = D.parameters;
}

-- each word keeps what it means, so formulas and procedures stay
abbrev pub in_edition : ℕ → List Range → Sheet → Sheet
in_edition edition ranges s = record { declared = declared_in edition ranges s.declared; given = s.given; formula = s.formula }

-- the editions that are moved from and to
abbrev pub older : ℕ
older = 2

abbrev pub newer : ℕ
newer = 3

-- a range for each scalar and each array
abbrev pub range_count : Declared → ℕ
range_count D = D.scalars + length D.arrays

-- up: all of 32 bits for each
abbrev pub raised : Sheet → Sheet
raised s = in_edition newer (replicate (range_count s.declared) everything) s

-- and down: without ranges
abbrev pub lowered : Sheet → Sheet
lowered s = in_edition older [] s

-- ---- what has no place in the older edition

unfoldable pub is_everything : Range → Bool
is_everything r = eq_z r.low least && eq_z r.high greatest

-- the place of the first narrower range, where the first pair begins at p and each other after a comma
unfoldable pub narrow_at : ℕ → List Range → Option ℕ
narrow_at p [] = none
narrow_at p (r ∷ rs) = let later = narrow_at (p + length (range_text r) + 1) rs in pick (is_everything r) later (just p)

unfoldable pub rounds_down : Op → Bool
rounds_down add = false
rounds_down sub = false
rounds_down mul = false
rounds_down quo = false
rounds_down rem = false
rounds_down div = true
rounds_down modulo = true

unfoldable pub is_rounding : Word → Bool
is_rounding (formula_word w) = false
is_rounding (term_word (constant_word z)) = false
is_rounding (term_word (scalar_word n)) = false
is_rounding (term_word (local_word n)) = false
is_rounding (term_word (array_word n)) = false
is_rounding (term_word (parameter_word n)) = false
is_rounding (term_word (op_word o)) = rounds_down o
is_rounding (number_word n) = false
is_rounding unknown = false

-- the place of the first word that rounds down, where the first word begins at p and each other after a space
unfoldable pub rounding_at : ℕ → List Word → Option ℕ
rounding_at p [] = none
rounding_at p (w ∷ ws) = let later = rounding_at (p + length (word_text newer w) + 1) ws in pick (is_rounding w) (just p) later

abbrev pub or_else : Option ℕ → Option ℕ → Option ℕ
or_else none later = later
or_else (just p) later = just p

-- the same in the lines of procedures, which begin at p, and then in the formula's
unfoldable pub rounding_from : ℕ → List Procedure → Formula → Option ℕ
rounding_from p [] F = rounding_at (p + length (bytes "formula=")) (formula_words F)
rounding_from p (P ∷ Ps) F =
    or_else (rounding_at (p + length (procedure_key P)) (formula_words P.formula)) (rounding_from (p + length (procedure_text newer P)) Ps F)

-- in a sheet of the newer edition
unfoldable pub narrow_in : Sheet → Option ℕ
narrow_in s = narrow_at (length (head_text s.declared) + length (bytes "ranges=")) s.declared.ranges

unfoldable pub rounding_in : Sheet → Option ℕ
rounding_in s =
    let D = s.declared in
    rounding_from (length (head_text D ++ (ranges_text newer D.ranges ++ given_text D s.given))) D.procedures s.formula

-- ---- the calls: refusal 1, then the sheet's own, of which 2 comes first, then those of the move, of which 2 comes last

-- a refusal's number and place, or the bytes of the moved sheet
pub data Result : Type 0 where
  refusal : ℕ → ℕ → Result
  moved : Bytes → Result

-- a sheet of this edition; another is 4 at the edition, while it is read
unfoldable pub read_only : Bool → ℕ → Bytes → Read Sheet
read_only strict edition sheet = and_then (λ e r. read_with strict sheet) (line (bytes "edition=") edition edition (opened sheet))

abbrev pub longest_sheet : ℕ
longest_sheet = 4096

abbrev pub words_to_move : ℕ
words_to_move = 6144

-- with so many work words and output bytes
unfoldable pub admitted : Bool → ℕ → Bytes → ℕ → ℕ → Read Sheet
admitted strict edition sheet words size =
    let r = read_only strict edition sheet in
    pick (leb longest_sheet size && leb words_to_move words) (pick (leb (length sheet) longest_sheet) r (refused 2 longest_sheet)) (refused 1 0)

abbrev pub after_reading : (Sheet → Result) → Read Sheet → Result
after_reading move (refused n p) = refusal n p
after_reading move (found s r) = move s

-- the text of a moved sheet
unfoldable pub fitted : Bytes → Result
fitted t = pick (leb (length t) longest_sheet) (moved t) (refusal 2 longest_sheet)

-- a refusal with this number where there is such a place
abbrev pub unless : ℕ → Option ℕ → Result → Result
unless n (just p) r = refusal n p
unless n none r = r

-- from the older edition: empty ranges are read and not written
unfoldable pub move_up : Bytes → ℕ → ℕ → Result
move_up sheet words size = after_reading (λ s. fitted (text_of (raised (tidied s)))) (admitted false older sheet words size)

-- a stored sheet of the newer edition: the same
unfoldable pub tidy : Bytes → ℕ → ℕ → Result
tidy sheet words size = after_reading (λ s. fitted (text_of (tidied s))) (admitted false newer sheet words size)

-- back to the older edition: the sheet's own refusals, 17 among them, come first

unfoldable pub move_down : Bytes → ℕ → ℕ → Result
move_down sheet words size =
    after_reading (λ s. unless 15 (narrow_in s) (unless 16 (rounding_in s) (fitted (text_of (lowered s))))) (admitted true newer sheet words size)

-- ---- what is returned, and the lent output afterwards; the work words are all zero

abbrev pub written : Result → Bytes
written (refusal n p) = []
written (moved t) = t

-- how many bytes were written, or a refusal's number and place
abbrev pub Move : Type 0
Move = std.Result ℕ Refusal

abbrev pub outcome : Result → Move
outcome (refusal n p) = Err (refusal_with n p)
outcome (moved t) = Ok (length t)

-- the moved sheet, and beyond it what was held; all of that where the sheet is refused
unfoldable pub output_after : Result → Bytes → Bytes
output_after r held = written r ++ drop (length (written r)) held
