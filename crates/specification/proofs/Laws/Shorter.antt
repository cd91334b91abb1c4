-- The text of a tidied sheet is no longer than the sheet's: `eq 0 1` and `true` have no more bytes than any quantifier with its local and
-- formula. Nor is it back in the older edition: words have as many letters there. Assumes nothing.
use Prim.Native.Nat.{ℕ, suc, ◌-◌, ◌≤◌}
use native.Mathlib.Omega.{arith}
use mathlib.Core.Path.{◌≡◌, refl, sym, ◌∙◌, ap, fun_ext}
use mathlib.Core.Bool.{Bool, true, false}
use mathlib.Core.List.{List, [], ◌∷◌, ◌++◌}
use lib.ListN.{length, length-append}
use lib.Dec.{ltb}
use Rattle.specification.specs.Bytes.{Bytes, bytes, pick}
use Rattle.specification.specs.Number.{digits, printℕ, printℤ}
use Rattle.specification.specs.Lines.{Range}
use Rattle.specification.specs.Ast.{Op, add, sub, mul, quo, rem, div, modulo, Formula, Procedure}
use Rattle.specification.specs.Words.{constant_word, scalar_word, local_word, array_word, parameter_word, op_word, Word, formula_word, term_word, number_word, unknown, first_rounding}
use Rattle.specification.specs.Sheet.{Sheet}
use Rattle.specification.specs.Listing.{cell_names}
use Rattle.specification.specs.Text.{led, parted, op_text, formula_word_text, term_word_text, word_text, formula_words, spelt, ranges_text, item_text, given_text, procedure_key, procedure_text, procedures_text, head_text, text_in, text_of}
use Rattle.specification.specs.Tidy.{dropped, tokens_before, tidied_formula, tidied_procedure, tidied_procedures, tidied}
use Rattle.specification.specs.Moves.{in_edition, older, newer, lowered}
use Rattle.specification.proofs.Laws.Tidied.{words-numbered, total, dropped-lighter}
use Rattle.specification.proofs.Laws.TidiedSheet.{with_line, tidied_after, tidied-after}

-- ---- words

-- the bytes of a word and of the space before it
abbrev bytes_of : ℕ → Word → ℕ
bytes_of edition w = suc (length (word_text edition w))

pick-length : (b : Bool) (t u : Bytes) → length t ≡ length u → length (pick b t u) ≡ length u
pick-length true t u h = h
pick-length false t u h = refl

-- in each edition as many: an operation has three letters
word-length : (e e' : ℕ) (w : Word) → bytes_of e w ≡ bytes_of e' w
unfolding word_text term_word_text op_text
word-length e e' (formula_word w) = refl
word-length e e' (term_word (constant_word z)) = refl
word-length e e' (term_word (scalar_word n)) = refl
word-length e e' (term_word (local_word n)) = refl
word-length e e' (term_word (array_word n)) = refl
word-length e e' (term_word (parameter_word n)) = refl
word-length e e' (term_word (op_word o)) = ap suc (op-length e o ∙ sym (op-length e' o))
  where
    op-length : (e : ℕ) (o : Op) → length (op_text e o) ≡ 3
    op-length e add = refl
    op-length e sub = refl
    op-length e mul = refl
    op-length e quo = pick-length (ltb e first_rounding) (bytes "div") (bytes "quo") refl
    op-length e rem = pick-length (ltb e first_rounding) (bytes "mod") (bytes "rem") refl
    op-length e div = refl
    op-length e modulo = refl
word-length e e' (number_word n) = refl
word-length e e' unknown = refl

led-length : (edition : ℕ) (ws : List Word) → length (led (bytes " ") (word_text edition) ws) ≡ total (bytes_of edition) ws
unfolding led total
led-length edition [] = refl
led-length edition (w ∷ ws) =
    let h = led-length edition ws in omega (arith, h, length-append (word_text edition w) (led (bytes " ") (word_text edition) ws))

-- there is a space between words only
spelt-length : (edition : ℕ) (ws : List Word) → length (spelt edition ws) ≡ total (bytes_of edition) ws - 1
unfolding parted total
spelt-length edition [] = refl
spelt-length edition (w ∷ ws) =
    omega (arith, led-length edition ws, length-append (word_text edition w) (led (bytes " ") (word_text edition) ws))

-- ---- formulas and procedures

-- the first has no more bytes than the second
record Within (t u : Bytes) : Type 0 where
  is : length t ≤ length u

within : (t : Bytes) → Within t t
within t = record { is = omega arith }

joined : {t t' u u' : Bytes} → Within t t' → Within u u' → Within (t ++ u) (t' ++ u')
joined {t} {t'} {u} {u'} h k = record { is = omega (arith, length-append t u, length-append t' u', h.is, k.is) }

-- a line by what stands in it
line : (key : Bytes) {t t' : Bytes} → Within t t' → Within (key ++ (t ++ bytes "\n")) (key ++ (t' ++ bytes "\n"))
line key h = joined (within key) (joined h (within (bytes "\n")))

-- what is written in one edition for what stands in another
module _ (e e' : ℕ) where
  formula-shorter : (Ps : List Procedure) (F : Formula) → Within (spelt e (formula_words (tidied_formula Ps F))) (spelt e' (formula_words F))
  unfolding word_text formula_word_text term_word_text printℤ printℕ digits
  formula-shorter Ps F =
      let h = dropped-lighter (bytes_of e) (λ w. omega arith) (omega arith) (omega arith) F in
      let words = ap (λ (ws : List Word). length (spelt e ws)) (words-numbered Ps (tokens_before Ps) (dropped F)) in
      let same = ap (λ (f : Word → ℕ). total f (formula_words F)) (fun_ext (word-length e e')) in
      record { is = omega (arith, h, words, same, spelt-length e (formula_words (dropped F)), spelt-length e' (formula_words F)) }

  lines-shorter : (done Ps : List Procedure) → Within (procedures_text e (tidied_after done Ps)) (procedures_text e' Ps)
  unfolding tidied_after procedures_text procedure_text
  lines-shorter done [] = within []
  lines-shorter done (P ∷ Ps) =
      let more = lines-shorter (with_line done (tidied_procedure done P)) Ps in
      joined (line (procedure_key P) (formula-shorter done P.formula)) more

-- ---- the sheet

text-shorter : (s : Sheet) (edition : ℕ) (ranges : List Range) → Within (printℕ edition) (printℕ s.declared.edition) →
    Within (ranges_text edition ranges) (ranges_text s.declared.edition s.declared.ranges) →
    Within (text_of (in_edition edition ranges (tidied s))) (text_of s)
unfolding tidied text_in head_text item_text cell_names
text-shorter s edition ranges number h =
    let D = s.declared in
    let Ps = D.procedures in
    let lines : Within (procedures_text edition (tidied_procedures [] Ps)) (procedures_text D.edition Ps) =
    rw (tidied-after [] Ps) (lines-shorter edition D.edition [] Ps) in
    let formula = line (bytes "formula=") (formula-shorter edition D.edition (tidied_procedures [] Ps) s.formula) in
    joined (joined (line (bytes "edition=") number) (within _)) (joined h (joined (within (given_text D s.given)) (joined lines formula)))

pub tidied-shorter : (s : Sheet) → length (text_of (tidied s)) ≤ length (text_of s)
unfolding tidied
tidied-shorter s = (text-shorter s s.declared.edition s.declared.ranges (within _) (within _)).is

-- back in the older edition, where no line of ranges stands
pub lowered-shorter : (s : Sheet) → s.declared.edition ≡ newer → length (text_of (lowered (tidied s))) ≤ length (text_of s)
unfolding ranges_text printℕ digits
lowered-shorter s d = (text-shorter s older [] (record { is = rw d (omega arith) }) (record { is = omega arith })).is
