-- The bytes of lines determine the lines: no label has an equals sign in it and no value a line feed, so each line can be read back.
-- Assumes nothing.
use Prim.Native.Nat.{ℕ, ◌<◌}
use native.Mathlib.Omega.{arith}
use mathlib.Core.Path.{◌≡◌, refl, sym, ◌∙◌, ap, subst}
use mathlib.Core.Bool.{Bool, false, not, ◌||◌}
use mathlib.Core.List.{List, [], ◌∷◌, ◌++◌}
use mathlib.Core.Option.{Option, some}
use lib.ListN.{get_or, drop}
use lib.Dec.{T, T_not, eqb}
use lib.IntN.{ℤ}
use borrow.Author.Tests.{le-leb, eq-eqb, ne_eqb}
use Rattle.specification.specs.Bytes.{Bytes, pick, between}
use Rattle.specification.specs.Number.{decimal, integer, printℕ, printℤ}
use Rattle.specification.specs.Lines.{scalar, element}
use Rattle.specification.specs.Listing.{Label, answer_label, error_label, kind_label, token_label, cell_label, Line, ◌is◌, label_text, lines_text}
use Rattle.specification.specs.Lists.{Each}
use Rattle.specification.proofs.Laws.Contradiction.{contradiction}
use Rattle.specification.proofs.Laws.Lists.{each_map, each-++}
use Rattle.specification.proofs.Laws.Print.{IsDigit, Lacks, printℕ-numeral, printℕ-lacks, printℤ-lacks, integer-printℤ}

-- ---- what stands before the first byte c, and what after it

halves : ℕ → Bytes → Bytes × Bytes
halves c [] = ([], [])
halves c (b ∷ bs) = pick (eqb b c) ([], bs) (b ∷ (halves c bs).0, (halves c bs).1)

halves-at : (c : ℕ) (xs ys : Bytes) → Lacks c xs → halves c (xs ++ c ∷ ys) ≡ (xs, ys)
unfolding halves Each
halves-at c [] ys h = rw (eq-eqb c c refl)
halves-at c (x ∷ xs) ys h = rw (h.0, halves-at c xs ys h.1)

-- ---- labels

-- the label that these bytes spell: its first letter tells, or else its second byte
label_in : Bytes → Label
label_in bs =
    pick (eqb (get_or bs 0 0) 118) (cell_label (scalar (decimal 0 (drop 1 bs))))
    (pick (eqb (get_or bs 0 0) 101) error_label
    (pick (eqb (get_or bs 0 0) 107) kind_label
    (pick (eqb (get_or bs 1 0) 110) answer_label
    (pick (eqb (get_or bs 1 0) 116) token_label
    (cell_label (element (decimal 0 (halves 46 (drop 1 bs)).0) (decimal 0 (halves 46 (drop 1 bs)).1)))))))

-- the letter of an array is followed by a digit
digit-next : (c : ℕ) → 57 < c → (xs ys : Bytes) → Each IsDigit xs → eqb (get_or (xs ++ 46 ∷ ys) 0 0) c ≡ false
unfolding Each
digit-next c l [] ys h = ne_eqb 46 c (λ e. omega arith)
digit-next c l (x ∷ xs) ys h = ne_eqb x c (λ e. omega (arith, h.0.1))

label-in : (l : Label) → label_in (label_text l) ≡ l
unfolding label_in label_text
label-in answer_label = refl
label-in error_label = refl
label-in kind_label = refl
label-in token_label = refl
label-in (cell_label (scalar n)) = rw (printℕ-numeral n).value
label-in (cell_label (element a e)) =
    let d = (printℕ-numeral a).all_digits in
    rw (
      digit-next 110 (omega arith) (printℕ a) (printℕ e) d,
      digit-next 116 (omega arith) (printℕ a) (printℕ e) d,
      halves-at 46 (printℕ a) (printℕ e) (printℕ-lacks 46 (λ h. omega (arith, h.0)) a),
      (printℕ-numeral a).value,
      (printℕ-numeral e).value,
    )

-- digits, letters and the point: each byte of a label is one of them
abbrev in_label : ℕ → Bool
in_label b = between 48 57 b || (between 97 122 b || eqb b 46)

digit-in : (b : ℕ) → IsDigit b → T (in_label b)
digit-in b h = rw (le-leb 48 b h.0, le-leb b 57 h.1) tt

number-bytes : (n : ℕ) → Each (λ b. T (in_label b)) (printℕ n)
number-bytes n = each_map digit-in (printℕ n) (printℕ-numeral n).all_digits

label-bytes : (l : Label) → Each (λ b. T (in_label b)) (label_text l)
unfolding label_text Each
label-bytes answer_label = (tt, (tt, (tt, (tt, (tt, (tt, tt))))))
label-bytes error_label = (tt, (tt, (tt, (tt, (tt, tt)))))
label-bytes kind_label = (tt, (tt, (tt, (tt, tt))))
label-bytes token_label = (tt, (tt, tt))
label-bytes (cell_label (scalar n)) = (tt, number-bytes n)
label-bytes (cell_label (element a e)) =
    (tt, each-++ (λ b. T (in_label b)) (printℕ a) (46 ∷ printℕ e) (number-bytes a) (tt, number-bytes e))

-- no other byte stands in a label
pub label-lacks : (c : ℕ) → T (not (in_label c)) → (l : Label) → Lacks c (label_text l)
label-lacks c n l =
    each_map (λ b t. ne_eqb b c (λ e. T_not (in_label c) n (subst (λ (x : ℕ). T (in_label x)) e t))) (label_text l) (label-bytes l)

-- ---- lines

-- of the first line: its label, its value, and what stands after it
first_label : Bytes → Label
first_label t = label_in (halves 61 t).0

first_value : Bytes → Option ℤ
first_value t = integer (halves 10 (halves 61 t).1).0

after_first : Bytes → Bytes
after_first t = (halves 10 (halves 61 t).1).1

module _ (l : Line) (ls : List Line) where
  at-equals : halves 61 (lines_text (l ∷ ls)) ≡ (label_text l.label, printℤ l.value ++ 10 ∷ lines_text ls)
  unfolding lines_text
  at-equals = halves-at 61 (label_text l.label) (printℤ l.value ++ 10 ∷ lines_text ls) (label-lacks 61 tt l.label)

  at-feed : halves 10 (printℤ l.value ++ 10 ∷ lines_text ls) ≡ (printℤ l.value, lines_text ls)
  at-feed = halves-at 10 (printℤ l.value) (lines_text ls) (printℤ-lacks 10 (λ h. omega (arith, h.0)) refl l.value)

  first-label : first_label (lines_text (l ∷ ls)) ≡ l.label
  unfolding first_label
  first-label = rw at-equals (label-in l.label)

  first-value : first_value (lines_text (l ∷ ls)) ≡ some l.value
  unfolding first_value
  first-value = rw (at-equals, at-feed) (integer-printℤ l.value)

  after-first : after_first (lines_text (l ∷ ls)) ≡ lines_text ls
  unfolding after_first
  after-first = ap (λ (p : Bytes × Bytes). (halves 10 p.1).1) at-equals ∙ ap (λ (p : Bytes × Bytes). p.1) at-feed

line_same : (l m : Line) → l.label ≡ m.label → l.value ≡ m.value → l ≡ m
line_same l m p q = ap (◌is l.value) p ∙ ap (m.label is◌) q

not-empty : (xs ys : Bytes) (c : ℕ) → ¬ ([] ≡ xs ++ c ∷ ys)
not-empty [] ys c e = contradiction cc
not-empty (x ∷ xs) ys c e = contradiction cc

no_text : (l : Line) (ls : List Line) → ¬ (lines_text [] ≡ lines_text (l ∷ ls))
unfolding lines_text
no_text l ls = not-empty (label_text l.label) (printℤ l.value ++ 10 ∷ lines_text ls) 61

pub text-injective : (ls ms : List Line) → lines_text ls ≡ lines_text ms → ls ≡ ms
text-injective [] [] e = refl
text-injective [] (m ∷ ms) e = absurd (no_text m ms e)
text-injective (l ∷ ls) [] e = absurd (no_text l ls (sym e))
text-injective (l ∷ ls) (m ∷ ms) e =
    let p : l.label ≡ m.label = cc (first-label l ls, first-label m ms) in
    let q : l.value ≡ m.value = cc (first-value l ls, first-value m ms) in
    let r : lines_text ls ≡ lines_text ms = cc (after-first l ls, after-first m ms) in
    cc (line_same l m p q, text-injective ls ms r)
