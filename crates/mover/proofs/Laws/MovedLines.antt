-- The length of lines, and of those before the lines of formulas: no line feed stands in what a line says, so its own is the first. Assumes nothing.
use Prim.Native.Nat.{ℕ, suc, ◌+◌, ◌≤◌}
use native.Mathlib.Omega.{arith}
use native.Mathlib.Nat.{add-zero}
use mathlib.Core.Path.{◌≡◌, refl, sym}
use mathlib.Core.Bool.{Bool, true, false, not, ◌&&◌}
use mathlib.Core.List.{List, [], ◌∷◌, ◌++◌, append_assoc}
use lib.ListN.{length, length-append}
use lib.Seq.{drop-append_seam}
use lib.Dec.{eqb}
use lib.IntN.{ℤ}
use borrow.Author.Tests.{not-true}
use Rattle.specification.specs.Bytes.{Bytes, bytes}
use Rattle.specification.specs.Number.{printℕ, printℤ}
use Rattle.specification.specs.Lines.{Range, Declared, CellName, scalar, element}
use Rattle.specification.specs.Given.{Item}
use Rattle.specification.specs.Lists.{Each}
use Rattle.specification.specs.Listing.{cell_label, label_text}
use Rattle.specification.specs.Text.{led, parted, number_line, arrays_text, range_text, name_of, item_text, given_text, head_text}
use Rattle.specification.proofs.Laws.Parser.{and-true}
use Rattle.specification.proofs.Laws.Lists.{each-++}
use Rattle.specification.proofs.Laws.Print.{IsDigit, Lacks, printℕ-nonempty, printℕ-lacks, printℤ-lacks}
use Rattle.mover.specs.Model.{line_length, lines_length, head_lines}

-- ---- what does not stand in bytes and lists

-- the byte does not stand in these, as a test
abbrev lacking : ℕ → Bytes → Bool
lacking c [] = true
lacking c (b ∷ bs) = not (eqb b c) && lacking c bs

-- for bytes that are known
pub lacks : (c : ℕ) (bs : Bytes) → lacking c bs ≡ true → Lacks c bs
unfolding Each
lacks c [] e = tt
lacks c (b ∷ bs) e =
    let h = and-true (not (eqb b c)) (lacking c bs) e in
    (not-true (eqb b c) h.0, lacks c bs h.1)

module _ {A : Type 0} (c : ℕ) (mark : Bytes) (m : Lacks c mark) (text : A → Bytes) (t : (x : A) → Lacks c (text x)) where
  led-lacks : (xs : List A) → Lacks c (led mark text xs)
  unfolding led Each
  led-lacks [] = tt
  led-lacks (x ∷ xs) =
      each-++ (λ b. eqb b c ≡ false) mark (text x ++ led mark text xs) m
      (each-++ (λ b. eqb b c ≡ false) (text x) (led mark text xs) (t x) (led-lacks xs))

  pub parted-lacks : (xs : List A) → Lacks c (parted mark text xs)
  unfolding parted Each
  parted-lacks [] = tt
  parted-lacks (x ∷ xs) = each-++ (λ b. eqb b c ≡ false) (text x) (led mark text xs) (t x) (led-lacks xs)

feedless-number : (n : ℕ) → Lacks 10 (printℕ n)
feedless-number n = printℕ-lacks 10 (λ h. omega (arith, h.0)) n

feedless-value : (z : ℤ) → Lacks 10 (printℤ z)
feedless-value z = printℤ-lacks 10 (λ h. omega (arith, h.0)) refl z

feedless-range : (r : Range) → Lacks 10 (range_text r)
unfolding Each
feedless-range r =
    each-++ (λ b. eqb b 10 ≡ false) (printℤ r.low) (58 ∷ printℤ r.high) (feedless-value r.low) (refl, feedless-value r.high)

-- a given item has digits and few other bytes
module _ (c : ℕ) (d : ¬ IsDigit c) (o : lacking c (bytes "va.:-") ≡ true) where
  label-lacks : (n : CellName) → Lacks c (label_text (cell_label n))
  unfolding label_text Each
  label-lacks (scalar n) = ((lacks c (bytes "va.:-") o).0, printℕ-lacks c d n)
  label-lacks (element a e) =
      let h = (lacks c (bytes "va.:-") o).1 in
      (h.0, each-++ (λ b. eqb b c ≡ false) (printℕ a) (46 ∷ printℕ e) (printℕ-lacks c d a) (h.1.0, printℕ-lacks c d e))

  pub item-lacks : (D : Declared) (i : Item) → Lacks c (item_text D i)
  unfolding item_text Each
  item-lacks D i =
      let h = (lacks c (bytes "va.:-") o).1.1.1 in
      let n = name_of D i.cell in
      each-++ (λ b. eqb b c ≡ false) (label_text (cell_label n)) (58 ∷ printℤ i.value) (label-lacks n)
      (h.0, printℤ-lacks c d h.1.0 i.value)

-- ---- lines

-- the first line of itself and whatever follows
abbrev pub Line : Bytes → Type 0
Line x = (w : Bytes) → line_length (x ++ w) ≡ length x

feed-line : Line (bytes "\n")
unfolding line_length
feed-line w = refl

line-more : (t x : Bytes) → Lacks 10 t → Line x → Line (t ++ x)
unfolding line_length Each
line-more [] x h l w = l w
line-more (b ∷ t) x h l w = rw (h.0, line-more t x h.1 l w)

lines_more : (n : ℕ) (x w : Bytes) → Line x → lines_length (suc n) (x ++ w) ≡ length x + lines_length n w
unfolding lines_length
lines_more n x w l = rw (l w, drop-append_seam x w)

number-line : (key : Bytes) (n : ℕ) → Lacks 10 key → Line (number_line key n)
number-line key n h = line-more key (printℕ n ++ bytes "\n") h (line-more (printℕ n) (bytes "\n") (feedless-number n) feed-line)

-- a list after its key, with commas between
list-line : {A : Type 0} (key : Bytes) → Lacks 10 key → (text : A → Bytes) → ((x : A) → Lacks 10 (text x)) →
    (xs : List A) → Line (key ++ (parted (bytes ",") text xs ++ bytes "\n"))
unfolding Each
list-line key h text t xs =
    line-more key (parted (bytes ",") text xs ++ bytes "\n") h
    (line-more (parted (bytes ",") text xs) (bytes "\n") (parted-lacks 10 (bytes ",") (refl, tt) text t xs) feed-line)

-- ---- those of a sheet

-- the lines before that of ranges, after the edition's
abbrev pub counts_text : Declared → Bytes
counts_text D = number_line (bytes "scalars=") D.scalars ++ (number_line (bytes "locals=") D.locals ++ arrays_text D.arrays)

arrays-line : (ns : List ℕ) → Line (arrays_text ns)
arrays-line ns = list-line (bytes "arrays=") (lacks 10 (bytes "arrays=") refl) printℕ feedless-number ns

four-lines : (a b c d : Bytes) → Line a → Line b → Line c → Line d → (n : ℕ) (w : Bytes) →
    lines_length (suc (suc (suc (suc n)))) (a ++ (b ++ (c ++ d)) ++ w) ≡ length (a ++ (b ++ (c ++ d))) + lines_length n w
four-lines a b c d i j k l n w =
    rw (
      append_assoc a (b ++ (c ++ d)) w,
      append_assoc b (c ++ d) w,
      append_assoc c d w,
      lines_more (suc (suc (suc n))) a (b ++ (c ++ (d ++ w))) i,
      lines_more (suc (suc n)) b (c ++ (d ++ w)) j,
      lines_more (suc n) c (d ++ w) k,
      lines_more n d w l,
      length-append a (b ++ (c ++ d)),
      length-append b (c ++ d),
      length-append c d,
    ) (omega arith)

-- and n lines more
head-lines : (D : Declared) (n : ℕ) (w : Bytes) →
    lines_length (suc (suc (suc (suc n)))) (head_text D ++ w) ≡ length (head_text D) + lines_length n w
unfolding head_text
head-lines D n w =
    four-lines
    (number_line (bytes "edition=") D.edition)
    (number_line (bytes "scalars=") D.scalars)
    (number_line (bytes "locals=") D.locals)
    (arrays_text D.arrays)
    (number-line (bytes "edition=") D.edition (lacks 10 (bytes "edition=") refl))
    (number-line (bytes "scalars=") D.scalars (lacks 10 (bytes "scalars=") refl))
    (number-line (bytes "locals=") D.locals (lacks 10 (bytes "locals=") refl))
    (arrays-line D.arrays)
    n
    w

no_lines : (w : Bytes) → lines_length 0 w ≡ 0
unfolding lines_length
no_lines w = refl

-- all before that of ranges
pub head-length : (D : Declared) (w : Bytes) → lines_length head_lines (head_text D ++ w) ≡ length (head_text D)
head-length D w = rw (head-lines D 0 w, no_lines w) (add-zero (length (head_text D)))

-- and with a line more
pub longer-length : (D : Declared) (x : Bytes) → Line x → (w : Bytes) →
    lines_length (suc head_lines) (head_text D ++ (x ++ w)) ≡ length (head_text D ++ x)
longer-length D x l w =
    rw (head-lines D 1 (x ++ w), lines_more 0 x w l, no_lines w, add-zero (length x)) (sym (length-append (head_text D) x))

-- and with two
pub longest-length : (D : Declared) (x y : Bytes) → Line x → Line y → (w : Bytes) →
    lines_length (suc (suc head_lines)) (head_text D ++ (x ++ (y ++ w))) ≡ length (head_text D ++ x ++ y)
longest-length D x y k l w =
    rw (head-lines D 2 (x ++ (y ++ w)), lines_more 1 x (y ++ w) k, lines_more 0 y w l, no_lines w)
    (omega (arith, length-append (head_text D ++ x) y, length-append (head_text D) x))

pub ranges-line : (rs : List Range) → Line (bytes "ranges=" ++ (parted (bytes ",") range_text rs ++ bytes "\n"))
ranges-line rs = list-line (bytes "ranges=") (lacks 10 (bytes "ranges=") refl) range_text feedless-range rs

pub given-line : (D : Declared) (is : List Item) → Line (given_text D is)
given-line D is = list-line (bytes "given=") (lacks 10 (bytes "given=") refl) (item_text D) (item-lacks 10 (λ h. omega (arith, h.0)) refl D) is

nonempty : (t : Bytes) → ¬ (t ≡ []) → 1 ≤ length t
nonempty [] h = absurd (h refl)
nonempty (b ∷ t) h = omega arith

-- the edition's line is long enough with any number
pub head-size : (D : Declared) → length (bytes "edition=2\n") ≤ length (head_text D)
unfolding head_text
head-size D =
    rw (append_assoc (printℕ D.edition) (bytes "\n") (counts_text D), length-append (printℕ D.edition) (bytes "\n" ++ counts_text D))
    (omega (arith, nonempty (printℕ D.edition) (printℕ-nonempty D.edition)))
