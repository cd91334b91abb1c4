-- The words of formulas in the newer edition: after a space only a word that rounds down is found to do so, since each other is spelt otherwise.
-- The first word of a line stands after no space, and it does not round. Assumes nothing.
use Prim.Native.Nat.{ℕ, suc, ◌+◌, ◌<◌}
use native.Mathlib.Omega.{arith}
use native.Mathlib.Nat.{add-zero}
use mathlib.Core.Path.{◌≡◌, refl, sym, ◌∙◌, ap}
use mathlib.Core.Bool.{Bool, true, false}
use mathlib.Core.List.{List, [], ◌∷◌, ◌++◌, append_assoc}
use lib.ListN.{length}
use lib.Dec.{eqb}
use lib.IntN.{pos, negsuc}
use borrow.Author.Tests.{eqb-true, eqb-false, ne_eqb}
use Rattle.specification.specs.Bytes.{Bytes, bytes, class_of, class_number, is_in, in_number, begins}
use Rattle.specification.specs.Number.{printℕ, printℤ}
use Rattle.specification.specs.Lists.{Each}
use Rattle.specification.specs.Ast.{Op, add, sub, mul, quo, rem, div, modulo, ne, lt, le, gt, ge, Term, constant, scalar_at, local_at, parameter, element_at, apply, Formula, truth, and, or, imp, neg, eq, compare, ex, some, all, call, Procedure}
use Rattle.specification.specs.Words.{FormulaWord, true_word, and_word, or_word, imp_word, not_word, eq_word, ex_word, some_word, all_word, call_word, rel_word, constant_word, scalar_word, local_word, array_word, parameter_word, op_word, Word, formula_word, term_word, number_word, unknown}
use Rattle.specification.specs.Text.{op_text, rel_text, formula_word_text, term_word_text, word_text, term_words, argument_words, binder_word, formula_words, procedure_key}
use Rattle.specification.specs.Moves.{newer, rounds_down, is_rounding}
use Rattle.specification.proofs.Laws.Contradiction.{contradiction}
use Rattle.specification.proofs.Laws.Lists.{each_map, each-++}
use Rattle.specification.proofs.Laws.Print.{IsDigit, Lacks, printℕ-numeral, printℕ-nonempty, printℕ-lacks}
use Rattle.mover.specs.Model.{in_word, rounds, rounding_place}
use Rattle.mover.proofs.Laws.MovedLines.{lacks}
use Rattle.mover.proofs.Laws.MovedChunks.{word-letters}

-- ---- spaces

letter-other : (b : ℕ) → in_word b ≡ true → eqb b 32 ≡ false
unfolding in_word is_in class_number class_of in_number
letter-other b e = go (eqb b 32) refl
  where
    go : (t : Bool) → eqb b 32 ≡ t → t ≡ false
    go true f = contradiction (cc (eqb-true b 32 f))
    go false f = refl

pub spaceless-word : (w : Word) → Lacks 32 (word_text newer w)
spaceless-word w = each_map letter-other (word_text newer w) (word-letters newer w)

spaceless-number : (n : ℕ) → Lacks 32 (printℕ n)
spaceless-number n = printℕ-lacks 32 (λ h. omega (arith, h.0)) n

pub spaceless-key : (P : Procedure) → Lacks 32 (procedure_key P)
unfolding Each
spaceless-key P =
    each-++ (λ b. eqb b 32 ≡ false) (bytes "proc=") (printℕ P.parameters ++ bytes ":") (lacks 32 (bytes "proc=") refl)
    (each-++ (λ b. eqb b 32 ≡ false) (printℕ P.parameters) (bytes ":") (spaceless-number P.parameters) (refl, tt))

-- ---- what is found after a space

digits-found : (t rest : Bytes) → Each IsDigit t → ¬ (t ≡ []) → rounds (32 ∷ (t ++ rest)) ≡ false
unfolding Each begins
digits-found [] rest h f = absurd (f refl)
digits-found (b ∷ t) rest h f =
    let other : (c : ℕ) → 57 < c → eqb c b ≡ false = λ c l. ne_eqb c b (λ e. omega (arith, h.0.1)) in
    rw (other 100 (omega arith), other 109 (omega arith))

number-found : (n : ℕ) (rest : Bytes) → rounds (32 ∷ (printℕ n ++ rest)) ≡ false
number-found n rest = digits-found (printℕ n) rest (printℕ-numeral n).all_digits (printℕ-nonempty n)

formula-found : (f : FormulaWord) (rest : Bytes) → rounds (32 ∷ (formula_word_text f ++ rest)) ≡ false
unfolding formula_word_text rel_text begins
formula-found true_word rest = refl
formula-found and_word rest = refl
formula-found or_word rest = refl
formula-found imp_word rest = refl
formula-found not_word rest = refl
formula-found eq_word rest = refl
formula-found ex_word rest = refl
formula-found some_word rest = refl
formula-found all_word rest = refl
formula-found call_word rest = refl
formula-found (rel_word ne) rest = refl
formula-found (rel_word lt) rest = refl
formula-found (rel_word le) rest = refl
formula-found (rel_word gt) rest = refl
formula-found (rel_word ge) rest = refl

op-found : (o : Op) (rest : Bytes) → rounds (32 ∷ (op_text newer o ++ rest)) ≡ rounds_down o
unfolding op_text begins rounds_down
op-found add rest = refl
op-found sub rest = refl
op-found mul rest = refl
op-found quo rest = refl
op-found rem rest = refl
op-found div rest = refl
op-found modulo rest = refl

-- a word that is one
abbrev pub Known : Word → Type 0
Known w = ¬ (w ≡ unknown)

pub word-found : (w : Word) → Known w → (rest : Bytes) → rounds (32 ∷ (word_text newer w ++ rest)) ≡ is_rounding w
unfolding word_text term_word_text is_rounding printℤ begins
word-found (formula_word f) k rest = formula-found f rest
word-found (term_word (constant_word (pos n))) k rest = number-found n rest
word-found (term_word (constant_word (negsuc n))) k rest = refl
word-found (term_word (scalar_word n)) k rest = refl
word-found (term_word (local_word n)) k rest = refl
word-found (term_word (array_word n)) k rest = refl
word-found (term_word (parameter_word n)) k rest = refl
word-found (term_word (op_word o)) k rest = op-found o rest
word-found (number_word n) k rest = number-found n rest
word-found unknown k rest = absurd (k refl)

-- ---- the words of a formula

known-term : (t : Term) → Each Known (term_words t)
unfolding term_words Each
known-term (constant z) = (λ e. contradiction cc, tt)
known-term (scalar_at n) = (λ e. contradiction cc, tt)
known-term (local_at l) = (λ e. contradiction cc, tt)
known-term (parameter n) = (λ e. contradiction cc, tt)
known-term (element_at a t) = (λ e. contradiction cc, known-term t)
known-term (apply o s t) = (λ e. contradiction cc, each-++ Known (term_words s) (term_words t) (known-term s) (known-term t))

known-arguments : (ts : List Term) → Each Known (argument_words ts)
unfolding argument_words Each
known-arguments [] = tt
known-arguments (t ∷ ts) = each-++ Known (term_words t) (argument_words ts) (known-term t) (known-arguments ts)

-- the first is a formula's
pub data Written : List Word → Type 0 where
  written : (f : FormulaWord) (ws : List Word) → Each Known ws → Written (formula_word f ∷ ws)

all_known : (ws : List Word) → Written ws → Each Known ws
unfolding Each
all_known ws (written f us h) = (λ e. contradiction cc, h)

two : (us vs : List Word) → Written us → Written vs → Each Known (us ++ vs)
two us vs h k = each-++ Known us vs (all_known us h) (all_known vs k)

two-terms : (s t : Term) → Each Known (term_words s ++ term_words t)
two-terms s t = each-++ Known (term_words s) (term_words t) (known-term s) (known-term t)

-- a binder, what its local goes through, and a formula
bounded : (l : ℕ) (a b : Term) (ws : List Word) → Each Known ws → Each Known (binder_word l ∷ (term_words a ++ (term_words b ++ ws)))
unfolding Each
bounded l a b ws h =
    let k = each-++ Known (term_words b) ws (known-term b) h in
    (λ e. contradiction cc, each-++ Known (term_words a) (term_words b ++ ws) (known-term a) k)

pub formula-written : (F : Formula) → Written (formula_words F)
unfolding formula_words Each
formula-written truth = written true_word [] tt
formula-written (and F G) =
    written and_word (formula_words F ++ formula_words G) (two (formula_words F) (formula_words G) (formula-written F) (formula-written G))
formula-written (or F G) =
    written or_word (formula_words F ++ formula_words G) (two (formula_words F) (formula_words G) (formula-written F) (formula-written G))
formula-written (imp tok F G) =
    written imp_word (formula_words F ++ formula_words G) (two (formula_words F) (formula_words G) (formula-written F) (formula-written G))
formula-written (neg tok F) = written not_word (formula_words F) (all_known (formula_words F) (formula-written F))
formula-written (eq tok s t) = written eq_word (term_words s ++ term_words t) (two-terms s t)
formula-written (compare tok r s t) = written (rel_word r) (term_words s ++ term_words t) (two-terms s t)
formula-written (ex l F) = written ex_word (binder_word l ∷ formula_words F) (λ e. contradiction cc, all_known (formula_words F) (formula-written F))
formula-written (some tok l a b F) =
    written some_word (binder_word l ∷ (term_words a ++ (term_words b ++ formula_words F)))
    (bounded l a b (formula_words F) (all_known (formula_words F) (formula-written F)))
formula-written (all tok l a b F) =
    written all_word (binder_word l ∷ (term_words a ++ (term_words b ++ formula_words F)))
    (bounded l a b (formula_words F) (all_known (formula_words F) (formula-written F)))
formula-written (call K ts F) = written call_word (number_word K ∷ argument_words ts) (λ e. contradiction cc, known-arguments ts)

-- ---- bytes that are passed over

-- no word begins without a space
spaced-not : (k t : Bytes) (b : ℕ) → eqb b 32 ≡ false → begins (32 ∷ k) (b ∷ t) ≡ false
unfolding begins
spaced-not k t b h = rw (ne_eqb 32 b (λ e. eqb-false b 32 h (sym e)))

pub place-past : (p : ℕ) (t w : Bytes) → Lacks 32 t → rounding_place p (t ++ w) ≡ rounding_place (p + length t) w
unfolding rounding_place Each
place-past p [] w h = rw (add-zero p)
place-past p (b ∷ t) w h =
    let e : suc p + length t ≡ p + suc (length t) = omega arith in
    rw (spaced-not (bytes "div") (t ++ w) b h.0, spaced-not (bytes "mod") (t ++ w) b h.0)
    (place-past (suc p) t w h.1 ∙ ap (λ (q : ℕ). rounding_place q w) e)

-- a line of a key and words, and what follows
pub line-parts : (key ws rest : Bytes) → key ++ (ws ++ bytes "\n") ++ rest ≡ key ++ (ws ++ 10 ∷ rest)
line-parts key ws rest = simp append_assoc
