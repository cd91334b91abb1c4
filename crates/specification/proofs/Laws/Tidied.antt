-- Sheets without empty ranges (specs/Tidy.antt). Numbering tokens keeps the words, dropping empty ranges adds none but `eq 0 1` and `true`, and
-- makes no formula longer; a tidied sheet has no empty range, and tidying it again, or a sheet that has none and whose tokens have their
-- numbers, changes nothing. Assumes nothing.
use Prim.Native.Nat.{ℕ, suc, ◌+◌, ◌≤◌}
use native.Mathlib.Omega.{arith}
use mathlib.Core.Path.{◌≡◌, refl, ◌∙◌, ap, ap₂}
use mathlib.Core.Bool.{Bool, true, false, ◌||◌}
use mathlib.Core.List.{List, [], ◌∷◌, ◌++◌}
use lib.ListN.{length}
use lib.IntN.{pos}
use Rattle.specification.specs.Lists.{Each}
use Rattle.specification.specs.Bytes.{pick}
use Rattle.specification.specs.Ast.{Term, Formula, truth, and, or, imp, neg, eq, compare, ex, some, all, call, Procedure}
use Rattle.specification.specs.Words.{true_word, and_word, or_word, imp_word, not_word, eq_word, ex_word, some_word, all_word, call_word, rel_word, constant_word, Word, formula_word, term_word}
use Rattle.specification.specs.Formula.{empty_range}
use Rattle.specification.specs.Text.{term_words, binder_word, formula_words}
use Rattle.specification.specs.Tidy.{has_empty, falsehood, dropped, token_count, numbered}
use Rattle.specification.proofs.Laws.Contradiction.{contradiction}
use Rattle.specification.proofs.Laws.Lists.{each-++, each-parts}

-- ---- numbers of tokens

pub words-numbered : (Ps : List Procedure) (n : ℕ) (F : Formula) → formula_words (numbered Ps n F) ≡ formula_words F
unfolding formula_words numbered
words-numbered Ps n truth = refl
words-numbered Ps n (and F G) = rw (words-numbered Ps (suc n) F, words-numbered Ps (suc n + token_count F) G)
words-numbered Ps n (or F G) = rw (words-numbered Ps (suc n) F, words-numbered Ps (suc n + token_count F) G)
words-numbered Ps n (imp tok F G) = rw (words-numbered Ps (suc n) F, words-numbered Ps (suc n + token_count F) G)
words-numbered Ps n (neg tok F) = rw (words-numbered Ps (suc n) F)
words-numbered Ps n (eq tok s t) = refl
words-numbered Ps n (compare tok r s t) = refl
words-numbered Ps n (ex l F) = rw (words-numbered Ps (2 + n) F)
words-numbered Ps n (some tok l a b F) = rw (words-numbered Ps (2 + n + length (term_words a ++ term_words b)) F)
words-numbered Ps n (all tok l a b F) = rw (words-numbered Ps (2 + n + length (term_words a ++ term_words b)) F)
words-numbered Ps n (call K ts F) = refl

pub numbered-twice : (Ps : List Procedure) (n : ℕ) (F : Formula) → numbered Ps n (numbered Ps n F) ≡ numbered Ps n F
unfolding numbered
numbered-twice Ps n truth = refl
numbered-twice Ps n (and F G) =
    rw (words-numbered Ps (suc n) F) (ap₂ and (numbered-twice Ps (suc n) F) (numbered-twice Ps (suc n + token_count F) G))
numbered-twice Ps n (or F G) =
    rw (words-numbered Ps (suc n) F) (ap₂ or (numbered-twice Ps (suc n) F) (numbered-twice Ps (suc n + token_count F) G))
numbered-twice Ps n (imp tok F G) =
    rw (words-numbered Ps (suc n) F) (ap₂ (imp n) (numbered-twice Ps (suc n) F) (numbered-twice Ps (suc n + token_count F) G))
numbered-twice Ps n (neg tok F) = ap (neg n) (numbered-twice Ps (suc n) F)
numbered-twice Ps n (eq tok s t) = refl
numbered-twice Ps n (compare tok r s t) = refl
numbered-twice Ps n (ex l F) = ap (ex l) (numbered-twice Ps (2 + n) F)
numbered-twice Ps n (some tok l a b F) = ap (some n l a b) (numbered-twice Ps (2 + n + length (term_words a ++ term_words b)) F)
numbered-twice Ps n (all tok l a b F) = ap (all n l a b) (numbered-twice Ps (2 + n + length (term_words a ++ term_words b)) F)
numbered-twice Ps n (call K ts F) = refl

pub empty-numbered : (Ps : List Procedure) (n : ℕ) (F : Formula) → has_empty (numbered Ps n F) ≡ has_empty F
unfolding has_empty numbered
empty-numbered Ps n truth = refl
empty-numbered Ps n (and F G) = ap₂ ◌||◌ (empty-numbered Ps (suc n) F) (empty-numbered Ps (suc n + token_count F) G)
empty-numbered Ps n (or F G) = ap₂ ◌||◌ (empty-numbered Ps (suc n) F) (empty-numbered Ps (suc n + token_count F) G)
empty-numbered Ps n (imp tok F G) = ap₂ ◌||◌ (empty-numbered Ps (suc n) F) (empty-numbered Ps (suc n + token_count F) G)
empty-numbered Ps n (neg tok F) = empty-numbered Ps (suc n) F
empty-numbered Ps n (eq tok s t) = refl
empty-numbered Ps n (compare tok r s t) = refl
empty-numbered Ps n (ex l F) = empty-numbered Ps (2 + n) F
empty-numbered Ps n (some tok l a b F) = ap (λ c. empty_range a b || c) (empty-numbered Ps (2 + n + length (term_words a ++ term_words b)) F)
empty-numbered Ps n (all tok l a b F) = ap (λ c. empty_range a b || c) (empty-numbered Ps (2 + n + length (term_words a ++ term_words b)) F)
empty-numbered Ps n (call K ts F) = refl

-- ---- dropping empty ranges

pub dropped-orderly : (F : Formula) → has_empty (dropped F) ≡ false
unfolding has_empty dropped
dropped-orderly truth = refl
dropped-orderly (and F G) = rw (dropped-orderly F, dropped-orderly G)
dropped-orderly (or F G) = rw (dropped-orderly F, dropped-orderly G)
dropped-orderly (imp tok F G) = rw (dropped-orderly F, dropped-orderly G)
dropped-orderly (neg tok F) = dropped-orderly F
dropped-orderly (eq tok s t) = refl
dropped-orderly (compare tok r s t) = refl
dropped-orderly (ex l F) = dropped-orderly F
dropped-orderly (some tok l a b F) = go (empty_range a b) refl (dropped-orderly F)
  where
    go : (c : Bool) → empty_range a b ≡ c → has_empty (dropped F) ≡ false → has_empty (pick c (falsehood tok) (some tok l a b (dropped F))) ≡ false
    go true e h = refl
    go false e h = rw (e, h)
dropped-orderly (all tok l a b F) = go (empty_range a b) refl (dropped-orderly F)
  where
    go : (c : Bool) → empty_range a b ≡ c → has_empty (dropped F) ≡ false → has_empty (pick c truth (all tok l a b (dropped F))) ≡ false
    go true e h = refl
    go false e h = rw (e, h)
dropped-orderly (call K ts F) = refl

pub or-false : (a b : Bool) → a || b ≡ false → (a ≡ false) × (b ≡ false)
or-false true b e = contradiction cc
or-false false b e = (refl, e)

pub dropped-same : (F : Formula) → has_empty F ≡ false → dropped F ≡ F
unfolding has_empty dropped
dropped-same truth e = refl
dropped-same (and F G) e = let (x, y) = or-false (has_empty F) (has_empty G) e in ap₂ and (dropped-same F x) (dropped-same G y)
dropped-same (or F G) e = let (x, y) = or-false (has_empty F) (has_empty G) e in ap₂ or (dropped-same F x) (dropped-same G y)
dropped-same (imp tok F G) e = let (x, y) = or-false (has_empty F) (has_empty G) e in ap₂ (imp tok) (dropped-same F x) (dropped-same G y)
dropped-same (neg tok F) e = ap (neg tok) (dropped-same F e)
dropped-same (eq tok s t) e = refl
dropped-same (compare tok r s t) e = refl
dropped-same (ex l F) e = ap (ex l) (dropped-same F e)
dropped-same (some tok l a b F) e =
    let (x, y) = or-false (empty_range a b) (has_empty F) e in rw x (ap (some tok l a b) (dropped-same F y))
dropped-same (all tok l a b F) e =
    let (x, y) = or-false (empty_range a b) (has_empty F) e in rw x (ap (all tok l a b) (dropped-same F y))
dropped-same (call K ts F) e = refl

-- the words that are written have it
abbrev zero_word : Word
zero_word = term_word (constant_word (pos 0))

abbrev one_word : Word
one_word = term_word (constant_word (pos 1))

abbrev pub OfWritten : (Word → Type 0) → Type 0
OfWritten P = P (formula_word true_word) × P (formula_word eq_word) × P zero_word × P one_word

-- then the words that are left have it, if all had
module _ (P : Word → Type 0) (o : OfWritten P) where
  abbrev Words : Formula → Type 0
  Words F = Each P (formula_words F)

  two : (F G : Formula) → (Words F → Words (dropped F)) → (Words G → Words (dropped G)) →
      Each P (formula_words F ++ formula_words G) → Each P (formula_words (dropped F) ++ formula_words (dropped G))
  two F G f g h =
      let (x, y) = each-parts P (formula_words F) (formula_words G) h in
      each-++ P (formula_words (dropped F)) (formula_words (dropped G)) (f x) (g y)

  -- a binder's bounds stay where its formula does
  bounds : (a b : Term) (F : Formula) → (Words F → Words (dropped F)) → Each P (term_words a ++ (term_words b ++ formula_words F)) →
      Each P (term_words a ++ (term_words b ++ formula_words (dropped F)))
  bounds a b F f h =
      let (x, rest) = each-parts P (term_words a) (term_words b ++ formula_words F) h in
      let (y, z) = each-parts P (term_words b) (formula_words F) rest in
      each-++ P (term_words a) (term_words b ++ formula_words (dropped F)) x (each-++ P (term_words b) (formula_words (dropped F)) y (f z))

  pub each-dropped : (F : Formula) → Words F → Words (dropped F)
  unfolding term_words formula_words dropped Each
  each-dropped truth h = h
  each-dropped (and F G) h = (h.0, two F G (each-dropped F) (each-dropped G) h.1)
  each-dropped (or F G) h = (h.0, two F G (each-dropped F) (each-dropped G) h.1)
  each-dropped (imp tok F G) h = (h.0, two F G (each-dropped F) (each-dropped G) h.1)
  each-dropped (neg tok F) h = (h.0, each-dropped F h.1)
  each-dropped (eq tok s u) h = h
  each-dropped (compare tok r s u) h = h
  each-dropped (ex l F) h = (h.0, (h.1.0, each-dropped F h.1.1))
  each-dropped (some tok l a b F) h = go (empty_range a b) (h.0, (h.1.0, bounds a b F (each-dropped F) h.1.1))
    where
      go : (x : Bool) → Words (some tok l a b (dropped F)) → Words (pick x (falsehood tok) (some tok l a b (dropped F)))
      go true k = (o.1, (o.2, (o.3, tt)))
      go false k = k
  each-dropped (all tok l a b F) h = go (empty_range a b) (h.0, (h.1.0, bounds a b F (each-dropped F) h.1.1))
    where
      go : (x : Bool) → Words (all tok l a b (dropped F)) → Words (pick x truth (all tok l a b (dropped F)))
      go true k = (o.0, tt)
      go false k = k
  each-dropped (call K ts F) h = h

-- ---- no formula gets longer

-- what words weigh together
unfoldable pub total : (Word → ℕ) → List Word → ℕ
total weight [] = 0
total weight (w ∷ ws) = weight w + total weight ws

-- where each word weighs something, and what is written no more than a quantifier's word and two more
module _ (weight : Word → ℕ) (least : (w : Word) → 1 ≤ weight w)
    (falsehood-light : weight (formula_word eq_word) + (weight zero_word + weight one_word) ≤ weight (formula_word some_word) + 2)
    (truth-light : weight (formula_word true_word) ≤ weight (formula_word all_word) + 2) where
  abbrev of : Formula → ℕ
  of F = total weight (formula_words F)

  total-++ : (us vs : List Word) → total weight (us ++ vs) ≡ total weight us + total weight vs
  unfolding total
  total-++ [] vs = omega arith
  total-++ (u ∷ us) vs = let h = total-++ us vs in omega (arith, h)

  lighter-two : (F G : Formula) → of (dropped F) ≤ of F → of (dropped G) ≤ of G →
      total weight (formula_words (dropped F) ++ formula_words (dropped G)) ≤ total weight (formula_words F ++ formula_words G)
  lighter-two F G h k =
      omega (arith, total-++ (formula_words F) (formula_words G), total-++ (formula_words (dropped F)) (formula_words (dropped G)), h, k)

  total-bounds : (a b : Term) (F : Formula) →
      total weight (term_words a ++ (term_words b ++ formula_words F)) ≡ total weight (term_words a) + (total weight (term_words b) + of F)
  total-bounds a b F =
      total-++ (term_words a) (term_words b ++ formula_words F) ∙ ap (total weight (term_words a) +◌) (total-++ (term_words b) (formula_words F))

  -- a formula has a word
  some-word : (F : Formula) → 1 ≤ of F
  unfolding formula_words total
  some-word truth = omega (arith, least (formula_word true_word))
  some-word (and F G) = omega (arith, least (formula_word and_word))
  some-word (or F G) = omega (arith, least (formula_word or_word))
  some-word (imp tok F G) = omega (arith, least (formula_word imp_word))
  some-word (neg tok F) = omega (arith, least (formula_word not_word))
  some-word (eq tok s t) = omega (arith, least (formula_word eq_word))
  some-word (compare tok r s t) = omega (arith, least (formula_word (rel_word r)))
  some-word (ex l F) = omega (arith, least (formula_word ex_word))
  some-word (some tok l a b F) = omega (arith, least (formula_word some_word))
  some-word (all tok l a b F) = omega (arith, least (formula_word all_word))
  some-word (call K ts F) = omega (arith, least (formula_word call_word))

  pub dropped-lighter : (F : Formula) → total weight (formula_words (dropped F)) ≤ total weight (formula_words F)
  unfolding formula_words dropped term_words total
  dropped-lighter truth = omega arith
  dropped-lighter (and F G) = let h = lighter-two F G (dropped-lighter F) (dropped-lighter G) in omega (arith, h)
  dropped-lighter (or F G) = let h = lighter-two F G (dropped-lighter F) (dropped-lighter G) in omega (arith, h)
  dropped-lighter (imp tok F G) = let h = lighter-two F G (dropped-lighter F) (dropped-lighter G) in omega (arith, h)
  dropped-lighter (neg tok F) = let h = dropped-lighter F in omega (arith, h)
  dropped-lighter (eq tok s t) = omega arith
  dropped-lighter (compare tok r s t) = omega arith
  dropped-lighter (ex l F) = let h = dropped-lighter F in omega (arith, h)
  dropped-lighter (some tok l a b F) = go (empty_range a b) (dropped-lighter F)
    where
      go : (x : Bool) → of (dropped F) ≤ of F → of (pick x (falsehood tok) (some tok l a b (dropped F))) ≤ of (some tok l a b F)
      go true h = omega (arith, falsehood-light, least (binder_word l), some-word F, total-bounds a b F)
      go false h = omega (arith, total-bounds a b F, total-bounds a b (dropped F), h)
  dropped-lighter (all tok l a b F) = go (empty_range a b) (dropped-lighter F)
    where
      go : (x : Bool) → of (dropped F) ≤ of F → of (pick x truth (all tok l a b (dropped F))) ≤ of (all tok l a b F)
      go true h = omega (arith, truth-light, least (binder_word l), some-word F, total-bounds a b F)
      go false h = omega (arith, total-bounds a b F, total-bounds a b (dropped F), h)
  dropped-lighter (call K ts F) = omega arith

-- in tokens
total-ones : (ws : List Word) → total (λ w. 1) ws ≡ length ws
unfolding total
total-ones [] = refl
total-ones (w ∷ ws) = let h = total-ones ws in omega (arith, h)

pub dropped-shorter : (F : Formula) → token_count (dropped F) ≤ token_count F
dropped-shorter F =
    let h = dropped-lighter (λ w. 1) (λ w. omega arith) (omega arith) (omega arith) F in
    omega (arith, h, total-ones (formula_words F), total-ones (formula_words (dropped F)))
