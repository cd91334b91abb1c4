-- Laws of words: two words are the same if and only if their numbers are, and a word is looked up by its number.
-- Assumes nothing.
use mathlib.Core.Path.{◌≡◌, refl, ◌∙◌, sym, ap}
use mathlib.Core.Bool.{Bool, true, false, ◌&&◌}
use mathlib.Core.List.{List, [], ◌∷◌, ◌++◌}
use mathlib.Core.Option.{some as just}
use Prim.Native.Nat.{ℕ, zero, suc, ◌+◌, ◌-◌, ◌*◌, ◌^◌, ◌≤◌, ◌<◌}
use native.Mathlib.Nat.{lt_of_lt_of_le}
use native.Mathlib.Omega.{arith}
use lib.Pow.{pow_mono, pow-add}
use lib.Dec.{T, eqb, ltb, leb, ltb→lt, leb→le, eqb→eq}
use lib.ListN.{length, get_or, length-append}
use borrow.Author.Tests.{eq-eqb, ne_eqb, eqb-true, eqb-false, lt-ltb, le-ltb}
use Rattle.specification.specs.Bytes.{Bytes, bytes, pick, same}
use Rattle.specification.specs.Words.{call_word, formula_word, Entry, ◌means◌, common_words, older_division, first_rounding, division, own_words, words}
use Rattle.std.specs.Prelude.{Some, None}
use Rattle.std.specs.List.{push}
use Rattle.specification.proofs.Laws.Contradiction.{contradiction}
use Rattle.sheet.specs.Codes.{token_of}
use Rattle.sheet.specs.Packed.{packed, entry_code, code_by, code_in, code_or_none}

-- ---- two words

packed-pos : (xs : Bytes) → 1 ≤ packed xs
unfolding packed
packed-pos [] = omega arith
packed-pos (x ∷ xs) = omega (arith, packed-pos xs)

-- each element is a byte
abbrev pub Small : Bytes → Type 0
Small xs = (i : ℕ) → get_or xs i 0 < 256

module _ (x y p q : ℕ) (hx : x < 256) (hy : y < 256) (t : Bool) (e : t ≡ eqb p q) where
  joined : (u : Bool) → eqb x y ≡ u → (u && t) ≡ eqb (x + 256 * p) (y + 256 * q)
  joined true f = e ∙ go (eqb p q) refl
    where
      go : (v : Bool) → eqb p q ≡ v → v ≡ eqb (x + 256 * p) (y + 256 * q)
      go true g = sym (eq-eqb (x + 256 * p) (y + 256 * q) (omega (arith, eqb-true x y f, eqb-true p q g)))
      go false g = sym (ne_eqb (x + 256 * p) (y + 256 * q) (λ r. eqb-false p q g (omega (arith, eqb-true x y f))))
  joined false f = sym (ne_eqb (x + 256 * p) (y + 256 * q) (λ r. eqb-false x y f (omega arith)))

pub same-packed : (xs ys : Bytes) → Small xs → Small ys → same xs ys ≡ eqb (packed xs) (packed ys)
unfolding same packed
same-packed [] [] hx hy = refl
same-packed [] (y ∷ ys) hx hy = sym (ne_eqb 1 (y + 256 * packed ys) (λ e. omega (arith, packed-pos ys)))
same-packed (x ∷ xs) [] hx hy = sym (ne_eqb (x + 256 * packed xs) 1 (λ e. omega (arith, packed-pos xs)))
same-packed (x ∷ xs) (y ∷ ys) hx hy =
    joined x y (packed xs) (packed ys) (hx 0) (hy 0) (same xs ys) (same-packed xs ys (λ i. hx (suc i)) (λ i. hy (suc i))) (eqb x y) refl

differs : (xs ys : Bytes) → (length xs ≡ length ys → ⊥) → same xs ys ≡ false
unfolding same
differs [] [] h = absurd (h refl)
differs [] (y ∷ ys) h = refl
differs (x ∷ xs) [] h = refl
differs (x ∷ xs) (y ∷ ys) h = go (eqb x y) (differs xs ys (λ e. h (ap suc e)))
  where
    go : (u : Bool) → same xs ys ≡ false → (u && same xs ys) ≡ false
    go true e = e
    go false e = refl

-- ---- packing, from the last byte on

-- the number of these bytes and of those behind them, which have the number n
abbrev pub packed_onto : Bytes → ℕ → ℕ
packed_onto [] n = n
packed_onto (b ∷ bs) n = b + 256 * packed_onto bs n

onto-one : (s : Bytes) → packed_onto s 1 ≡ packed s
unfolding packed
onto-one [] = refl
onto-one (b ∷ bs) = ap (λ (k : ℕ). b + 256 * k) (onto-one bs)

onto-push : (s : Bytes) (b n : ℕ) → packed_onto (push s b) n ≡ packed_onto s (b + 256 * n)
onto-push [] b n = refl
onto-push (c ∷ s) b n = ap (λ (k : ℕ). c + 256 * k) (onto-push s b n)

pack-fits : (i n b : ℕ) → i < 4 → n < 2 ^ (40 - 8 * (i + 1)) → b < 256 → b + 256 * n < 2 ^ (40 - 8 * i)
pack-fits i n b h l m =
    let e : 40 - 8 * i ≡ 8 + (40 - 8 * (i + 1)) = omega arith in
    rw (e, pow-add 2 8 (40 - 8 * (i + 1))) (omega arith)

-- the bytes of t of which these are left, and the number of the others
pub record Packing (t left : Bytes) (n : ℕ) : Type 0 where
  pub few : length left ≤ 4
  pub is : packed_onto left n ≡ packed t
  pub fits : n < 2 ^ (40 - 8 * length left)

pub pack-none : (t : Bytes) → length t ≤ 4 → Packing t t 1
pack-none t h = record {
  few = h;
  is = onto-one t;
  fits = lt_of_lt_of_le (omega arith) (pow_mono {i = 8} {j = 40 - 8 * length t} (omega arith));
}

pub pack-word : {t left : Bytes} {n : ℕ} → Packing t left n → n < 2 ^ 40
pack-word {t} {left} p = lt_of_lt_of_le p.fits (pow_mono {i = 40 - 8 * length left} {j = 40} (omega arith))

pub pack-more : {t left : Bytes} {n : ℕ} (rest : Bytes) (b : ℕ) → left ≡ push rest b → b < 256 → Packing t left n → Packing t rest (b + 256 * n)
pack-more {t} {left} {n} rest b is small p =
    let long : length left ≡ length rest + 1 = ap length is ∙ length-append rest (b ∷ []) in
    record {
      few = omega (arith, long, p.few);
      is = sym (onto-push rest b n) ∙ ap (λ (l : Bytes). packed_onto l n) (sym is) ∙ p.is;
      fits = pack-fits (length rest) n b (omega (arith, long, p.few)) (rw long at p.fits) small;
    }

pub pack-done : (t left : Bytes) (n : ℕ) → length left ≡ 0 → Packing t left n → n ≡ packed t
pack-done t [] n e p = p.is
pack-done t (b ∷ bs) n e p = absurd (omega arith)

-- ---- the search

-- every word has at most four bytes, and a code that is not 0, with operand 0: one test that antt computes
pub small : Bytes → Bool
small [] = true
small (b ∷ bs) = ltb b 256 && small bs

pub sound : Entry → Bool
sound e = leb (length e.text) 4 && (small e.text && (ltb 0 (entry_code e) && eqb (token_of (just e.word)).operand 0))

unfoldable pub brief : List Entry → Bool
brief [] = true
brief (e ∷ es) = sound e && brief es

pub first : (a b : Bool) → T (a && b) → T a
first true b t = tt
first false b t = absurd t

pub second : (a b : Bool) → T (a && b) → T b
second true b t = t
second false b t = absurd t

small_at : (xs : Bytes) → T (small xs) → Small xs
unfolding small
small_at [] t i = omega arith
small_at (x ∷ xs) t zero = ltb→lt x 256 (first (ltb x 256) (small xs) t)
small_at (x ∷ xs) t (suc i) = small_at xs (second (ltb x 256) (small xs) t) i

pub record Sound (e : Entry) : Type 0 where
  pub short : length e.text ≤ 4
  pub bytes : Small e.text
  pub some : 0 < entry_code e
  pub plain : (token_of (just e.word)).operand ≡ 0

pub sound-of : (e : Entry) → T (sound e) → Sound e
unfolding sound
sound-of e t =
    let a = leb (length e.text) 4 in
    let b = small e.text in
    let d = ltb 0 (entry_code e) in
    let z = eqb (token_of (just e.word)).operand 0 in
    record {
      short = leb→le _ _ (first a (b && (d && z)) t);
      bytes = small_at e.text (first b (d && z) (second a (b && (d && z)) t));
      some = ltb→lt 0 _ (first d z (second b (d && z) (second a (b && (d && z)) t)));
      plain = eqb→eq _ 0 (second d z (second b (d && z) (second a (b && (d && z)) t)));
    }

long : (es : List Entry) (t : Bytes) → T (brief es) → 4 < length t → code_in t es ≡ 0
unfolding code_in brief
long [] t b h = refl
long (e ∷ es) t b h =
    let l = sound-of e (first (sound e) (brief es) b) in
    rw (differs t e.text (λ q. omega (arith, l.short))) (long es t (second (sound e) (brief es) b) h)

-- looked up by its number
by_number : (es : List Entry) (t : Bytes) → T (brief es) → Small t → code_in t es ≡ code_by (packed t) es
unfolding code_in code_by brief
by_number [] t b s = refl
by_number (e ∷ es) t b s =
    let l = sound-of e (first (sound e) (brief es) b) in
    rw (same-packed t e.text s l.bytes, by_number es t (second (sound e) (brief es) b) s)

module _ (edition : ℕ) where
  pub all-brief : T (brief (words edition))
  unfolding brief sound small common_words older_division division own_words words token_of
  all-brief = by (eqb edition 1) (ltb edition first_rounding)
    where
      by : (b c : Bool) → T (brief (common_words ++ pick b older_division (bytes "call" means formula_word call_word ∷ pick c older_division division)))
      by true c = tt
      by false true = tt
      by false false = tt

  pub code-long : (t : Bytes) → 4 < length t → code_in t (words edition) ≡ 0
  code-long t h = long (words edition) t all-brief h

  pub code-packed : (t : Bytes) → Small t → code_in t (words edition) ≡ code_by (packed t) (words edition)
  code-packed t s = by_number (words edition) t all-brief s

-- which set it is
pub first-words : (edition k : ℕ) → edition ≡ 1 → code_by k (words 1) ≡ code_by k (words edition)
first-words edition k e = rw e

pub second-words : (edition k : ℕ) → (edition ≡ 1 → ⊥) → edition < first_rounding → code_by k (words 2) ≡ code_by k (words edition)
unfolding words own_words
second-words edition k n h = rw (ne_eqb edition 1 n, lt-ltb edition first_rounding h)

pub third-words : (edition k : ℕ) → (edition ≡ 1 → ⊥) → first_rounding ≤ edition → code_by k (words 3) ≡ code_by k (words edition)
unfolding words own_words
third-words edition k n h = rw (ne_eqb edition 1 n, le-ltb edition first_rounding h)

-- what a looked-up code says

pub code-some : (k c : ℕ) → Some k ≡ code_or_none c → (c ≡ 0 → ⊥) × (c ≡ k)
code-some k c e = go (eqb c 0) refl e
  where
    go : (t : Bool) → eqb c 0 ≡ t → Some k ≡ pick t None (Some c) → (c ≡ 0 → ⊥) × (c ≡ k)
    go true q e = contradiction cc
    go false q e = (eqb-false c 0 q, cc)

pub code-none : (c : ℕ) → None ≡ code_or_none c → c ≡ 0
code-none c e = go (eqb c 0) refl e
  where
    go : (t : Bool) → eqb c 0 ≡ t → None ≡ pick t None (Some c) → c ≡ 0
    go true q e = eqb-true c 0 q
    go false q e = contradiction cc
