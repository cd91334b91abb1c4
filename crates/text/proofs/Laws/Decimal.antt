-- Laws of numbers: digits read one by one with the value held at 2^32, the form, the sign, and words of 32 bits from the held
-- value. What callers need of a result is in Laws/Result. Assumes nothing.
use Prim.Native.Nat.{ℕ, zero, suc, ◌+◌, ◌-◌, ◌*◌, ◌<◌, ◌≤◌}
use mathlib.Core.Path.{◌≡◌, refl, sym, ap, ◌∙◌}
use mathlib.Core.Bool.{Bool, true, false, not, ◌&&◌}
use mathlib.Core.List.{[], ◌∷◌}
use mathlib.Core.Option.{Option, none, some}
use native.Mathlib.Numerals.{add-one}
use native.Mathlib.Omega.{arith}
use lib.Dec.{leb, eqb}
use lib.IntN.{pos, negsuc}
use lib.ListN.{length, get_or, take, drop, drop_of_length-le, length-drop}
use lib.Seq.{drop-cons, take_all}
use borrow.Author.Tests.{leb-true, leb-false, le-leb, lt-leb, ne_eqb}
use Rattle.std.specs.Prelude.{Some, option_and_then}
use Rattle.specification.specs.Bytes.{Bytes, pick, digit, minus, class_number, is_in}
use Rattle.specification.specs.Parser.{next}
use Rattle.specification.specs.Number.{all_digits, decimal, well_formed, natural, negated, unsigned, integer}
use Rattle.specification.proofs.Laws.Contradiction.{contradiction}
use Rattle.text.specs.Class.{class_at}
use Rattle.text.proofs.Laws.Class.{class-next, class-not-next}
use Rattle.text.specs.Decimal.{held, capped, worded, read_on, headed, plain_word, minus_word}

-- ---- digit by digit

-- what a number above 2^32 was does not matter
pub decimal-held : (bs : Bytes) (n : ℕ) → held (decimal (held n) bs) ≡ held (decimal n bs)
unfolding decimal
decimal-held [] n = omega arith
decimal-held (b ∷ bs) n =
    let e : held (held n * 10 + (b - 48)) ≡ held (n * 10 + (b - 48)) = omega arith in
    sym (decimal-held bs (held n * 10 + (b - 48))) ∙ ap (λ (k : ℕ). held (decimal k bs)) e ∙ decimal-held bs (n * 10 + (b - 48))

module _ (s : Bytes) (i n : ℕ) where
  pub digit_more : i < length s → is_in digit (get_or s i 0) ≡ true
      → capped (read_on n (drop i s)) ≡ capped (read_on (held (n * 10 + (get_or s i 0 - 48))) (drop (i + 1) s))
  unfolding all_digits decimal
  digit_more h e = rw (drop-cons s i 0 h, e, add-one) (go (all_digits (drop (suc i) s)))
    where
      go : (t : Bool) → capped (pick t (some (decimal (n * 10 + (get_or s i 0 - 48)) (drop (suc i) s))) none)
          ≡ capped (pick t (some (decimal (held (n * 10 + (get_or s i 0 - 48))) (drop (suc i) s))) none)
      go true = rw decimal-held
      go false = refl

  pub digit_none : i < length s → is_in digit (get_or s i 0) ≡ false → capped (read_on n (drop i s)) ≡ capped none
  unfolding all_digits
  digit_none h e = rw (drop-cons s i 0 h, e)

  pub digit_out : length s ≤ i → n ≤ 4294967296 → capped (read_on n (drop i s)) ≡ Some n
  unfolding all_digits decimal
  digit_out h l =
      let m : held n ≡ n = omega arith in
      rw (drop_of_length-le s h, m)

-- ---- the form

formed : (bs : Bytes) → well_formed bs ≡ (headed bs && all_digits bs)
unfolding well_formed headed
formed [] = refl
formed (b ∷ []) = refl
formed (b ∷ c ∷ bs) = refl

module _ (bs : Bytes) where
  pub natural_unheaded : headed bs ≡ false → natural bs ≡ none
  unfolding natural
  natural_unheaded e = rw (formed, e)

  pub natural_headed : headed bs ≡ true → natural bs ≡ read_on 0 bs
  unfolding natural
  natural_headed e = rw (formed, e)

  -- the head by the length
  pub headed_none : length bs ≡ 0 → headed bs ≡ false
  unfolding headed
  headed_none e = go bs e
    where
      go : (l : Bytes) → length l ≡ 0 → headed l ≡ false
      go [] e = refl
      go (b ∷ l) e = absurd (omega arith)

  pub headed_one : length bs ≡ 1 → headed bs ≡ true
  unfolding headed
  headed_one e = go bs e
    where
      go : (l : Bytes) → length l ≡ 1 → headed l ≡ true
      go [] e = absurd (omega arith)
      go (b ∷ []) e = refl
      go (b ∷ c ∷ l) e = absurd (omega arith)

  pub headed_more : 1 < length bs → headed bs ≡ not (eqb (get_or bs 0 0) 48)
  unfolding headed
  headed_more h = go bs h
    where
      go : (l : Bytes) → 1 < length l → headed l ≡ not (eqb (get_or l 0 0) 48)
      go [] h = absurd (omega arith)
      go (b ∷ []) h = absurd (omega arith)
      go (b ∷ c ∷ l) h = refl

-- ---- the sign

head-minus : (s : Bytes) → next minus s ≡ true → integer s ≡ negated (natural (drop 1 s))
unfolding integer
head-minus [] e = contradiction cc
head-minus (b ∷ bs) e = rw e

head_plain : (s : Bytes) → next minus s ≡ false → integer s ≡ unsigned (natural s)
unfolding integer natural well_formed
head_plain [] e = refl
head_plain (b ∷ bs) e = rw e

module _ (s : Bytes) where
  pub integer_minus : class_at s 0 ≡ class_number minus → integer s ≡ negated (natural (take (length s - 1) (drop 1 s)))
  integer_minus e =
      let whole : take (length s - 1) (drop 1 s) ≡ drop 1 s = take_all (length s - 1) (drop 1 s) (omega (arith, length-drop 1 s)) in
      head-minus s (class-next s 0 minus e) ∙ ap (λ (l : Bytes). negated (natural l)) (sym whole)

  pub integer_plain : (class_at s 0 ≡ class_number minus → ⊥) → integer s ≡ unsigned (natural s)
  integer_plain h = head_plain s (class-not-next s 0 minus h)

-- ---- words

-- the held value decides the word, since what is held is out of range
pub worded_plain : (o : Option ℕ) → worded (unsigned o) ≡ option_and_then plain_word (capped o)
worded_plain none = refl
worded_plain (some n) = go (leb n 2147483647) refl
  where
    go : (t : Bool) → leb n 2147483647 ≡ t → worded (some (pos n)) ≡ plain_word (held n)
    go true e =
        let l : n ≤ 2147483647 = leb-true n 2147483647 e in
        let m : held n ≡ n = omega arith in
        rw (m, e)
    go false e =
        let l : 2147483647 < n = leb-false n 2147483647 e in
        let m : 2147483647 < held n = omega arith in
        rw (e, lt-leb (held n) 2147483647 m)

pub worded_minus : (o : Option ℕ) → worded (negated o) ≡ option_and_then minus_word (capped o)
worded_minus none = refl
worded_minus (some zero) = refl
worded_minus (some (suc n)) = go (leb n 2147483647) refl
  where
    go : (t : Bool) → leb n 2147483647 ≡ t → worded (some (negsuc n)) ≡ minus_word (held (suc n))
    go true e =
        let l : n ≤ 2147483647 = leb-true n 2147483647 e in
        let m : held (suc n) ≡ suc n = omega arith in
        let z : eqb (suc n) 0 ≡ false = ne_eqb (suc n) 0 (λ h. omega arith) in
        let k : leb (suc n) 2147483648 ≡ true = le-leb (suc n) 2147483648 (omega arith) in
        let d : 2147483647 - n ≡ 2147483648 - suc n = omega arith in
        rw (m, e, z, k, d)
    go false e =
        let l : 2147483647 < n = leb-false n 2147483647 e in
        let z : eqb (held (suc n)) 0 ≡ false = ne_eqb (held (suc n)) 0 (λ h. omega arith) in
        let k : leb (held (suc n)) 2147483648 ≡ false = lt-leb (held (suc n)) 2147483648 (omega arith) in
        rw (e, z, k)
