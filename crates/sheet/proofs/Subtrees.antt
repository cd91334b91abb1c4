-- The ends of subtrees, from the last token to the first: the end of a subtree is past its operands, each the end of the one before.
-- Assumes nothing.
use Prim.Native.Nat.{ℕ, zero, suc, ◌+◌, ◌-◌, ◌<◌, ◌≤◌}
use native.Mathlib.Nat.{add-zero}
use native.Mathlib.Omega.{arith}
use mathlib.Core.Path.{◌≡◌, refl, sym, ap, ◌∙◌}
use mathlib.Core.Bool.{Bool, true, false}
use mathlib.Core.List.{List, [], ◌∷◌, ◌++◌}
use lib.ListN.{length, get_or, set, drop, length-set, length-drop, drop_of_length-le}
use lib.Seq.{drop-cons, drop-drop, get_or-set_same, get_or-set_other, set_comm}
use lib.Dec.{ltb}
use borrow.Author.Tests.{ltb-true, ltb-false}
use Rattle.specification.specs.Bytes.{pick}
use Rattle.tables.specs.Layout.{max_tokens, token_slot, path_at}
use Rattle.sheet.specs.declared.Token.{Token}
use Rattle.sheet.specs.Codes.{token}
use Rattle.sheet.specs.Sorts.{arity}
use Rattle.sheet.specs.Tables.{Words, laid_tokens, after, laid_ends}
use Rattle.sheet.specs.Held.{code_at, operand_at, end_at}
use Rattle.sheet.specs.Stack.{Beside}
use Rattle.sheet.specs.Ends.{tokens_in, end_in, EndsAfter, end_from}
use Rattle.sheet.proofs.After.{after_none, after-add, after-length, after-drop}
use Rattle.sheet.proofs.Laid.{tokens-other, ends-other}

-- ---- the tokens that stand in the table

pub tokens-in-length : (w : Words) (i n : ℕ) → length (tokens_in w i n) ≡ n
unfolding tokens_in
tokens-in-length w i zero = refl
tokens-in-length w i (suc n) = ap suc (tokens-in-length w (suc i) n)

tokens-in-at : (w : Words) (i n k : ℕ) (d : Token) → k < n → get_or (tokens_in w i n) k d ≡ token (code_at w (i + k)) (operand_at w (i + k))
unfolding tokens_in
tokens-in-at w i zero k d h = absurd (omega arith)
tokens-in-at w i (suc n) zero d h = rw add-zero
tokens-in-at w i (suc n) (suc k) d h = let e : i + suc k ≡ suc i + k = omega arith in rw e (tokens-in-at w (suc i) n k d (omega arith))

tokens-in-same : (w w' : Words) (i n : ℕ) → ((j : ℕ) → i ≤ j → j < i + n → (code_at w' j ≡ code_at w j) × (operand_at w' j ≡ operand_at w j)) → tokens_in w' i n ≡ tokens_in w i n
unfolding tokens_in
tokens-in-same w w' i zero h = refl
tokens-in-same w w' i (suc n) h =
    let k = h i (omega arith) (omega arith) in
    rw (k.0, k.1, tokens-in-same w w' (suc i) n (λ j a b. h j (omega arith) (omega arith)))

-- those that were laid
laid-tokens-in : (ts : List Token) (i : ℕ) (w : Words) → token_slot (i + length ts) ≤ length w → tokens_in (laid_tokens i ts w) i (length ts) ≡ ts
unfolding tokens_in laid_tokens
laid-tokens-in [] i w h = refl
laid-tokens-in (t ∷ ts) i w h =
    let u = set w (token_slot i) t.code in
    let v = set u (token_slot i + 1) t.operand in
    let a : code_at (laid_tokens (suc i) ts v) i ≡ t.code =
    tokens-other (token_slot i) (suc i) ts v (λ m a b. (omega arith, omega arith)) ∙ get_or-set_other u (token_slot i + 1) (token_slot i) t.operand 0 (λ q. omega arith) ∙
    get_or-set_same w (token_slot i) t.code 0 (omega arith) in
    let b : operand_at (laid_tokens (suc i) ts v) i ≡ t.operand =
    tokens-other (token_slot i + 1) (suc i) ts v (λ m a b. (omega arith, omega arith)) ∙
    get_or-set_same u (token_slot i + 1) t.operand 0 (simp length-set (omega arith)) in
    rw (a, b, laid-tokens-in ts (suc i) v (simp length-set (omega arith)))

-- also with the stack beside them
pub beside-tokens-in : (ts : List Token) (w w' : Words) → length ts ≤ max_tokens → path_at ≤ length w → Beside (laid_tokens 0 ts w) w' → tokens_in w' 0 (length ts) ≡ ts
beside-tokens-in ts w w' h l b =
    tokens-in-same (laid_tokens 0 ts w) w' 0 (length ts) (λ j p q. (b.below (token_slot j) (omega arith), b.below (token_slot j + 1) (omega arith))) ∙
    laid-tokens-in ts 0 w (omega arith)

-- those that stand there, and behind them those that were laid
tokens-in-both : (w : Words) (i m n : ℕ) → tokens_in w i (m + n) ≡ tokens_in w i m ++ tokens_in w (i + m) n
unfolding tokens_in
tokens-in-both w i zero n = let e : i + 0 ≡ i = omega arith in let f : 0 + n ≡ n = omega arith in rw (e, f)
tokens-in-both w i (suc m) n =
    let e : i + suc m ≡ suc i + m = omega arith in
    let f : suc m + n ≡ suc (m + n) = omega arith in
    rw (e, f) (ap (λ xs. token (code_at w i) (operand_at w i) ∷ xs) (tokens-in-both w (suc i) m n))

pub beside-tokens-behind : (ts : List Token) (w w' : Words) (m n : ℕ) → m + length ts ≡ n → n ≤ max_tokens → path_at ≤ length w →
    Beside (laid_tokens m ts w) w' → tokens_in w' 0 n ≡ tokens_in w 0 m ++ ts
beside-tokens-behind ts w w' m n q h l b =
    let e : 0 + m ≡ m = omega arith in
    let before : tokens_in w' 0 m ≡ tokens_in w 0 m =
    tokens-in-same w w' 0 m (λ j p r. (
      b.below (token_slot j) (omega arith) ∙ tokens-other (token_slot j) m ts w (λ k x y. (omega arith, omega arith)),
      b.below (token_slot j + 1) (omega arith) ∙ tokens-other (token_slot j + 1) m ts w (λ k x y. (omega arith, omega arith)),
    )) in
    let own : tokens_in w' m (length ts) ≡ ts =
    tokens-in-same (laid_tokens m ts w) w' m (length ts) (λ j p r. (b.below (token_slot j) (omega arith), b.below (token_slot j + 1) (omega arith))) ∙
    laid-tokens-in ts m w (omega arith) in
    rw (sym q, tokens-in-both w' 0 m (length ts), e, before, own)

-- ---- one subtree

abbrev none : Token
none = token 0 0

after-cons : (t : Token) (ts : List Token) → after (t ∷ ts) 1 ≡ after ts (arity t.code)
unfolding after
after-cons t ts = ap (after ts) (add-zero (arity t.code))

module _ (ts : List Token) where
  after_one : (i : ℕ) → i < length ts → after (drop i ts) 1 ≡ after (drop (suc i) ts) (arity (get_or ts i none).code)
  after_one i h = ap (λ xs. after xs 1) (drop-cons ts i none h) ∙ after-cons (get_or ts i none) (drop (suc i) ts)

  -- past its end stands what is after it
  end-drop : (i : ℕ) → i < length ts → after (drop i ts) 1 ≡ drop (end_in ts i) ts
  unfolding end_in
  end-drop i h =
      let k = length (after (drop i ts) 1) in
      let e : i + (length ts - i - k) ≡ length ts - k = omega (arith, after-length (drop i ts) 1, length-drop i ts) in
      sym (after-drop (drop i ts) 1) ∙ rw (length-drop i ts, drop-drop, e)

  end-past : (i : ℕ) → i < length ts → (i < end_in ts i) × (end_in ts i ≤ length ts)
  unfolding end_in
  end-past i h =
      let a : length (after (drop i ts) 1) ≤ length ts - suc i = rw (after_one i h) (omega (arith, after-length (drop (suc i) ts) (arity (get_or ts i none).code), length-drop (suc i) ts)) in
      (omega arith, omega arith)

  -- the subtree of i ends k subtrees behind e
  pub record Passing (i e k : ℕ) : Type 0 where
    pub past : i < e
    pub inside : e ≤ length ts
    pub same : after (drop i ts) 1 ≡ after (drop e ts) k

  pub passing-start : (i c : ℕ) → i < length ts → c ≡ arity (get_or ts i none).code → Passing i (i + 1) c
  passing-start i c h q =
      let e : i + 1 ≡ suc i = omega arith in
      record { past = omega arith; inside = omega arith; same = rw (e, q) (after_one i h) }

  pub passing-end : (i e : ℕ) → Passing i e 0 → e ≡ end_in ts i
  unfolding end_in
  passing-end i e p =
      let s : after (drop i ts) 1 ≡ drop e ts = p.same ∙ after_none (drop e ts) in
      rw s (omega (arith, length-drop e ts, p.inside))

  passing-next : (i e k : ℕ) → e < length ts → Passing i e (suc k) → Passing i (end_in ts e) k
  passing-next i e k h p =
      let q : suc k ≡ 1 + k = omega arith in
      record {
        past = omega (arith, (end-past e h).0, p.past);
        inside = (end-past e h).1;
        same = p.same ∙ ap (after (drop e ts)) q ∙ after-add (drop e ts) 1 k ∙ ap (λ xs. after xs k) (end-drop e h);
      }

  passing-none : (i e k : ℕ) → length ts ≤ e → Passing i e (suc k) → Passing i (length ts) k
  unfolding after
  passing-none i e k h p = record {
    past = omega (arith, p.past, p.inside);
    inside = omega arith;
    same = p.same ∙ rw (drop_of_length-le ts {i = e} h, drop_of_length-le ts {i = length ts} (omega arith));
  }

module _ (w : Words) (n : ℕ) where
  abbrev here : List Token
  here = tokens_in w 0 n

  pub passing-first : (i c : ℕ) → i < n → c ≡ arity (code_at w i) → Passing here i (i + 1) c
  passing-first i c h q =
      let e : 0 + i ≡ i = omega arith in
      passing-start here i c (rw tokens-in-length h) (rw (tokens-in-at w 0 n i none h, e) q)

  pub passing-more : (i e k r : ℕ) → EndsAfter w n i → 0 < k → r ≡ end_from w n e → Passing here i e k → Passing here i r (k - 1)
  passing-more i e zero r a z q p = absurd (omega arith)
  passing-more i e (suc k) r a z q p =
      let m : suc k - 1 ≡ k = omega arith in
      rw (m, q) (by (ltb e n) refl)
    where
      by : (t : Bool) → ltb e n ≡ t → Passing here i (pick t (end_at w e) n) k
      by true f = rw (a e p.past (ltb-true e n f)) (passing-next here i e k (rw tokens-in-length (ltb-true e n f)) p)
      by false f = rw tokens-in-length at (passing-none here i e k (rw tokens-in-length (ltb-false e n f)) p)

-- ---- all of them

ends-in : (k : ℕ) (us : List Token) (w : Words) (n : ℕ) → tokens_in (laid_ends k us w) 0 n ≡ tokens_in w 0 n
ends-in k us w n = tokens-in-same w (laid_ends k us w) 0 n (λ j a b. (ends-other (token_slot j) k us w (λ m p q. omega arith), ends-other (token_slot j + 1) k us w (λ m p q. omega arith)))

ends_set : (ts : List Token) (k j v : ℕ) (w : Words) → j < k → laid_ends k ts (set w (token_slot j + 2) v) ≡ set (laid_ends k ts w) (token_slot j + 2) v
unfolding laid_ends
ends_set [] k j v w h = refl
ends_set (t ∷ ts) k j v w h =
    let x = suc k + length ts - length (after ts (arity t.code)) in
    rw (set_comm w (token_slot j + 2) (token_slot k + 2) v x (λ q. omega arith)) (ends_set ts (suc k) j v (set w (token_slot k + 2) x) (omega arith))

ends_at : (ts : List Token) (i j : ℕ) (w : Words) → i ≤ j → j < i + length ts → token_slot (i + length ts) ≤ length w →
    end_at (laid_ends i ts w) j ≡ i + length ts - length (after (drop (j - i) ts) 1)
unfolding laid_ends
ends_at [] i j w a b h = absurd (omega arith)
ends_at (t ∷ ts) i j w a b h =
    by (ltb i j) refl (λ l. ends_at ts (suc i) j (set w (token_slot i + 2) x) l (omega arith) (simp length-set (omega arith)))
  where
    x : ℕ
    x = suc i + length ts - length (after ts (arity t.code))

    next : Words
    next = laid_ends (suc i) ts (set w (token_slot i + 2) x)

    q : i + suc (length ts) ≡ suc i + length ts
    q = omega arith

    by : (c : Bool) → ltb i j ≡ c → (i < j → end_at next j ≡ suc i + length ts - length (after (drop (j - suc i) ts) 1)) →
        end_at next j ≡ i + suc (length ts) - length (after (drop (j - i) (t ∷ ts)) 1)
    by true f r = let e : j - i ≡ suc (j - suc i) = omega (arith, ltb-true i j f) in rw (e, q) (r (ltb-true i j f))
    by false f r =
        let l : j ≡ i = omega (arith, ltb-false i j f) in
        let e : i - i ≡ 0 = omega arith in
        rw (l, e, q, after-cons t ts)
        (ends-other (token_slot i + 2) (suc i) ts (set w (token_slot i + 2) x) (λ m p r. omega arith) ∙ get_or-set_same w (token_slot i + 2) x 0 (omega arith))

-- one more, before the others
ends-step : (k : ℕ) (t : Token) (us : List Token) (w : Words) → laid_ends k (t ∷ us) w ≡ set (laid_ends (suc k) us w) (token_slot k + 2) (suc k + length us - length (after us (arity t.code)))
unfolding laid_ends
ends-step k t us w = ends_set us (suc k) k (suc k + length us - length (after us (arity t.code))) w (omega arith)

-- the words w with the ends of the tokens from the i-th on, of n
abbrev pub laid_from : Words → ℕ → ℕ → Words
laid_from w n i = laid_ends i (drop i (tokens_in w 0 n)) w

pub from-none : (w : Words) (n : ℕ) → w ≡ laid_from w n n
unfolding laid_ends
from-none w n = rw (drop_of_length-le (tokens_in w 0 n) {i = n} (rw tokens-in-length (omega arith)))

module _ (w : Words) (n i : ℕ) (w' : Words) (is : w' ≡ laid_from w n i) (z : 0 < i) (m : i ≤ n) where
  abbrev all : List Token
  all = tokens_in w 0 n

  same-tokens : tokens_in w' 0 n ≡ all
  same-tokens = ap (λ x. tokens_in x 0 n) is ∙ ends-in i (drop i all) w n

  pub from-ends : n ≤ max_tokens → path_at ≤ length w → EndsAfter w' n (i - 1)
  unfolding end_in
  from-ends h l j p q =
      let d : length (drop i all) ≡ n - i = length-drop i all ∙ rw tokens-in-length in
      let e : i + length (drop i all) ≡ n = omega arith in
      let f : i + (j - i) ≡ j = omega arith in
      ap (λ x. end_at x j) is ∙ ends_at (drop i all) i j w (omega arith) (omega arith) (omega arith) ∙
      rw (e, drop-drop, f, same-tokens, tokens-in-length)

  pub from_more : (v : ℕ) → v ≡ end_in (tokens_in w' 0 n) (i - 1) → set w' (token_slot (i - 1) + 2) v ≡ laid_from w n (i - 1)
  unfolding end_in
  from_more v q = by (i - 1) (omega arith) (q ∙ rw same-tokens)
    where
      by : (k : ℕ) → i ≡ suc k → v ≡ length all - length (after (drop k all) 1) → set w' (token_slot k + 2) v ≡ laid_from w n k
      by k e f =
          let b : k < length all = rw tokens-in-length (omega arith) in
          let us = drop (suc k) all in
          let t = get_or all k none in
          let g : suc k + length us ≡ length all = omega (arith, length-drop (suc k) all) in
          let x : v ≡ suc k + length us - length (after us (arity t.code)) =
          f ∙ ap (λ xs. length all - length xs) (after_one all k b) ∙ ap (λ (y : ℕ). y - length (after us (arity t.code))) (sym g) in
          ap (λ y. set y (token_slot k + 2) v) (is ∙ ap (laid_from w n) e) ∙ ap (set (laid_ends (suc k) us w) (token_slot k + 2)) x ∙
          sym (ap (λ xs. laid_ends k xs w) (drop-cons all k none b) ∙ ends-step k t us w)
