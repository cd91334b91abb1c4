-- Words that are the same beside the stack: so they stay where the same words, tokens or ends are written in both. Tokens that are written
-- after others, and before other words. Assumes nothing.
use Prim.Native.Nat.{ℕ, suc, ◌+◌, ◌-◌, ◌<◌, ◌≤◌}
use native.Mathlib.Omega.{arith}
use mathlib.Core.Path.{◌≡◌, refl, sym, ◌∙◌}
use mathlib.Core.Bool.{Bool, true, false}
use mathlib.Core.List.{List, [], ◌∷◌, ◌++◌}
use lib.ListN.{length, get_or, set, length-set}
use lib.Seq.{get_or-set_same, get_or-set_other, set_comm}
use lib.Dec.{eqb}
use Rattle.tables.specs.Layout.{token_slot}
use borrow.Author.Tests.{eqb-true, eqb-false}
use Rattle.sheet.specs.declared.Token.{Token}
use Rattle.sheet.specs.Sorts.{arity}
use Rattle.sheet.specs.Tables.{Words, laid_tokens, after, laid_ends}
use Rattle.sheet.specs.Stack.{Beside}

-- a token's two words
abbrev pub stored : Words → ℕ → Token → Words
stored w i t = set (set w (token_slot i) t.code) (token_slot i + 1) t.operand

-- ---- the same word in both

module _ {u v : Words} (i x : ℕ) (h : i < length u) (b : Beside u v) where
  set_same : (j : ℕ) → get_or v j 0 ≡ get_or u j 0 → get_or (set v i x) j 0 ≡ get_or (set u i x) j 0
  set_same j e = by (eqb j i) refl
    where
      by : (t : Bool) → eqb j i ≡ t → get_or (set v i x) j 0 ≡ get_or (set u i x) j 0
      by true q = rw (eqb-true j i q) (get_or-set_same v i x 0 (omega (arith, b.long)) ∙ sym (get_or-set_same u i x 0 h))
      by false q = get_or-set_other v i j x 0 (eqb-false j i q) ∙ e ∙ sym (get_or-set_other u i j x 0 (eqb-false j i q))

  pub beside-set : Beside (set u i x) (set v i x)
  beside-set = record {
    long = length-set v i x ∙ b.long ∙ sym (length-set u i x);
    below = λ j l. set_same j (b.below j l);
    above = λ j l. set_same j (b.above j l);
  }

-- ---- the same tokens, the same ends

pub beside-stored : {u v : Words} (i : ℕ) (t : Token) → token_slot i + 1 < length u → Beside u v → Beside (stored u i t) (stored v i t)
beside-stored i t h b = beside-set (token_slot i + 1) t.operand (simp length-set h) (beside-set (token_slot i) t.code (omega arith) b)

pub beside-tokens : (ts : List Token) (i : ℕ) {u v : Words} → token_slot (i + length ts) ≤ length u → Beside u v → Beside (laid_tokens i ts u) (laid_tokens i ts v)
unfolding laid_tokens
beside-tokens [] i h b = b
beside-tokens (t ∷ ts) i {u} h b = beside-tokens ts (suc i) (simp length-set (omega arith)) (beside-stored i t (omega arith) b)

pub beside-ends : (ts : List Token) (i : ℕ) {u v : Words} → token_slot (i + length ts) ≤ length u → Beside u v → Beside (laid_ends i ts u) (laid_ends i ts v)
unfolding laid_ends
beside-ends [] i h b = b
beside-ends (t ∷ ts) i h b =
    beside-ends ts (suc i) (simp length-set (omega arith))
    (beside-set (token_slot i + 2) (suc i + length ts - length (after ts (arity t.code))) (omega arith) b)

-- ---- one token more

pub tokens-more : (ts : List Token) (i : ℕ) (t : Token) (w : Words) → laid_tokens i (ts ++ (t ∷ [])) w ≡ stored (laid_tokens i ts w) (i + length ts) t
unfolding laid_tokens
tokens-more [] i t w = let e : i + 0 ≡ i = omega arith in rw e
tokens-more (x ∷ ts) i t w =
    let e : i + suc (length ts) ≡ suc i + length ts = omega arith in
    rw e (tokens-more ts (suc i) t (stored w i x))

-- ---- tokens behind others, and other words

pub tokens-both : (xs ys : List Token) (i : ℕ) (w : Words) → laid_tokens i (xs ++ ys) w ≡ laid_tokens (i + length xs) ys (laid_tokens i xs w)
unfolding laid_tokens
tokens-both [] ys i w = let e : i + 0 ≡ i = omega arith in rw e
tokens-both (x ∷ xs) ys i w =
    let e : i + suc (length xs) ≡ suc i + length xs = omega arith in
    rw e (tokens-both xs ys (suc i) (stored w i x))

pub tokens-set : (ts : List Token) (i j x : ℕ) (w : Words) → token_slot (i + length ts) ≤ j → laid_tokens i ts (set w j x) ≡ set (laid_tokens i ts w) j x
unfolding laid_tokens
tokens-set [] i j x w h = refl
tokens-set (t ∷ ts) i j x w h =
    rw (
      set_comm w j (token_slot i) x t.code (λ q. omega arith),
      set_comm (set w (token_slot i) t.code) j (token_slot i + 1) x t.operand (λ q. omega arith),
    )
    (tokens-set ts (suc i) j x (stored w i t) (omega arith))
