-- The words of the tokens in the tables: each token's code and operand, and the end of its subtree. Assumes nothing.
use Prim.Native.Nat.{ℕ, suc, ◌+◌, ◌-◌, ◌≤◌, ◌<◌}
use native.Mathlib.Nat.{add-zero}
use native.Mathlib.Omega.{arith}
use mathlib.Core.Path.{◌≡◌, refl, sym, ◌∙◌, ap, subst}
use mathlib.Core.Logic.{◌≢◌}
use mathlib.Core.List.{List, [], ◌∷◌, ◌++◌}
use lib.ListN.{length, get_or, set, length-set, length-append}
use lib.Seq.{get_or-set_same, get_or-set_other}
use Rattle.tables.specs.Layout.{token_slot}
use Rattle.sheet.specs.declared.Token.{Token}
use Rattle.sheet.specs.Sorts.{arity}
use Rattle.sheet.specs.Tables.{Words, laid_tokens, after, laid_ends}
use Rattle.sheet.specs.Held.{code_at, operand_at, end_at}
use Rattle.sheet.proofs.After.{Subtrees, after-subtree, some-token}

-- the end of the subtree of token i, where the tokens ts follow
abbrev pub end_of : ℕ → Token → List Token → ℕ
end_of i t ts = suc i + length ts - length (after ts (arity t.code))

-- ---- words that are not written

module _ (j : ℕ) where
  pub tokens-other : (i : ℕ) (ts : List Token) (w : Words) →
      ((m : ℕ) → i ≤ m → m < i + length ts → (j ≢ token_slot m) × (j ≢ token_slot m + 1)) → get_or (laid_tokens i ts w) j 0 ≡ get_or w j 0
  unfolding laid_tokens
  tokens-other i [] w h = refl
  tokens-other i (t ∷ ts) w h =
      let k = h i (omega arith) (omega arith) in
      tokens-other (suc i) ts (set (set w (token_slot i) t.code) (token_slot i + 1) t.operand) (λ m a b. h m (omega arith) (omega arith)) ∙
      get_or-set_other (set w (token_slot i) t.code) (token_slot i + 1) j t.operand 0 k.1 ∙
      get_or-set_other w (token_slot i) j t.code 0 k.0

  pub ends-other : (i : ℕ) (ts : List Token) (w : Words) →
      ((m : ℕ) → i ≤ m → m < i + length ts → j ≢ token_slot m + 2) → get_or (laid_ends i ts w) j 0 ≡ get_or w j 0
  unfolding laid_ends
  ends-other i [] w h = refl
  ends-other i (t ∷ ts) w h =
      ends-other (suc i) ts (set w (token_slot i + 2) (end_of i t ts)) (λ m a b. h m (omega arith) (omega arith)) ∙
      get_or-set_other w (token_slot i + 2) j (end_of i t ts) 0 (h i (omega arith) (omega arith))

pub tokens-length : (i : ℕ) (ts : List Token) (w : Words) → length (laid_tokens i ts w) ≡ length w
unfolding laid_tokens
tokens-length i [] w = refl
tokens-length i (t ∷ ts) w = tokens-length (suc i) ts (set (set w (token_slot i) t.code) (token_slot i + 1) t.operand) ∙ simp length-set

pub ends-length : (i : ℕ) (ts : List Token) (w : Words) → length (laid_ends i ts w) ≡ length w
unfolding laid_ends
ends-length i [] w = refl
ends-length i (t ∷ ts) w = ends-length (suc i) ts (set w (token_slot i + 2) (end_of i t ts)) ∙ length-set w (token_slot i + 2) (end_of i t ts)

-- ---- the tokens, one after the other

-- a property of each token by its number, and of the tokens after it
unfoldable pub Along : (ℕ → Token → List Token → Type 0) → ℕ → List Token → Type 0
Along P i [] = Unit {0}
Along P i (t ∷ ts) = P i t ts × Along P (suc i) ts

module _ {P Q R : ℕ → Token → List Token → Type 0} where
  along-both : ((i : ℕ) (t : Token) (ts : List Token) → P i t ts → Q i t ts → R i t ts) →
      (i : ℕ) (ts : List Token) → Along P i ts → Along Q i ts → Along R i ts
  unfolding Along
  along-both f i [] p q = tt
  along-both f i (t ∷ ts) p q = (f i t ts p.0 q.0, along-both f (suc i) ts p.1 q.1)

module _ (w : Words) where
  -- what stands of a token in the words
  pub record Entry (i : ℕ) (t : Token) (ts : List Token) : Type 0 where
    pub code : code_at w i ≡ t.code
    pub operand : operand_at w i ≡ t.operand
    pub end : end_at w i ≡ end_of i t ts

  abbrev Coded : ℕ → Token → List Token → Type 0
  Coded i t ts = (code_at w i ≡ t.code) × (operand_at w i ≡ t.operand)

  abbrev Ended : ℕ → Token → List Token → Type 0
  Ended i t ts = end_at w i ≡ end_of i t ts

laid-coded : (i : ℕ) (ts : List Token) (w : Words) → token_slot (i + length ts) ≤ length w → Along (Coded (laid_tokens i ts w)) i ts
unfolding laid_tokens Along
laid-coded i [] w h = tt
laid-coded i (t ∷ ts) w h = (
  (
    tokens-other (token_slot i) (suc i) ts v (λ m a b. (omega arith, omega arith)) ∙
        get_or-set_other u (token_slot i + 1) (token_slot i) t.operand 0 (omega arith) ∙
        get_or-set_same w (token_slot i) t.code 0 (omega arith),
    tokens-other (token_slot i + 1) (suc i) ts v (λ m a b. (omega arith, omega arith)) ∙
        get_or-set_same u (token_slot i + 1) t.operand 0 (simp length-set (omega arith)),
  ),
  laid-coded (suc i) ts v (simp length-set (omega arith)),
)
  where
    u : Words
    u = set w (token_slot i) t.code

    v : Words
    v = set u (token_slot i + 1) t.operand

laid-ended : (i : ℕ) (ts : List Token) (w : Words) → token_slot (i + length ts) ≤ length w → Along (Ended (laid_ends i ts w)) i ts
unfolding laid_ends Along
laid-ended i [] w h = tt
laid-ended i (t ∷ ts) w h = (
  ends-other (token_slot i + 2) (suc i) ts (set w (token_slot i + 2) (end_of i t ts)) (λ m a b. omega arith) ∙
      get_or-set_same w (token_slot i + 2) (end_of i t ts) 0 (omega arith),
  laid-ended (suc i) ts (set w (token_slot i + 2) (end_of i t ts)) (simp length-set (omega arith)),
)

-- the ends are written beside codes and operands
ends-beside : (k : ℕ) (us : List Token) (w : Words) (i : ℕ) (ts : List Token) → Along (Coded w) i ts → Along (Coded (laid_ends k us w)) i ts
unfolding Along
ends-beside k us w i [] c = tt
ends-beside k us w i (t ∷ ts) c = (
  (ends-other (token_slot i) k us w (λ m a b. omega arith) ∙ c.0.0, ends-other (token_slot i + 1) k us w (λ m a b. omega arith) ∙ c.0.1),
  ends-beside k us w (suc i) ts c.1,
)

pub laid : (ts : List Token) (w : Words) → token_slot (length ts) ≤ length w →
    Along (Entry (laid_ends 0 ts (laid_tokens 0 ts w))) 0 ts
laid ts w h =
    along-both (λ i t us c e. record { code = c.0; operand = c.1; end = e }) 0 ts
    (ends-beside 0 ts (laid_tokens 0 ts w) 0 ts (laid-coded 0 ts w (omega arith)))
    (laid-ended 0 ts (laid_tokens 0 ts w) (rw tokens-length (omega arith)))

-- ---- a subtree among the tokens

module _ (w : Words) where
  pub skip : (xs rest : List Token) (i : ℕ) → Along (Entry w) i (xs ++ rest) → Along (Entry w) (i + length xs) rest
  unfolding Along
  skip [] rest i a = rw add-zero a
  skip (x ∷ xs) rest i a =
      let e : suc i + length xs ≡ i + suc (length xs) = omega arith in
      subst (λ j. Along (Entry w) j rest) e (skip xs rest (suc i) a.1)

  first-end : (xs rest : List Token) (i : ℕ) → Subtrees 1 xs → Along (Entry w) i (xs ++ rest) → end_at w i ≡ i + length xs
  unfolding Along after
  first-end [] rest i s a = absurd (omega (arith, some-token [] s))
  first-end (t ∷ xs) rest i s a =
      let f : after (xs ++ rest) (arity t.code) ≡ rest =
      ap (after (xs ++ rest)) (sym (add-zero (arity t.code))) ∙ after-subtree (t ∷ xs) rest s in
      a.0.end ∙ rw (f, length-append xs rest) (omega arith)

  -- its first token's end, and the tokens after it
  pub subtree : (xs rest : List Token) (i : ℕ) → Subtrees 1 xs → Along (Entry w) i (xs ++ rest) →
      (end_at w i ≡ i + length xs) × Along (Entry w) (end_at w i) rest
  subtree xs rest i s a =
      let e = first-end xs rest i s a in
      (e, subst (λ j. Along (Entry w) j rest) (sym e) (skip xs rest i a))
