-- What was read: bytes that stand between two readers, with so many tokens and these binders among them. Then a law for each way in which
-- readers are put together, and for those that read no token. Assumes nothing.
use Prim.Native.Nat.{ℕ, ◌+◌, ◌≤◌}
use native.Mathlib.Omega.{arith}
use mathlib.Core.Path.{◌≡◌, refl, sym, ◌∙◌, ap, subst}
use mathlib.Core.List.{List, [], ◌++◌, append_assoc}
use Rattle.specification.specs.Bytes.{Bytes}
use Rattle.specification.specs.Parser.{Reader, Parser}
use Rattle.specification.proofs.Laws.Pieces.{Piece}
use Rattle.specification.proofs.Laws.LinePieces.{Still}
use Rattle.specification.proofs.Laws.Legible.{added, Fresh, added-++, fresh-++}

-- how many tokens a sheet has at most
abbrev pub most_tokens : ℕ
most_tokens = 1024

pub record Taken (t : Bytes) (n : ℕ) (ls : List ℕ) (r r' : Reader) : Type 0 where
  pub rest : r.rest ≡ t ++ r'.rest
  pub tokens : r'.tokens ≡ r.tokens + n
  pub few : r.tokens ≤ most_tokens → r'.tokens ≤ most_tokens
  pub fresh : Fresh r.bound ls
  pub bound : r'.bound ≡ added ls r.bound

pub taken_none : (r : Reader) → Taken [] 0 [] r r
unfolding added Fresh
taken_none r = record { rest = refl; tokens = omega arith; few = λ h. h; fresh = tt; bound = refl }

-- one after the other
pub taken-both : {t u : Bytes} {n m : ℕ} {ls ms : List ℕ} {r r₁ r₂ : Reader} → Taken t n ls r r₁ → Taken u m ms r₁ r₂ →
    Taken (t ++ u) (n + m) (ls ++ ms) r r₂
taken-both {t} {u} {n} {m} {ls} {ms} {r} {r₁} {r₂} h k = record {
  rest = h.rest ∙ ap (λ (w : Bytes). t ++ w) k.rest ∙ sym (append_assoc t u r₂.rest);
  tokens = omega (arith, h.tokens, k.tokens);
  few = λ f. k.few (h.few f);
  fresh = fresh-++ ls ms r.bound h.fresh (subst (λ B. Fresh B ms) h.bound k.fresh);
  bound = k.bound ∙ ap (added ms) h.bound ∙ added-++ ls ms r.bound;
}

-- the same, written in another way
pub taken-same : {t u : Bytes} {n m : ℕ} {ls : List ℕ} {r r' : Reader} → t ≡ u → n ≡ m → Taken t n ls r r' → Taken u m ls r r'
taken-same {t} {u} {n} {m} {ls} {r} {r'} e f h = subst (λ (x : Bytes). Taken x m ls r r') e (subst (λ (x : ℕ). Taken t x ls r r') f h)

-- no token was read
pub still-taken : {A : Type 0} {E : Bytes → Type 0} {q : Parser A} {t : Bytes} {a : A} {r r' : Reader} →
    Piece E q t a r r' → Still r r' → Taken t 0 [] r r'
unfolding added Fresh
still-taken h s = record {
  rest = h.rest;
  tokens = omega (arith, s.0);
  few = λ f. omega (arith, s.0, f);
  fresh = tt;
  bound = sym s.1;
}
