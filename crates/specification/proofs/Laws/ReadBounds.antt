-- A sheet is refused at one of its bytes or at its end, with a number from 3 to 14 or with 17. Assumes nothing.
use Prim.Native.Nat.{ℕ, ◌≤◌}
use native.Mathlib.Omega.{arith}
use mathlib.Core.Path.{◌≡◌, refl}
use mathlib.Core.Bool.{Bool, true, false, ◌||◌}
use mathlib.Core.Logic.{◌⊎◌, inl, inr}
use mathlib.Core.List.{[]}
use mathlib.Core.Option.{Option}
use lib.ListN.{length}
use lib.Dec.{leb, ltb, eqb}
use borrow.Author.Tests.{leb-true, eqb-true}
use Rattle.specification.specs.Bytes.{Bytes, bytes, between, feed, in_token}
use Rattle.specification.specs.Parser.{Reader, refused}
use Rattle.specification.specs.Words.{Word}
use Rattle.specification.specs.Formula.{Token, numbered, token, has}
use Rattle.specification.specs.Sheet.{with_procedures, most_procedures, Sheet, refuses, sheet, opened, read_with, read}
use Rattle.specification.specs.Moves.{read_only}
use Rattle.specification.proofs.Laws.Parser.{refuses_with, and-true, Reading, refusal, holds, of-refused, bind-post, present-post, pick_post}
use Rattle.specification.proofs.Laws.LineReaders.{Composed, line-by}
use Rattle.specification.proofs.Laws.FormulaReaders.{Tokened, formula-by, procedures-by}
use Rattle.specification.proofs.Laws.SheetLines.{sheet-by}
use Rattle.specification.proofs.Laws.Bounds.{Inside, Refusal, SafeParser, refused-here, mark-safe, exactly-safe, taken-safe, finish-safe}

module _ (N : ℕ) where
  -- ---- tokens

  -- a token begins inside, so that a refusal at it has such a place
  abbrev TokenIn : Token → Reader → Type 0
  TokenIn t r = (t.place ≤ N) × Inside N r

  numbered-safe : SafeParser N numbered
  numbered-safe r i = pick_post (ltb r.tokens 1024) _ _ (λ e. holds i) (λ e. refusal (refused-here N r i 9 refl))

  token-safe : (word : Bytes → Option Word) (r : Reader) → Inside N r → Reading (Refusal N) TokenIn (token word r)
  unfolding token
  token-safe word r i =
      let here = refused-here N r i 4 refl in
      bind-post (numbered-safe r i) λ n r₁ i₁.
      bind-post (taken-safe N r₁ i₁ in_token) λ bs r₂ i₂.
      bind-post (present-post 4 r.place (word bs) r₂ here (λ w e. i₂)) λ w r₃ i₃.
      holds (here.1, i₃)

  -- ---- the sheet

  safe-composed : Composed (λ p. p ≤ N) (λ A m. SafeParser N m)
  safe-composed = record {
    give = λ A a r i. holds i;
    refuse = λ A n p t h r i. refusal (t, h);
    bind = λ A B m f h k r i. bind-post (h r i) λ a r₁ i₁. k a r₁ i₁;
    here = λ B f h r i. h r.place (refused-here N r i 4 refl).1 r i;
    sees = λ c r i. holds i;
    spells = λ k r i. holds i;
    mark = λ c r i. mark-safe N r i c;
    exactly = λ n k t r i. exactly-safe N r i n k t;
    taken = λ f r i. taken-safe N r i f;
  }

  safe-tokened : Tokened (λ p. p ≤ N) (λ A m. SafeParser N m)
  safe-tokened = record {
    composed = safe-composed;
    token = λ word B f k r i. bind-post (token-safe word r i) λ t r₁ h. k t h.0 r₁ h.1;
    bind = λ p l h r i. pick_post (has l r.bound) _ _ (λ e. refusal (refl, h)) (λ e. holds i);
  }

  sheet-safe : (strict : Bool) → SafeParser N (sheet strict)
  sheet-safe strict =
      sheet-by safe-composed (SafeParser N) (λ A m f. safe-composed.bind A Sheet m f) strict
      (λ E is r i.
      bind-post (procedures-by safe-tokened (refuses strict E.edition) (most_procedures E.edition) E r i) λ Ps r₁ i₁.
      bind-post (exactly-safe N r₁ i₁ 3 (bytes "formula=") refl) λ u r₂ i₂.
      bind-post (formula-by safe-tokened (with_procedures Ps E) (refuses strict E.edition) 64 [] r₂ i₂) λ F r₃ i₃.
      bind-post (mark-safe N r₃ i₃ feed) λ u r₄ i₄.
      bind-post (finish-safe N r₄ i₄) λ u r₅ i₅. holds i₅)

-- the numbers 1 and 2 are the call's, not the reader's
pub record RefusedWell (b : Bytes) (n p : ℕ) : Type 0 where
  pub least : 3 ≤ n
  pub greatest : (n ≤ 14) ⊎ (n ≡ 17)
  pub place : p ≤ length b

numbers : (n : ℕ) → refuses_with n ≡ true → (3 ≤ n) × ((n ≤ 14) ⊎ (n ≡ 17))
numbers n e = go (between 3 14 n) refl e
  where
    go : (b : Bool) → between 3 14 n ≡ b → (b || eqb n 17) ≡ true → (3 ≤ n) × ((n ≤ 14) ⊎ (n ≡ 17))
    go true k e = let t = and-true (leb 3 n) (leb n 14) k in (leb-true 3 n t.0, inl (leb-true n 14 t.1))
    go false k e = let h : n ≡ 17 = eqb-true n 17 e in (omega (arith, h), inr h)

refused-well : (b : Bytes) (n p : ℕ) → Refusal (length b) n p → RefusedWell b n p
refused-well b n p h = let t = numbers n h.0 in record { least = t.0; greatest = t.1; place = h.1 }

-- with empty ranges refused and without that
pub read-with-refused : (strict : Bool) (b : Bytes) (n p : ℕ) → read_with strict b ≡ refused n p → RefusedWell b n p
unfolding read_with
read-with-refused strict b n p e = refused-well b n p (of-refused (sheet-safe (length b) strict (opened b) (omega arith)) e)

pub read-refused : (b : Bytes) (n p : ℕ) → read b ≡ refused n p → RefusedWell b n p
read-refused b n p e = read-with-refused true b n p e

-- and where one edition alone is read
pub only-refused : (strict : Bool) (edition : ℕ) (b : Bytes) (n p : ℕ) → read_only strict edition b ≡ refused n p → RefusedWell b n p
unfolding read_only read_with
only-refused strict edition b n p e =
    let N = length b in
    let first = line-by (safe-composed N) (bytes "edition=") edition edition (opened b) (omega arith) in
    refused-well b n p (of-refused (bind-post first λ m r i. sheet-safe N strict (opened b) (omega arith)) e)
