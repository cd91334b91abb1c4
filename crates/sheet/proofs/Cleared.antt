-- The reading of a sheet from what its lines leave: words that are made zero, and the sheet's tables, once what was due is cleared. Assumes nothing.
use Prim.Native.Nat.{ℕ, ◌+◌, ◌<◌, ◌≤◌}
use native.Mathlib.Omega.{arith}
use mathlib.Core.Path.{◌≡◌, refl, sym, ap, ◌∙◌}
use Rattle.std.specs.Prelude.{Ok, Err}
use mathlib.Core.Bool.{Bool, true, false}
use lib.ListN.{length, get_or, set, replicate, length-set, length-replicate}
use lib.Seq.{get_or-set_same, get_or-set_other, ext_get_or}
use lib.Dec.{ltb}
use borrow.Author.Tests.{ltb-true, ltb-false}
use Rattle.specification.specs.declared.refusals.Refusal.{Refusal}
use Rattle.specification.specs.Bytes.{Bytes}
use Rattle.specification.specs.Parser.{found}
use Rattle.specification.specs.Sheet.{read_with}
use Rattle.specification.proofs.Laws.ReadSheet.{read-well-formed}
use Rattle.tables.specs.Layout.{dues_at, dues_end, path_at}
use Rattle.sheet.specs.declared.Reading.{Reading}
use Rattle.sheet.specs.declared.reader.Progress.{Progress}
use Rattle.sheet.specs.Answers.{Answer}
use Rattle.sheet.specs.Tables.{Words, tables}
use Rattle.sheet.specs.Whole.{reading_of, words_of, Zeroed, Stopped, Tabled}
use Rattle.sheet.proofs.Regions.{zeros}
use Rattle.sheet.proofs.Tables.{rest-zero}
use Rattle.sheet.proofs.ReadSheet.{read-counts}

-- ---- words that are made zero

pub zeroed-none : (w : Words) (from : ℕ) → Zeroed w w from from
zeroed-none w from = record { long = refl; inside = λ j a b. absurd (omega arith); below = λ j a. refl; above = λ j a. refl }

pub zeroed-more : {w w' : Words} {from to : ℕ} → from ≤ to → to < length w → Zeroed w w' from to → Zeroed w (set w' to 0) from (to + 1)
zeroed-more {w} {w'} {from} {to} h l z = record {
  long = length-set w' to 0 ∙ z.long;
  inside = λ j a b. within j a (ltb j to) refl b;
  below = λ j a. get_or-set_other w' to j 0 0 (λ e. omega arith) ∙ z.below j a;
  above = λ j a. get_or-set_other w' to j 0 0 (λ e. omega arith) ∙ z.above j (omega arith);
}
  where
    within : (j : ℕ) → from ≤ j → (t : Bool) → ltb j to ≡ t → j < to + 1 → ◌≡◌ {A = ℕ} (get_or (set w' to 0) j 0) 0
    within j a true e b = get_or-set_other w' to j 0 0 (λ q. omega (arith, ltb-true j to e)) ∙ z.inside j a (ltb-true j to e)
    within j a false e b =
        let q : j ≡ to = omega (arith, ltb-false j to e) in
        rw q (get_or-set_same w' to 0 0 (omega (arith, z.long)))

pub zeroed-end : {w w' : Words} {from to i : ℕ} → i ≤ to → to ≤ i → Zeroed w w' from i → Zeroed w w' from to
zeroed-end {w} {w'} {from} {to} {i} a b z = let e : to ≡ i = omega arith in rw e z

pub zeroed-all : {w w' : Words} → Zeroed w w' 0 (length w) → w' ≡ replicate (length w) 0
zeroed-all {w} {w'} z =
    ext_get_or 0 w' (replicate (length w) 0) (z.long ∙ sym (length-replicate (length w) 0))
    (λ j h. z.inside j (omega arith) (omega (arith, z.long)) ∙ sym (zeros (length w) j))

-- ---- the reading of a sheet

abbrev Leaves : Bool → Bytes → ℕ → Answer Reading → Words → Type 0
Leaves strict s n r w = (r ≡ reading_of (read_with strict s)) × (w ≡ words_of n (read_with strict s))

-- cleared words are zero, as many as there were
pub cleared : (w w₁ : Words) → w₁ ≡ replicate (length w) 0 → (length w₁ ≡ length w) × (w₁ ≡ replicate (length w₁) 0)
cleared w w₁ e = let l : length w₁ ≡ length w = ap length e ∙ length-replicate (length w) 0 in (l, e ∙ ap (λ n. replicate n 0) (sym l))

-- the words are w after all lines, over n words, and w₁ at the end
module _ (strict : Bool) (s : Bytes) (n : ℕ) (w : Words) (w₁ : Words) where
  -- refused, and all words cleared
  pub refused-whole : (e : Refusal) → Stopped strict s e → w₁ ≡ replicate n 0 → Leaves strict s n (Err e) w₁
  unfolding read_with
  refused-whole e x z = (sym (ap reading_of x), z ∙ sym (ap (words_of n) x))

  module _ (p : Progress) (went : (p.limits.strict ≡ strict) × Tabled s n p w) (long : path_at ≤ n) (z : Zeroed w w₁ dues_at dues_end) where
    abbrev f : Tabled s n p w
    f = went.1

    is : read_with strict s ≡ found f.whole f.after
    unfolding read_with
    is = ap (λ b. read_with b s) (sym went.0) ∙ f.is

    abbrev T : Words
    T = tables f.whole n

    zero-there : (j : ℕ) → dues_at ≤ j → get_or T j 0 ≡ 0
    zero-there j a =
        rest-zero f.whole n long (read-counts strict s f.whole f.after is).few (read-well-formed strict s f.whole f.after is) j a

    by_place : (j : ℕ) (a : Bool) → ltb j dues_at ≡ a → (b : Bool) → ltb j dues_end ≡ b → get_or w₁ j 0 ≡ get_or T j 0
    by_place j true e b d = z.below j (ltb-true j dues_at e) ∙ f.words.below j (ltb-true j dues_at e)
    by_place j false e true d = z.inside j (ltb-false j dues_at e) (ltb-true j dues_end d) ∙ sym (zero-there j (ltb-false j dues_at e))
    by_place j false e false d = z.above j (ltb-false j dues_end d) ∙ f.words.above j (ltb-false j dues_end d)

    -- read, and what was due cleared
    pub found-whole : let d = p.limits in let x = p.reached in
        Leaves strict s n (Ok (record { scalars = d.scalars; arrays = d.arrays; tokens = x.tokens; formula = x.first })) w₁
    found-whole = (told f.scalars f.arrays f.tokens f.first ∙ sym (ap reading_of is), ext_get_or 0 w₁ T (z.long ∙ f.words.long) (λ j _. by_place j (ltb j dues_at) refl (ltb j dues_end) refl) ∙ sym (ap (words_of n) is))
      where
        told : {a b c e a' b' c' e' : ℕ} → a' ≡ a → b' ≡ b → c' ≡ c → e' ≡ e →
            ◌≡◌ {A = Answer Reading} (Ok (record { scalars = a; arrays = b; tokens = c; formula = e })) (Ok (record { scalars = a'; arrays = b'; tokens = c'; formula = e' }))
        told p q r s = rw (p, q, r, s)
