-- Results as words: a look at a slot, and an operation, each from what the code tested. Assumes nothing.
use Prim.Native.Nat.{ℕ}
use native.Mathlib.Omega.{arith}
use mathlib.Core.Path.{◌≡◌, refl, sym, ◌∙◌, ap, ap₂}
use lib.Dec.{eqb}
use lib.IntN.{ℤ}
use Rattle.std.specs.Prelude.{Result, Err}
use Rattle.specification.specs.Bytes.{pick}
use Rattle.specification.specs.Lines.{Declared}
use Rattle.specification.specs.Ast.{Op, add, sub, mul, quo, rem, div, modulo}
use Rattle.specification.specs.Arithmetic.{Computed, value, fault, compute}
use Rattle.specification.specs.Value.{Valuation, Side, val, bare, err, pair_of, side_of, operate}
use Rattle.specification.proofs.Laws.Contradiction.{contradiction}
use Rattle.values.specs.Word.{signed}
use Rattle.values.specs.Packed.{packed, kind_of, fault_of}
use Rattle.values.specs.declared.Fault.{Fault}
use Rattle.values.proofs.Laws.Word.{signed-biased}
use Rattle.values.proofs.Laws.Packed.{Told, kind-told}
use Rattle.tables.specs.Codes.{div_code, mod_code, add_code, sub_code, mul_code, quo_code}
use Rattle.sheet.specs.Codes.{op_code}
use Rattle.terms.specs.declared.Stack.{Stack}
use Rattle.terms.specs.Results.{tag_of, word_of, stack_of, error_of, Raised}
use Rattle.terms.specs.Machine.{In32}
use Rattle.terms.specs.Parts.{Calculated, Packs}

-- ---- operations

-- an operation by its code
op_of : ℕ → Op
op_of k =
    pick (eqb k add_code) add
    (pick (eqb k sub_code) sub
    (pick (eqb k mul_code) mul
    (pick (eqb k quo_code) quo
    (pick (eqb k div_code) div
    (pick (eqb k mod_code) modulo rem)))))

op-of-code : (o : Op) → op_of (op_code o) ≡ o
unfolding op_of
op-of-code add = refl
op-of-code sub = refl
op-of-code mul = refl
op-of-code quo = refl
op-of-code rem = refl
op-of-code div = refl
op-of-code modulo = refl

pub op_same : (o p : Op) → op_code o ≡ op_code p → o ≡ p
op_same o p e = sym (op-of-code o) ∙ ap op_of e ∙ op-of-code p

module _ (k x y : ℕ) (r : Result ℕ Fault) where
  pub calculated-as : (o : Op) → k ≡ op_code o → r ≡ packed (compute o (signed x) (signed y)) → Calculated k x y r
  calculated-as o q h p n = h ∙ ap (λ (p : Op). packed (compute p (signed x) (signed y))) (op_same o p (sym q ∙ n))

  -- the one that is none of the others
  pub calculated-last : (k ≡ add_code → ⊥) → (k ≡ sub_code → ⊥) → (k ≡ mul_code → ⊥) → (k ≡ quo_code → ⊥) → (k ≡ div_code → ⊥) → (k ≡ mod_code → ⊥) →
      r ≡ packed (compute rem (signed x) (signed y)) → Calculated k x y r
  calculated-last a s m q d l h add n = absurd (a n)
  calculated-last a s m q d l h sub n = absurd (s n)
  calculated-last a s m q d l h mul n = absurd (m n)
  calculated-last a s m q d l h quo n = absurd (q n)
  calculated-last a s m q d l h div n = absurd (d n)
  calculated-last a s m q d l h modulo n = absurd (l n)
  calculated-last a s m q d l h rem n = h

module _ (c : Result ℕ Fault) (at : ℕ) where
  -- of an operation's result
  abbrev Packed : Computed → Stack → Type 0
  Packed v r = Told v → c ≡ packed v → r ≡ stack_of at (side_of v)

  packed-fault : (f : Fault) → {r : Stack} → r ≡ error_of (kind_of f) at → c ≡ Err f → (u : Computed) → Packed u r
  packed-fault f q e (value z) t h = contradiction cc
  packed-fault f q e (fault κ) t h =
      let same : f ≡ fault_of κ = cc in
      q ∙ ap (λ (k : ℕ). error_of k at) (ap kind_of same ∙ t κ refl)

  pub packs-fault : (f : Fault) → {r : Stack} → r ≡ error_of (kind_of f) at → c ≡ Err f → Packs c at r
  packs-fault f q e o x y h = packed-fault f q e (compute o x y) (kind-told o x y) h

-- an operation on two results, given by their tags and words
abbrev pub Operated : ℕ → ℕ → ℕ → ℕ → ℕ → ℕ → Stack → Type 0
Operated k ltag left rtag right at r = (D : Declared) (α : Valuation) (o : Op) (x y : Side) → k ≡ op_code o →
    ltag ≡ tag_of x → left ≡ word_of x → rtag ≡ tag_of y → right ≡ word_of y → In32 x → In32 y → r ≡ stack_of at (operate o (pair_of x y))

module _ (k ltag left rtag right at : ℕ) {r : Stack} where
  pub operated-left : (ltag ≡ 0 → ⊥) → Raised ltag left at r → Operated k ltag left rtag right at r
  unfolding pair_of
  operated-left n h D α o (val a) y q e v f u s t = absurd (n e)
  operated-left n h D α o (bare p) y q e v f u s t = h (bare p) e v
  operated-left n h D α o (err κ) y q e v f u s t = h (err κ) e v

  pub operated-right : ltag ≡ 0 → (rtag ≡ 0 → ⊥) → Raised rtag right at r → Operated k ltag left rtag right at r
  unfolding pair_of
  operated-right z n h D α o (val a) (val b) q e v f u s t = absurd (n f)
  operated-right z n h D α o (val a) (bare p) q e v f u s t = h (bare p) f u
  operated-right z n h D α o (val a) (err κ) q e v f u s t = h (err κ) f u
  operated-right z n h D α o (bare p) y q e v f u s t = absurd (omega (arith, z, e))
  operated-right z n h D α o (err κ) y q e v f u s t = absurd (omega (arith, z, e))

  pub operated-both : {c : Result ℕ Fault} → ltag ≡ 0 → rtag ≡ 0 → Calculated k left right c → Packs c at r →
      Operated k ltag left rtag right at r
  unfolding pair_of
  operated-both {c} z n h g D α o (val a) (val b) q e v f u s t =
      let x : signed left ≡ a = ap signed v ∙ signed-biased a s in
      let y : signed right ≡ b = ap signed u ∙ signed-biased b t in
      g o a b (h o q ∙ ap₂ (λ (x y : ℤ). packed (compute o x y)) x y)
  operated-both z n h g D α o (val a) (bare p) q e v f u s t = absurd (omega (arith, n, f))
  operated-both z n h g D α o (val a) (err κ) q e v f u s t = absurd (omega (arith, n, f))
  operated-both z n h g D α o (bare p) y q e v f u s t = absurd (omega (arith, z, e))
  operated-both z n h g D α o (err κ) y q e v f u s t = absurd (omega (arith, z, e))
