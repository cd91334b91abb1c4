-- Laws of operands: what holds of each kind of operands holds of every code's; a range of codes that antt computes; the codes above the
-- operations; a procedure's number. Assumes nothing.
use Prim.Native.Nat.{ℕ, zero, suc, ◌+◌, ◌-◌, ◌<◌, ◌≤◌}
use native.Mathlib.Omega.{arith}
use mathlib.Core.Path.{◌≡◌, refl}
use mathlib.Core.Bool.{Bool, true, false, ◌&&◌}
use lib.Dec.{T, eqb, leb, ltb, eqb→eq}
use borrow.Author.Tests.{eqb-true, ne_eqb, leb-true, le-leb, lt-leb, ltb-true, ltb-false}
use Rattle.specification.specs.Bytes.{pick, between}
use Rattle.tables.specs.Codes.{and_code, imp_code, not_code, eq_code, ge_code, ex_code, some_code, all_code, call_code, first_term, last_term, first_operation, last_operation, array_code, procedure_code}
use Rattle.sheet.specs.Sorts.{Operands}
use Rattle.sheet.specs.Sorts.{formula_sort, term_sort, procedure_sort, ex_sort, range_sort, operands, word_operands, operands_of}
use Rattle.text.proofs.Laws.Ranges.{over}

-- ---- every code

module _ (P : Operands → Type 0) where
  either : (b : Bool) (x y : Operands) → P x → P y → P (pick b x y)
  either true x y p q = p
  either false x y p q = q

  known : (b : Bool) (x y : Operands) → (b ≡ true → P x) → P y → P (pick b x y)
  known true x y p q = p refl
  known false x y p q = q

  -- those of a call and of a procedure's number with the code itself
  pub operands-all : (c : ℕ) → P (operands formula_sort 0) → P (operands formula_sort 1) → P (operands formula_sort 2) → P (operands term_sort 1) →
      P (operands term_sort 2) → P (operands ex_sort 1) → P (operands range_sort 1) → (c ≡ call_code → P (operands procedure_sort 1)) →
      (procedure_code ≤ c → P (operands term_sort (c - procedure_code))) → P (operands_of c)
  unfolding operands_of word_operands
  operands-all c none one two term terms ex range call number =
      known (leb procedure_code c) (operands term_sort (c - procedure_code)) (word_operands c) (λ e. number (leb-true procedure_code c e))
      (either (eqb c not_code) _ _ one
      (either (between and_code imp_code c) _ _ two
      (either (between eq_code ge_code c) _ _ terms
      (either (eqb c ex_code) _ _ ex
      (either (between some_code all_code c) _ _ range
      (either (between first_operation last_operation c) _ _ terms
      (either (eqb c array_code) _ _ term
      (known (eqb c call_code) _ _ (λ e. call (eqb-true c call_code e)) none))))))))

  -- a term's
  pub operands-term : (c : ℕ) → first_term ≤ c → c ≤ last_term → P (operands formula_sort 0) → P (operands term_sort 1) → P (operands term_sort 2) → P (operands_of c)
  unfolding operands_of word_operands
  operands-term c l h none term terms =
      rw (
        lt-leb procedure_code c (omega arith),
        ne_eqb c not_code (λ q. omega arith),
        over and_code imp_code c (omega arith),
        over eq_code ge_code c (omega arith),
        ne_eqb c ex_code (λ q. omega arith),
        over some_code all_code c (omega arith),
        ne_eqb c call_code (λ q. omega arith),
      )
      (either (between first_operation last_operation c) _ _ terms (either (eqb c array_code) _ _ term none))

-- ---- ranges of codes

-- the n codes from lo on have these operands
unfoldable pub alike : Operands → ℕ → ℕ → Bool
alike o zero lo = true
alike o (suc n) lo = eqb (word_operands lo).sort o.sort && (eqb (word_operands lo).count o.count && alike o n (suc lo))

both : (a b : Bool) → T (a && b) → T a × T b
both true b t = (tt, t)
both false b t = absurd t

pub operands-range : (o : Operands) (n lo c : ℕ) → T (alike o n lo) → lo ≤ c → c < lo + n → word_operands c ≡ o
unfolding alike
operands-range o zero lo c t a b = absurd (omega arith)
operands-range o (suc n) lo c t a b =
    let p = both (eqb (word_operands lo).sort o.sort) _ t in
    let q = both (eqb (word_operands lo).count o.count) _ p.1 in
    by (ltb lo c) refl (eqb→eq _ _ p.0) (eqb→eq _ _ q.0) (λ h. operands-range o n (suc lo) c q.1 h (omega arith))
  where
    by : (u : Bool) → ltb lo c ≡ u → (word_operands lo).sort ≡ o.sort → (word_operands lo).count ≡ o.count → (lo < c → word_operands c ≡ o) → word_operands c ≡ o
    by true f s k more = more (ltb-true lo c f)
    by false f s k more = let z : c ≡ lo = omega (arith, ltb-false lo c f) in rw z (rw (s, k))

pub operands-above : (c : ℕ) → (c ≡ array_code → ⊥) → last_operation < c → word_operands c ≡ operands formula_sort 0
unfolding word_operands
operands-above c n l =
    rw (
      ne_eqb c not_code (λ q. omega arith),
      over and_code imp_code c (omega arith),
      over eq_code ge_code c (omega arith),
      ne_eqb c ex_code (λ q. omega arith),
      over some_code all_code c (omega arith),
      over first_operation last_operation c l,
      ne_eqb c array_code n,
      ne_eqb c call_code (λ q. omega arith),
    )

-- ---- a word, or a procedure's number

pub operands-word : (c : ℕ) → c < procedure_code → word_operands c ≡ operands_of c
unfolding operands_of
operands-word c h = rw (lt-leb procedure_code c h)

pub operands-few : (c : ℕ) → c < procedure_code → (operands_of c).count ≤ 2
operands-few c h =
    operands-all (λ o. o.count ≤ 2) c (omega arith) (omega arith) (omega arith) (omega arith) (omega arith) (omega arith) (omega arith)
    (λ e. omega arith)
    (λ e. absurd (omega arith))

pub operands-number : (c : ℕ) → procedure_code ≤ c → operands_of c ≡ operands term_sort (c - procedure_code)
unfolding operands_of
operands-number c h = rw (le-leb procedure_code c h)

pub number-operands : (n : ℕ) → operands_of (procedure_code + n) ≡ operands term_sort n
number-operands n =
    let e : procedure_code + n - procedure_code ≡ n = omega arith in
    rw (operands-number (procedure_code + n) (omega arith), e)
