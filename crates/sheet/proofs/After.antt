-- The tokens after whole subtrees. A term's or a formula's tokens are one subtree. Assumes nothing.
use Prim.Native.Nat.{ℕ, zero, suc, ◌+◌, ◌-◌, ◌≤◌}
use native.Mathlib.Nat.{zero-add, suc-add, add_assoc}
use native.Mathlib.Omega.{arith}
use mathlib.Core.Path.{◌≡◌, refl, ◌∙◌, ap, subst}
use mathlib.Core.List.{List, [], ◌∷◌, ◌++◌, append_assoc}
use lib.ListN.{length, drop}
use lib.Seq.{drop-nil}
use Rattle.specification.specs.Ast.{Op, add, sub, mul, quo, rem, div, modulo, Rel, ne, lt, le, gt, ge, Term, constant, scalar_at, local_at, parameter, element_at, apply, Formula, truth, and, or, imp, neg, eq, compare, ex, some, all, call}
use Rattle.specification.proofs.Laws.Contradiction.{contradiction}
use Rattle.values.specs.Word.{biased}
use Rattle.tables.specs.Codes.{true_code, and_code, or_code, imp_code, not_code, eq_code, ex_code, some_code, all_code, call_code, constant_code, scalar_code, local_code, array_code, parameter_code, procedure_code}
use Rattle.sheet.specs.declared.Token.{Token}
use Rattle.sheet.specs.Codes.{token, rel_code, op_code, term_tokens, terms_tokens, formula_tokens}
use Rattle.sheet.specs.Sorts.{arity, word_operands, operands_of}
use Rattle.sheet.specs.Tables.{after}
use Rattle.sheet.proofs.CodeOperands.{number-operands}

pub after_none : (ts : List Token) → after ts zero ≡ ts
unfolding after
after_none [] = refl
after_none (t ∷ ts) = refl

-- m subtrees, and then n
pub after-add : (ts : List Token) (m n : ℕ) → after ts (m + n) ≡ after (after ts m) n
unfolding after
after-add [] m n = refl
after-add (t ∷ ts) zero n = rw zero-add
after-add (t ∷ ts) (suc m) n = rw (suc-add, ← add_assoc) (after-add ts (arity t.code + m) n)

-- ---- whole subtrees

-- these tokens are k whole subtrees
abbrev pub Subtrees : ℕ → List Token → Type 0
Subtrees k xs = (rest : List Token) (n : ℕ) → after (xs ++ rest) (k + n) ≡ after rest n

nothing : Subtrees 0 []
nothing rest n = rw zero-add

joined : (j k : ℕ) (xs ys : List Token) → Subtrees j xs → Subtrees k ys → Subtrees (j + k) (xs ++ ys)
joined j k xs ys h l rest n = rw (append_assoc, add_assoc) (h (ys ++ rest) (k + n) ∙ l rest n)

-- a token, and its operands
node : (t : Token) (k : ℕ) (xs : List Token) → arity t.code ≡ k → Subtrees k xs → Subtrees 1 (t ∷ xs)
unfolding after
node t k xs e h rest n =
    let s : 1 + n ≡ suc n = omega arith in
    rw s (ap (λ a. after (xs ++ rest) (a + n)) e ∙ h rest n)

leaf : (t : Token) → arity t.code ≡ 0 → Subtrees 1 (t ∷ [])
leaf t e = node t 0 [] e nothing

two : (t : Token) (xs ys : List Token) → arity t.code ≡ 2 → Subtrees 1 xs → Subtrees 1 ys → Subtrees 1 (t ∷ (xs ++ ys))
two t xs ys e h k = node t 2 (xs ++ ys) e (joined 1 1 xs ys h k)

op-arity : (o : Op) → arity (op_code o) ≡ 2
unfolding arity operands_of word_operands
op-arity add = refl
op-arity sub = refl
op-arity mul = refl
op-arity quo = refl
op-arity rem = refl
op-arity div = refl
op-arity modulo = refl

rel-arity : (c : Rel) → arity (rel_code c) ≡ 2
unfolding arity operands_of word_operands
rel-arity ne = refl
rel-arity lt = refl
rel-arity le = refl
rel-arity gt = refl
rel-arity ge = refl

number-arity : (n : ℕ) → arity (procedure_code + n) ≡ n
unfolding arity
number-arity n = rw (number-operands n)

pub term-subtree : (t : Term) → Subtrees 1 (term_tokens t)
unfolding term_tokens arity operands_of word_operands
term-subtree (constant z) = leaf (token constant_code (biased z)) refl
term-subtree (scalar_at c) = leaf (token scalar_code c) refl
term-subtree (local_at l) = leaf (token local_code l) refl
term-subtree (parameter n) = leaf (token parameter_code n) refl
term-subtree (element_at a t) = node (token array_code a) 1 (term_tokens t) refl (term-subtree t)
term-subtree (apply o s t) = two (token (op_code o) 0) (term_tokens s) (term_tokens t) (op-arity o) (term-subtree s) (term-subtree t)

pub terms-subtree : (ts : List Term) → Subtrees (length ts) (terms_tokens ts)
unfolding terms_tokens
terms-subtree [] = nothing
terms-subtree (t ∷ ts) =
    let e : 1 + length ts ≡ suc (length ts) = omega arith in
    subst (λ k. Subtrees k (term_tokens t ++ terms_tokens ts)) e (joined 1 (length ts) (term_tokens t) (terms_tokens ts) (term-subtree t) (terms-subtree ts))

-- a procedure's number, and its arguments
pub number-subtree : (K : ℕ) (ts : List Term) → Subtrees 1 (token (procedure_code + length ts) K ∷ terms_tokens ts)
number-subtree K ts = node (token (procedure_code + length ts) K) (length ts) (terms_tokens ts) (number-arity (length ts)) (terms-subtree ts)

-- a binder with bounds
range : (c l : ℕ) (a b : Term) (xs : List Token) → arity c ≡ 4 → Subtrees 1 xs →
    Subtrees 1 (token c 0 ∷ token local_code l ∷ (term_tokens a ++ (term_tokens b ++ xs)))
unfolding arity operands_of word_operands
range c l a b xs e h =
    node (token c 0) 4 (token local_code l ∷ (term_tokens a ++ (term_tokens b ++ xs))) e
    (joined 1 3 (token local_code l ∷ []) (term_tokens a ++ (term_tokens b ++ xs)) (leaf (token local_code l) refl)
    (joined 1 2 (term_tokens a) (term_tokens b ++ xs) (term-subtree a) (joined 1 1 (term_tokens b) xs (term-subtree b) h)))

pub formula-subtree : (F : Formula) → Subtrees 1 (formula_tokens F)
unfolding formula_tokens arity operands_of word_operands
formula-subtree truth = leaf (token true_code 0) refl
formula-subtree (and F G) = two (token and_code 0) (formula_tokens F) (formula_tokens G) refl (formula-subtree F) (formula-subtree G)
formula-subtree (or F G) = two (token or_code 0) (formula_tokens F) (formula_tokens G) refl (formula-subtree F) (formula-subtree G)
formula-subtree (imp n F G) = two (token imp_code 0) (formula_tokens F) (formula_tokens G) refl (formula-subtree F) (formula-subtree G)
formula-subtree (neg n F) = node (token not_code 0) 1 (formula_tokens F) refl (formula-subtree F)
formula-subtree (eq n s t) = two (token eq_code 0) (term_tokens s) (term_tokens t) refl (term-subtree s) (term-subtree t)
formula-subtree (compare n c s t) = two (token (rel_code c) 0) (term_tokens s) (term_tokens t) (rel-arity c) (term-subtree s) (term-subtree t)
formula-subtree (ex l F) = two (token ex_code 0) (token local_code l ∷ []) (formula_tokens F) refl (leaf (token local_code l) refl) (formula-subtree F)
formula-subtree (some n l a b F) = range some_code l a b (formula_tokens F) refl (formula-subtree F)
formula-subtree (all n l a b F) = range all_code l a b (formula_tokens F) refl (formula-subtree F)
formula-subtree (call K ts F) =
    node (token call_code 0) 1 (token (procedure_code + length ts) K ∷ terms_tokens ts) refl (number-subtree K ts)

-- ---- what follows a subtree

pub after-subtree : (xs rest : List Token) → Subtrees 1 xs → after (xs ++ rest) 1 ≡ rest
after-subtree xs rest h = h rest 0 ∙ after_none rest

pub some-token : (xs : List Token) → Subtrees 1 xs → 1 ≤ length xs
unfolding after
some-token [] h = contradiction (ap length (h (token true_code 0 ∷ []) 0))
some-token (x ∷ xs) h = omega arith

-- ---- by numbers: what is left is an end of the list

pub after-length : (ts : List Token) (n : ℕ) → length (after ts n) ≤ length ts
unfolding after
after-length [] n = omega arith
after-length (t ∷ ts) zero = omega arith
after-length (t ∷ ts) (suc n) = omega (arith, after-length ts (arity t.code + n))

pub after-drop : (ts : List Token) (n : ℕ) → drop (length ts - length (after ts n)) ts ≡ after ts n
unfolding after
after-drop [] n = drop-nil (0 - 0)
after-drop (t ∷ ts) zero = let e : suc (length ts) - suc (length ts) ≡ 0 = omega arith in rw e
after-drop (t ∷ ts) (suc n) =
    let m = arity t.code + n in
    let e : suc (length ts) - length (after ts m) ≡ suc (length ts - length (after ts m)) = omega (arith, after-length ts m) in
    rw e (after-drop ts m)
