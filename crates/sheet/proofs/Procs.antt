-- The words of the procedures, and the words beside them; procedures in their order: where each one's tokens stand, and one procedure more.
-- Assumes nothing.
use Prim.Native.Nat.{ℕ, zero, suc, ◌+◌, ◌≤◌, ◌<◌}
use native.Mathlib.Nat.{add-zero}
use native.Mathlib.Omega.{arith}
use mathlib.Core.Path.{◌≡◌, refl, ◌∙◌, ap}
use mathlib.Core.Logic.{◌≢◌}
use mathlib.Core.List.{List, [], ◌∷◌, ◌++◌, append_assoc, append-nil}
use lib.ListN.{length, get_or, set, take, drop, length-set, length-append}
use lib.Seq.{take_all, get_or-set_same, get_or-set_other}
use Rattle.specification.specs.Lists.{Each}
use Rattle.specification.specs.Lines.{Declared}
use Rattle.specification.specs.Ast.{truth, Procedure}
use Rattle.tables.specs.Layout.{max_tokens, max_parameters, proc_slot, procs_at, dues_at, parameters_at}
use Rattle.sheet.specs.declared.Token.{Token}
use Rattle.sheet.specs.declared.formula.Limits.{Limits}
use Rattle.sheet.specs.Codes.{formula_tokens, procedures_tokens}
use Rattle.sheet.specs.Tables.{Words, laid_procs, laid_tokens}
use Rattle.sheet.specs.Held.{proc_at}
use Rattle.sheet.specs.Stack.{Beside}
use Rattle.sheet.specs.FormulaLine.{Small, Sized, Known}
use Rattle.sheet.proofs.Laid.{tokens-other}

-- ---- procedures in their order

abbrev pub none : Procedure
none = record { parameters = 0; formula = truth }

-- the first token of the m-th
abbrev pub first_token : List Procedure → ℕ → ℕ
first_token Ps m = length (procedures_tokens (take m Ps))

-- its tokens lie between those of the procedures before it and after it
pub tokens-split : (Ps : List Procedure) (m : ℕ) → m < length Ps →
    procedures_tokens Ps ≡ procedures_tokens (take m Ps) ++ (formula_tokens (get_or Ps m none).formula ++ procedures_tokens (drop (suc m) Ps))
unfolding procedures_tokens
tokens-split [] m h = absurd (omega arith)
tokens-split (P ∷ Ps) zero h = refl
tokens-split (P ∷ Ps) (suc m) h = rw append_assoc (ap (λ xs. formula_tokens P.formula ++ xs) (tokens-split Ps m (omega arith)))

-- the first token of the next one, of the first, and after the last
pub first_next : (Ps : List Procedure) (m : ℕ) → m < length Ps →
    first_token Ps (suc m) ≡ first_token Ps m + length (formula_tokens (get_or Ps m none).formula)
unfolding procedures_tokens
first_next [] m h = absurd (omega arith)
first_next (P ∷ Ps) zero h = omega (arith, length-append (formula_tokens P.formula) [])
first_next (P ∷ Ps) (suc m) h =
    let xs = formula_tokens P.formula in
    let ih = first_next Ps m (omega arith) in
    omega (arith, length-append xs (procedures_tokens (take (suc m) Ps)), length-append xs (procedures_tokens (take m Ps)))

pub first-none : (Ps : List Procedure) → first_token Ps 0 ≡ 0
unfolding procedures_tokens
first-none [] = refl
first-none (P ∷ Ps) = refl

pub first-all : (Ps : List Procedure) (m : ℕ) → length Ps ≤ m → first_token Ps m ≡ length (procedures_tokens Ps)
first-all Ps m h = ap (λ (Qs : List Procedure). length (procedures_tokens Qs)) (take_all m Ps h)

pub tokens-one-more : (Ps : List Procedure) (P : Procedure) → procedures_tokens (Ps ++ (P ∷ [])) ≡ procedures_tokens Ps ++ formula_tokens P.formula
unfolding procedures_tokens
tokens-one-more [] P = append-nil (formula_tokens P.formula)
tokens-one-more (Q ∷ Ps) P = rw append_assoc (ap (λ xs. formula_tokens Q.formula ++ xs) (tokens-one-more Ps P))

-- none has more than eight parameters
pub few-parameters : (Ps : List Procedure) → Each (λ P. P.parameters ≤ max_parameters) Ps → (K : ℕ) → (get_or Ps K none).parameters ≤ max_parameters
unfolding Each
few-parameters [] e K = omega arith
few-parameters (P ∷ Ps) e zero = e.0
few-parameters (P ∷ Ps) e (suc K) = few-parameters Ps e.1 K

-- ---- the words

-- the two words of a procedure
abbrev pub entered : Words → ℕ → ℕ → Procedure → Words
entered w K i P = set (set w (proc_slot K) i) (proc_slot K + 1) P.parameters

entered-other : (j : ℕ) (w : Words) (K i : ℕ) (P : Procedure) → j ≢ proc_slot K → j ≢ proc_slot K + 1 → get_or (entered w K i P) j 0 ≡ get_or w j 0
entered-other j w K i P a b =
    get_or-set_other (set w (proc_slot K) i) (proc_slot K + 1) j P.parameters 0 b ∙ get_or-set_other w (proc_slot K) j i 0 a

pub procs-length : (K i : ℕ) (Ps : List Procedure) (w : Words) → length (laid_procs K i Ps w) ≡ length w
unfolding laid_procs
procs-length K i [] w = refl
procs-length K i (P ∷ Ps) w = procs-length (suc K) (i + length (formula_tokens P.formula)) Ps (entered w K i P) ∙ simp length-set

pub procs-other : (j K i : ℕ) (Ps : List Procedure) (w : Words) →
    ((m : ℕ) → K ≤ m → m < K + length Ps → (j ≢ proc_slot m) × (j ≢ proc_slot m + 1)) → get_or (laid_procs K i Ps w) j 0 ≡ get_or w j 0
unfolding laid_procs
procs-other j K i [] w h = refl
procs-other j K i (P ∷ Ps) w h =
    let k = h K (omega arith) (omega arith) in
    procs-other j (suc K) (i + length (formula_tokens P.formula)) Ps (entered w K i P) (λ m a b. h m (omega arith) (omega arith)) ∙
    entered-other j w K i P k.0 k.1

abbrev ProcWords : Words → ℕ → ℕ → ℕ → Type 0
ProcWords w K i n = (proc_at w K ≡ i) × (parameters_at w K ≡ n)

pub procs-at : (Ps : List Procedure) (K i m : ℕ) (w : Words) → m < length Ps → proc_slot (K + length Ps) ≤ length w →
    ProcWords (laid_procs K i Ps w) (K + m) (i + first_token Ps m) (get_or Ps m none).parameters
unfolding laid_procs procedures_tokens
procs-at [] K i m w h l = absurd (omega arith)
procs-at (P ∷ Ps) K i zero w h l =
    let i' = i + length (formula_tokens P.formula) in
    let u = set w (proc_slot K) i in
    rw (add-zero, add-zero) (
      procs-other (proc_slot K) (suc K) i' Ps (entered w K i P) (λ m a b. (omega arith, omega arith)) ∙
          get_or-set_other u (proc_slot K + 1) (proc_slot K) P.parameters 0 (omega arith) ∙
          get_or-set_same w (proc_slot K) i 0 (omega arith),
      procs-other (proc_slot K + 1) (suc K) i' Ps (entered w K i P) (λ m a b. (omega arith, omega arith)) ∙
          get_or-set_same u (proc_slot K + 1) P.parameters 0 (simp length-set (omega arith)),
    )
procs-at (P ∷ Ps) K i (suc m) w h l =
    let xs = formula_tokens P.formula in
    let ih = procs-at Ps (suc K) (i + length xs) m (entered w K i P) (omega arith) (simp length-set (omega arith)) in
    let e : K + suc m ≡ suc K + m = omega arith in
    let f : i + length xs + first_token Ps m ≡ i + length (xs ++ procedures_tokens (take m Ps)) = omega (arith, length-append xs (procedures_tokens (take m Ps))) in
    rw e (ih.0 ∙ f, ih.1)

pub procs-more : (Ps : List Procedure) (P : Procedure) (K i : ℕ) (w : Words) →
    laid_procs K i (Ps ++ (P ∷ [])) w ≡ entered (laid_procs K i Ps w) (K + length Ps) (i + length (procedures_tokens Ps)) P
unfolding laid_procs procedures_tokens
procs-more [] P K i w = rw (add-zero, add-zero)
procs-more (Q ∷ Ps) P K i w =
    let xs = formula_tokens Q.formula in
    let e : K + suc (length Ps) ≡ suc K + length Ps = omega arith in
    let f : i + length (xs ++ procedures_tokens Ps) ≡ i + length xs + length (procedures_tokens Ps) = omega (arith, length-append xs (procedures_tokens Ps)) in
    rw (e, f) (procs-more Ps P (suc K) (i + length xs) (entered w K i Q))

-- ---- words that have the same procedures

abbrev pub SameProcs : Words → Words → Type 0
SameProcs w w' = (j : ℕ) → procs_at ≤ j → j < dues_at → get_or w' j 0 ≡ get_or w j 0

module _ {l : Limits} (w w' : Words) (same : SameProcs w w') where
  pub sized_same : Small l → Sized l w → Sized l w'
  sized_same s h K k = rw (same (proc_slot K + 1) (omega arith) (omega (arith, s.procedures))) (h K k)

  pub known_same : {D : Declared} → Known l w D → Known l w' D
  known_same g = record {
    counts = g.counts;
    supplied = λ K k. same (proc_slot K + 1) (omega arith) (omega (arith, g.counts.procedures, g.counts.limited.procedures)) ∙ g.supplied K k;
  }

pub same-tokens : (i : ℕ) (ts : List Token) (w w' : Words) → i + length ts ≤ max_tokens → Beside (laid_tokens i ts w) w' → SameProcs w w'
same-tokens i ts w w' h b j l m = b.below j m ∙ tokens-other j i ts w (λ k p q. (omega arith, omega arith))
