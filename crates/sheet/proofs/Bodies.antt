-- The procedures that are read: each carries the numbers of its tokens, which follow those of the procedures before it, and calls these only.
-- Assumes nothing.
use Prim.Native.Nat.{ℕ, zero, suc, ◌+◌, ◌≤◌, ◌<◌}
use native.Mathlib.Nat.{add-zero}
use native.Mathlib.Omega.{arith}
use mathlib.Core.Path.{◌≡◌, refl, sym, subst}
use mathlib.Core.Bool.{Bool}
use mathlib.Core.List.{List, [], ◌∷◌, ◌++◌}
use lib.ListN.{length, get_or, take, length-append}
use Rattle.specification.specs.Bytes.{bytes, feed, colon, begins}
use Rattle.specification.specs.Lists.{Each}
use Rattle.specification.specs.Parser.{Reader}
use Rattle.specification.specs.Lines.{Declared}
use Rattle.specification.specs.Ast.{Formula, Procedure}
use Rattle.specification.specs.Sheet.{with_parameters, with_procedures, procedure_line, procedure_lines}
use Rattle.specification.proofs.Laws.Parser.{Post, holds, bind-post, choose-post}
use Rattle.specification.proofs.Laws.Lists.{each-++}
use Rattle.specification.proofs.Laws.LineReaders.{count_by}
use Rattle.specification.proofs.Laws.ReadLines.{count_post}
use Rattle.tables.specs.Layout.{max_tokens, max_nesting, max_locals, max_parameters}
use Rattle.sheet.specs.Codes.{formula_tokens, procedures_tokens}
use Rattle.sheet.specs.Held.{Shallow}
use Rattle.sheet.specs.Numbered.{formula_size, Numbered}
use Rattle.sheet.proofs.Stays.{both_post, mark-stays, exactly-stays, stays-composed}
use Rattle.sheet.proofs.Numbered.{renumbered, formula-counts}
use Rattle.sheet.proofs.Shallow.{formula-shallow}
use Rattle.sheet.proofs.Procs.{none, first_token, tokens-one-more, few-parameters}

-- ---- all procedures, from the K-th on, whose first token is the i-th

pub record Body (K i : ℕ) (F : Formula) : Type 0 where
  pub numbered : Numbered i F
  pub shallow : Shallow K F

unfoldable pub Bodies : ℕ → ℕ → List Procedure → Type 0
Bodies K i [] = Unit {0}
Bodies K i (P ∷ Ps) = Body K i P.formula × Bodies (suc K) (i + formula_size P.formula) Ps

moved : {K K' i i' : ℕ} (F : Formula) → K ≡ K' → i ≡ i' → Body K i F → Body K' i' F
moved {K} {i' = i'} F e f b = subst (λ k. Body k i' F) e (subst (λ j. Body K j F) f b)

bodies-more : (Ps : List Procedure) (P : Procedure) (K i : ℕ) → Bodies K i Ps → Body (K + length Ps) (i + length (procedures_tokens Ps)) P.formula →
    Bodies K i (Ps ++ (P ∷ []))
unfolding Bodies procedures_tokens
bodies-more [] P K i b h = (moved P.formula (add-zero K) (add-zero i) h, tt)
bodies-more (Q ∷ Ps) P K i b h =
    let xs = formula_tokens Q.formula in
    let e : K + suc (length Ps) ≡ suc K + length Ps = omega arith in
    let f : i + length (xs ++ procedures_tokens Ps) ≡ i + length xs + length (procedures_tokens Ps) = omega (arith, length-append xs (procedures_tokens Ps)) in
    (b.0, bodies-more Ps P (suc K) (i + length xs) b.1 (moved P.formula e f h))

pub bodies-at : (Ps : List Procedure) (K i m : ℕ) → m < length Ps → Bodies K i Ps → Body (K + m) (i + first_token Ps m) (get_or Ps m none).formula
unfolding Bodies procedures_tokens
bodies-at [] K i m h b = absurd (omega arith)
bodies-at (P ∷ Ps) K i zero h b = moved P.formula (sym (add-zero K)) (sym (add-zero i)) b.0
bodies-at (P ∷ Ps) K i (suc m) h b =
    let xs = formula_tokens P.formula in
    let e : suc K + m ≡ K + suc m = omega arith in
    let f : i + length xs + first_token Ps m ≡ i + length (xs ++ procedures_tokens (take m Ps)) = omega (arith, length-append xs (procedures_tokens (take m Ps))) in
    moved (get_or Ps m none).formula e f (bodies-at Ps (suc K) (i + length xs) m (omega arith) b.1)

-- ---- the lines

-- these procedures were read, with all tokens so far
pub record Read (Ps : List Procedure) (n : ℕ) : Type 0 where
  pub bodies : Bodies 0 0 Ps
  pub parameters : Each (λ P. P.parameters ≤ max_parameters) Ps
  pub tokens : n ≡ length (procedures_tokens Ps)
  pub few : n ≤ max_tokens

module _ (refusing : Bool) (E : Declared) (locals : E.locals ≤ max_locals) where
  abbrev after : List Procedure → Declared
  after Ps = with_procedures Ps E

  line-body : (Ps : List Procedure) (r : Reader) → Read Ps r.tokens →
      Post (λ P r'. Read (Ps ++ (P ∷ [])) r'.tokens) (procedure_line refusing (after Ps) r)
  unfolding procedure_line Each
  line-body Ps r h =
      bind-post (exactly-stays r.tokens 3 (bytes "proc=") r refl) λ u r₁ t₁.
      bind-post (both_post (count_post 0 max_parameters r₁) (count_by (stays-composed r.tokens) 0 max_parameters r₁ t₁)) λ n r₂ h₂.
      bind-post (mark-stays r.tokens colon r₂ h₂.1) λ u r₃ t₃.
      let D = with_parameters n (after Ps) in
      bind-post
      (both_post (formula-counts refusing D max_nesting [] r₃)
      (formula-shallow D refusing (length Ps) (omega arith) (few-parameters Ps h.parameters) locals max_nesting (omega arith) [] r₃)) λ F r₄ h₄.
      bind-post (mark-stays r₄.tokens feed r₄ refl) λ u r₅ t₅.
      let P : Procedure = record { parameters = n; formula = F } in
      let l : r₃.tokens ≡ 0 + length (procedures_tokens Ps) = omega (arith, t₃, h.tokens) in
      let size : r₅.tokens ≡ length (procedures_tokens (Ps ++ (P ∷ []))) =
      rw (tokens-one-more Ps P, length-append) (omega (arith, t₅, h₄.0.1.tokens, l)) in
      holds (record {
        bodies = bodies-more Ps P 0 0 h.bodies (record {
          numbered = renumbered F l h₄.0.0;
          shallow = subst (λ k. Shallow k F) (omega arith) h₄.1;
        });
        parameters = each-++ (λ Q. Q.parameters ≤ max_parameters) Ps (P ∷ []) h.parameters (h₂.0.1, tt);
        tokens = size;
        few = omega (arith, t₅, h₄.0.1.few);
      })

  pub procedures-read : (k : ℕ) (Ps : List Procedure) (r : Reader) → Read Ps r.tokens →
      Post (λ Qs r'. Read Qs r'.tokens) (procedure_lines refusing k (after Ps) r)
  unfolding procedure_lines
  procedures-read zero Ps r h = holds h
  procedures-read (suc k) Ps r h =
      choose-post (begins (bytes "p") r.rest) _ _ r
      (bind-post (line-body Ps r h) λ P r₁ h₁. procedures-read k (Ps ++ (P ∷ [])) r₁ h₁)
      (holds h)
