-- The procedures that are read are well scoped in their lines, the locals that they bind have binders, and their numbers keep the limits.
-- Assumes nothing.
use Prim.Native.Nat.{ℕ, zero, suc, ◌+◌, ◌≤◌, ◌<◌}
use native.Mathlib.Omega.{arith}
use mathlib.Core.Path.{◌≡◌, refl}
use mathlib.Core.Bool.{Bool, true, false}
use mathlib.Core.List.{List, [], ◌∷◌, ◌++◌}
use lib.ListN.{length, get_or, length-append, get_or-append}
use lib.Seq.{take-append_seam, take-append-le}
use lib.Dec.{ltb}
use borrow.Author.Tests.{ltb-true, ltb-false}
use Rattle.specification.specs.Lists.{Each}
use Rattle.specification.specs.Bytes.{Bytes, bytes, Class, feed, colon, begins}
use Rattle.specification.specs.Parser.{Reader, Parser, next, mark, exactly, taken}
use Rattle.specification.specs.Lines.{Declared, procedure_of}
use Rattle.specification.specs.Ast.{Procedure}
use Rattle.specification.specs.Formula.{Locals, has}
use Rattle.specification.specs.Sheet.{with_parameters, with_procedures, procedure_line, procedure_lines}
use Rattle.specification.specs.WellFormed.{nowhere, Ok, line_of}
use Rattle.specification.proofs.Laws.Parser.{Post, refusal, holds, both_post, bind-post, choose-post, pick_post}
use Rattle.specification.proofs.Laws.Lists.{each-++}
use Rattle.specification.proofs.Laws.LineReaders.{Composed, count_by}
use Rattle.specification.proofs.Laws.ReadLines.{count_post}
use Rattle.specification.proofs.Laws.ReadTerm.{Sub}
use Rattle.specification.proofs.Laws.ReadFormula.{Bounds, Known, formula-post}

-- ---- readers that read no token keep what has a binder

abbrev pub Keeps : Locals → {A : Type 0} → Parser A → Type 0
Keeps R m = (r : Reader) → Sub R r.bound → Post (λ a r'. Sub R r'.bound) (m r)

module _ (R : Locals) where
  mark-keeps : (c : Class) → Keeps R (mark c)
  unfolding mark
  mark-keeps c r s = pick_post (next c r.rest) _ _ (λ e. holds s) (λ e. refusal tt)

  pub exactly-keeps : (n : ℕ) (k : Bytes) → Keeps R (exactly n k)
  unfolding exactly
  exactly-keeps n k r s = pick_post (begins k r.rest) _ _ (λ e. holds s) (λ e. refusal tt)

  taken-keeps : (f : ℕ → Bool) → Keeps R (taken f)
  unfolding taken
  taken-keeps f r s = holds s

  keeps-composed : Composed (λ p. Unit {0}) (λ A m. Keeps R m)
  keeps-composed = record {
    give = λ A a r s. holds s;
    refuse = λ A n p t h r s. refusal tt;
    bind = λ A B m f h k r s. bind-post (h r s) λ a r₁ s₁. k a r₁ s₁;
    here = λ B f k r s. k r.place tt r s;
    sees = λ c r s. holds s;
    spells = λ k r s. holds s;
    mark = mark-keeps;
    exactly = λ n k t. exactly-keeps n k;
    taken = taken-keeps;
  }

-- ---- one line

-- P is read from r on
record ProcedureRead (D : Declared) (r : Reader) (P : Procedure) (r' : Reader) : Type 0 where
  few : P.parameters ≤ 8
  ok : Ok (with_parameters P.parameters D) nowhere P.formula
  binders : Bounds P.formula r'.bound
  more : Sub r.bound r'.bound

module _ (D : Declared) (B : Locals) (known : Known D B) (refusing : Bool) where
  line_post : (r : Reader) → Sub B r.bound → Post (ProcedureRead D r) (procedure_line refusing D r)
  unfolding procedure_line has
  line_post r s =
      let R = r.bound in
      bind-post (exactly-keeps R 3 (bytes "proc=") r (λ j h. h)) λ u r₁ s₁.
      bind-post (both_post (count_post 0 8 r₁) (count_by (keeps-composed R) 0 8 r₁ s₁)) λ n r₂ h₂.
      bind-post (mark-keeps R colon r₂ h₂.1) λ u r₃ s₃.
      bind-post (formula-post (with_parameters n D) B (in-line n) refusing 64 r₃ (λ j h. s₃ j (s j h))) λ F r₄ h₄.
      bind-post (mark-keeps r₄.bound feed r₄ (λ j h. h)) λ u r₅ s₅.
      holds (record {
        few = h₂.0.1;
        ok = h₄.ok;
        binders = λ l b. s₅ l (h₄.binders l b);
        more = λ j h. s₅ j (h₄.more j (s₃ j h));
      })
    where
      in-line : (n : ℕ) → Known (with_parameters n D) B
      in-line n = record { scoped = known.scoped; binders = known.binders }

-- ---- one procedure more

get_d-seam : {A : Type 0} (xs : List A) (x d : A) → get_or (xs ++ (x ∷ [])) (length xs) d ≡ x
get_d-seam [] x d = refl
get_d-seam (y ∷ xs) x d = get_d-seam xs x d

module _ (D : Declared) (P : Procedure) where
  abbrev more : Declared
  more = with_procedures (D.procedures ++ (P ∷ [])) D

  -- what holds of the procedures before and of P in its line holds of all
  each_more : (C : Declared → Procedure → Type 0) →
      ((K : ℕ) → K < length D.procedures → C (line_of D K) (procedure_of D K)) → C (with_parameters P.parameters D) P →
      (K : ℕ) → K < length more.procedures → C (line_of more K) (procedure_of more K)
  each_more C old new K h = go (ltb K (length D.procedures)) refl
    where
      go : (b : Bool) → ltb K (length D.procedures) ≡ b → C (line_of more K) (procedure_of more K)
      go true e =
          let k = ltb-true K (length D.procedures) e in
          rw (get_or-append D.procedures (P ∷ []) _ K k, take-append-le K D.procedures (P ∷ []) (omega arith)) (old K k)
      go false e =
          let z = length-append D.procedures (P ∷ []) in
          let k : K ≡ length D.procedures = omega (arith, ltb-false K (length D.procedures) e, z, h) in
          rw (k, get_d-seam D.procedures P _, take-append_seam D.procedures (P ∷ [])) new

  known_more : (B B' : Locals) → Known D B → Sub B B' → Ok (with_parameters P.parameters D) nowhere P.formula → Bounds P.formula B' →
      Known more B'
  known_more B B' known s ok b = record {
    scoped = each_more (λ L Q. Ok L nowhere Q.formula) known.scoped ok;
    binders = each_more (λ L Q. Bounds Q.formula B') (λ K h l t. s l (known.binders K h l t)) b;
  }

-- ---- all lines

-- all procedures, where at most n are
pub record ProceduresRead (n : ℕ) (D : Declared) (Ps : List Procedure) (r : Reader) : Type 0 where
  pub few : Each (λ P. P.parameters ≤ 8) Ps
  pub count : length Ps ≤ n
  pub known : Known (with_procedures Ps D) r.bound

module _ (n : ℕ) (E : Declared) (refusing : Bool) where
  abbrev after : List Procedure → Declared
  after Ps = with_procedures Ps E

  -- those that were read before
  no_more : (Ps : List Procedure) (B : Locals) → Known (after Ps) B → Each (λ P. P.parameters ≤ 8) Ps → length Ps ≤ n →
      (r : Reader) → Sub B r.bound → ProceduresRead n E Ps r
  no_more Ps B known few h r s = record {
    few = few;
    count = h;
    known = record { scoped = known.scoped; binders = λ K e l t. s l (known.binders K e l t) };
  }

  pub procedures-post : (k : ℕ) (Ps : List Procedure) (B : Locals) → Known (after Ps) B → Each (λ P. P.parameters ≤ 8) Ps →
      length Ps + k ≤ n → (r : Reader) → Sub B r.bound → Post (ProceduresRead n E) (procedure_lines refusing k (after Ps) r)
  unfolding procedure_lines Each
  procedures-post zero Ps B known few h r s =
      let z : length Ps ≤ n = omega arith in holds (no_more Ps B known few z r s)
  procedures-post (suc k) Ps B known few h r s =
      let z : length Ps ≤ n = omega arith in
      choose-post (begins (bytes "p") r.rest) _ _ r
      (bind-post (line_post (after Ps) B known refusing r s) λ P r₁ p.
      procedures-post k (Ps ++ (P ∷ [])) r₁.bound
      (known_more (after Ps) P B r₁.bound known (λ j e. p.more j (s j e)) p.ok p.binders)
      (each-++ (λ Q. Q.parameters ≤ 8) Ps (P ∷ []) few (p.few, tt))
      (omega (arith, length-append Ps (P ∷ []))) r₁ (λ j e. e))
      (holds (no_more Ps B known few z r s))
