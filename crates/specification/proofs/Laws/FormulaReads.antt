-- A legible formula without empty ranges is read from the text of its words in any edition that has them, as itself with the token numbers that
-- it gets there. Assumes nothing.
use Prim.Native.Nat.{ℕ, zero, suc, ◌+◌}
use native.Mathlib.Omega.{arith}
use mathlib.Core.Path.{◌≡◌, refl, ◌∙◌, subst}
use mathlib.Core.Bool.{Bool, true, false, not, ◌&&◌, ◌||◌}
use mathlib.Core.List.{List, [], ◌∷◌, ◌++◌}
use lib.ListN.{length, length-append}
use lib.Dec.{ltb}
use Rattle.specification.specs.Parser.{Reader, give, ◌>>=◌, ◌>>◌}
use Rattle.specification.specs.Lines.{Declared, procedure_of}
use Rattle.specification.specs.Ast.{Term, Formula, truth, and, or, imp, neg, eq, compare, ex, some, all, call}
use Rattle.specification.specs.Fill.{fill}
use Rattle.specification.specs.Words.{number_word}
use Rattle.specification.specs.Formula.{operand, Locals, binder, term, arguments, empty_range, non_empty, formula}
use Rattle.specification.specs.Text.{term_words, argument_words, binder_word, formula_words}
use Rattle.specification.specs.Tidy.{has_empty, token_count, numbered}
use Rattle.specification.proofs.Laws.Contradiction.{contradiction}
use Rattle.specification.proofs.Laws.Legible.{shape_of, counts-at, LegibleTerm, Legible, legible-deep, binders}
use Rattle.specification.proofs.Laws.Tidied.{or-false}
use Rattle.specification.proofs.Laws.WordReads.{grown, counted, Ready, ready-parts, Goes, Starts, operand-goes, none-goes, guarded, both, into, word-starts, TermReads, one-term, two-terms, term-starts, binder-goes, procedure-goes, arguments-goes}

-- ---- formulas

module _ (refusing : Bool) (D : Declared) where
  formula-some : (F : Formula) → ¬ (formula_words F ≡ [])
  unfolding formula_words
  formula-some truth e = contradiction cc
  formula-some (and F G) e = contradiction cc
  formula-some (or F G) e = contradiction cc
  formula-some (imp tok F G) e = contradiction cc
  formula-some (neg tok F) e = contradiction cc
  formula-some (eq tok s t) e = contradiction cc
  formula-some (compare tok r s t) e = contradiction cc
  formula-some (ex l F) e = contradiction cc
  formula-some (some tok l a b F) e = contradiction cc
  formula-some (all tok l a b F) e = contradiction cc
  formula-some (call K ts F) e = contradiction cc

  abbrev numbered_here : ℕ → Formula → Formula
  numbered_here n F = numbered D.procedures n F

  -- each formula of its words
  abbrev FormulaReads : ℕ → Type 0
  FormulaReads k =
      (S : Locals) (F : Formula) (r : Reader) → Legible (shape_of D) k S F → has_empty F ≡ false → Ready D (formula_words F) (binders F) r →
      Starts D (formula refusing D k S) (formula_words F) (binders F) (numbered_here r.tokens F) r

  quiet : (a b : Bool) → b ≡ false → not (a && b) ≡ true
  quiet true b e = rw e
  quiet false b e = refl

  module _ (k : ℕ) (ih : FormulaReads k) (S : Locals) where
    one : (S' : Locals) (F : Formula) (r : Reader) → Legible (shape_of D) k S' F → has_empty F ≡ false → Ready D (formula_words F) (binders F) r →
        Goes D (operand (formula refusing D k S')) (formula_words F) (binders F) (numbered_here r.tokens F) r
    one S' F r h e ready = operand-goes D _ (formula_words F) (binders F) _ r (formula-some F) (ih S' F r h e ready)

    abbrev terms : TermReads D k S
    terms = term-starts D k S

    -- two formulas, and what is made of them
    joined : (g : Formula → Formula → Formula) (F G : Formula) (r : Reader) → Legible (shape_of D) k S F × Legible (shape_of D) k S G →
        has_empty F || has_empty G ≡ false → Ready D (formula_words F ++ formula_words G) (binders F ++ binders G) r →
        Goes D (operand (formula refusing D k S) >>= λ x. operand (formula refusing D k S) >>= λ y. give (g x y)) (formula_words F ++ formula_words G)
        (binders F ++ binders G) (g (numbered_here r.tokens F) (numbered_here (r.tokens + token_count F) G)) r
    joined g F G r h e ready =
        let (x, y) = ready-parts D (formula_words F) (formula_words G) (binders F) (binders G) r ready in
        let (d, c) = or-false (has_empty F) (has_empty G) e in
        both D _ _ (formula_words F) (formula_words G) (binders F) (binders G) _ _ r (one S F r h.0 d x) (into D (g _) (one S G _ h.1 c y))

    -- a local, two bounds and a formula
    quantified : (g : ℕ → Term → Term → Formula → Formula) (p l : ℕ) (a b : Term) (F : Formula) (r : Reader) (n : ℕ) → r.tokens ≡ suc n →
        (ltb l D.locals ≡ true) × LegibleTerm (shape_of D) k S a × LegibleTerm (shape_of D) k S b × Legible (shape_of D) k (l ∷ S) F →
        empty_range a b || has_empty F ≡ false →
        Ready D (binder_word l ∷ (term_words a ++ (term_words b ++ formula_words F))) (l ∷ binders F) r →
        Goes D (operand (binder D k) >>= λ j. operand (term D k S) >>= λ x. operand (term D k S) >>= λ y.
        non_empty refusing p x y >> (operand (formula refusing D k (j ∷ S)) >>= λ z. give (g j x y z)))
        (binder_word l ∷ (term_words a ++ (term_words b ++ formula_words F))) (l ∷ binders F)
        (g l a b (numbered_here (2 + n + length (term_words a ++ term_words b)) F)) r
    quantified g p l a b F r n e h range ready =
        let (x, x') = ready-parts D (binder_word l ∷ []) (term_words a ++ (term_words b ++ formula_words F)) (l ∷ []) (binders F) r ready in
        let r₁ = grown 1 (l ∷ []) r in
        let (y, y') = ready-parts D (term_words a) (term_words b ++ formula_words F) [] (binders F) r₁ x' in
        let r₂ = grown (length (term_words a)) [] r₁ in
        let (z, z') = ready-parts D (term_words b) (formula_words F) [] (binders F) r₂ y' in
        let r₃ = grown (length (term_words b)) [] r₂ in
        let (d, c) = or-false (empty_range a b) (has_empty F) range in
        let count : r₃.tokens ≡ 2 + n + length (term_words a ++ term_words b) = omega (arith, e, length-append (term_words a) (term_words b)) in
        let body = subst (λ (m : ℕ). Goes D (operand (formula refusing D k (l ∷ S))) (formula_words F) (binders F) (numbered_here m F) r₃) count
        (one (l ∷ S) F r₃ h.3 c z') in
        both D _ _ (binder_word l ∷ []) (term_words a ++ (term_words b ++ formula_words F)) (l ∷ []) (binders F) l _ r
        (binder-goes D k l r (legible-deep (shape_of D) k (l ∷ S) F h.3) h.0 x)
        (both D _ _ (term_words a) (term_words b ++ formula_words F) [] (binders F) a _ r₁ (one-term D k S terms a r₁ h.1 y)
        (both D _ _ (term_words b) (formula_words F) [] (binders F) b _ r₂ (one-term D k S terms b r₂ h.2 z)
        (guarded D (not (refusing && empty_range a b)) 17 p (quiet refusing (empty_range a b) d) (into D (g l a b) body))))

    formula-of : (F : Formula) (r : Reader) → Legible (shape_of D) (suc k) S F → has_empty F ≡ false → Ready D (formula_words F) (binders F) r →
        Starts D (formula refusing D (suc k) S) (formula_words F) (binders F) (numbered_here r.tokens F) r
    unfolding formula formula_words binders Legible numbered has_empty
    formula-of truth r h e ready = word-starts D _ (λ b. b) _ [] [] truth r ready λ ok p. none-goes D truth (counted r)
    formula-of (and F G) r h e ready =
        word-starts D _ (λ b. b) _ (formula_words F ++ formula_words G) (binders F ++ binders G) _ r ready λ ok p. joined and F G (counted r) h e ok
    formula-of (or F G) r h e ready =
        word-starts D _ (λ b. b) _ (formula_words F ++ formula_words G) (binders F ++ binders G) _ r ready λ ok p. joined or F G (counted r) h e ok
    formula-of (imp tok F G) r h e ready =
        word-starts D _ (λ b. b) _ (formula_words F ++ formula_words G) (binders F ++ binders G) _ r ready λ ok p.
        joined (imp r.tokens) F G (counted r) h e ok
    formula-of (neg tok F) r h e ready =
        word-starts D _ (λ b. b) _ (formula_words F) (binders F) _ r ready λ ok p. into D (neg r.tokens) (one S F (counted r) h e ok)
    formula-of (eq tok s t) r h e ready =
        word-starts D _ (λ b. b) _ (term_words s ++ term_words t) [] _ r ready λ ok p.
        two-terms D k S terms (eq r.tokens) s t (counted r) h.0 h.1 ok
    formula-of (compare tok c s t) r h e ready =
        word-starts D _ (λ b. b) _ (term_words s ++ term_words t) [] _ r ready λ ok p.
        two-terms D k S terms (compare r.tokens c) s t (counted r) h.0 h.1 ok
    formula-of (ex l F) r h e ready =
        word-starts D _ (λ b. b) _ (binder_word l ∷ formula_words F) (l ∷ binders F) _ r ready λ ok p.
        let (x, y) = ready-parts D (binder_word l ∷ []) (formula_words F) (l ∷ []) (binders F) (counted r) ok in
        let r₁ = grown 1 (l ∷ []) (counted r) in
        let count : r₁.tokens ≡ 2 + r.tokens = omega arith in
        let body = subst (λ (m : ℕ). Goes D (operand (formula refusing D k (l ∷ S))) (formula_words F) (binders F) (numbered_here m F) r₁) count
        (one (l ∷ S) F r₁ h.1 e y) in
        both D _ _ (binder_word l ∷ []) (formula_words F) (l ∷ []) (binders F) l _ (counted r)
        (binder-goes D k l (counted r) (legible-deep (shape_of D) k (l ∷ S) F h.1) h.0 x) (into D (ex l) body)
    formula-of (some tok l a b F) r h e ready =
        word-starts D _ (λ b. b) _ (binder_word l ∷ (term_words a ++ (term_words b ++ formula_words F))) (l ∷ binders F) _ r ready λ ok p.
        quantified (some r.tokens) p l a b F (counted r) r.tokens refl h e ok
    formula-of (all tok l a b F) r h e ready =
        word-starts D _ (λ b. b) _ (binder_word l ∷ (term_words a ++ (term_words b ++ formula_words F))) (l ∷ binders F) _ r ready λ ok p.
        quantified (all r.tokens) p l a b F (counted r) r.tokens refl h e ok
    formula-of (call K ts F) r h e ready =
        word-starts D _ (λ b. b) _ (number_word K ∷ argument_words ts) [] _ r ready λ ok p.
        let (x, y) = ready-parts D (number_word K ∷ []) (argument_words ts) [] [] (counted r) ok in
        let many : length ts ≡ (procedure_of D K).parameters = h.2 ∙ counts-at D.procedures K _ in
        let filled : List Term → Formula = λ us. call K us (fill us (procedure_of D K).formula) in
        let r₁ = grown 1 [] (counted r) in
        both D _ _ (number_word K ∷ []) (argument_words ts) [] [] K _ (counted r) (procedure-goes D k K (counted r) h.0 h.1 x.room)
        (into D filled (subst (λ (m : ℕ). Goes D (arguments D (term D k S) m) (argument_words ts) [] ts r₁) many
        (arguments-goes D k S ts r₁ h.3 y)))

  pub formula-starts : (k : ℕ) → FormulaReads k
  unfolding Legible
  formula-starts zero S F r h e ready = absurd h
  formula-starts (suc k) S F r h e ready = formula-of k (λ S' G. formula-starts k S' G) S F r h e ready
