-- The first place where the bytes of a division that rounds down are found is that of the first such word. Assumes nothing.
use Prim.Native.Nat.{ℕ, suc, ◌+◌}
use native.Mathlib.Omega.{arith}
use native.Mathlib.Nat.{add-zero}
use mathlib.Core.Path.{◌≡◌, refl, ◌∙◌, ap}
use mathlib.Core.Bool.{Bool, true, false}
use mathlib.Core.List.{List, [], ◌∷◌, ◌++◌, append_assoc}
use mathlib.Core.Option.{Option, none, some as just}
use lib.ListN.{length, length-append}
use Rattle.specification.specs.Bytes.{Bytes, bytes, pick}
use Rattle.specification.specs.Lists.{Each}
use Rattle.specification.specs.Ast.{Formula, Procedure}
use Rattle.specification.specs.Words.{Word, formula_word}
use Rattle.specification.specs.Text.{led, parted, formula_word_text, word_text, formula_words, spelt, procedure_key, procedure_text, procedures_text, formula_text}
use Rattle.specification.specs.Moves.{newer, is_rounding, rounding_at, or_else, rounding_from}
use Rattle.specification.proofs.Laws.Print.{Lacks}
use Rattle.mover.specs.Model.{rounding_place}
use Rattle.mover.proofs.Laws.MovedLines.{lacks}
use Rattle.mover.proofs.Laws.MovedWords.{spaceless-word, spaceless-key, Known, word-found, Written, written, formula-written, place-past, line-parts}

found-or : (b : Bool) (p q : ℕ) (x y z : Option ℕ) → p ≡ q → x ≡ or_else y z → pick b (just p) x ≡ or_else (pick b (just q) y) z
found-or true p q x y z e h = ap just e
found-or false p q x y z e h = h

place-led : (ws : List Word) → Each Known ws → (p : ℕ) (rest : Bytes) →
    rounding_place p (led (bytes " ") (word_text newer) ws ++ rest)
    ≡ or_else (rounding_at (p + 1) ws) (rounding_place (p + length (led (bytes " ") (word_text newer) ws)) rest)
unfolding rounding_place rounding_at led Each
place-led [] k p rest = rw (add-zero p)
place-led (w ∷ ws) k p rest =
    let t = word_text newer w in
    let l = led (bytes " ") (word_text newer) ws in
    let e : suc p + length t + 1 ≡ p + 1 + length t + 1 = omega arith in
    let f : suc p + length t + length l ≡ p + suc (length (t ++ l)) = omega (arith, length-append t l) in
    let later : rounding_place (suc p) (t ++ (l ++ rest))
    ≡ or_else (rounding_at (p + 1 + length t + 1) ws) (rounding_place (p + suc (length (t ++ l))) rest) =
    place-past (suc p) t (l ++ rest) (spaceless-word w) ∙ place-led ws k.1 (suc p + length t) rest
    ∙ ap (λ (q : ℕ). or_else (rounding_at q ws) (rounding_place (suc p + length t + length l) rest)) e
    ∙ ap (λ (q : ℕ). or_else (rounding_at (p + 1 + length t + 1) ws) (rounding_place q rest)) f in
    rw (append_assoc t l rest, word-found w k.0 (l ++ rest))
    (found-or (is_rounding w) (suc p) (p + 1) (rounding_place (suc p) (t ++ (l ++ rest))) (rounding_at (p + 1 + length t + 1) ws)
    (rounding_place (p + suc (length (t ++ l))) rest) (omega arith) later)

place-spelt : (ws : List Word) → Written ws → (p : ℕ) (rest : Bytes) →
    rounding_place p (spelt newer ws ++ rest) ≡ or_else (rounding_at p ws) (rounding_place (p + length (spelt newer ws)) rest)
unfolding parted word_text rounding_at is_rounding
place-spelt ws (written f us k) p rest =
    let t = formula_word_text f in
    let l = led (bytes " ") (word_text newer) us in
    let e : p + length t + length l ≡ p + length (t ++ l) = omega (arith, length-append t l) in
    rw (append_assoc t l rest)
    (place-past p t (l ++ rest) (spaceless-word (formula_word f)) ∙ place-led us k (p + length t) rest
    ∙ ap (λ (q : ℕ). or_else (rounding_at (p + length t + 1) us) (rounding_place q rest)) e)

place-line : (key : Bytes) → Lacks 32 key → (F : Formula) (p : ℕ) (rest : Bytes) →
    rounding_place p (key ++ (spelt newer (formula_words F) ++ 10 ∷ rest))
    ≡ or_else (rounding_at (p + length key) (formula_words F)) (rounding_place (p + length (key ++ (spelt newer (formula_words F) ++ bytes "\n"))) rest)
unfolding Each
place-line key h F p rest =
    let ws = formula_words F in
    let t = spelt newer ws in
    let e : p + length key + length t + 1 ≡ p + length (key ++ (t ++ bytes "\n")) =
    omega (arith, length-append key (t ++ bytes "\n"), length-append t (bytes "\n")) in
    place-past p key (t ++ 10 ∷ rest) h ∙ place-spelt ws (formula-written F) (p + length key) (10 ∷ rest)
    ∙ ap (or_else (rounding_at (p + length key) ws)) (place-past (p + length key + length t) (bytes "\n") rest (refl, tt))
    ∙ ap (λ (q : ℕ). or_else (rounding_at (p + length key) ws) (rounding_place q rest)) e

place_end : (p : ℕ) (x : Option ℕ) → or_else x (rounding_place p []) ≡ x
unfolding rounding_place
place_end p none = refl
place_end p (just q) = refl

-- in the lines of procedures and of the formula
pub place-formulas : (Ps : List Procedure) (F : Formula) (p : ℕ) →
    rounding_place p (procedures_text newer Ps ++ formula_text newer F) ≡ rounding_from p Ps F
unfolding procedures_text procedure_text rounding_from
place-formulas [] F p =
    place-line (bytes "formula=") (lacks 32 (bytes "formula=") refl) F p []
    ∙ place_end (p + length (formula_text newer F)) (rounding_at (p + length (bytes "formula=")) (formula_words F))
place-formulas (P ∷ Ps) F p =
    let key = procedure_key P in
    let t = spelt newer (formula_words P.formula) in
    let rest = procedures_text newer Ps ++ formula_text newer F in
    rw (append_assoc (procedure_text newer P) (procedures_text newer Ps) (formula_text newer F), line-parts key t rest)
    (place-line key (spaceless-key P) P.formula p rest
    ∙ ap (or_else (rounding_at (p + length key) (formula_words P.formula))) (place-formulas Ps F (p + length (procedure_text newer P))))
