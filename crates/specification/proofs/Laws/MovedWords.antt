-- The words of a sheet in the older and in the newer edition: the newer has all words of the older, and the older has those of the newer but the
-- two that round down. There is none of these exactly where the search for one finds none. Assumes nothing.
use Prim.Native.Nat.{ℕ, ◌+◌}
use mathlib.Core.Path.{◌≡◌, refl}
use mathlib.Core.Bool.{Bool, true, false}
use mathlib.Core.List.{List, [], ◌∷◌}
use mathlib.Core.Option.{Option, none, some as just}
use lib.ListN.{length}
use Rattle.specification.specs.Lists.{Each}
use Rattle.specification.specs.Bytes.{pick}
use Rattle.specification.specs.Ast.{Formula, Procedure}
use Rattle.specification.specs.Words.{Word, formula_word, term_word, number_word, unknown}
use Rattle.specification.specs.Sheet.{Sheet}
use Rattle.specification.specs.Text.{formula_words, word_text, procedure_key, procedure_text}
use Rattle.specification.specs.Moves.{older, newer, is_rounding, rounding_at, or_else, rounding_from, rounding_in}
use Rattle.specification.proofs.Laws.Contradiction.{contradiction}
use Rattle.specification.proofs.Laws.Spelling.{belongs-newer, belongs-older, older-rounds-not}
use Rattle.specification.proofs.Laws.WordPieces.{Fits}

-- ---- words that round down

-- none of these does
abbrev Unrounded : List Word → Type 0
Unrounded ws = Each (λ w. is_rounding w ≡ false) ws

-- none in these procedures
abbrev EachUnrounded : List Procedure → Type 0
EachUnrounded Ps = Each (λ P. Unrounded (formula_words P.formula)) Ps

-- none in a sheet
abbrev pub AllUnrounded : Sheet → Type 0
AllUnrounded s = EachUnrounded s.declared.procedures × Unrounded (formula_words s.formula)

unrounded-at : (p : ℕ) (ws : List Word) → Unrounded ws → rounding_at p ws ≡ none
unfolding rounding_at Each
unrounded-at p [] h = refl
unrounded-at p (w ∷ ws) h = rw h.0 (unrounded-at (p + length (word_text newer w) + 1) ws h.1)

at-unrounded : (p : ℕ) (ws : List Word) → rounding_at p ws ≡ none → Unrounded ws
unfolding rounding_at Each
at-unrounded p [] e = tt
at-unrounded p (w ∷ ws) e = go (is_rounding w) refl e (λ f. at-unrounded (p + length (word_text newer w) + 1) ws f)
  where
    later : Option ℕ
    later = rounding_at (p + length (word_text newer w) + 1) ws

    go : (b : Bool) → is_rounding w ≡ b → pick b (just p) later ≡ none → (later ≡ none → Unrounded ws) → (is_rounding w ≡ false) × Unrounded ws
    go true h f k = contradiction cc
    go false h f k = (h, k f)

else-none : (o q : Option ℕ) → or_else o q ≡ none → (o ≡ none) × (q ≡ none)
else-none none q e = (refl, e)
else-none (just p) q e = contradiction cc

unrounded-from : (p : ℕ) (Ps : List Procedure) (F : Formula) → EachUnrounded Ps → Unrounded (formula_words F) → rounding_from p Ps F ≡ none
unfolding rounding_from Each
unrounded-from p [] F h k = unrounded-at _ (formula_words F) k
unrounded-from p (P ∷ Ps) F h k = rw (unrounded-at (p + length (procedure_key P)) (formula_words P.formula) h.0) (unrounded-from (p + length (procedure_text newer P)) Ps F h.1 k)

from-unrounded : (p : ℕ) (Ps : List Procedure) (F : Formula) → rounding_from p Ps F ≡ none → EachUnrounded Ps × Unrounded (formula_words F)
unfolding rounding_from Each
from-unrounded p [] F e = (tt, at-unrounded _ (formula_words F) e)
from-unrounded p (P ∷ Ps) F e =
    let q = p + length (procedure_text newer P) in
    let (x, y) = else-none (rounding_at (p + length (procedure_key P)) (formula_words P.formula)) (rounding_from q Ps F) e in
    let (h, k) = from-unrounded q Ps F y in
    ((at-unrounded _ (formula_words P.formula) x, h), k)

pub unrounded-none : (s : Sheet) → AllUnrounded s → rounding_in s ≡ none
unfolding rounding_in
unrounded-none s h = unrounded-from _ s.declared.procedures s.formula h.0 h.1

pub rounding-none : (s : Sheet) → rounding_in s ≡ none → AllUnrounded s
unfolding rounding_in
rounding-none s e = from-unrounded _ s.declared.procedures s.formula e

-- ---- the words of one edition in the other

pub fits-newer : (w : Word) → Fits older w → Fits newer w
fits-newer (formula_word w) h = belongs-newer (formula_word w) h
fits-newer (term_word w) h = belongs-newer (term_word w) h
fits-newer (number_word n) h = tt
fits-newer unknown h = h

pub fits-older : (w : Word) → is_rounding w ≡ false → Fits newer w → Fits older w
fits-older (formula_word w) e h = belongs-older (formula_word w) e h
fits-older (term_word w) e h = belongs-older (term_word w) e h
fits-older (number_word n) e h = tt
fits-older unknown e h = h

pub fits-unrounded : (w : Word) → Fits older w → is_rounding w ≡ false
unfolding is_rounding
fits-unrounded (formula_word w) h = older-rounds-not (formula_word w) h
fits-unrounded (term_word w) h = older-rounds-not (term_word w) h
fits-unrounded (number_word n) h = refl
fits-unrounded unknown h = absurd h
