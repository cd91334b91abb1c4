-- The third demand, of the blocks of a well-formed sheet's tree: its answers are right, and every pattern agrees with one of its blocks.
-- Assumes nothing.
use Prim.Native.Nat.{ℕ, ◌<◌}
use mathlib.Core.Path.{◌≡◌, refl, sym, ap, subst}
use mathlib.Core.List.{List, [], ◌∷◌}
use lib.Dec.{T, T_not}
use lib.IntN.{ℤ}
use Rattle.specification.specs.Lists.{Each, Some}
use Rattle.specification.specs.Lines.{Declared, cells, cell_of, contains, everything, range_number, range_of, in_range}
use Rattle.specification.specs.Sheet.{Sheet}
use Rattle.specification.specs.Place.{cell}
use Rattle.specification.specs.Value.{Slot, empty, full, Valuation}
use Rattle.specification.specs.WellFormed.{Ordered, Limits, Valid, WellFormed}
use Rattle.specification.specs.Tree.{tree_of}
use Rattle.specification.specs.Listing.{Named, Block}
use Rattle.specification.specs.Leaves.{leaves, blocks}
use Rattle.specification.specs.Outcome.{start, root_of}
use Rattle.specification.specs.Plain.{Filling, Fills, True}
use Rattle.specification.specs.Demand3.{heads_answer, IsAnswer, IsError, Names, Agrees, Such, Right, Agreement}
use Rattle.specification.proofs.Laws.Lists.{each-get_d, each_map, each_both, each-some, some-map, some-and-each}
use Rattle.specification.proofs.Laws.Cells.{agrees-matches, matches-agrees, names-valued}
use Rattle.specification.proofs.Laws.Start.{start_has, start-only, start-valid, keeps-matches, matches-keeps}
use Rattle.specification.proofs.Laws.SheetTree.{Matches, Answer, sound, complete}
use Rattle.specification.proofs.Laws.Leaves.{CellsOf, every-blocks, any-blocks}

-- ---- a filling that agrees with a valuation: the lowest value of its range for a cell without a value

module _ (D : Declared) where
  abbrev slot_value : ℕ → Slot → ℤ
  slot_value c empty = (range_of D c).low
  slot_value c (full z) = z

  abbrev filling : Valuation → Filling
  filling β c = slot_value c (β (cell c))

  filling-at : (β : Valuation) (c : ℕ) (v : ℤ) → β (cell c) ≡ full v → filling β c ≡ v
  filling-at β c v e = ap (slot_value c) e

  lowest-fits : Limits D → (c : ℕ) → T (in_range D c (range_of D c).low)
  unfolding in_range range_of contains
  lowest-fits h c = (each-get_d Ordered D.ranges (range_number D c) everything h.ordered (tt, tt)).0

  filling-fits : Limits D → (β : Valuation) → Valid D β → (c : ℕ) → T (in_range D c (filling β c))
  filling-fits l β h c = go (β (cell c)) refl
    where
      go : (s : Slot) → β (cell c) ≡ s → T (in_range D c (slot_value c s))
      go empty e = lowest-fits l c
      go (full v) e = h (cell c) v e

-- ---- the demand, of the blocks of a well-formed sheet's tree

module _ (s : Sheet) (wf : WellFormed s) where
  abbrev D : Declared
  D = s.declared

  abbrev α : Valuation
  α = start s.given

  -- the blocks of all the tree's answers and errors
  abbrev pub all_blocks : List Block
  all_blocks = blocks D 0 0 (leaves (root_of s))

  valid : Valid D α
  valid = start-valid D s.given wf.values

  answers : Each (λ b. IsAnswer b → CellsOf D (Answer D s.formula α) b) all_blocks
  unfolding root_of
  answers = every-blocks D (Answer D s.formula α) (tree_of D (s.formula ∷ []) α) (sound D s.formula wf.formula α valid)

  names_given : Each (λ b. IsAnswer b → Each (Names D b) s.given) all_blocks
  names_given =
      each_map (λ b f a.
      let (β, e, answer) = f a in
      each_both s.given (λ i declared has.
      subst (Some (λ n. (cell_of D n.name ≡ i.cell) × (n.value ≡ i.value))) (sym e)
      (names-valued D β i.cell declared i.value (answer.keeps i.cell declared i.value has)))
      wf.declared (start_has 0 s.given wf.rising))
      all_blocks answers

  agreeing-true : (φ : Filling) → Fills D φ → Each (λ b. IsAnswer b → Agrees D φ b → True s φ) all_blocks
  unfolding True
  agreeing-true φ fills =
      each_map (λ b f a agrees.
      let (β, e, answer) = f a in
      answer.proves φ fills (agrees-matches D β φ (subst (Each (λ (n : Named). φ (cell_of D n.name) ≡ n.value)) e agrees)))
      all_blocks answers

  true-agrees : (φ : Filling) → Such s φ → True s φ → Some (Agrees D φ) all_blocks
  unfolding True root_of
  true-agrees φ such holds =
      some-map (λ b h.
      let (β, e, matches) = h in
      subst (Each (λ (n : Named). φ (cell_of D n.name) ≡ n.value)) (sym e) (matches-agrees D β φ matches))
      all_blocks
      (any-blocks D (Matches D φ) (tree_of D (s.formula ∷ []) α)
      (complete D s.formula wf.formula α valid φ such.0 (λ c h v e. keeps-matches s.given φ such.1 c v e) holds))

  -- the given cells are declared
  given-declared : (c : ℕ) (v : ℤ) → α (cell c) ≡ full v → c < cells D
  given-declared c v e =
      each-some s.given (λ i declared gives. subst (◌< cells D) gives.0 declared) wf.declared (start-only s.given c v e)

  -- every answer has a filling that agrees with it and keeps the given values
  answer-such : (β : Valuation) → Answer D s.formula α β → Such s (filling D β)
  unfolding Fills
  answer-such β answer = (
    (λ c h. filling-fits D wf.limits β answer.valid c),
    matches-keeps 0 s.given (filling D β) wf.rising (λ c v e. filling-at D β c v (answer.keeps c (given-declared c v e) v e)),
  )

  no-filling : ((φ : Filling) → Such s φ → ¬ True s φ) → (b : Block) → CellsOf D (Answer D s.formula α) b → ⊥
  unfolding True
  no-filling none b (β, e, answer) =
      let such = answer-such β answer in
      none (filling D β) such (answer.proves (filling D β) such.0 (λ c h v at. filling-at D β c v at))

  no-error : (b : Block) → IsAnswer b → IsError b → ⊥
  no-error b a e = T_not (heads_answer b.head) e a

  pub right : Right s all_blocks
  right = record { names_given = names_given; sound = λ φ such. agreeing-true φ such.0 }

  pub agreement : Agreement s all_blocks
  agreement = record {
    right = right;
    complete = true-agrees;
    exactly_when = λ only φ such. (
      (λ holds. some-map (λ b h. (h.1, h.0)) all_blocks (some-and-each (Agrees D φ) IsAnswer all_blocks (true-agrees φ such holds) only)),
      (λ some. each-some all_blocks (λ b f h. f h.0 h.1) (agreeing-true φ such.0) some),
    );
    none_exactly_when = λ only. (
      (λ errors φ such holds.
          each-some all_blocks (λ b e h. no-error b h.1 e) errors (some-and-each (Agrees D φ) IsAnswer all_blocks (true-agrees φ such holds) only)),
      (λ none. each_both all_blocks (λ b f a. absurd (no-filling none b (f a))) answers only),
    );
  }
