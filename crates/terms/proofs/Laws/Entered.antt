-- The arguments went into the slots of a procedure: what the slots say of the terms that its parameters stand for. Assumes nothing.
use Prim.Native.Nat.{ℕ, ◌+◌, ◌<◌, ◌≤◌}
use native.Mathlib.Omega.{arith}
use mathlib.Core.Path.{◌≡◌, refl, sym, ◌∙◌, ap}
use mathlib.Core.Bool.{Bool, true, false}
use mathlib.Core.List.{List, map}
use lib.ListN.{length, get_or, length-map, get_or-map}
use lib.Dec.{T}
use Rattle.specification.specs.Bytes.{pick}
use Rattle.specification.specs.Lines.{Declared, cells}
use Rattle.specification.specs.Ast.{Term, parameter}
use Rattle.specification.specs.Fill.{fill_term, fill_terms}
use Rattle.specification.specs.Place.{Place, cell, local}
use Rattle.specification.specs.Value.{Valuation, Side, val, bare, err, side}
use Rattle.specification.specs.WellFormed.{Scope, OkTerm}
use Rattle.specification.proofs.Laws.Fill.{length-fill, fill-at}
use Rattle.tables.specs.Layout.{max_cells, max_locals}
use Rattle.tables.specs.Frames.{argument_slot}
use Rattle.tables.specs.Locals.{in_set}
use Rattle.sheet.specs.Tables.{Words}
use Rattle.sheet.specs.Held.{slot_of}
use Rattle.terms.specs.Environment.{frozen_as, frozen, Environment, terms_of, Result, Results, flag_of}
use Rattle.terms.specs.Calls.{level_of, Call, Fresh, is_value, argument_word, Tells, Arrived}
use Rattle.terms.proofs.Laws.Frozen.{pinned-looks, place-known}
use Rattle.terms.proofs.Laws.Arguments.{argument-ok}

-- ---- one parameter

-- the flag of a side
flag-of : (b v : Bool) → (b ≡ false → v ≡ true) → (b ≡ true → v ≡ false) → ◌≡◌ {A = ℕ} (pick b 0 1) (pick v 1 0)
flag-of true v a o = rw (o refl) refl
flag-of false v a o = rw (a refl) refl

slot-some : (p : Place) → slot_of p ≡ 0 → ⊥
slot-some (cell c) e = omega arith
slot-some (local l) e = omega arith

-- the term is the argument u in the environment E, frozen
module _ (D : Declared) (α : Valuation) (E : Environment) (S : Scope) (locals : (l : ℕ) → T (S l) → l < max_locals) (few : cells D ≤ max_cells)
    (u : Term) where
  abbrev term : Term
  term = fill_term (terms_of E) u

  result_as : OkTerm D S term → (f v : ℕ) (x : Side) → side D α term ≡ x → f ≡ pick (is_value x) 1 0 → v ≡ argument_word x →
      Result D E f v u (frozen_as D α x term)
  result_as ok f v (val z) e flag word =
      record {
        value = λ a. record { number = z; term = refl; word = word };
        place = λ a. absurd (omega arith);
        opened = λ a. absurd (omega arith);
      }
  result_as ok f v (bare p) e flag word =
      record {
        value = λ a. absurd (omega arith);
        place = λ a b.
            record {
              place = p;
              known = place-known D S α locals few term ok p e;
              looks = λ β. pinned-looks D α β term p e;
              word = word;
            };
        opened = λ a b. absurd (slot-some p (sym word ∙ b));
      }
  result_as ok f v (err κ) e flag word =
      record {
        value = λ a. absurd (omega arith);
        place = λ a b. absurd (b word);
        opened = λ a b. refl;
      }

  pub result-made : OkTerm D S term → {w : Words} {K set n : ℕ} → Tells w K set n (side D α term) →
      Result D E (flag_of set n) (get_or w (argument_slot K n + 1) 0) u (frozen D α term)
  unfolding frozen
  result-made ok {w} {K} {set} {n} t =
      result_as ok (flag_of set n) (get_or w (argument_slot K n + 1) 0) (side D α term) refl
      (flag-of (in_set set n) (is_value (side D α term)) t.value t.other) t.word

-- what parameter n stands for
pub frozen-at : (D : Declared) (α : Valuation) (ts us : List Term) (n : ℕ) → n < length us →
    get_or (map (frozen D α) (fill_terms ts us)) n (parameter n) ≡ frozen D α (fill_term ts (get_or us n (parameter n)))
unfolding frozen side
frozen-at D α ts us n l =
    get_or-map (frozen D α) (fill_terms ts us) n (parameter n)
    ∙ ap (frozen D α) (fill-at ts us n (parameter n) (parameter n) l)

-- ---- all of them

module _ (D : Declared) (α : Valuation) (E : Environment) (K : ℕ) (ts : List Term) where
  pub level-count : length (level_of D α E K ts).terms ≡ length ts
  level-count = length-map (fill_terms (terms_of E) ts) (frozen D α) ∙ length-fill (terms_of E) ts

module _ {w w' : Words} {h K p set : ℕ} (arrived : Arrived w w' h K p set) {D : Declared} {α : Valuation} {E : Environment} {ts : List Term}
    (c : Call w h K p D α E ts) (fresh : Fresh w D α E) where
  inside : {n : ℕ} → n < length (level_of D α E K ts).terms → n < length ts
  inside l = rw (level-count D α E K ts) at l

  pub entered-results : Results D E (level_of D α E K ts) set (λ n. get_or w' (argument_slot K n + 1) 0)
  entered-results n l =
      let given = c.arguments in
      rw (frozen-at D α (terms_of E) ts n (inside l))
      (result-made D α E given.scope given.locals c.memory.cells (get_or ts n (parameter n)) (argument-ok given n (inside l))
      (arrived.each D α E ts c fresh n (inside l)))

  pub entered-flags : (n : ℕ) → n < length (level_of D α E K ts).terms → get_or w' (argument_slot K n) 0 ≡ flag_of set n
  entered-flags n l = (arrived.each D α E ts c fresh n (inside l)).flag
