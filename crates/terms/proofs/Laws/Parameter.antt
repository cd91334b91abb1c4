-- What the frame of a procedure says of a parameter, from what the code tested. Assumes nothing.
use Prim.Native.Nat.{ℕ, ◌+◌, ◌-◌, ◌<◌}
use native.Mathlib.Omega.{arith}
use mathlib.Core.Path.{◌≡◌, sym, ◌∙◌, ap, subst}
use lib.ListN.{get_or}
use Rattle.specification.specs.Place.{Place, cell, local}
use Rattle.specification.specs.Value.{side}
use Rattle.tables.specs.Layout.{path_at}
use Rattle.tables.specs.Frames.{argument_slot}
use Rattle.sheet.specs.Tables.{Words}
use Rattle.sheet.specs.Held.{slot_of}
use Rattle.terms.specs.declared.Stack.{Stack}
use Rattle.terms.specs.Environment.{Known}
use Rattle.terms.specs.Results.{value_tag, stack_of}
use Rattle.terms.specs.Parts.{Parameter, ParameterIs, ParameterRead, Saved}
use Rattle.terms.proofs.Laws.Low.{holds-low}
use Rattle.terms.proofs.Laws.Off.{off-low, parameter-kept}

slot-inside : (p : Place) → Known p → slot_of p + 1 < path_at
slot-inside (cell c) h = omega arith
slot-inside (local l) h = omega arith

-- the slot at the word k is the parameter's, and x its second word, as the code reads them
module _ (w : Words) (p n at : ℕ) {k x : ℕ} (slot : k ≡ argument_slot (p - 1) n) (word : x ≡ get_or w (k + 1) 0) where
  word-is : x ≡ get_or w (argument_slot (p - 1) n + 1) 0
  word-is = word ∙ ap (λ (k : ℕ). get_or w (k + 1) 0) slot

  flag_is : get_or w k 0 ≡ get_or w (argument_slot (p - 1) n) 0
  flag_is = ap (λ (k : ℕ). get_or w k 0) slot

  module _ (none : get_or w k 0 ≡ 0) where
    flag-none : get_or w (argument_slot (p - 1) n) 0 ≡ 0
    flag-none = sym flag_is ∙ none

    -- where the parameter is a place, its slot is before the path
    pub place-low : Parameter w p n → ¬ (x ≡ 0) → x + 1 < path_at
    place-low a some =
        let q = a.there.place flag-none (λ z. some (word-is ∙ z)) in
        let is : x ≡ slot_of q.place = word-is ∙ q.word in
        subst (λ (k : ℕ). k + 1 < path_at) (sym is) (slot-inside q.place q.known)

  pub result_value : ¬ (get_or w k 0 ≡ 0) → ParameterIs w p n at (record { at = at; tag = value_tag; value = x })
  unfolding side
  result_value some D α term holds g =
      let set : get_or w (argument_slot (p - 1) n) 0 ≡ 1 = omega (arith, g.flag, flag_is, some) in
      let q = g.value set in
      rw q.term (ap (λ (v : ℕ). record { at = at; tag = value_tag; value = v }) (word-is ∙ q.word))

-- one more result, after a store on the stack
pub parameter-made : {w w' : Words} {p n at : ℕ} {s r : Stack} → Saved w w' s at → ParameterIs w' p n at r →
    ParameterRead w w' p n s r
parameter-made {w} {w'} saved is =
    record {
      result = λ D α t xs holds there h.
          let g = saved.results xs h in (
            is D α t (holds-low w w' (off-low w w' saved.kept) holds) (parameter-kept w w' saved.kept there)
                ∙ ap (λ (a : ℕ). stack_of a (side D α t)) g.0,
            g.1,
          );
      kept = saved.kept;
    }
