-- What the functions that take the topmost record back make of words and registers, from what they read. Assumes nothing.
use Prim.Native.Nat.{ℕ, ◌+◌, ◌-◌, ◌/◌, ◌%◌, ◌≤◌}
use native.Mathlib.Omega.{arith}
use mathlib.Core.Path.{◌≡◌, refl, ◌∙◌, ap}
use lib.Dec.{eqb}
use lib.ListN.{set}
use Rattle.tables.specs.Layout.{local_slot, last_slot, path_at}
use Rattle.sheet.specs.Tables.{Words}
use Rattle.search.specs.declared.Errors.{Errors}
use Rattle.search.specs.declared.Go.{Go}
use Rattle.search.specs.States.{errors_of}
use Rattle.search.specs.Records.{at, had_unit}
use Rattle.search.specs.Registers.{drop_go, resume_go}
use Rattle.search.specs.Climb.{around_go}
use Rattle.specification.specs.declared.Setting.{Setting}
use Rattle.walker.specs.Climbing.{Undone, Closed, Ended, Arounds}

module _ {w : Words} {g q : Go} where
  pub undone : {w' : Words} {x old inner : ℕ} → x ≡ at w (g.top - 1) → old ≡ at w (g.top - 3) → inner ≡ at w (g.top - 2) →
      w' ≡ set (set w (x % had_unit) (x / had_unit)) (x % had_unit + 1) old → q ≡ drop_go g (g.top - 3) inner → Undone w w' g q
  undone {w'} {x} {old} {inner} ex eo ei ws rs =
      let f : (y : ℕ) → Words = λ y. set (set w (y % had_unit) (y / had_unit)) (y % had_unit + 1) old in
      record {
        words = ws ∙ ap f ex ∙ ap (set (set w (at w (g.top - 1) % had_unit) (at w (g.top - 1) / had_unit)) (at w (g.top - 1) % had_unit + 1)) eo;
        regs = rs ∙ ap (drop_go g (g.top - 3)) ei;
      }

  pub closed : {w' : Words} {t l slot had old : ℕ} → t ≡ at w (g.top - 1) → l ≡ at w (t + 5) → slot ≡ local_slot l → had ≡ at w (g.top - 5) → old ≡ at w (g.top - 4) →
      w' ≡ set (set w slot had) (slot + 1) old → q ≡ drop_go g (g.top - 5) g.inner → Closed w w' g q
  closed et el es eh eo ws rs = record { words = ws ∙ rw (es, el, et, eh, eo) refl; regs = rs }

  pub ended : {mid w' : Words} {t l slot last had old : ℕ} → t ≡ at w (g.top - 1) → l ≡ at w (t + 5) → slot ≡ local_slot l → had ≡ at w (g.top - 4) → old ≡ at w (g.top - 3) →
      last ≡ at w (g.top - 2) → mid ≡ set w (last_slot l) last → w' ≡ set (set mid slot had) (slot + 1) old → q ≡ drop_go g (g.top - 4) g.inner → Ended w w' g q
  ended et el es eh eo ea ms ws rs = record { words = ws ∙ rw (es, ms, el, et, ea, eh, eo) refl; regs = rs }

-- the registers of the tree around
pub around-is : (w : Words) (g : Go) (setting : Setting) {q : Go} {t inner depth : ℕ} {bad : Errors} → path_at + 4 ≤ g.top → inner ≡ at w (g.top - 4) → bad ≡ errors_of (eqb (at w (g.top - 4 + 1)) 1) →
    depth ≡ at w (g.top - 4 + 2) → q ≡ resume_go g t depth (g.top - 4) inner bad setting → q ≡ around_go w g t setting
around-is w g setting high ei eb ed rs =
    let one : g.top - 4 + 1 ≡ g.top - 3 = omega arith in
    let two : g.top - 4 + 2 ≡ g.top - 2 = omega arith in
    rs ∙ rw (ei, eb, ed, one, two) refl

pub around_depth : {w : Words} {g : Go} {setting : Setting} {depth : ℕ} → Arounds w g setting → depth ≡ at w (g.top - 4 + 2) → depth ≤ setting.path
around_depth {w} {g} a ed =
    let high = a.high in
    let two : g.top - 4 + 2 ≡ g.top - 2 = omega arith in
    rw (ed, two) a.depth
