-- The frames of an environment stay while the frame of an earlier procedure is written: numbers rise outwards, so each active procedure is later.
-- Assumes nothing.
use Prim.Native.Nat.{ℕ, ◌+◌, ◌≤◌, ◌<◌}
use native.Mathlib.Omega.{arith}
use mathlib.Core.Path.{◌≡◌, sym, ◌∙◌}
use mathlib.Core.List.{[], ◌∷◌}
use lib.ListN.{length, get_or}
use Rattle.specification.specs.Lines.{Declared}
use Rattle.specification.specs.Value.{Valuation}
use Rattle.tables.specs.Layout.{dues_at, opens_at, open_slot, max_procs}
use Rattle.tables.specs.Frames.{frames_at, frame_slot, argument_slot, call_at, tags_at}
use Rattle.tables.specs.Kept.{SameTokens}
use Rattle.sheet.specs.Tables.{Words}
use Rattle.terms.specs.Environment.{Level, Environment, number_of, LevelAt, EnvAt, Memory}
use Rattle.terms.specs.Results.{Upto}
use Rattle.terms.specs.Calls.{Fresh}
use Rattle.terms.proofs.Laws.Low.{holds-low, arrays-low, tokens-low}
use Rattle.terms.proofs.Laws.Here.{calls-here}
use Rattle.terms.proofs.Laws.Environment.{number-low}

-- the frames from procedure K on
abbrev pub SameFrom : ℕ → Words → Words → Type 0
SameFrom K w w' = (j : ℕ) → frame_slot K ≤ j → j < frame_slot max_procs → get_or w' j 0 ≡ get_or w j 0

module _ (D : Declared) (w w' : Words) (tokens : SameTokens w w') where
  level-outer : (L : Level) {E : Environment} → L.number < max_procs → SameFrom L.number w w' → LevelAt D w L E → LevelAt D w' L E
  level-outer L h frames v =
      let k = L.number in
      let call : call_at w' L.number ≡ call_at w L.number = frames (frame_slot k + 2) (omega arith) (omega arith) in
      let tags : tags_at w' L.number ≡ tags_at w L.number = frames (frame_slot k + 3) (omega arith) (omega arith) in
      let few = v.calls.arguments.few in
      let count = v.calls.count in
      record {
        token = v.token;
        place = call ∙ v.place;
        calls = calls-here w w' tokens v.calls;
        results = λ m l.
            let word : get_or w' (argument_slot L.number m + 1) 0 ≡ get_or w (argument_slot L.number m + 1) 0 =
            frames (argument_slot k m + 1) (omega arith) (omega arith) in
            rw (tags, word) (v.results m l);
        flags = λ m l. rw tags (frames (argument_slot k m) (omega arith) (omega arith) ∙ v.flags m l);
      }

  pub env-outer : (E : Environment) → SameFrom (number_of E) w w' → EnvAt D w E → EnvAt D w' E
  env-outer [] frames h = h
  env-outer (L ∷ E) frames h =
      (level-outer L (number-low D w L E h) frames h.0, env-outer E (λ j a b. frames j (omega (arith, h.0.calls.earlier)) b) h.1)

pub memory-outer : {w w' : Words} {p : ℕ} {D : Declared} {α : Valuation} {E : Environment} → Upto dues_at w w' → SameFrom (number_of E) w w' →
    length w' ≡ length w → Memory w p D α E → Memory w' p D α E
memory-outer {w} {w'} {p} {D} {α} {E} low frames z m =
    record {
      holds = holds-low w w' low m.holds;
      valid = m.valid;
      arrays = arrays-low w w' low D m.arrays;
      cells = m.cells;
      few = m.few;
      filled = m.filled;
      pointer = m.pointer;
      environment = env-outer D w w' (tokens-low w w' low) E frames m.environment;
      size = rw z m.size;
    }

-- and the results of its open parameters
pub fresh-outer : (w w' : Words) (D : Declared) (α : Valuation) (E : Environment) → EnvAt D w E → SameFrom (number_of E) w w' →
    ((k : ℕ) → opens_at ≤ k → k < frames_at → get_or w' k 0 ≡ get_or w k 0) → Fresh w D α E → Fresh w' D α E
fresh-outer w w' D α [] h frames opens fresh = tt
fresh-outer w w' D α (L ∷ E) h frames opens fresh =
    let most = number-low D w L E h in
    let few = h.0.calls.arguments.few in
    let count = h.0.calls.count in
    λ m l o z.
    let flag : get_or w' (argument_slot L.number m) 0 ≡ get_or w (argument_slot L.number m) 0 =
    frames (argument_slot L.number m) (omega arith) (omega arith) in
    let word : get_or w' (argument_slot L.number m + 1) 0 ≡ get_or w (argument_slot L.number m + 1) 0 =
    frames (argument_slot L.number m + 1) (omega arith) (omega arith) in
    let entry = fresh m l (sym flag ∙ o) (sym word ∙ z) in
    let at = open_slot L.number m in
    (opens at (omega arith) (omega arith) ∙ entry.0, opens (at + 1) (omega arith) (omega arith) ∙ entry.1)
