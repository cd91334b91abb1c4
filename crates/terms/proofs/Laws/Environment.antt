-- Environments in the words: they stay where the tokens and the frames of procedures do; at most sixteen calls are active; and what the
-- machine reads of the innermost call. Assumes nothing.
use Prim.Native.Nat.{ℕ, ◌+◌, ◌-◌, ◌<◌, ◌≤◌}
use native.Mathlib.Omega.{arith}
use mathlib.Core.Path.{◌≡◌, refl, sym, ◌∙◌}
use mathlib.Core.Bool.{Bool, true, false}
use mathlib.Core.List.{[], ◌∷◌}
use mathlib.Core.Logic.{inl, inr}
use lib.ListN.{length, get_or}
use Rattle.specification.specs.Bytes.{pick}
use Rattle.specification.specs.Lines.{Declared}
use Rattle.specification.specs.Ast.{parameter}
use Rattle.specification.specs.Value.{Valuation}
use Rattle.tables.specs.Layout.{dues_at, open_slot, lasts_at, max_procs}
use Rattle.tables.specs.Frames.{frames_at, frame_slot, argument_slot, call_at, tags_at}
use Rattle.tables.specs.Locals.{in_set}
use Rattle.tables.specs.Kept.{SameTokens}
use Rattle.sheet.specs.Tables.{Words}
use Rattle.terms.specs.Environment.{Level, Environment, terms_of, number_of, pointer_of, LevelAt, EnvAt, Memory}
use Rattle.terms.specs.Results.{Upto, Kept}
use Rattle.terms.specs.Machine.{ParameterAt, Context}
use Rattle.terms.specs.Calls.{Fresh}
use Rattle.terms.proofs.Laws.Low.{holds-low, arrays-low, tokens-low}
use Rattle.terms.proofs.Laws.Here.{calls-here}

-- ---- how many calls are active

pub env-few : (D : Declared) (w : Words) (E : Environment) → EnvAt D w E → number_of E + length E ≤ max_procs
env-few D w [] h = omega arith
env-few D w (L ∷ E) h = omega (arith, h.0.calls.earlier, env-few D w E h.1)

pub number-low : (D : Declared) (w : Words) (L : Level) (E : Environment) → EnvAt D w (L ∷ E) → L.number < max_procs
number-low D w L E h = omega (arith, env-few D w (L ∷ E) h)

-- ---- the same tokens and frames

abbrev pub SameFrames : Words → Words → Type 0
SameFrames w w' = (j : ℕ) → frames_at ≤ j → j < lasts_at → get_or w' j 0 ≡ get_or w j 0

module _ (D : Declared) (w w' : Words) (tokens : SameTokens w w') (frames : SameFrames w w') where
  level-same : {L : Level} {E : Environment} → L.number < max_procs → LevelAt D w L E → LevelAt D w' L E
  level-same {L} h v =
      let k = L.number in
      let call : call_at w' L.number ≡ call_at w L.number = frames (frame_slot k + 2) (omega arith) (omega arith) in
      let tags : tags_at w' L.number ≡ tags_at w L.number = frames (frame_slot k + 3) (omega arith) (omega arith) in
      let few = v.calls.arguments.few in
      let count = v.calls.count in
      record {
        token = v.token;
        place = call ∙ v.place;
        calls = calls-here w w' tokens v.calls;
        results = λ m l.
            let word : get_or w' (argument_slot L.number m + 1) 0 ≡ get_or w (argument_slot L.number m + 1) 0 =
            frames (argument_slot k m + 1) (omega arith) (omega arith) in
            rw (tags, word) (v.results m l);
        flags = λ m l. rw tags (frames (argument_slot k m) (omega arith) (omega arith) ∙ v.flags m l);
      }

  pub env-same : (E : Environment) → EnvAt D w E → EnvAt D w' E
  env-same [] h = h
  env-same (L ∷ E) h = (level-same (number-low D w L E h) h.0, env-same E h.1)

-- ---- the memory

pub memory-same : {w w' : Words} {p : ℕ} {D : Declared} {α : Valuation} {E : Environment} → Upto dues_at w w' → SameFrames w w' →
    length w' ≡ length w → Memory w p D α E → Memory w' p D α E
memory-same {w} {w'} {p} {D} {α} {E} low frames z m =
    record {
      holds = holds-low w w' low m.holds;
      valid = m.valid;
      arrays = arrays-low w w' low D m.arrays;
      cells = m.cells;
      few = m.few;
      filled = m.filled;
      pointer = m.pointer;
      environment = env-same D w w' (tokens-low w w' low) frames E m.environment;
      size = rw z m.size;
    }

pub kept-frames : (w w' : Words) → Kept w w' → SameFrames w w'
kept-frames w w' k j a b = k j (inr (omega arith))

pub memory_kept : {w w' : Words} {p : ℕ} {D : Declared} {α : Valuation} {E : Environment} → Kept w w' → length w' ≡ length w →
    Memory w p D α E → Memory w' p D α E
memory_kept {w} {w'} k z m = memory-same (λ j h. k j (inl h)) (kept-frames w w' k) z m

-- around the innermost call
pub memory-around : {w : Words} {p : ℕ} {D : Declared} {α : Valuation} {L : Level} {E : Environment} → Memory w p D α (L ∷ E) →
    Memory w (pointer_of E) D α E
memory-around m =
    record {
      holds = m.holds;
      valid = m.valid;
      arrays = m.arrays;
      cells = m.cells;
      few = m.few;
      filled = m.filled;
      pointer = refl;
      environment = m.environment.1;
      size = m.size;
    }

-- ---- open parameters

-- their results stay where their words do
pub fresh-same : (w w' : Words) (D : Declared) (α : Valuation) (E : Environment) → EnvAt D w E → SameFrames w w' →
    ((k : ℕ) → open_slot (number_of E) 0 ≤ k → k < frames_at → get_or w' k 0 ≡ get_or w k 0) → Fresh w D α E → Fresh w' D α E
fresh-same w w' D α [] h frames opens fresh = tt
fresh-same w w' D α (L ∷ E) h frames opens fresh =
    let most = number-low D w L E h in
    let few = h.0.calls.arguments.few in
    let count = h.0.calls.count in
    λ m l o z.
    let flag : get_or w' (argument_slot L.number m) 0 ≡ get_or w (argument_slot L.number m) 0 =
    frames (argument_slot L.number m) (omega arith) (omega arith) in
    let word : get_or w' (argument_slot L.number m + 1) 0 ≡ get_or w (argument_slot L.number m + 1) 0 =
    frames (argument_slot L.number m + 1) (omega arith) (omega arith) in
    let entry = fresh m l (sym flag ∙ o) (sym word ∙ z) in
    let at = open_slot L.number m in
    (opens at (omega arith) (omega arith) ∙ entry.0, opens (at + 1) (omega arith) (omega arith) ∙ entry.1)

flag-le : (b : Bool) → pick b 0 1 ≤ 1
flag-le true = omega arith
flag-le false = omega arith

-- what the machine reads
pub context-of : {w : Words} {p : ℕ} {D : Declared} {α : Valuation} (E : Environment) → Memory w p D α E → Fresh w D α E →
    Context w p D α (terms_of E)
context-of {w} {p} {D} {α} E m fresh =
    record {
      holds = m.holds;
      arrays = m.arrays;
      cells = m.cells;
      few = m.few;
      size = m.size;
      parameters = go E m.pointer m.environment fresh;
    }
  where
    go : (E : Environment) → p ≡ pointer_of E → EnvAt D w E → Fresh w D α E → (k : ℕ) → k < length (terms_of E) →
        ParameterAt w p k D α (get_or (terms_of E) k (parameter k))
    go [] e h fresh k l = absurd (omega arith)
    go (L ∷ E) e h fresh k l =
        let level = h.0 in
        let few = level.calls.arguments.few in
        let count = level.calls.count in
        let most = number-low D w L E h in
        let number : p - 1 ≡ L.number = omega arith in
        let flag = level.flags k l in
        let result = level.results k l in
        record {
          some = omega arith;
          procedure = omega arith;
          number = omega arith;
          flag = rw (number, flag) (flag-le (in_set (tags_at w L.number) k));
          value = rw number (λ o. result.value (sym flag ∙ o));
          place = rw number (λ o. result.place (sym flag ∙ o));
          opened = rw number (fresh k l);
        }
