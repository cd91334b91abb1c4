-- The words of a path hold what terms are valued from: the valuation, the arrays, and each environment whose calls are the store's. Assumes nothing.
use Prim.Native.Nat.{ℕ}
use native.Mathlib.Omega.{arith}
use mathlib.Core.Path.{refl}
use mathlib.Core.List.{List, [], ◌∷◌}
use Rattle.specification.specs.Value.{Valuation}
use Rattle.tables.specs.Kept.{SameTokens}
use Rattle.sheet.specs.Tables.{Words}
use Rattle.terms.specs.Environment.{Environment, pointer_of, LevelAt, EnvAt, Memory}
use Rattle.terms.proofs.Laws.Here.{calls-here}
use Rattle.search.specs.Store.{Call, Store, EnvIn}
use Rattle.search.specs.Frame.{Frame, store_in}
use Rattle.search.specs.Path.{World, Framed, Stored, Path}

-- the frame of a call is that of its level
framed-level : {c : World} {w : Words} → SameTokens c.tables w → (C : Call) → Framed c w C → LevelAt c.declared w C.level C.around
framed-level {c} {w} s C f = record {
  token = C.token;
  place = f.token;
  calls = calls-here c.tables w s f.calls;
  results = f.results;
  flags = f.flags;
}

pub env-stored : {c : World} {w : Words} {σ : Store} → SameTokens c.tables w → Stored c w σ → (E : Environment) → EnvIn σ E → EnvAt c.declared w E
env-stored s st [] e = tt
env-stored {c} {w} s st (L ∷ E) e =
    let a = e.0 in
    let f = (st.calls L.number a.call a.there).2 in
    (rw (a.level, a.around) at (framed-level s a.call f), env-stored s st E e.1)

pub memory-in : {c : World} {w : Words} {top : ℕ} {α : Valuation} {fr : List Frame} → Path c w top α fr → (E : Environment) → EnvIn (store_in fr) E →
    Memory w (pointer_of E) c.declared α E
memory-in P E e =
    let t = P.tables in
    record {
      holds = P.holds;
      valid = P.valid;
      arrays = t.arrays;
      cells = t.cells;
      few = t.few;
      filled = t.procedures.none;
      pointer = refl;
      environment = env-stored t.tokens P.stored E e;
      size = omega (arith, t.size);
    }
