-- The open parameters of all active calls, settled from the outermost call inwards. Assumes nothing.
use Prim.Native.Nat.{ℕ, suc, ◌-◌, ◌<◌, ◌≤◌}
use native.Mathlib.Omega.{arith}
use mathlib.Core.Path.{◌≡◌, ◌∙◌, subst}
use mathlib.Core.List.{◌∷◌}
use lib.ListN.{length, drop}
use Rattle.specification.specs.Lines.{Declared}
use Rattle.specification.specs.Value.{Valuation}
use Rattle.tables.specs.Layout.{Words}
use Rattle.terms.specs.Environment.{Environment, pointer_of, Memory}
use Rattle.terms.specs.Results.{Kept}
use Rattle.terms.specs.Calls.{Fresh, Settles, Settled, Outward, Reached, Revalues, Revalued}
use Rattle.terms.proofs.Laws.Environment.{memory_kept}
use Rattle.terms.proofs.Laws.Chain.{env-drop, level_at, split}

-- the open parameters of the call after the first n have their results
pub record Settling (w₀ w : Words) (p n : ℕ) : Type 0 where
  pub few : (D : Declared) (α : Valuation) (E : Environment) → Memory w₀ p D α E → n ≤ length E
  pub fresh : (D : Declared) (α : Valuation) (E : Environment) → Memory w₀ p D α E → Fresh w D α (drop n E)
  pub kept : Kept w₀ w
  pub size : length w ≡ length w₀

pub settling-end : {w₀ w : Words} {p n : ℕ} → Settling w₀ w p n → n ≤ 0 → Settled w₀ w p
settling-end {w₀} {w} {p} {n} s l =
    let none : n ≡ 0 = omega arith in
    record {
      fresh = λ D α E m. subst (λ (n : ℕ). Fresh w D α (drop n E)) none (s.fresh D α E m);
      kept = s.kept;
      size = s.size;
    }

-- the memory around the first j calls
memory-at : {w : Words} {p : ℕ} {D : Declared} {α : Valuation} {E : Environment} (j q : ℕ) → q ≡ pointer_of (drop j E) → Memory w p D α E →
    Memory w q D α (drop j E)
memory-at {w} {p} {D} {α} {E} j q e m =
    record {
      holds = m.holds;
      valid = m.valid;
      arrays = m.arrays;
      cells = m.cells;
      few = m.few;
      filled = m.filled;
      pointer = e;
      environment = env-drop D w E j m.environment;
      size = m.size;
    }

-- the call before those that are settled
module _ {w₀ w : Words} {p j : ℕ} (s : Settling w₀ w p (suc j)) where
  settling-outward : Settles w₀ p → Outward w p j
  settling-outward a =
      record {
        settles =
            record {
              declared = a.declared;
              valuation = a.valuation;
              environment = a.environment;
              memory = memory_kept s.kept s.size a.memory;
            };
        within = omega (arith, s.few a.declared a.valuation a.environment a.memory);
      }

  module _ {q : ℕ} (here : Reached w p j q) where
    memory : {D : Declared} {α : Valuation} {E : Environment} → Memory w₀ p D α E → Memory w q D α (level_at E j ∷ drop (suc j) E)
    memory {D} {α} {E} m =
        let m' : Memory w p D α E = memory_kept s.kept s.size m in
        let more : j < length E = omega (arith, s.few D α E m) in
        rw (split E j more) at (memory-at j q (here D E m'.environment m'.pointer (omega arith)) m')

    settling-asks : Settles w₀ p → Revalues w q
    settling-asks a =
        record {
          declared = a.declared;
          valuation = a.valuation;
          level = level_at a.environment j;
          environment = drop (suc j) a.environment;
          memory = memory a.memory;
          fresh = s.fresh a.declared a.valuation a.environment a.memory;
        }

    settling-next : {w' : Words} → Revalued w w' q → Settling w₀ w' p j
    settling-next {w'} r =
        record {
          few = λ D α E m. omega (arith, s.few D α E m);
          fresh = λ D α E m.
              let more : j < length E = omega (arith, s.few D α E m) in
              rw (split E j more) (r.fresh D α (level_at E j) (drop (suc j) E) (memory m) (s.fresh D α E m));
          kept = λ i o. r.kept i o ∙ s.kept i o;
          size = r.size ∙ s.size;
        }

-- as the code counts: n calls are left
module _ {w₀ w : Words} {p n : ℕ} (s : Settling w₀ w p n) (pos : 0 < n) where
  counted : Settling w₀ w p (suc (n - 1))
  counted = let same : n ≡ suc (n - 1) = omega arith in subst (Settling w₀ w p) same s

  pub settle-outward : Settles w₀ p → Outward w p (n - 1)
  settle-outward = settling-outward counted

  module _ {q : ℕ} (here : Reached w p (n - 1) q) where
    pub settle-asks : Settles w₀ p → Revalues w q
    settle-asks = settling-asks counted here

    pub settle-next : {w' : Words} → Revalued w w' q → Settling w₀ w' p (n - 1)
    settle-next = settling-next counted here
