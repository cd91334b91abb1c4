-- A success leaf: in the main tree it has a block; in an inner tree the records above that of the node that asked go, and that node's son is due.
-- Assumes nothing.
use Prim.Native.Nat.{ℕ, suc}
use native.Mathlib.Omega.{arith}
use mathlib.Core.Path.{◌≡◌, sym, ◌∙◌, ap, subst}
use Rattle.specification.specs.declared.Setting.{Setting}
use Rattle.specification.specs.Bytes.{Bytes}
use Rattle.specification.specs.declared.Tallies.{Tallies}
use Rattle.specification.specs.Run.{add_node}
use Rattle.tables.specs.Leaves.{success_code}
use Rattle.sheet.specs.Tables.{Words}
use Rattle.search.specs.declared.Go.{Go}
use Rattle.search.specs.declared.Mode.TheVariants as modes
use Rattle.search.specs.Path.{World}
use Rattle.search.specs.Sim.{In, Yes, down}
use Rattle.search.specs.Registers.{tallied, leaf_go, out_go}
use Rattle.search.specs.Climb.{Granted}
use Rattle.search.specs.Steps.{Entered, Stepped}
use Rattle.search.specs.States.{main_tree}
use Rattle.search.proofs.LeafSteps.{answers, inner-won}
use Rattle.walker.specs.Steps.{Arrived, SteppedWithin}
use Rattle.walker.specs.Climbing.{WinsInside, Unwound, Grants}
use Rattle.walker.proofs.Laws.Inside.{won-inside}

pub arrived-entered : {w : Words} {g : Go} {n : ℕ} {setting : Setting} → Arrived w g n setting → Entered w g n
arrived-entered a = record { at = record { c = a.c; b = a.b; ins = a.ins }; code = a.code }

pub stepped_within : {w w' : Words} {g q : Go} {setting : Setting} → Stepped w w' g q → SteppedWithin w w' g q setting
stepped_within s = record { sim = λ c b k i. s.sim c b i; counts = s.counts; least = s.least }

module _ {w : Words} {g : Go} {setting : Setting} (a : Arrived w g success_code setting) where
  pub won-block : {q : Go} → g.inner ≡ main_tree → q ≡ out_go g modes.Block → SteppedWithin w w g q setting
  won-block n e = stepped_within (answers (arrived-entered a) n e)

  -- t are the tallies with the leaf's visit, and v the registers
  module _ (n : ¬ (g.inner ≡ main_tree)) {t : Tallies} (et : t ≡ add_node (tallied g)) {v : Go} (ev : v ≡ leaf_go g modes.Won g.bad t) where
    registers-are : v ≡ leaf_go g modes.Won g.bad (add_node (tallied g))
    registers-are = ev ∙ ap (leaf_go g modes.Won g.bad) et

    won : (c : World) (b : Bytes) → In c b w g → Yes c b w v
    won c b i = subst (Yes c b w) (sym registers-are) (inner-won (arrived-entered a) n c b i)

    pub won-unwinds : WinsInside w v
    won-unwinds = subst (WinsInside w) (sym registers-are) (won-inside a.c a.b a.ins n (inner-won (arrived-entered a) n a.c a.b a.ins))

    module _ {w' : Words} {u : Go} (un : Unwound w w' v u) where
      pub won-grants : Grants w' u setting
      won-grants = record { c = a.c; b = a.b; set = a.set; yes = un.yes a.c a.b (won a.c a.b a.ins); asks = un.asks }

      pub won-granted : {q : Go} → Granted w' u q setting → SteppedWithin w w' g q setting
      won-granted {q} gr =
          let same : (tallied q).nodes ≡ suc (tallied g).nodes =
          (let z = ap (λ t. t.nodes) (gr.nodes ∙ un.nodes ∙ ap (λ v. v.tallies) registers-are) in omega (arith, z, gr.counted)) in
          record {
            sim = λ c b s i. down gr.mode (gr.down c b s (un.yes c b (won c b i)));
            counts = λ m. same;
            least = omega (arith, same);
          }
