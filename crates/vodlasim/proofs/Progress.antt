-- Progress and the next skip (specs/Parts.antt) hold of the call, so that whoever goes on plotting finishes. Assumes nothing.
use Prim.Native.Nat.{ℕ, zero, suc, ◌+◌, ◌≤◌, ◌<◌}
use native.Mathlib.Omega.{arith}
use mathlib.Core.Path.{◌≡◌, refl, sym, ap, subst}
use mathlib.Core.Logic.{◌⊎◌, inl, inr}
use mathlib.Core.List.{List, [], ◌∷◌, ◌++◌}
use lib.ListN.{length, length-drop}
use Rattle.specification.specs.declared.End.TheVariants.{Output}
use Rattle.specification.specs.Lists.{Each}
use Rattle.specification.specs.Bytes.{Bytes}
use Rattle.specification.specs.Parser.{Reader, found}
use Rattle.specification.specs.Sheet.{Sheet, read}
use Rattle.specification.specs.Listing.{Block, block_text}
use Rattle.specification.specs.Leaves.{leaves, blocks}
use Rattle.specification.specs.Run.{setting}
use Rattle.specification.specs.Outcome.{result_of, root_of, run_of, call}
use Rattle.specification.proofs.Laws.CallRan.{call-ran, ran-enough, every-runs}
use Rattle.specification.proofs.Laws.Parts.{skip-counted, skip-within, due-written}
use Rattle.vodlasim.specs.Parts.{Plot, Due, Plotted, InParts, Progress, Finishes, NextSkip}
use Rattle.vodlasim.proofs.Plots.{output-or-not, plot-ran, full-reads, gives}

module _ (sheet : Bytes) (limit budget : ℕ) where
  -- ---- the skip of the next part, and progress

  pub next-skip : NextSkip call sheet limit budget
  next-skip p plotted some =
      let (s, r, reads, x) = plot-ran sheet limit budget p plotted in
      (skip-counted s limit budget x some, skip-within s limit budget x some)

  pub progress : Progress call sheet limit budget
  progress s r reads p plotted full = due-written s limit budget (full-reads sheet limit budget s r reads p plotted full)

  -- ---- whoever goes on finishes

  module _ (words : ℕ) (size : ℕ → ℕ) (s : Sheet) (r : Reader) (reads : read sheet ≡ found s r)
      (room : (skip : ℕ) (b : Block) → Due s skip b → length (block_text b) ≤ size skip)
      (runs : (skip : ℕ) → call sheet (setting limit budget skip) words (size skip) ≡ result_of (run_of s (setting limit budget skip) (size skip))) where
    abbrev Lends : Plot → Type 0
    Lends p = (p.words ≡ words) × (p.size ≡ size p.skip)

    abbrev all : List Block
    all = blocks s.declared 0 0 (leaves (root_of s))

    abbrev PartsFrom : ℕ → Type 0
    PartsFrom skip = (ps : List Plot) × (last : Plot) × InParts (Plotted call sheet limit budget) skip ps last × Each Lends (ps ++ last ∷ [])

    -- a last part, or one more and those from a later block on
    one_more : (skip : ℕ) → ((next : ℕ) → skip < next → skip < length all → PartsFrom next) → PartsFrom skip
    unfolding InParts Each
    one_more skip others =
        let (e, t, bs, is) = gives sheet limit budget s skip words (size skip) (runs skip) in
        let p : Plot = record { skip = skip; words = words; size = size skip; end = e; tallies = t; blocks = bs } in
        by_end p refl is (refl, refl) (output-or-not e)
      where
        by_end : (p : Plot) → p.skip ≡ skip → Plotted call sheet limit budget p → Lends p → (p.end ≡ Output) ⊎ (¬ (p.end ≡ Output)) → PartsFrom skip
        by_end p at plotted lends (inr other) = ([], p, (at, plotted, other), (lends, tt))
        by_end p at plotted lends (inl full) =
            let (b, due, writes) = progress s r reads p plotted full in
            let (more, first) = writes (subst (length (block_text b) ≤◌) (sym lends.1) (room p.skip b due)) in
            let some : 0 < length p.blocks = omega (arith, ap length first) in
            let left : skip < length all = omega (arith, at, ap length due.1, length-drop p.skip all) in
            let (ps, last, rest, each) = others (skip + length p.blocks) (omega (arith, some)) left in
            (p ∷ ps, last, (at, plotted, full, some, rest), (lends, each))

    go_on : (fuel skip : ℕ) → length all ≤ skip + fuel → PartsFrom skip
    go_on zero skip few = one_more skip (λ next later left. absurd (omega arith))
    go_on (suc fuel) skip few = one_more skip (λ next later left. go_on fuel next (omega arith))

  pub finishes : Finishes call sheet limit budget
  finishes words size room e t w h =
      let (s, r, reads, result) = call-ran sheet (setting limit budget 0) words (size 0) e t w h in
      let runs : (skip : ℕ) → call sheet (setting limit budget skip) words (size skip) ≡ result_of (run_of s (setting limit budget skip) (size skip)) =
      λ skip. every-runs sheet (setting limit budget 0) (setting limit budget skip) refl words words (size 0) (size skip) (ran-enough sheet (setting limit budget 0) words (size 0) e t w h) e t w h s r reads in
      go_on words size s r reads (room s r reads) runs (length (blocks s.declared 0 0 (leaves (root_of s)))) 0 (omega arith)
