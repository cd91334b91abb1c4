-- The law of budgets (specs/Budgets.antt) holds of the call, for every sheet and path limit. Assumes nothing.
use Prim.Native.Nat.{ℕ, ◌≤◌}
use mathlib.Core.Path.{◌≡◌, sym, ◌∙◌, ap, subst}
use Rattle.specification.specs.declared.End.TheVariants.{Output}
use Rattle.specification.specs.Bytes.{Bytes}
use Rattle.specification.specs.Sheet.{Sheet}
use Rattle.specification.specs.Listing.{listing_text}
use Rattle.specification.specs.Run.{setting}
use Rattle.specification.specs.Outcome.{call}
use Rattle.specification.specs.Demand2.{ReadLeftToRight}
use Rattle.specification.proofs.Laws.Blocks.{listing_text-++}
use Rattle.specification.proofs.Laws.Determined.{determined}
use Rattle.specification.proofs.Laws.Budget.{longer, same-run}
use Rattle.vodlasim.specs.Parts.{Plot, Plotted, Shown}
use Rattle.vodlasim.specs.Budgets.{Lengthened, LawOfBudgets, SameUnlessSpent}
use Rattle.vodlasim.proofs.Plots.{Reads, plot-reads, plot-ran, shown-plotted}

module _ (sheet : Bytes) (limit : ℕ) where
  -- both plots, as demand 2 has them, of one sheet and with one skip
  both_read : (budget budget' : ℕ) (p q : Plot) → Plotted call sheet limit budget p → Plotted call sheet limit budget' q → p.skip ≡ q.skip →
      (s : Sheet) × Reads sheet limit budget s p ×
      ReadLeftToRight s (setting limit budget' p.skip) q.size q.end q.tallies q.blocks
  both_read budget budget' p q h k same =
      let (s, r, reads, x) = plot-ran sheet limit budget p h in
      let y = plot-reads sheet limit budget' s r reads q k in
      (s, x, subst (λ n. ReadLeftToRight s (setting limit budget' n) q.size q.end q.tallies q.blocks) (sym same) y)

  pub law-of-budgets : LawOfBudgets call sheet limit
  law-of-budgets budget budget' more p q h k same enough =
      let (s, x, y) = both_read budget budget' p q h k same in
      let l = longer s limit p.skip budget budget' more x y enough in
      let (later, is) = l.blocks in
      record {
        bytes = (listing_text later, ap listing_text is ∙ listing_text-++ p.blocks later);
        blocks = (later, is);
        nodes = l.nodes;
        answers = l.answers;
        errors = l.errors;
        fails = l.fails;
      }

  -- so by the public call
  pub budgets-answered : (budget budget' : ℕ) → budget ≤ budget' → (p q : Plot) → Shown sheet limit budget p → Shown sheet limit budget' q →
      p.skip ≡ q.skip → (q.end ≡ Output → p.size ≤ q.size) → Lengthened p q
  budgets-answered budget budget' more p q h k =
      law-of-budgets budget budget' more p q (shown-plotted sheet limit budget p h) (shown-plotted sheet limit budget' q k)

  pub same-unless-spent : SameUnlessSpent call sheet limit
  same-unless-spent budget budget' more p q h k skip size other =
      let (s, x, y) = both_read budget budget' p q h k skip in
      let S' = setting limit budget' p.skip in
      determined s S' p.size (subst (λ n. ReadLeftToRight s S' n q.end q.tallies q.blocks) (sym size) y)
      (same-run s limit p.skip budget budget' more x other)
