-- The law of parts (specs/Parts.antt) holds of the call, for every sheet, path limit and budget. Assumes nothing.
use Prim.Native.Nat.{ℕ, ◌+◌, ◌≤◌, ◌<◌}
use native.Mathlib.Omega.{arith}
use mathlib.Core.Path.{◌≡◌, refl, sym, ◌∙◌, ap, subst}
use mathlib.Core.Logic.{◌⊎◌, inl, inr}
use mathlib.Core.List.{List, [], ◌∷◌, ◌++◌}
use lib.ListN.{length, drop}
use Rattle.std.specs.Prelude.{Ok}
use Rattle.specification.specs.declared.End.TheVariants.{Output}
use Rattle.specification.specs.Bytes.{Bytes}
use Rattle.specification.specs.Parser.{Reader, found}
use Rattle.specification.specs.Sheet.{Sheet, read}
use Rattle.specification.specs.Listing.{Block, listing_text}
use Rattle.specification.specs.Run.{setting}
use Rattle.specification.specs.Outcome.{ran, words_for, call, written, Outcome, ended, outcome, output_after}
use Rattle.specification.specs.Demand2.{listed_before}
use Rattle.specification.proofs.Laws.Blocks.{listing_text-++}
use Rattle.specification.proofs.Laws.CallRan.{every-refused}
use Rattle.specification.proofs.Laws.Whole.{whole-blocks}
use Rattle.specification.proofs.Laws.Determined.{determined, run_is}
use Rattle.specification.proofs.Laws.Places.{listed-grows}
use Rattle.specification.proofs.Laws.Parts.{ends_there, joins, ends-later}
use Rattle.vodlasim.specs.Lent.{Lent}
use Rattle.vodlasim.specs.Answered.{Answered}
use Rattle.vodlasim.specs.Parts.{Plot, bytes_of, joined, InParts, Plotted, LawOfParts, LessIsCut, RefusedAlike, Shown}
use Rattle.vodlasim.proofs.Plots.{output-or-not, Reads, plot-reads, plot-ran, full-reads, runs_as, gives, shown-plotted}

-- the blocks of several plots
blocks_of : List Plot → Plot → List Block
blocks_of [] last = last.blocks
blocks_of (p ∷ ps) last = p.blocks ++ blocks_of ps last

joined_is : (ps : List Plot) (last : Plot) → joined ps last ≡ listing_text (blocks_of ps last)
unfolding joined blocks_of
joined_is [] last = refl
joined_is (p ∷ ps) last = ap (bytes_of p ++◌) (joined_is ps last) ∙ sym (listing_text-++ p.blocks (blocks_of ps last))

module _ (sheet : Bytes) (limit budget : ℕ) where
  -- ---- the law

  last-plotted : (skip : ℕ) (ps : List Plot) (last : Plot) → InParts (Plotted call sheet limit budget) skip ps last →
      Plotted call sheet limit budget last × (¬ (last.end ≡ Output))
  unfolding InParts
  last-plotted skip [] last h = (h.1, h.2)
  last-plotted skip (p ∷ ps) last h = last-plotted (skip + length p.blocks) ps last h.4

  -- what is listed before the place where it ended, past so many, are the blocks of the parts that begin there
  module _ (s : Sheet) (r : Reader) (reads : read sheet ≡ found s r) (last : Plot) (q : Reads sheet limit budget s last) (other : ¬ (last.end ≡ Output)) where
    listed-is : (skip : ℕ) (ps : List Plot) → InParts (Plotted call sheet limit budget) skip ps last → listed_before s skip q.place ≡ blocks_of ps last
    unfolding InParts blocks_of
    listed-is skip [] (at, h, n) = ap (λ k. listed_before s k q.place) (sym at) ∙ sym q.blocks
    listed-is skip (p ∷ ps) (at, h, full, some, rest) =
        let x = full-reads sheet limit budget s r reads p h full in
        ap (λ k. listed_before s k q.place) (sym at) ∙
        joins s limit budget x some q.place (ends-later s limit budget x q other) ∙
        ap (p.blocks ++◌) (ap (λ k. listed_before s (k + length p.blocks) q.place) at ∙ listed-is (skip + length p.blocks) ps rest)

    all-bytes : (ps : List Plot) → InParts (Plotted call sheet limit budget) 0 ps last → listing_text (listed_before s 0 q.place) ≡ joined ps last
    all-bytes ps h = ap listing_text (listed-is 0 ps h) ∙ sym (joined_is ps last)

    -- a run with less output than their bytes ends earlier, for want of room
    cut : (ps : List Plot) → InParts (Plotted call sheet limit budget) 0 ps last → (p : Plot) → Plotted call sheet limit budget p → p.skip ≡ 0 →
        p.size < length (joined ps last) → (p.end ≡ Output) × ((more : Bytes) × (joined ps last ≡ bytes_of p ++ more))
    cut ps h p plotted at less = by_end (output-or-not p.end)
      where
        x : Reads sheet limit budget s p
        x = plot-reads sheet limit budget s r reads p plotted

        written_is : bytes_of p ≡ listing_text (listed_before s 0 x.place)
        written_is = ap listing_text (x.blocks ∙ ap (λ k. listed_before s k x.place) at)

        fits : length (bytes_of p) ≤ p.size
        fits = (whole-blocks sheet (setting limit budget p.skip) p.words p.size p.end p.tallies (bytes_of p) plotted).2

        by_end : (p.end ≡ Output) ⊎ (¬ (p.end ≡ Output)) → (p.end ≡ Output) × ((more : Bytes) × (joined ps last ≡ bytes_of p ++ more))
        by_end (inr done) =
            let size = length (joined ps last) in
            let mine = ends_there s limit budget x done 0 size (subst (λ w. length w ≤ size) written_is (omega (arith, fits))) in
            let whole = ends_there s limit budget q other 0 size (omega (arith, ap length (all-bytes ps h))) in
            let same = (determined s (setting limit budget 0) size mine whole).2 in
            absurd (omega (arith, fits, ap length (written_is ∙ ap listing_text same ∙ all-bytes ps h)))
        by_end (inl full) =
            let y = full-reads sheet limit budget s r reads p plotted full in
            let (more, grown) = listed-grows s y.place q.place (ends-later s limit budget y q other) 0 in
            let mine : p.blocks ≡ listed_before s 0 y.place = y.blocks ∙ ap (λ k. listed_before s k y.place) at in (
              full,
              (
                listing_text more,
                sym (all-bytes ps h) ∙ ap listing_text (grown ∙ ap (◌++ more) (sym mine)) ∙ listing_text-++ p.blocks more,
              ),
            )

  pub law-of-parts : LawOfParts call sheet limit budget
  law-of-parts ps last h words size enough room =
      let (plotted, other) = last-plotted 0 ps last h in
      let (s, r, reads, q) = plot-ran sheet limit budget last plotted in
      let all = all-bytes s r reads last q other ps h in
      let whole = ends_there s limit budget q other 0 size (subst (λ w. length w ≤ size) (sym all) room) in
      runs_as sheet limit budget s r reads last plotted 0 words size enough ∙ run_is s (setting limit budget 0) size whole ∙ ap (ran last.end last.tallies) all

  pub less-is-cut : LessIsCut call sheet limit budget
  less-is-cut ps last h words size enough less =
      let (plotted, other) = last-plotted 0 ps last h in
      let (s, r, reads, q) = plot-ran sheet limit budget last plotted in
      let (e, t, bs, is) = gives sheet limit budget s 0 words size (runs_as sheet limit budget s r reads last plotted 0 words size enough) in
      let p : Plot = record { skip = 0; words = words; size = size; end = e; tallies = t; blocks = bs } in
      let (full, (more, joins)) = cut s r reads last q other ps h p is refl less in
      (t, listing_text bs, more, is ∙ ap (λ f. ran f t (listing_text bs)) full, joins)

  -- ---- by the public call

  shown-parts : (skip : ℕ) (ps : List Plot) (last : Plot) → InParts (Shown sheet limit budget) skip ps last →
      InParts (Plotted call sheet limit budget) skip ps last
  unfolding InParts
  shown-parts skip [] last (at, h, other) = (at, shown-plotted sheet limit budget last h, other)
  shown-parts skip (p ∷ ps) last (at, h, full, some, rest) =
      (at, shown-plotted sheet limit budget p h, full, some, shown-parts (skip + length p.blocks) ps last rest)

  -- its result, and every byte of its output afterwards
  pub parts-answered : (ps : List Plot) (last : Plot) → InParts (Shown sheet limit budget) 0 ps last →
      (work output : Lent) (r : Outcome) → Answered sheet (setting limit budget 0) work output r →
      words_for limit ≤ length work.before → length (joined ps last) ≤ length output.before →
      (r ≡ Ok (ended last.end last.tallies (length (joined ps last)))) ×
      (output.after ≡ joined ps last ++ drop (length (joined ps last)) output.before)
  unfolding output_after
  parts-answered ps last h work output r a enough room =
      let is = law-of-parts ps last (shown-parts 0 ps last h) (length work.before) (length output.before) enough room in
      (a.result ∙ ap outcome is, a.output ∙ ap (λ x. written x ++ drop (length (written x)) output.before) is)

  -- ---- a sheet that is refused

  pub refused-alike : RefusedAlike call sheet limit budget
  refused-alike skip skip' words words' size size' n p enough enough' h =
      every-refused sheet (setting limit budget skip) (setting limit budget skip') refl words words' size size' enough' enough n p h
