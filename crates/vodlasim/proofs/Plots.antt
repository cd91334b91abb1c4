-- A plot (specs/Parts.antt) as the second demand has it, and what the public call shows of one. Assumes nothing.
use Prim.Native.Nat.{ℕ, ◌≤◌}
use mathlib.Core.Path.{◌≡◌, refl, sym, ◌∙◌, ap, subst}
use mathlib.Core.Logic.{◌⊎◌, inl, inr}
use mathlib.Core.List.{List}
use lib.ListN.{length, take, drop}
use lib.Seq.{take_at}
use Rattle.std.specs.Prelude.{Ok}
use Rattle.specification.specs.declared.Setting.{Setting}
use Rattle.specification.specs.declared.Tallies.{Tallies}
use Rattle.specification.specs.declared.End.{End}
use Rattle.specification.specs.declared.End.TheVariants.{Done, Spent, Path, Output}
use Rattle.specification.specs.Bytes.{Bytes}
use Rattle.specification.specs.Parser.{Reader, found}
use Rattle.specification.specs.Sheet.{Sheet, read}
use Rattle.specification.specs.Listing.{Block, listing_text}
use Rattle.specification.specs.Run.{setting, Run, going, stopped}
use Rattle.specification.specs.Outcome.{ran, end_of, result_of, run_of, words_for, call, ended}
use Rattle.specification.specs.Demand2.{ReadLeftToRight}
use Rattle.specification.proofs.Laws.Contradiction.{contradiction}
use Rattle.specification.proofs.Laws.CallRan.{call-ran, every-runs}
use Rattle.specification.proofs.Laws.Demand3.{told}
use Rattle.specification.proofs.Laws.Whole.{whole-blocks}
use Rattle.vodlasim.specs.Lent.{Lent}
use Rattle.vodlasim.specs.Answered.{Answered}
use Rattle.vodlasim.specs.Parts.{Plot, bytes_of, Plotted, Shown}
use Rattle.vodlasim.proofs.Demands.{stands}

pub output-or-not : (e : End) → (e ≡ Output) ⊎ (¬ (e ≡ Output))
output-or-not Done = inr (λ h. contradiction cc)
output-or-not Spent = inr (λ h. contradiction cc)
output-or-not Path = inr (λ h. contradiction cc)
output-or-not Output = inl refl

result-of : (x : Run) → (e : End) × (t : Tallies) × (w : Bytes) × (result_of x ≡ ran e t w)
result-of (going t w) = (Done, t, w, refl)
result-of (stopped e t w) = (end_of e, t, w, refl)

module _ (sheet : Bytes) (limit budget : ℕ) where
  abbrev pub Reads : Sheet → Plot → Type 0
  Reads s p = ReadLeftToRight s (setting limit budget p.skip) p.size p.end p.tallies p.blocks

  pub plot-reads : (s : Sheet) (r : Reader) → read sheet ≡ found s r → (p : Plot) → Plotted call sheet limit budget p → Reads s p
  plot-reads s r reads p h =
      let x = told sheet (setting limit budget p.skip) p.words p.size p.end p.tallies (bytes_of p) h in
      let l = x.listed in
      let same : l.what ≡ s = let q : found l.what l.reader ≡ found s r = sym l.reads ∙ reads in cc in
      subst (λ y. Reads y p) same
      (subst (ReadLeftToRight l.what (setting limit budget p.skip) p.size p.end p.tallies) (sym (l.only p.blocks refl)) x.tree)

  -- a plot has read a sheet
  pub plot-ran : (p : Plot) → Plotted call sheet limit budget p → (s : Sheet) × (r : Reader) × (read sheet ≡ found s r) × Reads s p
  plot-ran p h =
      let (s, r, reads, result) = call-ran sheet (setting limit budget p.skip) p.words p.size p.end p.tallies (bytes_of p) h in
      (s, r, reads, plot-reads s r reads p h)

  -- a plot that ended `output`, as demand 2 has it
  pub full-reads : (s : Sheet) (r : Reader) → read sheet ≡ found s r → (p : Plot) → Plotted call sheet limit budget p → p.end ≡ Output →
      ReadLeftToRight s (setting limit budget p.skip) p.size Output p.tallies p.blocks
  full-reads s r reads p h full =
      subst (λ e. ReadLeftToRight s (setting limit budget p.skip) p.size e p.tallies p.blocks) full
      (plot-reads s r reads p h)

  -- each run of the sheet, with work words enough
  pub runs_as : (s : Sheet) (r : Reader) → read sheet ≡ found s r → (p : Plot) → Plotted call sheet limit budget p →
      (skip words size : ℕ) → words_for limit ≤ words →
      call sheet (setting limit budget skip) words size ≡ result_of (run_of s (setting limit budget skip) size)
  runs_as s r reads p plotted skip words size enough =
      every-runs sheet (setting limit budget p.skip) (setting limit budget skip) refl p.words words p.size size enough
      p.end p.tallies (bytes_of p) plotted s r reads

  -- what a run of the sheet gives
  pub gives : (s : Sheet) (skip words size : ℕ) →
      call sheet (setting limit budget skip) words size ≡ result_of (run_of s (setting limit budget skip) size) →
      (e : End) × (t : Tallies) × (bs : List Block) × (call sheet (setting limit budget skip) words size ≡ ran e t (listing_text bs))
  gives s skip words size runs =
      let (e, t, w, is) = result-of (run_of s (setting limit budget skip) size) in
      let (bs, whole, fits) = whole-blocks sheet (setting limit budget skip) words size e t w (runs ∙ is) in
      (e, t, bs, runs ∙ is ∙ ap (ran e t) whole)

-- ---- of the public call

-- each run of it that is not refused is a plot
pub plots : (sheet : Bytes) (S : Setting) (work output : Lent) (e : End) (t : Tallies) (n : ℕ) → Answered sheet S work output (Ok (ended e t n)) →
    (p : Plot) × Shown sheet S.path S.budget p × (p.skip ≡ S.skip) × (p.end ≡ e) × (p.tallies ≡ t) × (length (bytes_of p) ≡ n)
plots sheet S work output e t n a =
    let (w, is, count, bytes) = stands sheet S work output (Ok (ended e t n)) a e t n refl in
    let (bs, whole, fits) = whole-blocks sheet S (length work.before) (length output.before) e t w is in
    let long : length (listing_text bs) ≡ n = ap length (sym whole) ∙ count in
    let p : Plot = record { skip = S.skip; words = length work.before; size = length output.before; end = e; tallies = t; blocks = bs } in
    let top : take (length (listing_text bs)) output.after ≡ listing_text bs =
    ap (λ k. take k output.after) long ∙ ap (take n) bytes ∙ take_at w (drop n output.before) n count ∙ whole in
    (p, (work, output, refl, refl, subst (λ k. Answered sheet S work output (Ok (ended e t k))) (sym long) a, top), refl, refl, refl, long)

-- and it is what `call` gives
pub shown-plotted : (sheet : Bytes) (limit budget : ℕ) (p : Plot) → Shown sheet limit budget p → Plotted call sheet limit budget p
shown-plotted sheet limit budget p (work, output, words, size, a, top) =
    let S = setting limit budget p.skip in
    let n = length (bytes_of p) in
    let (w, is, count, bytes) = stands sheet S work output (Ok (ended p.end p.tallies n)) a p.end p.tallies n refl in
    let same : w ≡ bytes_of p = sym (take_at w (drop n output.before) n count) ∙ ap (take n) (sym bytes) ∙ top in
    ap (λ k. call sheet S k p.size) words ∙ ap (call sheet S (length work.before)) size ∙ is ∙ ap (ran p.end p.tallies) same
