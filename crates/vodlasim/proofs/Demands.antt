-- The demands (specs/Demands.antt) hold of every answered call. Assumes nothing.
use Prim.Native.Nat.{ℕ, ◌≤◌}
use mathlib.Core.Path.{◌≡◌, refl, sym, ◌∙◌, ap, subst}
use mathlib.Core.Bool.{true}
use mathlib.Core.List.{◌++◌}
use lib.ListN.{length, take, drop}
use lib.Seq.{take_at, drop_at}
use Rattle.std.specs.Prelude.{Ok, Err}
use Rattle.specification.specs.Refusals.{refusal_with}
use Rattle.specification.specs.declared.Setting.{Setting}
use Rattle.specification.specs.declared.Tallies.{Tallies}
use Rattle.specification.specs.declared.End.{End}
use Rattle.specification.specs.declared.End.TheVariants.{Done}
use Rattle.specification.specs.Bytes.{Bytes}
use Rattle.specification.specs.Outcome.{Result, refusal, ran, call, written, Outcome, ended, outcome, output_after, words_after}
use Rattle.specification.specs.Report.{report_of}
use Rattle.specification.proofs.Laws.Contradiction.{contradiction}
use Rattle.specification.proofs.Laws.Demand3.{Told, told}
use Rattle.specification.proofs.Laws.CallRan.{call-refused}
use Rattle.specification.proofs.Laws.Reasons.{call-reason}
use Rattle.specification.proofs.Laws.CutShort.{shorter-refused}
use Rattle.specification.proofs.Laws.Whole.{whole-blocks}
use Rattle.vodlasim.specs.Lent.{Lent}
use Rattle.vodlasim.specs.Answered.{Answered}
use Rattle.vodlasim.proofs.Runs.{same-refusal}
use Rattle.vodlasim.specs.Demands.{Memory, Reasoned, Lists, Agrees, KeepsRanges, CutShort}

-- a result by its outcome
pub ran-of : (x : Result) (e : End) (t : Tallies) (n : ℕ) → outcome x ≡ Ok (ended e t n) → (w : Bytes) × (x ≡ ran e t w) × (length w ≡ n)
ran-of (refusal k p) e t n h = contradiction cc
ran-of (ran e' t' w) e t n h =
    let same : ended e' t' (length w) ≡ ended e t n = cc in
    let p : e' ≡ e = ap (λ x. x.end) same in
    let q : t' ≡ t = ap (λ x. x.tallies) same in
    (w, ap (λ x. ran x t' w) p ∙ ap (λ x. ran e x w) q, ap (λ x. x.written) same)

pub refused-of : (x : Result) (k p : ℕ) → outcome x ≡ Err (refusal_with k p) → x ≡ refusal k p
refused-of (refusal k' p') k p h =
    let (a, b) = same-refusal h in
    rw (a, b) refl
refused-of (ran e t w) k p h = contradiction cc

module _ (sheet : Bytes) (S : Setting) (work output : Lent) (r : Outcome) (a : Answered sheet S work output r) where
  abbrev result : Result
  result = call sheet S (length work.before) (length output.before)

  -- what stands in the output where the call ran
  pub stands : (e : End) (t : Tallies) (n : ℕ) → r ≡ Ok (ended e t n) →
      (w : Bytes) × (result ≡ ran e t w) × (length w ≡ n) × (output.after ≡ w ++ drop n output.before)
  unfolding output_after
  stands e t n h =
      let (w, is, count) = ran-of result e t n (sym a.result ∙ h) in
      (w, is, count, a.output ∙ ap (λ x. written x ++ drop (length (written x)) output.before) is ∙ ap (λ k. w ++ drop k output.before) count)

  refused_as : (k p : ℕ) → r ≡ Err (refusal_with k p) → result ≡ refusal k p
  refused_as k p h = refused-of result k p (sym a.result ∙ h)

  pub memory : Memory sheet S work output r
  unfolding words_after output_after
  memory = record {
    zero = a.work;
    blocks = λ e t n h.
        let (w, is, count, bytes) = stands e t n h in
        let (bs, whole, fits) = whole-blocks sheet S (length work.before) (length output.before) e t w is in (
          subst (◌≤ length output.before) count fits,
          (bs, ap (take n) bytes ∙ take_at w (drop n output.before) n count ∙ whole),
          ap (drop n) bytes ∙ drop_at w (drop n output.before) n count,
        );
    refused = λ k p. ((λ is. a.result ∙ ap outcome is), refused_as k p);
    untouched = λ k p h. (a.output ∙ ap (λ x. written x ++ drop (length (written x)) output.before) (refused_as k p h), ap report_of h);
  }

  pub reasoned : Reasoned r
  reasoned = record {
    refused = λ e h. call-reason true sheet S (length work.before) (length output.before) e.number e.place (refused_as e.number e.place h);
  }

  -- what a call that ran has told, over the bytes that stand in the output
  ran-told : (e : End) (t : Tallies) (n : ℕ) → r ≡ Ok (ended e t n) → Told sheet (take n output.after) S (length output.before) e t
  ran-told e t n h =
      let (w, is, count, bytes) = stands e t n h in
      subst (λ x. Told sheet x S (length output.before) e t) (sym (ap (take n) bytes ∙ take_at w (drop n output.before) n count))
      (told sheet S (length work.before) (length output.before) e t w is)

  pub lists : Lists sheet S output r
  lists = record { ran = λ e t n h. let x = ran-told e t n h in (x.listed, x.tree) }

  pub agrees : Agrees sheet S output.after r
  agrees = record {
    done = λ t n skip h. let x = ran-told Done t n h in record { listed = x.listed; agreement = x.agrees skip refl };
    none = λ t n h z. let x = ran-told Done t n h in (x.listed, (x.none refl z).0, (x.none refl z).1);
    right = λ e t n h. let x = ran-told e t n h in (x.listed, x.right);
  }

  pub keeps-ranges : KeepsRanges sheet output.after r
  keeps-ranges = record { ran = λ e t n h. let x = ran-told e t n h in (x.listed, x.in_ranges) }

  pub cut_short : CutShort sheet r
  cut_short = record {
    refused = λ missing s reader more reads.
        let (m, at, bad) = shorter-refused sheet missing s reader more reads in
        let (k, p, is) = call-refused sheet S (length work.before) (length output.before) m at bad in
        (k, p, a.result ∙ ap outcome is);
  }
