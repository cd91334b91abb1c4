-- The promises of the moves and of the pass follow from the contracts of the calls, by the specification's theorems. Assumes nothing.
use Prim.Native.Nat.{ℕ, ◌≤◌}
use native.Mathlib.Omega.{arith}
use mathlib.Core.Path.{◌≡◌, refl, sym, ◌∙◌, ap, subst}
use mathlib.Core.Bool.{Bool, true, false}
use mathlib.Core.Logic.{inl, inr, ⊎_elim}
use lib.ListN.{length, take, drop}
use lib.Seq.{take-append_seam, drop-append_seam}
use Rattle.std.specs.Prelude.{Ok, Err}
use Rattle.specification.specs.Refusals.{OfReason, refusal_with}
use Rattle.specification.specs.declared.Setting.{Setting}
use Rattle.specification.specs.Bytes.{Bytes}
use Rattle.specification.specs.Parser.{Read, refused, found}
use Rattle.specification.specs.Sheet.{Sheet}
use Rattle.specification.specs.Outcome as run
use Rattle.specification.specs.Outcome.{words_after, call_with, Outcome}
use Rattle.specification.specs.Tidy.{tidied}
use Rattle.specification.specs.Moves.{older, newer, raised, lowered, Result, refusal, moved, longest_sheet, admitted, after_reading, move_up, move_down, tidy, Move, outcome, output_after}
use Rattle.specification.specs.Moving.{Way, Carries, Moves, Accepted, Settles, Orderly, ThereAndBack, ListsAlike, RunsAsBefore}
use Rattle.specification.proofs.Laws.Contradiction.{contradiction}
use Rattle.specification.proofs.Laws.CallRan.{call-ran}
use Rattle.specification.proofs.Laws.Admitted.{admitted-found}
use Rattle.specification.proofs.Laws.Moves as laws
use Rattle.specification.proofs.Laws.AsBefore as before
use Rattle.specification.proofs.Laws.Reasons.{up-reason, down-reason, tidy-reason}
use Rattle.vodlasim.specs.Lent.{Lent}
use Rattle.vodlasim.specs.Answered.{Answered}
use Rattle.vodlasim.specs.Moved.{Moved}
use Rattle.vodlasim.proofs.Runs.{same-refusal}
use Rattle.vodlasim.proofs.Demands.{ran-of, refused-of}
use Rattle.vodlasim.specs.Demands.{Reasoned}
use Rattle.vodlasim.specs.Moves.{moved_sheet, MoveMemory, PassRefuses, MovesSheet, BackAgain, Settled, LeftAlone, Runs, RunAlike, told, RunAsBefore, RunKept}

-- ---- what a call shows of a move

-- the moved sheet, and that it stands at the start of the output
record Shown (x : Result) (o o' : Bytes) (n : ℕ) : Type 0 where
  sheet : Bytes
  is : x ≡ moved sheet
  long : length sheet ≡ n
  stands : take n o' ≡ sheet
  rest : drop n o' ≡ drop n o

shown : (x : Result) (o o' : Bytes) (n : ℕ) → Ok n ≡ outcome x → o' ≡ output_after x o → Shown x o o' n
unfolding output_after
shown (refusal k p) o o' n e f = contradiction cc
shown (moved t) o o' n e f =
    let l : length t ≡ n = cc in
    record {
      sheet = t;
      is = refl;
      long = l;
      stands = rw (sym l, f) (take-append_seam t (drop (length t) o));
      rest = rw (sym l, f) (drop-append_seam t (drop (length t) o));
    }

refused-is : (x : Result) (n p : ℕ) → Err (refusal_with n p) ≡ outcome x → x ≡ refusal n p
refused-is (refusal m q) n p e = let (a, b) = same-refusal e in rw (a, b) refl
refused-is (moved t) n p e = contradiction cc

module _ {way : Way} {sheet : Bytes} {work output : Lent} {r : Move} (h : Moved way sheet work output r) where
  abbrev gives : Result
  gives = way sheet (length work.before) (length output.before)

  shows : (n : ℕ) → r ≡ Ok n → Shown gives output.before output.after n
  shows n e = shown gives output.before output.after n (sym e ∙ h.result) h.output

  reasoned-of : ((n p : ℕ) → gives ≡ refusal n p → OfReason n) → Reasoned r
  reasoned-of law = record { refused = λ e k. law e.number e.place (refused-is gives e.number e.place (sym k ∙ h.result)) }

-- ---- lent memory

-- there was room for a sheet that was moved
abbrev Roomy : Way → Type 0
Roomy way = (sheet t : Bytes) (words size : ℕ) → way sheet words size ≡ moved t → longest_sheet ≤ size

admitted-roomy : (strict : Bool) (edition : ℕ) (move : Sheet → Result) (sheet t : Bytes) (words size : ℕ) →
    after_reading move (admitted strict edition sheet words size) ≡ moved t → longest_sheet ≤ size
admitted-roomy strict edition move sheet t words size e = go (admitted strict edition sheet words size) refl e
  where
    go : (x : Read Sheet) → admitted strict edition sheet words size ≡ x → after_reading move x ≡ moved t → longest_sheet ≤ size
    go (refused n p) f g = contradiction cc
    go (found s r) f g = (admitted-found strict edition sheet words size s r f).enough.1

up-roomy : Roomy move_up
unfolding move_up
up-roomy sheet t words size e = admitted-roomy false older _ sheet t words size e

down-roomy : Roomy move_down
unfolding move_down
down-roomy sheet t words size e = admitted-roomy true newer _ sheet t words size e

tidy-roomy : Roomy tidy
unfolding tidy
tidy-roomy sheet t words size e = admitted-roomy false newer _ sheet t words size e

module _ {way : Way} {strict : Bool} {edition : ℕ} {over : Sheet → Sheet} (moves : Moves strict edition over way) (roomy : Roomy way)
    {sheet : Bytes} {work output : Lent} {r : Move} (h : Moved way sheet work output r) where
  memory-of : MoveMemory way sheet work output r
  unfolding output_after words_after
  memory-of = record {
    zero = h.work;
    kept = λ n e.
        let s = shows h n e in
        let c = moves sheet s.sheet (length work.before) (length output.before) s.is in
        (omega (arith, s.long, c.2, roomy sheet s.sheet (length work.before) (length output.before) s.is), s.rest);
    refused = λ n p. ((λ e. h.result ∙ ap outcome e), (λ e. refused-is (gives h) n p (sym e ∙ h.result)));
    untouched = λ n p e. h.output ∙ ap (λ x. output_after x output.before) (refused-is (gives h) n p (sym e ∙ h.result));
  }

  sheet-of : MovesSheet strict edition over sheet output r
  sheet-of = record {
    carries = λ n e.
        let s = shows h n e in
        let (c, long, short) = moves sheet s.sheet (length work.before) (length output.before) s.is in
        (subst (Carries strict edition over sheet) (sym s.stands) c, long, subst (λ (k : ℕ). k ≤ longest_sheet) s.long short);
  }

module _ {sheet : Bytes} {work output : Lent} {r : Move} where
  pub up-memory : Moved move_up sheet work output r → MoveMemory move_up sheet work output r
  up-memory h = memory-of laws.up-moves up-roomy h

  pub down-memory : Moved move_down sheet work output r → MoveMemory move_down sheet work output r
  down-memory h = memory-of laws.down-moves down-roomy h

  pub tidy-memory : Moved tidy sheet work output r → MoveMemory tidy sheet work output r
  tidy-memory h = memory-of laws.tidy-moves tidy-roomy h

  -- ---- a refusal's number

  pub up-reasoned : Moved move_up sheet work output r → Reasoned r
  up-reasoned h = reasoned-of h (up-reason sheet (length work.before) (length output.before))

  pub down-reasoned : Moved move_down sheet work output r → Reasoned r
  down-reasoned h = reasoned-of h (down-reason sheet (length work.before) (length output.before))

  pub tidy-reasoned : Moved tidy sheet work output r → Reasoned r
  tidy-reasoned h = reasoned-of h (tidy-reason sheet (length work.before) (length output.before))

  -- ---- the same sheet, carried over

  pub up-sheet : Moved move_up sheet work output r → MovesSheet false older (λ s. raised (tidied s)) sheet output r
  up-sheet h = sheet-of laws.up-moves up-roomy h

  pub down-sheet : Moved move_down sheet work output r → MovesSheet true newer lowered sheet output r
  down-sheet h = sheet-of laws.down-moves down-roomy h

  pub tidy-sheet : Moved tidy sheet work output r → MovesSheet false newer tidied sheet output r
  tidy-sheet h = sheet-of laws.tidy-moves tidy-roomy h

-- ---- refusals of the pass

pub pass-refuses : PassRefuses
pass-refuses sheet w o w' o' r r' h k lw lo n p =
    let law = laws.refuses-as-back sheet (length w.before) (length o.before) n p in
    let back : gives k ≡ move_down sheet (length w.before) (length o.before) = rw (lw, lo) in
    let told : (m q : ℕ) → move_down sheet (length w.before) (length o.before) ≡ refusal m q → r' ≡ Err (refusal_with m q) =
    λ m q e. k.result ∙ ap outcome (back ∙ e) in (
      λ e. ⊎_elim (λ x. inl (told n p x)) (λ x. inr (x.0, told 17 x.0 x.1)) (law.0 (refused-is (gives h) n p (sym e ∙ h.result))),
      λ e. ⊎_elim (λ x. inl x) (λ x. inr (h.result ∙ ap outcome x)) (law.1 (sym back ∙ refused-is (gives k) n p (sym e ∙ k.result))),
    )

-- ---- there and back

-- a call with what another wrote, where the way gives these bytes for it
returned : {way : Way} {sheet t : Bytes} {work output : Lent} {r : Move} (h : Moved way t work output r) → gives h ≡ moved sheet →
    (r ≡ Ok (length sheet)) × (moved_sheet (length sheet) output ≡ sheet)
unfolding output_after
returned {sheet = sheet} {output = output} h f = (
  h.result ∙ ap outcome f,
  ap (take (length sheet)) (h.output ∙ ap (λ x. output_after x output.before) f) ∙ take-append_seam sheet (drop (length sheet) output.before),
)

back-again : {Sort : Bytes → Type 0} {there back : Way} → ThereAndBack Sort there back → BackAgain Sort there back
back-again {back = back} law sheet sort work output r h n e work' output' r' k enough =
    let s = shows h n e in
    returned k
    (ap (λ (t : Bytes). back t (length work'.before) (length output'.before)) s.stands
    ∙ law sheet s.sheet sort (length work.before) (length output.before) s.is (length work'.before) (length output'.before) enough)

pub up-and-down : BackAgain Orderly move_up move_down
up-and-down = back-again laws.up-and-down

pub down-and-up : BackAgain (λ sheet. Unit {0}) move_down move_up
down-and-up = back-again laws.down-and-up

-- a second pass
settled : {way : Way} → Settles way → Settled way
settled law sheet work output r h n e work' output' r' k enough =
    let s = shows h n e in
    let (x, y) =
    returned k
    (ap (λ (t : Bytes). tidy t (length work'.before) (length output'.before)) s.stands
    ∙ law sheet s.sheet (length work.before) (length output.before) s.is (length work'.before) (length output'.before) enough) in
    (x ∙ ap Ok s.long, ap (λ (m : ℕ). moved_sheet m output') (sym s.long) ∙ y ∙ sym s.stands)

pub up-settled : Settled move_up
up-settled = settled laws.up-settles

pub tidy-settled : Settled tidy
tidy-settled = settled laws.tidy-settles

-- what was run is orderly
pub tidy-leaves : LeftAlone
tidy-leaves sheet S w o e t m a work output r h n f =
    let s = shows h n f in
    let (x, b, reads, ran) = call-ran sheet S (length w.before) (length o.before) e t _ (ran-of _ e t m (sym a.result)).1 in
    let same : s.sheet ≡ sheet = laws.tidy-accepts sheet x b reads s.sheet (length work.before) (length output.before) s.is in
    (sym s.long ∙ ap length same, s.stands ∙ same)

-- ---- runs before and after

runs : {way : Way} → Accepted way → Runs way
runs law sheet work output r h n e S w o x a k p f =
    let s = shows h n e in
    law sheet s.sheet (length work.before) (length output.before) s.is S (length w.before) (length o.before) k p
    (ap (λ (t : Bytes). run.call t S (length w.before) (length o.before)) (sym s.stands) ∙ refused-of _ k p (sym a.result ∙ f))

pub up-runs : Runs move_up
up-runs = runs laws.up-accepted

pub tidy-runs : Runs tidy
tidy-runs = runs laws.tidy-accepted

run-alike : {Sort : Bytes → Type 0} {way : Way} → ListsAlike Sort way → RunAlike Sort way
run-alike law sheet sort work output r h n e S w o w' o' x x' a b lw lo =
    let s = shows h n e in
    let f :
    run.call (moved_sheet n output) S (length w'.before) (length o'.before) ≡ run.call sheet S (length w.before) (length o.before) =
    rw (lw, lo, s.stands)
    (law sheet s.sheet sort (length work.before) (length output.before) s.is S (length w.before) (length o.before)) in (
      b.result ∙ ap run.outcome f ∙ sym a.result,
      b.output ∙ ap (λ y. run.output_after y o'.before) f
          ∙ ap (run.output_after (run.call sheet S (length w.before) (length o.before))) lo ∙ sym a.output,
    )

pub up-alike : RunAlike Orderly move_up
up-alike = run-alike laws.up-alike

pub down-alike : RunAlike (λ sheet. Unit {0}) move_down
down-alike = run-alike laws.down-alike

-- what a run tells is what the specification's call gives
told_is : {sheet : Bytes} {S : Setting} {w o : Lent} {x : Outcome} → Answered sheet S w o x →
    told x o ≡ run.call sheet S (length w.before) (length o.before)
unfolding run.output_after
told_is {sheet} {S} {w} {o} {x} a = go (run.call sheet S (length w.before) (length o.before)) x a.result a.output
  where
    go : (y : run.Result) (x : Outcome) → x ≡ run.outcome y → o.after ≡ run.output_after y o.before → told x o ≡ y
    go (run.refusal n p) x e f = rw e
    go (run.ran d t v) x e f = rw (e, f) (ap (run.ran d t) (take-append_seam v (drop (length v) o.before)))

as_before : {way : Way} → RunsAsBefore way → RunAsBefore way
as_before law sheet work output r h n e S w o x a =
    let s = shows h n e in
    let t : told x o ≡ run.call s.sheet S (length w.before) (length o.before) =
    told_is a ∙ ap (λ (u : Bytes). run.call u S (length w.before) (length o.before)) s.stands in
    rw t
    (law sheet s.sheet (length work.before) (length output.before) s.is S (length w.before) (length o.before))

pub up-as-before : RunAsBefore move_up
up-as-before = as_before before.up-as-before

pub tidy-as-before : RunAsBefore tidy
tidy-as-before = as_before before.tidy-as-before

pub up_kept : RunKept move_up
up_kept sheet work output r h n e S w o w' o' x x' a b lw lo =
    let s = shows h n e in
    let t : told x o ≡ call_with false sheet S (length w'.before) (length o'.before) =
    told_is a ∙ rw (sym lw, sym lo)
    (sym (before.up-still-run sheet s.sheet (length work.before) (length output.before) s.is
    S (length w'.before) (length o'.before))) in
    rw t (up-as-before sheet work output r h n e S w' o' x' b)
