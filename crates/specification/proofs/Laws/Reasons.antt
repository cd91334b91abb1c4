-- The numbers of the reasons of refusals: no two have one number, each number from 1 to 17 is one's, and no sheet, run or move is refused with
-- another. Assumes nothing.
use Prim.Native.Nat.{ℕ, ◌<◌, ◌≤◌}
use native.Mathlib.Omega.{arith}
use mathlib.Core.Path.{◌≡◌, refl, subst}
use mathlib.Core.Bool.{Bool, true, false, ◌&&◌}
use mathlib.Core.Logic.{⊎_elim}
use mathlib.Core.Option.{Option, none, some as just}
use lib.ListN.{length}
use lib.Dec.{leb, ltb, eqb}
use borrow.Author.Tests.{ltb-true, ltb-false}
use Rattle.specification.specs.declared.refusals.Reason.{Reason}
use Rattle.specification.specs.declared.refusals.Reason.TheVariants as reason
use Rattle.specification.specs.declared.Setting.{Setting}
use Rattle.specification.specs.Refusals.{reason_number, OfReason}
use Rattle.specification.specs.Bytes.{Bytes, pick, between}
use Rattle.specification.specs.Parser.{Read, refused, found}
use Rattle.specification.specs.Sheet.{Sheet, read_with}
use Rattle.specification.specs.Outcome as run
use Rattle.specification.specs.Outcome.{enough_memory, run_of, call_with}
use Rattle.specification.specs.Moves.{narrow_in, rounding_in, older, newer, Result, refusal, moved, read_only, admitted, after_reading, longest_sheet, words_to_move, fitted, unless, move_up, move_down, tidy}
use Rattle.specification.proofs.Laws.Contradiction.{contradiction}
use Rattle.specification.proofs.Laws.ReadBounds.{RefusedWell, read-with-refused, only-refused}
use Rattle.specification.proofs.Laws.CallRan.{run-not-refusal}
use Rattle.specification.proofs.Laws.Admitted.{from-refused}

-- the reason that a number stands for
abbrev pub reason_of : ℕ → Reason
reason_of n =
    pick (eqb n 1) reason.Memory (pick (eqb n 2) reason.TooLong (pick (eqb n 3) reason.Key (pick (eqb n 4) reason.Number
    (pick (eqb n 5) reason.Byte (pick (eqb n 6) reason.Word (pick (eqb n 7) reason.Undeclared (pick (eqb n 8) reason.Binder
    (pick (eqb n 9) reason.TooMany (pick (eqb n 10) reason.NotRising (pick (eqb n 11) reason.Procedure (pick (eqb n 12) reason.Parameter
    (pick (eqb n 13) reason.OutOfRange (pick (eqb n 14) reason.EmptyRange (pick (eqb n 15) reason.NarrowRange
    (pick (eqb n 16) reason.Rounding reason.EmptyBounds)))))))))))))))

-- no two reasons have one number
pub reason-back : (r : Reason) → reason_of (reason_number r) ≡ r
reason-back reason.Memory = refl
reason-back reason.TooLong = refl
reason-back reason.Key = refl
reason-back reason.Number = refl
reason-back reason.Byte = refl
reason-back reason.Word = refl
reason-back reason.Undeclared = refl
reason-back reason.Binder = refl
reason-back reason.TooMany = refl
reason-back reason.NotRising = refl
reason-back reason.Procedure = refl
reason-back reason.Parameter = refl
reason-back reason.OutOfRange = refl
reason-back reason.EmptyRange = refl
reason-back reason.NarrowRange = refl
reason-back reason.Rounding = refl
reason-back reason.EmptyBounds = refl

-- each is one from 1 to 17
pub reason-range : (r : Reason) → (1 ≤ reason_number r) × (reason_number r ≤ 17)
reason-range reason.Memory = (omega arith, omega arith)
reason-range reason.TooLong = (omega arith, omega arith)
reason-range reason.Key = (omega arith, omega arith)
reason-range reason.Number = (omega arith, omega arith)
reason-range reason.Byte = (omega arith, omega arith)
reason-range reason.Word = (omega arith, omega arith)
reason-range reason.Undeclared = (omega arith, omega arith)
reason-range reason.Binder = (omega arith, omega arith)
reason-range reason.TooMany = (omega arith, omega arith)
reason-range reason.NotRising = (omega arith, omega arith)
reason-range reason.Procedure = (omega arith, omega arith)
reason-range reason.Parameter = (omega arith, omega arith)
reason-range reason.OutOfRange = (omega arith, omega arith)
reason-range reason.EmptyRange = (omega arith, omega arith)
reason-range reason.NarrowRange = (omega arith, omega arith)
reason-range reason.Rounding = (omega arith, omega arith)
reason-range reason.EmptyBounds = (omega arith, omega arith)

module _ (n : ℕ) where
  -- this one's, or less
  or-less : (r : Reason) → n ≤ reason_number r → (n < reason_number r → OfReason n) → OfReason n
  or-less r most less = go (ltb n (reason_number r)) refl
    where
      go : (b : Bool) → ltb n (reason_number r) ≡ b → OfReason n
      go true h = less (ltb-true n (reason_number r) h)
      go false h = (r, omega (arith, most, ltb-false n (reason_number r) h))

  -- and each from 1 to 17 is one
  pub of-reason : 1 ≤ n → n ≤ 17 → OfReason n
  of-reason least most =
      or-less reason.EmptyBounds most λ l.
      or-less reason.Rounding (omega arith) λ l.
      or-less reason.NarrowRange (omega arith) λ l.
      or-less reason.EmptyRange (omega arith) λ l.
      or-less reason.OutOfRange (omega arith) λ l.
      or-less reason.Parameter (omega arith) λ l.
      or-less reason.Procedure (omega arith) λ l.
      or-less reason.NotRising (omega arith) λ l.
      or-less reason.TooMany (omega arith) λ l.
      or-less reason.Binder (omega arith) λ l.
      or-less reason.Undeclared (omega arith) λ l.
      or-less reason.Word (omega arith) λ l.
      or-less reason.Byte (omega arith) λ l.
      or-less reason.Number (omega arith) λ l.
      or-less reason.Key (omega arith) λ l.
      or-less reason.TooLong (omega arith) λ l. or-less reason.Memory (omega arith) λ l. absurd (omega arith)

-- ---- the number of a refusal

-- of a sheet that is read, strictly or not, in whatever edition or in one alone
of-well : {b : Bytes} {n p : ℕ} → RefusedWell b n p → OfReason n
of-well {n} h = of-reason n (omega (arith, h.least)) (⊎_elim (λ g. omega arith) (λ g. omega arith) h.greatest)

pub read-reason : (strict : Bool) (b : Bytes) (n p : ℕ) → read_with strict b ≡ refused n p → OfReason n
read-reason strict b n p e = of-well (read-with-refused strict b n p e)

pub only-reason : (strict : Bool) (edition : ℕ) (b : Bytes) (n p : ℕ) → read_only strict edition b ≡ refused n p → OfReason n
only-reason strict edition b n p e = of-well (only-refused strict edition b n p e)

-- of a run
pub call-reason : (strict : Bool) (sheet : Bytes) (S : Setting) (words size n p : ℕ) → call_with strict sheet S words size ≡ run.refusal n p → OfReason n
unfolding call_with
call-reason strict sheet S words size n p e = by_tests (enough_memory S words) (leb (length sheet) 4096) e
  where
    by_read : (x : Read Sheet) → read_with strict sheet ≡ x → run.after_reading S size x ≡ run.refusal n p → OfReason n
    by_read (refused m q) h k = let same : m ≡ n = cc in subst OfReason same (read-reason strict sheet m q h)
    by_read (found s r) h k = run-not-refusal (run_of s S size) k

    by_tests : (a b : Bool) →
        pick a (pick b (run.after_reading S size (read_with strict sheet)) (run.refusal 2 4096)) (run.refusal 1 0) ≡ run.refusal n p → OfReason n
    by_tests true true k = by_read (read_with strict sheet) refl k
    by_tests true false k = (reason.TooLong, cc)
    by_tests false b k = (reason.Memory, cc)

-- of a move: of the sheet, where it is not admitted, or of what is made of it
module _ {n p : ℕ} where
  pub fitted-reason : (t : Bytes) → fitted t ≡ refusal n p → OfReason n
  unfolding fitted
  fitted-reason t e = go (leb (length t) longest_sheet) e
    where
      go : (b : Bool) → pick b (moved t) (refusal 2 longest_sheet) ≡ refusal n p → OfReason n
      go true k = contradiction cc
      go false k = (reason.TooLong, cc)

  pub unless-reason : (r : Reason) (o : Option ℕ) (x : Result) → (x ≡ refusal n p → OfReason n) →
      unless (reason_number r) o x ≡ refusal n p → OfReason n
  unless-reason r none x h e = h e
  unless-reason r (just q) x h e = (r, cc)

module _ (sheet : Bytes) (words size n p : ℕ) where
  admitted-reason : (strict : Bool) (edition : ℕ) → admitted strict edition sheet words size ≡ refused n p → OfReason n
  unfolding admitted
  admitted-reason strict edition e = by_tests (leb longest_sheet size && leb words_to_move words) (leb (length sheet) longest_sheet) e
    where
      by_tests : (a b : Bool) → pick a (pick b (read_only strict edition sheet) (refused 2 longest_sheet)) (refused 1 0) ≡ refused n p → OfReason n
      by_tests true true k = only-reason strict edition sheet n p k
      by_tests true false k = (reason.TooLong, cc)
      by_tests false b k = (reason.Memory, cc)

  move-reason : (strict : Bool) (edition : ℕ) (known : between 1 3 edition ≡ true) (move : Sheet → Result) →
      ((s : Sheet) → move s ≡ refusal n p → OfReason n) → after_reading move (admitted strict edition sheet words size) ≡ refusal n p → OfReason n
  move-reason strict edition known move made e =
      from-refused strict edition sheet words size known move n p (admitted-reason strict edition) (λ h. made h.what h.is) e

  pub up-reason : move_up sheet words size ≡ refusal n p → OfReason n
  unfolding move_up
  up-reason e = move-reason false older refl _ (λ s. fitted-reason _) e

  pub tidy-reason : tidy sheet words size ≡ refusal n p → OfReason n
  unfolding tidy
  tidy-reason e = move-reason false newer refl _ (λ s. fitted-reason _) e

  pub down-reason : move_down sheet words size ≡ refusal n p → OfReason n
  unfolding move_down
  down-reason e =
      move-reason true newer refl _
      (λ s. unless-reason reason.NarrowRange (narrow_in s) _ (unless-reason reason.Rounding (rounding_in s) _ (fitted-reason _))) e
