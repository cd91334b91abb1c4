-- A call that ran has read a sheet, and its result is that sheet's run; a call whose sheet is refused in reading is refused. Calls with one
-- path limit and work words enough are refused alike, or run. Assumes nothing.
use Prim.Native.Nat.{ℕ, ◌≤◌}
use mathlib.Core.Path.{◌≡◌, refl, sym, ◌∙◌, ap}
use mathlib.Core.Bool.{Bool, true, false, ◌&&◌}
use lib.ListN.{length}
use lib.Dec.{leb}
use borrow.Author.Tests.{leb-true, le-leb}
use Rattle.specification.specs.declared.Setting.{Setting}
use Rattle.specification.specs.declared.Tallies.{Tallies}
use Rattle.specification.specs.declared.End.{End}
use Rattle.specification.specs.Bytes.{Bytes, pick, between}
use Rattle.specification.specs.Parser.{Reader, Read, refused, found}
use Rattle.specification.specs.Sheet.{Sheet, read}
use Rattle.specification.specs.Run.{Run, going, stopped}
use Rattle.specification.specs.Outcome.{refusal, ran, result_of, run_of, after_reading, longest_path, words_for, enough_memory, call_with, call}
use Rattle.specification.proofs.Laws.Contradiction.{contradiction}

refusal-not-ran : {A : Type 0} {n p : ℕ} {e : End} {t : Tallies} {w : Bytes} → refusal n p ≡ ran e t w → A
refusal-not-ran h = contradiction cc

-- a run is no refusal
pub run-not-refusal : {A : Type 0} {n p : ℕ} (r : Run) → result_of r ≡ refusal n p → A
run-not-refusal (going t w) h = contradiction cc
run-not-refusal (stopped e t w) h = contradiction cc

-- ---- the tests of a call

module _ (sheet : Bytes) where
  -- the sheet that is read, or the refusal: it knows no setting but the path limit, and no length of lent memory
  abbrev checked : ℕ → Read Sheet
  checked limit = pick (between 1 longest_path limit) (pick (leb (length sheet) 4096) (read sheet) (refused 2 4096)) (refused 1 0)

  call-checked : (S : Setting) (words size : ℕ) → words_for S.path ≤ words → call sheet S words size ≡ after_reading S size (checked S.path)
  unfolding call_with
  call-checked S words size enough =
      rw (le-leb (words_for S.path) words enough) (go (between 1 longest_path S.path) (leb (length sheet) 4096))
    where
      go : (a b : Bool) →
          pick (a && true) (pick b (after_reading S size (read sheet)) (refusal 2 4096)) (refusal 1 0) ≡
          after_reading S size (pick a (pick b (read sheet) (refused 2 4096)) (refused 1 0))
      go true true = refl
      go true false = refl
      go false b = refl

  module _ (S : Setting) (words size : ℕ) (e : End) (t : Tallies) (w : Bytes) where
    tests-passed : (a b c : Bool) → pick (a && b) (pick c (after_reading S size (read sheet)) (refusal 2 4096)) (refusal 1 0) ≡ ran e t w →
        (b ≡ true) × (pick a (pick c (read sheet) (refused 2 4096)) (refused 1 0) ≡ read sheet)
    tests-passed true true true h = (refl, refl)
    tests-passed true true false h = refusal-not-ran h
    tests-passed true false c h = refusal-not-ran h
    tests-passed false b c h = refusal-not-ran h

    -- a call that ran had work words enough
    pub ran-enough : call sheet S words size ≡ ran e t w → words_for S.path ≤ words
    unfolding call_with
    ran-enough h =
        leb-true (words_for S.path) words
        (tests-passed (between 1 longest_path S.path) (leb (words_for S.path) words) (leb (length sheet) 4096) h).0

    checked-ran : call sheet S words size ≡ ran e t w → checked S.path ≡ read sheet
    unfolding call_with
    checked-ran h = (tests-passed (between 1 longest_path S.path) (leb (words_for S.path) words) (leb (length sheet) 4096) h).1

-- ---- of one call

pub call-ran : (sheet : Bytes) (S : Setting) (words size : ℕ) (e : End) (t : Tallies) (w : Bytes) → call sheet S words size ≡ ran e t w →
    (s : Sheet) × (r : Reader) × (read sheet ≡ found s r) × (result_of (run_of s S size) ≡ ran e t w)
call-ran sheet S words size e t w h =
    by_read (read sheet) refl
    (ap (after_reading S size) (sym (checked-ran sheet S words size e t w h)) ∙
    sym (call-checked sheet S words size (ran-enough sheet S words size e t w h)) ∙ h)
  where
    by_read : (r : Read Sheet) → read sheet ≡ r → after_reading S size (read sheet) ≡ ran e t w →
        (s : Sheet) × (r : Reader) × (read sheet ≡ found s r) × (result_of (run_of s S size) ≡ ran e t w)
    by_read (refused n p) q k = refusal-not-ran (sym (ap (after_reading S size) q) ∙ k)
    by_read (found s r) q k = (s, r, q, sym (ap (after_reading S size) q) ∙ k)

pub call-refused : (sheet : Bytes) (S : Setting) (words size n p : ℕ) → read sheet ≡ refused n p →
    (k : ℕ) × (q : ℕ) × (call sheet S words size ≡ refusal k q)
unfolding call_with
call-refused sheet S words size n p h = rw h (by_tests (enough_memory S words) (leb (length sheet) 4096))
  where
    by_tests : (a b : Bool) → (k : ℕ) × (q : ℕ) × (pick a (pick b (refusal n p) (refusal 2 4096)) (refusal 1 0) ≡ refusal k q)
    by_tests true true = (n, p, refl)
    by_tests true false = (2, 4096, refl)
    by_tests false b = (1, 0, refl)

-- ---- calls of one sheet with one path limit, each with work words enough

module _ (sheet : Bytes) (S S' : Setting) (same : S.path ≡ S'.path) (words words' size size' : ℕ) (enough' : words_for S'.path ≤ words') where
  -- where one runs each does
  pub every-runs : (e : End) (t : Tallies) (w : Bytes) → call sheet S words size ≡ ran e t w →
      (s : Sheet) (r : Reader) → read sheet ≡ found s r → call sheet S' words' size' ≡ result_of (run_of s S' size')
  every-runs e t w h s r reads =
      call-checked sheet S' words' size' enough' ∙
      ap (after_reading S' size') (ap (checked sheet) (sym same) ∙ checked-ran sheet S words size e t w h ∙ reads)

  -- and where one is refused each is, with the same number and place
  pub every-refused : words_for S.path ≤ words → (n p : ℕ) → call sheet S words size ≡ refusal n p → call sheet S' words' size' ≡ refusal n p
  every-refused enough n p h =
      call-checked sheet S' words' size' enough' ∙ ap (λ k. after_reading S' size' (checked sheet k)) (sym same) ∙
      go (checked sheet S.path) (sym (call-checked sheet S words size enough) ∙ h)
    where
      go : (v : Read Sheet) → after_reading S size v ≡ refusal n p → after_reading S' size' v ≡ refusal n p
      go (refused m q) k = k
      go (found s r) k = run-not-refusal (run_of s S size) k
