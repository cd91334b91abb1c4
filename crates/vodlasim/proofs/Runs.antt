-- The call by its parts: a sheet that is read leaves what the walk wants, and each of the four ways of the call answers. Assumes nothing.
use Prim.Native.Nat.{ℕ, ◌≤◌}
use native.Mathlib.Omega.{arith}
use mathlib.Core.Path.{◌≡◌, refl, sym, ◌∙◌, ap, subst}
use mathlib.Core.Bool.{Bool, true, false, ◌&&◌}
use mathlib.Core.List.{List}
use lib.ListN.{length, replicate}
use lib.Dec.{leb}
use borrow.Author.Tests.{leb-true}
use Rattle.std.specs.Prelude.{Result, Ok, Err}
use Rattle.specification.specs.declared.refusals.Refusal.{Refusal}
use Rattle.specification.specs.Refusals.{refusal_with}
use Rattle.specification.specs.declared.Setting.{Setting}
use Rattle.specification.specs.declared.Ran.{Ran}
use Rattle.specification.specs.Bytes.{Bytes, pick, between}
use Rattle.specification.specs.Parser.{Reader, Read, refused, found}
use Rattle.specification.specs.Sheet.{Sheet, read}
use Rattle.specification.specs.Outcome.{longest_path, words_for, refusal, after_reading, enough_memory, call_with, call, outcome, output_after, words_after}
use Rattle.specification.proofs.Laws.Contradiction.{contradiction}
use Rattle.specification.proofs.Laws.ReadSheet.{read-well-formed}
use Rattle.tables.specs.Layout.{path_at}
use Rattle.sheet.specs.declared.Reading.{Reading}
use Rattle.sheet.specs.Tables.{Words, sheet_tokens, formula_start, tables}
use Rattle.sheet.specs.Held.{FormulaAt, InOrder}
use Rattle.sheet.specs.Whole.{reading_of, words_of}
use Rattle.sheet.proofs.Tables.{tables-length, rest-zero}
use Rattle.sheet.proofs.ReadSheet.{read-counts, read-ready}
use Rattle.walker.specs.declared.Task.{Task}
use Rattle.walker.specs.Walked.{Ready, Readied, Walked}
use Rattle.vodlasim.specs.Lent.{lent}
use Rattle.vodlasim.specs.Answered.{Answered}

-- a refusal that is returned tells its number and place
pub same-refusal : {T : Type 0} {n p m q : ℕ} → ◌≡◌ {A = Result T Refusal} (Err (refusal_with n p)) (Err (refusal_with m q)) → (n ≡ m) × (p ≡ q)
same-refusal {n = n} {p} {m} {q} e = let r : ◌≡◌ {A = Refusal} (refusal_with n p) (refusal_with m q) = cc in (ap (λ r. r.number) r, ap (λ r. r.place) r)

-- ---- the setting's tests

both : (x y : Bool) → (x && y) ≡ true → (x ≡ true) × (y ≡ true)
both true y e = (refl, e)
both false y e = contradiction cc

pub memory-of : (path words : ℕ) → (between 1 longest_path path && leb (words_for path) words) ≡ true → (path ≤ longest_path) × (words_for path ≤ words)
memory-of path words e =
    let (a, b) = both (between 1 longest_path path) (leb (words_for path) words) e in
    let (c, d) = both (leb 1 path) (leb path longest_path) a in
    (leb-true path longest_path d, leb-true (words_for path) words b)

module _ (b : Bytes) (S : Setting) (n m : ℕ) where
  pub first-refused : enough_memory S n ≡ false → call b S n m ≡ refusal 1 0
  unfolding call_with
  first-refused e = ap (λ t. pick t (pick (leb (length b) 4096) (after_reading S m (read b)) (refusal 2 4096)) (refusal 1 0)) e

  past_first : enough_memory S n ≡ true → call b S n m ≡ pick (leb (length b) 4096) (after_reading S m (read b)) (refusal 2 4096)
  unfolding call_with
  past_first e = ap (λ t. pick t (pick (leb (length b) 4096) (after_reading S m (read b)) (refusal 2 4096)) (refusal 1 0)) e

  pub second-refused : enough_memory S n ≡ true → leb (length b) 4096 ≡ false → call b S n m ≡ refusal 2 4096
  second-refused e l = past_first e ∙ ap (λ t. pick t (after_reading S m (read b)) (refusal 2 4096)) l

  pub reads : enough_memory S n ≡ true → leb (length b) 4096 ≡ true → call b S n m ≡ after_reading S m (read b)
  reads e l = past_first e ∙ ap (λ t. pick t (after_reading S m (read b)) (refusal 2 4096)) l

-- ---- what the walk wants

-- the walk of a sheet that was read, from its formula's first token on
abbrev task_of : Setting → Reading → Task
task_of S d = record { setting = S; scalars = d.scalars; arrays = d.arrays; formula = d.formula }

-- what is told of a sheet that was read
abbrev pub reading_is : Sheet → Reading
reading_is s = record { scalars = s.declared.scalars; arrays = length s.declared.arrays; tokens = length (sheet_tokens s); formula = formula_start s }

-- the sheet that was read, and its tables in the words w
record Found (b : Bytes) (n : ℕ) (w : Words) (t : Task) : Type 0 where
  pub sheet : Sheet
  pub after : Reader
  pub is : read b ≡ found sheet after
  pub long : length w ≡ n
  pub ready : Ready w t sheet

module _ (b : Bytes) (S : Setting) (n : ℕ) (limit : S.path ≤ longest_path) (size : words_for S.path ≤ n) (w : Words) (d : Reading) where
  found_of : (x : Read Sheet) → read b ≡ x → Ok d ≡ reading_of x → w ≡ words_of n x → Found b n w (task_of S d)
  found_of (refused k p) e t h = contradiction cc
  found_of (found s r) e t h =
      let enough : path_at ≤ n = omega (arith, size) in
      let count = read-counts true b s r e in
      let held = read-ready true b s r n e enough in
      let well = read-well-formed true b s r e in
      let long : length w ≡ n = ap length h ∙ tables-length s n enough count.few in
      let same : d ≡ reading_is s = cc in
      let f : d.formula ≡ formula_start s = ap (λ x. x.formula) same in
      record {
        sheet = s;
        after = r;
        is = e;
        long = long;
        ready = subst (λ x. Ready x (task_of S d) s) (sym h) (record {
          well = well;
          formula = subst (λ i. FormulaAt (tables s n) i s.formula) (sym f) held.formula;
          shallow = held.shallow;
          procedures = held.procedures;
          order = subst (λ i. InOrder (tables s n) (length s.declared.procedures) i) (sym f) held.order;
          holds = held.values;
          marked = held.marked;
          ranges = held.ranges;
          firsts = held.arrays;
          lasts = λ l h. rest-zero s n enough count.few well _ (omega arith);
          scalar_count = ap (λ x. x.scalars) same;
          array_count = ap (λ x. x.arrays) same;
          limit = limit;
          size = subst (λ k. words_for S.path ≤ k) (sym (tables-length s n enough count.few)) size;
        });
      }

  pub readied : Ok d ≡ reading_of (read b) → w ≡ words_of n (read b) → Readied w (task_of S d)
  readied t h = let f = found_of (read b) refl t h in record { sheet = f.sheet; ready = f.ready }

-- ---- the four ways of the call

module _ (b : Bytes) (S : Setting) (w w' : List ℕ) (o : Bytes) where
  pub refused-answers : (k p : ℕ) → call b S (length w) (length o) ≡ refusal k p → w' ≡ replicate (length w) 0 → Answered b S (lent w w') (lent o o) (Err (refusal_with k p))
  unfolding output_after words_after
  refused-answers k p c z = record { result = sym (ap outcome c); output = sym (ap (λ x. output_after x o) c); work = z }

  module _ (e : enough_memory S (length w) ≡ true) (l : leb (length b) 4096 ≡ true) where
    unread-of : (x : Read Sheet) (k p : ℕ) → Err (refusal_with k p) ≡ reading_of x → x ≡ refused k p
    unread-of (refused k' p') k p h =
        let (a, b) = same-refusal h in
        rw (a, b) refl
    unread-of (found s r) k p h = contradiction cc

    pub unread-answers : (k p : ℕ) → Err (refusal_with k p) ≡ reading_of (read b) → w' ≡ words_of (length w) (read b) → Answered b S (lent w w') (lent o o) (Err (refusal_with k p))
    unread-answers k p t h =
        let is = unread-of (read b) k p t in
        refused-answers k p (reads b S (length w) (length o) e l ∙ ap (after_reading S (length o)) is) (h ∙ ap (words_of (length w)) is)

    pub walk-answers : (v v' : Words) (o' : Bytes) (d : Reading) (r : Ran) → Ok d ≡ reading_of (read b) →
        v ≡ words_of (length w) (read b) → Walked v v' o o' (task_of S d) r → w' ≡ replicate (length v') 0 → Answered b S (lent w w') (lent o o') (Ok r)
    unfolding words_after
    walk-answers v v' o' d r t h walked zero =
        let (limit, size) = memory-of S.path (length w) e in
        let f = found_of b S (length w) limit size v d (read b) refl t h in
        let c = reads b S (length w) (length o) e l ∙ ap (after_reading S (length o)) f.is in
        record {
          result = walked.result f.sheet f.ready ∙ sym (ap outcome c);
          output = walked.output f.sheet f.ready ∙ sym (ap (λ x. output_after x o) c);
          work = zero ∙ ap (λ k. replicate k 0) (walked.words ∙ f.long);
        }
