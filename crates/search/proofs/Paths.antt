-- The path as a whole: its tables and its store are kept where their words are, and it gains, changes or loses its topmost frame. Assumes nothing.
use Prim.Native.Nat.{ℕ, ◌+◌, ◌*◌, ◌≤◌, ◌<◌}
use native.Mathlib.Omega.{arith}
use mathlib.Core.Path.{◌≡◌, refl, ◌∙◌, subst}
use mathlib.Core.List.{List, [], ◌∷◌}
use lib.ListN.{get_or}
use Rattle.specification.specs.Lines.{Declared}
use Rattle.specification.specs.Value.{Valuation}
use Rattle.specification.specs.WellFormed.{Valid}
use Rattle.tables.specs.Layout.{first_slot, proc_slot, node_slot, max_parameters}
use Rattle.tables.specs.Ranges.{range_slot}
use Rattle.tables.proofs.Laws.Ranges.{SameRanges}
use Rattle.sheet.specs.Tables.{Words}
use Rattle.sheet.specs.Held.{Holds}
use Rattle.sheet.proofs.Ranged.{ranges-keep}
use Rattle.search.specs.Marks.{marks_in, Marks}
use Rattle.tables.specs.Frames.{frame_slot, argument_slot}
use Rattle.tables.specs.Layout.{lasts_at}
use Rattle.search.specs.Kept.{Kept, SameStore}
use Rattle.search.specs.Store.{Call, Store}
use Rattle.search.specs.Frame.{Frame, pass, other, bound, began, given, range, asks, called, here, below, len, size_of, top_of, site_in, store_in}
use Rattle.search.specs.Records.{RecordAt, Stack}
use Rattle.search.specs.Path.{World, Framed, Stored, Tables, Path}
use Rattle.search.proofs.RecordsKept.{stack-keep}

-- ---- tables

ranges-kept : {w w' : Words} {top : ℕ} → Kept top w w' → SameRanges w w'
ranges-kept k = record {
  lowest = λ j h. k.firsts (range_slot j) (omega arith) (omega arith);
  highest = λ j h. k.firsts (range_slot j + 1) (omega arith) (omega arith);
}

pub tables-keep : {c : World} {w w' : Words} {top : ℕ} → Kept top w w' → Tables c w → Tables c w'
tables-keep k t = record {
  size = rw k.size t.size;
  limit = t.limit;
  tokens = λ j a. k.tokens j a ∙ t.tokens j a;
  arrays = λ a b. k.firsts (first_slot a) (omega arith) (omega arith) ∙ t.arrays a b;
  ranges = ranges-keep (ranges-kept k) t.ranges;
  cells = t.cells;
  few = t.few;
  leaves = record {
    end = k.leaves _ (omega arith) (omega arith) ∙ t.leaves.end;
    failure = k.leaves _ (omega arith) (omega arith) ∙ t.leaves.failure;
    success = k.leaves _ (omega arith) (omega arith) ∙ t.leaves.success;
    error = k.leaves _ (omega arith) (omega arith) ∙ t.leaves.error;
    rise = k.leaves _ (omega arith) (omega arith) ∙ t.leaves.rise;
    returns = λ K h. k.returns K h ∙ t.leaves.returns K h;
  };
  procedures = record {
    none = t.procedures.none;
    few = t.procedures.few;
    ok = t.procedures.ok;
    bodies = t.procedures.bodies;
    same = λ K h. k.firsts (proc_slot K) (omega arith) (omega arith) ∙ t.procedures.same K h;
  };
}

-- ---- the store

-- the words of procedure K's frame, but the first, are the same
pub record SameFrame (K : ℕ) (w w' : Words) : Type 0 where
  pub same : (j : ℕ) → 0 < j → j < 20 → get_or w' (frame_slot K + j) 0 ≡ get_or w (frame_slot K + j) 0

pub framed-keep : {c : World} {w w' : Words} (C : Call) → SameFrame C.level.number w w' → Framed c w C → Framed c w' C
framed-keep {c} {w} {w'} C s f =
    let K = C.level.number in
    let few = f.calls.arguments.few in
    let count = f.calls.count in
    let tags = s.same 3 (omega arith) (omega arith) in
    record {
      calls = f.calls;
      plain = f.plain;
      back = s.same 1 (omega arith) (omega arith) ∙ f.back;
      token = s.same 2 (omega arith) (omega arith) ∙ f.token;
      results = λ n h. rw (tags, second n (omega arith)) (f.results n h);
      flags = λ n h. first n (omega arith) ∙ rw tags (f.flags n h);
    }
  where
    -- the words of an argument's slot
    first : (n : ℕ) → n < max_parameters → get_or w' (argument_slot C.level.number n) 0 ≡ get_or w (argument_slot C.level.number n) 0
    first n h = let e : frame_slot C.level.number + (4 + 2 * n) ≡ argument_slot C.level.number n = omega arith in rw e at (s.same (4 + 2 * n) (omega arith) (omega arith))

    second : (n : ℕ) → n < max_parameters → get_or w' (argument_slot C.level.number n + 1) 0 ≡ get_or w (argument_slot C.level.number n + 1) 0
    second n h =
        let e : frame_slot C.level.number + (5 + 2 * n) ≡ argument_slot C.level.number n + 1 = omega arith in rw e at (s.same (5 + 2 * n) (omega arith) (omega arith))

pub stored-keep : {c : World} {w w' : Words} {σ : Store} → SameStore w w' → Stored c w σ → Stored c w' σ
stored-keep s q = record {
  lasts = λ l h. s.same (lasts_at + l) (omega arith) (omega arith) ∙ q.lasts l h;
  calls = λ K C e.
      let f = q.calls K C e in
      (f.0, f.1, framed-keep C (record { same = λ j a b. s.same _ (omega arith) (omega (arith, f.0, f.1)) }) f.2);
}

-- ---- the path

-- a record is no longer than the words of a node
size_few : (D : Declared) (t w : Words) (a : ℕ) (f : Frame) (fr : List Frame) → RecordAt D t w a (site_in fr) (store_in fr) f → size_of f ≤ 12
size_few D t w a (pass α) fr q = omega arith
size_few D t w a (other E G is α) fr q = omega arith
size_few D t w a (bound l s α) fr q = omega arith
size_few D t w a (began l v h α) fr q = omega arith
size_few D t w a (given p v α) fr q = omega arith
size_few D t w a (range l x i n E F is α) fr q = omega arith
size_few D t w a (asks tok q is α e) fr r = omega arith
size_few D t w a (called C α) fr q = omega (arith, q.few)

pub top-few : (D : Declared) (t w : Words) (fr : List Frame) → Stack D t w fr → top_of fr ≤ node_slot (len fr)
top-few D t w [] q = omega arith
top-few D t w (f ∷ fr) q = omega (arith, size_few D t w (top_of fr) f fr q.0, top-few D t w fr q.1)

module _ {c : World} {w w' : Words} {top : ℕ} {α : Valuation} {fr : List Frame} (P : Path c w top α fr) where
  -- a frame more
  pub path-onto : (f : Frame) {top' : ℕ} → top' ≡ top + size_of f → len fr < c.setting.path → Kept top w w' → here f ≡ α →
      RecordAt c.declared c.tables w' top (site_in fr) (store_in fr) f → Holds w' (below f) →
      Marks w' (below f) (marks_in c.declared (site_in (f ∷ fr)).marks) → Stored c w' (store_in (f ∷ fr)) → Valid c.declared (below f) →
      Path c w' top' (below f) (f ∷ fr)
  path-onto f z room k e q h m s v =
      let ends = P.ends in
      record {
        tables = tables-keep k P.tables;
        ends = omega arith;
        inside = omega arith;
        stack = (
          subst (λ a. RecordAt c.declared c.tables w' a (site_in fr) (store_in fr) f) ends q,
          stack-keep c.declared c.tables w w' fr (λ j a b. k.records j a (omega arith)) P.stack,
        );
        chain = (refl, rw e P.valid, rw e P.chain);
        holds = h;
        marks = m;
        stored = s;
        valid = v;
      }

  -- the same frames
  pub path-kept : Kept top w w' → Holds w' α → Marks w' α (marks_in c.declared (site_in fr).marks) → Stored c w' (store_in fr) → Path c w' top α fr
  path-kept k h m s =
      let ends = P.ends in
      record {
        tables = tables-keep k P.tables;
        ends = P.ends;
        inside = P.inside;
        stack = stack-keep c.declared c.tables w w' fr (λ j a b. k.records j a (omega arith)) P.stack;
        chain = P.chain;
        holds = h;
        marks = m;
        stored = s;
        valid = P.valid;
      }

module _ {c : World} {w w' : Words} {top : ℕ} {α : Valuation} {f : Frame} {fr : List Frame} (P : Path c w top α (f ∷ fr)) (k : Kept (top_of fr) w w') where
  under-stack : Stack c.declared c.tables w' fr
  under-stack = stack-keep c.declared c.tables w w' fr k.records P.stack.1

  -- another frame on top
  pub path-top : (g : Frame) {end : ℕ} → end ≡ top_of (g ∷ fr) → here g ≡ here f → RecordAt c.declared c.tables w' (top_of fr) (site_in fr) (store_in fr) g →
      Holds w' (below g) → Marks w' (below g) (marks_in c.declared (site_in (g ∷ fr)).marks) → Stored c w' (store_in (g ∷ fr)) → Valid c.declared (below g) →
      Path c w' end (below g) (g ∷ fr)
  path-top g z e q h m s v = record {
    tables = tables-keep k P.tables;
    ends = z;
    inside = P.inside;
    stack = (q, under-stack);
    chain = (refl, rw e P.chain.1, rw e P.chain.2);
    holds = h;
    marks = m;
    stored = s;
    valid = v;
  }

  -- the topmost frame is left
  pub path-pop : Holds w' (here f) → Marks w' (here f) (marks_in c.declared (site_in fr).marks) → Stored c w' (store_in fr) →
      Path c w' (top_of fr) (here f) fr
  path-pop h m s = record {
    tables = tables-keep k P.tables;
    ends = refl;
    inside = omega (arith, P.inside);
    stack = under-stack;
    chain = P.chain.2;
    holds = h;
    marks = m;
    stored = s;
    valid = P.chain.1;
  }
