-- What the words of records say stays where these words stay; and so do the tables and the store. Assumes nothing.
use Prim.Native.Nat.{ℕ, ◌+◌, ◌≤◌, ◌<◌}
use native.Mathlib.Omega.{arith}
use mathlib.Core.Path.{◌≡◌, ◌∙◌}
use mathlib.Core.List.{List, [], ◌∷◌}
use lib.ListN.{length}
use Rattle.specification.specs.Lines.{Declared}
use Rattle.specification.specs.Place.{Place, local}
use Rattle.specification.specs.Value.{Valuation}
use Rattle.tables.specs.Layout.{path_at}
use Rattle.sheet.specs.Tables.{Words}
use Rattle.search.specs.Store.{Store}
use Rattle.search.specs.Site.{Site}
use Rattle.search.specs.Frame.{Frame, pass, other, bound, began, given, range, asks, called, size_of, top_of, site_in, store_in}
use Rattle.search.specs.Records.{at, SlotRecord, RecordAt, Stack}

-- ---- records

-- records begin where the path does
pub top-low : (fr : List Frame) → path_at ≤ top_of fr
top-low [] = omega arith
top-low (f ∷ fr) = omega (arith, top-low fr)

-- n words from the a-th on are the same
pub record SameFrom (w w' : Words) (a n : ℕ) : Type 0 where
  pub same : (j : ℕ) → j < n → at w' (a + j) ≡ at w (a + j)

same_first : {w w' : Words} {a n : ℕ} → SameFrom w w' a n → 0 < n → at w' a ≡ at w a
same_first {a = a} s h = let z : a + 0 ≡ a = omega arith in rw z at (s.same 0 h)

module _ (D : Declared) (t w w' : Words) (a : ℕ) (u : Site) (σ : Store) where
  slot-keep : (p : Place) (α : Valuation) → SameFrom w w' a 3 → SlotRecord D w a p u α → SlotRecord D w' a p u α
  slot-keep p α s q = record {
    had = q.had;
    kept = rw (same_first s (omega arith)) q.kept;
    inner = s.same 1 (omega arith) ∙ q.inner;
    slot = s.same 2 (omega arith) ∙ q.slot;
  }

  pub record-keep : (f : Frame) → SameFrom w w' a (size_of f) → RecordAt D t w a u σ f → RecordAt D t w' a u σ f
  record-keep (pass α) s q = q
  record-keep (other E G is α) s q = record {
    h = q.h;
    n = q.n;
    depth = same_first s (omega arith) ∙ q.depth;
    token = s.same 1 (omega arith) ∙ q.token;
    code = q.code;
    small = q.small;
    leads = q.leads;
    inside = q.inside;
    stands = q.stands;
    env = q.env;
    scoped = q.scoped;
    rest = q.rest;
  }
  record-keep (bound l x α) s q = slot-keep (local l) α s q
  record-keep (began l v h α) s q = record {
    h = q.h;
    kept = rw (same_first s (omega arith), s.same 1 (omega arith)) q.kept;
    last = s.same 2 (omega arith) ∙ q.last;
    token = s.same 3 (omega arith) ∙ q.token;
    code = q.code;
    small = q.small;
    bound = q.bound;
  }
  record-keep (given p v α) s q = slot-keep p α s q
  record-keep (range l x j n E F is α) s q = record {
    h = q.h;
    next = q.next;
    kept = rw (same_first s (omega arith), s.same 1 (omega arith)) q.kept;
    current = q.current;
    value = q.value;
    after = rw (s.same 2 (omega arith)) q.after;
    depth = s.same 3 (omega arith) ∙ q.depth;
    token = s.same 4 (omega arith) ∙ q.token;
    code = q.code;
    binds = q.binds;
    env = q.env;
    scoped = q.scoped;
    rest = q.rest;
  }
  record-keep (asks tok x is α e) s q = record {
    n = q.n;
    m = q.m;
    inner = same_first s (omega arith) ∙ q.inner;
    bad = s.same 1 (omega arith) ∙ q.bad;
    depth = s.same 2 (omega arith) ∙ q.depth;
    token = s.same 3 (omega arith) ∙ q.token;
    small = q.small;
    next = q.next;
    question = q.question;
    rest = q.rest;
  }
  record-keep (called C α) s q =
      let n = length C.level.arguments in
      record {
        few = q.few;
        earlier = q.earlier;
        kept = λ B e.
            let k = q.kept B e in
            record {
              number = k.number;
              calls = k.calls;
              plain = k.plain;
              count = k.count;
              results = λ j h. rw (s.same n (omega arith), s.same j (omega (arith, k.count, k.calls.count))) (k.results j h);
              back = s-at (n + 1) (omega arith) (omega arith) ∙ k.back;
              token = s-at (n + 2) (omega arith) (omega arith) ∙ k.token;
            };
        token = s-at (n + 3) (omega arith) (omega arith) ∙ q.token;
        code = q.code;
        small = q.small;
        number = q.number;
        width = q.width;
      }
    where
      s-at : (j : ℕ) {k : ℕ} → j < length C.level.arguments + 4 → k ≡ a + j → at w' k ≡ at w k
      s-at j {k} h e = rw e (s.same j h)

pub stack-keep : (D : Declared) (t w w' : Words) (fr : List Frame) → ((j : ℕ) → path_at ≤ j → j < top_of fr → at w' j ≡ at w j) → Stack D t w fr → Stack D t w' fr
stack-keep D t w w' [] s q = q
stack-keep D t w w' (f ∷ fr) s q = (
  record-keep D t w w' (top_of fr) (site_in fr) (store_in fr) f (record { same = λ j h. s (top_of fr + j) (omega (arith, top-low fr)) (omega arith) }) q.0,
  stack-keep D t w w' fr (λ j l h. s j l (omega arith)) q.1,
)
