-- A block that is due: skipped, written into the rest of the output, or without room there. Assumes nothing.
use Prim.Native.Nat.{ℕ, suc, ◌+◌, ◌-◌, ◌≤◌, ◌<◌}
use native.Mathlib.Omega.{arith}
use mathlib.Core.Path.{◌≡◌, refl, sym, ap, ◌∙◌, subst}
use mathlib.Core.Bool.{Bool, true, false}
use mathlib.Core.List.{[], ◌++◌, append-nil, append_assoc}
use lib.ListN.{length, take, drop, length-drop, length-append, drop_of_length-le}
use lib.Seq.{drop-drop, take_at, drop_at, take_all}
use lib.Dec.{eqb}
use borrow.Author.Tests.{eq-eqb, ne_eqb, lt-ltb, le-ltb, le-leb, lt-leb}
use borrow.Rule.Slice.PartMut.{put_mid, mid_of, post_of, put_same}
use Rattle.specification.specs.declared.Setting.{Setting}
use Rattle.specification.specs.declared.Tallies.{Tallies}
use Rattle.specification.proofs.Laws.Contradiction.{contradiction}
use Rattle.specification.specs.Bytes.{Bytes, pick}
use Rattle.specification.specs.Value.{Valuation}
use Rattle.specification.specs.Listing.{block_of, block_text}
use Rattle.specification.specs.Run.{tallies, add_answer, add_error, arrive, block, output, stopped}
use Rattle.tables.specs.Leaves.{success_place}
use Rattle.sheet.specs.Tables.{Words}
use Rattle.listing.specs.declared.Head.{Head}
use Rattle.std.specs.Prelude.{Option, Some, None}
use Rattle.listing.specs.Model.{head_of}
use Rattle.listing.specs.Block as blocks
use Rattle.search.specs.declared.Go.{Go}
use Rattle.search.specs.declared.Tally.TheVariants as leaves
use Rattle.search.specs.declared.Mode.TheVariants as modes
use Rattle.search.specs.Walk as walks
use Rattle.search.specs.Frame.{What, the, success, failure, error as error_what, store_in}
use Rattle.search.specs.Path.{World, conditions_of, Job}
use Rattle.search.specs.Sim.{yes, no, tree, IsLeaf, Leaf}
use Rattle.search.specs.Registers.{tallied, Tallied, leaf_go, rise_go, counted, max_word}
use Rattle.search.proofs.Gauges.{room-budget}
use Rattle.walker.specs.declared.State.{State}
use Rattle.walker.specs.declared.Task.{Task}
use Rattle.walker.specs.Loop.{rising, Going, goes}
use Rattle.walker.specs.Walks.{Goes, starts, overflows}
use Rattle.walker.specs.Blocks.{LeafDue, HeadDue, head_due, visited_leaf, passed_tallies, passed_go, full_go, Output, Fixed, BlockDue, Wrote, Blocked}
use Rattle.walker.proofs.Laws.Leaves.{visit-fits}

-- ---- the rest of the output

module _ {h o : Bytes} {n : ℕ} {b : Bytes} (p : Output h o n b) where
  pub out-size : length o ≡ length h
  out-size =
      let e : length b + (length h - n) ≡ length h = omega (arith, p.count, p.inside) in
      rw p.bytes (length-append b (drop n h) ∙ rw length-drop e)

  take-is : take n o ≡ b
  take-is = rw p.bytes (take_at b (drop n h) n (sym p.count))

  drop-is : drop n o ≡ drop n h
  drop-is = rw p.bytes (drop_at b (drop n h) n (sym p.count))

  enough : length (drop n h) ≤ length o - n
  enough = rw length-drop (omega (arith, out-size))

  mid-is : mid_of n (length o - n) o ≡ drop n h
  mid-is = rw drop-is (take_all (length o - n) (drop n h) enough)

  post-nil : post_of n (length o - n) o ≡ []
  post-nil = rw drop-is (drop_of_length-le (drop n h) enough)

  mid-size : length (mid_of n (length o - n) o) ≡ length h - n
  mid-size = rw (mid-is, length-drop) refl

  -- a text written at its start
  filled : (x : Bytes) (m : ℕ) {ys : Bytes} → m ≡ length x → m ≤ length (mid_of n (length o - n) o) → ys ≡ x ++ drop m (mid_of n (length o - n) o) →
      Output h (put_mid n (length o - n) o ys) (n + m) (b ++ x)
  filled x m {ys} e k y =
      let tail : ys ≡ x ++ drop (n + m) h = y ∙ rw mid-is (ap (λ (z : Bytes). x ++ z) (drop-drop m n h)) in
      record {
        count = rw length-append (omega (arith, p.count));
        inside = omega (arith, k, mid-size, p.inside);
        bytes = rw (take-is, post-nil, tail, append-nil (x ++ drop (n + m) h)) (sym (append_assoc b x (drop (n + m) h)));
      }

-- ---- tallies

passed-cases : (Q : Tallies → Type 0) (g : Go) → Q (add_answer (visited_leaf g)) → Q (add_error (visited_leaf g)) → Q (passed_tallies g)
unfolding passed_tallies
passed-cases Q g a b = go (eqb g.due success_place)
  where
    go : (t : Bool) → Q (pick t (add_answer (visited_leaf g)) (add_error (visited_leaf g)))
    go true = a
    go false = b

pub passed-nodes : (g : Go) → (tallied (passed_go g)).nodes ≡ suc (tallied g).nodes
passed-nodes g = let z : (passed_tallies g).nodes ≡ suc (tallied g).nodes = passed-cases (λ t. t.nodes ≡ suc (tallied g).nodes) g refl refl in omega (arith, z)

full-tallied : (g : Go) → tallied (full_go g) ≡ visited_leaf g
full-tallied g = ap (λ n. tallies n g.tallies.answers g.tallies.errors g.tallies.fails) (omega arith)

-- ---- the event is the block of its head

module _ {c : World} {b : Bytes} {w : Words} {g : Go} (l : Leaf c b w g) where
  abbrev α : Valuation
  α = l.ins.α

  abbrev text : Bytes
  text = block_text (block_of c.declared (head_of (head_due w g)) α)

  block-result : walks.onto (no c l.ins.fr l.ins.e) (block (conditions_of c) (visited_leaf g) (passed_tallies g) b text) ≡ c.result
  unfolding head_due passed_tallies arrive walks.leaf walks.within
  block-result = go l.ins.x l.leaf l.ins.job (rw l.main at l.ins.result)
    where
      go : (x : What) → IsLeaf x → Job c w (store_in l.ins.fr) α g.due x →
          walks.within (conditions_of c) false (suc g.depth) (tree c l.ins.fr x α) (yes c l.ins.fr) (no c l.ins.fr) l.ins.e (visited_leaf g) b ≡ c.result →
          walks.onto (no c l.ins.fr l.ins.e) (block (conditions_of c) (visited_leaf g) (passed_tallies g) b text) ≡ c.result
      go (the is) f j r = absurd f
      go success f j r = rw (eq-eqb g.due success_place j) r
      go failure f j r = absurd f
      go (error_what κ tok) f j r = rw (ne_eqb g.due success_place (λ z. omega (arith, j.0)), j.1, j.2) r

  -- ---- what it leads to

  passed-tallied : Tallied c (passed_go g)
  passed-tallied =
      let q = l.ins.gauge.tallies in
      let room = room-budget l.ins.gauge l.ins.room in
      record {
        fits = q.fits;
        budget = passed-cases (λ t. t.nodes ≤ c.setting.budget) g (omega arith) (omega arith);
        leaves = passed-cases (λ t. t.answers + t.errors + t.fails ≤ t.nodes) g (omega (arith, q.leaves)) (omega (arith, q.leaves));
      }

  -- it is passed, with the bytes d written
  passing : {d : Bytes} (s : State) → s.go ≡ passed_go g → no c l.ins.fr l.ins.e (passed_tallies g) d ≡ c.result → Goes c d w s
  passing {d} s e r = starts (λ z. let m : s.go.mode ≡ modes.Down = ap (λ q. q.mode) e in contradiction cc) (subst (λ q. Going c d w q) (sym e) (goes refl (rising refl (record {
    fr = l.ins.fr;
    α = α;
    e = l.ins.e;
    path = l.ins.path;
    inner = l.ins.inner;
    bad = l.ins.bad;
    counted = refl;
    tallies = passed-tallied;
    result = r;
  }))))

  skips : {h o : Bytes} (s q : State) → s.go ≡ g → Output h o s.written b → q.go ≡ passed_go g → q.written ≡ s.written →
      g.tallies.answers + g.tallies.errors < c.setting.skip → Wrote c w h o q
  unfolding block
  skips s q eg out e n k = record {
    b = b;
    out = rw n out;
    goes = passing q e (rw (lt-ltb (g.tallies.answers + g.tallies.errors) c.setting.skip k) at block-result);
  }

  -- the words show the valuation
  shows : {t : Task} {h : Bytes} → Fixed c t h → blocks.Shows w t.scalars t.arrays c.declared α
  shows f = let P = l.ins.path.tables in record {
    size = omega (arith, P.size);
    scalar_count = f.scalar_count;
    array_count = f.array_count;
    few = omega (arith, f.array_count, P.few);
    limit = P.cells;
    firsts = P.arrays;
    holds = l.ins.path.holds;
    valid = l.ins.path.valid;
  }

  module _ {h o : Bytes} {n : ℕ} (out : Output h o n b) (size : c.size ≡ length h) (s : c.setting.skip ≤ g.tallies.answers + g.tallies.errors) where
    fills : {ys : Bytes} (m : ℕ) (q : State) → q.go ≡ passed_go g → q.written ≡ n + m →
        blocks.Wrote text (mid_of n (length o - n) o) ys (Some m) → Wrote c w h (put_mid n (length o - n) o ys) q
    unfolding block
    fills m q e k z = record {
      b = b ++ text;
      out = rw k (filled out text m z.0 z.1 z.2);
      goes = passing q e (rw (
        le-ltb (g.tallies.answers + g.tallies.errors) c.setting.skip s,
        le-leb (length b + length text) c.size (omega (arith, z.0, z.1, mid-size out, out.count, out.inside, size)),
      )
          at block-result);
    }

    lacks : {ys : Bytes} (q : State) → q.go ≡ full_go g → q.written ≡ n →
        blocks.Wrote text (mid_of n (length o - n) o) ys None → Wrote c w h (put_mid n (length o - n) o ys) q
    unfolding block
    lacks q e k z = record {
      b = b;
      out = rw (k, z.1, put_same) out;
      goes = overflows (ap (λ x. x.mode) e)
          (ap (λ x. stopped output (tallied x) b) e ∙ ap (λ t. stopped output t b) (full-tallied g) ∙ rw (
            le-ltb (g.tallies.answers + g.tallies.errors) c.setting.skip s,
            lt-leb (length b + length text) c.size (omega (arith, z.0, mid-size out, out.count, out.inside, size)),
          )
          at block-result)
          (record {
            begun = rw e (omega arith);
            fits =
                let n = ap (λ x. (tallied x).nodes) e ∙ ap (λ t. t.nodes) (full-tallied g) in
                omega (arith, n, room-budget l.ins.gauge l.ins.room, l.ins.gauge.tallies.fits);
          });
    }

-- ---- the steps

-- the head and the result by their equations
pub told : {w : Words} {scalars arrays : ℕ} {h : Head} {v : Option ℕ} (o o' : Bytes) (h' : Head) (v' : Option ℕ) → h ≡ h' → v ≡ v' →
    blocks.Listed w scalars arrays h o o' v → blocks.Listed w scalars arrays h' o o' v'
told {w} {scalars} {arrays} {h} {v} o o' h' v' e f p =
    subst (λ (z : Option ℕ). blocks.Listed w scalars arrays h' o o' z) f (subst (λ (z : Head). blocks.Listed w scalars arrays z o o' v) e p)

module _ {w : Words} {o : Bytes} {s : State} {t : Task} (a : BlockDue w o s t) where
  pub leaf-due : LeafDue s.go
  leaf-due =
      let q = a.leaf.ins.gauge.tallies in
      record { visits = visit-fits a.leaf.ins; leaves = omega (arith, q.leaves, q.budget, q.fits, room-budget a.leaf.ins.gauge a.leaf.ins.room) }

  pub head-due : HeadDue w s.go
  head-due = record { leaf = leaf-due; size = omega (arith, a.leaf.ins.path.tables.size) }

  pub listing-ready : blocks.Ready w t.scalars t.arrays
  listing-ready = record { D = a.c.declared; β = a.leaf.ins.α; shows = shows a.leaf a.fixed }

  pub start-inside : s.written ≤ length o
  start-inside = omega (arith, a.out.inside, out-size a.out)

  pub blocked-skipped : {q : State} {x : Go} → x ≡ passed_go s.go → q.go ≡ x → q.written ≡ s.written →
      s.go.tallies.answers + s.go.tallies.errors < t.setting.skip → Blocked w o o s q t
  blocked-skipped {q} ex eq n h =
      let e = eq ∙ ex in
      record {
        wrote = λ c b k f out l. skips l s q refl out e n (omega (arith, h, ap (λ (z : Setting). z.skip) f.setting));
        nodes = ap (λ x. (tallied x).nodes) e ∙ passed-nodes s.go;
        size = refl;
      }

  module _ {ys : Bytes} (h : t.setting.skip ≤ s.go.tallies.answers + s.go.tallies.errors) where
    pub blocked-written : {q : State} {x : Go} (n : ℕ) → x ≡ passed_go s.go → q.go ≡ x → q.written ≡ s.written + n →
        blocks.Listed w t.scalars t.arrays (head_due w s.go) (mid_of s.written (length o - s.written) o) ys (Some n) →
        Blocked w o (put_mid s.written (length o - s.written) o ys) s q t
    blocked-written {q} n ex eq k p =
        let e = eq ∙ ex in
        record {
          wrote = λ c b held f out l. fills l out f.size (omega (arith, h, ap (λ (z : Setting). z.skip) f.setting)) n q e k (p c.declared l.ins.α (shows l f));
          nodes = ap (λ x. (tallied x).nodes) e ∙ passed-nodes s.go;
          size =
              let l = a.leaf in
              let z = p a.c.declared l.ins.α (shows l a.fixed) in
              out-size (filled a.out (text l) n z.0 z.1 z.2) ∙ sym (out-size a.out);
        }

    pub blocked-full : {q : State} {x : Go} → x ≡ full_go s.go → q.go ≡ x → q.written ≡ s.written →
        blocks.Listed w t.scalars t.arrays (head_due w s.go) (mid_of s.written (length o - s.written) o) ys None →
        Blocked w o (put_mid s.written (length o - s.written) o ys) s q t
    blocked-full {q} ex eq k p =
        let e = eq ∙ ex in
        record {
          wrote = λ c b held f out l. lacks l out f.size (omega (arith, h, ap (λ (z : Setting). z.skip) f.setting)) q e k (p c.declared l.ins.α (shows l f));
          nodes = ap (λ x. (tallied x).nodes) e ∙ ap (λ z. z.nodes) (full-tallied s.go);
          size = rw ((p a.c.declared a.leaf.ins.α (shows a.leaf a.fixed)).1, put_same) refl;
        }

-- where a block is written, its end is within the output
pub written-inside : {w : Words} {o ys : Bytes} {s : State} {t : Task} (a : BlockDue w o s t) (n : ℕ) →
    blocks.Listed w t.scalars t.arrays (head_due w s.go) (mid_of s.written (length o - s.written) o) ys (Some n) → s.written + n ≤ length o
written-inside a n p =
    let z = p a.c.declared a.leaf.ins.α (shows a.leaf a.fixed) in
    omega (arith, z.1, mid-size a.out, a.out.inside, out-size a.out)

-- ---- the registers once it is passed

-- the leaf can be counted
pub tally-fits : {g : Go} {t : Tallies} → LeafDue g → t ≡ visited_leaf g →
    (t.answers < max_word) × (t.errors < max_word) × (t.fails < max_word)
tally-fits p e = rw e (omega (arith, p.leaves), omega (arith, p.leaves), omega (arith, p.leaves))

module _ (g : Go) {q : Go} {t u : Tallies} (e : t ≡ visited_leaf g) where
  pub passed-answer : u ≡ counted t leaves.Answer → q ≡ rise_go (leaf_go g modes.Down g.bad u) → g.due ≡ success_place → q ≡ passed_go g
  unfolding passed_tallies
  passed-answer v f j = f ∙ rw (v, e, eq-eqb g.due success_place j) refl

  pub passed-error : u ≡ counted t leaves.Error → q ≡ rise_go (leaf_go g modes.Down g.bad u) → ¬ (g.due ≡ success_place) → q ≡ passed_go g
  unfolding passed_tallies
  passed-error v f j = f ∙ rw (v, e, ne_eqb g.due success_place j) refl
