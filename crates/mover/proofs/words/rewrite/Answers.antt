-- A chunk is put and passed: a key as it stands, or the word of the next token and its mark. Assumes nothing.
use Prim.Native.Nat.{ℕ, ◌+◌, ◌≤◌}
use native.Mathlib.Omega.{arith}
use mathlib.Core.Path.{◌≡◌, refl, sym, ◌∙◌}
use mathlib.Core.List.{◌++◌}
use lib.ListN.{drop}
use Rattle.specification.specs.Moves.{longest_sheet}
use Rattle.mover.specs.Model.{chunks, until_after, word_piece, rewritten}
use Rattle.mover.specs.Steps.{kept}
use Rattle.mover.proofs.Laws.Chunks.{part, ChunkAt, chunk-places, chunk-some, key-at, key_more, word_more, rewritten-none}
use Rattle.mover.proofs.Laws.Due.{due-all, due-next, due-room, due_none}
use Rattle.mover.proofs.words.rewrite.Goals as goal
use Rattle.mover.proofs.words.rewrite.Goals.{After-either_at, Else-either_at, Then-either_at}

-- ---- a chunk

at : (c : After-either_at) → ChunkAt c.args.s.now c.loop-i.i c.run_end-e.result c.mark_end-next.result
at c = record { inside = c.loop-i-test.true; word = c.run_end-e.ensures; mark = c.mark_end-next.ensures }

-- its token is one that tables are asked of
few : (c : After-either_at) → c.loop-i.token ≤ longest_sheet
few c = omega (arith, c.loop-i.invariant.inside, c.loop-i.invariant.few, c.requires.1)

key : (c : Then-either_at) →
    let a = c.args in
    let l = c.loop-i in
    let n = c.mark_end-next.result in
    ChunkAt a.s.now l.i c.run_end-e.result n →
    rewritten a.w.now a.newer l.token l.until (chunks (drop l.i a.s.now))
    ≡ part l.i n a.s.now ++ rewritten a.w.now a.newer l.token l.until (chunks (drop n a.s.now))
key c k =
    let a = c.args in
    let l = c.loop-i in
    key_more k a.w.now a.newer l.token l.until (key-at k ∙ sym c.either_at.ensures ∙ c.if-either_at.true)

word : (c : Else-either_at) →
    let a = c.args in
    let l = c.loop-i in
    let e = c.run_end-e.result in
    let n = c.mark_end-next.result in
    ChunkAt a.s.now l.i e n →
    (token until : ℕ) → token ≡ l.token + 1 → until ≡ until_after a.w.now l.token l.until →
    rewritten a.w.now a.newer l.token l.until (chunks (drop l.i a.s.now))
    ≡ word_piece a.w.now a.newer l.token l.until (part l.i e a.s.now)
    ++ (kept token until (part e n a.s.now) ++ rewritten a.w.now a.newer token until (chunks (drop n a.s.now)))
word c k token until q u =
    let a = c.args in
    let l = c.loop-i in
    word_more k a.w.now a.newer l.token l.until (key-at k ∙ sym c.either_at.ensures ∙ c.if-either_at.false) token until q u

-- ---- the goals

pub loop-i-init : goal.loop-i-init
loop-i-init c =
    let a = c.args in
    record {
      inside = c.requires.0;
      due = due-all a.out.now (rewritten a.w.now a.newer 0 0 (chunks (drop a.from a.s.now)));
      few = omega arith;
    }

pub slice_bounds-text-end : goal.slice_bounds-text-end
slice_bounds-text-end c = (chunk-places (at (goal.at.slice_bounds-text-end c).After-either_at)).2

pub text-requires : goal.text-requires
text-requires c =
    let k = key (goal.at.text-requires c).Then-either_at (at (goal.at.text-requires c).After-either_at) in
    due-room c.loop-i.invariant.due _ _ k c.requires.3

pub slice_bounds-word-end : goal.slice_bounds-word-end
slice_bounds-word-end c =
    let q = chunk-places (at (goal.at.slice_bounds-word-end c).After-either_at) in omega (arith, q.1, q.2)

pub text-requires-else-either_at : goal.text-requires-else-either_at
text-requires-else-either_at c =
    let k = word (goal.at.text-requires-else-either_at c).Else-either_at (at (goal.at.text-requires-else-either_at c).After-either_at) _ _ refl refl in
    rw c.word.ensures (due-room c.loop-i.invariant.due _ _ k c.requires.3)

pub text-requires-else-either_at-2 : goal.text-requires-else-either_at-2
text-requires-else-either_at-2 c =
    let k = word (goal.at.text-requires-else-either_at-2 c).Else-either_at (at (goal.at.text-requires-else-either_at-2 c).After-either_at) _ _ refl c.until_after-until.ensures in
    let d = due-next c.loop-i.invariant.due _ _ k (rw c.word.ensures at c.text-else-either_at.ensures) in
    rw c.kept.ensures (due-room d _ _ refl c.requires.3)

pub loop-i-preserved-then-either_at : goal.loop-i-preserved-then-either_at
loop-i-preserved-then-either_at c =
    let h = at (goal.at.loop-i-preserved-then-either_at c).After-either_at in
    let k = key (goal.at.loop-i-preserved-then-either_at c).Then-either_at h in
    record {
      inside = (chunk-places h).2;
      due = due-next c.loop-i.invariant.due _ _ k c.text.ensures;
      few = omega (arith, c.loop-i.invariant.few, chunk-some h);
    }

pub loop-i-preserved : goal.loop-i-preserved
loop-i-preserved c =
    let h = at (goal.at.loop-i-preserved c).After-either_at in
    let k = word (goal.at.loop-i-preserved c).Else-either_at h _ _ refl c.until_after-until.ensures in
    let d = due-next c.loop-i.invariant.due _ _ k (rw c.word.ensures at c.text-else-either_at.ensures) in
    record {
      inside = (chunk-places h).2;
      due = due-next d _ _ refl (rw c.kept.ensures at c.text-else-either_at-2.ensures);
      few = omega (arith, c.loop-i.invariant.few, chunk-some h);
    }

pub returns : goal.returns
returns c =
    let l = c.loop-i in
    let a = c.args in
    due_none l.invariant.due (rewritten-none a.w.now a.newer a.s.now l.i l.token l.until c.loop-i-test.false)
