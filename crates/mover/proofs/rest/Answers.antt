-- Two pieces. Assumes nothing.
use Prim.Native.Nat.{◌+◌, ◌≤◌}
use native.Mathlib.Omega.{arith}
use mathlib.Core.Path.{◌≡◌, ap, ◌∙◌}
use mathlib.Core.List.{◌++◌}
use lib.ListN.{length, drop, length-append}
use Rattle.listing.proofs.Laws.Put.{writes-++}
use Rattle.mover.specs.Model.{chunks, rewritten, rest_text}
use Rattle.mover.proofs.Laws.Lines.{lines_length-≤, lines_length-next}
use Rattle.mover.proofs.Laws.Chunks.{part}
use Rattle.mover.proofs.Laws.Texts.{rest-pieces}
use Rattle.mover.proofs.rest.Goals as goal
use Rattle.mover.proofs.rest.Goals.{After-lines_end-e}

-- the line of given values stands in the sheet
within : (c : After-lines_end-e) →
    let e = c.lines_end-e.result in
    (c.lines_end-k.result ≤ e) × (e ≤ length c.args.s.now)
within c =
    let a = c.args in
    let k = c.lines_end-k.ensures in
    let e = c.lines_end-e.ensures in
    (omega (arith, k, e, lines_length-next a.lines a.s.now), omega (arith, e, lines_length-≤ (a.lines + 1) a.s.now))

parted : (c : After-lines_end-e) →
    let a = c.args in
    let e = c.lines_end-e.result in
    rest_text a.w.now a.newer a.lines a.s.now ≡ part c.lines_end-k.result e a.s.now ++ rewritten a.w.now a.newer 0 0 (chunks (drop e a.s.now))
parted c =
    let a = c.args in
    rest-pieces a.s.now a.w.now a.newer a.lines _ _ c.lines_end-k.ensures c.lines_end-e.ensures

-- and both pieces are as long as it
long : (c : After-lines_end-e) →
    let a = c.args in
    let e = c.lines_end-e.result in
    length (rest_text a.w.now a.newer a.lines a.s.now)
    ≡ length (part c.lines_end-k.result e a.s.now) + length (rewritten a.w.now a.newer 0 0 (chunks (drop e a.s.now)))
long c =
    let a = c.args in
    let e = c.lines_end-e.result in
    ap length (parted c) ∙ length-append (part c.lines_end-k.result e a.s.now) (rewritten a.w.now a.newer 0 0 (chunks (drop e a.s.now)))

pub slice_bounds-text-count : goal.slice_bounds-text-count
slice_bounds-text-count c = (within (goal.at.slice_bounds-text-count c).After-lines_end-e).0

pub slice_bounds-text-start : goal.slice_bounds-text-start
slice_bounds-text-start c = (within (goal.at.slice_bounds-text-start c).After-lines_end-e).0

pub slice_bounds-text-end : goal.slice_bounds-text-end
slice_bounds-text-end c = (within (goal.at.slice_bounds-text-end c).After-lines_end-e).1

pub text-requires : goal.text-requires
text-requires c = omega (arith, long (goal.at.text-requires c).After-lines_end-e, c.requires.3)

pub rewrite-requires : goal.rewrite-requires
rewrite-requires c =
    let p = c.requires in
    let h = (goal.at.rewrite-requires c).After-lines_end-e in
    ((within h).1, p.0, p.1, omega (arith, long h, p.3, c.text.ensures.put.end))

pub returns : goal.returns
returns c = rw (parted (goal.at.returns c).After-lines_end-e) (writes-++ c.text.ensures c.rewrite.ensures)
