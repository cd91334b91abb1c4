-- One token a turn; the invariant is `Reading`. Assumes nothing.
use Prim.Native.Nat.{ℕ, ◌+◌}
use native.Mathlib.Omega.{arith}
use mathlib.Core.Path.{◌≡◌, ◌∙◌}
use lib.ListN.{length}
use Rattle.std.proofs.lemmas.Result.{err_from_is_err_and}
use Rattle.text.proofs.Laws.Run.{end-le}
use Rattle.specification.specs.Bytes.{in_token}
use Rattle.specification.specs.Formula.{Locals}
use Rattle.tables.specs.Layout.{max_locals}
use Rattle.sheet.specs.Dues.{Due}
use Rattle.sheet.specs.Turn.{empties}
use Rattle.sheet.specs.Stack.{Bits, worded, Means, Kept}
use Rattle.sheet.specs.FormulaLine.{refuses_in, begin}
use Rattle.sheet.proofs.Bits.{locals_in, bits_in}
use Rattle.sheet.proofs.Loop.{Reading, Taken, reading-start, taken-last, taken-stops, taken_next, known_start, sized-start, through-start}
use Rattle.sheet.proofs.Scan.{faulty, faultless, sized-here, May, turn-stops, may, turn-empties, turn-stands}
use Rattle.sheet.proofs.formula.scan.Goals as goal
use Rattle.sheet.proofs.formula.scan.Goals.{After-is_empty, After-push-n, At-loop-reason, In_default}

-- ---- where the formula begins, and what the loop's variables stand for, with any list for the set of locals that have a binder

reading : (c : At-loop-reason) →
    Reading (begin c.args.s.now c.args.d c.args.x.at c.args.x.tokens (locals_in c.args.x.bound max_locals)) c.begin.new.w c.loop-reason.w c.loop-reason.n c.loop-reason.count c.loop-reason.bound c.loop-reason.at c.loop-reason.word
reading c = c.loop-reason.invariant.0 (locals_in c.args.x.bound max_locals) (bits_in c.args.x.bound)

-- ---- what the token shows there, and the loop's variables behind it

may_here : (c : In_default) →
    May (worded c.get-due.result) c.spelt-t.result c.loop-reason.n c.loop-reason.count
may_here c =
    may (c.loop-reason.invariant.0 (locals_in c.args.x.bound max_locals) (bits_in c.args.x.bound)) c.requires.1 c.loop-reason.invariant.1
    _ c.run_end-e.ensures _ c.get-due.ensures _ c.spelt-t.ensures _ c.refusal-fault.ensures (faultless c.in_default.is)

-- whether it makes a range empty
tells-here : (c : After-is_empty) → (d : Due) (p : ℕ) → Means (worded c.get-due.result) d → Kept c.loop-reason.w c.loop-reason.count p d →
    c.is_empty.result ≡ empties (refuses_in c.args.d) d c.spelt-t.result
tells-here c = rw c.refuses-refusing.ensures at c.is_empty.ensures

taken_here : (c : After-push-n) (B : Locals) → Bits c.args.x.bound B →
    Taken (begin c.args.s.now c.args.d c.args.x.at c.args.x.tokens B) c.begin.new.w c.push-n.new.w c.push-n.result
    (c.loop-reason.count + 1)
    c.bound_after-bound.result
    c.run_end-e.result
    c.word_after-word.result
taken_here c B b =
    turn-stands (c.loop-reason.invariant.0 B b) c.requires.1 c.loop-reason.invariant.1
    _ c.run_end-e.ensures _ c.get-due.ensures _ c.spelt-t.ensures _ c.refusal-fault.ensures (faultless c.in_default.is)
    _ (λ d p m h. rw c.refuses-refusing.ensures at c.is_empty.ensures d p m h) c.if-is_empty.false
    _ _ _ _ _ c.set_token.ensures c.push-n.ensures
    c.bound_after-bound.ensures
    c.word_after-word.ensures

taken-some : (c : After-push-n) →
    Taken (begin c.args.s.now c.args.d c.args.x.at c.args.x.tokens (locals_in c.args.x.bound max_locals)) c.begin.new.w c.push-n.new.w
    c.push-n.result (c.loop-reason.count + 1)
    c.bound_after-bound.result
    c.run_end-e.result
    c.word_after-word.result
taken-some c = taken_here c (locals_in c.args.x.bound max_locals) (bits_in c.args.x.bound)

-- the words are as many as before
long-here : (c : After-push-n) → length c.push-n.new.w ≡ length c.args.w.now
long-here c = (taken-some c).long ∙ c.begin.auto.w

-- ---- the goals

pub loop-reason-init : goal.loop-reason-init
loop-reason-init c = (
  λ B b. rw c.begin.ensures (reading-start (begin c.args.s.now c.args.d c.args.x.at c.args.x.tokens B) c.args.w.now
      c.args.x.bound b c.requires.0 c.requires.3 c.requires.2),
  omega (arith, c.begin.auto.w, c.requires.2),
  sized-start c.args.w.now _ c.begin.ensures c.requires.1 c.requires.4,
)

pub overflow_sub-n : goal.overflow_sub-n
overflow_sub-n c = omega (arith, (reading (goal.at.overflow_sub-n c).At-loop-reason).depth)

pub get-due-requires : goal.get-due-requires
get-due-requires c =
    let i = reading (goal.at.get-due-requires c).At-loop-reason in
    (omega (arith, i.depth, i.low), omega (arith, i.long, c.loop-reason.invariant.1))

pub slice_bounds-spelt-end : goal.slice_bounds-spelt-end
slice_bounds-spelt-end c =
    end-le in_token c.args.s.now c.loop-reason.at _ c.run_end-e.ensures (reading (goal.at.slice_bounds-spelt-end c).At-loop-reason).within

pub spelt-t-requires : goal.spelt-t-requires
spelt-t-requires c =
    let small = c.requires.1 in
    (small, sized-here (reading (goal.at.spelt-t-requires c).At-loop-reason) small c.loop-reason.invariant.2, omega (arith, (reading (goal.at.spelt-t-requires c).At-loop-reason).long, c.loop-reason.invariant.1))

pub returns-in-Some : goal.returns-in-Some
returns-in-Some c =
    rw c.new.ensures (λ B b. (
      (reading (goal.at.returns-in-Some c).At-loop-reason).long ∙ c.begin.auto.w,
      λ D g. rw (faulty c.in-Some.is).0 at (turn-stops (c.loop-reason.invariant.0 B b) c.requires.1 c.loop-reason.invariant.1
          _ c.run_end-e.ensures _ c.get-due.ensures _ c.spelt-t.ensures _ c.refusal-fault.ensures (faulty c.in-Some.is).1 D
          (known_start c.args.w.now _ c.begin.ensures g)),
    ))

pub is_empty-requires : goal.is_empty-requires
is_empty-requires c =
    let m = may_here (goal.at.is_empty-requires c).In_default in
    (omega (arith, m.number), omega (arith, (reading (goal.at.is_empty-requires c).At-loop-reason).long, c.loop-reason.invariant.1), m.before)

pub returns-then-is_empty : goal.returns-then-is_empty
returns-then-is_empty c =
    rw c.new-then-is_empty.ensures (λ B b. (
      (reading (goal.at.returns-then-is_empty c).At-loop-reason).long ∙ c.begin.auto.w,
      λ D g. turn-empties (c.loop-reason.invariant.0 B b) c.requires.1 c.loop-reason.invariant.1
          _ c.run_end-e.ensures _ c.get-due.ensures _ c.spelt-t.ensures _ c.refusal-fault.ensures (faultless c.in_default.is)
          _ (tells-here (goal.at.returns-then-is_empty c).After-is_empty) c.if-is_empty.true D (known_start c.args.w.now _ c.begin.ensures g),
    ))

pub set_token-requires : goal.set_token-requires
set_token-requires c =
    omega (arith, (may_here (goal.at.set_token-requires c).In_default).number, (reading (goal.at.set_token-requires c).At-loop-reason).long, c.loop-reason.invariant.1)

pub overflow_add-count : goal.overflow_add-count
overflow_add-count c = omega (arith, (may_here (goal.at.overflow_add-count c).In_default).number)

pub bound_after-bound-requires : goal.bound_after-bound-requires
bound_after-bound-requires c = (may_here (goal.at.bound_after-bound-requires c).In_default).index

pub overflow_sub-n-in-loop-reason : goal.overflow_sub-n-in-loop-reason
overflow_sub-n-in-loop-reason c = omega (arith, (reading (goal.at.overflow_sub-n-in-loop-reason c).At-loop-reason).depth)

pub push-n-requires : goal.push-n-requires
push-n-requires c =
    let m = may_here (goal.at.push-n-requires c).In_default in
    (m.low, omega (arith, c.set_token.auto.w, (reading (goal.at.push-n-requires c).At-loop-reason).long, c.loop-reason.invariant.1), m.room, m.index, m.operands, m.coded)

pub returns-then-n-eq0 : goal.returns-then-n-eq0
returns-then-n-eq0 c =
    λ B b. through-start c.begin.ensures c.requires.2 (taken-last (taken_here (goal.at.returns-then-n-eq0 c).After-push-n B b) c.if-n-eq0.true)

pub loop-reason-smaller : goal.loop-reason-smaller
loop-reason-smaller c = omega (arith, (may_here (goal.at.loop-reason-smaller c).In_default).number)

pub returns-in_err-at : goal.returns-in_err-at
returns-in_err-at c =
    let p = err_from_is_err_and c.from_residual.result c.from_residual.ensures.1 in
    rw (p.1, p.2) (λ B b. (
      long-here (goal.at.returns-in_err-at c).After-push-n,
      λ D g. taken-stops (taken_here (goal.at.returns-in_err-at c).After-push-n B b) c.if-n-eq0.false c.in_err-at.ensures.reading D
          (known_start c.args.w.now _ c.begin.ensures g),
    ))

pub loop-reason-preserved : goal.loop-reason-preserved
loop-reason-preserved c = (
  λ B b. taken_next (taken_here (goal.at.loop-reason-preserved c).After-push-n B b) c.if-n-eq0.false c.in_ok-at.ensures.reading c.in_ok-at.ensures.within,
  c.loop-reason.invariant.1,
  c.loop-reason.invariant.2,
)
