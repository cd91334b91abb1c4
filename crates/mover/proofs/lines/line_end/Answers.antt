-- By whether a line feed comes. Assumes nothing.
use Prim.Native.Nat.{◌-◌}
use native.Mathlib.Omega.{arith}
use mathlib.Core.Path.{◌≡◌}
use lib.ListN.{length, take, drop, length-drop}
use lib.Seq.{take_all}
use Rattle.mover.proofs.Laws.Lines.{line-found, line-unfound}
use Rattle.mover.proofs.lines.line_end.Goals as goal
use Rattle.mover.proofs.lines.line_end.Goals.{Start}

-- the bytes that are looked at
tail : (c : Start) →
    let a = c.args in
    let t = drop a.from a.s.now in
    take (length a.s.now - a.from) t ≡ t
tail c =
    let a = c.args in
    take_all (length a.s.now - a.from) (drop a.from a.s.now) (omega (arith, length-drop a.from a.s.now))

pub returns-in-Some : goal.returns-in-Some
returns-in-Some c =
    let a = c.args in
    omega (arith, line-found (drop a.from a.s.now) c.in-Some.n (rw (tail (goal.at.returns-in-Some c).Start) at c.in-Some.ensures))

pub returns-in-None : goal.returns-in-None
returns-in-None c =
    let a = c.args in
    omega (arith, line-unfound (drop a.from a.s.now) (rw (tail (goal.at.returns-in-None c).Start) at c.in-None.ensures), length-drop a.from a.s.now)
