-- A chunk is put and passed: a key as it stands, or the word of the next token and its mark. Assumes nothing.
use Prim.Native.Nat.{◌-◌, ◌≤◌}
use lib.ListN.{length, drop}
use Rattle.mover.specs.Model.{chunks, rewritten}
use Rattle.mover.proofs.Laws.Due.{Due}
use Rattle.mover.proofs.words.rewrite.Given as goal

-- each token so far has a byte
abbrev pub invariant-loop-i : goal.invariant-loop-i
invariant-loop-i l =
    record {
      inside : l.i ≤ length l.s;
      due : Due l.initial.out l.out (rewritten l.w l.newer 0 0 (chunks (drop l.from l.s))) (rewritten l.w l.newer l.token l.until (chunks (drop l.i l.s)));
      few : l.token ≤ l.i;
    }

abbrev pub decreases-loop-i : goal.decreases-loop-i
decreases-loop-i l = length l.s - l.i
