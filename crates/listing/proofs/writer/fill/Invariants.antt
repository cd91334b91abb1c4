-- `writer::fill` meets its contract: the digits that are left, put before the place, give what is due. Assumes nothing.
use Prim.Native.Nat.{◌-◌, ◌<◌}
use mathlib.Core.Path.{◌≡◌}
use lib.ListN.{length}
use lib.Seq.{sets}
use Rattle.specification.specs.Number.{printℕ}
use Rattle.listing.proofs.Laws.Digits.{last_digits}
use Rattle.listing.proofs.writer.fill.Given as goal

abbrev pub invariant-loop-place : goal.invariant-loop-place
invariant-loop-place l =
    record {
      inside : l.at < l.place;
      digits : length (printℕ l.left) ≡ l.place - l.at;
      due : sets l.memory l.at (last_digits (l.place - l.at) l.left) ≡ sets l.initial.memory l.at (printℕ l.n);
    }
