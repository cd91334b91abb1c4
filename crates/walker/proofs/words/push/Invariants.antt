-- `words::push` meets its contract. The invariant: which words are there.
use Prim.Native.Nat.{ℕ, ◌+◌, ◌<◌}
use mathlib.Core.Path.{◌≡◌}
use lib.ListN.{length, get_or}
use Rattle.walker.proofs.words.push.Given as goal

abbrev pub invariant-loop-i : goal.invariant-loop-i
invariant-loop-i g l = record {
  low : (j : ℕ) → j < l.top → get_or l.w j 0 ≡ get_or l.initial.w j 0;
  words : (k : ℕ) → k < l.i → get_or l.w (l.top + k) 0 ≡ get_or l.words k 0;
  size : length l.w ≡ length l.initial.w;
}
