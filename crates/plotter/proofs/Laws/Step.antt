-- The cases of a step: nothing is left, the plotter takes no byte, a byte goes. Assumes nothing.
use Rattle.std.proofs.Common.{◌≡◌, ◌<◌, Bool, true, false, [], ◌∷◌, length, get_or, drop, refl, arith}
use Rattle.specification.specs.Bytes.{Bytes}
use Rattle.plotter.specs.declared.Port.{Port}
use Rattle.plotter.specs.declared.Stepped.{Stepped}
use Rattle.plotter.specs.Port.{After, Steps, idle, attempt, step, takes, acknowledged, send}

pub step-empty : (p : Port) (u : Bytes) → length u ≡ 0 → step p u ≡ idle p u
unfolding step attempt
step-empty p u e = by (takes p) u e
  where
    by : (t : Bool) (u : Bytes) → length u ≡ 0 → attempt t p u ≡ idle p u
    by false u e = refl
    by true [] e = refl
    by true (b ∷ bs) e = absurd (omega arith)

-- no step sends while ready is clear or paper is out
pub step-idle : (p : Port) (u : Bytes) → takes p ≡ false → step p u ≡ idle p u
unfolding step attempt
step-idle p u e = rw e

-- one that finds ready set and paper in sends the next byte
pub step-sends :
    (p : Port) (u : Bytes) → takes p ≡ true → 0 < length u →
    step p u ≡ record { port = send (get_or u 0 0) (acknowledged p); sent = get_or u 0 0 ∷ []; unsent = drop 1 u }
unfolding step attempt
step-sends p [] e h = absurd (omega arith)
step-sends p (b ∷ bs) e h = rw e

-- the code's answer, from the case
pub steps_of :
    (p : Port) (u : Bytes) (a : After) (r : Stepped) → step p u ≡ a →
    r.port ≡ a.port → r.sent ≡ length a.sent → drop (length a.sent) u ≡ a.unsent → Steps p u r
steps_of p u a r e port sent left = record { port = rw e port; sent = rw e sent; left = rw (e, sent) left }
