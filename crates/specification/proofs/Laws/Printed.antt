-- What the box reads of its input decides what it prints: a longer input is refused either way. Assumes nothing.
use Prim.Native.Nat.{◌<◌}
use native.Mathlib.Omega.{arith}
use mathlib.Core.Path.{◌≡◌, refl, sym, ◌∙◌, ap}
use mathlib.Core.Bool.{Bool, true, false}
use lib.ListN.{length, take}
use lib.Seq.{take_all, take-take, length-take-le}
use lib.Dec.{leb}
use borrow.Author.Tests.{leb-true, leb-false, lt-leb}
use Rattle.specification.specs.Bytes.{Bytes}
use Rattle.specification.specs.Outcome.{refusal, call_with, call}
use Rattle.specification.specs.Printed.{printed, box_setting, box_words, box_output, box_input, box}

too_long : (b : Bytes) → 4096 < length b → call b box_setting box_words box_output ≡ refusal 2 4096
unfolding call_with
too_long b h = rw (lt-leb (length b) 4096 h) refl

pub box-whole : (input : Bytes) → box input ≡ printed (call input box_setting box_words box_output)
unfolding box
box-whole input = ap printed (go (leb (length input) 4096) refl)
  where
    go : (t : Bool) → leb (length input) 4096 ≡ t → call (take box_input input) box_setting box_words box_output ≡ call input box_setting box_words box_output
    go true e = ap (λ b. call b box_setting box_words box_output) (take_all box_input input (omega (arith, leb-true (length input) 4096 e)))
    go false e =
        let h : 4096 < length input = leb-false (length input) 4096 e in
        too_long (take box_input input) (omega (arith, length-take-le box_input input (omega arith))) ∙ sym (too_long input h)

pub box_read : (input : Bytes) → box (take box_input input) ≡ box input
unfolding box
box_read input = rw (take-take box_input box_input input (omega arith))
