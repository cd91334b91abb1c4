-- Histories of the port: any list of steps and events, each step taking what the last left. What holds of all of them is under
-- proofs/Laws. Assumes nothing.
use Rattle.std.specs.Prelude.{ℕ, ◌+◌, List, [], ◌∷◌, ◌++◌}
use Rattle.specification.specs.Bytes.{Bytes, pick}
use Rattle.plotter.specs.declared.Port.{Port}
use Rattle.plotter.specs.declared.Event.{Event}
use Rattle.plotter.specs.Port.{After, step, occur, takes}

pub data Action : Type 0 where
  a_step : Action
  event : Event → Action

abbrev pub History : Type 0
History = List Action

-- what one action leaves; an event sends nothing
unfoldable pub action : Action → Port → Bytes → After
action a_step p u = step p u
action (event e) p u = record { port = occur e p; sent = []; unsent = u }

-- one after the other: what the last leaves, with the bytes that both sent
unfoldable pub then : After → After → After
then a b = record { port = b.port; sent = a.sent ++ b.sent; unsent = b.unsent }

-- what a history leaves, with all the bytes that it sent
unfoldable pub play : History → Port → Bytes → After
play [] p u = record { port = p; sent = []; unsent = u }
play (x ∷ h) p u =
    let first = action x p u in
    then first (play h first.port first.unsent)

-- how many of its steps find ready set and paper in, whether or not a byte is left to send
unfoldable pub chances : History → Port → Bytes → ℕ
chances [] p u = 0
chances (a_step ∷ h) p u =
    let first = step p u in
    pick (takes p) 1 0 + chances h first.port first.unsent
chances (event e ∷ h) p u = chances h (occur e p) u

-- bytes added together
unfoldable pub total : Bytes → ℕ
total [] = 0
total (b ∷ bs) = b + total bs
