-- The plotter's port for C and Rust hosts: its registers as four bytes, what a step leaves in them, and the calls of a history one after the
-- other. Assumes nothing.
use Rattle.std.specs.Prelude.{ℕ, ◌+◌, ◌≡◌, [], ◌∷◌, length, drop}
use Rattle.specification.specs.Bytes.{Bytes}
use Rattle.plotter.specs.declared.Event.{Event}
use Rattle.plotter.specs.Port.{port_of, bytes_of, step, occur}
use Rattle.plotter.specs.History.{a_step, event, History}

-- a step over four bytes, r before and r' after it, that sends so many of the unsent bytes; those behind them are left
pub record Sends (r r' unsent : Bytes) (n : ℕ) : Type 0 where
  pub registers : r' ≡ bytes_of (step (port_of r) unsent).port
  pub sent : n ≡ length (step (port_of r) unsent).sent
  pub left : drop n unsent ≡ (step (port_of r) unsent).unsent

-- the calls of a history over four bytes, r before and r' after them, which send the first n of the unsent bytes; each call finds the registers
-- that the last left, and each step is lent what the last left unsent
pub data Calls : History → Bytes → Bytes → Bytes → ℕ → Type 0 where
  none : {r u : Bytes} → Calls [] r r u 0
  stepped : {h : History} {r r' r'' u : Bytes} {n m : ℕ} → Sends r r' u n → Calls h r' r'' (drop n u) m → Calls (a_step ∷ h) r r'' u (n + m)
  occurred :
      {h : History} {r r' r'' u : Bytes} {n : ℕ} (e : Event) → r' ≡ bytes_of (occur e (port_of r)) → Calls h r' r'' u n →
      Calls (event e ∷ h) r r'' u n
