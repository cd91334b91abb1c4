-- The registers after a history: sum, data, and that each holds a byte. Assumes nothing.
use Rattle.std.proofs.Common.{◌≡◌, ℕ, ◌+◌, ◌%◌, ◌<◌, Bool, true, false, [], ◌∷◌, ◌++◌, sym, refl, ap, ◌∙◌, arith}
use Rattle.specification.specs.Lists.{Each}
use Rattle.specification.specs.Bytes.{Bytes}
use Rattle.plotter.specs.declared.Port.{Port}
use Rattle.plotter.specs.declared.Event.{Event}
use Rattle.plotter.specs.declared.Event.TheVariants.{ReadyAgain, OutOfPaper, PaperIn, InterruptsOn, InterruptsOff}
use Rattle.plotter.specs.Port.{After, attempt, step, takes, acknowledged, send, occur}
use Rattle.plotter.specs.History.{Action, a_step, event, History, action, then, play, total}
use Rattle.plotter.proofs.Laws.Histories.{every}
use Rattle.plotter.proofs.Laws.Sent.{in_order}
use Rattle.plotter.proofs.Laws.Unnamed.{status-byte, control-byte}

-- ---- sum

total-append : (a b : Bytes) → total (a ++ b) ≡ total a + total b
unfolding total
total-append [] b = omega arith
total-append (x ∷ a) b = omega (arith, total-append a b)

-- sum is a byte and has moved on by the bytes sent
abbrev Summed : Port → After → Type 0
Summed p a = p.sum < 256 → a.port.sum ≡ (p.sum + total a.sent) % 256

attempt-sum : (t : Bool) (p : Port) (u : Bytes) → Summed p (attempt t p u)
unfolding attempt send acknowledged total
attempt-sum false p u h = omega arith
attempt-sum true p [] h = omega arith
attempt-sum true p (b ∷ bs) h = omega arith

-- an event leaves sum and data
occur-keeps : (e : Event) (p : Port) → ((occur e p).sum ≡ p.sum) × ((occur e p).«data» ≡ p.«data»)
unfolding occur
occur-keeps ReadyAgain p = (refl, refl)
occur-keeps OutOfPaper p = (refl, refl)
occur-keeps PaperIn p = (refl, refl)
occur-keeps InterruptsOn p = (refl, refl)
occur-keeps InterruptsOff p = (refl, refl)

action-sum : (x : Action) (p : Port) (u : Bytes) → Summed p (action x p u)
unfolding action step total
action-sum a_step p u h = attempt-sum (takes p) p u h
action-sum (event e) p u h = omega (arith, (occur-keeps e p).0)

-- the sum register is its first value and the bytes sent, added, modulo 256
pub sum-register : (h : History) (p : Port) (u : Bytes) → p.sum < 256 → (play h p u).port.sum ≡ (p.sum + total (play h p u).sent) % 256
unfolding then total
sum-register =
    every
    (λ p u a. Summed p a)
    (λ p u h. omega arith)
    (λ p u a b x y h. omega (arith, x h, y (omega (arith, x h)), total-append a.sent b.sent))
    action-sum

-- ---- data

-- the last byte of a list, or another where there is none
unfoldable pub last_of : ℕ → Bytes → ℕ
last_of d [] = d
last_of d (b ∷ bs) = last_of b bs

last-append : (d : ℕ) (a b : Bytes) → last_of d (a ++ b) ≡ last_of (last_of d a) b
unfolding last_of
last-append d [] b = refl
last-append d (x ∷ a) b = last-append x a b

attempt-data : (t : Bool) (p : Port) (u : Bytes) → (attempt t p u).port.«data» ≡ last_of p.«data» (attempt t p u).sent
unfolding attempt send acknowledged last_of
attempt-data false p u = refl
attempt-data true p [] = refl
attempt-data true p (b ∷ bs) = refl

action-data : (x : Action) (p : Port) (u : Bytes) → (action x p u).port.«data» ≡ last_of p.«data» (action x p u).sent
unfolding action step last_of
action-data a_step p u = attempt-data (takes p) p u
action-data (event e) p u = (occur-keeps e p).1

-- the data register holds the byte sent last, or its first value
pub data-register : (h : History) (p : Port) (u : Bytes) → (play h p u).port.«data» ≡ last_of p.«data» (play h p u).sent
unfolding then last_of
data-register =
    every
    (λ p u a. a.port.«data» ≡ last_of p.«data» a.sent)
    (λ p u. refl)
    (λ p u a b x y. y ∙ ap (λ (d : ℕ). last_of d b.sent) x ∙ sym (last-append p.«data» a.sent b.sent))
    action-data

-- ---- bytes

abbrev pub IsByte : ℕ → Type 0
IsByte b = b < 256

-- each register holds one
pub record Registers (p : Port) : Type 0 where
  pub status : IsByte p.status
  pub control : IsByte p.control
  pub «data» : IsByte p.«data»
  pub sum : IsByte p.sum

last_byte : (d : ℕ) (a b : Bytes) → IsByte d → Each IsByte (a ++ b) → IsByte (last_of d a)
unfolding last_of Each
last_byte d [] b h e = h
last_byte d (x ∷ a) b h e = last_byte x a b e.0 e.1

-- registers that hold bytes hold bytes after every history
pub registers-stay : (h : History) (p : Port) (u : Bytes) → Registers p → Each IsByte u → Registers (play h p u).port
registers-stay h p u r e =
    let a = play h p u in
    let bytes : Each IsByte (a.sent ++ a.unsent) = rw (in_order h p u) e in
    record {
      status = status-byte h p u r.status;
      control = control-byte h p u r.control;
      «data» = rw (data-register h p u) (last_byte p.«data» a.sent a.unsent r.«data» bytes);
      sum = omega (arith, sum-register h p u r.sum);
    }
