-- Status and control are changed in the bits that have a name and in no other: the other bits stay what they were through every history, and a
-- byte stays a byte. Assumes nothing.
use Rattle.std.proofs.Common.{◌≡◌, ℕ, ◌<◌, ◌≤◌, Bool, true, false, [], ◌∷◌, refl, ◌∙◌, arith, ne_eqb}
use Rattle.specification.specs.Bytes.{Bytes, pick}
use Rattle.plotter.specs.declared.Port.{Port}
use Rattle.plotter.specs.declared.Event.{Event}
use Rattle.plotter.specs.declared.Event.TheVariants.{ReadyAgain, OutOfPaper, PaperIn, InterruptsOn, InterruptsOff}
use Rattle.plotter.specs.Port.{bit, is_set, put, ready, paper_out, pending, interrupts, attempt, step, takes, acknowledged, send, occur}
use Rattle.plotter.specs.History.{Action, a_step, event, History, action, then, play}
use Rattle.plotter.proofs.Laws.Bits.{bit-put, put-below}
use Rattle.plotter.proofs.Laws.Histories.{every}

-- ---- a register that is changed up to a bit

-- r' is r with some of its bits up to bit n put
data Changed (n r : ℕ) : ℕ → Type 0 where
  same : Changed n r r
  puts : {r' : ℕ} (k d : ℕ) → k ≤ n → d < 2 → Changed n r r' → Changed n r (put k d r')

changed-twice : {n r r' r'' : ℕ} → Changed n r r' → Changed n r' r'' → Changed n r r''
changed-twice c same = c
changed-twice c (puts k d h e c') = puts k d h e (changed-twice c c')

bits_above : {n r r' : ℕ} (j : ℕ) → n < j → Changed n r r' → bit j r' ≡ bit j r
bits_above j h same = refl
bits_above j h (puts {r'} k d g e c) = bit-put j k d r' e ∙ rw (ne_eqb j k (λ q. omega arith)) (bits_above j h c)

still-byte : {n r r' : ℕ} → n < 8 → r < 256 → Changed n r r' → r' < 256
still-byte h b same = b
still-byte h b (puts {r'} k d g e c) = put-below 8 k d r' (omega arith) e (still-byte h b c)

-- ---- status

acknowledged-changes : (p : Port) → Changed pending p.status (acknowledged p).status
unfolding acknowledged
acknowledged-changes p = puts pending 0 (omega arith) (omega arith) same

attempt-changes : (t : Bool) (p : Port) (u : Bytes) → Changed pending p.status (attempt t p u).port.status
unfolding attempt send
attempt-changes false p u = acknowledged-changes p
attempt-changes true p [] = acknowledged-changes p
attempt-changes true p (b ∷ bs) = puts ready 0 (omega arith) (omega arith) (acknowledged-changes p)

occur-changes : (e : Event) (p : Port) → Changed pending p.status (occur e p).status
unfolding occur
occur-changes ReadyAgain p = by (is_set interrupts p.control) (puts ready 1 (omega arith) (omega arith) same)
  where
    by : {s s' : ℕ} (t : Bool) → Changed pending s s' → Changed pending s (pick t (put pending 1 s') s')
    by true c = puts pending 1 (omega arith) (omega arith) c
    by false c = c
occur-changes OutOfPaper p = puts paper_out 1 (omega arith) (omega arith) same
occur-changes PaperIn p = puts paper_out 0 (omega arith) (omega arith) same
occur-changes InterruptsOn p = same
occur-changes InterruptsOff p = same

action-changes : (x : Action) (p : Port) (u : Bytes) → Changed pending p.status (action x p u).port.status
unfolding action step
action-changes a_step p u = attempt-changes (takes p) p u
action-changes (event e) p u = occur-changes e p

status-changes : (h : History) (p : Port) (u : Bytes) → Changed pending p.status (play h p u).port.status
unfolding then
status-changes =
    every (λ p u a. Changed pending p.status a.port.status) (λ p u. same) (λ p u a b x y. changed-twice x y) action-changes

-- status's bits from 3 on stay what they were
pub status-stays : (k : ℕ) → pending < k → (h : History) (p : Port) (u : Bytes) → bit k (play h p u).port.status ≡ bit k p.status
status-stays k above h p u = bits_above k above (status-changes h p u)

-- ---- control

attempt-control : (t : Bool) (p : Port) (u : Bytes) → Changed interrupts p.control (attempt t p u).port.control
unfolding attempt send acknowledged
attempt-control false p u = same
attempt-control true p [] = same
attempt-control true p (b ∷ bs) = same

action-control : (x : Action) (p : Port) (u : Bytes) → Changed interrupts p.control (action x p u).port.control
unfolding action step occur
action-control a_step p u = attempt-control (takes p) p u
action-control (event ReadyAgain) p u = same
action-control (event OutOfPaper) p u = same
action-control (event PaperIn) p u = same
action-control (event InterruptsOn) p u = puts interrupts 1 (omega arith) (omega arith) same
action-control (event InterruptsOff) p u = puts interrupts 0 (omega arith) (omega arith) same

control-changes : (h : History) (p : Port) (u : Bytes) → Changed interrupts p.control (play h p u).port.control
unfolding then
control-changes =
    every (λ p u a. Changed interrupts p.control a.port.control) (λ p u. same) (λ p u a b x y. changed-twice x y) action-control

-- control's bits from 1 on stay what they were
pub control-stays : (k : ℕ) → interrupts < k → (h : History) (p : Port) (u : Bytes) → bit k (play h p u).port.control ≡ bit k p.control
control-stays k above h p u = bits_above k above (control-changes h p u)

-- ---- bytes

pub status-byte : (h : History) (p : Port) (u : Bytes) → p.status < 256 → (play h p u).port.status < 256
status-byte h p u b = still-byte (omega arith) b (status-changes h p u)

pub control-byte : (h : History) (p : Port) (u : Bytes) → p.control < 256 → (play h p u).port.control < 256
control-byte h p u b = still-byte (omega arith) b (control-changes h p u)
