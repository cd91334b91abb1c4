-- Pending: every step clears it, and it is set by the device alone, where control lets interrupts through. Assumes nothing.
use Rattle.std.proofs.Common.{◌≡◌, Bool, true, false, ◌||◌, eqb, [], ◌∷◌, ◌++◌, sym, refl, ap, ◌∙◌, arith}
use Rattle.specification.specs.Bytes.{Bytes, pick}
use Rattle.specification.proofs.Laws.Contradiction.{contradiction}
use Rattle.plotter.specs.declared.Port.{Port}
use Rattle.plotter.specs.declared.Event.TheVariants.{ReadyAgain, OutOfPaper, PaperIn, InterruptsOn, InterruptsOff}
use Rattle.plotter.specs.Port.{bit, is_set, put, ready, paper_out, pending, interrupts, After, attempt, step, takes, acknowledged, send, occur}
use Rattle.plotter.specs.History.{Action, a_step, event, History, action, then, play}
use Rattle.plotter.proofs.Laws.Bits.{bit-put}
use Rattle.plotter.proofs.Laws.Histories.{one_more}

acknowledged-clear : (p : Port) → bit pending (acknowledged p).status ≡ 0
unfolding acknowledged
acknowledged-clear p = bit-put pending pending 0 p.status (omega arith)

attempt-clears : (t : Bool) (p : Port) (u : Bytes) → bit pending (attempt t p u).port.status ≡ 0
unfolding attempt send
attempt-clears false p u = acknowledged-clear p
attempt-clears true p [] = acknowledged-clear p
attempt-clears true p (b ∷ bs) = bit-put pending ready 0 (acknowledged p).status (omega arith) ∙ acknowledged-clear p

step-clears : (p : Port) (u : Bytes) → is_set pending (step p u).port.status ≡ false
unfolding step is_set
step-clears p u = rw (attempt-clears (takes p) p u)

-- pending is clear after every step
pub pending-clear : (h : History) (p : Port) (u : Bytes) → is_set pending (play (h ++ (a_step ∷ [])) p u).port.status ≡ false
unfolding then action
pending-clear h p u = rw (one_more h a_step p u) (step-clears (play h p u).port (play h p u).unsent)

ready-pending : (p : Port) → is_set pending (occur ReadyAgain p).status ≡ (is_set interrupts p.control || is_set pending p.status)
unfolding is_set occur
ready-pending p = by (is_set interrupts p.control)
  where
    by :
        (t : Bool) → eqb (bit pending (pick t (put pending 1 (put ready 1 p.status)) (put ready 1 p.status))) 1 ≡
        (t || eqb (bit pending p.status) 1)
    by true = rw (bit-put pending pending 1 (put ready 1 p.status) (omega arith))
    by false = rw (bit-put pending ready 1 p.status (omega arith))

-- where control lets interrupts through, ready again sets it
pub ready-interrupts :
    (h : History) (p : Port) (u : Bytes) → is_set interrupts (play h p u).port.control ≡ true →
    is_set pending (play (h ++ (event ReadyAgain ∷ [])) p u).port.status ≡ true
unfolding then action
ready-interrupts h p u e = rw (one_more h (event ReadyAgain) p u, ready-pending (play h p u).port, e)

let_through : (t s : Bool) → s ≡ false → (t || s) ≡ true → t ≡ true
let_through true s clear set = refl
let_through false s clear set = sym clear ∙ set

action-sets :
    (x : Action) (p : Port) (u : Bytes) → is_set pending p.status ≡ false → is_set pending (action x p u).port.status ≡ true →
    (x ≡ event ReadyAgain) × (is_set interrupts p.control ≡ true)
unfolding action occur is_set
action-sets a_step p u clear set = contradiction (cc (step-clears p u))
action-sets (event ReadyAgain) p u clear set = (refl, let_through (is_set interrupts p.control) (is_set pending p.status) clear (sym (ready-pending p) ∙ set))
action-sets (event OutOfPaper) p u clear set = contradiction (cc (bit-put pending paper_out 1 p.status (omega arith)))
action-sets (event PaperIn) p u clear set = contradiction (cc (bit-put pending paper_out 0 p.status (omega arith)))
action-sets (event InterruptsOn) p u clear set = contradiction (cc)
action-sets (event InterruptsOff) p u clear set = contradiction (cc)

-- a action that sets it is the device's, and control lets it through
pub pending-set :
    (h : History) (x : Action) (p : Port) (u : Bytes) →
    is_set pending (play h p u).port.status ≡ false → is_set pending (play (h ++ (x ∷ [])) p u).port.status ≡ true →
    (x ≡ event ReadyAgain) × (is_set interrupts (play h p u).port.control ≡ true)
unfolding then
pending-set h x p u clear set =
    let a = play h p u in
    action-sets x a.port a.unsent clear (ap (λ (b : After). is_set pending b.port.status) (sym (one_more h x p u)) ∙ set)
