-- The bytes that a history sends: a beginning of the listing, in order; how many; and when none goes. Assumes nothing.
use Rattle.std.proofs.Common.{◌≡◌, ℕ, ◌+◌, ◌≤◌, min, Bool, true, false, ◌⊎◌, [], ◌∷◌, ◌++◌, length, take, sym, refl, ap, ◌∙◌, inl, inr, append_assoc, append-nil, arith, length-append, eqb-true}
use mathlib.Core.Bool.{and-false}
use lib.Seq.{take-append_seam}
use Rattle.specification.specs.Bytes.{Bytes, pick}
use Rattle.specification.proofs.Laws.Parser.{and-true}
use Rattle.plotter.specs.declared.Port.{Port}
use Rattle.plotter.specs.declared.Event.{Event}
use Rattle.plotter.specs.declared.Event.TheVariants.{ReadyAgain, OutOfPaper, PaperIn, InterruptsOn, InterruptsOff}
use Rattle.plotter.specs.Port.{bit, is_set, put, ready, paper_out, pending, attempt, step, takes, acknowledged, send, occur}
use Rattle.plotter.specs.History.{Action, a_step, event, History, action, then, play, chances}
use Rattle.plotter.proofs.Laws.Bits.{bit-put, bit_below}
use Rattle.plotter.proofs.Laws.Step.{step-idle}
use Rattle.plotter.proofs.Laws.Histories.{every, one_more}

-- ---- a beginning of the listing

attempt-in-order : (t : Bool) (p : Port) (u : Bytes) → (attempt t p u).sent ++ (attempt t p u).unsent ≡ u
unfolding attempt
attempt-in-order false p u = refl
attempt-in-order true p [] = refl
attempt-in-order true p (b ∷ bs) = refl

action-in-order : (x : Action) (p : Port) (u : Bytes) → (action x p u).sent ++ (action x p u).unsent ≡ u
unfolding action step
action-in-order a_step p u = attempt-in-order (takes p) p u
action-in-order (event e) p u = refl

-- the bytes sent, with what is left unsent behind them, are the listing: each byte is sent once and in order
pub in_order : (h : History) (p : Port) (u : Bytes) → (play h p u).sent ++ (play h p u).unsent ≡ u
unfolding then
in_order =
    every
    (λ p u a. a.sent ++ a.unsent ≡ u)
    (λ p u. refl)
    (λ p u a b x y. append_assoc a.sent b.sent b.unsent ∙ ap (λ (s : Bytes). a.sent ++ s) y ∙ x)
    action-in-order

-- so the bytes sent are a beginning of it
pub a-beginning : (h : History) (p : Port) (u : Bytes) → (play h p u).sent ≡ take (length (play h p u).sent) u
a-beginning h p u =
    let a = play h p u in
    sym (take-append_seam a.sent a.unsent) ∙ ap (λ (s : Bytes). take (length a.sent) s) (in_order h p u)

-- ---- how many bytes

attempt-counts : (t : Bool) (p : Port) (u : Bytes) → length (attempt t p u).sent ≡ min (pick t 1 0) (length u)
unfolding attempt
attempt-counts false p u = omega arith
attempt-counts true p [] = omega arith
attempt-counts true p (b ∷ bs) = omega arith

-- a step sends no more than there is, so that what is left can be lent to the next
pub step_fits : (p : Port) (u : Bytes) → length (step p u).sent ≤ length u
unfolding step
step_fits p u = omega (arith, attempt-counts (takes p) p u)

-- a byte goes at each step that finds ready set and paper in, until none is left
pub counts : (h : History) (p : Port) (u : Bytes) → length (play h p u).sent ≡ min (chances h p u) (length u)
unfolding play then action step chances
counts [] p u = omega arith
counts (a_step ∷ h) p u =
    let first = step p u in
    let rest = play h first.port first.unsent in
    omega (
      arith,
      length-append first.sent rest.sent,
      attempt-counts (takes p) p u,
      length-append first.sent first.unsent,
      ap length (attempt-in-order (takes p) p u),
      counts h first.port first.unsent,
    )
counts (event e ∷ h) p u = counts h (occur e p) u

none_left : (l : Bytes) → length l ≡ 0 → l ≡ []
none_left [] e = refl
none_left (b ∷ bs) e = absurd (omega arith)

-- as many such steps as there are bytes finish the listing
pub finishes :
    (h : History) (p : Port) (u : Bytes) → length u ≤ chances h p u → ((play h p u).sent ≡ u) × ((play h p u).unsent ≡ [])
finishes h p u enough =
    let a = play h p u in
    let parts = ap length (in_order h p u) in
    let none = none_left a.unsent (omega (arith, counts h p u, length-append a.sent a.unsent, parts)) in
    (sym (append-nil a.sent) ∙ ap (λ (s : Bytes). a.sent ++ s) (sym none) ∙ in_order h p u, none)

-- and no fewer
pub no-fewer : (h : History) (p : Port) (u : Bytes) → (play h p u).unsent ≡ [] → length u ≤ chances h p u
no-fewer h p u e =
    let a = play h p u in
    omega (arith, counts h p u, length-append a.sent a.unsent, ap length (in_order h p u), ap length e)

-- ---- when none goes

-- an event sends nothing
pub event-sends-nothing : (h : History) (e : Event) (p : Port) (u : Bytes) → (play (h ++ (event e ∷ [])) p u).sent ≡ (play h p u).sent
unfolding then action
event-sends-nothing h e p u = rw (one_more h (event e) p u) (append-nil (play h p u).sent)

not_taken : (p : Port) → (is_set ready p.status ≡ false) ⊎ (is_set paper_out p.status ≡ true) → takes p ≡ false
unfolding takes
not_taken p (inl e) = rw e
not_taken p (inr e) = rw e (and-false (is_set ready p.status))

-- and neither does a step that finds ready clear or paper out
pub step-sends-nothing :
    (h : History) (p : Port) (u : Bytes) → (is_set ready (play h p u).port.status ≡ false) ⊎ (is_set paper_out (play h p u).port.status ≡ true) →
    (play (h ++ (a_step ∷ [])) p u).sent ≡ (play h p u).sent
unfolding then action
step-sends-nothing h p u why =
    let a = play h p u in
    rw (one_more h a_step p u, step-idle a.port a.unsent (not_taken a.port why)) (append-nil a.sent)

-- ---- each byte has a ready of its own

-- how often the device sets ready
abbrev pub sets_ready : Event → ℕ
sets_ready ReadyAgain = 1
sets_ready OutOfPaper = 0
sets_ready PaperIn = 0
sets_ready InterruptsOn = 0
sets_ready InterruptsOff = 0

unfoldable pub readies : History → ℕ
readies [] = 0
readies (a_step ∷ h) = readies h
readies (event e ∷ h) = sets_ready e + readies h

taken-ready : (p : Port) → takes p ≡ true → bit ready p.status ≡ 1
unfolding takes is_set
taken-ready p e = eqb-true (bit ready p.status) 1 (and-true _ _ e).0

attempt-ready :
    (t : Bool) (p : Port) (u : Bytes) → takes p ≡ t →
    length (attempt t p u).sent + bit ready (attempt t p u).port.status ≤ bit ready p.status
unfolding attempt acknowledged send
attempt-ready false p u e = omega (arith, bit-put ready pending 0 p.status (omega arith))
attempt-ready true p [] e = omega (arith, bit-put ready pending 0 p.status (omega arith))
attempt-ready true p (b ∷ bs) e = omega (arith, taken-ready p e, bit-put ready ready 0 (put pending 0 p.status) (omega arith))

occur-ready : (e : Event) (p : Port) → bit ready (occur e p).status ≤ bit ready p.status + sets_ready e
unfolding occur
occur-ready ReadyAgain p = omega (arith, bit_below ready (occur ReadyAgain p).status)
occur-ready OutOfPaper p = omega (arith, bit-put ready paper_out 1 p.status (omega arith))
occur-ready PaperIn p = omega (arith, bit-put ready paper_out 0 p.status (omega arith))
occur-ready InterruptsOn p = omega arith
occur-ready InterruptsOff p = omega arith

-- a byte goes for each time that ready is set, or fewer: the plotter is never sent two for one
pub one-for-each-ready :
    (h : History) (p : Port) (u : Bytes) →
    length (play h p u).sent + bit ready (play h p u).port.status ≤ bit ready p.status + readies h
unfolding play then action step readies
one-for-each-ready [] p u = omega arith
one-for-each-ready (a_step ∷ h) p u =
    let first = step p u in
    omega (
      arith,
      attempt-ready (takes p) p u refl,
      length-append first.sent (play h first.port first.unsent).sent,
      one-for-each-ready h first.port first.unsent,
    )
one-for-each-ready (event e ∷ h) p u = omega (arith, occur-ready e p, one-for-each-ready h (occur e p) u)
