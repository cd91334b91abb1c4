-- From actions to histories. A point of a history is what `play` leaves after its first actions; what holds of the next action there is said
-- of the history with that action at its end. Assumes nothing.
use Rattle.std.proofs.Common.{◌≡◌, [], ◌∷◌, ◌++◌, sym, ap, ◌∙◌, append_assoc, append-nil}
use Rattle.specification.specs.Bytes.{Bytes}
use Rattle.plotter.specs.declared.Port.{Port}
use Rattle.plotter.specs.Port.{After}
use Rattle.plotter.specs.History.{Action, History, action, then, play}

-- before the first action
abbrev start : Port → Bytes → After
start p u = record { port = p; sent = []; unsent = u }

-- what holds of no action, of each action, and of two parts of a history together, holds of every history
module _
    (R : Port → Bytes → After → Type 0) (none : (p : Port) (u : Bytes) → R p u (start p u))
    (both : (p : Port) (u : Bytes) (a b : After) → R p u a → R a.port a.unsent b → R p u (then a b))
    (each : (x : Action) (p : Port) (u : Bytes) → R p u (action x p u)) where
  pub every : (h : History) (p : Port) (u : Bytes) → R p u (play h p u)
  unfolding play
  every [] p u = none p u
  every (x ∷ h) p u =
      let first = action x p u in
      both p u first (play h first.port first.unsent) (each x p u) (every h first.port first.unsent)

then-start : (a : After) → then a (start a.port a.unsent) ≡ a
unfolding then
then-start a = ap (λ (s : Bytes). record { port = a.port; sent = s; unsent = a.unsent }) (append-nil a.sent)

then-then : (a b c : After) → then a (then b c) ≡ then (then a b) c
unfolding then
then-then a b c = ap (λ (s : Bytes). record { port = c.port; sent = s; unsent = c.unsent }) (sym (append_assoc a.sent b.sent c.sent))

-- a history with one action more
pub one_more :
    (h : History) (x : Action) (p : Port) (u : Bytes) →
    play (h ++ (x ∷ [])) p u ≡ then (play h p u) (action x (play h p u).port (play h p u).unsent)
unfolding play then
one_more [] x p u = then-start (action x p u)
one_more (y ∷ h) x p u =
    let first = action y p u in
    let rest = play h first.port first.unsent in
    ap (then first) (one_more h x first.port first.unsent) ∙ then-then first rest (action x rest.port rest.unsent)
