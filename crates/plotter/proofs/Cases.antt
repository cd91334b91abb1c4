-- Telling cases of the port (docs/DECISIONS.md, 34 to 38), by running the definitions. Assumes nothing.
use Rattle.std.proofs.Common.{◌≡◌, ℕ, [], ◌∷◌, refl}
use Rattle.specification.specs.Bytes.{Bytes, bytes}
use Rattle.plotter.specs.declared.Port.{Port}
use Rattle.plotter.specs.declared.Event.TheVariants.{ReadyAgain, InterruptsOn, InterruptsOff}
use Rattle.plotter.specs.Port.{bit, is_set, put, After, takes, acknowledged, send, attempt, step, occur}
use Rattle.plotter.specs.History.{a_step, event, action, then, play, chances}

-- status, control, data, sum
abbrev port : ℕ → ℕ → ℕ → ℕ → Port
port s c d m = record { status = s; control = c; «data» = d; sum = m }

abbrev after : Port → Bytes → Bytes → After
after p sent unsent = record { port = p; sent = sent; unsent = unsent }

-- ready again where it is set: pending is set if control lets it through, and else nothing changes
pub ready-twice : occur ReadyAgain (port 1 1 0 0) ≡ port 5 1 0 0
unfolding occur put bit is_set
ready-twice = refl

pub ready-twice-off : occur ReadyAgain (port 1 0 0 0) ≡ port 1 0 0 0
unfolding occur put bit is_set
ready-twice-off = refl

-- a step that finds nothing left keeps ready and clears pending, and so does one that finds paper out
pub nothing_left : step (port 5 1 9 9) [] ≡ after (port 1 1 9 9) [] []
unfolding step attempt acknowledged takes put bit is_set
nothing_left = refl

pub paper-out : step (port 7 1 9 9) (bytes "v") ≡ after (port 3 1 9 9) [] (bytes "v")
unfolding step attempt acknowledged takes put bit is_set
paper-out = refl

-- a step with nothing left counts among those that find ready set and paper in
pub counts-with-nothing-left : chances (a_step ∷ a_step ∷ []) (port 1 0 0 0) [] ≡ 2
unfolding chances step attempt acknowledged takes put bit is_set
counts-with-nothing-left = refl

-- control is looked at when ready is set, and at no other time
pub on-after-ready : play (event ReadyAgain ∷ event InterruptsOn ∷ []) (port 0 0 0 0) [] ≡ after (port 1 1 0 0) [] []
unfolding play then action occur put bit is_set
on-after-ready = refl

pub off-after-ready : play (event ReadyAgain ∷ event InterruptsOff ∷ []) (port 0 1 0 0) [] ≡ after (port 5 0 0 0) [] []
unfolding play then action occur put bit is_set
off-after-ready = refl

-- a step that sends clears what it finds pending: the byte's own interrupt comes with the next ready
pub sends-and-clears : step (port 5 1 0 200) (bytes "v0") ≡ after (port 0 1 118 62) (bytes "v") (bytes "0")
unfolding step attempt send acknowledged takes put bit is_set
sends-and-clears = refl

-- bits without a name stay
pub unnamed-stay : step (port 253 255 0 255) (bytes "v") ≡ after (port 248 255 118 117) (bytes "v") []
unfolding step attempt send acknowledged takes put bit is_set
unnamed-stay = refl
