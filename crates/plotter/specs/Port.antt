-- The plotter's port (document 02, Four): the bits of its registers, the step that sends a byte, and the events that come from outside.
-- The four registers are the fields of the code's struct `Port`; each holds a byte, a number below 256. The events are the code's enum `Event`.
-- Assumes nothing.
use Rattle.std.specs.Prelude.{◌≡◌, ℕ, ◌+◌, ◌-◌, ◌*◌, ◌/◌, ◌%◌, ◌^◌, Bool, true, false, not, ◌&&◌, [], ◌∷◌, length, drop, get_or, ◌==◌}
use Rattle.specification.specs.Bytes.{Bytes, pick}
use Rattle.plotter.specs.declared.Port.{Port}
use Rattle.plotter.specs.declared.Stepped.{Stepped}
use Rattle.plotter.specs.declared.Event.{Event}
use Rattle.plotter.specs.declared.Event.TheVariants.{ReadyAgain, OutOfPaper, PaperIn, InterruptsOn, InterruptsOff}

-- ---- bits; bit 0 is the lowest

-- bit k of a register, 0 or 1
unfoldable pub bit : ℕ → ℕ → ℕ
bit k r = r / 2 ^ k % 2

unfoldable pub is_set : ℕ → ℕ → Bool
is_set k r = bit k r == 1

-- the register with d, 0 or 1, for its bit k
unfoldable pub put : ℕ → ℕ → ℕ → ℕ
put k d r = r - bit k r * 2 ^ k + d * 2 ^ k

-- the bits that have a meaning: three of status
abbrev pub ready : ℕ
ready = 0

abbrev pub paper_out : ℕ
paper_out = 1

abbrev pub pending : ℕ
pending = 2

-- and one of control, which lets interrupts through
abbrev pub interrupts : ℕ
interrupts = 0

-- the port with another status, with another control
abbrev pub with_status : ℕ → Port → Port
with_status s p = record { status = s; control = p.control; «data» = p.«data»; sum = p.sum }

abbrev pub with_control : ℕ → Port → Port
with_control c p = record { status = p.status; control = c; «data» = p.«data»; sum = p.sum }

-- the registers of four bytes, and the bytes of the registers
abbrev pub port_of : Bytes → Port
port_of r = record { status = get_or r 0 0; control = get_or r 1 0; «data» = get_or r 2 0; sum = get_or r 3 0 }

abbrev pub bytes_of : Port → Bytes
bytes_of p = p.status ∷ p.control ∷ p.«data» ∷ p.sum ∷ []

-- ---- the step

-- the registers, the bytes sent and what is left of the unsent listing, after a step or after many
pub record After : Type 0 where
  pub port : Port
  pub sent : Bytes
  pub unsent : Bytes

-- the plotter takes a byte: ready is set and paper is in
unfoldable pub takes : Port → Bool
takes p = is_set ready p.status && not (is_set paper_out p.status)

-- pending is cleared
unfoldable pub acknowledged : Port → Port
acknowledged p = with_status (put pending 0 p.status) p

-- a byte goes to data, ready is cleared, and sum moves on, wrapping past 255
unfoldable pub send : ℕ → Port → Port
send b p = record { status = put ready 0 p.status; control = p.control; «data» = b; sum = (p.sum + b) % 256 }

-- nothing goes, and all is left
abbrev pub idle : Port → Bytes → After
idle p u = record { port = acknowledged p; sent = []; unsent = u }

-- a step, told whether the plotter takes a byte; sending or not, it clears pending
unfoldable pub attempt : Bool → Port → Bytes → After
attempt false p u = idle p u
attempt true p [] = idle p []
attempt true p (b ∷ bs) = record { port = send b (acknowledged p); sent = b ∷ []; unsent = bs }

-- one step over the registers and the unsent listing
unfoldable pub step : Port → Bytes → After
step p u = attempt (takes p) p u

-- what the code's step answers: the registers, and how many bytes it sent; those behind them are left
pub record Steps (p : Port) (unsent : Bytes) (r : Stepped) : Type 0 where
  pub port : r.port ≡ (step p unsent).port
  pub sent : r.sent ≡ length (step p unsent).sent
  pub left : drop r.sent unsent ≡ (step p unsent).unsent

-- ---- the events

-- the registers after an event; the device sets ready again, and pending too if control lets interrupts through
unfoldable pub occur : Event → Port → Port
occur ReadyAgain p =
    let s = put ready 1 p.status in
    with_status (pick (is_set interrupts p.control) (put pending 1 s) s) p
occur OutOfPaper p = with_status (put paper_out 1 p.status) p
occur PaperIn p = with_status (put paper_out 0 p.status) p
occur InterruptsOn p = with_control (put interrupts 1 p.control) p
occur InterruptsOff p = with_control (put interrupts 0 p.control) p
