-- The reasons of refusals by their numbers, and a refusal by its number and byte place. Assumes nothing.
use Rattle.std.specs.Prelude.{ℕ, ◌≡◌}
use Rattle.specification.specs.declared.refusals.Reason.{Reason}
use Rattle.specification.specs.declared.refusals.Reason.TheVariants as reason
use Rattle.specification.specs.declared.refusals.Refusal.{Refusal}

abbrev pub reason_number : Reason → ℕ
reason_number reason.Memory = 1
reason_number reason.TooLong = 2
reason_number reason.Key = 3
reason_number reason.Number = 4
reason_number reason.Byte = 5
reason_number reason.Word = 6
reason_number reason.Undeclared = 7
reason_number reason.Binder = 8
reason_number reason.TooMany = 9
reason_number reason.NotRising = 10
reason_number reason.Procedure = 11
reason_number reason.Parameter = 12
reason_number reason.OutOfRange = 13
reason_number reason.EmptyRange = 14
reason_number reason.NarrowRange = 15
reason_number reason.Rounding = 16
reason_number reason.EmptyBounds = 17

-- the number of a reason
abbrev pub OfReason : ℕ → Type 0
OfReason n = (r : Reason) × (n ≡ reason_number r)

abbrev pub refusal_with : ℕ → ℕ → Refusal
refusal_with number place = record { number = number; place = place }
