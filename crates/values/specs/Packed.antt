-- The result of an operation as the code has it: the word of a value, or the error. Assumes nothing.
use Rattle.std.specs.Prelude.{ℕ, Result, Ok, Err, ◌==◌, if◌then◌else◌}
use Rattle.specification.specs.Arithmetic.{value, fault, outside32, zero_divisor}
use Rattle.specification.specs.Arithmetic as arithmetic
use Rattle.values.specs.Word.{biased}
use Rattle.values.specs.declared.Fault.{Fault}
use Rattle.values.specs.declared.Fault.TheVariants.{Outside, ZeroDivisor}

-- its kind
abbrev pub kind_of : Fault → ℕ
kind_of Outside = outside32
kind_of ZeroDivisor = zero_divisor

-- the error of a kind; an operation has no other than these two (`kind-told`)
abbrev pub fault_of : ℕ → Fault
fault_of κ = if κ == zero_divisor then ZeroDivisor else Outside

abbrev pub packed : arithmetic.Computed → Result ℕ Fault
packed (value z) = Ok (biased z)
packed (fault κ) = Err (fault_of κ)
