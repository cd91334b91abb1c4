-- `values::pack` meets its contract: the range's test is whether the value is in 32 bits, and 64 bits hold the shift by 2^31. Assumes nothing.
use mathlib.Core.Path.{◌≡◌, sym, ◌∙◌, ap}
use mathlib.Core.Bool.{false}
use lib.Dec.{T}
use mir.ValLaws.{to_z-of_z}
use mir.Syntax.{w64}
use Rattle.specification.specs.Number.{in32}
use Rattle.specification.proofs.Laws.Division.{fit-in}
use Rattle.values.specs.Packed.{packed}
use Rattle.values.proofs.Laws.Test.{is_true}
use Rattle.values.proofs.Laws.Packed.{fit-out}
use Rattle.values.proofs.Laws.Word.{biased-word}
use Rattle.values.proofs.Laws.Exact.{shifted_fits, shifted-read}
use Rattle.values.proofs.Laws.Range.{contains-read}
use Rattle.values.proofs.pack.Goals as goal
use Rattle.values.proofs.pack.Goals.{After-contains, Else-not-contains}

tested : (c : After-contains) → c.contains.result ≡ in32 c.args.z
tested c = rw (to_z-of_z w64 c.args.z c.ranges.z, c.new.ensures.start, c.new.ensures.end, c.new.ensures.exhausted) at c.contains.ensures.value ∙ contains-read c.args.z

pub returns-then-not-contains : goal.returns-then-not-contains
returns-then-not-contains c =
    let out : in32 c.args.z ≡ false = sym (tested (goal.at.returns-then-not-contains c).After-contains) ∙ c.if-not-contains.true in
    ap packed (sym (fit-out c.args.z (λ t. rw out at t)))

inside : (c : Else-not-contains) → T (in32 c.args.z)
inside c = is_true (sym (tested (goal.at.returns c).After-contains) ∙ c.if-not-contains.false)

pub overflow_add-result : goal.overflow_add-result
overflow_add-result c = shifted_fits c.args.z c.ranges.z (inside c)

pub overflow_cast-result : goal.overflow_cast-result
overflow_cast-result c =
    rw (shifted-read c.args.z c.ranges.z (inside c)) (tt, record { fits = biased-word c.args.z (inside c) })

pub returns : goal.returns
returns c =
    rw (shifted-read c.args.z c.ranges.z (inside c)) (ap packed (sym (fit-in c.args.z (inside c))))
