-- The lines after a listing are short: ten digits for a number of 32 bits, twenty for a place. Put at the start of memory they are as the
-- contract says. Assumes nothing.
use Prim.Native.Nat.{ℕ, ◌+◌, ◌≤◌, ◌<◌}
use native.Mathlib.Omega.{arith}
use mathlib.Core.Path.{◌≡◌, ◌∙◌, ap}
use mathlib.Core.List.{◌++◌}
use lib.ListN.{length, drop}
use lib.Seq.{sets-eq}
use Rattle.std.specs.Prelude.{Ok, Err}
use Rattle.specification.specs.declared.refusals.Refusal.{Refusal}
use Rattle.specification.specs.declared.Tallies.{Tallies}
use Rattle.specification.specs.declared.End.{End}
use Rattle.specification.specs.declared.End.TheVariants.{Done, Spent, Path, Output}
use Rattle.specification.specs.declared.Ran.{Ran}
use Rattle.specification.specs.Bytes.{Bytes, bytes}
use Rattle.specification.specs.Outcome.{Outcome}
use Rattle.specification.specs.Printed.{field_text, end_line, tally_lines, refusal_lines, closing}
use Rattle.listing.specs.declared.writer.Writer.{Writer}
use Rattle.listing.specs.Put.{Writes}
use Rattle.listing.proofs.Laws.Put.{writes-++, writes-new}
use Rattle.listing.proofs.Laws.Bound.{field_bound}
use Rattle.page.specs.Page.{end_most, closing_most, Lined, Closed}

end-bound : (e : End) → length (end_line e) ≤ end_most
end-bound Done = omega arith
end-bound Spent = omega arith
end-bound Path = omega arith
end-bound Output = omega arith

pub end-lined : (e : End) {u v : Writer} → u.at ≡ 0 → Writes u v (end_line e) → Lined end_most u v (end_line e)
end-lined e s p = record { text = p; short = omega (arith, p.put.end, end-bound e) }

-- the four lines of tallies together
pub tally-fields : (t : Tallies) → t.nodes < 4294967296 → t.answers < 4294967296 → t.errors < 4294967296 → t.fails < 4294967296 →
    length (field_text (bytes "nodes=") t.nodes) + length (field_text (bytes "answers=") t.answers)
    + length (field_text (bytes "errors=") t.errors) + length (field_text (bytes "fails=") t.fails)
    ≤ 71
tally-fields t n a e f =
    omega (
      arith,
      field_bound (bytes "nodes=") 9 t.nodes (omega arith),
      field_bound (bytes "answers=") 9 t.answers (omega arith),
      field_bound (bytes "errors=") 9 t.errors (omega arith),
      field_bound (bytes "fails=") 9 t.fails (omega arith),
    )

-- the two of a refusal
pub refusal-fields : (number place : ℕ) → number < 4294967296 → place < 18446744073709551616 →
    length (field_text (bytes "refused=") number) + length (field_text (bytes "at=") place) ≤ 43
refusal-fields number place n p =
    omega (arith, field_bound (bytes "refused=") 9 number (omega arith), field_bound (bytes "at=") 19 place (omega arith))

-- ---- all of them

pub closed : (o : Outcome) {u v : Writer} {b : Bytes} → u.memory.now ≡ b → u.at ≡ 0 → length b ≡ closing_most →
    Lined closing_most u v (closing o) → Closed o b v.memory.now v.at
closed o {u} {v} {b} e s size l =
    let t = closing o in
    let p = writes-new e s l.text in
    let count : v.at ≡ length t = omega (arith, p.end) in
    record {
      lines = p.bytes ∙ sets-eq t b 0 (omega (arith, l.short)) ∙ ap (λ k. t ++ drop k b) {x = 0 + length t} {y = v.at} (omega arith);
      count = count;
    }

pub lined-refused : {o : Outcome} {x : Refusal} {u v : Writer} → o ≡ Err x →
    Lined closing_most u v (refusal_lines x.number x.place) → Lined closing_most u v (closing o)
unfolding closing
lined-refused e l = rw e l

pub lined-ran : {o : Outcome} {x : Ran} {u v w : Writer} → o ≡ Ok x →
    Lined end_most u v (end_line x.end) → Lined closing_most v w (tally_lines x.tallies) → Lined closing_most u w (closing o)
unfolding closing
lined-ran told first l = rw told (record { text = writes-++ first.text l.text; short = l.short })
