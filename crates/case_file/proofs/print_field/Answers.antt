-- `case_file::print_field` meets its contract. Assumes nothing.
use Prim.Native.Nat.{ℕ, ◌≤◌}
use native.Mathlib.Omega.{arith}
use mathlib.Core.Path.{◌≡◌}
use lib.ListN.{length, take}
use Rattle.specification.specs.Printed.{field_text}
use Rattle.console.proofs.Parts.{part_length}
use Rattle.case_file.proofs.FieldLine.{line-bound}
use Rattle.case_file.proofs.print_field.Goals as goal

pub slice_bounds-line-end : goal.slice_bounds-line-end
slice_bounds-line-end g c =
    omega (arith, line-bound c.args.key.now c.args.n c.requires c.ranges.n.fits, c.field_line-end.ensures)

pub slice_bounds-write-end : goal.slice_bounds-write-end
slice_bounds-write-end g c =
    part_length _ _ (omega (arith, line-bound c.args.key.now c.args.n c.requires c.ranges.n.fits, c.field_line-end.ensures))

pub returns : goal.returns
returns g c =
    let inside : c.field_line-end.result ≤ length c.field_line-end.new.line =
    omega (arith, line-bound c.args.key.now c.args.n c.requires c.ranges.n.fits, c.field_line-end.ensures) in
    let all : length (field_text c.args.key.now c.args.n) ≡ length (take c.field_line-end.result c.field_line-end.new.line) =
    omega (arith, part_length c.field_line-end.result c.field_line-end.new.line inside, c.field_line-end.ensures) in
    rw all c.write.ensures
