-- `listing::block` meets its contract. Assumes nothing.
use Rattle.std.proofs.Common.{rules}
use Rattle.listing.specs.Put.{Put}
use Rattle.listing.specs.Model.{model_text}
use Rattle.listing.proofs.Laws.Put.{writes-++, writes-new}
use Rattle.listing.proofs.Laws.Bound.{scalars-room, arrays-room}
use Rattle.listing.proofs.block.Goals as goal

pub scalars-requires : goal.scalars-requires
scalars-requires c =
    let (l, few) = c.requires in
    (l.size, few, scalars-room c.args.w.now (λ j. (c.type_inv.w j).fits) c.args.arrays l c.args.scalars c.top.new.out.at few c.top.ensures.short)

pub arrays-requires : goal.arrays-requires
arrays-requires c =
    let (l, few) = c.requires in
    (l, arrays-room c.args.w.now (λ j. (c.type_inv.w j).fits) c.args.arrays l c.args.scalars c.top.new.out.at few c.top.ensures.short c.scalars.ensures.put.end)

pub returns : goal.returns
returns c =
    let a = c.args in
    let p : Put a.memory.now c.arrays.new.out.memory.now 0 (model_text a.w.now a.scalars a.arrays a.head) c.arrays.new.out.at =
    writes-new c.new-out.ensures.held c.new-out.ensures.start
    (writes-++ c.top.ensures.text (writes-++ c.scalars.ensures c.arrays.ensures)) in
    search rules
