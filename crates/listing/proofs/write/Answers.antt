-- `listing::write` meets its contract. Assumes nothing.
use Rattle.listing.proofs.Laws.Shown.{few-scalars, laid, wrote_none, wrote-all}
use Rattle.listing.proofs.write.Goals as goal

pub size-n-requires : goal.size-n-requires
size-n-requires c = let s = c.requires.shows in (laid s, few-scalars s)

pub returns-then-rest-n : goal.returns-then-rest-n
returns-then-rest-n c D β s =
    wrote_none s c.args.head c.size-n.ensures c.if-rest-n.true

pub block-requires : goal.block-requires
block-requires c =
    let s = c.requires.shows in (laid s, few-scalars s)

pub returns : goal.returns
returns c D β s =
    wrote-all s c.args.head c.size-n.ensures c.if-rest-n.false c.block.ensures
