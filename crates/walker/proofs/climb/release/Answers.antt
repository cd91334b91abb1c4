-- `climb::release` meets its contract.
use Rattle.walker.proofs.Laws.Released.{releases-slot, undone-fell, releases-from}
use Rattle.walker.proofs.climb.release.Goals as goal

pub undo-requires : goal.undo-requires
undo-requires c = (releases-slot c.requires c.if-x-ge-SLOTS.true, (c.requires).word)

pub returns-then-x-ge-SLOTS : goal.returns-then-x-ge-SLOTS
returns-then-x-ge-SLOTS c = undone-fell c.requires (releases-slot c.requires c.if-x-ge-SLOTS.true) c.undo.ensures

pub release_token-requires : goal.release_token-requires
release_token-requires c = releases-from c.requires c.if-x-ge-SLOTS.false
