-- `advance::risen` meets its contract.
use mathlib.Core.Path.{refl}
use Rattle.std.proofs.Common.{rules}
use Rattle.walker.proofs.Laws.Loops.{risen-none, risen-rises, risen-climbed}
use Rattle.walker.proofs.advance.risen.Goals as goal

pub climb-requires : goal.climb-requires
climb-requires c = risen-rises c.requires c.in-Up.is

pub returns-in-Up : goal.returns-in-Up
returns-in-Up c = risen-climbed c.requires c.in-Up.is c.climb.ensures

pub returns-in_default : goal.returns-in_default
returns-in_default c = risen-none (search rules) refl
