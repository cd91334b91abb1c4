-- Places, the cells and locals of a sheet by their numbers, and functions over them. Assumes nothing.
use Rattle.std.specs.Prelude.{ℕ, Bool, false, eqb}
use Rattle.specification.specs.Bytes.{pick}

pub data Place : Type 0 where
  cell local : ℕ → Place

abbrev pub same_place : Place → Place → Bool
same_place (cell a) (cell b) = eqb a b
same_place (cell a) (local b) = false
same_place (local a) (cell b) = false
same_place (local a) (local b) = eqb a b

module _ {A : Type 0} where
  -- the same function but at one place
  unfoldable pub put : (Place → A) → Place → A → Place → A
  put f p a q = let b = f q in pick (same_place q p) a b
