-- The places outside a formula, that is each cell and each local that it does not bind, and whether one of them got a value: what decides
-- whether a success leaf of its inner tree counts (document 02, Two). Assumes nothing.
use Rattle.std.specs.Prelude.{ℕ, zero, suc, Bool, true, false, not, ◌&&◌, ◌||◌, eqb}
use Rattle.specification.specs.Lines.{Declared, cells}
use Rattle.specification.specs.Ast.{Formula, truth, and, or, imp, neg, eq, compare, ex, some, all, call}
use Rattle.specification.specs.Place.{Place, cell, local}
use Rattle.specification.specs.Value.{Slot, empty, full, Valuation}

-- whether F has a binder of the local
unfoldable pub binds : Formula → ℕ → Bool
binds truth l = false
binds (and F G) l = binds F l || binds G l
binds (or F G) l = binds F l || binds G l
binds (imp tok F G) l = binds F l || binds G l
binds (neg tok F) l = binds F l
binds (eq tok s t) l = false
binds (compare tok r s t) l = false
binds (ex j F) l = eqb l j || binds F l
binds (some tok j a b F) l = eqb l j || binds F l
binds (all tok j a b F) l = eqb l j || binds F l
binds (call K ts F) l = binds F l

abbrev pub outside : Formula → Place → Bool
outside F (cell c) = true
outside F (local l) = not (binds F l)

-- a value where there was none
abbrev pub gained : Slot → Slot → Bool
gained empty empty = false
gained empty (full v) = true
gained (full u) s = false

-- whether it holds of some number below n
unfoldable pub some_below : ℕ → (ℕ → Bool) → Bool
some_below zero f = false
some_below (suc n) f = f n || some_below n f

-- whether β has a value for a cell, or for a declared local, outside F that has none under α
unfoldable pub gave : Declared → Formula → Valuation → Valuation → Bool
gave D F α β =
    let g : Place → Bool = λ p. outside F p && gained (α p) (β p) in
    some_below (cells D) (λ c. g (cell c)) || some_below D.locals (λ l. g (local l))
