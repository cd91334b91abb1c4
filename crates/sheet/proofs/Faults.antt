-- Laws of one token's refusal: what a binder binds, and what a token that may stand shows. Assumes nothing.
use Prim.Native.Nat.{ℕ, zero, suc, ◌<◌}
use native.Mathlib.Omega.{arith}
use mathlib.Core.Path.{◌≡◌, refl}
use mathlib.Core.Bool.{Bool, true, false}
use mathlib.Core.List.{◌∷◌}
use lib.ListN.{length-replicate}
use lib.Dec.{eqb, ltb}
use borrow.Author.Tests.{eqb-true, ltb-true}
use Rattle.specification.specs.Bytes.{pick, between}
use Rattle.specification.specs.Lines.{Declared}
use Rattle.specification.specs.Formula.{Locals}
use Rattle.specification.proofs.Laws.Contradiction.{contradiction}
use Rattle.tables.specs.Layout.{max_tokens}
use Rattle.tables.specs.Codes.{first_formula, last_formula, first_term, last_term, local_code, parameter_code, bad_constant_code, procedure_code, last_code}
use Rattle.sheet.specs.declared.Token.{Token}
use Rattle.sheet.specs.Stack.{Entry}
use Rattle.sheet.specs.declared.formula.Limits.{Limits}
use Rattle.sheet.specs.Sorts.{procedure_sort}
use Rattle.sheet.specs.Dues.{Due, due_formula, due_term, due_procedure, due_ex, due_range, due_bounds, due_upper}
use Rattle.sheet.specs.Turn.{room, suits, declared, undeclared, fault_of, binds}
use Rattle.sheet.specs.Stack.{sort_of, Means, Coded}
use Rattle.sheet.specs.FormulaLine.{Counts, counted, refusal_of}
use Rattle.text.proofs.Laws.Ranges.{within}

-- ---- what a binder binds

pub binds-local : (d : Due) (t : Token) (B : Locals) → procedure_sort < sort_of d → binds d t B ≡ t.operand ∷ B
binds-local (due_formula k S) t B h = absurd (omega arith)
binds-local (due_term k S) t B h = absurd (omega arith)
binds-local (due_procedure k S) t B h = absurd (omega arith)
binds-local (due_ex k S) t B h = refl
binds-local (due_range k S p) t B h = refl
binds-local (due_bounds k S p) t B h = absurd (omega arith)
binds-local (due_upper k S p x) t B h = absurd (omega arith)

-- ---- what is declared

module _ {l : Limits} {D : Declared} (g : Counts l D) where
  declared-counted : (t : Token) → declared D t ≡ declared (counted l) t
  unfolding declared
  declared-counted t = rw (g.scalars, g.locals, g.arrays, g.parameters, g.procedures, length-replicate, length-replicate)

  pub fault-counted : (d : Due) (B : Locals) (t : Token) → fault_of D d B t ≡ fault_of (counted l) d B t
  unfolding fault_of
  fault-counted d B t = rw (declared-counted t)

pub declared-local : (l : Limits) (t : Token) → t.code ≡ local_code → declared (counted l) t ≡ true → t.operand < l.locals
unfolding declared
declared-local l t e h = ltb-true _ _ (rw e at h)

-- ---- a token that may stand

-- a nest of tests that gives 0 passed each of them
past : (b : Bool) (k x : ℕ) → 0 < k → pick b k x ≡ 0 → (b ≡ false) × (x ≡ 0)
past true k x h e = absurd (omega arith)
past false k x h e = (refl, e)

kept : (b : Bool) (k x : ℕ) → 0 < k → pick b x k ≡ 0 → (b ≡ true) × (x ≡ 0)
kept true k x h e = (refl, e)
kept false k x h e = absurd (omega arith)

undeclared-some : (c : ℕ) → 0 < undeclared c
unfolding undeclared
undeclared-some c = go (eqb c parameter_code) (between procedure_code last_code c)
  where
    go : (a b : Bool) → 0 < pick a 12 (pick b 11 7)
    go true b = omega arith
    go false true = omega arith
    go false false = omega arith

suits-local : (d : Due) (c : ℕ) → procedure_sort < sort_of d → suits d c ≡ true → c ≡ local_code
suits-local (due_formula k S) c h e = absurd (omega arith)
suits-local (due_term k S) c h e = absurd (omega arith)
suits-local (due_procedure k S) c h e = absurd (omega arith)
suits-local (due_ex k S) c h e = eqb-true c local_code e
suits-local (due_range k S p) c h e = eqb-true c local_code e
suits-local (due_bounds k S p) c h e = absurd (omega arith)
suits-local (due_upper k S p x) c h e = absurd (omega arith)

pub suits-coded : (d : Due) (e : Entry) (c : ℕ) → Means e d → suits d c ≡ true → Coded e c
suits-coded (due_formula k S) e c m q = record { word = λ h. omega (arith, (within first_formula last_formula c q).1); number = λ h. absurd (omega (arith, m.sort)) }
suits-coded (due_term k S) e c m q = record { word = λ h. omega (arith, (within first_term last_term c q).1); number = λ h. absurd (omega (arith, m.sort)) }
suits-coded (due_procedure k S) e c m q = record { word = λ h. absurd (omega (arith, m.sort)); number = λ h. (within procedure_code last_code c q).0 }
suits-coded (due_ex k S) e c m q = record { word = λ h. absurd (omega (arith, m.sort)); number = λ h. absurd (omega (arith, m.sort)) }
suits-coded (due_range k S p) e c m q = record { word = λ h. absurd (omega (arith, m.sort)); number = λ h. absurd (omega (arith, m.sort)) }
suits-coded (due_bounds k S p) e c m q =
    record { word = λ h. omega (arith, (within first_term last_term c q).1); number = λ h. absurd (omega (arith, m.sort)) }
suits-coded (due_upper k S p x) e c m q =
    record { word = λ h. omega (arith, (within first_term last_term c q).1); number = λ h. absurd (omega (arith, m.sort)) }

some-room : (k : ℕ) → eqb k 0 ≡ false → 0 < k
some-room zero e = contradiction cc
some-room (suc k) e = omega arith

pub record Stands (l : Limits) (d : Due) (n : ℕ) (t : Token) : Type 0 where
  pub room : 0 < room d
  pub number : n < max_tokens
  pub suits : suits d t.code ≡ true
  pub index : procedure_sort < sort_of d → t.operand < l.locals

pub stands : (l : Limits) (d : Due) (B : Locals) (n : ℕ) (t : Token) → refusal_of l d B n t ≡ 0 → Stands l d n t
unfolding fault_of
stands l d B n t e =
    let a : (eqb (room d) 0 ≡ false) × _ = past _ _ _ (omega arith) e in
    let b : (ltb n max_tokens ≡ true) × _ = kept _ _ _ (omega arith) a.1 in
    let c : (eqb t.code bad_constant_code ≡ false) × _ = past _ _ _ (omega arith) b.1 in
    let s : (suits d t.code ≡ true) × _ = kept _ _ _ (omega arith) c.1 in
    let v : (declared (counted l) t ≡ true) × _ = kept _ _ _ (undeclared-some t.code) s.1 in
    record {
      room = some-room (room d) a.0;
      number = ltb-true _ _ b.0;
      suits = s.0;
      index = λ h. declared-local l t (suits-local d t.code h s.0) v.0;
    }
