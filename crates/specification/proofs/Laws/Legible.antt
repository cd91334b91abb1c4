-- What makes a formula one that is read: its names are declared, its locals are in scope, it is not nested too deep, and no local gets a second
-- binder. None of it depends on the edition or on what the procedures say. First what a formula asks of the lines before it, then its
-- binders. Assumes nothing.
use Prim.Native.Nat.{ℕ, zero, suc}
use mathlib.Core.Path.{◌≡◌, refl, ap}
use mathlib.Core.Bool.{Bool, true, false, ◌||◌}
use mathlib.Core.List.{List, [], ◌∷◌, ◌++◌}
use lib.ListN.{length, get_or}
use lib.Dec.{ltb, eqb}
use Rattle.specification.specs.Lists.{Each}
use Rattle.specification.specs.Bytes.{pick}
use Rattle.specification.specs.Lines.{Declared}
use Rattle.specification.specs.Ast.{Term, constant, scalar_at, local_at, parameter, element_at, apply, Formula, truth, and, or, imp, neg, eq, compare, ex, some, all, call, Procedure}
use Rattle.specification.specs.Formula.{Locals, has, empty_range}
use Rattle.specification.specs.Tidy.{falsehood, dropped}
use Rattle.specification.proofs.Laws.ReadTerm.{Sub, sub-both, fresh}

-- ---- what stands before a formula

-- how many of each there are, and how many parameters each earlier procedure has
pub record Shape : Type 0 where
  pub scalars : ℕ
  pub locals : ℕ
  pub arrays : ℕ
  pub parameters : ℕ
  pub called : List ℕ

unfoldable pub counts : List Procedure → List ℕ
counts [] = []
counts (P ∷ Ps) = P.parameters ∷ counts Ps

abbrev pub shape_of : Declared → Shape
shape_of D = record {
  scalars = D.scalars;
  locals = D.locals;
  arrays = length D.arrays;
  parameters = D.parameters;
  called = counts D.procedures;
}

pub counts-length : (Ps : List Procedure) → length (counts Ps) ≡ length Ps
unfolding counts
counts-length [] = refl
counts-length (P ∷ Ps) = ap suc (counts-length Ps)

pub counts-++ : (Ps Qs : List Procedure) → counts (Ps ++ Qs) ≡ counts Ps ++ counts Qs
unfolding counts
counts-++ [] Qs = refl
counts-++ (P ∷ Ps) Qs = ap (λ (ns : List ℕ). P.parameters ∷ ns) (counts-++ Ps Qs)

pub counts-at : (Ps : List Procedure) (K : ℕ) (d : Procedure) → get_or (counts Ps) K d.parameters ≡ (get_or Ps K d).parameters
unfolding counts
counts-at [] K d = refl
counts-at (P ∷ Ps) zero d = refl
counts-at (P ∷ Ps) (suc K) d = counts-at Ps K d

-- ---- terms and formulas, nested at most k deep

-- nesting goes on
abbrev pub Deep : ℕ → Type 0
Deep zero = ⊥
Deep (suc k) = Unit {0}

module _ (H : Shape) where
  unfoldable pub LegibleTerm : ℕ → Locals → Term → Type 0
  LegibleTerm zero S t = ⊥
  LegibleTerm (suc k) S (constant z) = Unit {0}
  LegibleTerm (suc k) S (scalar_at n) = ltb n H.scalars ≡ true
  LegibleTerm (suc k) S (local_at l) = (ltb l H.locals ≡ true) × (has l S ≡ true)
  LegibleTerm (suc k) S (parameter n) = ltb n H.parameters ≡ true
  LegibleTerm (suc k) S (element_at a t) = (ltb a H.arrays ≡ true) × LegibleTerm k S t
  LegibleTerm (suc k) S (apply o s t) = LegibleTerm k S s × LegibleTerm k S t

  unfoldable pub Legible : ℕ → Locals → Formula → Type 0
  Legible zero S F = ⊥
  Legible (suc k) S truth = Unit {0}
  Legible (suc k) S (and F G) = Legible k S F × Legible k S G
  Legible (suc k) S (or F G) = Legible k S F × Legible k S G
  Legible (suc k) S (imp tok F G) = Legible k S F × Legible k S G
  Legible (suc k) S (neg tok F) = Legible k S F
  Legible (suc k) S (eq tok s t) = LegibleTerm k S s × LegibleTerm k S t
  Legible (suc k) S (compare tok r s t) = LegibleTerm k S s × LegibleTerm k S t
  Legible (suc k) S (ex l F) = (ltb l H.locals ≡ true) × Legible k (l ∷ S) F
  Legible (suc k) S (some tok l a b F) = (ltb l H.locals ≡ true) × LegibleTerm k S a × LegibleTerm k S b × Legible k (l ∷ S) F
  Legible (suc k) S (all tok l a b F) = (ltb l H.locals ≡ true) × LegibleTerm k S a × LegibleTerm k S b × Legible k (l ∷ S) F
  Legible (suc k) S (call K ts F) =
      Deep k × (ltb K (length H.called) ≡ true) × (length ts ≡ get_or H.called K 0) × Each (LegibleTerm k S) ts

  term-deep : (k : ℕ) (S : Locals) (t : Term) → LegibleTerm k S t → Deep k
  unfolding LegibleTerm
  term-deep zero S t h = h
  term-deep (suc k) S t h = tt

  pub legible-deep : (k : ℕ) (S : Locals) (F : Formula) → Legible k S F → Deep k
  unfolding Legible
  legible-deep zero S F h = h
  legible-deep (suc k) S F h = tt

  -- without empty ranges it is no deeper
  pub legible-dropped : (k : ℕ) (S : Locals) (F : Formula) → Legible k S F → Legible k S (dropped F)
  unfolding LegibleTerm Legible dropped
  legible-dropped zero S F h = h
  legible-dropped (suc k) S truth h = h
  legible-dropped (suc k) S (and F G) h = (legible-dropped k S F h.0, legible-dropped k S G h.1)
  legible-dropped (suc k) S (or F G) h = (legible-dropped k S F h.0, legible-dropped k S G h.1)
  legible-dropped (suc k) S (imp tok F G) h = (legible-dropped k S F h.0, legible-dropped k S G h.1)
  legible-dropped (suc k) S (neg tok F) h = legible-dropped k S F h
  legible-dropped (suc k) S (eq tok s t) h = h
  legible-dropped (suc k) S (compare tok r s t) h = h
  legible-dropped (suc k) S (ex l F) h = (h.0, legible-dropped k (l ∷ S) F h.1)
  legible-dropped (suc k) S (some tok l a b F) h =
      go (empty_range a b) k (term-deep k S a h.1) (h.0, h.1, h.2, legible-dropped k (l ∷ S) F h.3)
    where
      go : (e : Bool) (k : ℕ) → Deep k → Legible (suc k) S (some tok l a b (dropped F)) →
          Legible (suc k) S (pick e (falsehood tok) (some tok l a b (dropped F)))
      go true zero d h = absurd d
      go true (suc k) d h = (tt, tt)
      go false k d h = h
  legible-dropped (suc k) S (all tok l a b F) h = go (empty_range a b) (h.0, h.1, h.2, legible-dropped k (l ∷ S) F h.3)
    where
      go : (e : Bool) → Legible (suc k) S (all tok l a b (dropped F)) → Legible (suc k) S (pick e truth (all tok l a b (dropped F)))
      go true h = tt
      go false h = h
  legible-dropped (suc k) S (call K ts F) h = h

-- ---- binders

-- the locals with a binder in the line of a formula, in order
unfoldable pub binders : Formula → List ℕ
binders truth = []
binders (and F G) = binders F ++ binders G
binders (or F G) = binders F ++ binders G
binders (imp tok F G) = binders F ++ binders G
binders (neg tok F) = binders F
binders (eq tok s t) = []
binders (compare tok r s t) = []
binders (ex l F) = l ∷ binders F
binders (some tok l a b F) = l ∷ binders F
binders (all tok l a b F) = l ∷ binders F
binders (call K ts F) = []

-- one after the other they get a binder, and none has one
unfoldable pub added : List ℕ → Locals → Locals
added [] B = B
added (l ∷ ls) B = added ls (l ∷ B)

unfoldable pub Fresh : Locals → List ℕ → Type 0
Fresh B [] = Unit {0}
Fresh B (l ∷ ls) = (has l B ≡ false) × Fresh (l ∷ B) ls

pub added-++ : (ls ms : List ℕ) (B : Locals) → added ms (added ls B) ≡ added (ls ++ ms) B
unfolding added
added-++ [] ms B = refl
added-++ (l ∷ ls) ms B = added-++ ls ms (l ∷ B)

pub fresh-++ : (ls ms : List ℕ) (B : Locals) → Fresh B ls → Fresh (added ls B) ms → Fresh B (ls ++ ms)
unfolding added Fresh
fresh-++ [] ms B h k = k
fresh-++ (l ∷ ls) ms B h k = (h.0, fresh-++ ls ms (l ∷ B) h.1 k)

pub fresh-parts : (ls ms : List ℕ) (B : Locals) → Fresh B (ls ++ ms) → Fresh B ls × Fresh (added ls B) ms
unfolding added Fresh
fresh-parts [] ms B h = (tt, h)
fresh-parts (l ∷ ls) ms B h = let (x, y) = fresh-parts ls ms (l ∷ B) h.1 in ((h.0, x), y)

-- ---- fewer binders

-- the first list is the second without some of its members
pub data Part : List ℕ → List ℕ → Type 0 where
  none : Part [] []
  keep : (l : ℕ) {ls ms : List ℕ} → Part ls ms → Part (l ∷ ls) (l ∷ ms)
  skip : (l : ℕ) {ls ms : List ℕ} → Part ls ms → Part ls (l ∷ ms)

pub part_same : (ls : List ℕ) → Part ls ls
part_same [] = none
part_same (l ∷ ls) = keep l (part_same ls)

part_none : (ls : List ℕ) → Part [] ls
part_none [] = none
part_none (l ∷ ls) = skip l (part_none ls)

part-++ : {ls ms ns os : List ℕ} → Part ls ms → Part ns os → Part (ls ++ ns) (ms ++ os)
part-++ none k = k
part-++ (keep l h) k = keep l (part-++ h k)
part-++ (skip l h) k = skip l (part-++ h k)

pub binders-dropped : (F : Formula) → Part (binders (dropped F)) (binders F)
unfolding binders dropped
binders-dropped truth = none
binders-dropped (and F G) = part-++ (binders-dropped F) (binders-dropped G)
binders-dropped (or F G) = part-++ (binders-dropped F) (binders-dropped G)
binders-dropped (imp tok F G) = part-++ (binders-dropped F) (binders-dropped G)
binders-dropped (neg tok F) = binders-dropped F
binders-dropped (eq tok s t) = none
binders-dropped (compare tok r s t) = none
binders-dropped (ex l F) = keep l (binders-dropped F)
binders-dropped (some tok l a b F) = go (empty_range a b) (binders-dropped F)
  where
    go : (e : Bool) → Part (binders (dropped F)) (binders F) → Part (binders (pick e (falsehood tok) (some tok l a b (dropped F)))) (l ∷ binders F)
    go true h = part_none (l ∷ binders F)
    go false h = keep l h
binders-dropped (all tok l a b F) = go (empty_range a b) (binders-dropped F)
  where
    go : (e : Bool) → Part (binders (dropped F)) (binders F) → Part (binders (pick e truth (all tok l a b (dropped F)))) (l ∷ binders F)
    go true h = part_none (l ∷ binders F)
    go false h = keep l h
binders-dropped (call K ts F) = none

-- where fewer have a binder before, fewer have one after
sub-skip : (B C : Locals) (l : ℕ) → Sub B C → Sub B (l ∷ C)
unfolding has
sub-skip B C l s j h = go (eqb j l)
  where
    go : (b : Bool) → b || has j C ≡ true
    go true = refl
    go false = s j h

pub added-part : {ls ms : List ℕ} → Part ls ms → (B C : Locals) → Sub B C → Sub (added ls B) (added ms C)
unfolding added
added-part none B C s = s
added-part (keep l h) B C s = added-part h (l ∷ B) (l ∷ C) (sub-both B C l s)
added-part (skip l h) B C s = added-part h B (l ∷ C) (sub-skip B C l s)

pub fresh-part : {ls ms : List ℕ} → Part ls ms → (B C : Locals) → Sub B C → Fresh C ms → Fresh B ls
unfolding Fresh
fresh-part none B C s h = tt
fresh-part (keep l p) B C s h = (fresh B C l s h.0, fresh-part p (l ∷ B) (l ∷ C) (sub-both B C l s) h.1)
fresh-part (skip l p) B C s h = fresh-part p B (l ∷ C) (sub-skip B C l s) h.1
