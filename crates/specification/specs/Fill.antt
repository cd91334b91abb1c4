-- A formula with terms in place of its parameters (the paper, 1.4.1): what a call means. Assumes nothing.
use Rattle.std.specs.Prelude.{List, [], ◌∷◌, get_or}
use Rattle.specification.specs.Ast.{Term, constant, scalar_at, local_at, parameter, element_at, apply, Formula, truth, and, or, imp, neg, eq, compare, ex, some, all, call}

-- the terms stand for the parameters p0, p1, .. in order
unfoldable pub fill_term : List Term → Term → Term
fill_term ts (constant z) = constant z
fill_term ts (scalar_at c) = scalar_at c
fill_term ts (local_at l) = local_at l
fill_term ts (parameter n) = get_or ts n (parameter n)
fill_term ts (element_at a t) = element_at a (fill_term ts t)
fill_term ts (apply o s t) = apply o (fill_term ts s) (fill_term ts t)

unfoldable pub fill_terms : List Term → List Term → List Term
fill_terms ts [] = []
fill_terms ts (u ∷ us) = fill_term ts u ∷ fill_terms ts us

unfoldable pub fill : List Term → Formula → Formula
fill ts truth = truth
fill ts (and F G) = and (fill ts F) (fill ts G)
fill ts (or F G) = or (fill ts F) (fill ts G)
fill ts (imp tok F G) = imp tok (fill ts F) (fill ts G)
fill ts (neg tok F) = neg tok (fill ts F)
fill ts (eq tok s t) = eq tok (fill_term ts s) (fill_term ts t)
fill ts (compare tok r s t) = compare tok r (fill_term ts s) (fill_term ts t)
fill ts (ex l F) = ex l (fill ts F)
fill ts (some tok l a b F) = some tok l (fill_term ts a) (fill_term ts b) (fill ts F)
fill ts (all tok l a b F) = all tok l (fill_term ts a) (fill_term ts b) (fill ts F)
fill ts (call K us F) = call K (fill_terms ts us) (fill ts F)
