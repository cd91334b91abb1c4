-- Laws of the visits inside an inner tree: whether there is an answer among a tree's visits is its verdict, and what is read of one list and
-- then another. Assumes nothing.
use Prim.Native.Nat.{ℕ, zero, suc}
use mathlib.Core.Path.{◌≡◌, refl, ◌∙◌, ap}
use mathlib.Core.Bool.{Bool, true, false, ◌||◌, or_assoc}
use mathlib.Core.List.{List, [], ◌∷◌}
use Rattle.specification.specs.Bytes.{pick}
use Rattle.specification.specs.Tree.{Tree, success_leaf, failure_leaf, error_leaf, step, fork, fan, ask, Verdict, succeeds, fails, undecided, join, joined, verdict}
use Rattle.specification.specs.Leaves.{answer, error, fail}
use Rattle.specification.specs.Visits.{Event, node, leaf, Visit, at, ◌then◌, each, inside_then, inside, visits}

-- ---- whether there is an answer

abbrev is_answer : Event → Bool
is_answer node = false
is_answer (leaf fail) = false
is_answer (leaf (answer β)) = true
is_answer (leaf (error κ t β)) = false

unfoldable pub answered : List Visit → Bool
answered [] = false
answered (v ∷ vs) = is_answer v.event || answered vs

abbrev pub is_success : Verdict → Bool
is_success succeeds = true
is_success fails = false
is_success undecided = false

success-join : (v u : Verdict) → is_success (join v u) ≡ is_success v || is_success u
success-join succeeds u = refl
success-join fails u = refl
success-join undecided succeeds = refl
success-join undecided fails = refl
success-join undecided undecided = refl

answered-then : (xs ys : List Visit) → answered (xs then ys) ≡ answered xs || answered ys
unfolding answered ◌then◌
answered-then [] ys = refl
answered-then (x ∷ xs) ys = rw (answered-then xs ys, or_assoc (is_answer x.event))

-- ---- one list and then another, read inside an inner tree

-- the second is read where the first has no answer
pub inside-then : (xs ys : List Visit) → inside (xs then ys) ≡ inside xs then pick (answered xs) [] (inside ys)
unfolding answered inside ◌then◌
inside-then [] ys = refl
inside-then (x ∷ xs) ys = go x.event (inside-then xs ys)
  where
    go : (e : Event) → inside (xs then ys) ≡ inside xs then pick (answered xs) [] (inside ys) →
        inside_then x.depth e (inside (xs then ys)) ≡ inside_then x.depth e (inside xs) then pick (is_answer e || answered xs) [] (inside ys)
    go node h = ap (at x.depth node ∷◌) h
    go (leaf fail) h = ap (at x.depth node ∷◌) h
    go (leaf (answer β)) h = refl
    go (leaf (error κ t β)) h = ap (at x.depth node ∷◌) h

-- what is read inside an inner tree has no answer, and is read again as it is
module _ (ys : List Visit) where
  nodes-only : (d : ℕ) (e : Event) (vs : List Visit) → answered (vs then ys) ≡ answered ys → answered (inside_then d e vs then ys) ≡ answered ys
  unfolding answered ◌then◌
  nodes-only d node vs h = h
  nodes-only d (leaf fail) vs h = h
  nodes-only d (leaf (answer β)) vs h = refl
  nodes-only d (leaf (error κ t β)) vs h = h

  answered-inside : (xs : List Visit) → answered (inside xs then ys) ≡ answered ys
  unfolding inside ◌then◌
  answered-inside [] = refl
  answered-inside (x ∷ xs) = nodes-only x.depth x.event (inside xs) (answered-inside xs)

  pub inside-inside : (xs : List Visit) → inside (inside xs then ys) ≡ inside xs then inside ys
  unfolding inside ◌then◌
  inside-inside [] = refl
  inside-inside (x ∷ xs) = go x.event (inside-inside xs)
    where
      go : (e : Event) → inside (inside xs then ys) ≡ inside xs then inside ys →
          inside (inside_then x.depth e (inside xs) then ys) ≡ inside_then x.depth e (inside xs) then inside ys
      go node h = ap (at x.depth node ∷◌) h
      go (leaf fail) h = ap (at x.depth node ∷◌) h
      go (leaf (answer β)) h = refl
      go (leaf (error κ t β)) h = ap (at x.depth node ∷◌) h

-- ---- a tree's visits have an answer exactly where its verdict is success

answered-each : (n i : ℕ) (f : ℕ → List Visit) (judge : ℕ → Verdict) →
    ((j : ℕ) → answered (f j) ≡ is_success (judge j)) → answered (each n i f) ≡ is_success (joined n i judge)
unfolding answered each joined
answered-each zero i f judge h = refl
answered-each (suc n) i f judge h = rw (answered-then, h i, answered-each n (suc i) f judge h, success-join)

pub answered-visits : (T : Tree) (d : ℕ) → answered (visits d T) ≡ is_success (verdict T)
unfolding answered visits verdict
answered-visits (success_leaf β) d = refl
answered-visits failure_leaf d = refl
answered-visits (error_leaf κ t β) d = refl
answered-visits (step T) d = answered-visits T (suc d)
answered-visits (fork T U) d = rw (answered-then, answered-visits T (suc d), answered-visits U (suc d), success-join)
answered-visits (fan x n f) d = answered-each n 0 (λ i. visits (suc d) (f i)) (λ i. verdict (f i)) (λ j. answered-visits (f j) (suc d))
answered-visits (ask I T) d = answered-inside (visits (suc d) T) (visits (suc d) I) ∙ answered-visits T (suc d)
