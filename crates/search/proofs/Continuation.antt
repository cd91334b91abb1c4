-- What follows a tree, and laws of a scan that is followed by a continuation. Assumes nothing.
use Prim.Native.Nat.{ℕ}
use mathlib.Core.Path.{◌≡◌, refl, ◌∙◌, ap, fun_ext}
use mathlib.Core.Bool.{Bool, true, false}
use mathlib.Core.List.{List, [], ◌∷◌}
use lib.Dec.{ltb, eqb}
use Rattle.specification.specs.declared.Tallies.{Tallies}
use Rattle.specification.specs.Bytes.{Bytes, pick}
use Rattle.specification.specs.Tree.{Verdict, succeeds, fails, undecided, join}
use Rattle.specification.specs.Leaves.{Leaf}
use Rattle.specification.specs.Visits as visited
use Rattle.specification.specs.Visits.{Event, node, Visit, at, ◌then◌, inside}
use Rattle.specification.specs.Run.{Conditions, add_node, spent, path, Run, going, stopped, arrive, visit, scan}
use Rattle.specification.proofs.Laws.Run.{scan-stopped, scan-append}
use Rattle.search.specs.Walk.{Next, onto, flagged, gated, leaf}
use Rattle.search.proofs.Answers.{answered, is_success, inside-then, inside-inside}

-- ---- what follows a tree

-- an inner tree: y where it succeeds, else k with whether an error leaf was seen in it
abbrev pub choose : Verdict → Next → (Bool → Next) → Bool → Next
choose succeeds y k e = y
choose fails y k e = k e
choose undecided y k e = k true

-- a tree of either kind, and the visits that are read of it
abbrev pub after : Bool → Verdict → Next → (Bool → Next) → Bool → Next
after true v y k e = choose v y k e
after false v y k e = k e

abbrev pub seen : Bool → List Visit → List Visit
seen true vs = inside vs
seen false vs = vs

pub seen-nil : (m : Bool) → seen m [] ≡ []
unfolding inside
seen-nil true = refl
seen-nil false = refl

pub seen-node : (m : Bool) (d : ℕ) (vs : List Visit) → seen m (at d node ∷ vs) ≡ at d node ∷ seen m vs
unfolding inside
seen-node true d vs = refl
seen-node false d vs = refl

pub seen-inside : (m : Bool) (xs ys : List Visit) → seen m (inside xs then ys) ≡ inside xs then seen m ys
seen-inside true xs ys = inside-inside ys xs
seen-inside false xs ys = refl

pub after-fails : (m : Bool) (y : Next) (k : Bool → Next) (e : Bool) → after m fails y k e ≡ k e
after-fails true y k e = refl
after-fails false y k e = refl

-- what goes on by the verdict may go on by the flags
pub by_flags : (K : Verdict → Next) (v : Verdict) → choose v (K succeeds) (λ e. K (flagged e)) false ≡ K v
by_flags K succeeds = refl
by_flags K fails = refl
by_flags K undecided = refl

-- ---- a scan, and then k

module _ (C : Conditions) where
  unfoldable pub through : Next → List Visit → Next
  through k vs t w = onto k (scan C (going t w) vs)

  pub through-nil : (k : Next) → through k [] ≡ k
  unfolding through scan
  through-nil k = refl

  scan-onto : (k : Next) (vs : List Visit) (s : Run) → onto k (scan C s vs) ≡ onto (through k vs) s
  unfolding through
  scan-onto k vs (going t w) = refl
  scan-onto k vs (stopped e t w) = ap (onto k) (scan-stopped C e t w vs)

  pub through-then : (k : Next) (xs ys : List Visit) → through k (xs then ys) ≡ through (through k ys) xs
  unfolding through
  through-then k xs ys =
      fun_ext (λ t. fun_ext (λ w. ap (onto k) (scan-append C (going t w) xs ys) ∙ scan-onto k ys (scan C (going t w) xs)))

  -- a run that a limit stops does not go on
  onto-pick : (k : Next) (a b : Bool) (t : Tallies) (w : Bytes) (r : Run) →
      onto k (pick a (stopped spent t w) (pick b (stopped path t w) r)) ≡ pick a (stopped spent t w) (pick b (stopped path t w) (onto k r))
  onto-pick k true b t w r = refl
  onto-pick k false true t w r = refl
  onto-pick k false false t w r = refl

  -- a visit, and then the others
  through-visit : (k : Next) (d : ℕ) (v : Event) (vs : List Visit) →
      through k (at d v ∷ vs) ≡ gated C d (λ t w. onto (through k vs) (arrive C v t w))
  unfolding through scan visit gated
  through-visit k d v vs = fun_ext (λ t. fun_ext (λ w.
      scan-onto k vs (visit C (at d v) t w) ∙
      onto-pick (through k vs) (eqb t.nodes C.setting.budget) (ltb C.setting.path d) t w (arrive C v (add_node t) w)))

  pub through-leaf : (k : Next) (d : ℕ) (l : Leaf) (vs : List Visit) →
      through k (at d (visited.leaf l) ∷ vs) ≡ gated C d (leaf C l (through k vs))
  unfolding leaf
  through-leaf k d l vs = through-visit k d (visited.leaf l) vs

  pub through-node : (k : Next) (d : ℕ) (vs : List Visit) → through k (at d node ∷ vs) ≡ gated C d (through k vs)
  unfolding arrive
  through-node k d vs = through-visit k d node vs

  -- ---- one tree and then another

  -- xs are the visits of the first, whose verdict is v, and ys those of the second, whose verdict is u
  pub through-both : (m : Bool) (v u : Verdict) (xs ys : List Visit) (y : Next) (k second : Bool → Next) (e : Bool) →
      answered xs ≡ is_success v → ((e' : Bool) → second e' ≡ through (after m u y k e') (seen m ys)) →
      through (after m v y second e) (seen m xs) ≡ through (after m (join v u) y k e) (seen m (xs then ys))
  through-both false v u xs ys y k second e a h = rw (through-then, h e)
  through-both true v u xs ys y k second e a h = rw (inside-then, a) (go v u h)
    where
      go : (v u : Verdict) → ((e' : Bool) → second e' ≡ through (choose u y k e') (inside ys)) →
          through (choose v y second e) (inside xs) ≡ through (choose (join v u) y k e) (inside xs then pick (is_success v) [] (inside ys))
      go succeeds u h = rw (through-then, through-nil)
      go fails u h = rw (through-then, h e)
      go undecided succeeds h = rw (through-then, h true)
      go undecided fails h = rw (through-then, h true)
      go undecided undecided h = rw (through-then, h true)
