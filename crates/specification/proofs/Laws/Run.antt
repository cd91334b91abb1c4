-- Laws of a run: a list of visits is read part by part, each visit that is passed adds one to the nodes, and bytes are only added. What
-- comes of one visit is in Stops.antt. Assumes nothing.
use Prim.Native.Nat.{◌+◌}
use native.Mathlib.Omega.{arith}
use mathlib.Core.Path.{◌≡◌, refl, sym, ◌∙◌, ap}
use mathlib.Core.List.{List, [], ◌∷◌, ◌++◌, append_assoc, append-nil}
use lib.ListN.{length}
use Rattle.specification.specs.declared.Tallies.{Tallies}
use Rattle.specification.specs.Bytes.{Bytes}
use Rattle.specification.specs.Visits.{Visit, ◌then◌}
use Rattle.specification.specs.Run.{Conditions, Stop, Run, going, stopped, visit, scan}
use Rattle.specification.specs.Outcome.{result_of, written}
use Rattle.specification.proofs.Laws.Contradiction.{contradiction}
use Rattle.specification.proofs.Laws.Lists.{Begins}
use Rattle.specification.proofs.Laws.Stops.{added_under, counted, counted-nodes, at_stop, Meets, Passes, visit-stops, visit-passes, Comes, stops, passes, comes}

-- ---- bytes written

abbrev pub written_by : Run → Bytes
written_by r = written (result_of r)

begins-refl : (xs : Bytes) → Begins xs xs
begins-refl xs = ([], sym (append-nil xs))

begins-trans : (xs ys zs : Bytes) → Begins xs ys → Begins ys zs → Begins xs zs
begins-trans xs ys zs p q = (p.0 ++ q.0, q.1 ∙ ap (◌++ q.0) p.1 ∙ append_assoc xs p.0 q.0)

-- ---- a list of visits

pub then-is-++ : (xs ys : List Visit) → xs then ys ≡ xs ++ ys
unfolding ◌then◌
then-is-++ [] ys = refl
then-is-++ (x ∷ xs) ys = ap (x ∷◌) (then-is-++ xs ys)

module _ (C : Conditions) where
  pub scan-stopped : (e : Stop) (t : Tallies) (w : Bytes) (vs : List Visit) → scan C (stopped e t w) vs ≡ stopped e t w
  unfolding scan
  scan-stopped e t w [] = refl
  scan-stopped e t w (v ∷ vs) = refl

  pub scan-append : (s : Run) (xs ys : List Visit) → scan C s (xs then ys) ≡ scan C (scan C s xs) ys
  unfolding scan ◌then◌
  scan-append s [] ys = refl
  scan-append (going t w) (x ∷ xs) ys = scan-append (visit C x t w) xs ys
  scan-append (stopped e t w) (x ∷ xs) ys = sym (scan-stopped e t w ys)

  -- a visit that meets a stop is the last, and one that passes is followed by the others
  module _ (v : Visit) (vs : List Visit) (t : Tallies) (w : Bytes) where
    pub scan-stops : (e : Stop) → Meets C e v t w → scan C (going t w) (v ∷ vs) ≡ stopped e (at_stop e t) w
    unfolding scan
    scan-stops e m = rw (visit-stops C e v t w m, scan-stopped e (at_stop e t) w vs)

    pub scan-passes : Passes C v t w →
        scan C (going t w) (v ∷ vs) ≡ scan C (going (counted v.event t) (w ++ added_under C t v.event)) vs
    unfolding scan
    scan-passes m = rw (visit-passes C v t w m)

    -- a run that is still going has passed the first visit
    pub scan-going : (t' : Tallies) (w' : Bytes) → scan C (going t w) (v ∷ vs) ≡ going t' w' →
        Passes C v t w × (scan C (going (counted v.event t) (w ++ added_under C t v.event)) vs ≡ going t' w')
    scan-going t' w' h = go (comes C v t w)
      where
        go : Comes C v t w →
            Passes C v t w × (scan C (going (counted v.event t) (w ++ added_under C t v.event)) vs ≡ going t' w')
        go (stops e m) = let q = scan-stops e m in contradiction cc
        go (passes m) = (m, sym (scan-passes m) ∙ h)

  -- what holds at the end of the visits, at each stop, and before a visit that is passed if it holds after it, holds of every run
  pub scan-induction : (P : Tallies → Bytes → List Visit → Run → Type 0) →
      ((t : Tallies) (w : Bytes) → P t w [] (going t w)) →
      ((v : Visit) (vs : List Visit) (t : Tallies) (w : Bytes) (e : Stop) → Meets C e v t w → P t w (v ∷ vs) (stopped e (at_stop e t) w)) →
      ((v : Visit) (vs : List Visit) (t : Tallies) (w : Bytes) (r : Run) → Passes C v t w →
      P (counted v.event t) (w ++ added_under C t v.event) vs r → P t w (v ∷ vs) r) →
      (vs : List Visit) (t : Tallies) (w : Bytes) → P t w vs (scan C (going t w) vs)
  unfolding scan
  scan-induction P f g k [] t w = f t w
  scan-induction P f g k (v ∷ vs) t w =
      go (comes C v t w) (scan-induction P f g k vs (counted v.event t) (w ++ added_under C t v.event))
    where
      r : Run
      r = scan C (going (counted v.event t) (w ++ added_under C t v.event)) vs

      go : Comes C v t w → P (counted v.event t) (w ++ added_under C t v.event) vs r →
          P t w (v ∷ vs) (scan C (going t w) (v ∷ vs))
      go (stops e m) ih = rw (scan-stops v vs t w e m) (g v vs t w e m)
      go (passes m) ih = rw (scan-passes v vs t w m) (k v vs t w r m ih)

  -- each visit that is passed adds one to the nodes
  pub scan-nodes : (xs : List Visit) (t t' : Tallies) (w w' : Bytes) →
      scan C (going t w) xs ≡ going t' w' → t'.nodes ≡ t.nodes + length xs
  unfolding scan
  scan-nodes [] t t' w w' h =
      let q : t ≡ t' = cc in
      let k : t.nodes ≡ t'.nodes = ap (λ u. u.nodes) q in
      omega arith
  scan-nodes (x ∷ xs) t t' w w' h =
      let k = scan-nodes xs (counted x.event t) t' (w ++ added_under C t x.event) w' (scan-going x xs t w t' w' h).1 in
      omega (arith, counted-nodes x.event t)

  -- bytes are only added
  pub scan-grows : (s : Run) (vs : List Visit) → Begins (written_by s) (written_by (scan C s vs))
  scan-grows (going t w) vs =
      scan-induction (λ t w vs r. Begins w (written_by r)) (λ t w. begins-refl w) (λ v vs t w e m. begins-refl w)
      (λ v vs t w r m p. begins-trans w (w ++ added_under C t v.event) (written_by r) (added_under C t v.event, refl) p) vs t w
  scan-grows (stopped e t w) vs = rw (scan-stopped e t w vs) (begins-refl w)
