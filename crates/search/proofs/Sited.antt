-- The tree that the walk knows is the specification's: from a site that tracks the valuation, `grow_at` is `grow`, and so the tree of the
-- walk's start is the tree of the sheet's formula. Assumes nothing.
use Prim.Native.Nat.{ℕ, zero, suc, ◌+◌, ◌<◌}
use mathlib.Core.Path.{◌≡◌, refl, ap, ap₂, fun_ext}
use mathlib.Core.List.{[], ◌∷◌}
use lib.Dec.{T}
use lib.IntN.{ℤ, pos, ◌+ℤ◌}
use Rattle.specification.specs.Lines.{Declared}
use Rattle.specification.specs.Ast.{Term, Formula, truth, and, or, imp, neg, eq, compare, ex, some, all, call}
use Rattle.specification.specs.Arithmetic.{eq_z, count}
use Rattle.specification.specs.Place.{Place, local, put}
use Rattle.specification.specs.Value.{Slot, empty, full, Valuation, allowed, Side, val, bare, err, pair_of, side}
use Rattle.specification.specs.WellFormed.{Scope, nowhere, enter, OkTerm, Ok}
use Rattle.specification.specs.Outside.{binds}
use Rattle.specification.specs.Tree.{step, fork, Rest, assign, equate, sons, rounds, denied, implied, done_inside, grow, tree_of}
use Rattle.specification.proofs.Laws.Value.{sane-bare}
use Rattle.specification.proofs.Laws.Outside.{and-within, or-within, imp-within, ex-within, some-within, all-within, Covers, covers-nowhere, covers-enter}
use Rattle.search.specs.States.{inner_root}
use Rattle.search.specs.Site.{Site, RestAt, root_site, son_site, bound_site, inner_site, given_site, assign_at, equate_at, rounds_at, done_at, grow_at}
use Rattle.search.specs.Frame.{form, tree_items}
use Rattle.search.proofs.Alike.{check-same, compared_same, bounded-same, enquire-same, denied-same, implied-same, fill_none}
use Rattle.search.proofs.Tracks.{Home, main, inner, Bound, Tracks, tracks-root, tracks-inner, tracks-son, tracks-bound, tracks-leave, tracks-given, done-main, done-inner}

-- ---- the tree

-- the home's formula binds the locals that F binds
abbrev Part : Home → Formula → Type 0
Part h F = (l : ℕ) → T (binds F l) → Bound h l

module _ (D : Declared) where
  -- the tree from a site is the tree from a valuation, wherever the site tracks it
  abbrev Alike : Scope → Home → RestAt → Rest → Type 0
  Alike S h k k' = (s : Site) (α : Valuation) → Tracks D S h s α → k s α ≡ k' α

  -- the same of a tree that begins with F
  abbrev Sited : Formula → Type 0
  Sited F =
      (S : Scope) (h : Home) → Ok D S F → Covers D S → Part h F → (k : RestAt) (k' : Rest) → Alike S h k k' →
      Alike S h (grow_at D F k) (grow D F k')

  -- and below a binder of l
  abbrev Below : Scope → Home → ℕ → (RestAt → RestAt) → (Rest → Rest) → Type 0
  Below S h l F F' =
      (k : RestAt) (k' : Rest) → Alike S h k k' → (x : Slot) (s : Site) (α : Valuation) → Tracks D S h s α →
      F k (bound_site l s) (put α (local l) x) ≡ F' k' (put α (local l) x)

  below-sited :
      (F : Formula) → Sited F → (S : Scope) (h : Home) (l : ℕ) → l < D.locals → Ok D (enter S l) F → Covers D S → Bound h l → Part h F →
      Below S h l (grow_at D F) (grow D F)
  below-sited F f S h l d o c b p k k' go x s α t =
      f (enter S l) h o (covers-enter D S l c d) p k k' (λ r β u. go r β (tracks-leave D S l u)) (bound_site l s) (put α (local l) x)
      (tracks-bound D S l x b t)

  -- the inner tree
  inner-sited :
      (F : Formula) → Sited F → (S : Scope) (h : Home) → Ok D S F → Covers D S → (s : Site) (α : Valuation) → Tracks D S h s α →
      grow_at D F done_at (inner_site s) α ≡ grow D F (done_inside D F α) α
  inner-sited F f S h o c s α t =
      f S (inner F α (s.depth + inner_root)) o c (λ l b. b) done_at (done_inside D F α) (λ r β u. done-inner u) (inner_site s) α (tracks-inner F o t)

  module _ (S : Scope) (h : Home) (k : RestAt) (k' : Rest) (go : Alike S h k k') where
    -- a son with the same valuation
    son-sited : (s : Site) (α : Valuation) → Tracks D S h s α → k (son_site s) α ≡ k' α
    son-sited s α t = go (son_site s) α (tracks-son t)

    module _ (c : Covers D S) (s : Site) (α : Valuation) (t : Tracks D S h s α) where
      -- the bare place that a term names gets a value
      given-sited :
          (a : Term) → OkTerm D S a → (p : Place) (v : ℤ) → side D α a ≡ bare p →
          assign_at D p v k s α ≡ assign D p v k' α
      given-sited a o p v e =
          let b = sane-bare D S α a o p e in
          check-same (allowed D p v) (λ β. k (given_site p s) (put β p (full v))) (λ β. k' (put β p (full v))) α
          (go (given_site p s) (put α p (full v)) (tracks-given D S c p v b.0 s α b.1 t))

      equate-sited :
          (tok : ℕ) (a b : Term) → OkTerm D S a → OkTerm D S b → (x y : Side) → side D α a ≡ x → side D α b ≡ y →
          equate_at D tok x y k s α ≡ equate D tok x y k' α
      unfolding equate_at equate
      equate-sited tok a b oa ob (val x) (val y) e f = check-same (eq_z x y) (k (son_site s)) k' α (son-sited s α t)
      equate-sited tok a b oa ob (val x) (bare q) e f = given-sited b ob q x f
      equate-sited tok a b oa ob (bare p) (val y) e f = given-sited a oa p y e
      equate-sited tok a b oa ob (bare p) (bare q) e f = refl
      equate-sited tok a b oa ob (bare p) (err κ) e f = refl
      equate-sited tok a b oa ob (val x) (err κ) e f = refl
      equate-sited tok a b oa ob (err κ) y e f = refl

    -- `all`, by the values left
    rounds-sited :
        (l : ℕ) (F : RestAt → RestAt) (F' : Rest → Rest) → Below S h l F F' → (n : ℕ) (v : ℤ) →
        Alike S h (rounds_at F l k n v) (rounds F' l k' n v)
    unfolding rounds_at rounds
    rounds-sited l F F' f zero v s α t = ap step (son-sited s α t)
    rounds-sited l F F' f (suc n) v s α t =
        ap step (f (λ r β. rounds_at F l k n (v +ℤ pos 1) r β) (λ β. rounds F' l k' n (v +ℤ pos 1) β)
        (rounds-sited l F F' f n (v +ℤ pos 1)) (full v) s α t)

  sited : (F : Formula) → Sited F
  unfolding grow_at grow Ok binds
  sited truth S h o c p k k' go s α t = ap step (son-sited S h k k' go s α t)
  sited (eq tok a b) S h o c p k k' go s α t =
      ap step (equate-sited S h k k' go c s α t tok a b o.0 o.1 (side D α a) (side D α b) refl refl)
  sited (compare tok r a b) S h o c p k k' go s α t =
      ap step (compared_same tok r (pair_of (side D α a) (side D α b)) (k (son_site s)) k' α (son-sited S h k k' go s α t))
  sited (or F G) S h o c p k k' go s α t =
      let w = or-within F G in
      ap₂ fork (sited F S h o.0 c (λ l b. p l (w.0 l b)) k k' go (son_site s) α (tracks-son t))
      (sited G S h o.1 c (λ l b. p l (w.1 l b)) k k' go (son_site s) α (tracks-son t))
  sited (and F G) S h o c p k k' go s α t =
      let w = and-within F G in
      ap step (sited F S h o.0 c (λ l b. p l (w.0 l b)) (λ r β. grow_at D G k r β) (λ β. grow D G k' β)
      (sited G S h o.1 c (λ l b. p l (w.1 l b)) k k' go) (son_site s) α (tracks-son t))
  sited (imp tok F G) S h o c p k k' go s α t =
      let w = imp-within tok F G in
      enquire-same (λ β. grow_at D F done_at (inner_site s) β) (λ β. grow D F (done_inside D F α) β)
      (λ v. implied tok v (λ β. grow_at D G k (son_site s) β) (k (son_site s))) (λ v. implied tok v (λ β. grow D G k' β) k') α
      (inner-sited F (sited F) S h o.0 c s α t)
      (λ v. implied-same tok v (λ β. grow_at D G k (son_site s) β) (λ β. grow D G k' β) (k (son_site s)) k' α
      (sited G S h o.1 c (λ l b. p l (w.1 l b)) k k' go (son_site s) α (tracks-son t)) (son-sited S h k k' go s α t))
  sited (neg tok F) S h o c p k k' go s α t =
      enquire-same (λ β. grow_at D F done_at (inner_site s) β) (λ β. grow D F (done_inside D F α) β) (λ v. denied tok v (k (son_site s)))
      (λ v. denied tok v k') α (inner-sited F (sited F) S h o c s α t)
      (λ v. denied-same tok v (k (son_site s)) k' α (son-sited S h k k' go s α t))
  sited (ex l F) S h o c p k k' go s α t =
      let w = ex-within l F in
      ap step (below-sited F (sited F) S h l o.0 o.2 c (p l w.0) (λ j b. p j (w.1 j b)) k k' go empty s α t)
  sited (some tok l a b F) S h o c p k k' go s α t =
      let w = some-within tok l a b F in
      bounded-same tok (pair_of (side D α a) (side D α b))
      (λ x y β. sons x (count x y) (λ i. grow_at D F k (bound_site l s) (put β (local l) (full (x +ℤ pos i)))))
      (λ x y β. sons x (count x y) (λ i. grow D F k' (put β (local l) (full (x +ℤ pos i))))) α
      (λ x y. ap (sons x (count x y)) (fun_ext (λ i.
      below-sited F (sited F) S h l o.2 o.4 c (p l w.0) (λ j b. p j (w.1 j b)) k k' go (full (x +ℤ pos i)) s α t)))
  sited (all tok l a b F) S h o c p k k' go s α t =
      let w = all-within tok l a b F in
      bounded-same tok (pair_of (side D α a) (side D α b)) (λ x y. rounds_at (λ g r β. grow_at D F g r β) l k (count x y) x s)
      (λ x y. rounds (λ g β. grow D F g β) l k' (count x y) x) α
      (λ x y. rounds-sited S h k k' go l (λ g r β. grow_at D F g r β) (λ g β. grow D F g β)
      (below-sited F (sited F) S h l o.2 o.4 c (p l w.0) (λ j b. p j (w.1 j b))) (count x y) x s α t)
  sited (call K ts F) S h o c p k k' go s α t = ap step (sited F S h o.2 c p k k' go (son_site s) α (tracks-son t))

  -- the tree of the walk's start
  pub root-sited : (F : Formula) → Ok D nowhere F → (α : Valuation) → tree_items D (form [] F ∷ []) root_site α ≡ tree_of D (F ∷ []) α
  unfolding tree_items tree_of
  root-sited F o α =
      rw (fill_none F) (sited F nowhere main o (covers-nowhere D) (λ l b. tt) (λ r β. tree_items D [] r β) (λ β. tree_of D [] β) (λ r β u. done-main u) root_site α
      (tracks-root D α))
