-- Other terms in place of a formula's parameters, which are the same as the first ones under every valuation that extends the present one:
-- the formula's tree is the same. So a call's arguments may be valued where the call is entered. Assumes nothing.
use Prim.Native.Nat.{ℕ, zero, suc}
use mathlib.Core.Path.{◌≡◌, refl, ◌∙◌, ap, ap₂, fun_ext}
use mathlib.Core.Bool.{not}
use mathlib.Core.List.{List}
use lib.ListN.{get_or}
use lib.Dec.{T, T_not, not_T}
use lib.IntN.{ℤ, pos, ◌+ℤ◌}
use Rattle.specification.specs.Lines.{Declared}
use Rattle.specification.specs.Ast.{Term, constant, scalar_at, local_at, parameter, element_at, apply, Formula, truth, and, or, imp, neg, eq, compare, ex, some, all, call}
use Rattle.specification.specs.Fill.{fill_term, fill}
use Rattle.specification.specs.Arithmetic.{eq_z, count}
use Rattle.specification.specs.Place.{Place, local, put}
use Rattle.specification.specs.Value.{Slot, empty, full, Valuation, Side, val, bare, err, pair_of, operate, element_side, side, allowed}
use Rattle.specification.specs.WellFormed.{Scope, enter, OkTerm, Ok}
use Rattle.specification.specs.Tree.{step, fork, compared, bounded, sons, denied, implied}
use Rattle.specification.proofs.Laws.Scope.{Ext}
use Rattle.specification.proofs.Laws.Place.{put_other, ext_trans, ext-put, in-fresh}
use Rattle.specification.proofs.Laws.Fill.{Larger, larger-more}
use Rattle.specification.proofs.Laws.Value.{sane-bare}
use Rattle.search.specs.Site.{Site, RestAt, son_site, bound_site, inner_site, given_site, assign_at, equate_at, rounds_at, done_at, grow_at}
use Rattle.search.proofs.Alike.{check-same, compared_same, bounded-same, enquire-same, denied-same, implied-same}

module _ (D : Declared) (S : Scope) (α : Valuation) where
  -- ---- valuations that extend α

  -- the same tree for each of them, from every site
  abbrev Alike : RestAt → RestAt → Type 0
  Alike k k' = (s : Site) (β : Valuation) → Ext D S α β → k s β ≡ k' s β

  -- a local that is not in scope changes
  ext-bound : (l : ℕ) → T (not (S l)) → (β : Valuation) (x : Slot) → Ext D S α β → Ext D S α (put β (local l) x)
  ext-bound l n β x e q i v h = put_other β (local l) x q (in-fresh D S l n q i) ∙ e q i v h

  -- a bare place gets a value
  ext-given : (β : Valuation) (p : Place) (v : ℤ) → β p ≡ empty → Ext D S α β → Ext D S α (put β p (full v))
  ext-given β p v b e = ext_trans D S α β (put β p (full v)) e (ext-put D S β p (full v) b)

  -- below a binder of l
  abbrev Below : ℕ → (RestAt → RestAt) → (RestAt → RestAt) → Type 0
  Below l F F' =
      (k k' : RestAt) → Alike k k' → (x : Slot) (s : Site) (β : Valuation) → Ext D S α β →
      F k (bound_site l s) (put β (local l) x) ≡ F' k' (bound_site l s) (put β (local l) x)

  -- ---- nodes whose rest is alike

  module _ (k k' : RestAt) (go : Alike k k') where
    assign_alike : (p : Place) (v : ℤ) (s : Site) (β : Valuation) → β p ≡ empty → Ext D S α β → assign_at D p v k s β ≡ assign_at D p v k' s β
    assign_alike p v s β none e =
        check-same (allowed D p v) (λ γ. k (given_site p s) (put γ p (full v))) (λ γ. k' (given_site p s) (put γ p (full v))) β
        (go (given_site p s) (put β p (full v)) (ext-given β p v none e))

    equate-alike :
        (tok : ℕ) (x y : Side) (s : Site) (β : Valuation) → ((p : Place) → x ≡ bare p → β p ≡ empty) → ((p : Place) → y ≡ bare p → β p ≡ empty) →
        Ext D S α β → equate_at D tok x y k s β ≡ equate_at D tok x y k' s β
    unfolding equate_at
    equate-alike tok (val x) (val y) s β f g e = check-same (eq_z x y) (k (son_site s)) (k' (son_site s)) β (go (son_site s) β e)
    equate-alike tok (val x) (bare q) s β f g e = assign_alike q x s β (g q refl) e
    equate-alike tok (bare p) (val y) s β f g e = assign_alike p y s β (f p refl) e
    equate-alike tok (bare p) (bare q) s β f g e = refl
    equate-alike tok (bare p) (err κ) s β f g e = refl
    equate-alike tok (val x) (err κ) s β f g e = refl
    equate-alike tok (err κ) y s β f g e = refl

    rounds-alike : (l : ℕ) (F F' : RestAt → RestAt) → Below l F F' → (n : ℕ) (v : ℤ) → Alike (rounds_at F l k n v) (rounds_at F' l k' n v)
    unfolding rounds_at
    rounds-alike l F F' f zero v s β e = ap step (go (son_site s) β e)
    rounds-alike l F F' f (suc n) v s β e =
        ap step (f (λ t γ. rounds_at F l k n (v +ℤ pos 1) t γ) (λ t γ. rounds_at F' l k' n (v +ℤ pos 1) t γ)
        (rounds-alike l F F' f n (v +ℤ pos 1)) (full v) s β e)

  -- ---- terms that are the same

  module _ (ts us : List Term) (same : (β : Valuation) → Ext D S α β → (n : ℕ) → side D β (get_or ts n (parameter n)) ≡ side D β (get_or us n (parameter n))) where
    term-same : (t : Term) (β : Valuation) → Ext D S α β → side D β (fill_term ts t) ≡ side D β (fill_term us t)
    unfolding fill_term side
    term-same (constant z) β e = refl
    term-same (scalar_at c) β e = refl
    term-same (local_at l) β e = refl
    term-same (parameter n) β e = same β e n
    term-same (element_at a t) β e = ap (element_side D β a) (term-same t β e)
    term-same (apply o s t) β e = ap₂ (λ x y. operate o (pair_of x y)) (term-same s β e) (term-same t β e)

    pair_same : (s t : Term) (β : Valuation) → Ext D S α β →
        pair_of (side D β (fill_term ts s)) (side D β (fill_term ts t)) ≡ pair_of (side D β (fill_term us s)) (side D β (fill_term us t))
    pair_same s t β e = ap₂ pair_of (term-same s β e) (term-same t β e)

    -- ---- the tree of a formula in a scope that has S

    abbrev Same : Formula → Type 0
    Same F =
        (S' : Scope) → Larger S S' → Ok D S' (fill ts F) → (k k' : RestAt) → Alike k k' →
        Alike (grow_at D (fill ts F) k) (grow_at D (fill us F) k')

    below-same : (F : Formula) → Same F → (S' : Scope) → Larger S S' → (l : ℕ) → T (not (S' l)) → Ok D (enter S' l) (fill ts F) →
        Below l (grow_at D (fill ts F)) (grow_at D (fill us F))
    below-same F f S' w l n o k k' go x s β e =
        f (enter S' l) (larger-more S S' l w) o k k' go (bound_site l s) (put β (local l) x)
        (ext-bound l (not_T (S l) (λ t. T_not (S' l) n (w l t))) β x e)

    bare-place : (S' : Scope) (t : Term) → OkTerm D S' (fill_term ts t) → (β : Valuation) (p : Place) → side D β (fill_term ts t) ≡ bare p → β p ≡ empty
    bare-place S' t o β p e = (sane-bare D S' β (fill_term ts t) o p e).1

    pub fill-same : (F : Formula) → Same F
    unfolding fill Ok grow_at
    fill-same truth S' w o k k' go s β e = ap step (go (son_site s) β e)
    fill-same (eq tok a b) S' w o k k' go s β e =
        ap step
        (equate-alike k k' go tok (side D β (fill_term ts a)) (side D β (fill_term ts b)) s β (bare-place S' a o.0 β) (bare-place S' b o.1 β) e ∙
        ap₂ (λ x y. equate_at D tok x y k' s β) (term-same a β e) (term-same b β e))
    fill-same (compare tok r a b) S' w o k k' go s β e =
        ap step
        (compared_same tok r (pair_of (side D β (fill_term ts a)) (side D β (fill_term ts b))) (k (son_site s)) (k' (son_site s)) β (go (son_site s) β e) ∙
        ap (λ p. compared tok r p (k' (son_site s)) β) (pair_same a b β e))
    fill-same (or F G) S' w o k k' go s β e =
        ap₂ fork (fill-same F S' w o.0 k k' go (son_site s) β e) (fill-same G S' w o.1 k k' go (son_site s) β e)
    fill-same (and F G) S' w o k k' go s β e =
        ap step
        (fill-same F S' w o.0 (λ t γ. grow_at D (fill ts G) k t γ) (λ t γ. grow_at D (fill us G) k' t γ)
        (fill-same G S' w o.1 k k' go) (son_site s) β e)
    fill-same (imp tok F G) S' w o k k' go s β e =
        enquire-same (λ γ. grow_at D (fill ts F) done_at (inner_site s) γ) (λ γ. grow_at D (fill us F) done_at (inner_site s) γ)
        (λ v. implied tok v (λ γ. grow_at D (fill ts G) k (son_site s) γ) (k (son_site s)))
        (λ v. implied tok v (λ γ. grow_at D (fill us G) k' (son_site s) γ) (k' (son_site s))) β
        (fill-same F S' w o.0 done_at done_at (λ t γ x. refl) (inner_site s) β e)
        (λ v. implied-same tok v (λ γ. grow_at D (fill ts G) k (son_site s) γ) (λ γ. grow_at D (fill us G) k' (son_site s) γ) (k (son_site s))
        (k' (son_site s)) β (fill-same G S' w o.1 k k' go (son_site s) β e) (go (son_site s) β e))
    fill-same (neg tok F) S' w o k k' go s β e =
        enquire-same (λ γ. grow_at D (fill ts F) done_at (inner_site s) γ) (λ γ. grow_at D (fill us F) done_at (inner_site s) γ)
        (λ v. denied tok v (k (son_site s))) (λ v. denied tok v (k' (son_site s))) β
        (fill-same F S' w o done_at done_at (λ t γ x. refl) (inner_site s) β e)
        (λ v. denied-same tok v (k (son_site s)) (k' (son_site s)) β (go (son_site s) β e))
    fill-same (ex l F) S' w o k k' go s β e = ap step (below-same F (fill-same F) S' w l o.1 o.2 k k' go empty s β e)
    fill-same (some tok l a b F) S' w o k k' go s β e =
        bounded-same tok (pair_of (side D β (fill_term ts a)) (side D β (fill_term ts b)))
        (λ x y γ. sons x (count x y) (λ i. grow_at D (fill ts F) k (bound_site l s) (put γ (local l) (full (x +ℤ pos i)))))
        (λ x y γ. sons x (count x y) (λ i. grow_at D (fill us F) k' (bound_site l s) (put γ (local l) (full (x +ℤ pos i))))) β
        (λ x y. ap (sons x (count x y)) (fun_ext (λ i. below-same F (fill-same F) S' w l o.3 o.4 k k' go (full (x +ℤ pos i)) s β e))) ∙
        ap (λ p. bounded tok p (λ x y γ. sons x (count x y) (λ i. grow_at D (fill us F) k' (bound_site l s) (put γ (local l) (full (x +ℤ pos i))))) β)
        (pair_same a b β e)
    fill-same (all tok l a b F) S' w o k k' go s β e =
        bounded-same tok (pair_of (side D β (fill_term ts a)) (side D β (fill_term ts b)))
        (λ x y. rounds_at (λ g t γ. grow_at D (fill ts F) g t γ) l k (count x y) x s)
        (λ x y. rounds_at (λ g t γ. grow_at D (fill us F) g t γ) l k' (count x y) x s) β
        (λ x y. rounds-alike k k' go l (λ g t γ. grow_at D (fill ts F) g t γ) (λ g t γ. grow_at D (fill us F) g t γ)
        (below-same F (fill-same F) S' w l o.3 o.4) (count x y) x s β e) ∙
        ap (λ p. bounded tok p (λ x y. rounds_at (λ g t γ. grow_at D (fill us F) g t γ) l k' (count x y) x s) β) (pair_same a b β e)
    fill-same (call K vs F) S' w o k k' go s β e = ap step (fill-same F S' w o.2 k k' go (son_site s) β e)
