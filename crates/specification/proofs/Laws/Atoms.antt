-- The atoms are sound and complete. Assumes nothing.
use Prim.Native.Nat.{ℕ}
use mathlib.Core.Path.{◌≡◌, refl, subst}
use lib.Dec.{T}
use lib.IntN.{ℤ}
use Rattle.specification.specs.Lines.{Declared}
use Rattle.specification.specs.Ast.{Rel, Term, eq, compare}
use Rattle.specification.specs.Arithmetic.{eq_z}
use Rattle.specification.specs.Place.{Place, put}
use Rattle.specification.specs.Value.{full, Valuation, allowed, Side, val, bare, err, side}
use Rattle.specification.specs.WellFormed.{Scope, OkTerm, Ok, Valid}
use Rattle.specification.specs.Tree.{Rest, assign, equate, grow}
use Rattle.specification.specs.Plain.{Env, Has, Truth}
use Rattle.specification.proofs.Laws.Allowed.{fits-allowed}
use Rattle.specification.proofs.Laws.Scope.{Every, Any, Agree, Ext}
use Rattle.specification.proofs.Laws.Place.{put_same, valid-put, ext_refl, agree-ext, ext-put, agree-put}
use Rattle.specification.proofs.Laws.Range.{eq_z-eq, eq_z-refl}
use Rattle.specification.proofs.Laws.Value.{has-val, has-bare, same-val, sane-val, sane-bare}
use Rattle.specification.proofs.Laws.Every.{check-every, compared-every, check-any, compared-any}
use Rattle.specification.proofs.Laws.Correct.{Sound, Complete}

-- ---- `eq`

module _ (D : Declared) (S : Scope) (tok : ℕ) (k : Rest) (α : Valuation) (v : Valid D α) where
  -- s has a value, t is a bare place, which is assigned it
  module _ (s t : Term) (os : OkTerm D S s) (ot : OkTerm D S t) (x : ℤ) (p : Place) (e : side D α s ≡ val x) (f : side D α t ≡ bare p) where
    assigned-sound :
        (P : Valuation → Type 0) →
        ((β : Valuation) → Ext D S α β → Valid D β → ((ρ : Env) → Agree D S ρ β → Has D ρ s x × Has D ρ t x) → Every P (k β)) →
        Every P (assign D p x k α)
    assigned-sound P go =
        let b = sane-bare D S α t ot p f in
        let β = put α p (full x) in
        let w = ext-put D S α p (full x) b.1 in
        check-every P (allowed D p x) (λ β. k (put β p (full x))) α (λ may.
        go β w (valid-put D α p (full x) v may) (λ ρ a.
        let a' = agree-ext D S ρ α β w a in
        (has-val D S ρ α a' s os x e, subst (Has D ρ t) (a.1 p b.0 x (put_same α p (full x))) (has-bare D S ρ α a' t ot p f))))

    assigned-complete :
        (ρ : Env) → Agree D S ρ α → (z : ℤ) → Has D ρ s z → Has D ρ t z → (Q : Valuation → Type 0) →
        ((β : Valuation) → Valid D β → Agree D S ρ β → Any Q (k β)) → Any Q (assign D p x k α)
    assigned-complete ρ a z hs ht Q go =
        let may = fits-allowed D S ρ a.0 p (sane-bare D S α t ot p f).0 x held (sane-val D S α v s os x e) in
        check-any Q (allowed D p x) (λ β. k (put β p (full x))) α may
        (go (put α p (full x)) (valid-put D α p (full x) v may) (agree-put D S ρ α p (full x) (λ i w g. (cc (held, g))) a))
      where
        held : ρ p ≡ x
        held =
            let hx = same-val D S ρ α a s os x z e hs in
            let hp = has-bare D S ρ α a t ot p f in cc

  module _ (s t : Term) (os : OkTerm D S s) (ot : OkTerm D S t) where
    equate-sound :
        (P : Valuation → Type 0) →
        ((β : Valuation) → Ext D S α β → Valid D β → ((ρ : Env) → Agree D S ρ β → Truth D ρ (eq tok s t)) → Every P (k β)) →
        (x y : Side) → side D α s ≡ x → side D α t ≡ y → Every P (equate D tok x y k α)
    unfolding Every equate Truth
    equate-sound P go (val x) (val y) e f =
        check-every P (eq_z x y) k α (λ q. go α (ext_refl D S α) v (λ ρ a.
        (x, has-val D S ρ α a s os x e, rw (eq_z-eq x y q) (has-val D S ρ α a t ot y f))))
    equate-sound P go (val x) (bare p) e f =
        assigned-sound s t os ot x p e f P (λ β w vb h. go β w vb (λ ρ a. let g = h ρ a in (x, g.0, g.1)))
    equate-sound P go (val x) (err κ) e f = tt
    equate-sound P go (bare p) (val y) e f =
        assigned-sound t s ot os y p f e P (λ β w vb h. go β w vb (λ ρ a. let g = h ρ a in (y, g.1, g.0)))
    equate-sound P go (bare p) (bare q) e f = tt
    equate-sound P go (bare p) (err κ) e f = tt
    equate-sound P go (err κ) y e f = tt

    equate-complete :
        (ρ : Env) → Agree D S ρ α → (z : ℤ) → Has D ρ s z → Has D ρ t z → (Q : Valuation → Type 0) → Q α →
        ((β : Valuation) → Valid D β → Agree D S ρ β → Any Q (k β)) → (x y : Side) → side D α s ≡ x → side D α t ≡ y → Any Q (equate D tok x y k α)
    unfolding Any equate
    equate-complete ρ a z hs ht Q q go (val x) (val y) e f =
        let i : x ≡ y = cc (same-val D S ρ α a s os x z e hs, same-val D S ρ α a t ot y z f ht) in
        check-any Q (eq_z x y) k α (subst (λ (w : ℤ). T (eq_z x w)) i (eq_z-refl x)) (go α v a)
    equate-complete ρ a z hs ht Q q go (val x) (bare p) e f = assigned-complete s t os ot x p e f ρ a z hs ht Q go
    equate-complete ρ a z hs ht Q q go (val x) (err κ) e f = q
    equate-complete ρ a z hs ht Q q go (bare p) (val y) e f = assigned-complete t s ot os y p f e ρ a z ht hs Q go
    equate-complete ρ a z hs ht Q q go (bare p) (bare p') e f = q
    equate-complete ρ a z hs ht Q q go (bare p) (err κ) e f = q
    equate-complete ρ a z hs ht Q q go (err κ) y e f = q

module _ (D : Declared) (tok : ℕ) where
  pub eq-sound : (s t : Term) → Sound D (eq tok s t)
  unfolding grow Every Ok
  eq-sound s t S c o k α v P go = equate-sound D S tok k α v s t o.0 o.1 P go (side D α s) (side D α t) refl refl

  pub eq-complete : (s t : Term) → Complete D (eq tok s t)
  unfolding grow Any Ok Truth
  eq-complete s t S c o k α v ρ a (z, hs, ht) Q q go =
      equate-complete D S tok k α v s t o.0 o.1 ρ a z hs ht Q (q α a) go (side D α s) (side D α t) refl refl

  -- ---- the atoms that compare

  pub compare-sound : (r : Rel) (s t : Term) → Sound D (compare tok r s t)
  unfolding grow Every Ok Truth
  compare-sound r s t S c o k α v P go =
      compared-every P tok r (side D α s) (side D α t) k α (λ x y e f h.
      go α (ext_refl D S α) v (λ ρ a. (x, y, has-val D S ρ α a s o.0 x e, has-val D S ρ α a t o.1 y f, h)))

  pub compare-complete : (r : Rel) (s t : Term) → Complete D (compare tok r s t)
  unfolding grow Any Ok Truth
  compare-complete r s t S c o k α v ρ a (x', y', hs, ht, h) Q q go =
      compared-any Q tok r (side D α s) (side D α t) k α (q α a) (λ x y e f.
      (rw (same-val D S ρ α a s o.0 x x' e hs, same-val D S ρ α a t o.1 y y' f ht) at h, go α v a))
