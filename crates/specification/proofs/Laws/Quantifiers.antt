-- The quantifiers are sound and complete. Assumes nothing.
use Prim.Native.Nat.{ℕ, zero, suc, ◌<◌}
use native.Mathlib.Omega.{arith}
use mathlib.Core.Path.{◌≡◌, refl, sym, ◌∙◌}
use mathlib.Core.Bool.{not}
use lib.Dec.{T}
use lib.IntN.{ℤ, pos, ◌+ℤ◌}
use Rattle.specification.specs.Number.{in32}
use Rattle.specification.specs.Lines.{Declared}
use Rattle.specification.specs.Ast.{Term, Formula, ex, some, all}
use Rattle.specification.specs.Arithmetic.{count}
use Rattle.specification.specs.Place.{local, put}
use Rattle.specification.specs.Value.{Slot, empty, full, Valuation, val, side}
use Rattle.specification.specs.WellFormed.{Scope, enter, OkTerm, Ok, Valid}
use Rattle.specification.specs.Tree.{Rest, sons, rounds, grow}
use Rattle.specification.specs.Plain.{Env, SomeFrom, EachFrom, Truth}
use Rattle.specification.proofs.Laws.Scope.{Every, Any, Agree, Ext}
use Rattle.specification.proofs.Laws.Outside.{Covers, covers-enter}
use Rattle.specification.proofs.Laws.Place.{SlotIn, valid-put, ext_refl, ext_trans, agree-ext, agree-enter, agree-held, agree-leave, ext-leave, agree-bind}
use Rattle.specification.proofs.Laws.Range.{range_at, range-in, in32-between, FromOn, each_on, on-each, on-first, on-later, on_both}
use Rattle.specification.proofs.Laws.Value.{has-val, same-val, sane-val}
use Rattle.specification.proofs.Laws.Every.{bounded-every, sons-every, bounded-any, sons-any}
use Rattle.specification.proofs.Laws.Correct.{Proves, Sound, Complete}

-- the formula with a value for the local
abbrev With : Declared → ℕ → Formula → Env → ℤ → Type 0
With D l F ρ z = Truth D (put ρ (local l) z) F

-- a value for the local that β allows
chosen :
    (D : Declared) (S : Scope) (l : ℕ) (F : Formula) (β : Valuation) → Valid D β → Proves D (enter S l) F β → (ρ : Env) → Agree D S ρ β →
    (v : ℤ) × T (in32 v) × With D l F ρ v
chosen D S l F β vb pr ρ a = go (β (local l)) refl
  where
    agreed : (v : ℤ) (s : Slot) → ((w : ℤ) → s ≡ full w → v ≡ w) → β (local l) ≡ s → With D l F ρ v
    agreed v s h e = pr (put ρ (local l) v) (agree-enter D S l ρ v β (λ w f. h w (sym e ∙ f)) a)

    go : (s : Slot) → β (local l) ≡ s → (v : ℤ) × T (in32 v) × With D l F ρ v
    go empty e = (pos 0, tt, agreed (pos 0) empty (λ w f. (cc)) e)
    go (full v) e = (v, vb (local l) v e, agreed v (full v) (λ w f. (cc)) e)

-- ---- a list that begins with F, where its local has just been given a value, or for completeness none

module _ (D : Declared) (S : Scope) (c : Covers D S) (l : ℕ) (d : l < D.locals) (fresh : T (not (S l))) (F : Formula) (o : Ok D (enter S l) F) where
  module _ (sF : Sound D F) (P : Valuation → Type 0) where
    entered-sound :
        (k : Rest) (α : Valuation) → Valid D α → (z : ℤ) → T (in32 z) →
        ((β : Valuation) → Ext D S α β → Valid D β → ((ρ : Env) → Agree D S ρ β → With D l F ρ z) → Every P (k β)) →
        Every P (grow D F k (put α (local l) (full z)))
    entered-sound k α v z i go =
        sF (enter S l) (covers-enter D S l c d) o k (put α (local l) (full z)) (valid-put D α (local l) (full z) v i) P (λ β e vb pr.
        go β (ext-leave D S l fresh α β (full z) e) vb (λ ρ a. pr (put ρ (local l) z) (agree-held D S l ρ z α β e a)))

    rounds-sound :
        (k : Rest) (n : ℕ) (x : ℤ) (α : Valuation) → Valid D α → FromOn (λ z. T (in32 z)) n x →
        ((β : Valuation) → Ext D S α β → Valid D β → ((ρ : Env) → Agree D S ρ β → FromOn (With D l F ρ) n x) → Every P (k β)) →
        Every P (rounds (grow D F) l k n x α)
    unfolding Every rounds
    rounds-sound k zero x α v r go = go α (ext_refl D S α) v (λ ρ a i h. absurd (omega arith))
    rounds-sound k (suc n) x α v r go =
        entered-sound (rounds (grow D F) l k n (x +ℤ pos 1)) α v x (on-first (λ z. T (in32 z)) n x r) (λ β e vb h.
        rounds-sound k n (x +ℤ pos 1) β vb (on-later (λ z. T (in32 z)) n x r) (λ γ f vg g.
        go γ (ext_trans D S α β γ e f) vg (λ ρ a. on_both (With D l F ρ) n x (h ρ (agree-ext D S ρ β γ f a)) (g ρ a))))

  module _ (cF : Complete D F) (ρ : Env) (Q : Valuation → Type 0) (q : (β : Valuation) → Agree D S ρ β → Q β) where
    entered-complete :
        (k : Rest) (α : Valuation) → Valid D α → Agree D S ρ α → (s : Slot) → SlotIn D (local l) s → (z : ℤ) → ((w : ℤ) → s ≡ full w → z ≡ w) → With D l F ρ z →
        ((β : Valuation) → Valid D β → Agree D S ρ β → Any Q (k β)) → Any Q (grow D F k (put α (local l) s))
    entered-complete k α v a s i z h t go =
        cF (enter S l) (covers-enter D S l c d) o k (put α (local l) s) (valid-put D α (local l) s v i) (put ρ (local l) z) (agree-bind D S l fresh ρ z α s h a) t Q
        (λ β b. q β (agree-leave D S l fresh ρ z β b)) (λ β vb b. go β vb (agree-leave D S l fresh ρ z β b))

    rounds-complete :
        (k : Rest) (n : ℕ) (x : ℤ) (α : Valuation) → Valid D α → Agree D S ρ α → FromOn (λ z. T (in32 z)) n x → FromOn (With D l F ρ) n x →
        ((β : Valuation) → Valid D β → Agree D S ρ β → Any Q (k β)) → Any Q (rounds (grow D F) l k n x α)
    unfolding Any rounds
    rounds-complete k zero x α v a r t go = go α v a
    rounds-complete k (suc n) x α v a r t go =
        entered-complete (rounds (grow D F) l k n (x +ℤ pos 1)) α v a (full x) (on-first (λ z. T (in32 z)) n x r) x (λ w e. (cc))
        (on-first (With D l F ρ) n x t) (λ β vb b.
        rounds-complete k n (x +ℤ pos 1) β vb b (on-later (λ z. T (in32 z)) n x r) (on-later (With D l F ρ) n x t) go)

-- ---- `ex`

module _ (D : Declared) (l : ℕ) (F : Formula) where
  pub ex-sound : Sound D F → Sound D (ex l F)
  unfolding grow Every Ok Truth
  ex-sound sF S c o k α v P go =
      sF (enter S l) (covers-enter D S l c o.0) o.2 k (put α (local l) empty) (valid-put D α (local l) empty v tt) P (λ β e vb pr.
      go β (ext-leave D S l o.1 α β empty e) vb (chosen D S l F β vb pr))

  pub ex-complete : Complete D F → Complete D (ex l F)
  unfolding grow Any Ok Truth
  ex-complete cF S c o k α v ρ a (z, i, t) Q q go =
      entered-complete D S c l o.0 o.1 F o.2 cF ρ Q q k α v a empty tt z (λ w e. (cc)) t go

-- ---- `some` and `all`

module _ (D : Declared) (tok l : ℕ) (a b : Term) (F : Formula) where
  -- the integers between the values of the bounds are in 32 bits
  between :
      (S : Scope) → OkTerm D S a → OkTerm D S b → (α : Valuation) → Valid D α → (x y : ℤ) →
      side D α a ≡ val x → side D α b ≡ val y → EachFrom x y (λ z. T (in32 z))
  between S oa ob α v x y e f z = in32-between x y z (sane-val D S α v a oa x e) (sane-val D S α v b ob y f)

  pub some-sound : Sound D F → Sound D (some tok l a b F)
  unfolding grow Every Ok Truth
  some-sound sF S c (oa, ob, d, fresh, oF) k α v P go =
      bounded-every P tok (side D α a) (side D α b)
      (λ x y β. sons x (count x y) (λ i. grow D F k (put β (local l) (full (x +ℤ pos i))))) α (λ x y e f.
      sons-every P x (count x y) (λ i. grow D F k (put α (local l) (full (x +ℤ pos i)))) (λ i h.
      let z = x +ℤ pos i in
      let r = range-in x y i h in
      entered-sound D S c l d fresh F oF sF P k α v z (between S oa ob α v x y e f z r.0 r.1) (λ β w vb t.
      go β w vb (λ ρ g.
      let g' = agree-ext D S ρ α β w g in
      (x, y, has-val D S ρ α g' a oa x e, has-val D S ρ α g' b ob y f, (z, r.0, r.1, t ρ g))))))

  pub some-complete : Complete D F → Complete D (some tok l a b F)
  unfolding grow Any Ok Truth
  some-complete cF S c (oa, ob, d, fresh, oF) k α v ρ g (x', y', ha, hb, t) Q q go =
      bounded-any Q tok (side D α a) (side D α b)
      (λ x y β. sons x (count x y) (λ i. grow D F k (put β (local l) (full (x +ℤ pos i))))) α (q α g) (λ x y e f.
      let u : SomeFrom x y (With D l F ρ) = rw (same-val D S ρ α g a oa x x' e ha, same-val D S ρ α g b ob y y' f hb) at t in
      let (z, p, r, w) = u in
      let (i, h, n) = range_at x y z p r in
      sons-any Q x (count x y) (λ j. grow D F k (put α (local l) (full (x +ℤ pos j)))) i h
      (entered-complete D S c l d fresh F oF cF ρ Q q k α v g (full (x +ℤ pos i)) (rw n at (between S oa ob α v x y e f z p r)) z (λ w' d. (cc)) w go))

  pub all_sound : Sound D F → Sound D (all tok l a b F)
  unfolding grow Every Ok Truth
  all_sound sF S c (oa, ob, d, fresh, oF) k α v P go =
      bounded-every P tok (side D α a) (side D α b) (λ x y. rounds (grow D F) l k (count x y) x) α (λ x y e f.
      rounds-sound D S c l d fresh F oF sF P k (count x y) x α v (on-each (λ z. T (in32 z)) x y (between S oa ob α v x y e f)) (λ β w vb t.
      go β w vb (λ ρ g.
      let g' = agree-ext D S ρ α β w g in
      (x, y, has-val D S ρ α g' a oa x e, has-val D S ρ α g' b ob y f, each_on (With D l F ρ) x y (t ρ g)))))

  pub all-complete : Complete D F → Complete D (all tok l a b F)
  unfolding grow Any Ok Truth
  all-complete cF S c (oa, ob, d, fresh, oF) k α v ρ g (x', y', ha, hb, t) Q q go =
      bounded-any Q tok (side D α a) (side D α b) (λ x y. rounds (grow D F) l k (count x y) x) α (q α g) (λ x y e f.
      let u : EachFrom x y (With D l F ρ) = rw (same-val D S ρ α g a oa x x' e ha, same-val D S ρ α g b ob y y' f hb) at t in
      rounds-complete D S c l d fresh F oF cF ρ Q q k (count x y) x α v g (on-each (λ z. T (in32 z)) x y (between S oa ob α v x y e f))
      (on-each (With D l F ρ) x y u) go)
