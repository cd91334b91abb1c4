-- The steps into a formula with two terms, by what these are: values, a place that gets a value, an error leaf. Assumes nothing.
use Prim.Native.Nat.{ℕ, ◌/◌, ◌≤◌, ◌<◌}
use native.Mathlib.Omega.{arith}
use mathlib.Core.Path.{◌≡◌, refl, sym, ◌∙◌, ap}
use lib.Dec.{T}
use lib.IntN.{ℤ}
use Rattle.specification.specs.Bytes.{Bytes}
use Rattle.specification.specs.Number.{in32}
use Rattle.specification.specs.Lines.{Declared, cells}
use Rattle.specification.specs.Ast.{Term}
use Rattle.specification.specs.Fill.{fill_term, fill}
use Rattle.specification.specs.Arithmetic.{no_value}
use Rattle.specification.specs.Place.{Place, cell, local}
use Rattle.specification.specs.Value.{empty, Valuation, Side, val, bare, err, side, faulty, pair_of}
use Rattle.specification.specs.WellFormed.{Scope, OkTerm, Valid}
use Rattle.specification.specs.Tree.{error_leaf, step}
use Rattle.specification.proofs.Laws.Scope as places
use Rattle.specification.proofs.Laws.Value.{sane-val, sane-bare}
use Rattle.values.specs.Word.{signed}
use Rattle.values.proofs.Laws.Word.{signed-biased, biased-word}
use Rattle.tables.specs.Layout.{token_slot, max_locals, max_cells}
use Rattle.tables.specs.Codes.{eq_code}
use Rattle.sheet.specs.Tables.{Words}
use Rattle.sheet.specs.Held.{slot_of}
use Rattle.terms.specs.declared.Sides.{Sides}
use Rattle.terms.specs.Environment.{terms_of}
use Rattle.terms.specs.Results.{value_tag, bare_tag, error_tag, tag_of, word_of, sides_of}
use Rattle.search.specs.declared.Go.{Go}
use Rattle.search.specs.Marks.{Known}
use Rattle.search.specs.Site.{Site, RestAt, assign_at, equate_at, grow_at}
use Rattle.search.specs.Frame.{tree_items, site_in}
use Rattle.search.specs.Path.{World}
use Rattle.search.specs.Sim.{tree, In}
use Rattle.search.specs.Steps.{Errs, Valued}
use Rattle.search.proofs.Heads.{AtForm, at-form, form-tree}
use Rattle.search.proofs.Simple.{next-job}
use Rattle.walker.specs.Steps.{Assigning}
use Rattle.walker.specs.Terms.{Decides, kind_of}
use Rattle.walker.proofs.Laws.Terms.{TermsHere, terms-here, terms-eq, each}

-- ---- one side

-- a value, by its word
pub record Value (x : Side) (n : ℕ) : Type 0 where
  pub is : x ≡ val (signed n)
  pub fits : n < 4294967296

-- a bare place, by its slot
pub record Bare (D : Declared) (α : Valuation) (x : Side) (n : ℕ) : Type 0 where
  pub place : Place
  pub is : x ≡ bare place
  pub slot : n ≡ slot_of place
  pub known : Known D place
  pub empty : α place ≡ empty

known : (D : Declared) (S : Scope) → cells D ≤ max_cells → ((l : ℕ) → T (S l) → l < max_locals) → (p : Place) → places.In D S p → Known D p
known D S few small (cell c) h = (h, omega arith)
known D S few small (local l) h = small l h

module _ (D : Declared) (S : Scope) (α : Valuation) (t : Term) (ok : OkTerm D S t) (n : ℕ) where
  value-by : Valid D α → value_tag ≡ tag_of (side D α t) → n ≡ word_of (side D α t) → Value (side D α t) n
  value-by valid = go (side D α t) refl
    where
      go : (x : Side) → side D α t ≡ x → value_tag ≡ tag_of x → n ≡ word_of x → Value x n
      go (val z) e p q =
          let i : T (in32 z) = sane-val D S α valid t ok z e in
          record { is = ap val (sym (ap signed q ∙ signed-biased z i)); fits = rw q (biased-word z i) }
      go (bare p') e p q = absurd (omega arith)
      go (err κ) e p q = absurd (omega arith)

  bare-by : cells D ≤ max_cells → ((l : ℕ) → T (S l) → l < max_locals) → bare_tag ≡ tag_of (side D α t) → n ≡ word_of (side D α t) → Bare D α (side D α t) n
  bare-by few small = go (side D α t) refl
    where
      go : (x : Side) → side D α t ≡ x → bare_tag ≡ tag_of x → n ≡ word_of x → Bare D α x n
      go (val z) e p q = absurd (omega arith)
      go (bare p') e p q =
          let b = sane-bare D S α t ok p' e in
          record { place = p'; is = refl; slot = q; known = known D S few small p' b.0; empty = b.1 }
      go (err κ) e p q = absurd (omega arith)

tag_small : (x : Side) → tag_of x ≤ error_tag
tag_small (val z) = omega arith
tag_small (bare p) = omega arith
tag_small (err κ) = omega arith

pub tag-bare : (n : ℕ) → n ≤ error_tag → ¬ (n ≡ value_tag) → ¬ (n ≡ error_tag) → n ≡ bare_tag
tag-bare n h a b = omega arith

-- ---- both sides

module _ {w : Words} {g : Go} {n : ℕ} {r : Sides} (d : Decides w g n r) where
  -- the two terms there
  module _ {c : World} {b : Bytes} (i : In c b w g) (a : TermsHere i n) where
    told : r ≡ sides_of (side c.declared i.α (fill_term (terms_of a.E) a.left)) (side c.declared i.α (fill_term (terms_of a.E) a.right))
    told = d.sides c b i a.E a.F a.is a.x-is a.left a.right a.terms-of

    left-value : r.ltag ≡ value_tag → Value (side c.declared i.α (fill_term (terms_of a.E) a.left)) r.left
    left-value e =
        value-by c.declared a.terms.scope i.α (fill_term (terms_of a.E) a.left) a.terms.left r.left i.path.valid
        (sym e ∙ ap (λ r. r.ltag) told) (ap (λ r. r.left) told)

    right-value : r.rtag ≡ value_tag → Value (side c.declared i.α (fill_term (terms_of a.E) a.right)) r.right
    right-value e =
        value-by c.declared a.terms.scope i.α (fill_term (terms_of a.E) a.right) a.terms.right r.right i.path.valid
        (sym e ∙ ap (λ r. r.rtag) told) (ap (λ r. r.right) told)

    left-bare : r.ltag ≡ bare_tag → Bare c.declared i.α (side c.declared i.α (fill_term (terms_of a.E) a.left)) r.left
    left-bare e =
        bare-by c.declared a.terms.scope i.α (fill_term (terms_of a.E) a.left) a.terms.left r.left i.path.tables.cells a.terms.locals
        (sym e ∙ ap (λ r. r.ltag) told) (ap (λ r. r.left) told)

    right-bare : r.rtag ≡ bare_tag → Bare c.declared i.α (side c.declared i.α (fill_term (terms_of a.E) a.right)) r.right
    right-bare e =
        bare-by c.declared a.terms.scope i.α (fill_term (terms_of a.E) a.right) a.terms.right r.right i.path.tables.cells a.terms.locals
        (sym e ∙ ap (λ r. r.rtag) told) (ap (λ r. r.right) told)

  abbrev first : TermsHere d.at.at.ins n
  first = terms-here d.at.at.ins d.at.code d.terms

  left_fits : r.ltag ≡ value_tag → r.left < 4294967296
  left_fits e = (left-value d.at.at.ins first e).fits

  right_fits : r.rtag ≡ value_tag → r.right < 4294967296
  right_fits e = (right-value d.at.at.ins first e).fits

  pub both-valued : r.ltag ≡ value_tag → r.rtag ≡ value_tag → Valued w g n r.left r.right
  both-valued p q = record {
    at = d.at;
    sides = each d.at d.terms (λ x y. (x ≡ val (signed r.left)) × (y ≡ val (signed r.right)))
        (λ c b i a. ((left-value i a p).is, (right-value i a q).is));
    left_fits = left_fits p;
    right_fits = right_fits q;
  }

  -- no other tags
  pub tags-small : (r.ltag ≤ error_tag) × (r.rtag ≤ error_tag)
  tags-small =
      let i = d.at.at.ins in
      let D = d.at.at.c.declared in
      let ts = terms_of first.E in
      rw (told i first) (tag_small (side D i.α (fill_term ts first.left)), tag_small (side D i.α (fill_term ts first.right)))

-- ---- an error leaf, but of `eq`

token-is : (t h : ℕ) → t ≡ token_slot h → t / 4 ≡ h
token-is t h e = omega arith

fault-left : (r : Sides) (x y : Side) → r ≡ sides_of x y → ¬ (r.ltag ≡ value_tag) → pair_of x y ≡ faulty (kind_of r.ltag r.left)
unfolding pair_of
fault-left r (val z) y e m = absurd (m (ap (λ r. r.ltag) e))
fault-left r (bare p) y e m = rw e refl
fault-left r (err κ) y e m = rw e refl

fault-right : (r : Sides) (x y : Side) → r ≡ sides_of x y → r.ltag ≡ value_tag → ¬ (r.rtag ≡ value_tag) → pair_of x y ≡ faulty (kind_of r.rtag r.right)
unfolding pair_of
fault-right r (bare p) y e l m = let z = ap (λ r. r.ltag) e in absurd (omega arith)
fault-right r (err κ) y e l m = let z = ap (λ r. r.ltag) e in absurd (omega arith)
fault-right r (val x) (val z) e l m = absurd (m (ap (λ r. r.rtag) e))
fault-right r (val x) (bare p) e l m = rw e refl
fault-right r (val x) (err κ) e l m = rw e refl

module _ {w : Words} {g : Go} {n : ℕ} {r : Sides} (d : Decides w g n r) (other : ¬ (n ≡ eq_code)) where
  errs-by : (κ : ℕ) → ((x y : Side) → r ≡ sides_of x y → pair_of x y ≡ faulty κ) → Errs w g κ (g.due / 4)
  errs-by κ f = record {
    at = d.at.at;
    son = λ c b i.
        let a = terms-here i d.at.code d.terms in
        rw (token-is g.due a.form.h a.form.place) (a.faults other κ (f _ _ (told d i a)));
  }

  pub left-errs : ¬ (r.ltag ≡ value_tag) → Errs w g (kind_of r.ltag r.left) (g.due / 4)
  left-errs m = errs-by (kind_of r.ltag r.left) (λ x y e. fault-left r x y e m)

  pub right-errs : r.ltag ≡ value_tag → ¬ (r.rtag ≡ value_tag) → Errs w g (kind_of r.rtag r.right) (g.due / 4)
  right-errs l m = errs-by (kind_of r.rtag r.right) (λ x y e. fault-right r x y e l m)

-- ---- `eq`

module _ (D : Declared) (tok : ℕ) (k : RestAt) (u : Site) (α : Valuation) {x y : Side} (p : Place) (v : ℤ) where
  crossed-left : x ≡ bare p → y ≡ val v → equate_at D tok x y k u α ≡ assign_at D p v k u α
  unfolding equate_at
  crossed-left e f = rw (e, f)

  crossed-right : x ≡ val v → y ≡ bare p → equate_at D tok x y k u α ≡ assign_at D p v k u α
  unfolding equate_at
  crossed-right e f = rw (e, f)

module _ {w : Words} {g : Go} {r : Sides} (d : Decides w g eq_code r) where
  module _ {c : World} {b : Bytes} (i : In c b w g) where
    abbrev equation : AtForm i eq_code
    equation = at-form i d.at.code (omega arith) (omega arith)

    abbrev lefts : Side
    lefts = side c.declared i.α (fill_term (terms_of equation.E) equation.under.left)

    abbrev rights : Side
    rights = side c.declared i.α (fill_term (terms_of equation.E) equation.under.right)

    abbrev next : RestAt
    next = λ s β. tree_items c.declared equation.is s β

    equated : tree c i.fr i.x i.α ≡ step (equate_at c.declared equation.form.h lefts rights next (site_in i.fr) i.α)
    unfolding grow_at fill
    equated = let a = equation in form-tree i a ∙ rw a.under.is

    equal : r ≡ sides_of lefts rights
    equal =
        let a = equation in
        d.sides c b i a.E a.F a.is a.x-is a.under.left a.under.right (terms-eq a.under.is)

    -- one side bare, the other with a value
    abbrev Crosses : (slot value : ℕ) → Type 0
    Crosses slot value =
        (x : Side)
        × (y : Side)
        × (p : Bare c.declared i.α x slot)
        × Value y value
        × (equate_at c.declared equation.form.h lefts rights next (site_in i.fr) i.α ≡
        assign_at c.declared p.place (signed value) next (site_in i.fr) i.α)

  assigning : (slot value : ℕ) → value < 4294967296 → ((c : World) (b : Bytes) (i : In c b w g) → Crosses i slot value) → Assigning w g slot value
  assigning slot value fits f = record {
    at = d.at.at;
    fits = fits;
    assigns = λ c b i.
        let (x, y, p, v, e) = f c b i in
        let a = equation i in
        record {
          place = p.place;
          known = p.known;
          slot_is = p.slot;
          bare = p.empty;
          is = a.is;
          tree_is = equated i ∙ ap step e;
          next = next-job i a a.under.next;
        };
  }

  pub assigns-left : r.ltag ≡ bare_tag → r.rtag ≡ value_tag → Assigning w g r.left r.right
  assigns-left l h = assigning r.left r.right (right_fits d h) (λ c b i.
      let a = equation i in
      let u = a.under.terms in
      let ts = terms_of a.E in
      let e = equal i in
      let p = bare-by c.declared u.scope i.α (fill_term ts a.under.left) u.left r.left i.path.tables.cells u.locals
      (sym l ∙ ap (λ r. r.ltag) e) (ap (λ r. r.left) e) in
      let v = value-by c.declared u.scope i.α (fill_term ts a.under.right) u.right r.right i.path.valid
      (sym h ∙ ap (λ r. r.rtag) e) (ap (λ r. r.right) e) in
      (lefts i, rights i, p, v, crossed-left c.declared a.form.h (next i) (site_in i.fr) i.α p.place (signed r.right) p.is v.is))

  pub assigns-right : r.ltag ≡ value_tag → r.rtag ≡ bare_tag → Assigning w g r.right r.left
  assigns-right l h = assigning r.right r.left (left_fits d l) (λ c b i.
      let a = equation i in
      let u = a.under.terms in
      let ts = terms_of a.E in
      let e = equal i in
      let p = bare-by c.declared u.scope i.α (fill_term ts a.under.right) u.right r.right i.path.tables.cells u.locals
      (sym h ∙ ap (λ r. r.rtag) e) (ap (λ r. r.right) e) in
      let v = value-by c.declared u.scope i.α (fill_term ts a.under.left) u.left r.left i.path.valid
      (sym l ∙ ap (λ r. r.ltag) e) (ap (λ r. r.left) e) in
      (rights i, lefts i, p, v, crossed-right c.declared a.form.h (next i) (site_in i.fr) i.α p.place (signed r.left) v.is p.is))

  -- an error leaf by the two sides
  equation-errs : (κ : ℕ) →
      ((D : Declared) (tok : ℕ) (x y : Side) (k : RestAt) (u : Site) (α : Valuation) → r ≡ sides_of x y → equate_at D tok x y k u α ≡ error_leaf κ tok α) →
      Errs w g κ (g.due / 4)
  equation-errs κ f = record {
    at = d.at.at;
    son = λ c b i.
        let a = equation i in
        rw (token-is g.due a.form.h a.form.place)
        (equated i ∙ ap step (f c.declared a.form.h (lefts i) (rights i) (next i) (site_in i.fr) i.α (equal i)));
  }

  pub eq-left-errs : r.ltag ≡ error_tag → Errs w g r.left (g.due / 4)
  unfolding equate_at
  eq-left-errs l = equation-errs r.left go
    where
      go : (D : Declared) (tok : ℕ) (x y : Side) (k : RestAt) (u : Site) (α : Valuation) → r ≡ sides_of x y → equate_at D tok x y k u α ≡ error_leaf r.left tok α
      go D tok (val z) y k u α e = let t = ap (λ r. r.ltag) e in absurd (omega arith)
      go D tok (bare p) y k u α e = let t = ap (λ r. r.ltag) e in absurd (omega arith)
      go D tok (err κ) y k u α e = ap (λ κ. error_leaf κ tok α) (sym (ap (λ r. r.left) e))

  pub eq-right-errs : ¬ (r.ltag ≡ error_tag) → r.rtag ≡ error_tag → Errs w g r.right (g.due / 4)
  unfolding equate_at
  eq-right-errs m h = equation-errs r.right go
    where
      go : (D : Declared) (tok : ℕ) (x y : Side) (k : RestAt) (u : Site) (α : Valuation) → r ≡ sides_of x y → equate_at D tok x y k u α ≡ error_leaf r.right tok α
      go D tok x (val z) k u α e = let t = ap (λ r. r.rtag) e in absurd (omega arith)
      go D tok x (bare p) k u α e = let t = ap (λ r. r.rtag) e in absurd (omega arith)
      go D tok (val z) (err κ) k u α e = ap (λ κ. error_leaf κ tok α) (sym (ap (λ r. r.right) e))
      go D tok (bare p) (err κ) k u α e = ap (λ κ. error_leaf κ tok α) (sym (ap (λ r. r.right) e))
      go D tok (err z) (err κ) k u α e = absurd (m (ap (λ r. r.ltag) e))

  pub eq-bare-errs : r.ltag ≡ bare_tag → r.rtag ≡ bare_tag → Errs w g no_value (g.due / 4)
  unfolding equate_at
  eq-bare-errs l h = equation-errs no_value go
    where
      go : (D : Declared) (tok : ℕ) (x y : Side) (k : RestAt) (u : Site) (α : Valuation) → r ≡ sides_of x y → equate_at D tok x y k u α ≡ error_leaf no_value tok α
      go D tok (val z) y k u α e = let t = ap (λ r. r.ltag) e in absurd (omega arith)
      go D tok (err z) y k u α e = let t = ap (λ r. r.ltag) e in absurd (omega arith)
      go D tok (bare p) (val z) k u α e = let t = ap (λ r. r.rtag) e in absurd (omega arith)
      go D tok (bare p) (err z) k u α e = let t = ap (λ r. r.rtag) e in absurd (omega arith)
      go D tok (bare p) (bare q) k u α e = refl
