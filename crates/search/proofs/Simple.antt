-- The steps to a node's one son, what comes next or a leaf, and the steps into the empty list, `true`, `and` and `or`. Assumes nothing.
use Prim.Native.Nat.{ℕ, suc, ◌+◌, ◌≤◌, ◌<◌}
use native.Mathlib.Omega.{arith}
use native.Mathlib.Numerals.{add-one}
use mathlib.Core.Path.{◌≡◌, refl, sym, ◌∙◌, ap}
use mathlib.Core.List.{[], ◌∷◌}
use mathlib.Core.Logic.{inl, inr}
use lib.ListN.{length, get_or, set}
use borrow.Author.Tests.{eq-eqb, ne_eqb}
use Rattle.specification.specs.Bytes.{Bytes}
use Rattle.specification.specs.Fill.{fill}
use Rattle.specification.specs.Arithmetic.{undecided_inside}
use Rattle.specification.specs.Value.{Valuation}
use Rattle.tables.specs.Kept.{SameSlots}
use Rattle.tables.specs.Codes.{true_code, and_code, or_code}
use Rattle.tables.specs.Layout.{token_slot, path_at}
use Rattle.sheet.specs.Tables.{Words}
use Rattle.terms.specs.Environment.{number_of}
use Rattle.search.specs.declared.Errors.{Errors}
use Rattle.search.specs.declared.Go.{Go}
use Rattle.tables.specs.Layout.{plan_at}
use Rattle.tables.specs.Leaves.{success_place, error_place, empty_code}
use Rattle.plan.specs.Next.{token, place_of}
use Rattle.search.specs.Kept.{SameStore, Pushes}
use Rattle.search.specs.Store.{Store}
use Rattle.search.specs.Frame.{form, again, What, the, success, failure, error, tree_items, top_of, site_in, store_in}
use Rattle.search.specs.Site.{grow_at}
use Rattle.search.specs.Path.{World, Job}
use Rattle.search.specs.Sim.{Down, In, down}
use Rattle.search.specs.Registers.{down_go}
use Rattle.search.specs.Steps.{Visited, Entered, Stepped, GoesOn, OneLeaf, Errs}
use Rattle.search.specs.States.{given_tree}
use Rattle.search.proofs.Sites.{site-depth}
use Rattle.search.proofs.Changes.{kept_refl, pushed-kept, pushed-slots, pushed-store, error-kept, error-slots, error-store, error-told}
use Rattle.search.proofs.Paths.{top-few}
use Rattle.search.proofs.Gauges.{down-tallied, room_path}
use Rattle.search.proofs.Descent.{down-pass, down-other}
use Rattle.search.proofs.Heads.{Head, here, AtForm, at-form, form-tree, at-empty}

-- ---- a step down

pub stepped : {w w' : Words} {g q : Go} {t top inner : ℕ} {bad : Errors} → Visited w g → q ≡ down_go g t top inner bad →
    ((c : World) (b : Bytes) → In c b w g → Down c b w' (down_go g t top inner bad)) → Stepped w w' g q
stepped {t = t} {top = top} {inner = inner} {bad = bad} v e f =
    let visit = ap (λ z. z.nodes) (down-tallied v.ins.gauge v.ins.room t top inner bad) in
    rw e (record { sim = λ c b i. down refl (f c b i); counts = λ m. visit; least = omega arith })

-- ---- where the words lie

-- what is due stands before the path
due-low : {c : World} {w : Words} {σ : Store} {α : Valuation} {due : ℕ} (x : What) → Head c σ α due w x → due + 3 < path_at
due-low (the []) (inl q) = omega arith
due-low (the (form E F ∷ is)) (inl q) = omega (arith, q.place, q.inside)
due-low (the (again E l F k v ∷ is)) (inl q) = omega (arith, q.place, q.binds.near)
due-low success (inl q) = omega arith
due-low failure (inl q) = omega arith
due-low (error κ tok) (inl q) = omega (arith, q.0)
due-low x (inr q) = omega (arith, q.place, q.small)

module _ {c : World} {b : Bytes} {w : Words} {g : Go} (i : In c b w g) where
  pub top-low : path_at ≤ g.top
  top-low = let e = i.path.ends in omega (arith, tops i.fr)
    where
      tops : (fr : _) → path_at ≤ top_of fr
      tops [] = omega arith
      tops (f ∷ fr) = omega (arith, tops fr)

  -- there is room for a record
  pub top-room : g.top + 12 ≤ length w
  top-room =
      let P = i.path in
      let few = top-few c.declared c.tables w i.fr P.stack in
      omega (arith, P.ends, few, i.deep, room_path i.gauge i.room, P.tables.size)

  -- the words of what is due
  pub due-near : g.due + 3 < length w
  due-near = omega (arith, due-low i.x (here i), top-low, top-room)

  pub depth_small : g.depth < 32768
  depth_small = omega (arith, room_path i.gauge i.room, i.path.tables.limit)

same-slots : (w : Words) → SameSlots w w
same-slots w = record { same = λ j k m. refl }

same_store : (w : Words) → SameStore w w
same_store w = record { same = λ j k m. refl }

-- ---- the rest of the list, and leaves

-- its word is there
pub goes_near : {w : Words} {g : Go} → GoesOn w g → g.due + 3 < length w
goes_near x = due-near x.at.ins

module _ {w : Words} {g q : Go} where
  pub goes_on : GoesOn w g → q ≡ down_go g (get_or w (g.due + 3) 0) g.top g.inner g.bad → Stepped w w g q
  goes_on x e = stepped x.at e (λ c b i.
      let s = x.son c b i in
      down-pass i (kept_refl g.top w) (same-slots w) (same_store w) (the s.0) s.1 s.2)

  pub leaf-down : {t : ℕ} → OneLeaf w g t → q ≡ down_go g t g.top g.inner g.bad → Stepped w w g q
  leaf-down x e = stepped x.at e (λ c b i.
      let s = x.son c b i in
      down-pass i (kept_refl g.top w) (same-slots w) (same_store w) s.0 s.1 s.2)

-- an error leaf: its kind and token stand in the words
pub err-down : (w : Words) {w' : Words} (kind tok : ℕ) → w' ≡ set (set w (error_place + 1) kind) (error_place + 2) tok → {g q : Go} → Errs w g kind tok →
    q ≡ down_go g error_place g.top g.inner g.bad → Stepped w w' g q
err-down w kind tok words {g} x e = stepped x.at e (λ c b i.
    let size = top-room i in
    let low = top-low i in
    down-pass i (error-kept w kind tok words g.top) (error-slots w kind tok words) (error-store w kind tok words) (error kind tok) (x.son c b i)
    (let told = error-told w kind tok words (omega arith) in (refl, told.0, told.1)))

-- ---- the empty list

module _ {w : Words} {g : Go} (x : Entered w g empty_code) where
  pub empty-errs : g.inner ≡ given_tree → Errs w g undecided_inside 0
  unfolding tree_items
  empty-errs e = record {
    at = x.at;
    son = λ c b i. rw (at-empty i x.code, eq-eqb (site_in i.fr).inner given_tree (sym i.inner ∙ e)) refl;
  }

  pub empty_leaf : ¬ (g.inner ≡ given_tree) → OneLeaf w g success_place
  unfolding tree_items
  empty_leaf n = record {
    at = x.at;
    son = λ c b i. (success, rw (at-empty i x.code, ne_eqb (site_in i.fr).inner given_tree (λ e. n (i.inner ∙ e))) refl, refl);
  }

-- ---- `true`

-- what comes after a formula, by its plan
module _ {c : World} {b : Bytes} {w : Words} {g : Go} (i : In c b w g) {n : ℕ} (a : AtForm i n) where
  pub next-job : plan_at c.tables a.form.h ≡ place_of a.form.n →
      Job c w (store_in i.fr) i.α (get_or w (g.due + 3) 0) (the a.is)
  next-job e = record {
    m = number_of a.E;
    next = a.form.n;
    place = rw a.form.place (i.path.tables.tokens (token_slot a.form.h + 3) (omega (arith, a.form.inside)) ∙ e);
    rest = a.form.rest;
  }

pub true-goes : {w : Words} {g : Go} → Entered w g true_code → GoesOn w g
unfolding grow_at fill
true-goes x = record {
  at = x.at;
  son = λ c b i.
      let a = at-form i x.code (omega arith) (omega arith) in
      (a.is, form-tree i a ∙ rw a.under.0, next-job i a a.under.1);
}

-- ---- `and`

module _ {w : Words} {g : Go} (x : Entered w g and_code) where
  pub and-near : g.due + 4 < 4294967296
  and-near = let a = at-form x.at.ins x.code (omega arith) (omega arith) in omega (arith, a.form.place, a.form.inside)

  pub and-down : {q : Go} → q ≡ down_go g (g.due + 4) g.top g.inner g.bad → Stepped w w g q
  unfolding grow_at tree_items fill
  and-down e = stepped x.at e (λ c b i.
      let a = at-form i x.code (omega arith) (omega arith) in
      let u = a.under in
      let p = a.form.place in
      down-pass i (kept_refl g.top w) (same-slots w) (same_store w) (the (form a.E u.first ∷ form a.E u.second ∷ a.is))
      (form-tree i a ∙ rw u.is)
      (record {
        m = number_of a.E;
        next = token (suc a.form.h);
        place = omega arith;
        rest = record {
          i = suc a.form.h;
          n = token _;
          leads = refl;
          from = tt;
          inside = u.parts.near;
          stands = u.left;
          env = a.form.env;
          later = omega arith;
          scoped = rw u.left-scope a.form.scoped;
          rest = record {
            i = _;
            n = a.form.n;
            leads = refl;
            from = tt;
            inside = u.parts.far;
            stands = u.right;
            env = a.form.env;
            later = omega arith;
            scoped = rw u.right-scope a.form.scoped;
            rest = a.form.rest;
          };
        };
      }))

-- ---- `or`

module _ {w : Words} {g : Go} (x : Entered w g or_code) where
  pub or-near : g.due + 4 < 4294967296
  or-near = let a = at-form x.at.ins x.code (omega arith) (omega arith) in omega (arith, a.form.place, a.form.inside)

  pub or-down : {w' : Words} {q : Go} → Pushes w w' g.top ((g.depth + 1) ∷ g.due ∷ []) → q ≡ down_go g (g.due + 4) (g.top + 2) g.inner g.bad →
      Stepped w w' g q
  unfolding grow_at tree_items fill
  or-down {w'} p e = stepped x.at e (λ c b i.
      let a = at-form i x.code (omega arith) (omega arith) in
      let u = a.under in
      let z = a.form.place in
      let low = top-low i in
      let first : get_or w' g.top 0 ≡ g.depth + 1 = let y : g.top + 0 ≡ g.top = omega arith in rw y at (p.words 0 (omega arith)) in
      down-other i (pushed-kept p low) (pushed-slots p low) (pushed-store p low) (the (form a.E u.first ∷ a.is)) a.E u.second a.is
      (form-tree i a ∙ rw u.is)
      (record {
        h = a.form.h;
        n = a.form.n;
        depth = first ∙ add-one g.depth ∙ ap suc (i.deep ∙ sym (site-depth i.fr));
        token = p.words 1 (omega arith) ∙ z;
        code = a.code;
        small = a.form.inside;
        leads = u.leads;
        inside = u.parts.far;
        stands = u.right;
        env = a.form.env;
        scoped = rw u.right-scope a.form.scoped;
        rest = a.form.rest;
      })
      (record {
        m = number_of a.E;
        next = token (suc a.form.h);
        place = omega arith;
        rest = record {
          i = suc a.form.h;
          n = a.form.n;
          leads = refl;
          from = tt;
          inside = u.parts.near;
          stands = u.left;
          env = a.form.env;
          later = omega arith;
          scoped = rw u.left-scope a.form.scoped;
          rest = a.form.rest;
        };
      }))
