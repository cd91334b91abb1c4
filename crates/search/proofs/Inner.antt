-- The steps into `imp` and `not`, whose sons are judged by an inner tree, and the leaves of inner trees. Assumes nothing.
use Prim.Native.Nat.{ℕ, suc, ◌+◌, ◌<◌}
use native.Mathlib.Omega.{arith}
use native.Mathlib.Numerals.{add-one}
use mathlib.Core.Path.{◌≡◌, refl, sym, ◌∙◌, ap}
use mathlib.Core.Bool.{Bool, true, false}
use mathlib.Core.List.{[], ◌∷◌}
use Rattle.specification.specs.Bytes.{Bytes}
use Rattle.specification.specs.Ast.{Formula}
use Rattle.specification.specs.Fill.{fill}
use Rattle.specification.specs.Tree.{enquire}
use Rattle.tables.specs.Layout.{max_tokens}
use Rattle.tables.specs.Codes.{imp_code, not_code}
use Rattle.sheet.specs.Tables.{Words}
use Rattle.terms.specs.Environment.{number_of}
use Rattle.search.specs.declared.Errors.TheVariants.{Unseen}
use Rattle.search.specs.declared.Go.{Go}
use Rattle.tables.specs.Layout.{plan_at}
use Rattle.plan.specs.Next.{end, token, place_of}
use Rattle.search.specs.Kept.{Pushes}
use Rattle.search.specs.Frame.{form, the, tree_items, Question, denying, implying, site_in, store_in}
use Rattle.search.specs.Site.{grow_at}
use Rattle.search.specs.Records.{bit, AskRecord, Asks}
use Rattle.search.specs.Stands.{Stands}
use Rattle.search.specs.Path.{World, Job}
use Rattle.search.specs.Sim.{In}
use Rattle.search.specs.Registers.{down_go}
use Rattle.search.specs.States.{inner_root, errors_of, errors_word}
use Rattle.search.specs.Steps.{Entered, Stepped}
use Rattle.search.proofs.Sites.{site-depth}
use Rattle.search.proofs.Changes.{pushed-kept, pushed-slots, pushed-store}
use Rattle.search.proofs.Descent.{down-asks}
use Rattle.search.proofs.Heads.{AtForm, at-form, form-tree}
use Rattle.search.proofs.Simple.{stepped, top-low}

-- ---- the record of a node that asks

flag_word : (e : Bool) → errors_word (errors_of e) ≡ bit e
flag_word true = refl
flag_word false = refl

module _ {w w' : Words} {g : Go} (p : Pushes w w' g.top (g.inner ∷ errors_word g.bad ∷ (g.depth + 1) ∷ g.due ∷ [])) where
  asked : {c : World} {b : Bytes} (i : In c b w g) {n : ℕ} (a : AtForm i n) (q : Question) → plan_at c.tables a.form.h ≡ place_of a.form.n →
      Asks c.declared c.tables w' g.top (site_in i.fr) (store_in i.fr) a.form.h q a.is a.form.n i.α →
      AskRecord c.declared c.tables w' g.top (site_in i.fr) (store_in i.fr) a.form.h q a.is i.α i.e
  asked i a q next r =
      let z : g.top + 0 ≡ g.top = omega arith in
      record {
        n = a.form.n;
        m = number_of a.E;
        inner = rw z at (p.words 0 (omega arith)) ∙ i.inner;
        bad = p.words 1 (omega arith) ∙ ap errors_word i.bad ∙ flag_word i.e;
        depth = p.words 2 (omega arith) ∙ add-one g.depth ∙ ap suc (i.deep ∙ sym (site-depth i.fr));
        token = p.words 3 (omega arith) ∙ a.form.place;
        small = a.form.inside;
        next = next;
        question = r;
        rest = a.form.rest;
      }

  -- the first part, inside
  first-job : {c : World} {b : Bytes} (i : In c b w g) {n : ℕ} (a : AtForm i n) (F : Formula) → suc a.form.h < max_tokens →
      Stands c.declared c.tables a.E (suc a.form.h) F end → Job c w' (store_in i.fr) i.α (g.due + 4) (the (form a.E F ∷ []))
  first-job i a F near stands = let z = a.form.place in record {
    m = number_of a.E;
    next = token (suc a.form.h);
    place = omega arith;
    rest = record {
      i = suc a.form.h;
      n = end;
      leads = refl;
      from = tt;
      inside = near;
      stands = stands;
      env = a.form.env;
      later = omega arith;
      scoped = tt;
      rest = (refl, tt);
    };
  }

module _ {w : Words} {g : Go} (x : Entered w g imp_code) where
  pub imp-down : {w' : Words} {q : Go} → Pushes w w' g.top (g.inner ∷ errors_word g.bad ∷ (g.depth + 1) ∷ g.due ∷ []) →
      q ≡ down_go g (g.due + 4) (g.top + 4) (g.depth + inner_root) Unseen → Stepped w w' g q
  unfolding grow_at tree_items fill enquire
  imp-down {w'} p e = stepped x.at e (λ c b i.
      let a = at-form i x.code (omega arith) (omega arith) in
      let u = a.under in
      let low = top-low i in
      down-asks i (pushed-kept p low) (pushed-slots p low) (pushed-store p low) a.form.h a.E u.first (implying a.E u.second) a.is
      (form-tree i a ∙ rw u.is)
      (asked p i a (implying a.E u.second) u.next
      (a.code, u.leads, u.parts.far, u.right, a.form.env, rw u.right-scope a.form.scoped, a.form.rest))
      (first-job p i a u.first u.parts.near u.left))

module _ {w : Words} {g : Go} (x : Entered w g not_code) where
  pub not-down : {w' : Words} {q : Go} → Pushes w w' g.top (g.inner ∷ errors_word g.bad ∷ (g.depth + 1) ∷ g.due ∷ []) →
      q ≡ down_go g (g.due + 4) (g.top + 4) (g.depth + inner_root) Unseen → Stepped w w' g q
  unfolding grow_at tree_items fill enquire
  not-down {w'} p e = stepped x.at e (λ c b i.
      let a = at-form i x.code (omega arith) (omega arith) in
      let u = a.under in
      let low = top-low i in
      down-asks i (pushed-kept p low) (pushed-slots p low) (pushed-store p low) a.form.h a.E u.first denying a.is
      (form-tree i a ∙ rw u.is)
      (asked p i a denying u.next a.code)
      (first-job p i a u.first u.near u.under))
