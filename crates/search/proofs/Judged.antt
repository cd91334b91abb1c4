-- Going up: the topmost record is that of a node with an inner tree, whose verdict is known. Assumes nothing.
use Prim.Native.Nat.{ℕ, suc, ◌+◌, ◌-◌, ◌/◌, ◌<◌}
use native.Mathlib.Omega.{arith}
use mathlib.Core.Path.{◌≡◌, refl, sym, ◌∙◌, ap, subst}
use mathlib.Core.Bool.{Bool, true, false}
use mathlib.Core.List.{List, ◌∷◌}
use mathlib.Core.Logic.{◌⊎◌, inl, inr}
use lib.Dec.{eqb}
use lib.ListN.{set}
use Rattle.specification.specs.declared.Setting.{Setting}
use Rattle.specification.proofs.Laws.Contradiction.{contradiction}
use Rattle.specification.specs.Bytes.{Bytes}
use Rattle.specification.specs.Lines.{Declared}
use Rattle.specification.specs.Arithmetic.{undecided_inside}
use Rattle.specification.specs.Value.{Valuation}
use Rattle.specification.specs.Tree.{failure_leaf, error_leaf, succeeds, fails, undecided}
use Rattle.tables.specs.Layout.{cells_at, token_slot, path_at}
use Rattle.tables.specs.Kept.{SameSlots}
use Rattle.tables.specs.Codes.{imp_code, not_code}
use Rattle.sheet.specs.Tables.{Words}
use Rattle.sheet.specs.Held.{code_at, end_at, Holds}
use Rattle.terms.specs.Environment.{number_of}
use Rattle.terms.proofs.Laws.Here.{code_here, operand-here}
use Rattle.search.specs.Marks.{marks_in, Marks}
use Rattle.search.specs.declared.Errors.TheVariants.{Unseen, Seen}
use Rattle.search.specs.declared.Go.{Go}
use Rattle.search.specs.States.{errors_of}
use Rattle.tables.specs.Leaves.{failure_place, error_place}
use Rattle.plan.specs.Next.{token}
use Rattle.search.specs.Kept.{Kept, SameStore}
use Rattle.search.specs.Site.{Site}
use Rattle.search.specs.Frame.{Item, form, the, failure, error, tree_items, Question, denying, implying, son_of, Frame, pass, asks, len, top_of, site_in, store_in}
use Rattle.search.specs.Records.{at, bit}
use Rattle.search.specs.Path.{World, Job, Path}
use Rattle.search.specs.Sim.{yes, Down, Up, Yes}
use Rattle.search.specs.Climb.{around_go, Set, Rose, Granted}
use Rattle.search.proofs.Sites.{site-depth}
use Rattle.search.proofs.Slots.{holds-keep, marks-keep}
use Rattle.search.proofs.Changes.{kept_refl, error-kept, error-slots, error-store, error-told}
use Rattle.search.proofs.Paths.{path-top, stored-keep}
use Rattle.search.proofs.Stripped.{Left, up-strip, yes-strip}
use Rattle.search.proofs.Tops.{top-asks}
use Rattle.search.proofs.Restored.{words-there}
use Rattle.search.proofs.Resumed.{resumed, rose-down}

-- ---- the son of a verdict

son-fails : (D : Declared) (tok : ℕ) (q : Question) (is : List Item) (s : Site) (α : Valuation) → son_of D tok q is fails s α ≡ tree_items D is s α
son-fails D tok denying is s α = refl
son-fails D tok (implying E G) is s α = refl

son-undecided : (D : Declared) (tok : ℕ) (q : Question) (is : List Item) (s : Site) (α : Valuation) → son_of D tok q is undecided s α ≡ error_leaf undecided_inside tok α
son-undecided D tok denying is s α = refl
son-undecided D tok (implying E G) is s α = refl

-- whether an error leaf was seen, by the word of a record
read_bit : (e : Bool) (x : ℕ) → x ≡ bit e → errors_of (eqb x 1) ≡ errors_of e
read_bit true x h = rw h refl
read_bit false x h = rw h refl

-- and by the register
seen : (e : Bool) → errors_of e ≡ Seen → e ≡ true
seen true h = refl
seen false h = contradiction cc

unseen : (e : Bool) → errors_of e ≡ Unseen → e ≡ false
unseen true h = contradiction cc
unseen false h = refl

-- ---- what is read of the record

module _ {c : World} {w : Words} {top : ℕ} {α : Valuation} {tok : ℕ} {q : Question} {is : List Item} {β : Valuation} {e : Bool} {fr : List Frame}
    (P : Path c w top α (asks tok q is β e ∷ fr)) where
  pub ask-token : at w (top - 1) ≡ token_slot tok
  ask-token = let z : top - 1 ≡ top_of fr + 3 = omega (arith, P.ends) in ap (at w) z ∙ P.stack.0.token

  ask-depth : at w (top - 2) ≡ suc (len fr)
  ask-depth = let z : top - 2 ≡ top_of fr + 2 = omega (arith, P.ends) in ap (at w) z ∙ P.stack.0.depth ∙ ap suc (site-depth fr)

  ask-bad : errors_of (eqb (at w (top - 3)) 1) ≡ errors_of e
  ask-bad = let z : top - 3 ≡ top_of fr + 1 = omega (arith, P.ends) in read_bit e (at w (top - 3)) (ap (at w) z ∙ P.stack.0.bad)

  ask-inner : at w (top - 4) ≡ (site_in fr).inner
  ask-inner = let z : top - 4 ≡ top_of fr = omega (arith, P.ends) in ap (at w) z ∙ P.stack.0.inner

  -- its place in the path is that of a node with nothing left to do
  ask-path : {w' : Words} → Kept (top_of fr) w w' → SameSlots w w' → SameStore w w' → Path c w' (top - 4) β (pass β ∷ fr)
  ask-path {w'} k s t =
      path-top P k (pass β) (omega (arith, P.ends)) refl tt (holds-keep s (subst (Holds w) P.chain.0 P.holds))
      (marks-keep s (subst (λ γ. Marks w γ (marks_in c.declared (site_in fr).marks)) P.chain.0 P.marks)) (stored-keep t P.stored) P.chain.1

  -- the rest of the list comes next
  ask-rest : Job c w (store_in fr) β (at w (at w (top - 1) + 3)) (the is)
  ask-rest =
      let r = P.stack.0 in
      record {
        m = r.m;
        next = r.n;
        place = ap (λ k. at w (k + 3)) ask-token ∙ P.tables.tokens (token_slot tok + 3) (omega (arith, r.small)) ∙ r.next;
        rest = r.rest;
      }

-- ---- the steps

same-slots : (w : Words) → SameSlots w w
same-slots w = record { same = λ j k m. refl }

same_store : (w : Words) → SameStore w w
same_store w = record { same = λ j k m. refl }

module _ {w : Words} {g : Go} (some : ¬ (g.top ≡ path_at)) (low : at w (g.top - 1) < cells_at)
    (code : (at w (at w (g.top - 1)) ≡ not_code) ⊎ (at w (at w (g.top - 1)) ≡ imp_code)) where
  fails-down : {setting : Setting} → g.bad ≡ Unseen → (c : World) (b : Bytes) → Set c setting → Up c b w g → Down c b w (around_go w g (at w (at w (g.top - 1) + 3)) setting)
  fails-down {setting} none c b st u =
      let s = up-strip c u in
      top-asks (λ fr. Left c b g u.e fr → Down c b w (around_go w g (at w (at w (g.top - 1) + 3)) setting)) some low code
      (λ tok q is β e fr P left.
      resumed st u.tallies (pass β) fr (ask-path P (kept_refl (top_of fr) w) (same-slots w) (same_store w)) (ask-depth P) (the is) e (ask-inner P) (ask-bad P) (ask-rest P)
      (rw (unseen u.e (sym u.bad ∙ none), son-fails) at left.1))
      s.fr s.bare s.path s.said

  pub rose-failed : {setting : Setting} {q : Go} → g.bad ≡ Unseen → q ≡ around_go w g (at w (at w (g.top - 1) + 3)) setting → Rose w w g q setting
  rose-failed none e = rose-down e (fails-down none)

  module _ {w' : Words} (words : w' ≡ set (set w (error_place + 1) undecided_inside) (error_place + 2) (at w (g.top - 1) / 4)) where
    undecided-down : {setting : Setting} → g.bad ≡ Seen → (c : World) (b : Bytes) → Set c setting → Up c b w g → Down c b w' (around_go w g error_place setting)
    undecided-down {setting} one c b st u =
        let s = up-strip c u in
        top-asks (λ fr. Left c b g u.e fr → Down c b w' (around_go w g error_place setting)) some low code
        (λ tok q is β e fr P left.
        let four : at w (g.top - 1) / 4 ≡ tok = omega (arith, ask-token P) in
        let ws = words ∙ ap (set (set w (error_place + 1) undecided_inside) (error_place + 2)) four in
        let told = error-told w undecided_inside tok ws (words-there P) in
        resumed st u.tallies (pass β) fr
        (ask-path P (error-kept w undecided_inside tok ws (top_of fr)) (error-slots w undecided_inside tok ws) (error-store w undecided_inside tok ws)) (ask-depth P)
        (error undecided_inside tok) e (ask-inner P) (ask-bad P) (refl, told.0, told.1)
        (rw (seen u.e (sym u.bad ∙ one), son-undecided) at left.1))
        s.fr s.bare s.path s.said

    pub rose-undecided : {setting : Setting} {q : Go} → g.bad ≡ Seen → q ≡ around_go w g error_place setting → Rose w w' g q setting
    rose-undecided one e = rose-down e (undecided-down one)

-- ---- an inner tree has succeeded

module _ {c : World} {w : Words} {top : ℕ} {α : Valuation} {tok : ℕ} {is : List Item} {β : Valuation} {e : Bool} {fr : List Frame} where
  -- the code that the record's last word leads to
  asked-code : (q : Question) (n : ℕ) → (P : Path c w top α (asks tok q is β e ∷ fr)) → at w (at w (top - 1)) ≡ n → code_at c.tables tok ≡ n
  asked-code q n P h = sym (ap (at w) (ask-token P) ∙ code_here c.tables w P.tables.tokens P.stack.0.small) ∙ h

  -- `imp`: its second part
  second-part : (q : Question) (P : Path c w top α (asks tok q is β e ∷ fr)) → at w (at w (top - 1)) ≡ imp_code →
      (js : List Item)
      × (son_of c.declared tok q is succeeds (site_in (pass β ∷ fr)) β ≡ tree_items c.declared js (site_in (pass β ∷ fr)) β)
      × Job c w (store_in fr) β (at w (at w (top - 1) + 1)) (the js)
  second-part denying P h = absurd (omega (arith, asked-code denying imp_code P h, P.stack.0.question))
  second-part (implying E G) P h =
      let r = P.stack.0 in
      let a = r.question in (
        form E G ∷ is,
        refl,
        record {
          m = number_of E;
          next = token (end_at c.tables (suc tok));
          place = ap (λ k. at w (k + 1)) (ask-token P) ∙ operand-here c.tables w P.tables.tokens r.small ∙ a.1;
          rest = record {
            i = end_at c.tables (suc tok);
            n = r.n;
            leads = refl;
            from = tt;
            inside = a.2;
            stands = a.3;
            env = a.4;
            later = omega arith;
            scoped = a.5;
            rest = a.6;
          };
        },
      )

  -- `not`: a failure leaf
  denial : (q : Question) (P : Path c w top α (asks tok q is β e ∷ fr)) → at w (at w (top - 1)) ≡ not_code →
      son_of c.declared tok q is succeeds (site_in (pass β ∷ fr)) β ≡ failure_leaf
  denial denying P h = refl
  denial (implying E G) P h = absurd (omega (arith, asked-code (implying E G) not_code P h, P.stack.0.question.0))

module _ {w : Words} {g : Go} (some : ¬ (g.top ≡ path_at)) (low : at w (g.top - 1) < cells_at) where
  second-down : {setting : Setting} → at w (at w (g.top - 1)) ≡ imp_code → (c : World) (b : Bytes) → Set c setting → Yes c b w g →
      Down c b w (around_go w g (at w (at w (g.top - 1) + 1)) setting)
  second-down {setting} h c b st u =
      let s = yes-strip c u in
      top-asks (λ fr. yes c fr g.tallies b ≡ c.result → Down c b w (around_go w g (at w (at w (g.top - 1) + 1)) setting)) some low (inr h)
      (λ tok q is β e fr P r.
      let p = second-part q P h in
      resumed st u.tallies (pass β) fr (ask-path P (kept_refl (top_of fr) w) (same-slots w) (same_store w)) (ask-depth P) (the p.0) e (ask-inner P) (ask-bad P) p.2
      (rw p.1 at r))
      s.fr s.bare s.path s.said

  denied-down : {setting : Setting} → at w (at w (g.top - 1)) ≡ not_code → (c : World) (b : Bytes) → Set c setting → Yes c b w g →
      Down c b w (around_go w g failure_place setting)
  denied-down {setting} h c b st u =
      let s = yes-strip c u in
      top-asks (λ fr. yes c fr g.tallies b ≡ c.result → Down c b w (around_go w g failure_place setting)) some low (inl h)
      (λ tok q is β e fr P r.
      resumed st u.tallies (pass β) fr (ask-path P (kept_refl (top_of fr) w) (same-slots w) (same_store w)) (ask-depth P) failure e (ask-inner P) (ask-bad P) refl
      (rw (denial q P h) at r))
      s.fr s.bare s.path s.said

  granted : {q : Go} {due : ℕ} {setting : Setting} → q ≡ around_go w g due setting →
      ((c : World) (b : Bytes) → Set c setting → Yes c b w g → Down c b w (around_go w g due setting)) → Granted w g q setting
  granted e f = rw e (record { down = f; mode = refl; nodes = refl; counted = refl })

  pub granted-second : {q : Go} {setting : Setting} → at w (at w (g.top - 1)) ≡ imp_code → q ≡ around_go w g (at w (at w (g.top - 1) + 1)) setting →
      Granted w g q setting
  granted-second h e = granted e (second-down h)

  pub granted-failure : {q : Go} {setting : Setting} → at w (at w (g.top - 1)) ≡ not_code → q ≡ around_go w g failure_place setting → Granted w g q setting
  granted-failure h e = granted e (denied-down h)
