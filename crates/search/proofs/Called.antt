-- The step into a call: its procedure's formula comes next, where the parameters stand for the call's arguments as they are now. Assumes nothing.
use Prim.Native.Nat.{ℕ, zero, suc, ◌+◌, ◌-◌, ◌≤◌, ◌<◌}
use native.Mathlib.Omega.{arith}
use mathlib.Core.Path.{◌≡◌, refl, sym, ◌∙◌, ap}
use mathlib.Core.List.{List, [], ◌∷◌, map}
use mathlib.Core.Logic.{inl, inr}
use mathlib.Core.Option.{Option, none, some as just}
use borrow.Author.Tests.{eqb-true, eqb-false, eq-eqb, ne_eqb}
use mathlib.Core.Bool.{Bool, true, false}
use lib.ListN.{length, get_or, length-map}
use lib.Dec.{eqb, T_not}
use Rattle.specification.specs.Lists.{Each}
use Rattle.specification.specs.Bytes.{Bytes, pick}
use Rattle.specification.specs.Lines.{Declared, procedure_of}
use Rattle.specification.specs.Ast.{Term, Formula}
use Rattle.specification.specs.Fill.{fill_terms, fill}
use Rattle.specification.specs.Place.{local}
use Rattle.specification.specs.Value.{Valuation, side}
use Rattle.specification.specs.WellFormed.{Scope, nowhere, OkTerm, Ok, Valid}
use Rattle.specification.specs.Outside.{binds}
use Rattle.specification.specs.Tree.{step}
use Rattle.specification.proofs.Laws.Scope.{Ext}
use Rattle.specification.proofs.Laws.Place.{ext_refl}
use Rattle.specification.proofs.Laws.Outside.{in-outside}
use Rattle.specification.proofs.Laws.Fill.{Apart, length-fill, fill-binds, ok-fill}
use Rattle.tables.specs.Codes.{call_code, procedure_code}
use Rattle.tables.specs.Layout.{token_slot, proc_at, path_at, max_tokens, max_procs}
use Rattle.tables.specs.Kept.{SameSlots}
use Rattle.sheet.specs.Tables.{Words}
use Rattle.terms.specs.Environment.{frozen, Level, Environment, terms_of, number_of}
use Rattle.terms.specs.Calls.{level_of}
use Rattle.terms.proofs.Laws.Here.{code_here, operand-kept, token-ends}
use Rattle.terms.proofs.Laws.Frozen.{frozen-ok, frozen_same}
use Rattle.search.specs.declared.Go.{Go}
use Rattle.tables.specs.Frames.{frame_slot, argument_slot, call_at, back_at, tags_at}
use Rattle.tables.specs.Leaves.{end_place, return_code}
use Rattle.search.specs.Kept.{Kept, FrameSaved, FrameSet}
use Rattle.terms.specs.Environment as frames
use Rattle.terms.specs.Environment.{Results, flag_of}
use Rattle.plan.specs.Next.{Next, end, token, back, place_of, Plain}
use Rattle.search.specs.Store.{Call, Store, with, call_store, resolve, back_of}
use Rattle.search.specs.Frame.{Item, form, again, the, tree_items, site_in, store_in}
use Rattle.search.specs.Site.{RestAt, son_site, grow_at}
use Rattle.search.specs.Stands.{filled, Stands}
use Rattle.search.specs.Records.{at, CallRecord}
use Rattle.search.specs.Path.{World, Body, Framed, Stored}
use Rattle.search.specs.Sim.{tree, son, In, Down}
use Rattle.search.specs.Steps.{back_word, Entered, Stepped}
use Rattle.search.specs.Pend.{Pend}
use Rattle.search.specs.Registers.{down_go}
use Rattle.search.proofs.Pending.{env-call, with-same, with-other, resolve-call, pend-call}
use Rattle.search.proofs.Leave.{frames-apart, frames-other}
use Rattle.search.proofs.Paths.{framed-keep}
use Rattle.search.proofs.Descent.{down-called}
use Rattle.search.proofs.Simple.{stepped, top-low}
use Rattle.search.proofs.Frozen.{fill-same}
use Rattle.search.proofs.Subformulas.{Calls}
use Rattle.search.proofs.ByCode.{code-range}
use Rattle.search.proofs.Heads.{token-same, not_end, AtForm, at-form, form-tree}

-- ---- frozen arguments

module _ (D : Declared) (S : Scope) (α : Valuation) where
  abbrev frozens : List Term → List Term
  frozens ts = map (frozen D α) ts

  each-frozen : Valid D α → (ts : List Term) → Each (OkTerm D S) ts → Each (OkTerm D S) (frozens ts)
  unfolding Each
  each-frozen v [] o = tt
  each-frozen v (t ∷ ts) o = (frozen-ok D S α v t o.0, each-frozen v ts o.1)

  frozen-at : (ts : List Term) → Each (OkTerm D S) ts → (β : Valuation) → Ext D S α β → (n : ℕ) (d : Term) →
      side D β (get_or ts n d) ≡ side D β (get_or (frozens ts) n d)
  unfolding Each
  frozen-at [] o β e n d = refl
  frozen-at (t ∷ ts) o β e zero d = sym (frozen_same D S α β e t o.0)
  frozen-at (t ∷ ts) o β e (suc n) d = frozen-at ts o.1 β e n d

-- ---- a call that is due

module _ {w : Words} {g : Go} (x : Entered w g call_code) {c : World} {b : Bytes} (i : In c b w g) where
  abbrev found : AtForm i call_code
  found = at-form i x.code (omega arith) (omega arith)

  abbrev calling : Calls c.declared c.tables found.E found.form.n found.form.stands.good.scope found.form.h found.F
  calling = found.under

  -- its scope, and its arguments in its environment
  abbrev scope : Scope
  scope = calling.arguments.scope

  abbrev arguments : List Term
  arguments = fill_terms (terms_of found.E) calling.terms

  -- its procedure's formula, and the environment that this is walked in
  abbrev procedure : Formula
  procedure = (procedure_of c.declared calling.number).formula

  abbrev inside : Environment
  inside = level_of c.declared i.α found.E calling.number calling.terms ∷ found.E

  body-held : Body c calling.number
  body-held = i.path.tables.procedures.bodies calling.number calling.called.earlier

  number_small : calling.number < max_procs
  number_small = omega (arith, calling.called.earlier, i.path.tables.procedures.few)

  -- the procedure's formula with the arguments is well scoped, and so it is with frozen ones
  filled_ok : Ok c.declared scope (fill arguments procedure)
  filled_ok = rw calling.called.filled at calling.ok

  procedure-apart : Apart nowhere scope procedure
  procedure-apart l h t =
      T_not (binds (fill arguments procedure) l) (in-outside c.declared scope (fill arguments procedure) filled_ok (local l) t)
      (rw (fill-binds arguments procedure l) h)

  frozen-filled : Ok c.declared scope (filled inside procedure)
  frozen-filled =
      let D = c.declared in
      let p = i.path.tables.procedures in
      ok-fill D p.ok calling.number (frozens D scope i.α arguments) (length-map arguments (frozen D i.α) ∙ calling.called.count) scope
      (each-frozen D scope i.α i.path.valid arguments calling.arguments.ok) nowhere scope procedure
      (p.ok calling.number calling.called.earlier) (λ l t. absurd t) (λ l t. t) procedure-apart

  abbrev body-stands : Stands c.declared c.tables inside (proc_at c.tables calling.number) procedure (back calling.number)
  body-stands = record {
    held = body-held.held.formula;
    good = record { scope = scope; locals = calling.arguments.locals; ok = frozen-filled; shallow = body-held.held.shallow };
    planned = body-held.planned;
  }

  call-tree : tree c i.fr i.x i.α ≡ step (son c i.fr (the (form inside procedure ∷ found.is)) i.α)
  unfolding grow_at tree_items fill
  call-tree =
      let D = c.declared in
      let s = site_in i.fr in
      let k : RestAt = λ t β. tree_items D found.is t β in
      form-tree i found ∙ ap (λ F. grow_at D (filled found.E F) k s i.α) calling.is ∙
      ap (λ F. step (grow_at D F k (son_site s) i.α)) calling.called.filled ∙
      ap step
      (fill-same D scope i.α arguments (frozens D scope i.α arguments)
      (λ β e n. frozen-at D scope i.α arguments calling.arguments.ok β e n _) procedure scope (λ l t. t) filled_ok k k (λ t β e. refl) (son_site s)
      i.α (ext_refl D scope i.α))

  -- ---- what comes after it, past the ends of procedures

  abbrev after : Next
  after = resolve (store_in i.fr) found.form.n

-- what is resolved is no procedure's end, if something stands there
plain_end : (x : Next) → x ≡ end → Plain x
plain_end x e = rw e tt

plain-token : (x : Next) (h : ℕ) → x ≡ token h → Plain x
plain-token x h e = rw e tt

pub pend-plain : (D : Declared) (t : Words) (σ : Store) (α : Valuation) (m : ℕ) (x : Next) (is : List Item) → Pend D t σ α m x is → Plain (resolve σ x)
pend-plain D t σ α m x [] q = plain_end (resolve σ x) q.0
pend-plain D t σ α m x (form E F ∷ is) q = plain-token (resolve σ x) q.i q.leads
pend-plain D t σ α m x (again E l F k v ∷ is) q = plain-token (resolve σ x) (suc q.h) q.leads

-- the items after a call come after its procedure's end
module _ (D : Declared) (t : Words) (σ : Store) (α : Valuation) (C : Call) (small : C.level.number < max_procs) where
  abbrev K : ℕ
  K = C.level.number

  resolve-own : resolve (call_store C σ) (back K) ≡ C.back
  resolve-own = ap (back_of K) (with-same σ.calls K (just C))

  pend-back : (m : ℕ) (x : Next) (is : List Item) → K < m → C.back ≡ resolve σ x → Pend D t σ α m x is → Pend D t (call_store C σ) α K (back K) is
  pend-back m x [] h e q = (resolve-own ∙ e ∙ q.0, (omega arith, small))
  pend-back m x (form E F ∷ is) h e q =
      let r = pend-call D t σ α C m x (form E F ∷ is) h q in
      record {
        i = r.i;
        n = r.n;
        leads = resolve-own ∙ e ∙ sym (resolve-call σ C m x h q.from) ∙ r.leads;
        from = (omega arith, small);
        inside = r.inside;
        stands = r.stands;
        env = r.env;
        later = omega (arith, r.later);
        scoped = r.scoped;
        rest = r.rest;
      }
  pend-back m x (again E l F k v ∷ is) h e q =
      let r = pend-call D t σ α C m x (again E l F k v ∷ is) h q in
      record {
        h = r.h;
        n = r.n;
        leads = resolve-own ∙ e ∙ sym (resolve-call σ C m x h q.from) ∙ r.leads;
        from = (omega arith, small);
        code = r.code;
        next = r.next;
        binds = r.binds;
        left = r.left;
        env = r.env;
        later = omega (arith, r.later);
        scoped = r.scoped;
        rest = r.rest;
      }

-- ---- where it returns to

module _ {c : World} {b : Bytes} {w : Words} {g : Go} (i : In c b w g) where
  abbrev σ : Store
  σ = store_in i.fr

  -- a word that is no procedure's end
  straight : (n : ℕ) → ¬ (at w n ≡ return_code) → pick (eqb (at w n) return_code) (at w (n + 1)) n ≡ n
  straight n h = rw (ne_eqb (at w n) return_code h) refl

  token-no-return : (m j : ℕ) (is : List Item) → Pend c.declared c.tables σ i.α m (token j) is → ¬ (at w (token_slot j) ≡ return_code)
  token-no-return m j [] q e = absurd (not_end q.0)
  token-no-return m j (form E F ∷ is) q e =
      let same : j ≡ q.i = token-same q.leads in
      let r = code-range c.declared c.tables E q.i F q.n q.stands in
      omega (arith, sym e ∙ ap (λ k. at w (token_slot k)) same ∙ code_here c.tables w i.path.tables.tokens q.inside, r)
  token-no-return m j (again E l F k v ∷ is) q e =
      let same : j ≡ suc q.h = token-same q.leads in
      omega (arith, sym e ∙ ap (λ k. at w (token_slot k)) same ∙ code_here c.tables w i.path.tables.tokens (omega (arith, q.binds.near)) ∙ q.binds.local.0.code)

  pub frame_back : (J : ℕ) → J < max_procs → (o : Option Call) → σ.calls J ≡ o → Plain (back_of J o) → at w (frame_slot J + 1) ≡ place_of (back_of J o)
  frame_back J s none e p = absurd p
  frame_back J s (just B) e p = let q = i.path.stored.calls J B e in rw q.0 at q.2.back

  from-small : (m J : ℕ) (is : List Item) → Pend c.declared c.tables σ i.α m (back J) is → J < max_procs
  from-small m J [] q = q.1.1
  from-small m J (form E F ∷ is) q = q.from.1
  from-small m J (again E l F k v ∷ is) q = q.from.1

  returns_to : (m : ℕ) (x : Next) (is : List Item) (n : ℕ) → n ≡ place_of x → Pend c.declared c.tables σ i.α m x is →
      pick (eqb (at w n) return_code) (at w (n + 1)) n ≡ place_of (resolve σ x)
  returns_to m end is n e q = rw e (straight end_place (λ z. omega (arith, sym z ∙ i.path.tables.leaves.end)))
  returns_to m (token j) is n e q = rw e (straight (token_slot j) (token-no-return m j is q))
  returns_to m (back J) is n e q =
      let small = from-small m J is q in
      let code = i.path.tables.leaves.returns J small in
      rw (e, eq-eqb (at w (frame_slot J)) return_code code) (frame_back J small (σ.calls J) refl (pend-plain c.declared c.tables σ i.α m (back J) is q))

-- ---- the step

module _ {w w' : Words} {top N : ℕ} (fs : FrameSet w w' top N) (small : N < max_procs) (low : path_at ≤ top) where
  set-kept : Kept top w w'
  set-kept = record {
    tokens = λ j k. fs.others j (omega arith) (inl (omega arith)) (inl (omega arith));
    firsts = λ j k m. fs.others j (omega arith) (inl (omega arith)) (inl (omega arith));
    returns = λ J k. fs.others _ (omega arith) (inr (omega arith)) (frames-apart J N);
    leaves = λ j k m. fs.others j (omega arith) (inr (omega arith)) (inr (omega arith));
    records = λ j k m. fs.others j (omega arith) (inr (omega arith)) (inr (omega arith));
    size = fs.size;
  }

  set-slots : SameSlots w w'
  set-slots = record { same = λ j k m. fs.others j (omega arith) (inl (omega arith)) (inl (omega arith)) }

  -- the store with the call
  set-stored : {c : World} {σ : Store} (C : Call) → C.level.number ≡ N → Framed c w' C → Stored c w σ → Stored c w' (call_store C σ)
  set-stored {c} {σ} C e f st = record {
    lasts = λ l h. fs.others _ (omega arith) (inr (omega arith)) (inr (omega arith)) ∙ st.lasts l h;
    calls = λ J B z. go J B z (eqb J C.level.number) refl;
  }
    where
      go : (J : ℕ) (B : Call) → with σ.calls C.level.number (just C) J ≡ just B → (b : Bool) → eqb J C.level.number ≡ b →
          (B.level.number ≡ J) × (J < max_procs) × Framed c w' B
      go J B z true y =
          let same = eqb-true J C.level.number y in
          let is : just C ≡ just B = sym (ap (with σ.calls C.level.number (just C)) same ∙ with-same σ.calls C.level.number (just C)) ∙ z in
          let B-is : C ≡ B = cc in
          rw (← B-is) (sym same, omega arith, f)
      go J B z false y =
          let off = eqb-false J C.level.number y in
          let r = st.calls J B (sym (with-other σ.calls C.level.number (just C) J off) ∙ z) in
          (r.0, r.1, framed-keep B (record { same = λ j l h. fs.others _ (omega (arith, r.0, r.1)) (inr (omega arith)) (rw r.0 (frames-other J N (λ q. off (q ∙ sym e)) j h)) }) r.2)

module _ {w w' : Words} {g : Go} (x : Entered w g call_code) {N n : ℕ} (eN : N ≡ at w (g.due + 5)) (en : n ≡ at w (g.due + 4) - procedure_code)
    (sv : FrameSaved w w' g.top N n g.due) (fs : FrameSet w w' g.top N) (token-is : call_at w' N ≡ g.due) (back_is : back_at w' N ≡ back_word w g.due) where
  module _ {c : World} {b : Bytes} (i : In c b w g) where
    abbrev L : Level
    L = level_of c.declared i.α (found x i).E (calling x i).number (calling x i).terms

    number_is : N ≡ (calling x i).number
    number_is =
        let u = calling x i in
        let e : g.due + 5 ≡ token_slot (suc (found x i).form.h) + 1 = omega (arith, (found x i).form.place) in
        eN ∙ ap (at w) e ∙ operand-kept c.tables w i.path.tables.tokens u.held.token u.held.number

    width_is : n ≡ length (calling x i).terms
    width_is =
        let u = calling x i in
        let e : g.due + 4 ≡ token_slot (suc (found x i).form.h) = omega (arith, (found x i).form.place) in
        let z = token-ends u.held.token in
        let k : at w (g.due + 4) ≡ procedure_code + length u.terms =
        ap (at w) e ∙ code_here c.tables w i.path.tables.tokens (omega (arith, z.after, z.inside)) ∙ u.held.token.code in
        omega arith

    abbrev this-call : Call
    this-call = record { level = L; around = (found x i).E; token = (found x i).form.h; back = after x i }

    calls-here : frames.Calls c.declared c.tables (found x i).form.h L (found x i).E
    calls-here =
        let u = calling x i in
        let terms = length-map (arguments x i) (frozen c.declared i.α) in
        record {
          earlier = u.earlier;
          call = u.held;
          around = u.around;
          arguments = u.arguments;
          count = terms ∙ length-fill (terms_of (found x i).E) u.terms;
          arity = terms ∙ u.called.count;
        }

    -- what the slots of the arguments say
    pub record Told : Type 0 where
      pub results : Results c.declared (found x i).E L (tags_at w' N) (λ k. get_or w' (argument_slot N k + 1) 0)
      pub flags : (k : ℕ) → k < length L.terms → get_or w' (argument_slot N k) 0 ≡ flag_of (tags_at w' N) k

    framed : Told → Framed c w' this-call
    framed t = record {
      calls = calls-here;
      plain = pend-plain c.declared c.tables (store_in i.fr) i.α (number_of (found x i).E) (found x i).form.n (found x i).is (found x i).form.rest;
      back = rw (← number_is) (back_is ∙ returns_to i (number_of (found x i).E) (found x i).form.n (found x i).is (at w (g.due + 3)) after_is (found x i).form.rest);
      token = rw (← number_is) (token-is ∙ (found x i).form.place);
      results = rw (← number_is) t.results;
      flags = rw (← number_is) t.flags;
    }
      where
        after_is : at w (g.due + 3) ≡ place_of (found x i).form.n
        after_is =
            let h = (found x i).form.h in
            ap (λ k. at w (k + 3)) (found x i).form.place ∙ i.path.tables.tokens (token_slot h + 3) (omega (arith, (found x i).form.inside)) ∙ (calling x i).next

    record-here : CallRecord c.declared c.tables w' g.top (site_in i.fr) (store_in i.fr) this-call i.α
    record-here =
        let u = calling x i in
        let K' = u.number in
        let z = token-ends u.held.token in
        let near : suc (found x i).form.h < max_tokens = omega (arith, z.after, z.inside) in
        let saved : FrameSaved w w' g.top K' (length u.terms) g.due = rw (number_is, width_is) at sv in
        record {
          few = u.arguments.few;
          earlier = number_small x i;
          kept = λ B e.
              let q = i.path.stored.calls K' B e in
              let f = q.2 in
              let same : length B.level.arguments ≡ length u.terms =
              sym f.calls.count ∙ f.calls.arity ∙ ap (λ J. (procedure_of c.declared J).parameters) q.0 ∙ sym calls-here.arity ∙ calls-here.count in
              record {
                number = q.0;
                calls = f.calls;
                plain = f.plain;
                count = same;
                results = λ j h. rw (saved.tags, saved.words j (omega (arith, f.calls.count, same))) (rw q.0 at (f.results j h));
                back = saved.back ∙ rw q.0 at f.back;
                token = saved.token ∙ rw q.0 at f.token;
              };
          token = saved.own ∙ (found x i).form.place;
          code = (found x i).code;
          small = near;
          number = u.held.number;
          width = u.held.token.code;
        }

    goes : Told → Down c b w' (down_go g (token_slot (proc_at w N)) (g.top + n + 4) g.inner g.bad)
    goes t =
        let u = calling x i in
        let a = found x i in
        let K' = u.number in
        let small = number_small x i in
        let small_n : N < max_procs = rw number_is small in
        let low = top-low i in
        let σ' = store_in i.fr in
        let C = this-call in
        down-called i (set-kept fs small_n low) (set-slots fs small_n low) C (set-stored fs small_n low C (sym number_is) (framed t) i.path.stored) record-here
        (the (form (inside x i) (procedure x i) ∷ a.is)) (call-tree x i)
        (record {
          m = K';
          next = token (proc_at c.tables K');
          place = ap (λ k. token_slot (proc_at w k)) number_is ∙ ap token_slot (i.path.tables.procedures.same K' small);
          rest = record {
            i = proc_at c.tables K';
            n = back K';
            leads = refl;
            from = tt;
            inside = (body-held x i).held.inside;
            stands = body-stands x i;
            env = (
              record { call = C; there = with-same σ'.calls K' (just C); level = refl; around = refl; earlier = u.earlier },
              env-call σ' C a.E u.earlier a.form.env,
            );
            later = omega arith;
            scoped = rw u.scope a.form.scoped;
            rest = pend-back c.declared c.tables σ' i.α C small (number_of a.E) a.form.n a.is u.earlier refl a.form.rest;
          };
        })
        (omega (arith, width_is))

  pub call-down : ((c : World) (b : Bytes) (i : In c b w g) → Told i) → {q : Go} → q ≡ down_go g (token_slot (proc_at w N)) (g.top + n + 4) g.inner g.bad → Stepped w w' g q
  call-down told e = stepped x.at e (λ c b i. goes i (told c b i))
