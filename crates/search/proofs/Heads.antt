-- What is due at a node that is entered, by the code of its token: the items and their tree. Assumes nothing.
use Prim.Native.Nat.{ℕ, suc, ◌≤◌, ◌<◌}
use native.Mathlib.Omega.{arith}
use mathlib.Core.Path.{◌≡◌, refl, sym, ◌∙◌, ap}
use mathlib.Core.List.{List, [], ◌∷◌}
use mathlib.Core.Logic.{◌⊎◌, inl, inr}
use lib.ListN.{get_or}
use lib.IntN.{ℤ}
use Rattle.specification.specs.Bytes.{Bytes}
use Rattle.specification.specs.Ast.{Formula}
use Rattle.specification.specs.Value.{Valuation}
use Rattle.specification.proofs.Laws.Contradiction.{contradiction}
use Rattle.tables.specs.Layout.{token_slot, max_tokens, max_procs}
use Rattle.tables.specs.Codes.{all_code, local_code, first_formula, last_formula}
use Rattle.sheet.specs.Tables.{Words}
use Rattle.sheet.specs.Held.{code_at}
use Rattle.terms.specs.Environment.{Environment, number_of}
use Rattle.terms.proofs.Laws.Here.{code_here}
use Rattle.search.specs.declared.Go.{Go}
use Rattle.tables.specs.Layout.{plan_at}
use Rattle.tables.specs.Frames.{frame_slot}
use Rattle.tables.specs.Leaves.{end_place, failure_place, success_place, error_place, empty_code, failure_code, success_code, error_code, return_code, kind_at, token_at}
use Rattle.plan.specs.Next.{Next, end, token, back, place_of}
use Rattle.search.specs.Stands.{filled, Stands, Binds}
use Rattle.search.specs.Store.{Store, EnvIn}
use Rattle.search.specs.Frame.{Item, form, again, What, the, success, failure, error, tree_items, site_in, store_in}
use Rattle.search.specs.Pend.{Scoped, Inside, Left, Pend}
use Rattle.search.specs.Path.{World, Job}
use Rattle.tables.specs.Leaves.{Leaves}
use Rattle.search.specs.Sim.{tree, In}
use Rattle.search.specs.Site.{grow_at}
use Rattle.search.proofs.Subformulas.{Says}
use Rattle.search.proofs.ByCode.{code-range, says}

pub token-same : {i j : ℕ} → token i ≡ token j → i ≡ j
token-same e = cc

pub not_end : {i : ℕ} → token i ≡ end → ⊥
not_end z = contradiction cc

-- ---- what is due, by what it stands for

module _ (c : World) (σ : Store) (α : Valuation) (due : ℕ) where
  -- a formula
  pub record FormHead (E : Environment) (F : Formula) (is : List Item) : Type 0 where
    pub h : ℕ
    pub n : Next
    pub place : due ≡ token_slot h
    pub inside : h < max_tokens
    pub stands : Stands c.declared c.tables E h F n
    pub env : EnvIn σ E
    pub scoped : Scoped stands.good.scope is
    pub rest : Pend c.declared c.tables σ α (number_of E) n is

  -- an `all` that comes first again
  pub record AgainHead (E : Environment) (l : ℕ) (F : Formula) (k : ℕ) (v : ℤ) (is : List Item) : Type 0 where
    pub h : ℕ
    pub n : Next
    pub place : due ≡ token_slot (suc h)
    pub code : code_at c.tables h ≡ all_code
    pub next : plan_at c.tables h ≡ place_of n
    pub binds : Binds c.declared c.tables E h l F (token (suc h))
    pub left : Left α σ l k v
    pub env : EnvIn σ E
    pub scoped : Inside binds.body.good.scope l is
    pub rest : Pend c.declared c.tables σ α (number_of E) n is

  -- directly
  abbrev pub Direct : Words → What → Type 0
  Direct w (the []) = due ≡ end_place
  Direct w (the (form E F ∷ is)) = FormHead E F is
  Direct w (the (again E l F k v ∷ is)) = AgainHead E l F k v is
  Direct w success = due ≡ success_place
  Direct w failure = due ≡ failure_place
  Direct w (error κ tok) = (due ≡ error_place) × (kind_at w ≡ κ) × (token_at w ≡ tok)

  -- or past a procedure's end
  pub record Return (w : Words) (x : What) : Type 0 where
    pub K : ℕ
    pub small : K < max_procs
    pub place : due ≡ frame_slot K
    pub is : List Item
    pub the-is : x ≡ the is
    pub m : ℕ
    pub later : m ≤ K
    pub rest : Pend c.declared c.tables σ α m (back K) is

  abbrev pub Head : Words → What → Type 0
  Head w x = Direct w x ⊎ Return w x

  list-head : (w : Words) (is : List Item) (m : ℕ) (n : Next) → due ≡ place_of n → Pend c.declared c.tables σ α m n is → Head w (the is)
  list-head w [] m end e q = inl e
  list-head w [] m (token i) e q = absurd (not_end q.0)
  list-head w [] m (back K) e q =
      inr (record { K = K; small = q.1.1; place = e; is = []; the-is = refl; m = m; later = q.1.0; rest = q })
  list-head w (form E F ∷ is) m end e q = absurd (not_end (sym q.leads))
  list-head w (form E F ∷ is) m (token j) e q =
      let same : j ≡ q.i = token-same q.leads in
      inl (record {
        h = q.i;
        n = q.n;
        place = e ∙ ap token_slot same;
        inside = q.inside;
        stands = q.stands;
        env = q.env;
        scoped = q.scoped;
        rest = q.rest;
      })
  list-head w (form E F ∷ is) m (back K) e q =
      inr (record { K = K; small = q.from.1; place = e; is = form E F ∷ is; the-is = refl; m = m; later = q.from.0; rest = q })
  list-head w (again E l F k v ∷ is) m end e q = absurd (not_end (sym q.leads))
  list-head w (again E l F k v ∷ is) m (token j) e q =
      let same : j ≡ suc q.h = token-same q.leads in
      inl (record {
        h = q.h;
        n = q.n;
        place = e ∙ ap token_slot same;
        code = q.code;
        next = q.next;
        binds = q.binds;
        left = q.left;
        env = q.env;
        scoped = q.scoped;
        rest = q.rest;
      })
  list-head w (again E l F k v ∷ is) m (back K) e q =
      inr (record { K = K; small = q.from.1; place = e; is = again E l F k v ∷ is; the-is = refl; m = m; later = q.from.0; rest = q })

  pub head : (w : Words) (x : What) → Job c w σ α due x → Head w x
  head w (the is) q = list-head w is q.m q.next q.place q.rest
  head w success q = inl q
  head w failure q = inl q
  head w (error κ tok) q = inl q

-- ---- by the code

module _ {c : World} {b : Bytes} {w : Words} {g : Go} (i : In c b w g) where
  abbrev σ : Store
  σ = store_in i.fr

  pub here : Head c σ i.α g.due w i.x
  here = head c σ i.α g.due w i.x i.job

  leaves : Leaves w
  leaves = i.path.tables.leaves

  -- the code of a token of the table
  token-code : (h : ℕ) → g.due ≡ token_slot h → h < max_tokens → get_or w g.due 0 ≡ code_at c.tables h
  token-code h e z = rw e (code_here c.tables w i.path.tables.tokens z)

  return-code : (x : What) → Return c σ i.α g.due w x → get_or w g.due 0 ≡ return_code
  return-code x r = rw r.place (leaves.returns r.K r.small)

  local-token : (E : Environment) (l : ℕ) (F : Formula) (k : ℕ) (v : ℤ) (is : List Item) → AgainHead c σ i.α g.due E l F k v is →
      get_or w g.due 0 ≡ local_code
  local-token E l F k v is a = token-code (suc a.h) a.place (omega (arith, a.binds.near)) ∙ a.binds.local.0.code

  -- a formula, with what its code says
  pub record AtForm (n : ℕ) : Type 0 where
    pub E : Environment
    pub F : Formula
    pub is : List Item
    pub x-is : i.x ≡ the (form E F ∷ is)
    pub form : FormHead c σ i.α g.due E F is
    pub code : code_at c.tables form.h ≡ n
    pub under : Says c.declared c.tables E form.n form.stands.good.scope form.h n F

  pub at-form : {n : ℕ} → get_or w g.due 0 ≡ n → first_formula ≤ n → n ≤ last_formula → AtForm n
  at-form {n} e low high = by i.x refl here
    where
      by : (x : What) → i.x ≡ x → Head c σ i.α g.due w x → AtForm n
      by (the []) z (inl q) = absurd (omega (arith, sym (rw q at e) ∙ leaves.end))
      by (the (form E F ∷ is)) z (inl q) =
          let code = sym (token-code q.h q.place q.inside) ∙ e in
          record { E = E; F = F; is = is; x-is = z; form = q; code = code; under = says q.stands code }
      by (the (again E l F k v ∷ is)) z (inl q) = absurd (omega (arith, sym e ∙ local-token E l F k v is q))
      by success z (inl q) = absurd (omega (arith, sym (rw q at e) ∙ leaves.success))
      by failure z (inl q) = absurd (omega (arith, sym (rw q at e) ∙ leaves.failure))
      by (error κ tok) z (inl q) = absurd (omega (arith, sym (rw q.0 at e) ∙ leaves.error))
      by x z (inr q) = absurd (omega (arith, sym e ∙ return-code x q))

  pub form-tree : {n : ℕ} (a : AtForm n) →
      tree c i.fr i.x i.α ≡ grow_at c.declared (filled a.E a.F) (λ s β. tree_items c.declared a.is s β) (site_in i.fr) i.α
  unfolding tree_items
  form-tree a = rw a.x-is

  -- an `all` that comes first again
  pub record AtAgain : Type 0 where
    pub E : Environment
    pub l : ℕ
    pub F : Formula
    pub k : ℕ
    pub v : ℤ
    pub is : List Item
    pub x-is : i.x ≡ the (again E l F k v ∷ is)
    pub form : AgainHead c σ i.α g.due E l F k v is

  pub at_again : get_or w g.due 0 ≡ local_code → AtAgain
  at_again e = by i.x refl here
    where
      by : (x : What) → i.x ≡ x → Head c σ i.α g.due w x → AtAgain
      by (the []) z (inl q) = absurd (omega (arith, sym (rw q at e) ∙ leaves.end))
      by (the (form E F ∷ is)) z (inl q) =
          let r = code-range c.declared c.tables E q.h F q.n q.stands in
          absurd (omega (arith, sym e ∙ token-code q.h q.place q.inside, r))
      by (the (again E l F k v ∷ is)) z (inl q) = record { E = E; l = l; F = F; k = k; v = v; is = is; x-is = z; form = q }
      by success z (inl q) = absurd (omega (arith, sym (rw q at e) ∙ leaves.success))
      by failure z (inl q) = absurd (omega (arith, sym (rw q at e) ∙ leaves.failure))
      by (error κ tok) z (inl q) = absurd (omega (arith, sym (rw q.0 at e) ∙ leaves.error))
      by x z (inr q) = absurd (omega (arith, sym e ∙ return-code x q))

  -- the empty list
  pub at-empty : get_or w g.due 0 ≡ empty_code → i.x ≡ the []
  at-empty e = by i.x refl here
    where
      by : (x : What) → i.x ≡ x → Head c σ i.α g.due w x → i.x ≡ the []
      by (the []) z (inl q) = z
      by (the (form E F ∷ is)) z (inl q) =
          let r = code-range c.declared c.tables E q.h F q.n q.stands in
          absurd (omega (arith, sym e ∙ token-code q.h q.place q.inside, r))
      by (the (again E l F k v ∷ is)) z (inl q) = absurd (omega (arith, sym e ∙ local-token E l F k v is q))
      by success z (inl q) = absurd (omega (arith, sym (rw q at e) ∙ leaves.success))
      by failure z (inl q) = absurd (omega (arith, sym (rw q at e) ∙ leaves.failure))
      by (error κ tok) z (inl q) = absurd (omega (arith, sym (rw q.0 at e) ∙ leaves.error))
      by x z (inr q) = absurd (omega (arith, sym e ∙ return-code x q))

  -- a procedure's end
  pub at_return : get_or w g.due 0 ≡ return_code → Return c σ i.α g.due w i.x
  at_return e = by i.x here
    where
      by : (x : What) → Head c σ i.α g.due w x → Return c σ i.α g.due w x
      by (the []) (inl q) = absurd (omega (arith, sym (rw q at e) ∙ leaves.end))
      by (the (form E F ∷ is)) (inl q) =
          let r = code-range c.declared c.tables E q.h F q.n q.stands in
          absurd (omega (arith, sym e ∙ token-code q.h q.place q.inside, r))
      by (the (again E l F k v ∷ is)) (inl q) = absurd (omega (arith, sym e ∙ local-token E l F k v is q))
      by success (inl q) = absurd (omega (arith, sym (rw q at e) ∙ leaves.success))
      by failure (inl q) = absurd (omega (arith, sym (rw q at e) ∙ leaves.failure))
      by (error κ tok) (inl q) = absurd (omega (arith, sym (rw q.0 at e) ∙ leaves.error))
      by x (inr q) = q

  -- the leaves
  pub at-success : get_or w g.due 0 ≡ success_code → i.x ≡ success
  at-success e = by i.x refl here
    where
      by : (x : What) → i.x ≡ x → Head c σ i.α g.due w x → i.x ≡ success
      by (the []) z (inl q) = absurd (omega (arith, sym (rw q at e) ∙ leaves.end))
      by (the (form E F ∷ is)) z (inl q) =
          let r = code-range c.declared c.tables E q.h F q.n q.stands in
          absurd (omega (arith, sym e ∙ token-code q.h q.place q.inside, r))
      by (the (again E l F k v ∷ is)) z (inl q) = absurd (omega (arith, sym e ∙ local-token E l F k v is q))
      by success z (inl q) = z
      by failure z (inl q) = absurd (omega (arith, sym (rw q at e) ∙ leaves.failure))
      by (error κ tok) z (inl q) = absurd (omega (arith, sym (rw q.0 at e) ∙ leaves.error))
      by x z (inr q) = absurd (omega (arith, sym e ∙ return-code x q))

  pub at-failure : get_or w g.due 0 ≡ failure_code → i.x ≡ failure
  at-failure e = by i.x refl here
    where
      by : (x : What) → i.x ≡ x → Head c σ i.α g.due w x → i.x ≡ failure
      by (the []) z (inl q) = absurd (omega (arith, sym (rw q at e) ∙ leaves.end))
      by (the (form E F ∷ is)) z (inl q) =
          let r = code-range c.declared c.tables E q.h F q.n q.stands in
          absurd (omega (arith, sym e ∙ token-code q.h q.place q.inside, r))
      by (the (again E l F k v ∷ is)) z (inl q) = absurd (omega (arith, sym e ∙ local-token E l F k v is q))
      by success z (inl q) = absurd (omega (arith, sym (rw q at e) ∙ leaves.success))
      by failure z (inl q) = z
      by (error κ tok) z (inl q) = absurd (omega (arith, sym (rw q.0 at e) ∙ leaves.error))
      by x z (inr q) = absurd (omega (arith, sym e ∙ return-code x q))

  pub record AtError : Type 0 where
    pub κ : ℕ
    pub tok : ℕ
    pub x-is : i.x ≡ error κ tok
    pub kind : kind_at w ≡ κ
    pub token : token_at w ≡ tok

  pub at-error : get_or w g.due 0 ≡ error_code → AtError
  at-error e = by i.x refl here
    where
      by : (x : What) → i.x ≡ x → Head c σ i.α g.due w x → AtError
      by (the []) z (inl q) = absurd (omega (arith, sym (rw q at e) ∙ leaves.end))
      by (the (form E F ∷ is)) z (inl q) =
          let r = code-range c.declared c.tables E q.h F q.n q.stands in
          absurd (omega (arith, sym e ∙ token-code q.h q.place q.inside, r))
      by (the (again E l F k v ∷ is)) z (inl q) = absurd (omega (arith, sym e ∙ local-token E l F k v is q))
      by success z (inl q) = absurd (omega (arith, sym (rw q at e) ∙ leaves.success))
      by failure z (inl q) = absurd (omega (arith, sym (rw q at e) ∙ leaves.failure))
      by (error κ tok) z (inl q) = record { κ = κ; tok = tok; x-is = z; kind = q.1; token = q.2 }
      by x z (inr q) = absurd (omega (arith, sym e ∙ return-code x q))
