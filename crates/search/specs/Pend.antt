-- What comes next stands for a list of items: by the plan of the tables, the store and, for an `all` that goes on, the value of its local. No word of
-- the path matters, so what a record says of its list holds again once later records are gone. Assumes nothing.
use Rattle.std.specs.Prelude.{ℕ, suc, ◌≤◌, ◌<◌, ◌≡◌, not, List, [], ◌∷◌, T, ℤ}
use Rattle.specification.specs.Lines.{Declared}
use Rattle.specification.specs.Ast.{Formula}
use Rattle.specification.specs.Place.{local}
use Rattle.specification.specs.Value.{full, Valuation}
use Rattle.specification.specs.WellFormed.{Scope, enter}
use Rattle.values.specs.Word.{signed}
use Rattle.tables.specs.Layout.{max_tokens}
use Rattle.tables.specs.Codes.{all_code}
use Rattle.sheet.specs.Tables.{Words}
use Rattle.sheet.specs.Held.{code_at}
use Rattle.terms.specs.Environment.{Environment, number_of}
use Rattle.tables.specs.Layout.{plan_at}
use Rattle.plan.specs.Next.{Next, end, token, From, place_of}
use Rattle.search.specs.Stands.{Stands, Binds, LeftAfter}
use Rattle.search.specs.Store.{Store, resolve, EnvIn}
use Rattle.search.specs.Frame.{Item, form, again}

-- the locals of the `all`s that go on are in scope
abbrev pub Scoped : Scope → List Item → Type 0
Scoped S [] = Unit {0}
Scoped S (form E G ∷ is) = Scoped S is
Scoped S (again E l F n v ∷ is) = T (S l) × Scoped S is

-- S is the scope under a binder of l, around which the list's locals are
pub record Inside (S : Scope) (l : ℕ) (is : List Item) : Type 0 where
  pub outer : Scope
  pub scope : S ≡ enter outer l
  pub fresh : T (not (outer l))
  pub scoped : Scoped outer is

-- n values from v on are left to the local l, after the word of its present one
pub record Left (α : Valuation) (σ : Store) (l n : ℕ) (v : ℤ) : Type 0 where
  pub current : ℕ
  pub value : α (local l) ≡ full (signed current)
  pub after : LeftAfter current (σ.last l) n v

module _ (D : Declared) (t : Words) where
  -- a formula comes next; `Rest` is said of the items after it, of what comes after the formula
  pub record FormNext (σ : Store) (α : Valuation) (m : ℕ) (x : Next) (E : Environment) (G : Formula) (is : List Item) (Rest : ℕ → Next → Type 0) : Type 0 where
    pub i : ℕ
    pub n : Next
    pub leads : resolve σ x ≡ token i
    pub from : From m x
    pub inside : i < max_tokens
    pub stands : Stands D t E i G n
    pub env : EnvIn σ E
    pub later : m ≤ number_of E
    pub scoped : Scoped stands.good.scope is
    pub rest : Rest (number_of E) n

  -- an `all` over the values left, by its local's token
  pub record AgainNext (σ : Store) (α : Valuation) (m : ℕ) (x : Next) (E : Environment) (l : ℕ) (F : Formula) (k : ℕ) (v : ℤ) (is : List Item) (Rest : ℕ → Next → Type 0) : Type 0 where
    pub h : ℕ
    pub n : Next
    pub leads : resolve σ x ≡ token (suc h)
    pub from : From m x
    pub code : code_at t h ≡ all_code
    pub next : plan_at t h ≡ place_of n
    pub binds : Binds D t E h l F (token (suc h))
    pub left : Left α σ l k v
    pub env : EnvIn σ E
    pub later : m ≤ number_of E
    pub scoped : Inside binds.body.good.scope l is
    pub rest : Rest (number_of E) n

  -- x stands for the items, and no frame before the m-th matters
  abbrev pub Pend : Store → Valuation → ℕ → Next → List Item → Type 0
  Pend σ α m x [] = (resolve σ x ≡ end) × From m x
  Pend σ α m x (form E G ∷ is) = FormNext σ α m x E G is (λ k n. Pend σ α k n is)
  Pend σ α m x (again E l F k v ∷ is) = AgainNext σ α m x E l F k v is (λ j n. Pend σ α j n is)
