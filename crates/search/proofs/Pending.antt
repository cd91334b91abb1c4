-- What stays of a list that comes next: where a local that is not in scope is bound, where a bare place gets a value, and where an earlier procedure is
-- called. Assumes nothing.
use Prim.Native.Nat.{ℕ, ◌≤◌, ◌<◌}
use native.Mathlib.Omega.{arith}
use mathlib.Core.Path.{◌≡◌, refl, ◌∙◌, ap}
use mathlib.Core.Bool.{Bool, true, false, not}
use mathlib.Core.List.{List, [], ◌∷◌}
use mathlib.Core.Option.{some as just}
use lib.Dec.{T, T_not, eqb}
use lib.IntN.{ℤ}
use borrow.Author.Tests.{eq-eqb, ne_eqb}
use Rattle.specification.specs.Bytes.{pick}
use Rattle.specification.specs.Lines.{Declared}
use Rattle.specification.specs.Place.{Place, local, put}
use Rattle.specification.specs.Value.{Slot, empty, full, Valuation}
use Rattle.specification.specs.WellFormed.{Scope, enter}
use Rattle.specification.proofs.Laws.Contradiction.{contradiction}
use Rattle.specification.proofs.Laws.Place.{put_other}
use Rattle.values.specs.Word.{signed}
use Rattle.sheet.specs.Tables.{Words}
use Rattle.terms.specs.Environment.{Environment, number_of}
use Rattle.plan.specs.Next.{Next, end, token, back, From}
use Rattle.search.specs.Store.{Call, Store, with, last_store, call_store, resolve, back_of, EnvIn}
use Rattle.search.specs.Frame.{Item, form, again}
use Rattle.search.specs.Pend.{Scoped, Inside, Left, Pend}

-- ---- functions of numbers

module _ {A : Type 0} (f : ℕ → A) (k : ℕ) (a : A) where
  pub with-same : with f k a k ≡ a
  unfolding with
  with-same = rw (eq-eqb k k refl)

  pub with-other : (j : ℕ) → ¬ (j ≡ k) → with f k a j ≡ f j
  unfolding with
  with-other j n = rw (ne_eqb j k n)

-- ---- environments

-- an earlier procedure is called
pub env-call : (σ : Store) (C : Call) (E : Environment) → C.level.number < number_of E → EnvIn σ E → EnvIn (call_store C σ) E
env-call σ C [] h e = tt
env-call σ C (L ∷ E) h (a, e) = (
  record {
    call = a.call;
    there = with-other σ.calls C.level.number (just C) L.number (λ z. omega arith) ∙ a.there;
    level = a.level;
    around = a.around;
    earlier = a.earlier;
  },
  env-call σ C E (omega (arith, a.earlier)) e,
)

pub env-last : (σ : Store) (l h : ℕ) (E : Environment) → EnvIn σ E → EnvIn (last_store l h σ) E
env-last σ l h [] e = tt
env-last σ l h (L ∷ E) (a, e) = (
  record { call = a.call; there = a.there; level = a.level; around = a.around; earlier = a.earlier },
  env-last σ l h E e,
)

-- ---- what comes next

-- past the end of a procedure that is not the one called
pub resolve-call : (σ : Store) (C : Call) (m : ℕ) (x : Next) → C.level.number < m → From m x → resolve (call_store C σ) x ≡ resolve σ x
resolve-call σ C m end h f = refl
resolve-call σ C m (token i) h f = refl
resolve-call σ C m (back K) h f = ap (back_of K) (with-other σ.calls C.level.number (just C) K (λ z. omega (arith, f.0)))

resolve-last : (σ : Store) (l h : ℕ) (x : Next) → resolve (last_store l h σ) x ≡ resolve σ x
resolve-last σ l h end = refl
resolve-last σ l h (token i) = refl
resolve-last σ l h (back K) = refl

from_less : (k m : ℕ) (x : Next) → k ≤ m → From m x → From k x
from_less k m end h f = tt
from_less k m (token i) h f = tt
from_less k m (back K) h f = (omega (arith, f.0), f.1)

local_same : {a b : ℕ} → local a ≡ local b → a ≡ b
local_same e = cc

-- ---- the values left to a local

module _ {α : Valuation} {σ : Store} {l n : ℕ} {v : ℤ} (q : Left α σ l n v) where
  -- another place changes
  left-put : (p : Place) (s : Slot) → ¬ (local l ≡ p) → Left (put α p s) σ l n v
  left-put p s z = record { current = q.current; value = put_other α p s (local l) z ∙ q.value; after = q.after }

  left-last : (j h : ℕ) → ¬ (l ≡ j) → Left α (last_store j h σ) l n v
  left-last j h z = record { current = q.current; value = q.value; after = rw (with-other σ.last j h l z) q.after }

  left-call : (C : Call) → Left α (call_store C σ) l n v
  left-call C = record { current = q.current; value = q.value; after = q.after }

  -- it has a value, so a place without one is another
  left-bare : (p : Place) → α p ≡ empty → ¬ (local l ≡ p)
  left-bare p none e = let f : α p ≡ full (signed q.current) = rw e at q.value in contradiction cc

-- ---- the list

module _ (D : Declared) (t : Words) where
  -- a bare place gets a value
  pub pend-given : (σ : Store) (α : Valuation) (p : Place) (v : ℤ) → α p ≡ empty → (m : ℕ) (x : Next) (is : List Item) → Pend D t σ α m x is →
      Pend D t σ (put α p (full v)) m x is
  pend-given σ α p v none m x [] q = q
  pend-given σ α p v none m x (form E G ∷ is) q = record {
    i = q.i;
    n = q.n;
    leads = q.leads;
    from = q.from;
    inside = q.inside;
    stands = q.stands;
    env = q.env;
    later = q.later;
    scoped = q.scoped;
    rest = pend-given σ α p v none (number_of E) q.n is q.rest;
  }
  pend-given σ α p v none m x (again E l F k u ∷ is) q = record {
    h = q.h;
    n = q.n;
    leads = q.leads;
    from = q.from;
    code = q.code;
    next = q.next;
    binds = q.binds;
    left = left-put q.left p (full v) (left-bare q.left p none);
    env = q.env;
    later = q.later;
    scoped = q.scoped;
    rest = pend-given σ α p v none (number_of E) q.n is q.rest;
  }

  -- a local is bound that is not in the scope of the list
  module _ (S : Scope) (l : ℕ) (fresh : T (not (S l))) where
    apart : (j : ℕ) → T (S j) → ¬ (j ≡ l)
    apart j h e = T_not (S l) fresh (rw e at h)

    pub pend-bound : (σ : Store) (α : Valuation) (s : Slot) (m : ℕ) (x : Next) (is : List Item) → Scoped S is → Pend D t σ α m x is →
        Pend D t σ (put α (local l) s) m x is
    pend-bound σ α s m x [] sc q = q
    pend-bound σ α s m x (form E G ∷ is) sc q = record {
      i = q.i;
      n = q.n;
      leads = q.leads;
      from = q.from;
      inside = q.inside;
      stands = q.stands;
      env = q.env;
      later = q.later;
      scoped = q.scoped;
      rest = pend-bound σ α s (number_of E) q.n is sc q.rest;
    }
    pend-bound σ α s m x (again E j F k u ∷ is) sc q = record {
      h = q.h;
      n = q.n;
      leads = q.leads;
      from = q.from;
      code = q.code;
      next = q.next;
      binds = q.binds;
      left = left-put q.left (local l) s (λ e. apart j sc.0 (local_same e));
      env = q.env;
      later = q.later;
      scoped = q.scoped;
      rest = pend-bound σ α s (number_of E) q.n is sc.1 q.rest;
    }

    pub pend-last : (σ : Store) (α : Valuation) (h m : ℕ) (x : Next) (is : List Item) → Scoped S is → Pend D t σ α m x is →
        Pend D t (last_store l h σ) α m x is
    pend-last σ α h m x [] sc q = (resolve-last σ l h x ∙ q.0, q.1)
    pend-last σ α h m x (form E G ∷ is) sc q = record {
      i = q.i;
      n = q.n;
      leads = resolve-last σ l h x ∙ q.leads;
      from = q.from;
      inside = q.inside;
      stands = q.stands;
      env = env-last σ l h E q.env;
      later = q.later;
      scoped = q.scoped;
      rest = pend-last σ α h (number_of E) q.n is sc q.rest;
    }
    pend-last σ α h m x (again E j F k u ∷ is) sc q = record {
      h = q.h;
      n = q.n;
      leads = resolve-last σ l h x ∙ q.leads;
      from = q.from;
      code = q.code;
      next = q.next;
      binds = q.binds;
      left = left-last q.left l h (apart j sc.0);
      env = env-last σ l h E q.env;
      later = q.later;
      scoped = q.scoped;
      rest = pend-last σ α h (number_of E) q.n is sc.1 q.rest;
    }

  -- an earlier procedure is called
  pub pend-call : (σ : Store) (α : Valuation) (C : Call) (m : ℕ) (x : Next) (is : List Item) → C.level.number < m → Pend D t σ α m x is →
      Pend D t (call_store C σ) α m x is
  pend-call σ α C m x [] less q = (resolve-call σ C m x less q.1 ∙ q.0, q.1)
  pend-call σ α C m x (form E G ∷ is) less q = record {
    i = q.i;
    n = q.n;
    leads = resolve-call σ C m x less q.from ∙ q.leads;
    from = q.from;
    inside = q.inside;
    stands = q.stands;
    env = env-call σ C E (omega (arith, q.later)) q.env;
    later = q.later;
    scoped = q.scoped;
    rest = pend-call σ α C (number_of E) q.n is (omega (arith, q.later)) q.rest;
  }
  pend-call σ α C m x (again E l F k u ∷ is) less q = record {
    h = q.h;
    n = q.n;
    leads = resolve-call σ C m x less q.from ∙ q.leads;
    from = q.from;
    code = q.code;
    next = q.next;
    binds = q.binds;
    left = left-call q.left C;
    env = env-call σ C E (omega (arith, q.later)) q.env;
    later = q.later;
    scoped = q.scoped;
    rest = pend-call σ α C (number_of E) q.n is (omega (arith, q.later)) q.rest;
  }

  -- no frame before an earlier one matters either
  pub pend-less : (σ : Store) (α : Valuation) (k m : ℕ) (x : Next) (is : List Item) → k ≤ m → Pend D t σ α m x is → Pend D t σ α k x is
  pend-less σ α k m x [] h q = (q.0, from_less k m x h q.1)
  pend-less σ α k m x (form E G ∷ is) h q = record {
    i = q.i;
    n = q.n;
    leads = q.leads;
    from = from_less k m x h q.from;
    inside = q.inside;
    stands = q.stands;
    env = q.env;
    later = omega (arith, q.later);
    scoped = q.scoped;
    rest = q.rest;
  }
  pend-less σ α k m x (again E l F j u ∷ is) h q = record {
    h = q.h;
    n = q.n;
    leads = q.leads;
    from = from_less k m x h q.from;
    code = q.code;
    next = q.next;
    binds = q.binds;
    left = q.left;
    env = q.env;
    later = omega (arith, q.later);
    scoped = q.scoped;
    rest = q.rest;
  }

-- ---- scopes

enter-more : (S : Scope) (l j : ℕ) → T (S j) → T (enter S l j)
unfolding enter
enter-more S l j h = go (eqb j l)
  where
    go : (b : Bool) → T (pick b true (S j))
    go true = tt
    go false = h

-- under a binder more is in scope
pub scoped-enter : (S : Scope) (l : ℕ) (is : List Item) → Scoped S is → Scoped (enter S l) is
scoped-enter S l [] q = tt
scoped-enter S l (form E G ∷ is) q = scoped-enter S l is q
scoped-enter S l (again E j F n v ∷ is) q = (enter-more S l j q.0, scoped-enter S l is q.1)

module _ {S : Scope} {l : ℕ} {is : List Item} (q : Inside S l is) where
  pub inside-scoped : Scoped S is
  inside-scoped = rw q.scope (scoped-enter q.outer l is q.scoped)
