-- The contracts of the functions that enter a node. A requires holds some world for safety; an ensures goes from the invariant before to the invariant
-- after, in every world. Assumes nothing.
use Rattle.std.specs.Prelude.{ℕ, suc, ◌+◌, ◌≤◌, ◌<◌, ◌≡◌, ◌⊎◌, List, ◌∷◌, get_or, eqb}
use Rattle.specification.specs.Bytes.{Bytes, pick}
use Rattle.specification.specs.Ast.{Term, Formula, truth, and, or, imp, neg, eq, compare, ex, some, all, call}
use Rattle.specification.specs.Fill.{fill_term}
use Rattle.specification.specs.Value.{Side, val, side}
use Rattle.specification.specs.Tree.{step}
use Rattle.values.specs.Word.{signed}
use Rattle.tables.specs.Codes.{eq_code, ge_code, some_code, all_code}
use Rattle.sheet.specs.Tables.{Words}
use Rattle.terms.specs.Environment.{Environment, terms_of}
use Rattle.search.specs.declared.Go.{Go}
use Rattle.search.specs.declared.Mode.TheVariants as modes
use Rattle.tables.specs.Leaves.{return_code}
use Rattle.search.specs.Frame.{Item, form, What, the, error, store_in}
use Rattle.search.specs.Path.{World, Job}
use Rattle.search.specs.Sim.{tree, son, In, Sim}
use Rattle.search.specs.Registers.{tallied}

-- in some world a node or leaf that no limit stops
pub record Visited (w : Words) (g : Go) : Type 0 where
  pub c : World
  pub b : Bytes
  pub ins : In c b w g

-- whose token has the code n
pub record Entered (w : Words) (g : Go) (n : ℕ) : Type 0 where
  pub at : Visited w g
  pub code : get_or w g.due 0 ≡ n

-- what a function makes of it: where the search goes on, the visit is counted
pub record Stepped (w w' : Words) (g q : Go) : Type 0 where
  pub sim : (c : World) (b : Bytes) → In c b w g → Sim c b w' q
  pub counts : (q.mode ≡ modes.Down) ⊎ (q.mode ≡ modes.Up) → (tallied q).nodes ≡ suc (tallied g).nodes
  pub least : (tallied g).nodes ≤ (tallied q).nodes

-- the node's one son is the rest of its list, which comes next
pub record GoesOn (w : Words) (g : Go) : Type 0 where
  pub at : Visited w g
  pub son :
      (c : World) (b : Bytes) (i : In c b w g) →
      (is : List Item)
      × (tree c i.fr i.x i.α ≡ step (son c i.fr (the is) i.α))
      × Job c w (store_in i.fr) i.α (get_or w (g.due + 3) 0) (the is)

-- it is a leaf, whose token is t
pub record OneLeaf (w : Words) (g : Go) (t : ℕ) : Type 0 where
  pub at : Visited w g
  pub son :
      (c : World) (b : Bytes) (i : In c b w g) →
      (x : What) × (tree c i.fr i.x i.α ≡ step (son c i.fr x i.α)) × Job c w (store_in i.fr) i.α t x

-- it is an error leaf
pub record Errs (w : Words) (g : Go) (kind token : ℕ) : Type 0 where
  pub at : Visited w g
  pub son : (c : World) (b : Bytes) (i : In c b w g) → tree c i.fr i.x i.α ≡ step (son c i.fr (error kind token) i.α)

-- ---- calls

-- where a call's procedure returns to: what comes after the token, or where that itself returns to
abbrev pub back_word : Words → ℕ → ℕ
back_word w t = let n = get_or w (t + 3) 0 in pick (eqb (get_or w n 0) return_code) (get_or w (n + 1) 0) n

-- ---- atoms and quantifiers with values

-- the code of a formula with two terms: an atom's, or that of `some` or `all`
abbrev pub HasTerms : ℕ → Type 0
HasTerms n = ((eq_code ≤ n) × (n ≤ ge_code)) ⊎ ((n ≡ some_code) ⊎ (n ≡ all_code))

-- the two terms of an atom, or the bounds of a quantifier
abbrev pub TermsOf : Formula → Term → Term → Type 0
TermsOf truth s t = ⊥
TermsOf (and F G) s t = ⊥
TermsOf (or F G) s t = ⊥
TermsOf (imp n F G) s t = ⊥
TermsOf (neg n F) s t = ⊥
TermsOf (eq n a b) s t = (a ≡ s) × (b ≡ t)
TermsOf (compare n r a b) s t = (a ≡ s) × (b ≡ t)
TermsOf (ex l F) s t = ⊥
TermsOf (some n l a b F) s t = (a ≡ s) × (b ≡ t)
TermsOf (all n l a b F) s t = (a ≡ s) × (b ≡ t)
TermsOf (call K ts F) s t = ⊥

-- what they are in every world
abbrev pub SidesAre : Words → Go → Side → Side → Type 0
SidesAre w g x y =
    (c : World) (b : Bytes) (i : In c b w g) (E : Environment) (F : Formula) (is : List Item) → i.x ≡ the (form E F ∷ is) → (s t : Term) → TermsOf F s t →
    (side c.declared i.α (fill_term (terms_of E) s) ≡ x) × (side c.declared i.α (fill_term (terms_of E) t) ≡ y)

-- a formula with the code n, both of whose terms have values, with these words
pub record Valued (w : Words) (g : Go) (n x y : ℕ) : Type 0 where
  pub at : Entered w g n
  pub sides : SidesAre w g (val (signed x)) (val (signed y))
  pub left_fits : x < 4294967296
  pub right_fits : y < 4294967296
