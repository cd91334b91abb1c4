-- The tree of a well-formed sheet and that of its tidied formula differ in the tokens of error leaves only. For the formulas are alike: one is the
-- other but for token numbers and with its empty ranges dropped. What is dropped may bind locals, which decides what is outside an inner formula
-- (Outside); but such a local is not in scope, and nothing that is left gives it a value. Assumes nothing.
use Prim.Native.Nat.{ℕ, zero, suc, ◌<◌}
use native.Mathlib.Omega.{arith}
use mathlib.Core.Path.{◌≡◌, refl, sym, ◌∙◌, ap, fun_ext, subst}
use mathlib.Core.Bool.{Bool, true, false, not, ◌&&◌, ◌||◌}
use mathlib.Core.List.{List, [], ◌∷◌, ◌++◌, append-nil}
use lib.ListN.{length, get_or, length-append}
use lib.Seq.{append_snoc, take-append_seam, get_or-append_seam}
use lib.Dec.{T, T_not, not_T, leb, eqb}
use borrow.Author.Tests.{leb-false, not-true, eqb-false}
use lib.IntN.{ℤ, pos, negsuc, ◌+ℤ◌}
use lib.Signed.{le_z}
use Rattle.specification.specs.Bytes.{pick}
use Rattle.specification.specs.Lines.{Declared, procedure_of}
use Rattle.specification.specs.Ast.{Rel, Term, constant, scalar_at, local_at, parameter, element_at, apply, Formula, truth, and, or, imp, neg, eq, compare, ex, some, all, call, Procedure}
use Rattle.specification.specs.Fill.{fill_term, fill}
use Rattle.specification.specs.Formula.{above, empty_range}
use Rattle.specification.specs.Sheet.{with_procedures, Sheet}
use Rattle.specification.specs.Arithmetic.{undecided_inside, eq_z, test, count}
use Rattle.specification.specs.Place.{Place, cell, local, put}
use Rattle.specification.specs.Value.{Slot, empty, full, Valuation, allowed, Side, val, bare, err, Pair, values, faulty, pair_of, side}
use Rattle.specification.specs.Outside.{binds, gained, gave}
use Rattle.specification.specs.Tree.{Tree, success_leaf, failure_leaf, error_leaf, step, fork, fan, ask, Verdict, succeeds, fails, undecided, joined, verdict, Rest, check, assign, equate, compared, bounded, sons, rounds, denied, implied, enquire, done, done_inside, grow, tree_of}
use Rattle.specification.specs.Outcome.{start, root_of}
use Rattle.specification.specs.WellFormed.{Scope, nowhere, enter, Ok, line_of, OkProcedures, WellFormed}
use Rattle.specification.specs.Tidy.{falsehood, dropped, numbered, tokens_before, tidied_procedure, tidied_procedures, tidied}
use Rattle.specification.proofs.Laws.Contradiction.{contradiction}
use Rattle.specification.proofs.Laws.Scope.{In}
use Rattle.specification.proofs.Laws.Outside.{Within, and-within, or-within, imp-within, binds-fresh}
use Rattle.specification.proofs.Laws.Place.{put_other}
use Rattle.specification.proofs.Laws.Value.{sane-bare}

-- ---- formulas

-- the second is the first but for token numbers; `falsehood` may stand for a `some` over no value, and `true` for such an `all`
data Like : Formula → Formula → Type 0 where
  truths : Like truth truth
  ands : {F F' G G' : Formula} → Like F F' → Like G G' → Like (and F G) (and F' G')
  ors : {F F' G G' : Formula} → Like F F' → Like G G' → Like (or F G) (or F' G')
  imps : {tok tok' : ℕ} {F F' G G' : Formula} → Like F F' → Like G G' → Like (imp tok F G) (imp tok' F' G')
  negs : {tok tok' : ℕ} {F F' : Formula} → Like F F' → Like (neg tok F) (neg tok' F')
  eqs : {tok tok' : ℕ} {s t : Term} → Like (eq tok s t) (eq tok' s t)
  compares : {tok tok' : ℕ} {r : Rel} {s t : Term} → Like (compare tok r s t) (compare tok' r s t)
  exs : {l : ℕ} {F F' : Formula} → Like F F' → Like (ex l F) (ex l F')
  somes : {tok tok' l : ℕ} {a b : Term} {F F' : Formula} → Like F F' → Like (some tok l a b F) (some tok' l a b F')
  alls : {tok tok' l : ℕ} {a b : Term} {F F' : Formula} → Like F F' → Like (all tok l a b F) (all tok' l a b F')
  calls : {K : ℕ} {ts : List Term} {F F' : Formula} → Like F F' → Like (call K ts F) (call K ts F')
  no-some : {tok tok' l : ℕ} {x y : ℤ} {F : Formula} → count x y ≡ 0 → Like (some tok l (constant x) (constant y) F) (falsehood tok')
  no_all : {tok l : ℕ} {x y : ℤ} {F : Formula} → count x y ≡ 0 → Like (all tok l (constant x) (constant y) F) truth

-- terms in place of parameters change no constant
like-fill : (ts : List Term) {F G : Formula} → Like F G → Like (fill ts F) (fill ts G)
unfolding fill fill_term
like-fill ts truths = truths
like-fill ts (ands f g) = ands (like-fill ts f) (like-fill ts g)
like-fill ts (ors f g) = ors (like-fill ts f) (like-fill ts g)
like-fill ts (imps f g) = imps (like-fill ts f) (like-fill ts g)
like-fill ts (negs f) = negs (like-fill ts f)
like-fill ts eqs = eqs
like-fill ts compares = compares
like-fill ts (exs f) = exs (like-fill ts f)
like-fill ts (somes f) = somes (like-fill ts f)
like-fill ts (alls f) = alls (like-fill ts f)
like-fill ts (calls f) = calls (like-fill ts f)
like-fill ts (no-some e) = no-some e
like-fill ts (no_all e) = no_all e

-- ---- empty ranges

none_between : (x y : ℤ) → not (le_z x y) ≡ true → count x y ≡ 0
none_between (pos a) (pos b) e = omega (arith, leb-false a b (not-true (leb a b) e))
none_between (pos a) (negsuc b) e = refl
none_between (negsuc a) (pos b) e = contradiction cc
none_between (negsuc a) (negsuc b) e = omega (arith, leb-false b a (not-true (leb b a) e))

-- constants with no integer from the first to the second
data None : Term → Term → Type 0 where
  none : {x y : ℤ} → count x y ≡ 0 → None (constant x) (constant y)

above-none : (x : ℤ) (b : Term) → above x b ≡ true → None (constant x) b
unfolding above
above-none x (constant y) e = none (none_between x y e)
above-none x (scalar_at n) e = contradiction cc
above-none x (local_at l) e = contradiction cc
above-none x (parameter n) e = contradiction cc
above-none x (element_at a t) e = contradiction cc
above-none x (apply o s t) e = contradiction cc

empty-none : (a b : Term) → empty_range a b ≡ true → None a b
unfolding empty_range
empty-none (constant x) b e = above-none x b e
empty-none (scalar_at n) b e = contradiction cc
empty-none (local_at l) b e = contradiction cc
empty-none (parameter n) b e = contradiction cc
empty-none (element_at a t) b e = contradiction cc
empty-none (apply o s t) b e = contradiction cc

-- ---- a formula of D, without its empty ranges and numbered anew where the procedures are Ps

-- the procedure where there is none
abbrev nothing : Procedure
nothing = record { parameters = 0; formula = truth }

module _ (D : Declared) (Ps : List Procedure)
    (procedures : (K : ℕ) → Like (procedure_of D K).formula (get_or Ps K nothing).formula) where
  no-some-like : {a b : Term} → None a b → (n tok l : ℕ) (F : Formula) → Like (some tok l a b F) (numbered Ps n (falsehood tok))
  unfolding numbered
  no-some-like (none e) n tok l F = no-some e

  no-all-like : {a b : Term} → None a b → (n tok l : ℕ) (F : Formula) → Like (all tok l a b F) (numbered Ps n truth)
  unfolding numbered
  no-all-like (none e) n tok l F = no_all e

  -- either way, by whether the range is empty
  either-like : (F G H : Formula) (n : ℕ) (b : Bool) → (b ≡ true → Like F (numbered Ps n G)) → Like F (numbered Ps n H) →
      Like F (numbered Ps n (pick b G H))
  either-like F G H n true f h = f refl
  either-like F G H n false f h = h

  numbered-like : (S : Scope) (F : Formula) (n : ℕ) → Ok D S F → Like F (numbered Ps n (dropped F))
  unfolding Ok dropped numbered
  numbered-like S truth n o = truths
  numbered-like S (and F G) n o = ands (numbered-like S F _ o.0) (numbered-like S G _ o.1)
  numbered-like S (or F G) n o = ors (numbered-like S F _ o.0) (numbered-like S G _ o.1)
  numbered-like S (imp tok F G) n o = imps (numbered-like S F _ o.0) (numbered-like S G _ o.1)
  numbered-like S (neg tok F) n o = negs (numbered-like S F _ o)
  numbered-like S (eq tok s t) n o = eqs
  numbered-like S (compare tok r s t) n o = compares
  numbered-like S (ex l F) n o = exs (numbered-like (enter S l) F _ o.2)
  numbered-like S (some tok l a b F) n o =
      either-like (some tok l a b F) (falsehood tok) (some tok l a b (dropped F)) n (empty_range a b)
      (λ e. no-some-like (empty-none a b e) n tok l F) (somes (numbered-like (enter S l) F _ o.4))
  numbered-like S (all tok l a b F) n o =
      either-like (all tok l a b F) truth (all tok l a b (dropped F)) n (empty_range a b)
      (λ e. no-all-like (empty-none a b e) n tok l F) (alls (numbered-like (enter S l) F _ o.4))
  numbered-like S (call K ts F) n o =
      let P : Procedure = get_or Ps K nothing in
      calls (subst (λ G. Like G (fill ts P.formula)) (sym o.0.filled) (like-fill ts (procedures K)))

-- ---- the procedures

-- alike one by one
Paired : List Procedure → List Procedure → Type 0
Paired [] [] = Unit {0}
Paired [] (Q ∷ Qs) = ⊥
Paired (P ∷ Ps) [] = ⊥
Paired (P ∷ Ps) (Q ∷ Qs) = Like P.formula Q.formula × Paired Ps Qs

paired_at : (Ps Qs : List Procedure) → Paired Ps Qs → (K : ℕ) → Like (get_or Ps K nothing).formula (get_or Qs K nothing).formula
unfolding Paired
paired_at [] [] h K = truths
paired_at [] (Q ∷ Qs) h K = absurd h
paired_at (P ∷ Ps) [] h K = absurd h
paired_at (P ∷ Ps) (Q ∷ Qs) h zero = h.0
paired_at (P ∷ Ps) (Q ∷ Qs) h (suc K) = paired_at Ps Qs h.1 K

paired-more : (Ps Qs : List Procedure) (P Q : Procedure) → Paired Ps Qs → Like P.formula Q.formula → Paired (Ps ++ (P ∷ [])) (Qs ++ (Q ∷ []))
unfolding Paired
paired-more [] [] P Q h f = (f, tt)
paired-more [] (R ∷ Rs) P Q h f = absurd h
paired-more (O ∷ Os) [] P Q h f = absurd h
paired-more (O ∷ Os) (R ∷ Rs) P Q h f = (h.0, paired-more Os Rs P Q h.1 f)

module _ (E : Declared) where
  -- the line of P is well scoped behind those before it, so P is like the tidied one behind what these became
  next_like : (before : List Procedure) (P : Procedure) (rest done : List Procedure) → OkProcedures (with_procedures (before ++ P ∷ rest) E) →
      Paired before done → Like P.formula (tidied_procedure done P).formula
  next_like before P rest done ok h =
      let D : Declared = with_procedures (before ++ P ∷ rest) E in
      let K : ℕ = length before in
      let among : K < length (before ++ P ∷ rest) = omega (arith, length-append before (P ∷ rest)) in
      let scoped : Ok (line_of D K) nowhere P.formula =
      subst (λ (Q : Procedure). Ok (line_of D K) nowhere Q.formula) (get_or-append_seam before P rest nothing) (ok K among) in
      let earlier : (J : ℕ) → Like (procedure_of (line_of D K) J).formula (get_or done J nothing).formula = λ J.
      subst (λ Ps. Like (get_or Ps J nothing).formula (get_or done J nothing).formula) (sym (take-append_seam before (P ∷ rest)))
      (paired_at before done h J) in
      numbered-like (line_of D K) done earlier nowhere P.formula (tokens_before done) scoped

  procedures-like : (before rest done : List Procedure) → OkProcedures (with_procedures (before ++ rest) E) → Paired before done →
      Paired (before ++ rest) (tidied_procedures done rest)
  unfolding tidied_procedures
  procedures-like before [] done ok h = rw (append-nil before) h
  procedures-like before (P ∷ rest) done ok h =
      let same = append_snoc before P rest in
      subst (λ Ps. Paired Ps (tidied_procedures (done ++ (tidied_procedure done P ∷ [])) rest)) same
      (procedures-like (before ++ (P ∷ [])) rest (done ++ (tidied_procedure done P ∷ []))
      (subst (λ Ps. OkProcedures (with_procedures Ps E)) (sym same) ok)
      (paired-more before done P (tidied_procedure done P) h (next_like before P rest done ok h)))

-- ---- the sheet

tidied-like : (s : Sheet) → WellFormed s → Like s.formula (tidied s).formula
unfolding tidied Paired
tidied-like s w =
    let Ps = tidied_procedures [] s.declared.procedures in
    let h : Paired s.declared.procedures Ps = procedures-like s.declared [] s.declared.procedures [] w.procedures tt in
    numbered-like s.declared Ps (paired_at s.declared.procedures Ps h) nowhere s.formula (tokens_before Ps) w.formula

-- ---- trees

-- the same but for the tokens of error leaves
pub data Same : Tree → Tree → Type 0 where
  successes : {β : Valuation} → Same (success_leaf β) (success_leaf β)
  failures : Same failure_leaf failure_leaf
  errors : {κ t t' : ℕ} {β : Valuation} → Same (error_leaf κ t β) (error_leaf κ t' β)
  steps : {T T' : Tree} → Same T T' → Same (step T) (step T')
  forks : {T T' U U' : Tree} → Same T T' → Same U U' → Same (fork T U) (fork T' U')
  fans : {x : ℤ} {n : ℕ} (f f' : ℕ → Tree) → ((i : ℕ) → Same (f i) (f' i)) → Same (fan x n f) (fan x n f')
  asks : {I I' T T' : Tree} → Same I I' → Same T T' → Same (ask I T) (ask I' T')

-- no verdict depends on a token
same-verdict : {T T' : Tree} → Same T T' → verdict T ≡ verdict T'
unfolding verdict
same-verdict successes = refl
same-verdict failures = refl
same-verdict errors = refl
same-verdict (steps h) = same-verdict h
same-verdict (forks h k) = rw (same-verdict h, same-verdict k)
same-verdict (fans {n = n} f f' h) = ap (joined n 0) (fun_ext (λ i. same-verdict (h i)))
same-verdict (asks h k) = same-verdict k

-- ---- what alike formulas bind

either : (a b c d : Bool) → (T a → T c) → (T b → T d) → T (a || b) → T (c || d)
either true b true d f g h = tt
either true b false d f g h = absurd (f tt)
either false b true d f g h = tt
either false b false d f g h = g h

like-within : {F G : Formula} → Like F G → Within F G
unfolding binds
like-within truths l t = t
like-within (ands {F = F} {F' = F'} {G = G} {G' = G'} f g) l t =
    either (binds F' l) (binds G' l) (binds F l) (binds G l) (like-within f l) (like-within g l) t
like-within (ors {F = F} {F' = F'} {G = G} {G' = G'} f g) l t =
    either (binds F' l) (binds G' l) (binds F l) (binds G l) (like-within f l) (like-within g l) t
like-within (imps {F = F} {F' = F'} {G = G} {G' = G'} f g) l t =
    either (binds F' l) (binds G' l) (binds F l) (binds G l) (like-within f l) (like-within g l) t
like-within (negs f) l t = like-within f l t
like-within eqs l t = t
like-within compares l t = t
like-within (exs {l = j} {F = F} {F' = F'} f) l t = either (eqb l j) (binds F' l) (eqb l j) (binds F l) (λ e. e) (like-within f l) t
like-within (somes {l = j} {F = F} {F' = F'} f) l t = either (eqb l j) (binds F' l) (eqb l j) (binds F l) (λ e. e) (like-within f l) t
like-within (alls {l = j} {F = F} {F' = F'} f) l t = either (eqb l j) (binds F' l) (eqb l j) (binds F l) (λ e. e) (like-within f l) t
like-within (calls f) l t = like-within f l t
like-within (no-some e) l t = absurd t
like-within (no_all e) l t = absurd t

-- ---- the locals that a formula leaves as they are

-- on the locals that are neither in scope around F nor bound in it, β is as α
abbrev Keeps : Scope → Formula → Valuation → Valuation → Type 0
Keeps S F α β = (l : ℕ) → T (not (S l)) → T (not (binds F l)) → β (local l) ≡ α (local l)

gained-self : (s : Slot) → gained s s ≡ false
gained-self empty = refl
gained-self (full v) = refl

-- a local that F binds and G does not is not in scope, so it got no value
module _ (D : Declared) (S : Scope) {F G : Formula} (like : Like F G) (ok : Ok D S F) (α β : Valuation) (h : Keeps S G α β) where
  same-got : (l : ℕ) → (not (binds F l) && gained (α (local l)) (β (local l))) ≡ (not (binds G l) && gained (α (local l)) (β (local l)))
  same-got l =
      go (binds F l) (binds G l) (gained (α (local l)) (β (local l))) (like-within like l)
      (λ b n. rw (h l (binds-fresh D S F l ok b) n) (gained-self (α (local l))))
    where
      go : (b c g : Bool) → (T c → T b) → (T b → T (not c) → g ≡ false) → (not b && g) ≡ (not c && g)
      go true true g f e = refl
      go true false g f e = sym (e tt tt)
      go false true g f e = absurd (f tt)
      go false false g f e = refl

  same-gave : gave D F α β ≡ gave D G α β
  unfolding gave
  same-gave = rw (fun_ext same-got)

  same-done : Same (done_inside D F α β) (done_inside D G α β)
  unfolding done_inside
  same-done = rw same-gave (steps (go (gave D G α β)))
    where
      go : (b : Bool) → Same (pick b (error_leaf undecided_inside 0 β) (success_leaf β)) (pick b (error_leaf undecided_inside 0 β) (success_leaf β))
      go true = errors
      go false = successes

keeps_self : (S : Scope) (F : Formula) (α : Valuation) → Keeps S F α α
keeps_self S F α l n b = refl

keeps-trans : (S : Scope) (F : Formula) (α β γ : Valuation) → Keeps S F α β → Keeps S F β γ → Keeps S F α γ
keeps-trans S F α β γ h k l n b = k l n b ∙ h l n b

keeps-within : (S : Scope) (F G : Formula) (α β : Valuation) → Within F G → Keeps S G α β → Keeps S F α β
keeps-within S F G α β w h l n b = h l n (not_T (binds G l) (λ t. T_not (binds F l) b (w l t)))

abbrev number : Place → ℕ
number (cell c) = c
number (local l) = l

-- a place in scope gets a value
keeps-put : (D : Declared) (S : Scope) (F : Formula) (α : Valuation) (p : Place) (s : Slot) → In D S p → Keeps S F α (put α p s)
keeps-put D S F α p s i l n b = put_other α p s (local l) (λ e. T_not (S l) n (subst (In D S) (sym e) i))

-- out of a binder's scope
keeps-leave : (S : Scope) (j : ℕ) (F : Formula) (α β : Valuation) (s : Slot) → Keeps (enter S j) F (put α (local j) s) β → Keeps S (ex j F) α β
unfolding enter binds
keeps-leave S j F α β s h l n b = go (eqb l j) refl b (h l)
  where
    go : (c : Bool) → eqb l j ≡ c → T (not (c || binds F l)) →
        (T (not (pick c true (S l))) → T (not (binds F l)) → β (local l) ≡ put α (local j) s (local l)) → β (local l) ≡ α (local l)
    go true e b h = absurd b
    go false e b h =
        h n b ∙ put_other α (local j) s (local l) (λ q. eqb-false l j e (ap number q))

-- ---- the trees of alike formulas

-- from each valuation that F may lead to from α, the rests are the same
abbrev Goes : Scope → Formula → Valuation → Rest → Rest → Type 0
Goes S F α k k' = (β : Valuation) → Keeps S F α β → Same (k β) (k' β)

goes-within : (S : Scope) (F G : Formula) (α : Valuation) (k k' : Rest) → Within F G → Goes S F α k k' → Goes S G α k k'
goes-within S F G α k k' w h β e = h β (keeps-within S F G α β w e)

same_check : (b : Bool) (k k' : Rest) (α : Valuation) → Same (k α) (k' α) → Same (check b k α) (check b k' α)
same_check true k k' α h = h
same_check false k k' α h = failures

same-compared : (tok tok' : ℕ) (r : Rel) (p : Pair) (k k' : Rest) (α : Valuation) → Same (k α) (k' α) →
    Same (compared tok r p k α) (compared tok' r p k' α)
unfolding compared
same-compared tok tok' r (values x y) k k' α h = same_check (test r x y) k k' α h
same-compared tok tok' r (faulty κ) k k' α h = errors

same-bounded : (tok tok' : ℕ) (p : Pair) (k k' : ℤ → ℤ → Rest) (α : Valuation) → ((x y : ℤ) → Same (k x y α) (k' x y α)) →
    Same (bounded tok p k α) (bounded tok' p k' α)
unfolding bounded
same-bounded tok tok' (values x y) k k' α h = h x y
same-bounded tok tok' (faulty κ) k k' α h = steps errors

same-sons : (x : ℤ) (n : ℕ) (f f' : ℕ → Tree) → ((i : ℕ) → Same (f i) (f' i)) → Same (sons x n f) (sons x n f')
unfolding sons
same-sons x zero f f' h = steps failures
same-sons x (suc n) f f' h = fans f f' h

same-enquire : (inner inner' : Rest) (next next' : Verdict → Rest) (α : Valuation) → Same (inner α) (inner' α) →
    ((v : Verdict) → Same (next v α) (next' v α)) → Same (enquire inner next α) (enquire inner' next' α)
unfolding enquire
same-enquire inner inner' next next' α h f = rw (same-verdict h) (asks h (f (verdict (inner' α))))

same-denied : (tok tok' : ℕ) (v : Verdict) (k k' : Rest) (α : Valuation) → Same (k α) (k' α) → Same (denied tok v k α) (denied tok' v k' α)
same-denied tok tok' succeeds k k' α h = failures
same-denied tok tok' fails k k' α h = h
same-denied tok tok' undecided k k' α h = errors

same-implied : (tok tok' : ℕ) (v : Verdict) (g g' k k' : Rest) (α : Valuation) → Same (g α) (g' α) → Same (k α) (k' α) →
    Same (implied tok v g k α) (implied tok' v g' k' α)
same-implied tok tok' succeeds g g' k k' α f h = f
same-implied tok tok' fails g g' k k' α f h = h
same-implied tok tok' undecided g g' k k' α f h = errors

module _ (D : Declared) where
  -- a bare side is a place in scope
  abbrev Bare : Scope → Side → Type 0
  Bare S x = (p : Place) → x ≡ bare p → In D S p

  same-assign : (S : Scope) (F : Formula) (p : Place) (v : ℤ) (k k' : Rest) (α : Valuation) → In D S p → Goes S F α k k' →
      Same (assign D p v k α) (assign D p v k' α)
  same-assign S F p v k k' α i h =
      same_check (allowed D p v) (λ β. k (put β p (full v))) (λ β. k' (put β p (full v))) α
      (h (put α p (full v)) (keeps-put D S F α p (full v) i))

  same-equate : (S : Scope) (F : Formula) (tok tok' : ℕ) (x y : Side) (k k' : Rest) (α : Valuation) → Bare S x → Bare S y → Goes S F α k k' →
      Same (equate D tok x y k α) (equate D tok' x y k' α)
  unfolding equate
  same-equate S F tok tok' (val x) (val y) k k' α i j h = same_check (eq_z x y) k k' α (h α (keeps_self S F α))
  same-equate S F tok tok' (val x) (bare q) k k' α i j h = same-assign S F q x k k' α (j q refl) h
  same-equate S F tok tok' (val x) (err κ) k k' α i j h = errors
  same-equate S F tok tok' (bare p) (val y) k k' α i j h = same-assign S F p y k k' α (i p refl) h
  same-equate S F tok tok' (bare p) (bare q) k k' α i j h = errors
  same-equate S F tok tok' (bare p) (err κ) k k' α i j h = errors
  same-equate S F tok tok' (err κ) y k k' α i j h = errors

  -- what holds of F and G under a binder of l
  module _ (S : Scope) (l : ℕ) (F G : Formula)
      (body : (k k' : Rest) (α : Valuation) → Goes (enter S l) G α k k' → Same (grow D F k α) (grow D G k' α)) where
    same-entered : (k k' : Rest) (α : Valuation) (s : Slot) → Goes S (ex l G) α k k' →
        Same (grow D F k (put α (local l) s)) (grow D G k' (put α (local l) s))
    same-entered k k' α s h = body k k' (put α (local l) s) (λ β e. h β (keeps-leave S l G α β s e))

    same-rounds : (n : ℕ) (v : ℤ) (k k' : Rest) (α : Valuation) → Goes S (ex l G) α k k' →
        Same (rounds (grow D F) l k n v α) (rounds (grow D G) l k' n v α)
    unfolding rounds
    same-rounds zero v k k' α h = steps (h α (keeps_self S (ex l G) α))
    same-rounds (suc n) v k k' α h =
        steps (same-entered (rounds (grow D F) l k n (v +ℤ pos 1)) (rounds (grow D G) l k' n (v +ℤ pos 1)) α (full v) (λ β e.
        same-rounds n (v +ℤ pos 1) k k' β (λ γ f. h γ (keeps-trans S (ex l G) α β γ e f))))

  grow-same : {F G : Formula} → Like F G → (S : Scope) → Ok D S F → (k k' : Rest) (α : Valuation) → Goes S G α k k' →
      Same (grow D F k α) (grow D G k' α)
  unfolding grow Ok binds side pair_of bounded sons rounds equate
  grow-same truths S o k k' α h = steps (h α (keeps_self S truth α))
  grow-same (ands {F = F} {F' = F'} {G = G} {G' = G'} f g) S o k k' α h =
      let w = and-within F' G' in
      steps (grow-same f S o.0 (λ β. grow D G k β) (λ β. grow D G' k' β) α (λ β e.
      grow-same g S o.1 k k' β (λ γ e'.
      h γ (keeps-trans S (and F' G') α β γ (keeps-within S (and F' G') F' α β w.0 e) (keeps-within S (and F' G') G' β γ w.1 e')))))
  grow-same (ors {F = F} {F' = F'} {G = G} {G' = G'} f g) S o k k' α h =
      let w = or-within F' G' in
      forks (grow-same f S o.0 k k' α (goes-within S (or F' G') F' α k k' w.0 h))
      (grow-same g S o.1 k k' α (goes-within S (or F' G') G' α k k' w.1 h))
  grow-same (imps {tok = tok} {tok' = tok'} {F = F} {F' = F'} {G = G} {G' = G'} f g) S o k k' α h =
      let w = imp-within tok' F' G' in
      same-enquire (λ β. grow D F (done_inside D F α) β) (λ β. grow D F' (done_inside D F' α) β)
      (λ v. implied tok v (λ β. grow D G k β) k) (λ v. implied tok' v (λ β. grow D G' k' β) k') α
      (grow-same f S o.0 (done_inside D F α) (done_inside D F' α) α (λ β e. same-done D S f o.0 α β e))
      (λ v. same-implied tok tok' v (λ β. grow D G k β) (λ β. grow D G' k' β) k k' α
      (grow-same g S o.1 k k' α (goes-within S (imp tok' F' G') G' α k k' w.1 h)) (h α (keeps_self S (imp tok' F' G') α)))
  grow-same (negs {tok = tok} {tok' = tok'} {F = F} {F' = F'} f) S o k k' α h =
      same-enquire (λ β. grow D F (done_inside D F α) β) (λ β. grow D F' (done_inside D F' α) β)
      (λ v. denied tok v k) (λ v. denied tok' v k') α
      (grow-same f S o (done_inside D F α) (done_inside D F' α) α (λ β e. same-done D S f o α β e))
      (λ v. same-denied tok tok' v k k' α (h α (keeps_self S (neg tok' F') α)))
  grow-same (eqs {tok = tok} {tok' = tok'} {s = s} {t = t}) S o k k' α h =
      steps (same-equate S (eq tok' s t) tok tok' (side D α s) (side D α t) k k' α
      (λ p e. (sane-bare D S α s o.0 p e).0) (λ p e. (sane-bare D S α t o.1 p e).0) h)
  grow-same (compares {tok = tok} {tok' = tok'} {r = r} {s = s} {t = t}) S o k k' α h =
      steps (same-compared tok tok' r (pair_of (side D α s) (side D α t)) k k' α (h α (keeps_self S (compare tok' r s t) α)))
  grow-same (exs {l = l} {F = F} {F' = F'} f) S o k k' α h =
      steps (same-entered S l F F' (grow-same f (enter S l) o.2) k k' α empty h)
  grow-same (somes {tok = tok} {tok' = tok'} {l = l} {a = a} {b = b} {F = F} {F' = F'} f) S o k k' α h =
      same-bounded tok tok' (pair_of (side D α a) (side D α b)) _ _ α (λ x y.
      same-sons x (count x y) _ _ (λ i. same-entered S l F F' (grow-same f (enter S l) o.4) k k' α (full (x +ℤ pos i)) h))
  grow-same (alls {tok = tok} {tok' = tok'} {l = l} {a = a} {b = b} {F = F} {F' = F'} f) S o k k' α h =
      same-bounded tok tok' (pair_of (side D α a) (side D α b)) _ _ α (λ x y.
      same-rounds S l F F' (grow-same f (enter S l) o.4) (count x y) x k k' α h)
  grow-same (calls f) S o k k' α h = steps (grow-same f S o.2 k k' α h)
  grow-same (no-some e) S o k k' α h = rw e (steps failures)
  grow-same (no_all e) S o k k' α h = rw e (steps (h α (keeps_self S truth α)))

-- ---- the trees of a sheet and of its tidied formula

-- with the tidied formula, and the procedures as they were
abbrev pub reformed : Sheet → Sheet
reformed s = record { declared = s.declared; given = s.given; formula = (tidied s).formula }

pub same-root : (s : Sheet) → WellFormed s → Same (root_of s) (root_of (reformed s))
unfolding root_of tree_of
same-root s w =
    grow-same s.declared (tidied-like s w) nowhere w.formula done done (start s.given) (λ β e. steps successes)
