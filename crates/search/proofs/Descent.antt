-- A node is entered and its first son is due: one law for each kind of frame. Each takes the equation of the node's tree and the words after the node's
-- record is pushed, and gives the invariant for the son. Assumes nothing.
use Prim.Native.Nat.{ℕ, suc, ◌+◌, ◌<◌}
use native.Mathlib.Omega.{arith}
use native.Mathlib.Numerals.{add-one}
use mathlib.Core.Path.{◌≡◌, refl, sym, ◌∙◌, ap, subst}
use mathlib.Core.Bool.{Bool, false}
use mathlib.Core.List.{List, [], ◌∷◌}
use lib.ListN.{get_or}
use lib.IntN.{ℤ, pos, ◌+ℤ◌}
use Rattle.specification.specs.Bytes.{Bytes}
use Rattle.specification.specs.Ast.{Formula}
use Rattle.specification.specs.Place.{Place, local, put}
use Rattle.specification.specs.Value.{Slot, empty, full}
use Rattle.specification.specs.Run.{add_node}
use Rattle.specification.specs.Tree.{Tree, step, fork, fan, ask, Verdict, verdict}
use Rattle.specification.proofs.Laws.Contradiction.{contradiction}
use Rattle.specification.proofs.Laws.Place.{SlotIn, put_same, put_other, valid-put}
use Rattle.tables.specs.Kept.{SameSlots}
use Rattle.sheet.specs.Tables.{Words}
use Rattle.sheet.specs.Held.{slot_of}
use Rattle.terms.specs.Environment.{Environment}
use Rattle.search.specs.Marks.{InTable, marks_in, Marks}
use Rattle.search.specs.declared.Errors.{Errors}
use Rattle.search.specs.declared.Errors.TheVariants.{Unseen}
use Rattle.search.specs.declared.Go.{Go}
use Rattle.search.specs.Kept.{Kept, SameStore}
use Rattle.search.specs.Walk.{sons_from, within, walk}
use Rattle.search.specs.Frame.{Item, form, What, the, tree_items, tree_what, Question, son_of, Frame, pass, other, bound, began, given, range, asks, called, here, below, len, size_of, inner_in, site_in, store_in}
use Rattle.search.specs.Site.{son_site, bound_mark, bound_site, inner_site, given_site}
use Rattle.search.specs.Records.{RecordAt}
use Rattle.search.specs.Store.{Call}
use Rattle.search.specs.Path.{World, conditions_of, Job, Stored, Path}
use Rattle.search.specs.Sim.{tree, son, yes, no, Down, In}
use Rattle.search.specs.Registers.{tallied, down_go}
use Rattle.search.specs.States.{inner_root, errors_of}
use Rattle.search.proofs.Walk.{within-ask}
use Rattle.search.proofs.Sites.{site-depth, bound-other}
use Rattle.search.proofs.Slots.{holds-keep, holds-put, marks-keep, marks-off, altered-marks, Altered}
use Rattle.search.proofs.Paths.{path-onto, stored-keep}
use Rattle.search.proofs.Gauges.{down-gauge, down-tallied, room_path}

module _ {c : World} {b : Bytes} {w : Words} {g : Go} (i : In c b w g) where
  -- ---- the son

  -- what the walk of the son T has to give
  abbrev Gives : Frame → Bool → Tree → Type 0
  Gives f e T =
      walk (conditions_of c) (inner_in (f ∷ i.fr)) (suc (suc g.depth)) T (yes c (f ∷ i.fr)) (no c (f ∷ i.fr)) e (add_node (tallied g)) b
      ≡ c.result

  onto : {w' : Words} (f : Frame) (x : What) (e : Bool) {t top inner : ℕ} {bad : Errors} → Path c w' top (below f) (f ∷ i.fr) →
      inner ≡ (site_in (f ∷ i.fr)).inner → bad ≡ errors_of e → Job c w' (store_in (f ∷ i.fr)) (below f) t x → Gives f e (tree c (f ∷ i.fr) x (below f)) →
      Down c b w' (down_go g t top inner bad)
  onto f x e {t} {top} {inner} {bad} P n m j q = record {
    x = x;
    fr = f ∷ i.fr;
    α = below f;
    e = e;
    path = P;
    deep = omega (arith, i.deep);
    inner = n;
    bad = m;
    job = j;
    gauge = down-gauge i.gauge i.room t top inner bad;
    result = rw (down-tallied i.gauge i.room t top inner bad, add-one) q;
  }

  deep_room : len i.fr < c.setting.path
  deep_room = omega (arith, i.deep, room_path i.gauge i.room)

  -- a frame that changes no slot
  plain : {w' : Words} → Kept g.top w w' → SameSlots w w' → (f : Frame) {top : ℕ} → top ≡ g.top + size_of f → below f ≡ i.α → here f ≡ i.α →
      (site_in (f ∷ i.fr)).marks ≡ (site_in i.fr).marks → Stored c w' (store_in (f ∷ i.fr)) →
      RecordAt c.declared c.tables w' g.top (site_in i.fr) (store_in i.fr) f → Path c w' top (below f) (f ∷ i.fr)
  plain {w'} k u f z e e' m s q =
      path-onto i.path f z deep_room k e' q (rw e (holds-keep u i.path.holds))
      (rw e (subst (Marks w' i.α) (ap (marks_in c.declared) (sym m)) (marks-keep u i.path.marks))) s (rw e i.path.valid)

  -- a frame that changes the slot of p, after the words mid
  changed : {mid w' : Words} (p : Place) (s : Slot) → InTable p → SlotIn c.declared p s → Kept g.top w w' → SameSlots w mid → Altered mid w' p s →
      (f : Frame) {top : ℕ} → top ≡ g.top + size_of f → below f ≡ put i.α p s → here f ≡ i.α →
      ((q : Place) → ¬ (q ≡ p) → (site_in (f ∷ i.fr)).marks q ≡ (site_in i.fr).marks q) →
      (s ≡ empty → get_or w' (slot_of p + 1) 0 ≡ marks_in c.declared (site_in (f ∷ i.fr)).marks p) → Stored c w' (store_in (f ∷ i.fr)) →
      RecordAt c.declared c.tables w' g.top (site_in i.fr) (store_in i.fr) f → Path c w' top (below f) (f ∷ i.fr)
  changed {mid} {w'} p s inside good k same a f z e e' off mark st q =
      path-onto i.path f z deep_room k e' q
      (rw e (holds-put a inside (holds-keep same i.path.holds)))
      (rw e
      (altered-marks a inside i.α (put i.α p s) (marks_in c.declared (site_in i.fr).marks)
      (marks_in c.declared (site_in (f ∷ i.fr)).marks) (marks-keep same i.path.marks)
      (put_other i.α p s) (marks-off c.declared p off) (λ none. mark (sym (put_same i.α p s) ∙ none))))
      st (rw e (valid-put c.declared i.α p s i.path.valid good))

  at-depth : (site_in i.fr).depth ≡ g.depth
  at-depth = site-depth i.fr ∙ sym i.deep

  inner-number : g.depth + inner_root ≡ (inner_site (site_in i.fr)).inner
  inner-number = ap (◌+ inner_root) (sym at-depth)

  -- ---- nothing is left to do

  pub down-pass : {w' : Words} → Kept g.top w w' → SameSlots w w' → SameStore w w' → (x : What) →
      tree c i.fr i.x i.α ≡ step (son c i.fr x i.α) → {t : ℕ} → Job c w' (store_in i.fr) i.α t x →
      Down c b w' (down_go g t g.top g.inner g.bad)
  unfolding within
  down-pass k u s x e j =
      onto (pass i.α) x i.e (plain k u (pass i.α) (omega arith) refl refl refl (stored-keep s i.path.stored) tt) i.inner i.bad j (rw e at i.result)

  -- a call
  pub down-called : {w' : Words} → Kept g.top w w' → SameSlots w w' → (C : Call) → Stored c w' (store_in (called C i.α ∷ i.fr)) →
      RecordAt c.declared c.tables w' g.top (site_in i.fr) (store_in i.fr) (called C i.α) → (x : What) →
      tree c i.fr i.x i.α ≡ step (son c i.fr x i.α) → {t : ℕ} → Job c w' (store_in (called C i.α ∷ i.fr)) i.α t x → {top : ℕ} →
      top ≡ g.top + size_of (called C i.α) → Down c b w' (down_go g t top g.inner g.bad)
  unfolding within
  down-called k u C st q x e j z =
      onto (called C i.α) x i.e (plain k u (called C i.α) z refl refl refl st q) i.inner i.bad j (rw e at i.result)

  -- ---- a slot is changed

  -- a local that is bound
  pub down-bound : {mid w' : Words} (l : ℕ) (s : Slot) → InTable (local l) → SlotIn c.declared (local l) s → Kept g.top w w' → SameSlots w mid →
      Altered mid w' (local l) s → (s ≡ empty → get_or w' (slot_of (local l) + 1) 0 ≡ bound_mark g.depth) → SameStore w w' →
      RecordAt c.declared c.tables w' g.top (site_in i.fr) (store_in i.fr) (bound l s i.α) → (x : What) →
      tree c i.fr i.x i.α ≡ step (tree_what c.declared x (bound_site l (site_in i.fr)) (put i.α (local l) s)) → {t : ℕ} →
      Job c w' (store_in i.fr) (put i.α (local l) s) t x → Down c b w' (down_go g t (g.top + 3) g.inner g.bad)
  unfolding within
  down-bound l s inside good k same a mark st q x e j =
      onto (bound l s i.α) x i.e
      (changed (local l) s inside good k same a (bound l s i.α) refl refl refl (bound-other l (site_in i.fr))
      (λ none. mark none ∙ ap bound_mark (sym at-depth) ∙ sym (put_same (site_in i.fr).marks (local l) (bound_mark (site_in i.fr).depth)))
      (stored-keep st i.path.stored) q) i.inner i.bad j (rw e at i.result)

  -- a place that is given a value
  pub down-given : {mid w' : Words} (p : Place) (v : ℤ) → InTable p → SlotIn c.declared p (full v) → Kept g.top w w' → SameSlots w mid →
      Altered mid w' p (full v) → SameStore w w' →
      RecordAt c.declared c.tables w' g.top (site_in i.fr) (store_in i.fr) (given p v i.α) → (x : What) →
      tree c i.fr i.x i.α ≡ step (tree_what c.declared x (given_site p (site_in i.fr)) (put i.α p (full v))) → {t : ℕ} →
      Job c w' (store_in i.fr) (put i.α p (full v)) t x → {inner : ℕ} → inner ≡ (site_in (given p v i.α ∷ i.fr)).inner →
      Down c b w' (down_go g t (g.top + 3) inner g.bad)
  unfolding within
  down-given p v inside good k same a st q x e j n =
      onto (given p v i.α) x i.e
      (changed p (full v) inside good k same a (given p v i.α) refl refl refl (λ q z. refl) (λ none. contradiction cc)
      (stored-keep st i.path.stored) q) n i.bad j (rw e at i.result)

  -- the first value of an `all`
  pub down-began : {mid w' : Words} (l : ℕ) (v : ℤ) (h : ℕ) → InTable (local l) → SlotIn c.declared (local l) (full v) → Kept g.top w w' → SameSlots w mid →
      Altered mid w' (local l) (full v) → Stored c w' (store_in (began l v h i.α ∷ i.fr)) →
      RecordAt c.declared c.tables w' g.top (site_in i.fr) (store_in i.fr) (began l v h i.α) → (x : What) →
      tree c i.fr i.x i.α ≡ step (tree_what c.declared x (bound_site l (site_in i.fr)) (put i.α (local l) (full v))) → {t : ℕ} →
      Job c w' (store_in (began l v h i.α ∷ i.fr)) (put i.α (local l) (full v)) t x → Down c b w' (down_go g t (g.top + 4) g.inner g.bad)
  unfolding within
  down-began l v h inside good k same a st q x e j =
      onto (began l v h i.α) x i.e
      (changed (local l) (full v) inside good k same a (began l v h i.α) refl refl refl (bound-other l (site_in i.fr)) (λ none. contradiction cc) st q)
      i.inner i.bad j (rw e at i.result)

  -- ---- another son comes later

  -- the second son of `or`
  pub down-other : {w' : Words} → Kept g.top w w' → SameSlots w w' → SameStore w w' → (x : What) (E : Environment) (G : Formula) (is : List Item) →
      tree c i.fr i.x i.α ≡ fork (son c i.fr x i.α) (son c i.fr (the (form E G ∷ is)) i.α) →
      RecordAt c.declared c.tables w' g.top (site_in i.fr) (store_in i.fr) (other E G is i.α) → {t : ℕ} →
      Job c w' (store_in i.fr) i.α t x → Down c b w' (down_go g t (g.top + 2) g.inner g.bad)
  unfolding within
  down-other k u s x E G is e q j =
      onto (other E G is i.α) x i.e (plain k u (other E G is i.α) refl refl refl refl (stored-keep s i.path.stored) q) i.inner i.bad j
      (rw (← i.deep) (rw e at i.result))

  -- the next values of a `some`
  pub down-range : {mid w' : Words} (l : ℕ) (x : ℤ) (n : ℕ) (E : Environment) (F : Formula) (is : List Item) → InTable (local l) →
      SlotIn c.declared (local l) (full (x +ℤ pos 0)) → Kept g.top w w' → SameSlots w mid → Altered mid w' (local l) (full (x +ℤ pos 0)) → SameStore w w' →
      RecordAt c.declared c.tables w' g.top (site_in i.fr) (store_in i.fr) (range l x 0 n E F is i.α) →
      tree c i.fr i.x i.α ≡ fan x (suc n) (λ j. tree_items c.declared (form E F ∷ is) (bound_site l (site_in i.fr)) (put i.α (local l) (full (x +ℤ pos j)))) →
      {t : ℕ} → Job c w' (store_in i.fr) (put i.α (local l) (full (x +ℤ pos 0))) t (the (form E F ∷ is)) →
      Down c b w' (down_go g t (g.top + 5) g.inner g.bad)
  unfolding within sons_from
  down-range l x n E F is inside good k same a st q e j =
      onto (range l x 0 n E F is i.α) (the (form E F ∷ is)) i.e
      (changed (local l) (full (x +ℤ pos 0)) inside good k same a (range l x 0 n E F is i.α) refl refl refl (bound-other l (site_in i.fr))
      (λ none. contradiction cc) (stored-keep st i.path.stored) q) i.inner i.bad j (rw (← i.deep) (rw e at i.result))

  -- an inner tree to judge
  pub down-asks : {w' : Words} → Kept g.top w w' → SameSlots w w' → SameStore w w' → (tok : ℕ) (E : Environment) (F : Formula) (q : Question) (is : List Item) →
      (let I = tree_items c.declared (form E F ∷ []) (inner_site (site_in i.fr)) i.α in
      tree c i.fr i.x i.α ≡ ask I (son_of c.declared tok q is (verdict I) (son_site (site_in i.fr)) i.α)) →
      RecordAt c.declared c.tables w' g.top (site_in i.fr) (store_in i.fr) (asks tok q is i.α i.e) → {t : ℕ} →
      Job c w' (store_in i.fr) i.α t (the (form E F ∷ [])) → Down c b w' (down_go g t (g.top + 4) (g.depth + inner_root) Unseen)
  down-asks k u s tok E F q is e r j =
      let m = inner_in i.fr in
      let after : Verdict → Tree = λ v. son_of c.declared tok q is v (son_site (site_in i.fr)) i.α in
      let h = within-ask (conditions_of c) (tree_items c.declared (form E F ∷ []) (inner_site (site_in i.fr)) i.α) after m (suc g.depth)
      (yes c i.fr) (no c i.fr) i.e (add_node (tallied g)) b in
      onto (asks tok q is i.α i.e) (the (form E F ∷ [])) false
      (plain k u (asks tok q is i.α i.e) refl refl refl refl (stored-keep s i.path.stored) r) inner-number refl j
      (rw (← i.deep) (sym h ∙ (rw e at i.result)))
