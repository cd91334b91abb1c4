-- What comes of a visit: the condition of each stop at it, and what the run is after it where none is met. Assumes nothing.
use Prim.Native.Nat.{ℕ, suc, ◌+◌, ◌≤◌, ◌<◌}
use mathlib.Core.Path.{◌≡◌, refl}
use mathlib.Core.Bool.{Bool, true, false}
use mathlib.Core.List.{[], ◌++◌, append-nil}
use mathlib.Core.Option.{Option, none, some}
use lib.ListN.{length}
use lib.Dec.{leb, ltb, eqb}
use borrow.Author.Tests.{ltb-true, ltb-false, leb-true, leb-false, eqb-true, eqb-false, lt-ltb, le-ltb, le-leb, lt-leb, eq-eqb, ne_eqb}
use Rattle.specification.specs.declared.Tallies.{Tallies}
use Rattle.specification.specs.Bytes.{Bytes, pick}
use Rattle.specification.specs.Lines.{Declared}
use Rattle.specification.specs.Listing.{answer_head, error_head, Block, block_of, block_text}
use Rattle.specification.specs.Leaves.{answer, error, fail}
use Rattle.specification.specs.Visits.{Event, node, leaf, Visit}
use Rattle.specification.specs.Run.{block_count, Conditions, add_node, add_answer, add_error, add_fail, Stop, spent, path, output, going, stopped, block, arrive, visit}
use Rattle.specification.proofs.Laws.Contradiction.{contradiction}
use Rattle.specification.proofs.Laws.Settled.{unless, settled, settles}

-- ---- the block of an event, and the tallies after it

-- the block that is due at an event, by the tallies before it: none at a node or a failure, and none among the first skip blocks
abbrev pub due : Declared → ℕ → Tallies → Event → Option Block
due D skip t node = none
due D skip t (leaf fail) = none
due D skip t (leaf (answer β)) = unless (ltb (block_count t) skip) (block_of D (answer_head (suc t.answers)) β)
due D skip t (leaf (error κ k β)) = unless (ltb (block_count t) skip) (block_of D (error_head (suc t.errors) κ k) β)

abbrev pub due_text : Option Block → Bytes
due_text none = []
due_text (some b) = block_text b

-- the bytes that a visit adds where it is passed
abbrev pub added : Declared → ℕ → Tallies → Event → Bytes
added D skip t ev = due_text (due D skip t ev)

-- the same of a run's conditions
abbrev pub due_under : Conditions → Tallies → Event → Option Block
due_under C t ev = due C.declared C.setting.skip t ev

abbrev pub added_under : Conditions → Tallies → Event → Bytes
added_under C t ev = added C.declared C.setting.skip t ev

-- the tallies after a visit that is passed
abbrev pub counted : Event → Tallies → Tallies
counted node t = add_node t
counted (leaf fail) t = add_fail (add_node t)
counted (leaf (answer β)) t = add_answer (add_node t)
counted (leaf (error κ k β)) t = add_error (add_node t)

pub counted-nodes : (ev : Event) (t : Tallies) → (counted ev t).nodes ≡ suc t.nodes
counted-nodes node t = refl
counted-nodes (leaf fail) t = refl
counted-nodes (leaf (answer β)) t = refl
counted-nodes (leaf (error κ k β)) t = refl

-- the tallies of a run that is stopped, by those before the visit: a leaf whose block finds no room is in the nodes only
abbrev pub at_stop : Stop → Tallies → Tallies
at_stop spent t = t
at_stop path t = t
at_stop output t = add_node t

-- ---- what comes of a visit

module _ (C : Conditions) where
  -- the condition of each stop at a visit before which the run has these tallies and bytes
  abbrev pub Meets : Stop → Visit → Tallies → Bytes → Type 0
  Meets spent v t w = t.nodes ≡ C.setting.budget
  Meets path v t w = (¬ (t.nodes ≡ C.setting.budget)) × (C.setting.path < v.depth)
  Meets output v t w =
      (¬ (t.nodes ≡ C.setting.budget)) × (v.depth ≤ C.setting.path) ×
      ((b : Block) × (due_under C t v.event ≡ some b) × (C.size < length w + length (block_text b)))

  -- none of them
  abbrev pub Passes : Visit → Tallies → Bytes → Type 0
  Passes v t w =
      (¬ (t.nodes ≡ C.setting.budget)) × (v.depth ≤ C.setting.path) ×
      ((b : Block) → due_under C t v.event ≡ some b → length w + length (block_text b) ≤ C.size)

  arrive-is : (ev : Event) (t : Tallies) (w : Bytes) →
      arrive C ev (add_node t) w ≡ settled C (add_node t) (counted ev t) w (due_under C t ev)
  unfolding arrive block
  arrive-is node t w = refl
  arrive-is (leaf fail) t w = refl
  arrive-is (leaf (answer β)) t w =
      settles C (ltb (block_count t) C.setting.skip) (add_node t) (add_answer (add_node t)) w (block_of C.declared (answer_head (suc t.answers)) β)
  arrive-is (leaf (error κ k β)) t w =
      settles C (ltb (block_count t) C.setting.skip) (add_node t) (add_error (add_node t)) w (block_of C.declared (error_head (suc t.errors) κ k) β)

  visit-is : (v : Visit) (t : Tallies) (w : Bytes) →
      visit C v t w ≡
      pick (eqb t.nodes C.setting.budget) (stopped spent t w)
      (pick (ltb C.setting.path v.depth) (stopped path t w) (settled C (add_node t) (counted v.event t) w (due_under C t v.event)))
  unfolding visit
  visit-is v t w = rw arrive-is

  -- where the condition of a stop is met, the run is stopped with it
  pub visit-stops : (e : Stop) (v : Visit) (t : Tallies) (w : Bytes) → Meets e v t w → visit C v t w ≡ stopped e (at_stop e t) w
  visit-stops spent v t w m = rw (visit-is v t w, eq-eqb t.nodes C.setting.budget m)
  visit-stops path v t w m = rw (visit-is v t w, ne_eqb t.nodes C.setting.budget m.0, lt-ltb C.setting.path v.depth m.1)
  visit-stops output v t w m =
      let full = lt-leb (length w + length (block_text m.2.0)) C.size m.2.2 in
      rw (visit-is v t w, ne_eqb t.nodes C.setting.budget m.0, le-ltb C.setting.path v.depth m.1, m.2.1, full)

  -- where none is, the run goes on
  pub visit-passes : (v : Visit) (t : Tallies) (w : Bytes) → Passes v t w →
      visit C v t w ≡ going (counted v.event t) (w ++ added_under C t v.event)
  visit-passes v t w m =
      rw (visit-is v t w, ne_eqb t.nodes C.setting.budget m.0, le-ltb C.setting.path v.depth m.1) (fits (due_under C t v.event) m.2)
    where
      fits : (o : Option Block) → ((b : Block) → o ≡ some b → length w + length (block_text b) ≤ C.size) →
          settled C (add_node t) (counted v.event t) w o ≡ going (counted v.event t) (w ++ due_text o)
      fits none f = rw append-nil
      fits (some b) f = rw (le-leb (length w + length (block_text b)) C.size (f b refl))

  -- a visit meets the condition of a stop, or passes
  pub data Comes (v : Visit) (t : Tallies) (w : Bytes) : Type 0 where
    stops : (e : Stop) → Meets e v t w → Comes v t w
    passes : Passes v t w → Comes v t w

  pub comes : (v : Visit) (t : Tallies) (w : Bytes) → Comes v t w
  comes v t w = by_budget (eqb t.nodes C.setting.budget) refl
    where
      by_room : (¬ (t.nodes ≡ C.setting.budget)) → v.depth ≤ C.setting.path → (b : Block) → due_under C t v.event ≡ some b →
          (c : Bool) → leb (length w + length (block_text b)) C.size ≡ c → Comes v t w
      by_room n l b e true q = passes (n, l, λ b' e'. let same : b' ≡ b = cc in rw same (leb-true (length w + length (block_text b)) C.size q))
      by_room n l b e false q = stops output (n, l, (b, e, leb-false (length w + length (block_text b)) C.size q))

      by_due : (¬ (t.nodes ≡ C.setting.budget)) → v.depth ≤ C.setting.path → (o : Option Block) → due_under C t v.event ≡ o → Comes v t w
      by_due n l none e = passes (n, l, λ b e'. contradiction cc)
      by_due n l (some b) e = by_room n l b e (leb (length w + length (block_text b)) C.size) refl

      by_path : (¬ (t.nodes ≡ C.setting.budget)) → (c : Bool) → ltb C.setting.path v.depth ≡ c → Comes v t w
      by_path n true q = stops path (n, ltb-true C.setting.path v.depth q)
      by_path n false q = by_due n (ltb-false C.setting.path v.depth q) (due_under C t v.event) refl

      by_budget : (c : Bool) → eqb t.nodes C.setting.budget ≡ c → Comes v t w
      by_budget true q = stops spent (eqb-true t.nodes C.setting.budget q)
      by_budget false q = by_path (eqb-false t.nodes C.setting.budget q) (ltb C.setting.path v.depth) refl
