-- Laws of the line of given values: one turn of the reading of items, for every sheet whose arrays the words have, and the line's
-- answer. Assumes nothing.
use Prim.Native.Nat.{ℕ, zero, suc, ◌+◌, ◌-◌, ◌<◌, ◌≤◌}
use mathlib.Core.Path.{◌≡◌, refl, sym, ap, ◌∙◌}
use Rattle.std.specs.Prelude.{Ok, Err}
use mathlib.Core.Bool.{true, false}
use mathlib.Core.List.{List, [], ◌∷◌}
use native.Mathlib.Numerals.{add-one}
use native.Mathlib.Omega.{arith}
use lib.ListN.{length, get_or, drop, set, length-set}
use lib.Seq.{get_or-set_other}
use Rattle.specification.specs.Bytes.{Bytes, bytes, pick, feed, comma}
use Rattle.specification.specs.Parser.{Read, refused, found, and_then, ◌>>◌, give, next, mark, key}
use Rattle.specification.specs.Lines.{Declared}
use Rattle.specification.specs.Given.{Item, item, items, given_line}
use Rattle.values.specs.Word.{signed}
use Rattle.values.proofs.Laws.Word.{biased-signed}
use Rattle.tables.specs.Layout.{max_cells, cell_slot, first_slot}
use Rattle.tables.specs.Ranges.{range_slot}
use Rattle.tables.proofs.Laws.Ranges.{SameRanges}
use Rattle.sheet.specs.declared.given.Entry.{Entry}
use Rattle.sheet.specs.Reader.{line_at}
use Rattle.sheet.specs.Tables.{Words, laid_given}
use Rattle.sheet.specs.Items.{item_of, Arranged, Vacant, Furnished, laid_items, given_value, GivenFound, GivenDone}
use Rattle.sheet.specs.Answers.{Answer, place_read}
use Rattle.sheet.proofs.Answers.{on_found, on_refused, Origin, mapped-refused, mapped-found}
use Rattle.sheet.proofs.Ranged.{ranges-keep}
use Rattle.sheet.proofs.Keys.{mark-yes, closed, closed-found, closed-refused}
use Rattle.sheet.proofs.GivenItems.{item-cell}

-- ---- a cell that is laid

abbrev pub stored : ℕ → ℕ → Words → Words
stored c z w = set (set w (cell_slot c) 1) (cell_slot c + 1) z

pub stored-length : (c z : ℕ) (w : Words) → length (stored c z w) ≡ length w
stored-length c z w = length-set (set w (cell_slot c) 1) (cell_slot c + 1) z ∙ length-set w (cell_slot c) 1

-- the arrays' first cells and the ranges stay, and the marks of the cells above
module _ (w : Words) (c z : ℕ) (h : c < max_cells) where
  stored_other : (j : ℕ) → ¬ (j ≡ cell_slot c) → ¬ (j ≡ cell_slot c + 1) → get_or (stored c z w) j 0 ≡ get_or w j 0
  stored_other j p q = get_or-set_other (set w (cell_slot c) 1) (cell_slot c + 1) j z 0 q ∙ get_or-set_other w (cell_slot c) j 1 0 p

  stored-ranges : SameRanges w (stored c z w)
  stored-ranges = record {
    lowest = λ k l. stored_other (range_slot k) (λ e. omega arith) (λ e. omega arith);
    highest = λ k l. stored_other (range_slot k + 1) (λ e. omega arith) (λ e. omega arith);
  }

  stored-vacant : {D : Declared} {scalars arrays floor : ℕ} → floor ≤ c → Vacant D scalars arrays floor w → Vacant D scalars arrays (c + 1) (stored c z w)
  stored-vacant above v =
      let d = v.declares in
      record {
        declares = record {
          scalar = d.scalar;
          many = d.many;
          few = d.few;
          small = d.small;
          held = λ a l. stored_other (first_slot a) (λ e. omega arith) (λ e. omega arith) ∙ d.held a l;
        };
        ranges = ranges-keep stored-ranges v.ranges;
        marks = λ x l m. stored_other (cell_slot x + 1) (λ e. omega arith) (λ e. omega arith) ∙ v.marks x (omega arith) m;
      }

-- an item that was read, before those that follow
laid_more : (c z : ℕ) (w : Words) (x : Read (List Item))
    → laid_items w (and_then (λ is. give (item_of c (signed z) ∷ is)) x) ≡ laid_items (stored c z w) x
unfolding laid_given
laid_more c z w (refused k p) = refl
laid_more c z w (found is r) = rw biased-signed

-- ---- one turn: what is laid from the start on is laid from here on

pub record Turn (D : Declared) (s : Bytes) (from scalars arrays : ℕ) (w₀ w : Words) (at floor : ℕ) : Type 0 where
  pub left : ℕ
  pub room : max_cells ≤ left + floor
  pub vacant : Vacant D scalars arrays floor w
  pub rest : laid_items w₀ (items D max_cells 0 (line_at s from)) ≡ laid_items w (items D left floor (line_at s at))

pub record Turning (s : Bytes) (from scalars arrays : ℕ) (w₀ w : Words) (at floor : ℕ) : Type 0 where
  pub long : length w ≡ length w₀
  pub each : (D : Declared) → Vacant D scalars arrays 0 w₀ → Turn D s from scalars arrays w₀ w at floor

pub turn-first : (s : Bytes) (from scalars arrays : ℕ) (w : Words) → Turning s from scalars arrays w w from 0
turn-first s from scalars arrays w = record { long = refl; each = λ D d. record { left = max_cells; room = omega arith; vacant = d; rest = refl } }

-- what an item wants of the words
pub turn-arranged : {s : Bytes} {from scalars arrays : ℕ} {w₀ w : Words} {at floor : ℕ} → Turning s from scalars arrays w₀ w at floor →
    Furnished scalars arrays w₀ → Arranged scalars arrays w
turn-arranged st a = record { declared = a.declared; declares = (st.each a.declared a.vacant).vacant.declares }

module _ {s : Bytes} {from scalars arrays : ℕ} {w₀ w : Words} {at floor : ℕ} (st : Turning s from scalars arrays w₀ w at floor) where
  -- what the line's value lays for a sheet
  abbrev Whole : Read Words → Type 0
  Whole y = (D : Declared) → Vacant D scalars arrays 0 w₀ → y ≡ laid_items w₀ (items D max_cells 0 (line_at s from))

  pub turn-refused : {k p : ℕ} → ((D : Declared) → Vacant D scalars arrays floor w → refused k p ≡ item D floor (line_at s at)) → Whole (refused k p)
  unfolding items
  turn-refused {k} {p} read D d = go t.left t.rest
    where
      t : Turn D s from scalars arrays w₀ w at floor
      t = st.each D d

      e : item D floor (line_at s at) ≡ refused k p
      e = sym (read D t.vacant)

      go : (l : ℕ) → laid_items w₀ (items D max_cells 0 (line_at s from)) ≡ laid_items w (items D l floor (line_at s at)) → refused k p ≡ laid_items w₀ (items D max_cells 0 (line_at s from))
      go zero r = sym (rw e at r)
      go (suc l) r = sym (rw e at r)

  module _ (i : Entry) {e : ℕ}
      (is : (D : Declared) → Vacant D scalars arrays floor w → found (item_of i.cell (signed i.word)) (line_at s e) ≡ item D floor (line_at s at)) where
    abbrev c : ℕ
    c = i.cell

    abbrev z : ℕ
    z = i.word

    within : (D : Declared) → Vacant D scalars arrays floor w → (floor ≤ c) × (c < max_cells)
    within D d =
        let h = item-cell d (line_at s at) (item_of c (signed z)) (line_at s e) (is D d) in
        (h.0, omega (arith, h.1, d.declares.small))

    -- the cell lies above those before, and below the limit
    pub turn-cell : Furnished scalars arrays w₀ → (floor ≤ c) × (c < max_cells)
    turn-cell a = within a.declared (st.each a.declared a.vacant).vacant

    -- what follows the item
    abbrev following : Declared → ℕ → Read (List Item)
    following D k =
        and_then (λ is. give (item_of c (signed z) ∷ is)) (pick (next comma (drop e s)) (mark comma >> items D k (suc c)) (give []) (line_at s e))

    -- so many items are enough, since their cells rise
    turned : (D : Declared) (d : Vacant D scalars arrays 0 w₀)
        → laid_items w₀ (items D max_cells 0 (line_at s from)) ≡ laid_items w (following D ((st.each D d).left - 1))
    unfolding items
    turned D d =
        let t = st.each D d in
        let q : t.left ≡ suc (t.left - 1) = omega (arith, t.room, (within D t.vacant).0, (within D t.vacant).1) in
        rw (sym (is D t.vacant)) at (rw q at t.rest)

    module _ (w' : Words) (laid : w' ≡ stored c z w) where
      pub turn-length : length w' ≡ length w₀
      turn-length = ap length laid ∙ stored-length c z w ∙ st.long

      pub turn_last : false ≡ next comma (drop e s) → Whole (found w' (line_at s e))
      unfolding laid_given
      turn_last other D d =
          rw laid (sym (laid_more c z w (found [] (line_at s e))) ∙ sym (rw (sym other) at (turned D d)))

      pub turn-next : true ≡ next comma (drop e s) → Turning s from scalars arrays w₀ w' (e + 1) (c + 1)
      turn-next is-comma = record {
        long = turn-length;
        each = λ D d. let t = st.each D d in let h = within D t.vacant in record {
          left = t.left - 1;
          room = omega (arith, t.room, h.0, h.1);
          vacant = rw laid (stored-vacant w c z h.1 h.0 t.vacant);
          rest = let more = items D (t.left - 1) (suc c) in
              rw (laid, add-one c)
              (rw (sym is-comma, sym (mark-yes s e comma is-comma)) at (turned D d) ∙ laid_more c z w (more (line_at s (e + 1))));
        };
      }

-- ---- the line

module _ (D : Declared) (s : Bytes) (from : ℕ) (w : Words) where
  pub value_none : true ≡ next feed (drop from s) → found w (line_at s from) ≡ laid_items w (given_value D (line_at s from))
  unfolding laid_given
  value_none is-feed = rw (sym is-feed)

  pub value-some : false ≡ next feed (drop from s) → laid_items w (items D max_cells 0 (line_at s from)) ≡ laid_items w (given_value D (line_at s from))
  value-some other = rw (sym other)

module _ (D : Declared) (s : Bytes) (at : ℕ) where
  pub lined-no : {k p : ℕ} → refused k p ≡ key (bytes "given=") (line_at s at) → given_line D (line_at s at) ≡ refused k p
  unfolding given_line
  lined-no h = on_refused _ h

  -- with what is read of the value, over the words w, which it leaves as w'
  module _ {from : ℕ} (begun : found tt (line_at s from) ≡ key (bytes "given=") (line_at s at)) (w w' : Words) where
    lined : given_line D (line_at s at) ≡ closed (given_value D (line_at s from))
    unfolding given_line
    lined = on_found _ begun

    abbrev contents : Read (List Item)
    contents = given_value D (line_at s from)

    pub lined-refused : {k p : ℕ} → refused k p ≡ laid_items w contents → given_line D (line_at s at) ≡ refused k p
    lined-refused is = lined ∙ ap closed (mapped-refused (λ is. laid_given is w) _ _ contents is)

    module _ {e : ℕ} (is : found w' (line_at s e) ≡ laid_items w contents) where
      origin : Origin (λ is. laid_given is w) w' (line_at s e) contents
      origin = mapped-found (λ is. laid_given is w) _ _ contents is

      lined-found : {q : ℕ} → found tt (line_at s q) ≡ mark feed (line_at s e) → GivenFound D s at w w' q
      lined-found h = record {
        items = origin.origin;
        read = lined ∙ ap closed origin.is ∙ closed-found origin.origin s e h;
        laid = sym origin.made;
      }

      -- by the line feed
      pub lined-done : length w' ≡ length w → (x : Answer ℕ) → place_read tt s x ≡ mark feed (line_at s e) → GivenDone D s at w w' x
      lined-done long (Err k) h = (lined ∙ ap closed origin.is ∙ closed-refused origin.origin s e h, long)
      lined-done long (Ok q) h = lined-found h
