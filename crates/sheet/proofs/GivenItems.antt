-- Laws of given items: the rest of an item after its name, an item by its name, and one turn of the reading of items. Assumes nothing.
use Prim.Native.Nat.{ℕ, ◌+◌, ◌<◌, ◌≤◌}
use mathlib.Core.Path.{◌≡◌, refl, sym, ap, ◌∙◌}
use mathlib.Core.Bool.{Bool, true, false}
use Rattle.std.specs.Prelude.{Option, Some, None}
use native.Mathlib.Omega.{arith}
use lib.Dec.{T, leb, ltb}
use lib.IntN.{ℤ}
use borrow.Author.Tests.{leb-true, le-leb, lt-leb, ltb-true}
use Rattle.specification.specs.Bytes.{Bytes, pick, colon}
use Rattle.specification.specs.Parser.{Reader, Read, refused, found, require, and_then, ◌>>=◌, ◌>>◌, give, mark}
use Rattle.specification.specs.Number.{in32}
use Rattle.specification.specs.Lines.{value, Declared, cells, CellName, scalar, element, is_declared, cell_of, in_range}
use Rattle.specification.specs.Given.{Item, name, item}
use Rattle.specification.proofs.Laws.Contradiction.{contradiction}
use Rattle.specification.proofs.Laws.Parser.{Post, of-found}
use Rattle.specification.proofs.Laws.Elements.{first-limit}
use Rattle.specification.proofs.Laws.ReadLines.{value-post}
use Rattle.specification.proofs.Laws.ReadGiven.{declared-cell}
use Rattle.values.specs.Word.{biased, signed}
use Rattle.values.proofs.Laws.Word.{biased-signed}
use Rattle.tables.specs.Layout.{first_at, value_at}
use Rattle.tables.specs.Ranges.{allows}
use Rattle.sheet.specs.Reader.{line_at}
use Rattle.sheet.specs.Tables.{Words}
use Rattle.sheet.specs.Items.{held_name, held_names, scalar_in, element_in, item_of, Below, judged, after_name, Arranged, Vacant}
use Rattle.sheet.proofs.Answers.{on_found, on_refused, mapped-refused, mapped-found}
use Rattle.sheet.proofs.CellNames.{cell_in, cell_below, held-scalar, held-element}

-- ---- the rest of an item after its name, which ends at e

module _ (s : Bytes) (p e floor : ℕ) (w : Words) (c : Option ℕ) where
  pub valued-no : {k q : ℕ} → refused k q ≡ mark colon (line_at s e) → refused k q ≡ after_name p floor w c (line_at s e)
  unfolding after_name
  valued-no h = sym (on_refused _ h)

  module _ {from : ℕ} (h : found tt (line_at s from) ≡ mark colon (line_at s e)) where
    after-colon : and_then (judged p floor w c) (value (line_at s from)) ≡ after_name p floor w c (line_at s e)
    unfolding after_name
    after-colon = sym (on_found _ h)

    pub valued-refused : {k q : ℕ} → refused k q ≡ value (line_at s from) → refused k q ≡ after_name p floor w c (line_at s e)
    valued-refused is = sym (on_refused (judged p floor w c) is) ∙ after-colon

    module _ (z : ℕ) {q : ℕ} (is : found (signed z) (line_at s q) ≡ value (line_at s from)) where
      valued_read : judged p floor w c (signed z) (line_at s q) ≡ after_name p floor w c (line_at s e)
      valued_read = sym (on_found (judged p floor w c) is) ∙ after-colon

      pub valued-undeclared : c ≡ None → refused 7 p ≡ after_name p floor w c (line_at s e)
      valued-undeclared d = ap (λ (c : Option ℕ). judged p floor w c (signed z) (line_at s q)) (sym d) ∙ valued_read

      module _ (n : ℕ) (d : c ≡ Some n) where
        valued-declared : require (leb floor n) 10 p (require (allows w (value_at w n) (biased (signed z))) 13 p (give (item_of n (signed z)))) (line_at s q) ≡
            after_name p floor w c (line_at s e)
        valued-declared = ap (λ (c : Option ℕ). judged p floor w c (signed z) (line_at s q)) (sym d) ∙ valued_read

        pub valued-low : n < floor → refused 10 p ≡ after_name p floor w c (line_at s e)
        valued-low l = rw (lt-leb floor n l) at valued-declared

        module _ (l : floor ≤ n) where
          valued-rising : require (allows w (value_at w n) z) 13 p (give (item_of n (signed z))) (line_at s q) ≡ after_name p floor w c (line_at s e)
          valued-rising = rw (le-leb floor n l, biased-signed) at valued-declared

          pub valued-outside : allows w (value_at w n) z ≡ false → refused 13 p ≡ after_name p floor w c (line_at s e)
          valued-outside o = rw o at valued-rising

          pub valued_found : allows w (value_at w n) z ≡ true → found (item_of n (signed z)) (line_at s q) ≡ after_name p floor w c (line_at s e)
          valued_found o = rw o at valued-rising

-- an item that was read has a cell, at the floor or above it
after-found : (p floor : ℕ) (w : Words) (c : Option ℕ) (r r' : Reader) (i : Item) → found i r' ≡ after_name p floor w c r → (c ≡ Some i.cell) × (floor ≤ i.cell)
unfolding after_name
after-found p floor w c r r' i e = by-colon (mark colon r) e
  where
    by-range : (n : ℕ) (z : ℤ) (q : Reader) (t : Bool) → floor ≤ n → found i r' ≡ require t 13 p (give (item_of n z)) q
        → (Some n ≡ Some i.cell) × (floor ≤ i.cell)
    by-range n z q true l e =
        let same : i ≡ item_of n z = cc in
        (ap (λ (j : Item). Some j.cell) (sym same), omega (arith, l, ap (λ (j : Item). j.cell) same))
    by-range n z q false l e = contradiction cc

    by-floor : (n : ℕ) (z : ℤ) (q : Reader) (t : Bool) → leb floor n ≡ t → found i r' ≡ require t 10 p (require (allows w (value_at w n) (biased z)) 13 p (give (item_of n z))) q
        → (Some n ≡ Some i.cell) × (floor ≤ i.cell)
    by-floor n z q true l e = by-range n z q (allows w (value_at w n) (biased z)) (leb-true floor n l) e
    by-floor n z q false l e = contradiction cc

    by-cell : (c : Option ℕ) (z : ℤ) (q : Reader) → found i r' ≡ judged p floor w c z q → (c ≡ Some i.cell) × (floor ≤ i.cell)
    by-cell None z q e = contradiction cc
    by-cell (Some n) z q e = by-floor n z q (leb floor n) refl e

    by_value : (x : Read ℤ) → found i r' ≡ and_then (judged p floor w c) x → (c ≡ Some i.cell) × (floor ≤ i.cell)
    by_value (refused k q) e = contradiction cc
    by_value (found z q) e = by-cell c z q e

    by-colon : (x : Read (Unit {0})) → found i r' ≡ and_then (λ u. value >>= judged p floor w c) x → (c ≡ Some i.cell) × (floor ≤ i.cell)
    by-colon (refused k q) e = contradiction cc
    by-colon (found u q) e = by_value (value q) e

-- ---- an item by its name

module _ {D : Declared} {scalars arrays floor : ℕ} {w : Words} (v : Vacant D scalars arrays floor w) (r : Reader) where
  abbrev p : ℕ
  p = r.place

  item-named : item D floor r ≡ and_then (λ n. after_name p floor w (cell_in D n)) (name r)
  unfolding item after_name
  item-named = go (name r)
    where
      -- the cell's mark allows the values of its range
      by-floor : (c : ℕ) (z : ℤ) (q : Reader) (t : Bool) → leb floor c ≡ t → c < cells D → T (in32 z) →
          require t 10 p (require (in_range D c z) 13 p (give (item_of c z))) q ≡
          require t 10 p (require (allows w (value_at w c) (biased z)) 13 p (give (item_of c z))) q
      by-floor c z q true l h i =
          ap (λ (b : Bool). require b 13 p (give (item_of c z)) q) (sym (ap (λ (m : ℕ). allows w m (biased z)) (v.marks c (leb-true floor c l) h) ∙ v.ranges.allowed c h z i))
      by-floor c z q false l h i = refl

      by-cell : (n : CellName) (z : ℤ) (q : Reader) (t : Bool) → is_declared D n ≡ t → T (in32 z) →
          require t 7 p (require (leb floor (cell_of D n)) 10 p (require (in_range D (cell_of D n) z) 13 p (give (item_of (cell_of D n) z)))) q ≡
          judged p floor w (pick t (Some (cell_of D n)) None) z q
      by-cell n z q true d i = by-floor (cell_of D n) z q (leb floor (cell_of D n)) refl (declared-cell D n d) i
      by-cell n z q false d i = refl

      by_value : (n : CellName) (x : Read ℤ) → Post (λ z q. T (in32 z)) x →
          and_then (λ z. require (is_declared D n) 7 p (require (leb floor (cell_of D n)) 10 p (require (in_range D (cell_of D n) z) 13 p (give (item_of (cell_of D n) z))))) x ≡
          and_then (judged p floor w (cell_in D n)) x
      by_value n (refused k q) i = refl
      by_value n (found z q) i = by-cell n z q (is_declared D n) refl (of-found i refl)

      by-colon : (n : CellName) (x : Read (Unit {0})) →
          and_then (λ u. value >>= λ z. require (is_declared D n) 7 p (require (leb floor (cell_of D n)) 10 p (require (in_range D (cell_of D n) z) 13 p (give (item_of (cell_of D n) z))))) x ≡
          and_then (λ u. value >>= judged p floor w (cell_in D n)) x
      by-colon n (refused k q) = refl
      by-colon n (found u q) = by_value n (value q) (value-post q)

      go : (x : Read CellName)
          → and_then (λ n. mark colon >> (value >>= λ z. require (is_declared D n) 7 p (require (leb floor (cell_of D n)) 10 p (require (in_range D (cell_of D n) z) 13 p (give (item_of (cell_of D n) z)))))) x
          ≡ and_then (λ n. after_name p floor w (cell_in D n)) x
      go (refused k q) = refl
      go (found n q) = by-colon n (mark colon q)

  pub item-cell : (i : Item) (r' : Reader) → found i r' ≡ item D floor r → (floor ≤ i.cell) × (i.cell < cells D)
  item-cell i r' e = go (name r) (e ∙ item-named)
    where
      go : (x : Read CellName) → found i r' ≡ and_then (λ n. after_name p floor w (cell_in D n)) x → (floor ≤ i.cell) × (i.cell < cells D)
      go (refused k q) e = contradiction cc
      go (found n q) e =
          let h = after-found p floor w (cell_in D n) q r' i e in
          (h.1, cell_below D n i.cell h.0)

-- a cell that the words have is within the limit
module _ {scalars arrays : ℕ} {w : Words} (a : Arranged scalars arrays w) where
  pub scalar_below : (n : ℕ) (c : Option ℕ) → c ≡ scalar_in scalars n → Below c
  unfolding scalar_in cells
  scalar_below n c e = rw e (go (ltb n scalars) refl)
    where
      go : (t : Bool) → ltb n scalars ≡ t → Below (pick t (Some n) None)
      go true l = omega (arith, ltb-true n scalars l, a.declares.scalar, a.declares.small)
      go false l = tt

  pub element-below : (b i : ℕ) (c : Option ℕ) → c ≡ element_in arrays w b i → Below c
  unfolding element_in
  element-below b i c e = rw e (by-array (ltb b arrays) refl)
    where
      by-element : b < arrays → (t : Bool) → ltb (first_at w b + i) (first_at w (b + 1)) ≡ t → Below (pick t (Some (first_at w b + i)) None)
      by-element l true f =
          let d = a.declares in
          omega (arith, ltb-true (first_at w b + i) (first_at w (b + 1)) f, d.held (b + 1) (omega (arith, l, d.few)), first-limit a.declared (b + 1), d.small)
      by-element l false f = tt

      by-array : (t : Bool) → ltb b arrays ≡ t →
          Below (pick t (pick (ltb (first_at w b + i) (first_at w (b + 1))) (Some (first_at w b + i)) None) None)
      by-array true f = by-element (ltb-true b arrays f) (ltb (first_at w b + i) (first_at w (b + 1))) refl
      by-array false f = tt

module _ (s : Bytes) (at floor : ℕ) {D : Declared} {scalars arrays : ℕ} {w : Words} (v : Vacant D scalars arrays floor w) where
  pub item_refused : {k p : ℕ} → refused k p ≡ held_names (name (line_at s at)) → refused k p ≡ item D floor (line_at s at)
  item_refused {k} {p} is =
      let q : name (line_at s at) ≡ refused k p = mapped-refused held_name k p (name (line_at s at)) is in
      rw (item-named v (line_at s at), q)

  -- by the cell that the words have, with y the rest of the item
  module _ {e : ℕ} {c : Option ℕ} {y : Read Item} (rest : y ≡ after_name at floor w c (line_at s e)) where
    by_name : (n : CellName) → found n (line_at s e) ≡ held_names (name (line_at s at)) → ((m : CellName) → held_name m ≡ n → c ≡ cell_in D m)
        → y ≡ item D floor (line_at s at)
    by_name n found_name same =
        let from = mapped-found held_name n (line_at s e) (name (line_at s at)) found_name in
        rest ∙ ap (λ (c : Option ℕ). after_name at floor w c (line_at s e)) (same from.origin from.made)
        ∙ ap (and_then (λ n. after_name at floor w (cell_in D n))) (sym from.is) ∙ sym (item-named v (line_at s at))

    pub item-scalar : {n : ℕ} → found (scalar n) (line_at s e) ≡ held_names (name (line_at s at)) → c ≡ scalar_in scalars n → y ≡ item D floor (line_at s at)
    item-scalar {n} is k = by_name (scalar n) is (λ m h. k ∙ held-scalar v.declares n m h)

    pub item-element : {a i : ℕ} → found (element a i) (line_at s e) ≡ held_names (name (line_at s at)) → c ≡ element_in arrays w a i →
        y ≡ item D floor (line_at s at)
    item-element {a} {i} is k = by_name (element a i) is (λ m h. k ∙ held-element v.declares a i m h)
