-- The given line is the text of its items, and that text is read again in another edition that allows the same values: a cell's number
-- determines its name. Assumes nothing.
use Prim.Native.Nat.{ℕ, zero, suc, ◌+◌, ◌<◌}
use native.Mathlib.Omega.{arith}
use mathlib.Core.Path.{◌≡◌, refl, sym, ◌∙◌, ap}
use mathlib.Core.Bool.{Bool, true, false}
use mathlib.Core.List.{List, [], ◌∷◌, ◌++◌}
use lib.ListN.{length, take, get_or, get_or-append}
use lib.Dec.{leb}
use lib.IntN.{ℤ}
use borrow.Author.Tests.{ltb-true}
use Rattle.specification.specs.Bytes.{Bytes, bytes, pick, begins, feed, class_of, class_number, is_in}
use Rattle.specification.specs.Number.{printℤ}
use Rattle.specification.specs.Parser.{Reader, Parser, give, require, next}
use Rattle.specification.specs.Lines.{Range, Declared, CellName, scalar, element, sum, first_of, length_of, is_declared, cell_of, in_range}
use Rattle.specification.specs.Given.{Item, scalar_name, element_name, name, item, items, given_line}
use Rattle.specification.specs.Listing.{scalar_names, element_names, array_names, cell_names, cell_label, label_text}
use Rattle.specification.specs.Text.{led, parted, name_of, item_text, given_text}
use Rattle.specification.specs.Moves.{declared_in}
use Rattle.specification.proofs.Laws.Contradiction.{contradiction}
use Rattle.specification.proofs.Laws.Parser.{Post, holds, bind-post, require-post}
use Rattle.specification.proofs.Laws.Pieces.{Anything, NoNumber, Piece, give-piece, here-piece, look-piece, same-piece, bind-piece, then-piece, then-give, colon-piece, point-piece, exactly-piece, index-piece, value-piece, colon-ends, point-ends}
use Rattle.specification.proofs.Laws.LinePieces.{feed-number, ListPiece, list-piece, line_of}

-- ---- the name of a cell by its number

module _ {A : Type 0} where
  get_d_past : (xs ys : List A) (d : A) (i n : ℕ) → n ≡ length xs + i → get_or (xs ++ ys) n d ≡ get_or ys i d
  get_d_past [] ys d i n e = rw (let f : n ≡ i = omega (arith, e) in f)
  get_d_past (x ∷ xs) ys d i zero e = absurd (omega (arith, e))
  get_d_past (x ∷ xs) ys d i (suc n) e = get_d_past xs ys d i n (omega (arith, e))

length-scalars : (i n : ℕ) → length (scalar_names i n) ≡ n
unfolding scalar_names
length-scalars i zero = refl
length-scalars i (suc n) = ap suc (length-scalars (suc i) n)

length-elements : (a i n : ℕ) → length (element_names a i n) ≡ n
unfolding element_names
length-elements a i zero = refl
length-elements a i (suc n) = ap suc (length-elements a (suc i) n)

module _ (d : CellName) where
  scalar-at : (i n m c : ℕ) → m < n → c ≡ i + m → get_or (scalar_names i n) m d ≡ scalar c
  unfolding scalar_names
  scalar-at i zero m c h e = absurd (omega (arith, h))
  scalar-at i (suc n) zero c h e = ap scalar (omega (arith, e))
  scalar-at i (suc n) (suc m) c h e = scalar-at (suc i) n m c (omega (arith, h)) (omega (arith, e))

  element-at : (a i n m c : ℕ) → m < n → c ≡ i + m → get_or (element_names a i n) m d ≡ element a c
  unfolding element_names
  element-at a i zero m c h e = absurd (omega (arith, h))
  element-at a i (suc n) zero c h e = ap (element a) (omega (arith, e))
  element-at a i (suc n) (suc m) c h e = element-at a (suc i) n m c (omega (arith, h)) (omega (arith, e))

  -- element e of the a-th of these arrays, of which the first is the b-th
  array_at : (b : ℕ) (ns : List ℕ) (a e m c : ℕ) → e < get_or ns a 0 → m ≡ sum (take a ns) + e → c ≡ b + a →
      get_or (array_names b ns) m d ≡ element c e
  unfolding array_names sum
  array_at b [] a e m c h i j = absurd (omega (arith, h))
  array_at b (n ∷ ns) zero e m c h i j =
      let z : c ≡ b = omega (arith, j) in
      rw z
      (get_or-append (element_names b 0 n) (array_names (suc b) ns) d m (omega (arith, h, i, length-elements b 0 n))
      ∙ element-at b 0 n m e (omega (arith, h, i)) (omega (arith, i)))
  array_at b (n ∷ ns) (suc a) e m c h i j =
      get_d_past (element_names b 0 n) (array_names (suc b) ns) d (sum (take a ns) + e) m (omega (arith, i, length-elements b 0 n))
      ∙ array_at (suc b) ns a e (sum (take a ns) + e) c h refl (omega (arith, j))

module _ (D : Declared) where
  name-cell : (n : CellName) → is_declared D n ≡ true → name_of D (cell_of D n) ≡ n
  unfolding is_declared cell_of first_of length_of cell_names
  name-cell (scalar n) h =
      let l : n < D.scalars = ltb-true n D.scalars h in
      get_or-append (scalar_names 0 D.scalars) (array_names 0 D.arrays) (scalar 0) n (omega (arith, l, length-scalars 0 D.scalars))
      ∙ scalar-at (scalar 0) 0 D.scalars n n l (omega arith)
  name-cell (element a e) h =
      let l : e < get_or D.arrays a 0 = ltb-true e (get_or D.arrays a 0) h in
      let m = sum (take a D.arrays) in
      get_d_past (scalar_names 0 D.scalars) (array_names 0 D.arrays) (scalar 0) (m + e) (D.scalars + m + e)
      (omega (arith, length-scalars 0 D.scalars))
      ∙ array_at (scalar 0) 0 D.arrays a e (m + e) a l refl (omega arith)

-- ---- names

abbrev cell_text : CellName → Bytes
cell_text n = label_text (cell_label n)

name-piece : (r : Reader) → Post (λ n r'. Piece NoNumber name (cell_text n) n r r') (name r)
unfolding name scalar_name element_name label_text begins
name-piece r = go (begins (bytes "v") r.rest)
  where
    chosen : Bool → Parser CellName
    chosen v = pick v scalar_name element_name

    go : (v : Bool) → Post (λ n r'. Piece NoNumber name (cell_text n) n r r') (chosen v r)
    go true =
        bind-post (exactly-piece 5 (bytes "v") r) λ u r₁ h₁.
        bind-post (index-piece r₁) λ n r₂ h₂.
        holds (look-piece chosen (begins (bytes "v")) true (λ w e. refl) (bind-piece _ (λ w e. tt) h₁ (then-give scalar h₂)))
    go false =
        bind-post (exactly-piece 5 (bytes "a") r) λ u r₁ h₁.
        bind-post (index-piece r₁) λ a r₂ h₂.
        bind-post (point-piece r₂) λ u r₃ h₃.
        bind-post (index-piece r₃) λ e r₄ h₄.
        holds (look-piece chosen (begins (bytes "v")) false (λ w e. refl)
        (bind-piece _ (λ w e. tt) h₁ (bind-piece _ (λ w e. point-ends _) h₂ (bind-piece _ (λ w e. tt) h₃ (then-give (element a) h₄)))))

-- ---- items

-- in an edition with these ranges
module _ (D : Declared) (edition : ℕ) (ranges : List Range) where
  abbrev other : Declared
  other = declared_in edition ranges D

  module _ (keeps : (c : ℕ) (z : ℤ) → in_range D c z ≡ true → in_range other c z ≡ true) where
    item-piece : (floor : ℕ) (r : Reader) → Post (λ i r'. Piece NoNumber (item other floor) (item_text D i) i r r') (item D floor r)
    unfolding item item_text is_declared cell_of first_of length_of
    item-piece floor r =
        bind-post (name-piece r) λ n r₁ h₁.
        bind-post (colon-piece r₁) λ u r₂ h₂.
        bind-post (value-piece r₂) λ z r₃ h₃.
        require-post (is_declared D n) _ _ _ _ tt λ d.
        require-post (leb floor (cell_of D n)) _ _ _ _ tt λ e.
        require-post (in_range D (cell_of D n) z) _ _ _ _ tt λ i.
        let t : cell_text n ++ (bytes ":" ++ printℤ z) ≡ cell_text (name_of D (cell_of D n)) ++ (bytes ":" ++ printℤ z) =
        ap (λ (x : CellName). cell_text x ++ (bytes ":" ++ printℤ z)) (sym (name-cell D n d)) in
        holds (here-piece λ p. same-piece t
        (bind-piece _ (λ w k. colon-ends _) h₁ (bind-piece _ (λ w k. tt) h₂
        (then-piece (checked n p) h₃ (λ q w. rw (d, e, keeps (cell_of D n) z i))))))
      where
        -- the checks of a name and its value
        checked : CellName → ℕ → ℤ → Parser Item
        checked n p z =
            let c = cell_of D n in
            require (is_declared D n) 7 p (require (leb floor c) 10 p (require (in_range other c z) 13 p (give (record { cell = c; value = z }))))

    items-piece : (k floor : ℕ) (r : Reader) → Post (ListPiece (item_text D) (items other k floor) r) (items D k floor r)
    unfolding items parted led
    items-piece zero floor r =
        bind-post (item-piece floor r) λ i r₁ h.
        holds ((λ e. contradiction cc), bind-piece _ (λ w e. feed-number w e) h (give-piece (i ∷ []) r₁))
    items-piece (suc k) floor r =
        list-piece (item_text D) (item D floor) (item other floor) (λ i. items D k (suc i.cell)) (λ i. items other k (suc i.cell))
        (item-piece floor) (λ i r₁. items-piece k (suc i.cell) r₁) r

    item-feed : (i : Item) (w : Bytes) → next feed (item_text D i ++ w) ≡ false
    unfolding item_text label_text is_in class_number class_of
    item-feed i w = go (name_of D i.cell)
      where
        go : (n : CellName) → next feed ((cell_text n ++ (bytes ":" ++ printℤ i.value)) ++ w) ≡ false
        go (scalar n) = refl
        go (element a e) = refl

    pub given-piece : (r : Reader) → Post (λ is r'. Piece Anything (given_line other) (given_text D is) is r r') (given_line D r)
    unfolding given_line
    given-piece r = line_of (item_text D) (bytes "given=") (items D 512 0) (items other 512 0) (items-piece 512 0) item-feed r
