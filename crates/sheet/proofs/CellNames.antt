-- Laws of the names of given cells: a name is read with held indices, and the work words have its cell. Assumes nothing.
use Prim.Native.Nat.{ℕ, suc, ◌+◌, ◌<◌, ◌≤◌, min}
use mathlib.Core.Path.{◌≡◌, refl, sym, ap, ◌∙◌}
use mathlib.Core.Bool.{Bool, true, false}
use Rattle.std.specs.Prelude.{Option, Some, None}
use native.Mathlib.Numerals.{add-one}
use native.Mathlib.Omega.{arith}
use lib.Dec.{ltb}
use lib.ListN.{get_or, drop, get_or-eq_default}
use borrow.Author.Tests.{ltb-true, ltb-false, lt-ltb, le-ltb}
use Rattle.specification.specs.Bytes.{Bytes, bytes, pick, point, begins}
use Rattle.specification.specs.Parser.{Reader, Read, refused, found, Parser, and_then, ◌>>=◌, ◌>>◌, give, mark, exactly}
use Rattle.specification.specs.Lines.{index, Declared, cells, first_of, length_of, CellName, scalar, element, is_declared, cell_of}
use Rattle.specification.specs.Given.{scalar_name, element_name, name}
use Rattle.specification.proofs.Laws.Contradiction.{contradiction}
use Rattle.sheet.specs.Codes.{index_word}
use Rattle.sheet.specs.Reader.{line_at}
use Rattle.sheet.specs.Tables.{Words}
use Rattle.sheet.specs.Answers.{held_index}
use Rattle.sheet.specs.Items.{held_name, held_names, scalar_in, element_in, Declares}
use Rattle.sheet.proofs.Answers.{on_found, on_refused}
use Rattle.specification.proofs.Laws.Elements.{first_next, first-limit, scalar-declared, element-declared}
use Rattle.tables.specs.Layout.{max_cells, first_at}

-- ---- names: read with held indices

-- an index, held
abbrev held : Parser ℕ
held r = held_index (index r)

-- a step that is held, and then what is held
then-held : (f : ℕ → Parser CellName) (g : ℕ → Parser CellName) → ((n : ℕ) (r : Reader) → g (index_word n) r ≡ held_names (f n r)) →
    (x : Read ℕ) → and_then g (held_index x) ≡ held_names (and_then f x)
then-held f g h (refused k p) = refl
then-held f g h (found n r) = h n r

scalar_held : (r : Reader) → (exactly 5 (bytes "v") >> (held >>= λ n. give (scalar n))) r ≡ held_names (scalar_name r)
unfolding scalar_name
scalar_held r = by (exactly 5 (bytes "v") r)
  where
    by : (x : Read (Unit {0})) → and_then (λ u. held >>= λ n. give (scalar n)) x ≡ held_names (and_then (λ u. index >>= λ n. give (scalar n)) x)
    by (refused k p) = refl
    by (found u r) = then-held (λ n. give (scalar n)) (λ n. give (scalar n)) (λ n r. refl) (index r)

element_held : (r : Reader) →
    (exactly 5 (bytes "a") >> (held >>= λ a. mark point >> (held >>= λ i. give (element a i)))) r ≡ held_names (element_name r)
unfolding element_name
element_held r = by (exactly 5 (bytes "a") r)
  where
    by-point : (a : ℕ) (x : Read (Unit {0})) →
        and_then (λ u. held >>= λ i. give (element (index_word a) i)) x ≡ held_names (and_then (λ u. index >>= λ i. give (element a i)) x)
    by-point a (refused k p) = refl
    by-point a (found u r) = then-held (λ i. give (element a i)) (λ i. give (element (index_word a) i)) (λ i r. refl) (index r)

    by : (x : Read (Unit {0})) →
        and_then (λ u. held >>= λ a. mark point >> (held >>= λ i. give (element a i))) x ≡
        held_names (and_then (λ u. index >>= λ a. mark point >> (index >>= λ i. give (element a i))) x)
    by (refused k p) = refl
    by (found u r) = then-held (λ a. mark point >> (index >>= λ i. give (element a i))) (λ a. mark point >> (held >>= λ i. give (element a i)))
        (λ a r. by-point a (mark point r)) (index r)

-- of what the code's steps read
module _ (s : Bytes) (at : ℕ) where
  abbrev with-scalar : ℕ → Parser CellName
  with-scalar n = give (scalar n)

  pub scalar-no : {k p : ℕ} → refused k p ≡ exactly 5 (bytes "v") (line_at s at) → refused k p ≡ held_names (scalar_name (line_at s at))
  scalar-no h = sym (on_refused (λ u. held >>= with-scalar) h) ∙ scalar_held (line_at s at)

  module _ {from : ℕ} (begun : found tt (line_at s from) ≡ exactly 5 (bytes "v") (line_at s at)) where
    scalar-from : {x : Read ℕ} → x ≡ held_index (index (line_at s from)) → and_then with-scalar x ≡ held_names (scalar_name (line_at s at))
    scalar-from h = ap (and_then with-scalar) h ∙ sym (on_found (λ u. held >>= with-scalar) begun) ∙ scalar_held (line_at s at)

    pub scalar-refused : {k p : ℕ} → refused k p ≡ held_index (index (line_at s from)) → refused k p ≡ held_names (scalar_name (line_at s at))
    scalar-refused h = scalar-from h

    pub scalar-found : {n e : ℕ} → found n (line_at s e) ≡ held_index (index (line_at s from)) →
        found (scalar n) (line_at s e) ≡ held_names (scalar_name (line_at s at))
    scalar-found h = scalar-from h

  abbrev with-element : ℕ → ℕ → Parser CellName
  with-element a i = give (element a i)

  abbrev with-point : ℕ → Parser CellName
  with-point a = mark point >> (held >>= with-element a)

  pub element-no : {k p : ℕ} → refused k p ≡ exactly 5 (bytes "a") (line_at s at) → refused k p ≡ held_names (element_name (line_at s at))
  element-no h = sym (on_refused (λ u. held >>= with-point) h) ∙ element_held (line_at s at)

  module _ {from : ℕ} (begun : found tt (line_at s from) ≡ exactly 5 (bytes "a") (line_at s at)) where
    element-from : {x : Read ℕ} → x ≡ held_index (index (line_at s from)) → and_then with-point x ≡ held_names (element_name (line_at s at))
    element-from h = ap (and_then with-point) h ∙ sym (on_found (λ u. held >>= with-point) begun) ∙ element_held (line_at s at)

    pub element-refused : {k p : ℕ} → refused k p ≡ held_index (index (line_at s from)) → refused k p ≡ held_names (element_name (line_at s at))
    element-refused h = element-from h

    module _ {a e : ℕ} (array : found a (line_at s e) ≡ held_index (index (line_at s from))) where
      pub element-no-point : {k p : ℕ} → refused k p ≡ mark point (line_at s e) → refused k p ≡ held_names (element_name (line_at s at))
      element-no-point h = sym (on_refused (λ u. held >>= with-element a) h) ∙ element-from array

      module _ {q : ℕ} (pointed : found tt (line_at s q) ≡ mark point (line_at s e)) where
        element-last : {x : Read ℕ} → x ≡ held_index (index (line_at s q)) → and_then (with-element a) x ≡ held_names (element_name (line_at s at))
        element-last h = ap (and_then (with-element a)) h ∙ sym (on_found (λ u. held >>= with-element a) pointed) ∙ element-from array

        pub element-stops : {k p : ℕ} → refused k p ≡ held_index (index (line_at s q)) → refused k p ≡ held_names (element_name (line_at s at))
        element-stops h = element-last h

        pub element-found : {i c : ℕ} → found i (line_at s c) ≡ held_index (index (line_at s q)) →
            found (element a i) (line_at s c) ≡ held_names (element_name (line_at s at))
        element-found h = element-last h

module _ (s : Bytes) (at : ℕ) where
  pub name-scalar : begins (bytes "v") (drop at s) ≡ true → held_names (scalar_name (line_at s at)) ≡ held_names (name (line_at s at))
  unfolding name
  name-scalar h = rw h

  pub name-element : begins (bytes "v") (drop at s) ≡ false → held_names (element_name (line_at s at)) ≡ held_names (name (line_at s at))
  unfolding name
  name-element h = rw h

-- ---- cells

-- the number of a declared cell
abbrev pub cell_in : Declared → CellName → Option ℕ
cell_in D n = pick (is_declared D n) (Some (cell_of D n)) None

module _ (D : Declared) where
  below : (n : CellName) → is_declared D n ≡ true → cell_of D n < cells D
  unfolding is_declared cell_of
  below (scalar n) h = scalar-declared D n (ltb-true n D.scalars h)
  below (element a i) h = element-declared D a i (ltb-true i (length_of D a) h)

  -- a declared cell lies among the cells
  pub cell_below : (n : CellName) (c : ℕ) → cell_in D n ≡ Some c → c < cells D
  cell_below n c e = go (is_declared D n) refl e
    where
      go : (t : Bool) → is_declared D n ≡ t → pick t (Some (cell_of D n)) None ≡ Some c → c < cells D
      go true d e = let q : cell_of D n ≡ c = cc in omega (arith, below n d)
      go false d e = contradiction cc

module _ {D : Declared} {scalars arrays : ℕ} {w : Words} (d : Declares D scalars arrays w) where
  scalars-few : D.scalars ≤ max_cells
  unfolding cells
  scalars-few = omega (arith, d.small)

  length-few : (a : ℕ) → length_of D a ≤ max_cells
  length-few a = omega (arith, d.small, first_next D a, first-limit D (suc a))

  -- what the words have of an array
  module _ (a : ℕ) (l : a < arrays) where
    first-held : first_at w a ≡ first_of D a
    first-held = d.held a (omega (arith, d.few))

    end-held : first_at w (a + 1) ≡ first_of D a + length_of D a
    end-held = d.held (a + 1) (omega (arith, d.few)) ∙ rw (add-one a) (first_next D a)

  none-beyond : (b : ℕ) → arrays ≤ b → (j : ℕ) → ltb j (length_of D b) ≡ false
  unfolding length_of
  none-beyond b h j = le-ltb j (get_or D.arrays b 0) (omega (arith, get_or-eq_default D.arrays 0 {n = b} (omega (arith, d.many))))

  pub held-scalar : (n : ℕ) (c : CellName) → held_name c ≡ scalar n → scalar_in scalars n ≡ cell_in D c
  unfolding is_declared cell_of scalar_in
  held-scalar n (scalar m) e = go (ltb m D.scalars) refl
    where
      q : n ≡ min m 4294967295
      q = cc

      go : (t : Bool) → ltb m D.scalars ≡ t → scalar_in scalars n ≡ pick t (Some m) None
      go true h =
          let l : m < D.scalars = ltb-true m D.scalars h in
          let s : n ≡ m = omega (arith, q, scalars-few) in
          rw (lt-ltb n scalars (omega (arith, d.scalar)), s)
      go false h =
          let l : D.scalars ≤ m = ltb-false m D.scalars h in
          rw (le-ltb n scalars (omega (arith, q, scalars-few, d.scalar)))
  held-scalar n (element a i) e = contradiction cc

  pub held-element : (a i : ℕ) (c : CellName) → held_name c ≡ element a i → element_in arrays w a i ≡ cell_in D c
  unfolding is_declared cell_of element_in
  held-element a i (scalar m) e = contradiction cc
  held-element a i (element b j) e = by-array (ltb a arrays) refl
    where
      qa : a ≡ min b 4294967295
      qa = cc

      qi : i ≡ min j 4294967295
      qi = cc

      b-is : a < arrays → b ≡ a
      b-is l = omega (arith, qa, d.few)

      by_index : a < arrays → (t : Bool) → ltb j (length_of D b) ≡ t
          → pick (ltb (first_at w a + i) (first_at w (a + 1))) (Some (first_at w a + i)) None
          ≡ pick t (Some (first_of D b + j)) None
      by_index l true h =
          let k : j < length_of D b = ltb-true j (length_of D b) h in
          let m : j ≡ i = omega (arith, qi, length-few b) in
          let same : first_at w a + i ≡ first_of D b + j = omega (arith, first-held a l, ap (first_of D) (b-is l)) in
          rw (lt-ltb (first_at w a + i) (first_at w (a + 1)) (omega (arith, first-held a l, end-held a l, ap (length_of D) (b-is l))), same)
      by_index l false h =
          let k : length_of D b ≤ j = ltb-false j (length_of D b) h in
          rw (le-ltb (first_at w a + i) (first_at w (a + 1))
          (omega (arith, qi, length-few b, first-held a l, end-held a l, ap (length_of D) (b-is l))))

      by-array : (t : Bool) → ltb a arrays ≡ t
          → pick t (pick (ltb (first_at w a + i) (first_at w (a + 1))) (Some (first_at w a + i)) None) None
          ≡ pick (ltb j (length_of D b)) (Some (first_of D b + j)) None
      by-array true h = by_index (ltb-true a arrays h) (ltb j (length_of D b)) refl
      by-array false h = rw (none-beyond b (omega (arith, ltb-false a arrays h, qa, d.few)) j)

-- ---- an element's cell, by the words

module _ (arrays : ℕ) (w : Words) (a i : ℕ) where
  pub element-undeclared : arrays ≤ a → None ≡ element_in arrays w a i
  unfolding element_in
  element-undeclared h = rw (le-ltb a arrays h)

  pub element-out : a < arrays → first_at w (a + 1) ≤ first_at w a + i → None ≡ element_in arrays w a i
  unfolding element_in
  element-out h l = rw (lt-ltb a arrays h, le-ltb (first_at w a + i) (first_at w (a + 1)) l)

  pub element-in : a < arrays → (c : ℕ) → c ≡ first_at w a + i → c < first_at w (a + 1) → Some c ≡ element_in arrays w a i
  unfolding element_in
  element-in h c e l = rw (lt-ltb a arrays h, sym e, lt-ltb c (first_at w (a + 1)) l)
