-- What holds of the readers that others are put together from, and stays when they are put together, holds of each line's reader. First the
-- notion (Composed), then a law for each reader of specs/Lines.antt and specs/Given.antt, in their order. Assumes nothing.
use Prim.Native.Nat.{ℕ, zero, suc, ◌-◌}
use mathlib.Core.Path.{◌≡◌, refl}
use mathlib.Core.Bool.{Bool, true, false}
use mathlib.Core.List.{List, [], ◌∷◌}
use mathlib.Core.Option.{Option, none, some}
use lib.Dec.{leb, ltb}
use lib.IntN.{ℤ}
use lib.Signed.{le_z}
use Rattle.specification.specs.Bytes.{Bytes, bytes, pick, between, Class, feed, comma, colon, point, in_number}
use Rattle.specification.specs.Number.{natural, integer, in32}
use Rattle.specification.specs.Parser.{Parser, give, refuse, require, present, ◌>>=◌, ◌>>◌, here, sees, spells, mark, exactly, taken}
use Rattle.specification.specs.Lines.{index, count, value, line, Range, Declared, lengths, arrays_line, range, ranges, first_ranged, ranges_line, CellName, scalar, element, is_declared, cell_of, in_range}
use Rattle.specification.proofs.Laws.Parser.{refuses_with}
use Rattle.specification.specs.Given.{Item, scalar_name, element_name, name, item, items, given_line}

-- Q of a reader, where P holds of each place that is read from; a refusal has a number from 3 to 14
pub record Composed (P : ℕ → Type 0) (Q : (A : Type 0) → Parser A → Type 0) : Type 1 where
  pub give : (A : Type 0) (a : A) → Q A (give a)
  pub refuse : (A : Type 0) (n p : ℕ) → refuses_with n ≡ true → P p → Q A (refuse n p)
  pub bind : (A B : Type 0) (m : Parser A) (f : A → Parser B) → Q A m → ((a : A) → Q B (f a)) → Q B (m >>= f)
  pub here : (B : Type 0) (f : ℕ → Parser B) → ((p : ℕ) → P p → Q B (f p)) → Q B (here >>= f)
  pub sees : (c : Class) → Q Bool (sees c)
  pub spells : (k : ℕ) → Q Bool (spells (k ∷ []))
  pub mark : (c : Class) → Q (Unit {0}) (mark c)
  pub exactly : (n : ℕ) (k : Bytes) → refuses_with n ≡ true → Q (Unit {0}) (exactly n k)
  pub taken : (f : ℕ → Bool) → Q Bytes (taken f)

module _ {P : ℕ → Type 0} {Q : (A : Type 0) → Parser A → Type 0} (c : Composed P Q) where
  -- ---- ways to put readers together

  pub then : {A B : Type 0} {m : Parser A} {f : A → Parser B} → Q A m → ((a : A) → Q B (f a)) → Q B (m >>= f)
  then {A} {B} {m} {f} h k = c.bind A B m f h k

  module _ {A : Type 0} where
    pub require-by : (b : Bool) (n p : ℕ) {m : Parser A} → refuses_with n ≡ true → P p → Q A m → Q A (require b n p m)
    require-by true n p t i h = h
    require-by false n p t i h = c.refuse A n p t i

    present-by : (n p : ℕ) (o : Option A) → refuses_with n ≡ true → P p → Q A (present n p o)
    present-by n p none t i = c.refuse A n p t i
    present-by n p (some a) t i = c.give A a

    pub pick-by : (b : Bool) {m n : Parser A} → Q A m → Q A n → Q A (pick b m n)
    pick-by true h k = h
    pick-by false h k = k

  -- ---- the lines with one number, and that of arrays

  index-by : Q ℕ index
  unfolding index
  index-by =
      c.here ℕ (λ p. taken in_number >>= λ bs. present 4 p (natural bs)) λ p i.
      then (c.taken in_number) λ bs. present-by 4 p (natural bs) refl i

  pub count_by : (lo hi : ℕ) → Q ℕ (count lo hi)
  unfolding count
  count_by lo hi =
      c.here ℕ (λ p. index >>= λ n. require (between lo hi n) 4 p (give n)) λ p i.
      then index-by λ n. require-by (between lo hi n) 4 p refl i (c.give ℕ n)

  pub line-by : (k : Bytes) (lo hi : ℕ) → Q ℕ (line k lo hi)
  unfolding line
  line-by k lo hi = then (c.exactly 3 k refl) λ u. then (count_by lo hi) λ n. then (c.mark feed) λ u. c.give ℕ n

  lengths-by : (k left : ℕ) → Q (List ℕ) (lengths k left)
  unfolding lengths
  lengths-by zero left = c.here (List ℕ) (refuse 4) λ p i. c.refuse (List ℕ) 4 p refl i
  lengths-by (suc k) left =
      then (count_by 1 left) λ n.
      then (c.sees comma) λ more.
      then (pick-by more (then (c.mark comma) λ u. lengths-by k (left - n)) (c.give (List ℕ) [])) λ ns. c.give (List ℕ) (n ∷ ns)

  pub arrays-by : (scalars : ℕ) → Q (List ℕ) (arrays_line scalars)
  unfolding arrays_line
  arrays-by scalars =
      then (c.exactly 3 (bytes "arrays=") refl) λ u.
      then (c.sees feed) λ none.
      then (pick-by none (c.give (List ℕ) []) (lengths-by 16 (512 - scalars))) λ ns. then (c.mark feed) λ u. c.give (List ℕ) ns

  -- ---- ranges

  value-by : Q ℤ value
  unfolding value
  value-by =
      c.here ℤ (λ p. taken in_number >>= λ bs. present 4 p (integer bs) >>= λ z. require (in32 z) 4 p (give z)) λ p i.
      then (c.taken in_number) λ bs.
      then (present-by 4 p (integer bs) refl i) λ z. require-by (in32 z) 4 p refl i (c.give ℤ z)

  range-by : Q Range range
  unfolding range
  range-by =
      c.here Range (λ p. value >>= λ lo. mark colon >> (value >>= λ hi. require (le_z lo hi) 14 p (give (from lo hi)))) λ p i.
      then value-by λ lo.
      then (c.mark colon) λ u.
      then value-by λ hi.
      require-by (le_z lo hi) 14 p refl i (c.give Range (from lo hi))
    where
      from : ℤ → ℤ → Range
      from lo hi = record { low = lo; high = hi }

  ranges-of : (lead : Parser (Unit {0})) → Q (Unit {0}) lead → (k : ℕ) → Q (List Range) (ranges lead k)
  unfolding ranges
  ranges-of lead h zero = c.give (List Range) []
  ranges-of lead h (suc k) =
      then h λ u.
      then range-by λ r.
      then (ranges-of (mark comma) (c.mark comma) k) λ rs. c.give (List Range) (r ∷ rs)

  pub ranges-by : (edition k : ℕ) → Q (List Range) (ranges_line edition k)
  unfolding ranges_line
  ranges-by edition k =
      pick-by (ltb edition first_ranged) (c.give (List Range) [])
      (then (c.exactly 3 (bytes "ranges=") refl) λ u.
      then (ranges-of (give tt) (c.give (Unit {0}) tt) k) λ rs. then (c.mark feed) λ u. c.give (List Range) rs)

  -- ---- the given items

  name_by : Q CellName name
  unfolding name scalar_name element_name
  name_by =
      then (c.spells _) λ v.
      pick-by v (then (c.exactly 5 (bytes "v") refl) λ u. then index-by λ n. c.give CellName (scalar n))
      (then (c.exactly 5 (bytes "a") refl) λ u.
      then index-by λ a.
      then (c.mark point) λ u. then index-by λ e. c.give CellName (element a e))

  module _ (D : Declared) where
    item_by : (floor : ℕ) → Q Item (item D floor)
    unfolding item
    item_by floor =
        c.here Item
        (λ p. name >>= λ n. mark colon >> (value >>= λ z. require (is_declared D n) 7 p (require (leb floor (cell_of D n)) 10 p (require (in_range D (cell_of D n) z) 13 p (give (found n z)))))) λ p i.
        then name_by λ n.
        then (c.mark colon) λ u.
        then value-by λ z.
        require-by (is_declared D n) 7 p refl i (require-by (leb floor (cell_of D n)) 10 p refl i
        (require-by (in_range D (cell_of D n) z) 13 p refl i (c.give Item (found n z))))
      where
        found : CellName → ℤ → Item
        found n z = record { cell = cell_of D n; value = z }

    items-by : (k floor : ℕ) → Q (List Item) (items D k floor)
    unfolding items
    items-by zero floor = then (item_by floor) λ i. c.give (List Item) (i ∷ [])
    items-by (suc k) floor =
        then (item_by floor) λ i.
        then (c.sees comma) λ more.
        then (pick-by more (then (c.mark comma) λ u. items-by k (suc i.cell)) (c.give (List Item) [])) λ is. c.give (List Item) (i ∷ is)

    pub given_by : Q (List Item) (given_line D)
    unfolding given_line
    given_by =
        then (c.exactly 3 (bytes "given=") refl) λ u.
        then (c.sees feed) λ none.
        then (pick-by none (c.give (List Item) []) (items-by 512 0)) λ is. then (c.mark feed) λ u. c.give (List Item) is
