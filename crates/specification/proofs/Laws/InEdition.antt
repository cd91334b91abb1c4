-- A sheet in another edition has the same run where its ranges there allow the same values: tree and blocks depend on nothing else that
-- changes, nor on the lines of procedures, since a call has its procedure's formula in it. A sheet without ranges, or with none narrower than 32
-- bits, keeps its values when it is moved up or down; and there is no narrower range exactly where the search for one finds none. Assumes
-- nothing.
use Prim.Native.Nat.{ℕ, zero, suc, ◌+◌}
use mathlib.Core.Path.{◌≡◌, refl, ◌∙◌, ap, fun_ext}
use mathlib.Core.Bool.{Bool, true, false}
use mathlib.Core.List.{List, [], ◌∷◌}
use mathlib.Core.Option.{none, some as just}
use lib.ListN.{length, replicate}
use lib.Dec.{T}
use lib.IntN.{ℤ, pos, negsuc}
use mir.Facts.{and_yes}
use Rattle.specification.specs.declared.Setting.{Setting}
use Rattle.specification.specs.declared.Tallies.{Tallies}
use Rattle.specification.specs.Lists.{Each}
use Rattle.specification.specs.Bytes.{Bytes, bytes, pick}
use Rattle.specification.specs.Number.{least, greatest}
use Rattle.specification.specs.Lines.{Range, Declared, everything, CellName, scalar, element, cells, first_of, length_of, cell_of, range_number, range_of, in_range}
use Rattle.specification.specs.Ast.{Term, constant, scalar_at, local_at, parameter, element_at, apply, Formula, truth, and, or, imp, neg, eq, compare, ex, some, all, call, Procedure}
use Rattle.specification.specs.Arithmetic.{eq_z}
use Rattle.specification.specs.Sheet.{with_procedures, Sheet}
use Rattle.specification.specs.Place.{cell, local, put}
use Rattle.specification.specs.Value.{empty, Valuation, Side, val, bare, err, element_side, side}
use Rattle.specification.specs.Outside.{gave}
use Rattle.specification.specs.Tree.{Rest, equate, done_inside, grow, tree_of}
use Rattle.specification.specs.Leaves.{answer, error, fail}
use Rattle.specification.specs.Listing.{Head, answer_head, error_head, cell_names, named_if, valued, block_of}
use Rattle.specification.specs.Visits.{Event, node, leaf, Visit}
use Rattle.specification.specs.Run.{Conditions, conditions, tallies, add_node, Run, going, stopped, block, arrive, visit, scan}
use Rattle.specification.specs.Outcome.{start, root_of, visits_of, run_of}
use Rattle.specification.specs.Text.{range_text, head_text}
use Rattle.specification.specs.Moves.{in_edition, range_count, raised, lowered, is_everything, narrow_at, narrow_in}
use Rattle.specification.proofs.Laws.Contradiction.{contradiction}
use Rattle.specification.proofs.Laws.Lists.{each-get_d}
use Rattle.specification.proofs.Laws.Range.{eq_z-eq}

-- ---- the same run: the two declarations differ in their edition, ranges and procedures alone

-- with other procedures, and the same formula
abbrev besides : List Procedure → Sheet → Sheet
besides Ps s = record { declared = with_procedures Ps s.declared; given = s.given; formula = s.formula }

module _ (edition : ℕ) (ranges : List Range) (Ps : List Procedure) (s : Sheet) where
  abbrev s' : Sheet
  s' = in_edition edition ranges (besides Ps s)

  abbrev D : Declared
  D = s.declared

  abbrev D' : Declared
  D' = s'.declared

  -- ---- terms

  element-alike : (α : Valuation) (a : ℕ) (x : Side) → element_side D' α a x ≡ element_side D α a x
  unfolding element_side first_of length_of
  element-alike α a (val (pos i)) = refl
  element-alike α a (val (negsuc i)) = refl
  element-alike α a (bare p) = refl
  element-alike α a (err κ) = refl

  side-alike : (α : Valuation) (t : Term) → side D' α t ≡ side D α t
  unfolding side
  side-alike α (constant z) = refl
  side-alike α (scalar_at c) = refl
  side-alike α (local_at l) = refl
  side-alike α (parameter n) = refl
  side-alike α (element_at a t) = rw (side-alike α t) (element-alike α a (side D α t))
  side-alike α (apply o t u) = rw (side-alike α t, side-alike α u)

  -- ---- blocks, and so the visits of one tree

  valued-alike : (β : Valuation) (ns : List CellName) → valued D' β ns ≡ valued D β ns
  unfolding valued cell_of first_of
  valued-alike β [] = refl
  valued-alike β (scalar n ∷ ns) = ap (named_if (scalar n) (β (cell n))) (valued-alike β ns)
  valued-alike β (element a e ∷ ns) = ap (named_if (element a e) (β (cell (first_of D a + e)))) (valued-alike β ns)

  block-alike : (h : Head) (β : Valuation) → block_of D' h β ≡ block_of D h β
  unfolding block_of cell_names
  block-alike h β = rw (valued-alike β (cell_names D))

  module _ (S : Setting) (size : ℕ) where
    abbrev C : Conditions
    C = conditions D S size

    abbrev C' : Conditions
    C' = conditions D' S size

    arrive-alike : (e : Event) (t : Tallies) (w : Bytes) → arrive C' e t w ≡ arrive C e t w
    unfolding arrive block
    arrive-alike node t w = refl
    arrive-alike (leaf fail) t w = refl
    arrive-alike (leaf (answer β)) t w = rw (block-alike (answer_head (suc t.answers)) β)
    arrive-alike (leaf (error kind token β)) t w = rw (block-alike (error_head (suc t.errors) kind token) β)

    scan-alike : (r : Run) (vs : List Visit) → scan C' r vs ≡ scan C r vs
    unfolding scan visit
    scan-alike r [] = refl
    scan-alike (going t w) (v ∷ vs) = rw (arrive-alike v.event (add_node t) w) (scan-alike (visit C v t w) vs)
    scan-alike (stopped e t w) (v ∷ vs) = refl

  -- ---- the tree

  module _ (same : (c : ℕ) (z : ℤ) → in_range D' c z ≡ in_range D c z) where
    equate-alike : (tok : ℕ) (x y : Side) (k : Rest) (α : Valuation) → equate D' tok x y k α ≡ equate D tok x y k α
    unfolding equate
    equate-alike tok (val x) (val y) k α = refl
    equate-alike tok (val x) (bare (cell c)) k α = rw (same c x)
    equate-alike tok (val x) (bare (local l)) k α = refl
    equate-alike tok (val x) (err κ) k α = refl
    equate-alike tok (bare (cell c)) (val y) k α = rw (same c y)
    equate-alike tok (bare (local l)) (val y) k α = refl
    equate-alike tok (bare p) (bare q) k α = refl
    equate-alike tok (bare p) (err κ) k α = refl
    equate-alike tok (err κ) y k α = refl

    grow-alike : (F : Formula) (k : Rest) (α : Valuation) → grow D' F k α ≡ grow D F k α
    unfolding grow done_inside gave cells
    grow-alike truth k α = refl
    grow-alike (eq tok t u) k α = rw (side-alike α t, side-alike α u, equate-alike tok (side D α t) (side D α u) k α)
    grow-alike (compare tok r t u) k α = rw (side-alike α t, side-alike α u)
    grow-alike (or F G) k α = rw (grow-alike F k α, grow-alike G k α)
    grow-alike (and F G) k α = rw (fun_ext (grow-alike G k), grow-alike F (λ β. grow D G k β) α)
    grow-alike (imp tok F G) k α = rw (fun_ext (grow-alike F (done_inside D F α)), fun_ext (grow-alike G k))
    grow-alike (neg tok F) k α = rw (fun_ext (grow-alike F (done_inside D F α)))
    grow-alike (ex l F) k α = rw (grow-alike F k (put α (local l) empty))
    grow-alike (some tok l t u F) k α = rw (side-alike α t, side-alike α u, fun_ext (grow-alike F k))
    grow-alike (all tok l t u F) k α = rw (side-alike α t, side-alike α u, fun_ext (λ h. fun_ext (grow-alike F h)))
    grow-alike (call K ts F) k α = rw (grow-alike F k α)

    tree-alike : (Fs : List Formula) (α : Valuation) → tree_of D' Fs α ≡ tree_of D Fs α
    unfolding tree_of
    tree-alike [] α = refl
    tree-alike (F ∷ Fs) α = rw (fun_ext (tree-alike Fs)) (grow-alike F (λ β. tree_of D Fs β) α)

    run-same : (S : Setting) (size : ℕ) → run_of s' S size ≡ run_of s S size
    unfolding run_of visits_of root_of
    run-same S size = rw (tree-alike (s.formula ∷ []) (start s.given)) (scan-alike S size (going (tallies 0 0 0 0) []) (visits_of s))

pub run-alike : (edition : ℕ) (ranges : List Range) (s : Sheet) →
    ((c : ℕ) (z : ℤ) → in_range (in_edition edition ranges s).declared c z ≡ in_range s.declared c z) →
    (S : Setting) (size : ℕ) → run_of (in_edition edition ranges s) S size ≡ run_of s S size
run-alike edition ranges s same = run-same edition ranges s.declared.procedures s same

pub procedures-alike : (Ps : List Procedure) (s : Sheet) (S : Setting) (size : ℕ) → run_of (besides Ps s) S size ≡ run_of s S size
unfolding in_range range_of range_number
procedures-alike Ps s = run-same s.declared.edition s.declared.ranges Ps s (λ c z. refl)

-- ---- the same values

-- each range is all of 32 bits
abbrev pub Wide : List Range → Type 0
Wide rs = Each (λ r. r ≡ everything) rs

pub replicate-all : (n : ℕ) → Wide (replicate n everything)
unfolding Each
replicate-all zero = tt
replicate-all (suc n) = (refl, replicate-all n)

-- such ranges differ only in how many they are
pub all_replicate : (rs : List Range) → Wide rs → rs ≡ replicate (length rs) everything
unfolding Each
all_replicate [] h = refl
all_replicate (r ∷ rs) h = rw h.0 (ap (everything ∷◌) (all_replicate rs h.1))

-- and then a cell may have every value of 32 bits, whether it has a range or not
pub everything-alike : (D : Declared) → Wide D.ranges → (c : ℕ) → range_of D c ≡ everything
unfolding range_of
everything-alike D h c = each-get_d (λ r. r ≡ everything) D.ranges (range_number D c) everything h refl

wide-ranges : (D E : Declared) → Wide D.ranges → Wide E.ranges → (c : ℕ) (z : ℤ) → in_range D c z ≡ in_range E c z
unfolding in_range
wide-ranges D E h k c z = rw (everything-alike D h c, everything-alike E k c)

pub raised-ranges : (s : Sheet) → s.declared.ranges ≡ [] → (c : ℕ) (z : ℤ) → in_range (raised s).declared c z ≡ in_range s.declared c z
unfolding Each
raised-ranges s e c z =
    wide-ranges (raised s).declared s.declared (replicate-all (range_count s.declared)) (rw e tt) c z

pub lowered-ranges : (s : Sheet) → Wide s.declared.ranges → (c : ℕ) (z : ℤ) → in_range (lowered s).declared c z ≡ in_range s.declared c z
unfolding Each
lowered-ranges s h c z = wide-ranges (lowered s).declared s.declared tt h c z

-- ---- no narrower range

everything-is : (r : Range) → T (is_everything r) → r ≡ everything
unfolding is_everything
everything-is r t =
    let (l, h) = and_yes (eq_z r.low least) (eq_z r.high greatest) t in
    let p = eq_z-eq r.low least l in let q = eq_z-eq r.high greatest h in
    ap (λ z. record { low = z; high = r.high }) p ∙ ap (λ z. record { low = least; high = z }) q

narrow_at-none : (p : ℕ) (rs : List Range) → narrow_at p rs ≡ none → Wide rs
unfolding narrow_at Each
narrow_at-none p [] e = tt
narrow_at-none p (r ∷ rs) e = go (is_everything r) refl e (narrow_at-none (p + length (range_text r) + 1) rs)
  where
    go : (b : Bool) → is_everything r ≡ b → pick b (narrow_at (p + length (range_text r) + 1) rs) (just p) ≡ none →
        (narrow_at (p + length (range_text r) + 1) rs ≡ none → Wide rs) → Wide (r ∷ rs)
    go true w e later = (everything-is r (rw w tt), later e)
    go false w e later = contradiction cc

none-narrow_at : (p : ℕ) (rs : List Range) → Wide rs → narrow_at p rs ≡ none
unfolding narrow_at is_everything Each
none-narrow_at p [] h = refl
none-narrow_at p (r ∷ rs) h = rw h.0 (none-narrow_at (p + length (range_text everything) + 1) rs h.1)

pub narrow-none : (s : Sheet) → narrow_in s ≡ none → Wide s.declared.ranges
unfolding narrow_in
narrow-none s e = narrow_at-none (length (head_text s.declared) + length (bytes "ranges=")) s.declared.ranges e

pub none-narrow : (s : Sheet) → Wide s.declared.ranges → narrow_in s ≡ none
unfolding narrow_in
none-narrow s h = none-narrow_at (length (head_text s.declared) + length (bytes "ranges=")) s.declared.ranges h
