-- As the place in a sheet's tree moves on, what lies before it only grows: leaves, blocks past the skipped ones, their bytes, and the number of
-- leaves of each kind. Assumes nothing.
use Prim.Native.Nat.{ℕ, suc, ◌+◌, ◌-◌, ◌≤◌}
use native.Mathlib.Omega.{arith}
use mathlib.Core.Path.{◌≡◌, refl, sym, ◌∙◌, ap}
use mathlib.Core.Bool.{Bool, true, false}
use mathlib.Core.List.{List, [], ◌∷◌, ◌++◌}
use lib.ListN.{length, take, drop, length-append, length-take, take-append-drop}
use lib.Seq.{take-add}
use Rattle.specification.specs.Bytes.{pick}
use Rattle.specification.specs.Lines.{Declared}
use Rattle.specification.specs.Sheet.{Sheet}
use Rattle.specification.specs.Listing.{answer_head, error_head, Block, block_of, listing_text}
use Rattle.specification.specs.Leaves.{Leaf, answer, error, fail, leaves, is_answer, is_error, how_many, blocks}
use Rattle.specification.specs.Visits.{Event, node, leaf, Visit}
use Rattle.specification.specs.Outcome.{root_of, visits_of}
use Rattle.specification.specs.Demand2.{is_leaf, leaf_count, past, leaves_before, listed_before}
use Rattle.specification.proofs.Laws.Lists.{Begins}
use Rattle.specification.proofs.Laws.Blocks.{listing_text-++}
use Rattle.specification.proofs.Laws.Past.{past-++}

-- ---- lists joined

leaf_count-++ : (xs ys : List Visit) → leaf_count (xs ++ ys) ≡ leaf_count xs + leaf_count ys
unfolding leaf_count
leaf_count-++ [] ys = omega arith
leaf_count-++ (x ∷ xs) ys = omega (arith, leaf_count-++ xs ys)

how_many-++ : (f : Leaf → Bool) (ls ms : List Leaf) → how_many f (ls ++ ms) ≡ how_many f ls + how_many f ms
unfolding how_many
how_many-++ f [] ms = omega arith
how_many-++ f (l ∷ ls) ms = go (f l) (how_many-++ f ls ms)
  where
    go : (c : Bool) → how_many f (ls ++ ms) ≡ how_many f ls + how_many f ms →
        pick c (suc (how_many f (ls ++ ms))) (how_many f (ls ++ ms)) ≡ pick c (suc (how_many f ls)) (how_many f ls) + how_many f ms
    go true h = omega arith
    go false h = h

blocks-++ : (D : Declared) (a e : ℕ) (ls ms : List Leaf) → Begins (blocks D a e ls) (blocks D a e (ls ++ ms))
unfolding blocks
blocks-++ D a e [] ms = (blocks D a e ms, refl)
blocks-++ D a e (answer β ∷ ls) ms = let (more, h) = blocks-++ D (suc a) e ls ms in (more, ap (block_of D (answer_head (suc a)) β ∷◌) h)
blocks-++ D a e (error κ t β ∷ ls) ms = let (more, h) = blocks-++ D a (suc e) ls ms in (more, ap (block_of D (error_head (suc e) κ t) β ∷◌) h)
blocks-++ D a e (fail ∷ ls) ms = blocks-++ D a e ls ms

-- an answer and an error have a block each
pub blocks-count : (D : Declared) (a e : ℕ) (ls : List Leaf) → length (blocks D a e ls) ≡ how_many is_answer ls + how_many is_error ls
unfolding blocks how_many
blocks-count D a e [] = refl
blocks-count D a e (answer β ∷ ls) = omega (arith, blocks-count D (suc a) e ls)
blocks-count D a e (error κ t β ∷ ls) = omega (arith, blocks-count D a (suc e) ls)
blocks-count D a e (fail ∷ ls) = blocks-count D a e ls

-- ---- at most one leaf for each visit

leaf_count-few : (vs : List Visit) → leaf_count vs ≤ length vs
unfolding leaf_count
leaf_count-few [] = omega arith
leaf_count-few (v ∷ vs) = go v.event (leaf_count-few vs)
  where
    go : (e : Event) → leaf_count vs ≤ length vs → is_leaf e + leaf_count vs ≤ suc (length vs)
    go node h = omega arith
    go (leaf l) h = omega arith

how_many-few : (ls : List Leaf) → how_many is_answer ls + how_many is_error ls ≤ length ls
unfolding how_many
how_many-few [] = omega arith
how_many-few (answer β ∷ ls) = omega (arith, how_many-few ls)
how_many-few (error κ t β ∷ ls) = omega (arith, how_many-few ls)
how_many-few (fail ∷ ls) = omega (arith, how_many-few ls)

-- ---- before a later place

module _ (s : Sheet) where
  -- the blocks before a place, none skipped
  abbrev pub blocks_before : ℕ → List Block
  blocks_before n = blocks s.declared 0 0 (leaves_before s n)

  module _ (m n : ℕ) (later : m ≤ n) where
    -- the visits and the leaves between two places
    abbrev passed : List Visit
    passed = take (n - m) (drop m (visits_of s))

    abbrev new : List Leaf
    new = take (leaf_count passed) (drop (leaf_count (take m (visits_of s))) (leaves (root_of s)))

    leaves-grow : leaves_before s n ≡ leaves_before s m ++ new
    unfolding leaves_before
    leaves-grow =
        let first = take m (visits_of s) in
        let k : n ≡ m + (n - m) = omega arith in
        ap (λ i. take (leaf_count (take i (visits_of s))) (leaves (root_of s))) k ∙
        ap (λ vs. take (leaf_count vs) (leaves (root_of s))) (take-add m (n - m) (visits_of s)) ∙
        ap (λ i. take i (leaves (root_of s))) (leaf_count-++ first passed) ∙
        take-add (leaf_count first) (leaf_count passed) (leaves (root_of s))

    counts-are : (f : Leaf → Bool) → how_many f (leaves_before s n) ≡ how_many f (leaves_before s m) + how_many f new
    counts-are f = ap (how_many f) leaves-grow ∙ how_many-++ f (leaves_before s m) new

    pub counts-grow : (f : Leaf → Bool) → how_many f (leaves_before s m) ≤ how_many f (leaves_before s n)
    counts-grow f = omega (arith, counts-are f)

    -- by no more blocks than visits
    pub blocks-few : length (blocks_before n) ≤ length (blocks_before m) + (n - m)
    blocks-few =
        let few : length new ≤ n - m =
        omega (
          arith,
          length-take (leaf_count passed) (drop (leaf_count (take m (visits_of s))) (leaves (root_of s))),
          leaf_count-few passed,
          length-take (n - m) (drop m (visits_of s)),
        ) in
        omega (
          arith,
          few,
          how_many-few new,
          counts-are is_answer,
          counts-are is_error,
          blocks-count s.declared 0 0 (leaves_before s n),
          blocks-count s.declared 0 0 (leaves_before s m),
        )

    pub blocks-grow : Begins (blocks_before m) (blocks_before n)
    blocks-grow =
        let (more, h) = blocks-++ s.declared 0 0 (leaves_before s m) new in
        (more, ap (blocks s.declared 0 0) leaves-grow ∙ h)

    pub listed-grows : (skip : ℕ) → Begins (listed_before s skip m) (listed_before s skip n)
    unfolding listed_before
    listed-grows skip =
        let (bs, h) = blocks-grow in
        let (more, g) = past-++ skip (blocks_before m) bs in
        (more, ap (past skip) h ∙ g)

    pub bytes-grow : (skip : ℕ) → length (listing_text (listed_before s skip m)) ≤ length (listing_text (listed_before s skip n))
    bytes-grow skip =
        let (more, h) = listed-grows skip in
        omega (
          arith,
          ap (λ bs. length (listing_text bs)) h,
          ap length (listing_text-++ (listed_before s skip m) more),
          length-append (listing_text (listed_before s skip m)) (listing_text more),
        )

  -- and they are the first of the tree's
  pub listed-among : (skip n : ℕ) → Begins (listed_before s skip n) (past skip (blocks s.declared 0 0 (leaves (root_of s))))
  unfolding listed_before leaves_before
  listed-among skip n =
      let k = leaf_count (take n (visits_of s)) in
      let (bs, h) = blocks-++ s.declared 0 0 (leaves_before s n) (drop k (leaves (root_of s))) in
      let (more, g) = past-++ skip (blocks_before n) bs in
      (more, ap (λ ls. past skip (blocks s.declared 0 0 ls)) (sym (take-append-drop k (leaves (root_of s)))) ∙ ap (past skip) h ∙ g)
