-- A listing in parts (document 02, Five), over the places where runs of one sheet end. A run that does not end `output` ends at a place that
-- knows neither skip nor output size; what a run that does has listed, with what is listed past it, is what is listed where it began. And a run
-- with room for the block that is due next writes it. Assumes nothing.
use Prim.Native.Nat.{ℕ, suc, ◌+◌, ◌-◌, ◌≤◌, ◌<◌}
use native.Mathlib.Omega.{arith}
use mathlib.Core.Path.{◌≡◌, refl, sym, ◌∙◌, ap}
use mathlib.Core.List.{List, [], ◌∷◌, ◌++◌}
use lib.ListN.{length, length-append, length-drop}
use lib.Seq.{drop-append-le, drop_at}
use Rattle.specification.specs.declared.Tallies.{Tallies}
use Rattle.specification.specs.declared.End.{End}
use Rattle.specification.specs.declared.End.TheVariants.{Done, Spent, Path, Output}
use Rattle.specification.specs.Sheet.{Sheet}
use Rattle.specification.specs.Listing.{Block, block_text, listing_text}
use Rattle.specification.specs.Leaves.{leaves, blocks}
use Rattle.specification.specs.Run.{setting}
use Rattle.specification.specs.Outcome.{root_of}
use Rattle.specification.specs.Demand2.{leaf_count, past, leaves_before, listed_before, Ends, ReadLeftToRight}
use Rattle.specification.proofs.Laws.Lists.{Begins}
use Rattle.specification.proofs.Laws.Budget.{place-within}
use Rattle.specification.proofs.Laws.Places.{blocks_before, blocks-count, blocks-few, blocks-grow, listed-grows, bytes-grow, listed-among}

nil-of-length : {A : Type 0} (xs : List A) → length xs ≡ 0 → xs ≡ []
nil-of-length [] h = refl
nil-of-length (x ∷ xs) h = absurd (omega arith)

module _ (s : Sheet) (limit budget : ℕ) where
  -- a run with this path limit and budget
  abbrev Reads : ℕ → ℕ → End → Tallies → List Block → Type 0
  Reads skip size e t bs = ReadLeftToRight s (setting limit budget skip) size e t bs

  -- ---- a run that does not end `output`

  -- the condition of another end knows neither skip nor output size
  ends-alike : (k size k' size' n : ℕ) (e : End) → (¬ (e ≡ Output)) →
      Ends s (setting limit budget k) size e n → Ends s (setting limit budget k') size' e n
  ends-alike k size k' size' n Done other h = h
  ends-alike k size k' size' n Spent other h = h
  ends-alike k size k' size' n Path other h = h
  ends-alike k size k' size' n Output other h = absurd (other refl)

  -- so with room for what is listed before its place, at whatever skip, a run ends there, in the same way and with the same tallies
  pub ends_there : {k size : ℕ} {e : End} {t : Tallies} {bs : List Block} (r : Reads k size e t bs) → (¬ (e ≡ Output)) →
      (k' size' : ℕ) → length (listing_text (listed_before s k' r.place)) ≤ size' → Reads k' size' e t (listed_before s k' r.place)
  ends_there {k} {size} {e} r other k' size' room =
      record {
        place = r.place;
        blocks = refl;
        ends = ends-alike k size k' size' r.place e other r.ends;
        nowhere_before = before;
        nodes = r.nodes;
        answers = r.answers;
        errors = r.errors;
        fails = r.fails;
      }
    where
      before : (n : ℕ) → n < r.place → (f : End) → ¬ Ends s (setting limit budget k') size' f n
      before n l Done h = r.nowhere_before n l Done h
      before n l Spent h = r.nowhere_before n l Spent h
      before n l Path h = r.nowhere_before n l Path h
      before n l Output h = omega (arith, h.4, bytes-grow s (suc n) r.place l k')

  -- ---- a part

  module _ {k size : ℕ} {e : End} {t : Tallies} {bs : List Block} (p : Reads k size e t bs) (some : 0 < length bs) where
    -- it skipped k blocks and listed all others before its place
    all-before : k + length bs ≡ length (blocks_before s p.place)
    unfolding listed_before
    all-before = omega (arith, some, ap length p.blocks, length-drop k (blocks_before s p.place))

    -- so the next part's skip is the sum of two tallies
    pub skip-counted : t.answers + t.errors ≡ k + length bs
    unfolding listed_before
    skip-counted = omega (arith, p.answers, p.errors, all-before, blocks-count s.declared 0 0 (leaves_before s p.place))

    -- which is no more than the budget, since a visit adds one block at most
    pub skip-within : k + length bs ≤ budget
    unfolding leaves_before leaf_count blocks
    skip-within =
        let few : length (blocks_before s p.place) ≤ 0 + (p.place - 0) = blocks-few s 0 p.place (omega arith) in
        omega (arith, few, all-before, place-within s (setting limit budget k) size p)

    -- what it listed, with what is listed past it by a run that ends later, is what is listed past k
    pub joins : (n : ℕ) → p.place ≤ n → listed_before s k n ≡ bs ++ listed_before s (k + length bs) n
    unfolding listed_before
    joins n later =
        let first = blocks_before s p.place in
        let (more, grown) = blocks-grow s p.place n later in
        let others : past (k + length bs) (blocks_before s n) ≡ more =
        ap (past (k + length bs)) grown ∙ drop_at first more (k + length bs) (sym all-before) in
        ap (past k) grown ∙ drop-append-le k first more (omega (arith, all-before)) ∙ ap (◌++ more) (sym p.blocks) ∙ ap (bs ++◌) (sym others)

  -- a run that does not end `output` ends no earlier than one that does
  pub ends-later : {k size k' size' : ℕ} {e : End} {t u : Tallies} {bs cs : List Block} (p : Reads k size Output t bs) (q : Reads k' size' e u cs) →
      (¬ (e ≡ Output)) → p.place ≤ q.place
  ends-later {k} {size} {k'} {size'} {e} p q other =
      let not-before : ¬ (q.place < p.place) =
      λ l. p.nowhere_before q.place l e (ends-alike k' size' k size q.place e other q.ends) in
      omega (arith, not-before)

  -- ---- progress

  -- a run that ends `output` has a block due, and has written it if it had room for it
  pub due-written : {k size : ℕ} {t : Tallies} {bs : List Block} → Reads k size Output t bs →
      (b : Block) × Begins (b ∷ []) (past k (blocks s.declared 0 0 (leaves (root_of s)))) × (length (block_text b) ≤ size → Begins (b ∷ []) bs)
  unfolding listed_before listing_text
  due-written {k} {size} {t} {bs} p = go (listed_before s k (suc n)) refl
    where
      n : ℕ
      n = p.place

      -- the visit where the run ended adds one block at most, so the first is either listed or the one that finds no room
      first : (b : Block) (cs : List Block) → listed_before s k (suc n) ≡ b ∷ cs → length (block_text b) ≤ size →
          (xs : List Block) → bs ≡ xs → Begins (b ∷ []) bs
      first b cs h room [] none =
          let few = blocks-few s n (suc n) (omega arith) in
          let gone : cs ≡ [] = nil-of-length cs (omega (
            arith,
            few,
            ap length h,
            length-drop k (blocks_before s (suc n)),
            ap length (sym p.blocks ∙ none),
            length-drop k (blocks_before s n),
          )) in
          absurd (omega (arith, p.ends.4, room, ap (λ bs. length (listing_text bs)) (h ∙ ap (b ∷◌) gone), length-append (block_text b) []))
      first b cs h room (x ∷ xs) is =
          let (more, grown) = listed-grows s n (suc n) (omega arith) k in
          let same : b ∷ cs ≡ x ∷ (xs ++ more) = sym h ∙ grown ∙ ap (◌++ more) (sym p.blocks ∙ is) in
          let head : x ≡ b = cc in
          (xs, is ∙ ap (◌∷ xs) head)

      go : (cs : List Block) → listed_before s k (suc n) ≡ cs →
          (b : Block) × Begins (b ∷ []) (past k (blocks s.declared 0 0 (leaves (root_of s)))) × (length (block_text b) ≤ size → Begins (b ∷ []) bs)
      go [] h = absurd (omega (arith, p.ends.4, ap (λ cs. length (listing_text cs)) h))
      go (b ∷ cs) h =
          let (later, among) = listed-among s k (suc n) in
          (b, (cs ++ later, among ∙ ap (◌++ later) h), λ room. first b cs h room bs refl)
