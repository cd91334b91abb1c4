-- Lines of formulas chunk by chunk: the first chunk at a place, what is written for it, and a bound of all that is written. Assumes nothing.
use Prim.Native.Nat.{ℕ, suc, ◌+◌, ◌-◌, ◌*◌, ◌≤◌, ◌<◌}
use native.Mathlib.Omega.{arith}
use native.Mathlib.Numerals.{add-one}
use mathlib.Core.Path.{◌≡◌, refl, sym, ap, ◌∙◌}
use mathlib.Core.Bool.{Bool, true, false, ◌||◌}
use mathlib.Core.List.{List, [], ◌∷◌, ◌++◌, append_assoc}
use lib.ListN.{length, get_or, take, drop, drop_of_length-le, length-append, length-drop}
use lib.Seq.{drop-cons, drop-drop, take-add}
use lib.Dec.{eqb, ltb}
use borrow.Author.Tests.{ltb-true, ltb-false}
use Rattle.specification.specs.Bytes.{Bytes, bytes, pick, run, begins}
use Rattle.tables.specs.Layout.{Words}
use Rattle.tables.specs.Codes.{some_code, quo_code, rem_code}
use Rattle.text.proofs.Laws.Run.{run-le, end-part}
use Rattle.mover.specs.Model.{Chunk, chunk, extended, in_word, chunks, is_key}
use Rattle.mover.specs.Model.{token_code, empty_at, stand_in, spelling, until_after, word_piece, mark_piece, rewritten}
use Rattle.mover.specs.Steps.{kept}

-- ---- the first chunk

-- its letters are the longest run of them, and its mark is the byte after them
chunks-first : (b : ℕ) (bs : Bytes) →
    let t = run in_word (b ∷ bs) in
    let rest = drop (length t) (b ∷ bs) in
    chunks (b ∷ bs) ≡ chunk t (take 1 rest) ∷ chunks (drop 1 rest)
unfolding chunks run
chunks-first b [] = go (in_word b)
  where
    go : (l : Bool) →
        let t = pick l (b ∷ []) [] in
        let rest = drop (length t) (b ∷ []) in
        pick l (extended b []) (chunk [] (b ∷ []) ∷ []) ≡ chunk t (take 1 rest) ∷ chunks (drop 1 rest)
    go true = refl
    go false = refl
chunks-first b (c ∷ bs) = go (in_word b) (chunks-first c bs)
  where
    go : (l : Bool) →
        let u = run in_word (c ∷ bs) in
        let later = drop (length u) (c ∷ bs) in
        let t = pick l (b ∷ u) [] in
        let rest = drop (length t) (b ∷ c ∷ bs) in
        let cs = chunks (c ∷ bs) in
        cs ≡ chunk u (take 1 later) ∷ chunks (drop 1 later) →
        pick l (extended b cs) (chunk [] (b ∷ []) ∷ cs) ≡ chunk t (take 1 rest) ∷ chunks (drop 1 rest)
    go true e = ap (λ cs. extended b cs) e
    go false e = refl

-- one byte, unless there is none
one-≤ : (bs : Bytes) → length (take 1 bs) ≤ length bs
one-≤ [] = omega arith
one-≤ (b ∷ bs) = omega arith

one-some : (bs : Bytes) → 0 < length bs → length (take 1 bs) ≡ 1
one-some [] h = absurd (omega arith)
one-some (b ∷ bs) h = refl

one-take : (bs : Bytes) → take (length (take 1 bs)) bs ≡ take 1 bs
one-take [] = refl
one-take (b ∷ bs) = refl

one-drop : (bs : Bytes) → drop (length (take 1 bs)) bs ≡ drop 1 bs
one-drop [] = refl
one-drop (b ∷ bs) = refl

-- the place after the mark at a place
module _ (s : Bytes) (at : ℕ) where
  pub mark-none : length s ≤ at → at ≡ at + length (take 1 (drop at s))
  mark-none h = omega (arith, one-≤ (drop at s), length-drop at s)

  pub mark-some : at < length s → at + 1 ≡ at + length (take 1 (drop at s))
  mark-some h = omega (arith, one-some (drop at s) (omega (arith, length-drop at s)))

-- a key of one byte is seen in the mark
begins-one : (k : ℕ) (bs : Bytes) → begins (k ∷ []) (take 1 bs) ≡ begins (k ∷ []) bs
unfolding begins
begins-one k [] = refl
begins-one k (b ∷ bs) = refl

-- the bytes from a up to b
abbrev pub part : ℕ → ℕ → Bytes → Bytes
part a b s = take (b - a) (drop a s)

-- the word or key at i ends at e, and its mark at next
pub record ChunkAt (s : Bytes) (i e next : ℕ) : Type 0 where
  pub inside : i < length s
  pub word : e ≡ i + length (run in_word (drop i s))
  pub mark : next ≡ e + length (take 1 (drop e s))

module _ {s : Bytes} {i e next : ℕ} (c : ChunkAt s i e next) where
  pub chunk-places : (i ≤ e) × (e ≤ next) × (next ≤ length s)
  chunk-places =
      let r = run-le in_word (drop i s) in
      let l = length-drop i s in
      let m = length-drop e s in
      (omega (arith, c.word), omega (arith, c.mark), omega (arith, c.inside, c.word, c.mark, one-≤ (drop e s), r, l, m))

  -- a chunk is of one byte at least
  pub chunk-some : i < next
  chunk-some = go (ltb e (length s)) refl
    where
      go : (t : Bool) → ltb e (length s) ≡ t → i < next
      go true q =
          omega (arith, c.word, c.mark, one-some (drop e s) (omega (arith, ltb-true e (length s) q, length-drop e s)))
      go false q = omega (arith, c.inside, c.mark, ltb-false e (length s) q)

  letters-run : part i e s ≡ run in_word (drop i s)
  letters-run = end-part in_word s i e c.word

  mark-one : part e next s ≡ take 1 (drop e s)
  mark-one =
      let q : next - e ≡ length (take 1 (drop e s)) = omega (arith, c.mark) in
      ap (λ (n : ℕ). take n (drop e s)) q ∙ one-take (drop e s)

  -- both together
  chunk_whole : part i e s ++ part e next s ≡ part i next s
  chunk_whole =
      let q : next - i ≡ e - i + (next - e) = omega (arith, chunk-places.0, chunk-places.1) in
      let d : i + (e - i) ≡ e = omega (arith, chunk-places.0) in
      sym (ap (λ (n : ℕ). take n (drop i s)) q ∙ take-add (e - i) (next - e) (drop i s)
      ∙ ap (λ (x : Bytes). part i e s ++ take (next - e) x) (drop-drop (e - i) i s ∙ ap (λ (n : ℕ). drop n s) d))

  chunks-at : chunks (drop i s) ≡ chunk (part i e s) (part e next s) ∷ chunks (drop next s)
  chunks-at =
      first (drop i s) (drop-cons s i 0 c.inside)
      ∙ ap (λ (d : Bytes). chunk (run in_word (drop i s)) (take 1 d) ∷ chunks (drop 1 d)) rest
      ∙ rw (sym letters-run, sym mark-one, after)
    where
      first : (bs : Bytes) → bs ≡ get_or s i 0 ∷ drop (suc i) s →
          let later = drop (length (run in_word bs)) bs in
          chunks bs ≡ chunk (run in_word bs) (take 1 later) ∷ chunks (drop 1 later)
      first bs q = rw q (chunks-first (get_or s i 0) (drop (suc i) s))

      rest : drop (length (run in_word (drop i s))) (drop i s) ≡ drop e s
      rest = drop-drop (length (run in_word (drop i s))) i s ∙ ap (λ (n : ℕ). drop n s) (sym c.word)

      after : drop 1 (drop e s) ≡ drop next s
      after =
          sym (one-drop (drop e s)) ∙ drop-drop (length (take 1 (drop e s))) e s ∙ ap (λ (n : ℕ). drop n s) (sym c.mark)

  pub key-at : is_key (chunk (part i e s) (part e next s)) ≡ (begins (bytes "=") (drop e s) || begins (bytes ":") (drop e s))
  unfolding is_key
  key-at = rw (mark-one, begins-one 61 (drop e s), begins-one 58 (drop e s))

  -- ---- what is written for it, and for those after it

  module _ (w : Words) (newer : Bool) (j until : ℕ) where
    pub key_more : is_key (chunk (part i e s) (part e next s)) ≡ true →
        rewritten w newer j until (chunks (drop i s)) ≡ part i next s ++ rewritten w newer j until (chunks (drop next s))
    unfolding rewritten
    key_more k =
        let later = rewritten w newer j until (chunks (drop next s)) in
        rw (chunks-at, k)
        (sym (append_assoc (part i e s) (part e next s) later) ∙ ap (λ (x : Bytes). x ++ later) chunk_whole)

    pub word_more : is_key (chunk (part i e s) (part e next s)) ≡ false → (j' until' : ℕ) → j' ≡ j + 1 → until' ≡ until_after w j until →
        rewritten w newer j until (chunks (drop i s))
        ≡ word_piece w newer j until (part i e s) ++ (kept j' until' (part e next s) ++ rewritten w newer j' until' (chunks (drop next s)))
    unfolding rewritten mark_piece
    word_more k j' until' q u = rw (chunks-at, k, q, u, add-one)

module _ (w : Words) (newer : Bool) where
  pub rewritten-none : (s : Bytes) (i j until : ℕ) → length s ≤ i → rewritten w newer j until (chunks (drop i s)) ≡ []
  unfolding chunks rewritten
  rewritten-none s i j until h = rw (drop_of_length-le s h)

  -- ---- a bound of the length

  -- the longest that stands for an empty range
  abbrev stand_long : ℕ
  stand_long = length (bytes "eq 0 1")

  stand-≤ : (i : ℕ) → length (stand_in w i) ≤ stand_long
  unfolding stand_in
  stand-≤ i = go (eqb (token_code w i) some_code)
    where
      go : (t : Bool) → length (pick t (bytes "eq 0 1") (bytes "true")) ≤ stand_long
      go true = omega arith
      go false = omega arith

  spelling-≤ : (c : ℕ) (t : Bytes) → length (spelling newer c t) ≤ stand_long + length t
  unfolding spelling
  spelling-≤ c t = go (eqb c quo_code) (eqb c rem_code) newer
    where
      go : (q r n : Bool) →
          length (pick q (pick n (bytes "quo") (bytes "div")) (pick r (pick n (bytes "rem") (bytes "mod")) t)) ≤ stand_long + length t
      go true r true = omega arith
      go true r false = omega arith
      go false true true = omega arith
      go false true false = omega arith
      go false false n = omega arith

  word-≤ : (i until : ℕ) (t : Bytes) → length (word_piece w newer i until t) ≤ stand_long + length t
  unfolding word_piece
  word-≤ i until t = go (ltb i until) (empty_at w i)
    where
      go : (d e : Bool) → length (pick d [] (pick e (stand_in w i) (spelling newer (token_code w i) t))) ≤ stand_long + length t
      go true e = omega arith
      go false true = omega (arith, stand-≤ i)
      go false false = spelling-≤ (token_code w i) t

  mark-≤ : (i until : ℕ) (m : Bytes) → length (mark_piece w i until m) ≤ length m
  unfolding mark_piece
  mark-≤ i until m = go (ltb (suc i) (until_after w i until))
    where
      go : (d : Bool) → length (pick d [] m) ≤ length m
      go true = omega arith
      go false = omega arith

  abbrev weight : List Chunk → ℕ
  weight [] = 0
  weight (c ∷ cs) = stand_long + length c.letters + length c.mark + weight cs

  weight-≤ : (i until : ℕ) (cs : List Chunk) → length (rewritten w newer i until cs) ≤ weight cs
  unfolding rewritten
  weight-≤ i until [] = omega arith
  weight-≤ i until (c ∷ cs) = go (is_key c) (weight-≤ i until cs) (weight-≤ (suc i) (until_after w i until) cs)
    where
      both : (x y r : Bytes) → length x ≤ stand_long + length c.letters → length y ≤ length c.mark → length r ≤ weight cs →
          length (x ++ (y ++ r)) ≤ weight (c ∷ cs)
      both x y r h k l = omega (arith, length-append x (y ++ r), length-append y r)

      go : (t : Bool) →
          let same = rewritten w newer i until cs in
          let later = rewritten w newer (suc i) (until_after w i until) cs in
          length same ≤ weight cs → length later ≤ weight cs →
          length (pick t (c.letters ++ (c.mark ++ same)) (word_piece w newer i until c.letters ++ (mark_piece w i until c.mark ++ later)))
          ≤ weight (c ∷ cs)
      go true h k = both c.letters c.mark (rewritten w newer i until cs) (omega arith) (omega arith) h
      go false h k =
          both (word_piece w newer i until c.letters) (mark_piece w i until c.mark) (rewritten w newer (suc i) (until_after w i until) cs)
          (word-≤ i until c.letters) (mark-≤ i until c.mark) k

  -- each chunk has a byte at least
  weight-chunks : (bs : Bytes) → weight (chunks bs) ≤ suc stand_long * length bs
  unfolding chunks
  weight-chunks [] = omega arith
  weight-chunks (b ∷ bs) = go (in_word b) (chunks bs) (weight-chunks bs)
    where
      go : (t : Bool) (cs : List Chunk) → weight cs ≤ suc stand_long * length bs →
          weight (pick t (extended b cs) (chunk [] (b ∷ []) ∷ cs)) ≤ suc stand_long * suc (length bs)
      go true [] h = omega arith
      go true (c ∷ cs) h = omega arith
      go false cs h = omega arith

  -- at most seven bytes for one
  pub rewritten-≤ : (i until : ℕ) (bs : Bytes) → length (rewritten w newer i until (chunks bs)) ≤ 7 * length bs
  rewritten-≤ i until bs = omega (arith, weight-≤ i until (chunks bs), weight-chunks bs)
