-- What is written for a word by the token that it is, and the first word that rounds down. Assumes nothing.
use Prim.Native.Nat.{ℕ, ◌+◌, ◌≤◌, ◌<◌}
use native.Mathlib.Omega.{arith}
use native.Mathlib.Numerals.{add-one}
use mathlib.Core.Path.{◌≡◌, refl}
use mathlib.Core.Bool.{Bool, true, false}
use mathlib.Core.List.{[]}
use mathlib.Core.Option.{none, some as just}
use lib.ListN.{length, drop, drop_of_length-le}
use lib.Seq.{drop-cons}
use lib.Dec.{leb, ltb}
use borrow.Author.Tests.{ltb-true, leb-true, lt-ltb, le-ltb, le-leb, lt-leb, eq-eqb, ne_eqb}
use Rattle.specification.specs.Bytes.{Bytes, bytes, pick, between}
use Rattle.specification.proofs.Laws.Parser.{and-true}
use Rattle.tables.specs.Layout.{Words, max_tokens, code_at, operand_at, end_at}
use Rattle.tables.specs.Codes.{some_code, all_code, quo_code, rem_code, constant_code}
use Rattle.mover.specs.Model.{token_code, empty_at, stand_in, spelling, until_after, word_piece, rounds, rounding_place}
use Rattle.mover.specs.Steps.{kept}

-- ---- tokens

module _ (w : Words) (i : ℕ) where
  pub code_inside : i < max_tokens → token_code w i ≡ code_at w i
  unfolding token_code
  code_inside h = rw (lt-ltb i max_tokens h)

  pub code-beyond : max_tokens ≤ i → token_code w i ≡ 0
  unfolding token_code
  code-beyond h = rw (le-ltb i max_tokens h)

  -- a token that has a code is in the table
  pub inside : 0 < token_code w i → i < max_tokens
  unfolding token_code
  inside h = go (ltb i max_tokens) refl h
    where
      go : (t : Bool) → ltb i max_tokens ≡ t → 0 < pick t (code_at w i) 0 → i < max_tokens
      go true e k = ltb-true i max_tokens e
      go false e k = absurd (omega arith)

  -- ---- empty ranges

  pub empty-low : token_code w i < some_code → empty_at w i ≡ false
  unfolding empty_at
  empty-low h = rw (lt-leb some_code (token_code w i) h)

  module _ (lo : some_code ≤ token_code w i) where
    pub empty-high : all_code < token_code w i → empty_at w i ≡ false
    unfolding empty_at
    empty-high h = rw (le-leb some_code (token_code w i) lo, lt-leb (token_code w i) all_code h)

    module _ (hi : token_code w i ≤ all_code) where
      pub lower-other : (token_code w (i + 2) ≡ constant_code → ⊥) → empty_at w i ≡ false
      unfolding empty_at
      lower-other h =
          rw (
            le-leb some_code (token_code w i) lo,
            le-leb (token_code w i) all_code hi,
            ne_eqb (token_code w (i + 2)) constant_code h,
          )

      module _ (lower : token_code w (i + 2) ≡ constant_code) where
        pub upper-other : (token_code w (i + 3) ≡ constant_code → ⊥) → empty_at w i ≡ false
        unfolding empty_at
        upper-other h =
            rw (
              le-leb some_code (token_code w i) lo,
              le-leb (token_code w i) all_code hi,
              eq-eqb (token_code w (i + 2)) constant_code lower,
              ne_eqb (token_code w (i + 3)) constant_code h,
            )

        pub empty-bounds : token_code w (i + 3) ≡ constant_code → empty_at w i ≡ ltb (operand_at w (i + 3)) (operand_at w (i + 2))
        unfolding empty_at
        empty-bounds upper =
            rw (
              le-leb some_code (token_code w i) lo,
              le-leb (token_code w i) all_code hi,
              eq-eqb (token_code w (i + 2)) constant_code lower,
              eq-eqb (token_code w (i + 3)) constant_code upper,
            )

  pub empty-inside : empty_at w i ≡ true → i < max_tokens
  unfolding empty_at
  empty-inside e =
      let c = token_code w i in
      let q = and-true (between some_code all_code c) _ e in
      inside (omega (arith, leb-true some_code c (and-true (leb some_code c) (leb c all_code) q.0).0))

  -- ---- what is dropped

  module _ (until : ℕ) where
    pub until-within : i < until → until_after w i until ≡ until
    unfolding until_after
    until-within h = rw (lt-ltb i until h)

    pub until-empty : until ≤ i → empty_at w i ≡ true → until_after w i until ≡ end_at w i
    unfolding until_after
    until-empty h e = rw (le-ltb i until h, e)

    pub until-other : until ≤ i → empty_at w i ≡ false → until_after w i until ≡ until
    unfolding until_after
    until-other h e = rw (le-ltb i until h, e)

    -- ---- what is written

    module _ (newer : Bool) (letters : Bytes) where
      pub word-dropped : i < until → word_piece w newer i until letters ≡ []
      unfolding word_piece
      word-dropped h = rw (lt-ltb i until h)

      pub word-empty : until ≤ i → empty_at w i ≡ true → word_piece w newer i until letters ≡ stand_in w i
      unfolding word_piece
      word-empty h e = rw (le-ltb i until h, e)

      pub word-spelt : until ≤ i → empty_at w i ≡ false → (c : ℕ) → c ≡ token_code w i →
          word_piece w newer i until letters ≡ spelling newer c letters
      unfolding word_piece
      word-spelt h e c q = rw (le-ltb i until h, e, q)

  pub stand-some : token_code w i ≡ some_code → stand_in w i ≡ bytes "eq 0 1"
  unfolding stand_in
  stand-some h = rw (eq-eqb (token_code w i) some_code h)

  pub stand-all : (token_code w i ≡ some_code → ⊥) → stand_in w i ≡ bytes "true"
  unfolding stand_in
  stand-all h = rw (ne_eqb (token_code w i) some_code h)

module _ (newer : Bool) (c : ℕ) (letters : Bytes) where
  pub spelt-quo : c ≡ quo_code → spelling newer c letters ≡ pick newer (bytes "quo") (bytes "div")
  unfolding spelling
  spelt-quo h = rw (eq-eqb c quo_code h)

  pub spelt-rem : (c ≡ quo_code → ⊥) → c ≡ rem_code → spelling newer c letters ≡ pick newer (bytes "rem") (bytes "mod")
  unfolding spelling
  spelt-rem h k = rw (ne_eqb c quo_code h, eq-eqb c rem_code k)

  pub spelt-same : (c ≡ quo_code → ⊥) → (c ≡ rem_code → ⊥) → spelling newer c letters ≡ letters
  unfolding spelling
  spelt-same h k = rw (ne_eqb c quo_code h, ne_eqb c rem_code k)

module _ (i until : ℕ) (t : Bytes) where
  pub kept-none : i < until → kept i until t ≡ []
  kept-none h = rw (lt-ltb i until h)

  pub kept-all : until ≤ i → kept i until t ≡ t
  kept-all h = rw (le-ltb i until h)

-- ---- rounding down

module _ (s : Bytes) (i : ℕ) where
  pub rounding-none : length s ≤ i → rounding_place i (drop i s) ≡ none
  unfolding rounding_place
  rounding-none h = rw (drop_of_length-le s h)

  module _ (h : i < length s) where
    pub rounding-here : rounds (drop i s) ≡ true → rounding_place i (drop i s) ≡ just (i + 1)
    unfolding rounding_place
    rounding-here r = let e = drop-cons s i 0 h in rw (add-one, e) (rw (rw e at r))

    pub rounding-later : rounds (drop i s) ≡ false → rounding_place i (drop i s) ≡ rounding_place (i + 1) (drop (i + 1) s)
    unfolding rounding_place
    rounding-later r = let e = drop-cons s i 0 h in rw (add-one, e) (rw (rw e at r))
