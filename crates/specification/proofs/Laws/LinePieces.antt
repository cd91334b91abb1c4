-- Each line before the procedures is the text of what it declares, and that text is read again. Assumes nothing.
use Prim.Native.Nat.{ℕ, zero, suc, ◌+◌, ◌-◌}
use native.Mathlib.Omega.{arith}
use mathlib.Core.Path.{◌≡◌, refl, sym, ◌∙◌, ap, subst}
use mathlib.Core.Bool.{Bool, true, false}
use mathlib.Core.List.{List, [], ◌∷◌, ◌++◌, append_assoc}
use lib.ListN.{length}
use lib.Dec.{ltb, eqb}
use lib.Signed.{le_z}
use Rattle.specification.specs.Lists.{Each}
use Rattle.specification.specs.Bytes.{Bytes, bytes, pick, between, feed, comma, begins, class_of, class_number, is_in, in_number}
use Rattle.specification.specs.Number.{in32, printℕ}
use Rattle.specification.specs.Parser.{Reader, found, Parser, give, require, ◌>>=◌, ◌>>◌, next, sees, mark, exactly, taken, key}
use Rattle.specification.specs.Lines.{count, line, Range, lengths, arrays_line, range, ranges, first_ranged, ranges_line}
use Rattle.specification.specs.Text.{led, parted, number_line, arrays_text, range_text, ranges_text}
use Rattle.specification.proofs.Laws.Contradiction.{contradiction}
use Rattle.specification.proofs.Laws.Parser.{Post, refusal, holds, map-post, bind-post, require-post, pick_post}
use Rattle.specification.proofs.Laws.LineReaders.{Composed}
use Rattle.specification.proofs.Laws.Print.{Lacks, printℕ-nonempty, printℕ-lacks}
use Rattle.specification.proofs.Laws.Canonical.{starts}
use Rattle.specification.proofs.Laws.Pieces.{is-in, at, Anything, NoNumber, Reads, Piece, give-reads, here_reads, give-piece, here-piece, look-piece, same-piece, bind-reads, bind-piece, then-reads, then-piece, then-give, feed-reads, comma-reads, colon-reads, feed-piece, comma-piece, colon-piece, exactly_reads, exactly-piece, count-reads, count-piece, value-reads, value-piece, feed-ends, comma-ends, colon-ends}

-- ---- a line with one number

pub line_reads : (k : Bytes) (lo hi n : ℕ) → between lo hi n ≡ true → (r : Reader) → Reads Anything (line k lo hi) (number_line k n) n r r
unfolding line
line_reads k lo hi n e r =
    bind-reads _ (λ w i. tt) (exactly_reads 3 k r)
    (bind-reads _ (λ w i. feed-ends w) (count-reads lo hi n e r) (then-reads _ (feed-reads r) (λ p w. refl)))

pub line-piece : (k : Bytes) (lo hi : ℕ) (r : Reader) →
    Post (λ n r'. Piece Anything (line k lo hi) (number_line k n) n r r') (line k lo hi r)
unfolding line
line-piece k lo hi r =
    bind-post (exactly-piece 3 k r) λ u r₁ h₁.
    bind-post (count-piece lo hi r₁) λ n r₂ h₂.
    bind-post (feed-piece r₂) λ u r₃ h₃.
    holds (bind-piece _ (λ w e. tt) h₁ (bind-piece _ (λ w e. feed-ends w) h₂ (then-give (λ u. n) h₃)))

-- ---- lists with commas between

-- a line feed comes next
abbrev Feed : Bytes → Type 0
Feed w = (v : Bytes) × (w ≡ 10 ∷ v)

pub feed-number : (w : Bytes) → Feed w → NoNumber w
feed-number w (v, e) = ap (starts in_number) e ∙ feed-ends v

feed-comma : (w : Bytes) → Feed w → next comma w ≡ false
unfolding is_in class_number class_of
feed-comma w (v, e) = ap (next comma) e

module _ {A : Type 0} (text : A → Bytes) where
  -- each after a comma
  led-number : (xs : List A) (w : Bytes) → Feed w → NoNumber (led (bytes ",") text xs ++ w)
  unfolding led
  led-number [] w e = feed-number w e
  led-number (x ∷ xs) w e = comma-ends _

  -- what begins with a comma, from the second on
  led-parted : (xs : List A) → ¬ (xs ≡ []) → bytes "," ++ parted (bytes ",") text xs ≡ led (bytes ",") text xs
  unfolding led parted
  led-parted [] n = absurd (n refl)
  led-parted (x ∷ xs) n = refl

  -- a list that is not empty
  abbrev pub ListPiece : Parser (List A) → Reader → List A → Reader → Type 0
  ListPiece q r xs r' = (¬ (xs ≡ [])) × Piece Feed q (parted (bytes ",") text xs) xs r r'

  -- one, and others after a comma
  abbrev more_of : Parser (List A) → A → Bool → Parser (List A)
  more_of rest x more = pick more (mark comma >> rest) (give []) >>= λ xs. give (x ∷ xs)

  abbrev listed : Parser A → (A → Parser (List A)) → Parser (List A)
  listed one rest = one >>= λ x. sees comma >>= λ more. more_of (rest x) x more

  cons-not : (x : A) (xs : List A) → ¬ (x ∷ xs ≡ [])
  cons-not x xs e = contradiction cc

  pub list-piece : (one one' : Parser A) (rest rest' : A → Parser (List A)) →
      ((r : Reader) → Post (λ x r₁. Piece NoNumber one' (text x) x r r₁) (one r)) →
      ((x : A) (r : Reader) → Post (ListPiece (rest' x) r) (rest x r)) →
      (r : Reader) → Post (ListPiece (listed one' rest') r) (listed one rest r)
  unfolding led parted is_in class_number class_of
  list-piece one one' rest rest' f g r = bind-post (f r) λ x r₁ h. go x r₁ h (next comma r₁.rest)
    where
      go : (x : A) (r₁ : Reader) → Piece NoNumber one' (text x) x r r₁ → (more : Bool) →
          Post (ListPiece (listed one' rest') r) (more_of (rest x) x more r₁)
      go x r₁ h true =
          bind-post {P = λ xs r₃. (¬ (xs ≡ [])) × Piece Feed (mark comma >> rest' x) (bytes "," ++ parted (bytes ",") text xs) xs r₁ r₃}
          (bind-post (comma-piece r₁) λ u r₂ k. map-post (λ xs r₃ (n, l). (n, bind-piece (λ u. rest' x) (λ w e. tt) k l)) (g x r₂)) λ xs r₃ (n, l).
          holds (
            cons-not x xs,
            bind-piece _ (λ w e. led-number xs w e) h
                (look-piece (more_of (rest' x) x) (next comma) true (λ w e. ap (λ (v : Bytes). next comma (v ++ w)) (sym (led-parted xs n)))
                (same-piece (led-parted xs n) (then-give (λ (ys : List A). x ∷ ys) l))),
          )
      go x r₁ h false =
          holds (
            cons-not x [],
            bind-piece _ (λ w e. feed-number w e) h
                (look-piece (more_of (rest' x) x) (next comma) false (λ w e. feed-comma w e) (give-piece (x ∷ []) r₁)),
          )

  -- a key, no list or one, and a line feed
  abbrev after-key : Parser (List A) → Bool → Parser (List A)
  after-key list none = pick none (give []) list >>= λ xs. mark feed >> give xs

  abbrev list_line : Bytes → Parser (List A) → Parser (List A)
  list_line k list = key k >> (sees feed >>= λ none. after-key list none)

  abbrev line_text : Bytes → List A → Bytes
  line_text k xs = k ++ (parted (bytes ",") text xs ++ bytes "\n")

  parted-feed : ((x : A) (w : Bytes) → next feed (text x ++ w) ≡ false) → (xs : List A) → ¬ (xs ≡ []) → (w : Bytes) →
      next feed ((parted (bytes ",") text xs ++ bytes "\n") ++ w) ≡ false
  unfolding parted
  parted-feed f [] n w = absurd (n refl)
  parted-feed f (x ∷ xs) n w =
      let t = led (bytes ",") text xs in
      ap (next feed) (append_assoc (text x ++ t) (bytes "\n") w ∙ append_assoc (text x) t (10 ∷ w)) ∙ f x _

  pub line_of : (k : Bytes) (list list' : Parser (List A)) → ((r : Reader) → Post (ListPiece list' r) (list r)) →
      ((x : A) (w : Bytes) → next feed (text x ++ w) ≡ false) →
      (r : Reader) → Post (λ xs r'. Piece Anything (list_line k list') (line_text k xs) xs r r') (list_line k list r)
  unfolding parted is_in class_number class_of
  line_of k list list' f g r = bind-post (exactly-piece 3 k r) λ u r₁ h. go r₁ h (next feed r₁.rest)
    where
      go : (r₁ : Reader) → Piece Anything (key k) k tt r r₁ → (none : Bool) →
          Post (λ xs r'. Piece Anything (list_line k list') (line_text k xs) xs r r') (after-key list none r₁)
      go r₁ h true =
          bind-post (feed-piece r₁) λ u r₂ l.
          holds (bind-piece _ (λ w e. tt) h (look-piece (after-key list') (next feed) true (λ w e. refl) (then-give (λ u. []) l)))
      go r₁ h false =
          bind-post (f r₁) λ xs r₂ (n, l).
          bind-post (feed-piece r₂) λ u r₃ m.
          holds (bind-piece _ (λ w e. tt) h
          (look-piece (after-key list') (next feed) false (λ w e. parted-feed g xs n w)
          (bind-piece _ (λ w e. (w, refl)) l (then-give (λ u. xs) m))))

-- ---- arrays

-- lengths with commas between
lengths-piece : (k left : ℕ) (r : Reader) → Post (ListPiece printℕ (lengths k left) r) (lengths k left r)
unfolding lengths
lengths-piece zero left r = refusal tt
lengths-piece (suc k) left r =
    list-piece printℕ (count 1 left) (count 1 left) (λ n. lengths k (left - n)) (λ n. lengths k (left - n)) (count-piece 1 left)
    (λ n r₁. lengths-piece k (left - n) r₁) r

-- a byte that is no line feed is of another class
no-feed : (b : ℕ) → eqb b 10 ≡ false → is_in feed b ≡ false
no-feed b e = go (is_in feed b) refl
  where
    go : (x : Bool) → is_in feed b ≡ x → x ≡ false
    go true h = let z : b ≡ 10 = is-in feed b h in contradiction cc
    go false h = refl

number-feed : (n : ℕ) (w : Bytes) → next feed (printℕ n ++ w) ≡ false
unfolding Each
number-feed n w = go (printℕ n) (printℕ-nonempty n) (printℕ-lacks 10 (λ d. omega (arith, d.0)) n)
  where
    go : (bs : Bytes) → ¬ (bs ≡ []) → Lacks 10 bs → next feed (bs ++ w) ≡ false
    go [] f h = absurd (f refl)
    go (b ∷ bs) f h = no-feed b h.0

pub arrays-piece : (scalars : ℕ) (r : Reader) → Post (λ ns r'. Piece Anything (arrays_line scalars) (arrays_text ns) ns r r') (arrays_line scalars r)
unfolding arrays_line
arrays-piece scalars r =
    line_of printℕ (bytes "arrays=") (lengths 16 (512 - scalars)) (lengths 16 (512 - scalars)) (lengths-piece 16 (512 - scalars)) number-feed r

-- ---- ranges

module _ (x : Range) (i : in32 x.low ≡ true) (j : in32 x.high ≡ true) (l : le_z x.low x.high ≡ true) where
  range-reads : (r : Reader) → Reads NoNumber range (range_text x) x r r
  unfolding range
  range-reads r =
      here_reads λ p.
      bind-reads _ (λ w e. colon-ends _) (value-reads x.low i r)
      (bind-reads _ (λ w e. tt) (colon-reads r) (then-reads _ (value-reads x.high j r) (λ q w. rw l)))

range-piece : (r : Reader) → Post (λ x r'. Piece NoNumber range (range_text x) x r r') (range r)
unfolding range
range-piece r =
    bind-post (value-piece r) λ lo r₁ h₁.
    bind-post (colon-piece r₁) λ u r₂ h₂.
    bind-post (value-piece r₂) λ hi r₃ h₃.
    require-post (le_z lo hi) _ _ _ _ tt λ e.
    holds (here-piece λ p.
    bind-piece _ (λ w k. colon-ends _) h₁
    (bind-piece _ (λ w k. tt) h₂
    (then-piece (λ z. require (le_z lo z) 14 p (give (record { low = lo; high = z }))) h₃ (λ q w. rw e))))

-- what a range must be to be read
pub record Sound (x : Range) : Type 0 where
  pub low : in32 x.low ≡ true
  pub high : in32 x.high ≡ true
  pub ordered : le_z x.low x.high ≡ true

abbrev led_ranges : List Range → Bytes
led_ranges rs = led (bytes ",") range_text rs

led-reads : (rs : List Range) → Each Sound rs → (r : Reader) → Reads Feed (ranges (mark comma) (length rs)) (led_ranges rs) rs r r
unfolding ranges led Each
led-reads [] h r = give-reads [] r
led-reads (x ∷ xs) h r =
    bind-reads _ (λ w e. tt) (comma-reads r)
    (bind-reads _ (λ w e. led-number range_text xs w e) (range-reads x h.0.low h.0.high h.0.ordered r)
    (then-reads _ (led-reads xs h.1 r) (λ p w. refl)))

parted-reads : (rs : List Range) → Each Sound rs → (r : Reader) → Reads Feed (ranges (give tt) (length rs)) (parted (bytes ",") range_text rs) rs r r
unfolding ranges parted Each
parted-reads [] h r = give-reads [] r
parted-reads (x ∷ xs) h r =
    bind-reads _ (λ w e. led-number range_text xs w e) (range-reads x h.0.low h.0.high h.0.ordered r)
    (then-reads _ (led-reads xs h.1 r) (λ p w. refl))

-- the line where the edition has it, and its text
abbrev ranges_after : ℕ → Parser (List Range)
ranges_after k = key (bytes "ranges=") >> (ranges (give tt) k >>= λ xs. mark feed >> give xs)

abbrev ranges_bytes : List Range → Bytes
ranges_bytes rs = bytes "ranges=" ++ (parted (bytes ",") range_text rs ++ bytes "\n")

-- the line of an edition is read from its text
pub ranges-reads : (edition k : ℕ) (rs : List Range) → length rs ≡ pick (ltb edition first_ranged) 0 k → Each Sound rs → (r : Reader) →
    Reads Anything (ranges_line edition k) (ranges_text edition rs) rs r r
unfolding ranges_line ranges_text
ranges-reads edition k rs n h r = go (ltb edition first_ranged) n
  where
    go : (b : Bool) → length rs ≡ pick b 0 k → Reads Anything (pick b (give []) (ranges_after k)) (pick b [] (ranges_bytes rs)) rs r r
    go true e = subst (λ (xs : List Range). Reads Anything (give []) [] xs r r) (sym (none rs e)) (give-reads [] r)
      where
        none : (xs : List Range) → length xs ≡ 0 → xs ≡ []
        none [] f = refl
        none (x ∷ xs) f = absurd (omega (arith, f))
    go false e =
        subst (λ (m : ℕ). Reads Anything (ranges_after m) (ranges_bytes rs) rs r r) e
        (bind-reads _ (λ w f. tt) (exactly_reads 3 (bytes "ranges=") r)
        (bind-reads _ (λ w f. (w, refl)) (parted-reads rs h r) (then-reads _ (feed-reads r) (λ p w. refl))))

-- and where it was read its text stands
led-piece : (k : ℕ) (r : Reader) → Post (λ rs r'. Piece Feed (ranges (mark comma) k) (led_ranges rs) rs r r') (ranges (mark comma) k r)
unfolding ranges led
led-piece zero r = holds (give-piece [] r)
led-piece (suc k) r =
    bind-post (comma-piece r) λ u r₁ h₁.
    bind-post (range-piece r₁) λ x r₂ h₂.
    bind-post (led-piece k r₂) λ xs r₃ h₃.
    holds (bind-piece _ (λ w e. tt) h₁ (bind-piece _ (λ w e. led-number range_text xs w e) h₂ (then-give (λ (ys : List Range). x ∷ ys) h₃)))

parted-piece : (k : ℕ) (r : Reader) →
    Post (λ rs r'. Piece Feed (ranges (give tt) k) (parted (bytes ",") range_text rs) rs r r') (ranges (give tt) k r)
unfolding ranges parted
parted-piece zero r = holds (give-piece [] r)
parted-piece (suc k) r =
    bind-post (range-piece r) λ x r₂ h₂.
    bind-post (led-piece k r₂) λ xs r₃ h₃.
    holds (bind-piece _ (λ w e. led-number range_text xs w e) h₂ (then-give (λ (ys : List Range). x ∷ ys) h₃))

pub ranges-piece : (edition k : ℕ) (r : Reader) →
    Post (λ rs r'. Piece Anything (ranges_line edition k) (ranges_text edition rs) rs r r') (ranges_line edition k r)
unfolding ranges_line ranges_text
ranges-piece edition k r = go (ltb edition first_ranged)
  where
    line-if : Bool → Parser (List Range)
    line-if b = pick b (give []) (ranges_after k)

    go : (b : Bool) → Post (λ rs r'. Piece Anything (line-if b) (pick b [] (ranges_bytes rs)) rs r r') (line-if b r)
    go true = holds (give-piece [] r)
    go false =
        bind-post (exactly-piece 3 (bytes "ranges=") r) λ u r₁ h₁.
        bind-post (parted-piece k r₁) λ xs r₂ h₂.
        bind-post (feed-piece r₂) λ u r₃ h₃.
        holds (bind-piece _ (λ w e. tt) h₁ (bind-piece _ (λ w e. (w, refl)) h₂ (then-give (λ u. xs) h₃)))

-- ---- readers that leave the tokens and the binders

abbrev pub Still : Reader → Reader → Type 0
Still r r' = (r.tokens ≡ r'.tokens) × (r.bound ≡ r'.bound)

abbrev pub Stays : (A : Type 0) → Parser A → Type 0
Stays A m = (r : Reader) → Post (λ a r'. Still r r') (m r)

pub stays : Composed (λ p. Unit {0}) Stays
unfolding mark exactly taken
stays = record {
  give = λ A a r. holds (refl, refl);
  refuse = λ A n p t i r. refusal tt;
  bind = λ A B m f h k r. bind-post (h r) λ a r₁ s. map-post (λ b r₂ u. (s.0 ∙ u.0, s.1 ∙ u.1)) (k a r₁);
  here = λ B f h r. h r.place tt r;
  sees = λ c r. holds (refl, refl);
  spells = λ k r. holds (refl, refl);
  mark = λ c r. pick_post (next c r.rest) _ _ (λ e. holds (refl, refl)) (λ e. refusal tt);
  exactly = λ n k t r. pick_post (begins k r.rest) _ _ (λ e. holds (refl, refl)) (λ e. refusal tt);
  taken = λ f r. holds (refl, refl);
}

-- readers with the same tokens and binders do as well
pub still-reads : {A : Type 0} {E : Bytes → Type 0} {q : Parser A} {t : Bytes} {a : A} {r r' : Reader} (x y : Reader) →
    Still x r → Still y r' → Reads E q t a r r' → Reads E q t a x y
still-reads {q = q} {t} {a} {r} {r'} x y s u h = record {
  is = λ p w e. ap q (still-at p (t ++ w) r x s) ∙ h.is p w e ∙ ap (found a) (sym (still-at (p + length t) w r' y u));
}
  where
    still-at : (p : ℕ) (w : Bytes) (r x : Reader) → Still x r → at p w x ≡ at p w r
    still-at p w r x s = rw (s.0, s.1)
