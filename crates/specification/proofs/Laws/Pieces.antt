-- A piece of a sheet: the bytes that a reader reads are the text of what it gives, and another reader, that of the same sheet in another
-- edition, reads this text as the same. First the notion, then a law for each way in which readers are put together and for
-- the readers that others are put together from. Assumes nothing.
use Prim.Native.Nat.{ℕ, ◌+◌}
use native.Mathlib.Omega.{arith}
use mathlib.Core.Path.{◌≡◌, refl, sym, ◌∙◌, ap, subst}
use mathlib.Core.Bool.{Bool, true, false}
use mathlib.Core.List.{[], ◌∷◌, ◌++◌, append_assoc}
use lib.ListN.{length, drop, length-append}
use lib.Dec.{eqb, eqb_refl}
use lib.IntN.{ℤ}
use lib.Seq.{drop-append_seam}
use borrow.Author.Tests.{eqb-true}
use Rattle.specification.specs.Bytes.{Bytes, pick, between, Class, letter, digit, space, feed, minus, equals, comma, colon, point, other, class_of, class_number, is_in, in_number, run, begins}
use Rattle.specification.specs.Number.{natural, integer, in32, printℕ, printℤ}
use Rattle.specification.specs.Parser.{Reader, found, Parser, give, require, and_then, ◌>>=◌, past, here, next, mark, exactly, taken}
use Rattle.specification.specs.Lines.{index, count, value}
use Rattle.specification.proofs.Laws.Contradiction.{contradiction}
use Rattle.specification.proofs.Laws.Parser.{T_true, and-true, Post, refusal, holds, bind-post, require-post, present-post, pick_post}
use Rattle.specification.proofs.Laws.Print.{natural-printℕ, integer-printℤ}
use Rattle.specification.proofs.Laws.Canonical.{starts, natural-canonical, integer-canonical, run-split, run-whole, printℕ-number, printℤ-number}

-- ---- pieces

-- a reader at this place before these bytes, with the tokens and the binders that r has
abbrev pub at : ℕ → Bytes → Reader → Reader
at p w r = record { place = p; rest = w; tokens = r.tokens; bound = r.bound }

-- whatever comes next
abbrev pub Anything : Bytes → Type 0
Anything w = Unit {0}

-- what comes next is no byte of a number
abbrev pub NoNumber : Bytes → Type 0
NoNumber w = starts in_number w ≡ false

module _ {A : Type 0} where
  -- before bytes that end it, the reader q gives a for t, wherever that stands: from the tokens and binders of r to those of r'
  pub record Reads (Ends : Bytes → Type 0) (q : Parser A) (t : Bytes) (a : A) (r r' : Reader) : Type 0 where
    pub is : (p : ℕ) (w : Bytes) → Ends w → q (at p (t ++ w) r) ≡ found a (at (p + length t) w r')

  -- the bytes t stand between the readers r and r', and q reads them
  pub record Piece (Ends : Bytes → Type 0) (q : Parser A) (t : Bytes) (a : A) (r r' : Reader) : Type 0 where
    pub rest : r.rest ≡ t ++ r'.rest
    pub again : Reads Ends q t a r r'

-- ---- how readers are put together

module _ {A : Type 0} {E : Bytes → Type 0} where
  pub give-reads : (a : A) (r : Reader) → Reads E (give a) [] a r r
  give-reads a r = record { is = λ p w h. ap (λ (n : ℕ). found a (at n w r)) (omega arith) }

  pub here_reads : {f : ℕ → Parser A} {t : Bytes} {a : A} {r r' : Reader} → ((p : ℕ) → Reads E (f p) t a r r') → Reads E (here >>= f) t a r r'
  here_reads h = record { is = λ p w e. (h p).is p w e }

  -- what a look ahead finds is there again
  pub look-reads : {t : Bytes} {a : A} {r r' : Reader} (f : Bool → Parser A) (g : Bytes → Bool) (b : Bool) → ((w : Bytes) → E w → g (t ++ w) ≡ b) →
      Reads E (f b) t a r r' → Reads E (λ x. f (g x.rest) x) t a r r'
  look-reads f g b e h = record { is = λ p w k. rw (e w k) (h.is p w k) }

  pub give-piece : (a : A) (r : Reader) → Piece E (give a) [] a r r
  give-piece a r = record { rest = refl; again = give-reads a r }

  module _ {t : Bytes} {a : A} {r r' : Reader} where
    pub here-piece : {f : ℕ → Parser A} → ((p : ℕ) → Piece E (f p) t a r r') → Piece E (here >>= f) t a r r'
    here-piece h = record { rest = (h 0).rest; again = here_reads λ p. (h p).again }

    pub look-piece : (f : Bool → Parser A) (g : Bytes → Bool) (b : Bool) → ((w : Bytes) → E w → g (t ++ w) ≡ b) →
        Piece E (f b) t a r r' → Piece E (λ x. f (g x.rest) x) t a r r'
    look-piece f g b e h = record { rest = h.rest; again = look-reads f g b e h.again }

    -- the same bytes, written in another way
    pub same-piece : {q : Parser A} {u : Bytes} → t ≡ u → Piece E q t a r r' → Piece E q u a r r'
    same-piece {q} e h = subst (λ x. Piece E q x a r r') e h

module _ {A B : Type 0} {E : Bytes → Type 0} where
  -- one and then another, where the second ends the first
  module _ {E₁ : Bytes → Type 0} {q : Parser A} {t u : Bytes} {a : A} {b : B} {r r₁ r₂ : Reader} (f : A → Parser B)
      (ends : (w : Bytes) → E w → E₁ (u ++ w)) where
    pub bind-reads : Reads E₁ q t a r r₁ → Reads E (f a) u b r₁ r₂ → Reads E (q >>= f) (t ++ u) b r r₂
    bind-reads h k = record {
      is = λ p w e.
          let x : q (at p ((t ++ u) ++ w) r) ≡ found a (at (p + length t) (u ++ w) r₁) =
          ap (λ (v : Bytes). q (at p v r)) (append_assoc t u w) ∙ h.is p (u ++ w) (ends w e) in
          ap (and_then f) x ∙ k.is (p + length t) w e ∙ ap (λ (n : ℕ). found b (at n w r₂)) (omega (arith, length-append t u));
    }

    pub bind-piece : Piece E₁ q t a r r₁ → Piece E (f a) u b r₁ r₂ → Piece E (q >>= f) (t ++ u) b r r₂
    bind-piece h k = record {
      rest = h.rest ∙ ap (λ w. t ++ w) k.rest ∙ sym (append_assoc t u r₂.rest);
      again = bind-reads h.again k.again;
    }

  -- one, and then what reads nothing
  pub then-reads : {q : Parser A} {t : Bytes} {a : A} {b : B} {r r₁ : Reader} (f : A → Parser B) → Reads E q t a r r₁ →
      ((p : ℕ) (w : Bytes) → f a (at p w r₁) ≡ found b (at p w r₁)) → Reads E (q >>= f) t b r r₁
  then-reads f h k = record { is = λ p w e. ap (and_then f) (h.is p w e) ∙ k _ w }

  pub then-piece : {q : Parser A} {t : Bytes} {a : A} {b : B} {r r₁ : Reader} (f : A → Parser B) → Piece E q t a r r₁ →
      ((p : ℕ) (w : Bytes) → f a (at p w r₁) ≡ found b (at p w r₁)) → Piece E (q >>= f) t b r r₁
  then-piece f h k = record { rest = h.rest; again = then-reads f h.again k }

  -- what is read, made into something else
  pub then-give : {q : Parser A} {t : Bytes} {a : A} {r r₁ : Reader} (g : A → B) → Piece E q t a r r₁ →
      Piece E (q >>= λ x. give (g x)) t (g a) r r₁
  then-give g h = then-piece (λ x. give (g x)) h (λ p w. refl)

-- ---- the byte of a class

-- of a class that has one byte, that byte
abbrev Byte : Class → ℕ → Type 0
Byte letter b = Unit {0}
Byte digit b = Unit {0}
Byte space b = b ≡ 32
Byte feed b = b ≡ 10
Byte minus b = b ≡ 45
Byte equals b = b ≡ 61
Byte comma b = b ≡ 44
Byte colon b = b ≡ 58
Byte point b = b ≡ 46
Byte other b = Unit {0}

class-byte : (b : ℕ) → Byte (class_of b) b
unfolding class_of
class-byte b =
    first (between 97 122 b) letter _ tt
    (first (between 48 57 b) digit _ tt
    (one 32 space _ (λ e. e)
    (one 10 feed _ (λ e. e)
    (one 45 minus _ (λ e. e)
    (one 61 equals _ (λ e. e)
    (one 44 comma _ (λ e. e)
    (one 58 colon _ (λ e. e)
    (one 46 point other (λ e. e) tt))))))))
  where
    first : (x : Bool) (c d : Class) → Byte c b → Byte d b → Byte (pick x c d) b
    first true c d h k = h
    first false c d h k = k

    one : (n : ℕ) (c d : Class) → (b ≡ n → Byte c b) → Byte d b → Byte (pick (eqb b n) c d) b
    one n c d h k = go (eqb b n) refl
      where
        go : (x : Bool) → eqb b n ≡ x → Byte (pick x c d) b
        go true e = h (eqb-true b n e)
        go false e = k

-- a class by its number
abbrev class_from : ℕ → Class
class_from n =
    pick (eqb n 1) letter (pick (eqb n 2) digit (pick (eqb n 3) space (pick (eqb n 4) feed (pick (eqb n 5) minus
    (pick (eqb n 6) equals (pick (eqb n 7) comma (pick (eqb n 8) colon (pick (eqb n 9) point other))))))))

class-number : (c : Class) → class_from (class_number c) ≡ c
unfolding class_number
class-number letter = refl
class-number digit = refl
class-number space = refl
class-number feed = refl
class-number minus = refl
class-number equals = refl
class-number comma = refl
class-number colon = refl
class-number point = refl
class-number other = refl

pub is-in : (c : Class) (b : ℕ) → is_in c b ≡ true → Byte c b
unfolding is_in
is-in c b e =
    let n : class_number c ≡ class_number (class_of b) = eqb-true (class_number c) (class_number (class_of b)) e in
    let k : class_of b ≡ c = sym (class-number (class_of b)) ∙ ap class_from (sym n) ∙ class-number c in
    subst (λ d. Byte d b) k (class-byte b)

-- ---- marks and keys

-- the byte of a class is read
abbrev MarkReads : Class → ℕ → Type 0
MarkReads c n = (r : Reader) → Reads Anything (mark c) (n ∷ []) tt r r

-- and where it was read it stands
abbrev MarkPiece : Class → ℕ → Type 0
MarkPiece c n = (r : Reader) → Post (λ u r'. Piece Anything (mark c) (n ∷ []) tt r r') (mark c r)

module _ (c : Class) (n : ℕ) (is : is_in c n ≡ true) (only : (b : ℕ) → is_in c b ≡ true → b ≡ n) where
  starts_with : (w : Bytes) → next c w ≡ true → w ≡ n ∷ drop 1 w
  starts_with [] e = contradiction cc
  starts_with (b ∷ bs) e = ap (λ (x : ℕ). x ∷ bs) (only b e)

  mark-reads : MarkReads c n
  unfolding mark
  mark-reads r = record { is = λ p w h. rw is }

  mark-piece : MarkPiece c n
  unfolding mark
  mark-piece r =
      pick_post (next c r.rest) _ _
      (λ e. holds {r = past 1 r} (record { rest = starts_with r.rest e; again = record { is = (mark-reads r).is } }))
      (λ e. refusal tt)

pub feed-reads : MarkReads feed 10
unfolding is_in class_number class_of
feed-reads = mark-reads feed 10 refl (is-in feed)

pub comma-reads : MarkReads comma 44
unfolding is_in class_number class_of
comma-reads = mark-reads comma 44 refl (is-in comma)

pub colon-reads : MarkReads colon 58
unfolding is_in class_number class_of
colon-reads = mark-reads colon 58 refl (is-in colon)

pub space-reads : MarkReads space 32
unfolding is_in class_number class_of
space-reads = mark-reads space 32 refl (is-in space)

pub feed-piece : MarkPiece feed 10
unfolding is_in class_number class_of
feed-piece = mark-piece feed 10 refl (is-in feed)

pub comma-piece : MarkPiece comma 44
unfolding is_in class_number class_of
comma-piece = mark-piece comma 44 refl (is-in comma)

pub colon-piece : MarkPiece colon 58
unfolding is_in class_number class_of
colon-piece = mark-piece colon 58 refl (is-in colon)

pub point-piece : MarkPiece point 46
unfolding is_in class_number class_of
point-piece = mark-piece point 46 refl (is-in point)

pub space-piece : MarkPiece space 32
unfolding is_in class_number class_of
space-piece = mark-piece space 32 refl (is-in space)

begins-split : (k w : Bytes) → begins k w ≡ true → w ≡ k ++ drop (length k) w
unfolding begins
begins-split [] w e = refl
begins-split (k ∷ ks) [] e = contradiction cc
begins-split (k ∷ ks) (b ∷ bs) e =
    let (x, y) = and-true (eqb k b) (begins ks bs) e in
    let same : b ≡ k = sym (eqb-true k b x) in
    ap (λ (n : ℕ). n ∷ bs) same ∙ ap (λ (w : Bytes). k ∷ w) (begins-split ks bs y)

begins-whole : (k w : Bytes) → begins k (k ++ w) ≡ true
unfolding begins
begins-whole [] w = refl
begins-whole (x ∷ xs) w = rw (T_true (eqb x x) (eqb_refl x)) (begins-whole xs w)

pub exactly_reads : (n : ℕ) (k : Bytes) (r : Reader) → Reads Anything (exactly n k) k tt r r
unfolding exactly
exactly_reads n k r = record { is = λ p w h. rw (begins-whole k w, drop-append_seam k w) }

pub exactly-piece : (n : ℕ) (k : Bytes) (r : Reader) → Post (λ u r'. Piece Anything (exactly n k) k tt r r') (exactly n k r)
unfolding exactly
exactly-piece n k r =
    pick_post (begins k r.rest) _ _
    (λ e. holds {r = past (length k) r} (record {
      rest = begins-split k r.rest e;
      again = record { is = (exactly_reads n k r).is };
    }))
    (λ e. refusal tt)

-- ---- numbers

index_reads : (n : ℕ) (r : Reader) → Reads NoNumber index (printℕ n) n r r
unfolding index taken
index_reads n r = record {
  is = λ p w h. rw (run-whole in_number (printℕ n) w (printℕ-number n) h, natural-printℕ n, drop-append_seam (printℕ n) w);
}

pub index-piece : (r : Reader) → Post (λ n r'. Piece NoNumber index (printℕ n) n r r') (index r)
unfolding index taken
index-piece r =
    present-post 4 r.place (natural (run in_number r.rest)) _ tt λ n e.
    let bs = run in_number r.rest in
    let c : bs ≡ printℕ n = natural-canonical bs n e in
    record {
      rest = run-split in_number r.rest ∙ ap (λ (x : Bytes). x ++ drop (length bs) r.rest) c;
      again = record { is = (index_reads n r).is };
    }

pub count-reads : (lo hi n : ℕ) → between lo hi n ≡ true → (r : Reader) → Reads NoNumber (count lo hi) (printℕ n) n r r
unfolding count
count-reads lo hi n e r = here_reads λ p. then-reads (λ m. require (between lo hi m) 4 p (give m)) (index_reads n r) (λ q w. rw e)

pub count-piece : (lo hi : ℕ) (r : Reader) → Post (λ n r'. Piece NoNumber (count lo hi) (printℕ n) n r r') (count lo hi r)
unfolding count
count-piece lo hi r =
    bind-post (index-piece r) λ n r₁ h.
    require-post (between lo hi n) _ _ _ _ tt λ e.
    holds (here-piece λ p. then-piece (λ m. require (between lo hi m) 4 p (give m)) h (λ q w. rw e))

pub value-reads : (z : ℤ) → in32 z ≡ true → (r : Reader) → Reads NoNumber value (printℤ z) z r r
unfolding value taken
value-reads z i r = record {
  is = λ p w h. rw (run-whole in_number (printℤ z) w (printℤ-number z) h, integer-printℤ z, i, drop-append_seam (printℤ z) w);
}

pub value-piece : (r : Reader) → Post (λ z r'. Piece NoNumber value (printℤ z) z r r') (value r)
unfolding value taken
value-piece r =
    bind-post {P = λ z r'. (r' ≡ past (length bs) r) × (bs ≡ printℤ z)}
    (present-post 4 r.place (integer bs) _ tt λ z e. (refl, integer-canonical bs z e)) λ z r₁ (e₁, c).
    require-post (in32 z) _ _ _ _ tt λ e.
    holds {r = r₁} (record {
      rest =
          run-split in_number r.rest ∙ ap (λ (x : Bytes). x ++ drop (length bs) r.rest) c
          ∙ ap (λ (x : Reader). printℤ z ++ x.rest) (sym e₁);
      again = record {
        is = λ p w k. (value-reads z e r).is p w k ∙ ap (λ (x : Reader). found z (at (p + length (printℤ z)) w x)) (sym e₁);
      };
    })
  where
    bs : Bytes
    bs = run in_number r.rest

-- ---- what ends a number

pub feed-ends : (w : Bytes) → NoNumber (10 ∷ w)
unfolding starts in_number is_in class_number class_of
feed-ends w = refl

pub comma-ends : (w : Bytes) → NoNumber (44 ∷ w)
unfolding starts in_number is_in class_number class_of
comma-ends w = refl

pub colon-ends : (w : Bytes) → NoNumber (58 ∷ w)
unfolding starts in_number is_in class_number class_of
colon-ends w = refl

pub point-ends : (w : Bytes) → NoNumber (46 ∷ w)
unfolding starts in_number is_in class_number class_of
point-ends w = refl
