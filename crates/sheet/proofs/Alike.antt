-- Readers that read no token do the same after any tokens: so what the code says of them where none was read holds later too.
-- Assumes nothing.
use Prim.Native.Nat.{ℕ}
use mathlib.Core.Path.{◌≡◌, refl, ap, ◌∙◌}
use mathlib.Core.Bool.{Bool, true, false}
use lib.ListN.{length}
use Rattle.specification.specs.Bytes.{Bytes, pick, Class, begins}
use Rattle.specification.specs.Parser.{Reader, Read, refused, found, Parser, give, and_then, ◌>>=◌, ◌>>◌, past, next, mark, exactly, taken}
use Rattle.specification.specs.Lines.{count}
use Rattle.specification.specs.Formula.{Locals}
use Rattle.specification.proofs.Laws.LineReaders.{Composed, count_by}
use Rattle.sheet.specs.Answers.{number_to}

module _ (t : ℕ) (B : Locals) where
  -- after t tokens, with these locals bound
  abbrev pub later : Reader → Reader
  later r = record { place = r.place; rest = r.rest; tokens = t; bound = B }

  abbrev pub later_read : {A : Type 0} → Read A → Read A
  later_read (refused n p) = refused n p
  later_read (found a r) = found a (later r)

  abbrev pub Alike : {A : Type 0} → Parser A → Type 0
  Alike m = (r : Reader) → m (later r) ≡ later_read (m r)

  pick-later : {A : Type 0} (b : Bool) (x y : Read A) → pick b (later_read x) (later_read y) ≡ later_read (pick b x y)
  pick-later true x y = refl
  pick-later false x y = refl

  mark-alike : (c : Class) → Alike (mark c)
  unfolding mark
  mark-alike c r = pick-later (next c r.rest) (found tt (past 1 r)) (refused 5 r.place)

  exactly-alike : (n : ℕ) (k : Bytes) → Alike (exactly n k)
  unfolding exactly
  exactly-alike n k r = pick-later (begins k r.rest) (found tt (past (length k) r)) (refused n r.place)

  taken-alike : (f : ℕ → Bool) → Alike (taken f)
  unfolding taken
  taken-alike f r = refl

  bind-alike : {A C : Type 0} (m : Parser A) (f : A → Parser C) → Alike m → ((a : A) → Alike (f a)) → Alike (m >>= f)
  bind-alike {A} m f h k r = ap (and_then f) (h r) ∙ by (m r)
    where
      by : (x : Read A) → and_then f (later_read x) ≡ later_read (and_then f x)
      by (refused n p) = refl
      by (found a r₁) = k a r₁

  alike-composed : Composed (λ p. Unit {0}) (λ A m. Alike m)
  alike-composed = record {
    give = λ A a r. refl;
    refuse = λ A n p q i r. refl;
    bind = λ A C m f h k. bind-alike m f h k;
    here = λ C f k r. k r.place tt r;
    sees = λ c r. refl;
    spells = λ k r. refl;
    mark = mark-alike;
    exactly = λ n k q. exactly-alike n k;
    taken = taken-alike;
  }

  pub number-alike : (k : Bytes) (lo hi : ℕ) (c : Class) → Alike (number_to k lo hi c)
  number-alike k lo hi c =
      bind-alike (exactly 3 k) (λ u. count lo hi >>= λ n. mark c >> give n) (exactly-alike 3 k) λ u.
      bind-alike (count lo hi) (λ n. mark c >> give n) (count_by alike-composed lo hi) λ n.
      bind-alike (mark c) (λ u. give n) (mark-alike c) λ u r. refl
