-- A sheet cut short is refused, never read as another sheet: no proper beginning of an accepted sheet is accepted. Up to its last line feed
-- a sheet is read by steady readers (Steady), and there it must end. So an accepted sheet with bytes after it is refused with 5
-- (longer-refused), and so a proper beginning of an accepted sheet is refused (shorter-refused). Assumes nothing.
use Prim.Native.Nat.{ℕ, ◌<◌}
use native.Mathlib.Omega.{arith}
use native.Mathlib.Nat.{zero-add, add-zero}
use mathlib.Core.Path.{◌≡◌, refl, ◌∙◌, ap}
use mathlib.Core.Bool.{Bool, true}
use mathlib.Core.List.{[], ◌∷◌, ◌++◌}
use mathlib.Core.Option.{Option}
use lib.ListN.{length}
use Rattle.specification.specs.Bytes.{Bytes, bytes, feed, in_token}
use Rattle.specification.specs.Parser.{Reader, Read, refused, found, Parser, give, ◌>>◌, and_then, mark, finish}
use Rattle.specification.specs.Words.{Word}
use Rattle.specification.specs.Formula.{token}
use Rattle.specification.specs.Sheet.{with_procedures, most_procedures, Sheet, refuses, sheet, opened, read_with, read}
use Rattle.specification.proofs.Laws.Contradiction.{contradiction}
use Rattle.specification.proofs.Laws.Parser.{Post, refusal as refused_post, holds, of-found, bind-post}
use Rattle.specification.proofs.Laws.LineReaders.{Composed}
use Rattle.specification.proofs.Laws.FormulaReaders.{Tokened, formula-by, procedures-by}
use Rattle.specification.proofs.Laws.SheetLines.{sheet-by}
use Rattle.specification.proofs.Laws.Steady.{Left, with_rest, end, extended, Alike, Steady, give-steady, present-steady, bind-steady, post-map, sees-steady, spells-steady, numbered-steady, bind-local-steady, mark-always, mark-steady, exactly-steady, taken-steady}

-- ---- a sheet that goes on after its end

-- a is read from r, where a byte was left, up to the sheet's end; y, the reading from r extended by q, is refused there
record Over (q : Bytes) {A : Type 0} (r : Reader) (y : Read A) (a : A) (r' : Reader) : Type 0 where
  left : Left r.rest
  over : y ≡ refused 5 (end r)

module _ {q : Bytes} {A B : Type 0} {f : A → Parser B} {r : Reader} {x y : Read A} where
  bind-over : Post (Alike q r y) x → ((a : A) (r₁ : Reader) → Post (Over q r₁ (f a (extended q r₁))) (f a r₁)) →
      Post (Over q r (and_then f y)) (and_then f x)
  bind-over h k =
      bind-post h λ a r₁ p.
      post-map (k a r₁) λ b r₂ g.
      let s = p.alike g.left in
      record { left = s.left; over = ap (and_then f) s.same ∙ g.over ∙ ap (refused 5) s.sheet }

module _ (q : Bytes) (more : Left q) where
  finish-over : {A : Type 0} (a : A) (r : Reader) →
      Post (λ b r'. (finish >> give a) (extended q r) ≡ refused 5 (end r)) ((finish >> give a) r)
  finish-over a r = go q more r.rest
    where
      go : (q : Bytes) → Left q → (bs : Bytes) →
          Post (λ b r'. (finish >> give a) (with_rest (bs ++ q) r) ≡ refused 5 (end (with_rest bs r))) ((finish >> give a) (with_rest bs r))
      go [] h bs = absurd (omega arith)
      go (c ∷ q) h [] = holds (rw add-zero)
      go (c ∷ q) h (b ∷ bs) = refused_post tt

  end-over : {A : Type 0} (a : A) (r : Reader) →
      Post (Over q r ((mark feed >> (finish >> give a)) (extended q r))) ((mark feed >> (finish >> give a)) r)
  end-over a r =
      bind-post (mark-always feed r) λ u r₁ s.
      post-map (finish-over a r₁) λ b r₂ g.
      record { left = s.left; over = ap (and_then (λ u. finish >> give a)) s.same ∙ g ∙ ap (refused 5) s.sheet }

  steady-composed : Composed (λ p. Unit {0}) (λ A m. Steady q m)
  steady-composed = record {
    give = λ A a. give-steady a;
    refuse = λ A n p t h r. refused_post tt;
    bind = λ A B m f h k r. bind-steady (h r) k;
    here = λ B f h r. h r.place tt r;
    sees = sees-steady;
    spells = spells-steady;
    mark = mark-steady;
    exactly = λ n k t. exactly-steady n k;
    taken = taken-steady;
  }

  token-steady : (word : Bytes → Option Word) → Steady q (token word)
  unfolding token
  token-steady word r =
      bind-steady (numbered-steady r) λ n r₁.
      bind-steady (taken-steady in_token r₁) λ bs r₂.
      bind-steady (present-steady 4 r.place (word bs) r₂) λ w. give-steady _

  steady-tokened : Tokened (λ p. Unit {0}) (λ A m. Steady q m)
  steady-tokened = record {
    composed = steady-composed;
    token = λ word B f k r. bind-steady (token-steady word r) λ t. k t tt;
    bind = λ p l h. bind-local-steady p l;
  }

  sheet-over : (strict : Bool) (r : Reader) → Post (Over q r (sheet strict (extended q r))) (sheet strict r)
  sheet-over strict =
      sheet-by steady-composed (λ m. (r : Reader) → Post (Over q r (m (extended q r))) (m r)) (λ A m f h k r. bind-over (h r) k) strict
      (λ E is r.
      bind-over (procedures-by steady-tokened (refuses strict E.edition) (most_procedures E.edition) E r) λ Ps r₁.
      bind-over (exactly-steady 3 (bytes "formula=") r₁) λ u r₂.
      bind-over (formula-by steady-tokened (with_procedures Ps E) (refuses strict E.edition) 64 [] r₂) λ F r₃. end-over _ r₃)

-- ---- the laws

-- an accepted sheet with bytes after it is refused with 5, at the first of them
pub longer-refused : (p q : Bytes) (s : Sheet) (r : Reader) → 0 < length q → read p ≡ found s r → read (p ++ q) ≡ refused 5 (length p)
unfolding read_with
longer-refused p q s r h e = (of-found (sheet-over q h true (opened p)) e).over ∙ ap (refused 5) (zero-add (length p))

-- a proper beginning of an accepted sheet is refused
pub shorter-refused : (p q : Bytes) (s : Sheet) (r : Reader) → 0 < length q → read (p ++ q) ≡ found s r →
    (n : ℕ) × (place : ℕ) × (read p ≡ refused n place)
shorter-refused p q s r h e = go (read p) refl
  where
    go : (x : Read Sheet) → read p ≡ x → (n : ℕ) × (place : ℕ) × (read p ≡ refused n place)
    go (refused n place) k = (n, place, k)
    go (found s' r') k =
        let l = longer-refused p q s' r' h k in
        contradiction cc
