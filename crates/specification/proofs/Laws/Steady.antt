-- Steady readers. A reader is steady if, wherever it reads from the beginning p of the bytes p ++ q and leaves a byte of p unread, it reads
-- the same from all of p ++ q. First the notion (Same, Alike, Steady), then a law for each way to put readers together, then the readers that
-- others are put together from. What is put together from them is steady by LineReaders and FormulaReaders; the end of a sheet, which is not
-- steady, is in CutShort. Assumes nothing.
use Prim.Native.Nat.{ℕ, zero, suc, ◌+◌, ◌<◌}
use native.Mathlib.Omega.{arith}
use mathlib.Core.Path.{◌≡◌, refl, ◌∙◌, ap}
use mathlib.Core.Bool.{Bool, true, false}
use mathlib.Core.List.{List, [], ◌∷◌, ◌++◌}
use mathlib.Core.Option.{Option, none, some}
use lib.ListN.{length, drop, length-drop}
use lib.Dec.{eqb, ltb}
use Rattle.specification.specs.Bytes.{Bytes, Class, pick, run, begins}
use Rattle.specification.specs.Parser.{Reader, Read, found, Parser, give, present, and_then, past, next, sees, spells, mark, exactly, taken}
use Rattle.specification.specs.Formula.{numbered, has, bind}
use Rattle.specification.proofs.Laws.Contradiction.{contradiction}
use Rattle.specification.proofs.Laws.Parser.{and-true, Post, refusal, holds, bind-post, pick_post}

-- ---- bytes, and more bytes after them

-- a byte is left
abbrev pub Left : Bytes → Type 0
Left bs = 0 < length bs

module _ (q : Bytes) where
  drop_more : (n : ℕ) (bs : Bytes) → Left (drop n bs) → drop n (bs ++ q) ≡ drop n bs ++ q
  drop_more zero bs h = refl
  drop_more (suc n) [] h = absurd (omega arith)
  drop_more (suc n) (b ∷ bs) h = drop_more n bs h

  begins-more : (k bs : Bytes) → begins k bs ≡ true → begins k (bs ++ q) ≡ true
  unfolding begins
  begins-more [] bs e = refl
  begins-more (k ∷ ks) [] e = contradiction cc
  begins-more (k ∷ ks) (b ∷ bs) e =
      let h = and-true (eqb k b) (begins ks bs) e in
      rw h.0 (begins-more ks bs h.1)

  run_more : (f : ℕ → Bool) (bs : Bytes) → Left (drop (length (run f bs)) bs) → run f (bs ++ q) ≡ run f bs
  unfolding run
  run_more f [] h = absurd (omega arith)
  run_more f (b ∷ bs) h = go (f b) (λ i. run_more f bs i) h
    where
      go : (t : Bool) → (Left (drop (length (run f bs)) bs) → run f (bs ++ q) ≡ run f bs) →
          Left (drop (length (pick t (b ∷ run f bs) [])) (b ∷ bs)) →
          pick t (b ∷ run f (bs ++ q)) [] ≡ pick t (b ∷ run f bs) []
      go true ih h = ap (b ∷◌) (ih h)
      go false ih h = refl

-- ---- steady

-- the reader, with these bytes left
abbrev pub with_rest : Bytes → Reader → Reader
with_rest bs r = record { place = r.place; rest = bs; tokens = r.tokens; bound = r.bound }

-- the place of the sheet's end
abbrev pub end : Reader → ℕ
end r = r.place + length r.rest

-- the reader, in the sheet that has the bytes q more
abbrev pub extended : Bytes → Reader → Reader
extended q r = with_rest (r.rest ++ q) r

-- a is read from r, where a byte was left, and then comes r', in the same sheet; y, the reading from r extended, is the same
pub record Same (q : Bytes) {A : Type 0} (r : Reader) (y : Read A) (a : A) (r' : Reader) : Type 0 where
  pub left : Left r.rest
  pub sheet : end r' ≡ end r
  pub same : y ≡ found a (extended q r')

-- so it is where r' has a byte left
pub record Alike (q : Bytes) {A : Type 0} (r : Reader) (y : Read A) (a : A) (r' : Reader) : Type 0 where
  pub alike : Left r'.rest → Same q r y a r'

abbrev pub Steady : Bytes → {A : Type 0} → Parser A → Type 0
Steady q m = (r : Reader) → Post (Alike q r (m (extended q r))) (m r)

-- nothing was read: r after a token's number or a binder was noted
abbrev noted : Reader → ℕ → List ℕ → Reader
noted r tokens bound = record { place = r.place; rest = r.rest; tokens = tokens; bound = bound }

unread : {q : Bytes} {A : Type 0} {a : A} {r : Reader} {tokens : ℕ} {bound : List ℕ} →
    Alike q r (found a (extended q (noted r tokens bound))) a (noted r tokens bound)
unread = record { alike = λ h. record { left = h; sheet = refl; same = refl } }

-- ---- ways to put readers together

module _ {q : Bytes} {A : Type 0} where
  pub give-steady : (a : A) → Steady q (give a)
  give-steady a r = holds unread

  pub present-steady : (n p : ℕ) (o : Option A) → Steady q (present n p o)
  present-steady n p none r = refusal tt
  present-steady n p (some a) r = give-steady a r

  -- of two readings, by one test
  pick-steady : (b : Bool) {r : Reader} {x x' y y' : Read A} → Post (Alike q r x') x → Post (Alike q r y') y →
      Post (Alike q r (pick b x' y')) (pick b x y)
  pick-steady true h k = h
  pick-steady false h k = k

module _ {A : Type 0} {P Q : A → Reader → Type 0} where
  pub post-map : {x : Read A} → Post P x → ((a : A) (r : Reader) → P a r → Q a r) → Post Q x
  post-map (refusal h) k = refusal tt
  post-map (holds h) k = holds (k _ _ h)

module _ {q : Bytes} {A B : Type 0} {f : A → Parser B} {r : Reader} {x y : Read A} where
  pub bind-steady : Post (Alike q r y) x → ((a : A) → Steady q (f a)) → Post (Alike q r (and_then f y)) (and_then f x)
  bind-steady h k =
      bind-post h λ a r₁ p.
      post-map (k a r₁) λ b r₂ g.
      record {
        alike = λ h.
            let s₁ = g.alike h in
            let s₀ = p.alike s₁.left in
            record { left = s₀.left; sheet = s₁.sheet ∙ s₀.sheet; same = ap (and_then f) s₀.same ∙ s₁.same };
      }

-- ---- readers

module _ {q : Bytes} where
  -- nothing is read, and what is told depends on the next byte alone
  look-steady : {A : Type 0} (g : Bytes → A) → ((b : ℕ) (bs : Bytes) → g (b ∷ bs ++ q) ≡ g (b ∷ bs)) →
      Steady q (λ r. found (g r.rest) r)
  look-steady g h r = holds (record {
    alike = λ l.
        record { left = l; sheet = refl; same = ap (λ a. found a (extended q r)) (go r.rest l) };
  })
    where
      go : (bs : Bytes) → Left bs → g (bs ++ q) ≡ g bs
      go [] l = absurd (omega arith)
      go (b ∷ bs) l = h b bs

  pub sees-steady : (c : Class) → Steady q (sees c)
  sees-steady c = look-steady (next c) (λ b bs. refl)

  -- of one byte
  pub spells-steady : (k : ℕ) → Steady q (spells (k ∷ []))
  unfolding begins
  spells-steady k = look-steady (begins (k ∷ [])) (λ b bs. refl)

  pub numbered-steady : Steady q numbered
  numbered-steady r = pick-steady (ltb r.tokens 1024) (holds unread) (refusal tt)

  pub bind-local-steady : (p l : ℕ) → Steady q (bind p l)
  bind-local-steady p l r = pick-steady (has l r.bound) (refusal tt) (holds unread)

  mark-more : (c : Class) (r : Reader) (bs : Bytes) → next c bs ≡ true →
      Same q (with_rest bs r) (mark c (with_rest (bs ++ q) r)) tt (past 1 (with_rest bs r))
  unfolding mark
  mark-more c r [] e = contradiction cc
  mark-more c r (b ∷ bs) e = record { left = omega arith; sheet = omega arith; same = rw e }

  -- also where the byte read is the last
  pub mark-always : (c : Class) (r : Reader) → Post (Same q r (mark c (extended q r))) (mark c r)
  unfolding mark
  mark-always c r = pick_post (next c r.rest) _ _ (λ e. holds (mark-more c r r.rest e)) (λ e. refusal tt)

  pub mark-steady : (c : Class) → Steady q (mark c)
  mark-steady c r = post-map (mark-always c r) λ u r' h. record { alike = λ left. h }

  -- n bytes were read
  past-alike : {A : Type 0} (a : A) (n : ℕ) (r : Reader) → Alike q r (found a (past n (extended q r))) a (past n r)
  past-alike a n r = record {
    alike = λ h. record {
      left = omega (arith, length-drop n r.rest);
      sheet = omega (arith, length-drop n r.rest);
      same = ap (λ bs. found a (with_rest bs (past n r))) (drop_more q n r.rest h);
    };
  }

  exactly-more : (n : ℕ) (k : Bytes) (r : Reader) → begins k r.rest ≡ true →
      Alike q r (exactly n k (extended q r)) tt (past (length k) r)
  unfolding exactly
  exactly-more n k r e = rw (begins-more q k r.rest e) (past-alike tt (length k) r)

  pub exactly-steady : (n : ℕ) (k : Bytes) → Steady q (exactly n k)
  unfolding exactly
  exactly-steady n k r = pick_post (begins k r.rest) _ _ (λ e. holds (exactly-more n k r e)) (λ e. refusal tt)

  pub taken-steady : (f : ℕ → Bool) → Steady q (taken f)
  unfolding taken
  taken-steady f r =
      let bs = run f r.rest in
      holds (record {
        alike = λ h.
            let s = (past-alike bs (length bs) r).alike h in
            record {
              left = s.left;
              sheet = s.sheet;
              same = ap (λ cs. found cs (past (length cs) (extended q r))) (run_more q f r.rest h) ∙ s.same;
            };
      })
