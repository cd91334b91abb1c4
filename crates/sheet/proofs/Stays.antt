-- Readers that read no token: n were read before them, and after them. Assumes nothing.
use Prim.Native.Nat.{ℕ}
use mathlib.Core.Path.{◌≡◌, refl}
use mathlib.Core.Bool.{Bool}
use Rattle.specification.specs.Bytes.{Bytes, Class, begins}
use Rattle.specification.specs.Parser.{Reader, Read, Parser, next, mark, exactly, taken}
use Rattle.specification.proofs.Laws.Parser.{Post, refusal, holds, of-found, bind-post, pick_post}
use Rattle.specification.proofs.Laws.LineReaders.{Composed}

pub both_post : {A : Type 0} {P Q : A → Reader → Type 0} {x : Read A} → Post P x → Post Q x → Post (λ a r. P a r × Q a r) x
both_post (refusal h) k = refusal tt
both_post (holds h) k = holds (h, of-found k refl)

module _ (n : ℕ) where
  abbrev pub Stays : {A : Type 0} → Parser A → Type 0
  Stays p = (r : Reader) → r.tokens ≡ n → Post (λ a r'. r'.tokens ≡ n) (p r)

  pub mark-stays : (c : Class) → Stays (mark c)
  unfolding mark
  mark-stays c r h = pick_post (next c r.rest) _ _ (λ e. holds h) (λ e. refusal tt)

  pub exactly-stays : (m : ℕ) (k : Bytes) → Stays (exactly m k)
  unfolding exactly
  exactly-stays m k r h = pick_post (begins k r.rest) _ _ (λ e. holds h) (λ e. refusal tt)

  taken-stays : (f : ℕ → Bool) → Stays (taken f)
  unfolding taken
  taken-stays f r h = holds h

  pub stays-composed : Composed (λ p. Unit {0}) (λ A m. Stays m)
  stays-composed = record {
    give = λ A a r h. holds h;
    refuse = λ A m p t i r h. refusal tt;
    bind = λ A B m f h k r i. bind-post (h r i) λ a r₁ i₁. k a r₁ i₁;
    here = λ B f k r h. k r.place tt r h;
    sees = λ c r h. holds h;
    spells = λ k r h. holds h;
    mark = mark-stays;
    exactly = λ m k t. exactly-stays m k;
    taken = taken-stays;
  }
