-- The reading of one edition only: what its first line is read as tells whether the sheet is read. Assumes nothing.
use Prim.Native.Nat.{ℕ}
use mathlib.Core.Path.{◌≡◌, refl}
use Rattle.std.specs.Prelude.{Err}
use mathlib.Core.Bool.{Bool}
use lib.ListN.{replicate}
use Rattle.specification.specs.declared.refusals.Refusal.{Refusal}
use Rattle.specification.specs.Bytes.{Bytes, bytes, feed}
use Rattle.specification.specs.Parser.{refused, found}
use Rattle.specification.specs.Lines.{line}
use Rattle.specification.specs.Sheet.{read_with}
use Rattle.specification.specs.Moves.{read_only}
use Rattle.sheet.specs.declared.Reading.{Reading}
use Rattle.sheet.specs.Reader.{line_at}
use Rattle.sheet.specs.Answers.{Answer, number_to}
use Rattle.sheet.specs.Tables.{Words}
use Rattle.sheet.specs.Whole.{reading_of, words_of}
use Rattle.sheet.proofs.Answers.{on_found, on_refused}

module _ (s : Bytes) (edition : ℕ) (strict : Bool) (n : ℕ) where
  abbrev Answers : Answer Reading → Words → Type 0
  Answers r w = (r ≡ reading_of (read_only strict edition s)) × (w ≡ words_of n (read_only strict edition s))

  -- what the answer of the first line leads to
  pub only-refused : (e : Refusal) → refused e.number e.place ≡ number_to (bytes "edition=") edition edition feed (line_at s 0) → (w : Words) → w ≡ replicate n 0 →
      Answers (Err e) w
  unfolding read_only line
  only-refused e q w z = let f : read_only strict edition s ≡ refused e.number e.place = on_refused _ q in rw f (refl, z)

  pub only-found : {m q : ℕ} → found m (line_at s q) ≡ number_to (bytes "edition=") edition edition feed (line_at s 0) → {r : Answer Reading} {w : Words} →
      r ≡ reading_of (read_with strict s) → w ≡ words_of n (read_with strict s) → Answers r w
  unfolding read_only line
  only-found e f z = let g : read_only strict edition s ≡ read_with strict s = on_found _ e in rw g (f, z)
