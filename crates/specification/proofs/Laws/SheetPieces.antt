-- What is known of a sheet that was read: its bytes are its text, its edition has its words, its formulas are legible, and their tokens have the
-- numbers that they get. Assumes nothing.
use Prim.Native.Nat.{ℕ, ◌+◌, ◌≤◌}
use native.Mathlib.Omega.{arith}
use mathlib.Core.Path.{◌≡◌, refl, sym, ◌∙◌, ap, subst}
use mathlib.Core.Bool.{Bool, true, false}
use mathlib.Core.List.{List, [], ◌∷◌, ◌++◌, append_assoc}
use lib.ListN.{length}
use Rattle.specification.specs.Lists.{Each}
use Rattle.specification.specs.Bytes.{Bytes, bytes, feed}
use Rattle.specification.specs.Parser.{Reader, found, Parser, mark, key, ended, finish}
use Rattle.specification.specs.Lines.{line, Declared, arrays_line, ranges_line}
use Rattle.specification.specs.Given.{given_line}
use Rattle.specification.specs.Ast.{Procedure}
use Rattle.specification.specs.Sheet.{most_procedures, Sheet, refuses, opened, read_with}
use Rattle.specification.specs.Listing.{cell_names}
use Rattle.specification.specs.Text.{formula_words, spelt, number_line, arrays_text, item_text, procedures_text, head_text, ranges_text, given_text, text_in, text_of}
use Rattle.specification.specs.Tidy.{any_empty, has_empty_range, token_count, numbered, tokens_before}
use Rattle.specification.proofs.Laws.Contradiction.{contradiction}
use Rattle.specification.proofs.Laws.Parser.{Post, refusal, holds, of-found, pick_post}
use Rattle.specification.proofs.Laws.LineReaders.{line-by, arrays-by, ranges-by, given_by}
use Rattle.specification.proofs.Laws.SheetLines.{Gives, Lines, first_declared, sheet-lines}
use Rattle.specification.proofs.Laws.Pieces.{at, Anything, Reads, Piece, feed-piece, exactly-piece}
use Rattle.specification.proofs.Laws.LinePieces.{line-piece, arrays-piece, ranges-piece, Still, Stays, stays}
use Rattle.specification.proofs.Laws.GivenPieces.{given-piece}
use Rattle.specification.proofs.Laws.Legible.{shape_of, Legible, binders, added, Fresh, fresh-++}
use Rattle.specification.proofs.Laws.Taken.{most_tokens, Taken}
use Rattle.specification.proofs.Laws.WordPieces.{Fits, Spelt}
use Rattle.specification.proofs.Laws.FormulaPieces.{AsRead, formula-spelt}
use Rattle.specification.proofs.Laws.TidiedSheet.{NumberedLines, NumberedSheet}
use Rattle.specification.proofs.Laws.ProcedurePieces.{ProcedureFits, deepest, LegibleLines, binders_of, LinesPiece, lines-piece}

-- ---- the text

-- the lines before that of ranges, one by one
pub head-parts : (D : Declared) (w : Bytes) →
    head_text D ++ w ≡
    number_line (bytes "edition=") D.edition ++ (number_line (bytes "scalars=") D.scalars
    ++ (number_line (bytes "locals=") D.locals ++ (arrays_text D.arrays ++ w)))
unfolding head_text
head-parts D w =
    let e = number_line (bytes "edition=") D.edition in
    let v = number_line (bytes "scalars=") D.scalars in
    let l = number_line (bytes "locals=") D.locals in
    let a = arrays_text D.arrays in
    append_assoc e (v ++ (l ++ a)) w ∙ ap (λ (x : Bytes). e ++ x) (append_assoc v (l ++ a) w ∙ ap (λ (x : Bytes). v ++ x) (append_assoc l a w))

-- a piece, and what stands after it
then-stands : {A : Type 0} {E : Bytes → Type 0} {q : Parser A} {t : Bytes} {a : A} {r r₁ : Reader} {w : Bytes} →
    Piece E q t a r r₁ → r₁.rest ≡ w → r.rest ≡ t ++ w
then-stands {t = t} h e = h.rest ∙ ap (λ (x : Bytes). t ++ x) e

-- the same of a piece with tokens
then-taken : {t : Bytes} {n : ℕ} {ls : List ℕ} {r r₁ : Reader} {w : Bytes} → Taken t n ls r r₁ → r₁.rest ≡ w → r.rest ≡ t ++ w
then-taken {t = t} h e = h.rest ∙ ap (λ (x : Bytes). t ++ x) e

-- nothing comes next
abbrev pub Nothing : Bytes → Type 0
Nothing w = w ≡ []

pub finish-reads : (r : Reader) → Reads Nothing finish [] tt r r
finish-reads r = record { is = λ p w n. rw n (ap (λ (m : ℕ). found tt (at m [] r)) (omega arith)) }

finish-post : (r : Reader) → Post (λ u r'. r.rest ≡ []) (finish r)
finish-post r = pick_post (ended r.rest) _ _ (λ e. holds {r = r} (empty r.rest e)) (λ e. refusal tt)
  where
    empty : (w : Bytes) → ended w ≡ true → w ≡ []
    empty [] e = refl
    empty (x ∷ xs) e = contradiction cc

-- ---- a sheet that was read

pub record ReadAs (strict : Bool) (b : Bytes) (s : Sheet) : Type 0 where
  pub text : b ≡ text_of s
  pub lines_fit : Each (ProcedureFits s.declared.edition) s.declared.procedures
  pub formula_fits : Each (Fits s.declared.edition) (formula_words s.formula)
  pub few : length s.declared.procedures ≤ most_procedures s.declared.edition
  pub lines : LegibleLines (shape_of (first_declared s.declared)) s.declared.procedures
  pub formula : Legible (shape_of s.declared) deepest [] s.formula
  pub numbers : NumberedSheet s
  pub room : tokens_before s.declared.procedures + token_count s.formula ≤ most_tokens
  pub fresh : Fresh [] (binders_of s.declared.procedures ++ binders s.formula)
  pub orderly : refuses strict s.declared.edition ≡ true → has_empty_range s ≡ false

module _ (strict : Bool) (b : Bytes) (s : Sheet) (l : Lines strict (opened b) s) where
  abbrev D : Declared
  D = s.declared

  abbrev Ps : List Procedure
  Ps = D.procedures

  abbrev refusing : Bool
  refusing = refuses strict D.edition

  -- how many scalars and arrays
  abbrev pub how_many : ℕ
  how_many = D.scalars + length D.arrays

  -- ---- the lines before the procedures: their texts, and that none has a token

  abbrev LineHere : Bytes → ℕ → ℕ → ℕ → Reader → Reader → Type 0
  LineHere k lo hi n r r' = Piece Anything (line k lo hi) (number_line k n) n r r'

  edition-here : LineHere (bytes "edition=") 1 3 D.edition (opened b) l.edition.after
  edition-here = of-found (line-piece (bytes "edition=") 1 3 (opened b)) l.edition.is

  pub scalars-here : LineHere (bytes "scalars=") 0 64 D.scalars l.edition.after l.scalars.after
  scalars-here = of-found (line-piece (bytes "scalars=") 0 64 l.edition.after) l.scalars.is

  pub locals-here : LineHere (bytes "locals=") 0 32 D.locals l.scalars.after l.locals.after
  locals-here = of-found (line-piece (bytes "locals=") 0 32 l.scalars.after) l.locals.is

  pub arrays-here : Piece Anything (arrays_line D.scalars) (arrays_text D.arrays) D.arrays l.locals.after l.arrays.after
  arrays-here = of-found (arrays-piece D.scalars l.locals.after) l.arrays.is

  ranges-here : Piece Anything (ranges_line D.edition how_many) (ranges_text D.edition D.ranges) D.ranges
      l.arrays.after l.ranges.after
  ranges-here = of-found (ranges-piece D.edition how_many l.arrays.after) l.ranges.is

  given-here : Piece Anything (given_line (first_declared D)) (given_text D s.given) s.given l.ranges.after l.given.after
  unfolding item_text cell_names
  given-here = of-found (given-piece (first_declared D) D.edition D.ranges (λ c z h. h) l.ranges.after) l.given.is

  -- no token was read, and there is no binder
  abbrev Still₀ : Reader → Type 0
  Still₀ r = Still (opened []) r

  further : {A : Type 0} {m : Parser A} {r : Reader} {a : A} → Stays A m → Still₀ r → (g : Gives m r a) → Still₀ g.after
  further {r = r} h k g = let s = of-found (h r) g.is in (k.0 ∙ s.0, k.1 ∙ s.1)

  pub edition-still : Still₀ l.edition.after
  edition-still = further (line-by stays (bytes "edition=") 1 3) (refl, refl) l.edition

  pub scalars-still : Still₀ l.scalars.after
  scalars-still = further (line-by stays (bytes "scalars=") 0 64) edition-still l.scalars

  pub locals-still : Still₀ l.locals.after
  locals-still = further (line-by stays (bytes "locals=") 0 32) scalars-still l.locals

  pub arrays-still : Still₀ l.arrays.after
  arrays-still = further (arrays-by stays D.scalars) locals-still l.arrays

  pub ranges-still : Still₀ l.ranges.after
  ranges-still = further (ranges-by stays D.edition how_many) arrays-still l.ranges

  pub given-still : Still₀ l.given.after
  given-still = further (given_by stays (first_declared D)) ranges-still l.given

  -- ---- the procedures and the formula

  procedures-here : LinesPiece refusing (first_declared D) (most_procedures D.edition) l.given.after Ps l.procedures.after
  unfolding tokens_before
  procedures-here =
      of-found (lines-piece refusing (most_procedures D.edition) (first_declared D) l.given.after (sym given-still.0)) l.procedures.is

  -- what holds of the new procedures holds of all
  of-all : (P : List Procedure → Type 0) → P procedures-here.new → P Ps
  of-all P h = subst P (sym procedures-here.all) h

  procedures-taken : Taken (procedures_text D.edition Ps) (tokens_before Ps) (binders_of Ps) l.given.after l.procedures.after
  procedures-taken =
      of-all (λ Qs. Taken (procedures_text D.edition Qs) (tokens_before Qs) (binders_of Qs) l.given.after l.procedures.after)
      procedures-here.taken

  start-here : Piece Anything (key (bytes "formula=")) (bytes "formula=") tt l.procedures.after l.start.after
  start-here = of-found (exactly-piece 3 (bytes "formula=") l.procedures.after) l.start.is

  start-still : Still l.procedures.after l.start.after
  start-still = of-found (stays.exactly 3 (bytes "formula=") refl l.procedures.after) l.start.is

  formula-here : Spelt D (formula_words s.formula) (binders s.formula) l.start.after l.formula.after
      × AsRead refusing D deepest [] l.start.after.tokens s.formula
  formula-here = of-found (formula-spelt refusing D deepest [] l.start.after) l.formula.is

  feed-here : Piece Anything (mark feed) (bytes "\n") tt l.formula.after l.feed.after
  feed-here = of-found (feed-piece l.formula.after) l.feed.is

  -- ---- the whole

  stands : b ≡ text_of s
  unfolding text_in
  stands =
      then-stands edition-here (then-stands scalars-here (then-stands locals-here (then-stands arrays-here (then-stands ranges-here
      (then-stands given-here (then-taken procedures-taken (then-stands start-here (then-taken formula-here.0.taken
      (then-stands feed-here (of-found (finish-post l.feed.after) l.end.is))))))))))
      ∙ sym (head-parts D _)

  -- the tokens before the formula
  tokens-here : l.start.after.tokens ≡ tokens_before Ps
  tokens-here = omega (arith, given-still.0, procedures-taken.tokens, start-still.0)

  bound-here : l.start.after.bound ≡ added (binders_of Ps) []
  bound-here = sym start-still.1 ∙ procedures-taken.bound ∙ ap (added (binders_of Ps)) (sym given-still.1)

  pub lines-read : ReadAs strict b s
  unfolding has_empty_range
  lines-read =
      let (spelt, good) = formula-here in
      record {
        text = stands;
        lines_fit = of-all (λ Qs. Each (ProcedureFits D.edition) Qs) procedures-here.fits;
        formula_fits = spelt.fits;
        few = of-all (λ Qs. length Qs ≤ most_procedures D.edition) procedures-here.few;
        lines = of-all (λ Qs. LegibleLines (shape_of (first_declared D)) Qs) procedures-here.legible;
        formula = good.legible;
        numbers = record {
          lines = of-all (λ Qs. NumberedLines [] Qs) procedures-here.numbers;
          formula = subst (λ (n : ℕ). numbered Ps n s.formula ≡ s.formula) tokens-here good.same;
        };
        room =
            let few = spelt.taken.few (omega (arith, start-still.0, procedures-taken.few (omega (arith, given-still.0)))) in
            omega (arith, few, spelt.taken.tokens, tokens-here);
        fresh =
            fresh-++ (binders_of Ps) (binders s.formula) [] (subst (λ B. Fresh B (binders_of Ps)) (sym given-still.1) procedures-taken.fresh)
            (subst (λ B. Fresh B (binders s.formula)) bound-here spelt.taken.fresh);
        orderly = λ h. rw (of-all (λ Qs. any_empty Qs ≡ false) (procedures-here.orderly h)) (good.orderly h);
      }

pub read_as : (strict : Bool) (b : Bytes) {s : Sheet} {r : Reader} → read_with strict b ≡ found s r → ReadAs strict b s
unfolding read_with
read_as strict b {s} e = lines-read strict b s (sheet-lines e)
