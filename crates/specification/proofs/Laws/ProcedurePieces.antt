-- The lines of procedures: what is read is the text of the procedures, each legible behind those before it and with the token numbers that it
-- gets; and legible procedures, tidied, are read from their text in any edition that has their words. Assumes nothing.
use Prim.Native.Nat.{ℕ, zero, suc, ◌+◌, ◌≤◌}
use native.Mathlib.Omega.{arith}
use mathlib.Core.Path.{◌≡◌, refl, sym, ◌∙◌, ap, subst}
use mathlib.Core.Bool.{Bool, true, false}
use mathlib.Core.List.{List, [], ◌∷◌, ◌++◌, append_assoc, append-nil}
use lib.ListN.{length}
use borrow.Author.Tests.{le-leb}
use Rattle.specification.specs.Lists.{Each}
use Rattle.specification.specs.Bytes.{Bytes, bytes, pick, between, begins, feed, colon, class_of, class_number, is_in, in_token}
use Rattle.specification.specs.Number.{printℕ}
use Rattle.specification.specs.Parser.{Reader, Parser, give, ◌>>=◌}
use Rattle.specification.specs.Lines.{Declared}
use Rattle.specification.specs.Ast.{Formula, Procedure}
use Rattle.specification.specs.Sheet.{with_parameters, with_procedures, procedure_line, procedure_lines}
use Rattle.specification.specs.Text.{formula_words, spelt, procedure_key, procedure_text, procedures_text}
use Rattle.specification.specs.Tidy.{any_empty, dropped, token_count, numbered, tokens_before}
use Rattle.specification.proofs.Laws.Parser.{Post, holds, map-post, both_post, bind-post}
use Rattle.specification.proofs.Laws.LineReaders.{count_by}
use Rattle.specification.proofs.Laws.ReadLines.{count_post}
use Rattle.specification.proofs.Laws.Canonical.{starts}
use Rattle.specification.proofs.Laws.Pieces.{feed-piece, colon-piece, exactly-piece, count-piece}
use Rattle.specification.proofs.Laws.LinePieces.{stays}
use Rattle.specification.proofs.Laws.Legible.{Shape, counts, shape_of, counts-++, Legible, binders}
use Rattle.specification.proofs.Laws.Taken.{Taken, taken_none, taken-both, taken-same, still-taken}
use Rattle.specification.proofs.Laws.WordPieces.{NoToken, Fits}
use Rattle.specification.proofs.Laws.FormulaPieces.{AsRead, formula-spelt}
use Rattle.specification.proofs.Laws.Tidied.{each-dropped}
use Rattle.specification.proofs.Laws.TidiedSheet.{with_line, NumberedLines}

-- ---- procedures in order

-- an edition has the words of a procedure
abbrev pub ProcedureFits : ℕ → Procedure → Type 0
ProcedureFits edition P = Each (Fits edition) (formula_words P.formula)

-- it has the words that are written for an empty range
pub fits-dropped : (edition : ℕ) (F : Formula) → Each (Fits edition) (formula_words F) → Each (Fits edition) (formula_words (dropped F))
fits-dropped edition F h = each-dropped (Fits edition) (tt, tt, tt, tt) F h

-- how deep a line's formula is nested at most
abbrev pub deepest : ℕ
deepest = 64

-- in a line with so many parameters, and after it
abbrev pub in_line : ℕ → Shape → Shape
in_line n H = record { scalars = H.scalars; locals = H.locals; arrays = H.arrays; parameters = n; called = H.called }

abbrev after_line : ℕ → Shape → Shape
after_line n H = record {
  scalars = H.scalars;
  locals = H.locals;
  arrays = H.arrays;
  parameters = H.parameters;
  called = H.called ++ (n ∷ []);
}

unfoldable pub LegibleLines : Shape → List Procedure → Type 0
LegibleLines H [] = Unit {0}
LegibleLines H (P ∷ Ps) =
    (between 0 8 P.parameters ≡ true) × Legible (in_line P.parameters H) deepest [] P.formula × LegibleLines (after_line P.parameters H) Ps

unfoldable pub binders_of : List Procedure → List ℕ
binders_of [] = []
binders_of (P ∷ Ps) = binders P.formula ++ binders_of Ps

pub tokens-more : (Ps : List Procedure) (P : Procedure) → tokens_before (with_line Ps P) ≡ tokens_before Ps + token_count P.formula
unfolding tokens_before
tokens-more [] P = omega arith
tokens-more (Q ∷ Ps) P = omega (arith, tokens-more Ps P)

-- one procedure more
abbrev pub with_next : Declared → Procedure → Declared
with_next D P = with_procedures (with_line D.procedures P) D

pub shape-next : (D : Declared) (P : Procedure) → shape_of (with_next D P) ≡ after_line P.parameters (shape_of D)
unfolding counts
shape-next D P =
    ap (λ ns. record { scalars = D.scalars; locals = D.locals; arrays = length D.arrays; parameters = D.parameters; called = ns })
    (counts-++ D.procedures (P ∷ []))

pub feed-token : (w : Bytes) → NoToken (10 ∷ w)
unfolding starts in_token is_in class_number class_of
feed-token w = refl

-- a line's parts, one by one
pub line-parts : (P : Procedure) (t : Bytes) → bytes "proc=" ++ (printℕ P.parameters ++ (bytes ":" ++ t)) ≡ procedure_key P ++ t
line-parts P t =
    sym (append_assoc (bytes "proc=") (printℕ P.parameters ++ bytes ":") t
    ∙ ap (λ (x : Bytes). bytes "proc=" ++ x) (append_assoc (printℕ P.parameters) (bytes ":") t))

-- no line of a procedure comes next
abbrev pub NoProcedure : Bytes → Type 0
NoProcedure w = begins (bytes "p") w ≡ false

module _ (refusing : Bool) where
  -- ---- what is read

  record LinePiece (D : Declared) (r : Reader) (P : Procedure) (r' : Reader) : Type 0 where
    few : between 0 8 P.parameters ≡ true
    fits : ProcedureFits D.edition P
    taken : Taken (procedure_text D.edition P) (token_count P.formula) (binders P.formula) r r'
    read : AsRead refusing (with_parameters P.parameters D) deepest [] r.tokens P.formula

  line-piece : (D : Declared) (r : Reader) → Post (LinePiece D r) (procedure_line refusing D r)
  unfolding procedure_line procedure_text
  line-piece D r =
      bind-post (both_post (exactly-piece 3 (bytes "proc=") r) (stays.exactly 3 (bytes "proc=") refl r)) λ u r₁ (h₁, s₁).
      bind-post (both_post (both_post (count-piece 0 8 r₁) (count_by stays 0 8 r₁)) (count_post 0 8 r₁)) λ n r₂ ((h₂, s₂), (low, high)).
      bind-post (both_post (colon-piece r₂) (stays.mark colon r₂)) λ u r₃ (h₃, s₃).
      bind-post (formula-spelt refusing (with_parameters n D) deepest [] r₃) λ F r₄ (h₄, good).
      bind-post (both_post (feed-piece r₄) (stays.mark feed r₄)) λ u r₅ (h₅, s₅).
      let P : Procedure = record { parameters = n; formula = F } in
      let tokens : r₃.tokens ≡ r.tokens = sym (s₁.0 ∙ s₂.0 ∙ s₃.0) in
      holds (record {
        few = rw (le-leb 0 n low, le-leb n 8 high);
        fits = h₄.fits;
        taken =
            subst (λ (ls : List ℕ). Taken (procedure_key P ++ (spelt D.edition (formula_words F) ++ bytes "\n")) (token_count F) ls r r₅)
            (append-nil (binders F))
            (taken-same (line-parts P _) (omega arith) (taken-both (still-taken h₁ s₁) (taken-both (still-taken h₂ s₂) (taken-both (still-taken h₃ s₃)
            (taken-both h₄.taken (still-taken h₅ s₅))))));
        read = subst (λ (m : ℕ). AsRead refusing (with_parameters n D) deepest [] m F) tokens good;
      })

  -- the procedures after those of the lines before
  pub record LinesPiece (D : Declared) (k : ℕ) (r : Reader) (Ps : List Procedure) (r' : Reader) : Type 0 where
    pub new : List Procedure
    pub all : Ps ≡ D.procedures ++ new
    pub few : length new ≤ k
    pub fits : Each (ProcedureFits D.edition) new
    pub taken : Taken (procedures_text D.edition new) (tokens_before new) (binders_of new) r r'
    pub legible : LegibleLines (shape_of D) new
    pub numbers : NumberedLines D.procedures new
    pub orderly : refusing ≡ true → any_empty new ≡ false

  -- one more line, or none
  abbrev pub lines_after : ℕ → Declared → Bool → Parser (List Procedure)
  lines_after k D more = pick more (procedure_line refusing D >>= λ P. procedure_lines refusing k (with_next D P)) (give D.procedures)

  no_more : (D : Declared) (k : ℕ) (r : Reader) → LinesPiece D k r D.procedures r
  unfolding procedures_text tokens_before binders_of LegibleLines NumberedLines any_empty Each
  no_more D k r = record {
    new = [];
    all = sym (append-nil D.procedures);
    few = omega arith;
    fits = tt;
    taken = taken_none r;
    legible = tt;
    numbers = tt;
    orderly = λ h. refl;
  }

  module _ (k : ℕ) (D : Declared) (r : Reader) (tokens : r.tokens ≡ tokens_before D.procedures)
      (f : (P : Procedure) (r₁ : Reader) → r₁.tokens ≡ tokens_before (with_line D.procedures P) →
      Post (LinesPiece (with_next D P) k r₁) (procedure_lines refusing k (with_next D P) r₁)) where
    more-piece : (more : Bool) → Post (LinesPiece D (suc k) r) (lines_after k D more r)
    unfolding procedures_text tokens_before binders_of LegibleLines NumberedLines any_empty Each
    more-piece true =
        bind-post (line-piece D r) λ P r₁ h.
        let next : r₁.tokens ≡ tokens_before (with_line D.procedures P) = omega (arith, h.taken.tokens, tokens, tokens-more D.procedures P) in
        map-post (λ Ps r₂ l. record {
          new = P ∷ l.new;
          all = l.all ∙ append_assoc D.procedures (P ∷ []) l.new;
          few = omega (arith, l.few);
          fits = (h.fits, l.fits);
          taken = taken-both h.taken l.taken;
          legible = (h.few, h.read.legible, subst (λ H. LegibleLines H l.new) (shape-next D P) l.legible);
          numbers = (subst (λ (m : ℕ). numbered D.procedures m P.formula ≡ P.formula) tokens h.read.same, l.numbers);
          orderly = λ e. rw (h.read.orderly e) (l.orderly e);
        }) (f P r₁ next)
    more-piece false = holds (no_more D (suc k) r)

  pub lines-piece : (k : ℕ) (D : Declared) (r : Reader) → r.tokens ≡ tokens_before D.procedures →
      Post (LinesPiece D k r) (procedure_lines refusing k D r)
  unfolding procedure_lines
  lines-piece zero D r e = holds (no_more D zero r)
  lines-piece (suc k) D r e = more-piece k D r e (λ P r₁ d. lines-piece k (with_next D P) r₁ d) (begins (bytes "p") r.rest)
