-- The lines of procedures: whether one follows, and its number of parameters. Its formula is in ProcedureBody. Assumes nothing.
use Prim.Native.Nat.{ℕ, zero, suc, pred, ◌≤◌, ◌<◌}
use native.Mathlib.Omega.{arith}
use mathlib.Core.Path.{◌≡◌, refl, sym, ap, ◌∙◌}
use mathlib.Core.Bool.{Bool, true, false, ◌&&◌}
use mathlib.Core.List.{List, [], ◌∷◌, ◌++◌}
use lib.ListN.{length, drop}
use lib.Dec.{eqb, ltb}
use borrow.Author.Tests.{ltb-true, ltb-false}
use Rattle.specification.specs.declared.refusals.Refusal.{Refusal}
use Rattle.specification.specs.Bytes.{Bytes, bytes, pick, Class, feed, colon, begins}
use Rattle.specification.specs.Parser.{Reader, Read, refused, found, Parser, give, and_then, ◌>>=◌, ◌>>◌, mark, key}
use Rattle.specification.specs.Lines.{count, Declared}
use Rattle.specification.specs.Given.{Item}
use Rattle.specification.specs.Ast.{Formula, Procedure}
use Rattle.specification.specs.Formula.{formula}
use Rattle.specification.specs.Sheet.{with_parameters, with_procedures, procedure_line, procedure_lines, most_procedures, Sheet, sheet}
use Rattle.specification.proofs.Laws.Parser.{Post, holds, of-found, bind-post, after, and-true}
use Rattle.specification.proofs.Laws.ReadLines.{count_post}
use Rattle.tables.specs.Layout.{max_nesting, max_procs}
use Rattle.sheet.specs.declared.formula.Limits.{Limits}
use Rattle.sheet.specs.declared.formula.Reached.{Reached}
use Rattle.sheet.specs.declared.reader.Progress.{Progress}
use Rattle.sheet.specs.Reader.{reader_at, line_at}
use Rattle.sheet.specs.Tables.{Words}
use Rattle.sheet.specs.Answers.{number_to}
use Rattle.sheet.specs.FormulaLine.{line_formula, refuses_in}
use Rattle.sheet.specs.Rest.{from_formula, from_procedures, one_more, from_body}
use Rattle.sheet.specs.Whole.{Stopped, Filled, left_lines, follows, Begun}
use Rattle.sheet.proofs.Alike.{later_read, number-alike}

-- ---- whether a line follows

pub few-procedures : (edition : ℕ) → most_procedures edition ≤ max_procs
few-procedures edition = by (eqb edition 1)
  where
    by : (b : Bool) → pick b 0 16 ≤ max_procs
    by true = omega arith
    by false = omega arith

-- none follows
no_lines : (refusing : Bool) (k : ℕ) (D : Declared) (r : Reader) → begins (bytes "p") r.rest ≡ false →
    procedure_lines refusing k D r ≡ found D.procedures r
unfolding procedure_lines
no_lines refusing zero D r e = refl
no_lines refusing (suc k) D r e = rw e

none_left : (refusing : Bool) (D : Declared) (r : Reader) → procedure_lines refusing 0 D r ≡ found D.procedures r
unfolding procedure_lines
none_left refusing D r = refl

module _ (s : Bytes) (n : ℕ) (w : Words) where
  pub no_more : (p : Progress) → false ≡ follows s p → Filled (left_lines p.limits) s n p w → Filled 0 s n p w
  no_more p e h = record {
    declared = D;
    items = h.items;
    locals = h.locals;
    rest = h.rest ∙ ap (and_then on) (over (ltb d.procedures (most_procedures d.edition)) refl (sym e) ∙ sym (none_left (refuses_in d) D r));
    counts = h.counts;
    plain = h.plain;
    small = h.small;
    set = h.set;
    tokens = h.tokens;
    few = h.few;
    words = h.words;
    long = h.long;
    enough = h.enough;
  }
    where
      d : Limits
      d = p.limits

      x : Reached
      x = p.reached

      D : Declared
      D = h.declared

      r : Reader
      r = reader_at s x.at x.tokens h.locals

      on : List Procedure → Parser Sheet
      on Ps = from_formula (refuses_in d) (with_procedures Ps D) h.items

      over : (b : Bool) → ltb d.procedures (most_procedures d.edition) ≡ b → (b && begins (bytes "p") (drop x.at s)) ≡ false →
          procedure_lines (refuses_in d) (left_lines d) D r ≡ found D.procedures r
      over true q f = no_lines (refuses_in d) (left_lines d) D r f
      over false q f =
          let z : left_lines d ≡ 0 = omega (arith, ltb-false d.procedures (most_procedures d.edition) q) in
          ap (λ k. procedure_lines (refuses_in d) k D r) z ∙ none_left (refuses_in d) D r

-- ---- a line up to its formula

module _ (refusing : Bool) (k : ℕ) (D : Declared) (is : List Item) (r : Reader) where
  abbrev made : ℕ → Formula → Procedure
  made m F = record { parameters = m; formula = F }

  line-parts : procedure_line refusing D r ≡
      and_then (λ m. line_formula refusing (with_parameters m D) >>= λ F. give (made m F)) (number_to (bytes "proc=") 0 8 colon r)
  unfolding procedure_line line_formula
  line-parts = by_key (key (bytes "proc=") r)
    where
      rest : ℕ → Parser Procedure
      rest m = formula refusing (with_parameters m D) max_nesting [] >>= λ F. mark feed >> give (made m F)

      split : ℕ → Parser Procedure
      split m = (formula refusing (with_parameters m D) max_nesting [] >>= λ F. mark feed >> give F) >>= λ F. give (made m F)

      by-feed : (m : ℕ) (F : Formula) (x : Read (Unit {0})) → and_then (λ u. give (made m F)) x ≡ and_then (λ G. give (made m G)) (and_then (λ u. give F) x)
      by-feed m F (refused n p) = refl
      by-feed m F (found u r) = refl

      by-formula : (m : ℕ) (x : Read Formula) →
          and_then (λ F. mark feed >> give (made m F)) x ≡ and_then (λ F. give (made m F)) (and_then (λ F. mark feed >> give F) x)
      by-formula m (refused n p) = refl
      by-formula m (found F r) = by-feed m F (mark feed r)

      by-colon : (m : ℕ) (x : Read (Unit {0})) → and_then (λ u. rest m) x ≡ and_then split (and_then (λ u. give m) x)
      by-colon m (refused n p) = refl
      by-colon m (found u r) = by-formula m (formula refusing (with_parameters m D) max_nesting [] r)

      by_count : (x : Read ℕ) → and_then (λ m. mark colon >> rest m) x ≡ and_then split (and_then (λ m. mark colon >> give m) x)
      by_count (refused n p) = refl
      by_count (found m r) = by-colon m (mark colon r)

      by_key : (x : Read (Unit {0})) →
          and_then (λ u. count 0 8 >>= λ m. mark colon >> rest m) x ≡ and_then split (and_then (λ u. count 0 8 >>= λ m. mark colon >> give m) x)
      by_key (refused n p) = refl
      by_key (found u r) = by_count (count 0 8 r)

  body-sheet : begins (bytes "p") r.rest ≡ true →
      from_procedures refusing (suc k) D is r ≡ and_then (λ m. from_body refusing k D is m) (number_to (bytes "proc=") 0 8 colon r)
  unfolding procedure_lines
  body-sheet e =
      rw (e, line-parts) (by_number (number_to (bytes "proc=") 0 8 colon r))
    where
      on : List Procedure → Parser Sheet
      on Ps = from_formula refusing (with_procedures Ps D) is

      lines : Procedure → Parser (List Procedure)
      lines P = procedure_lines refusing k (with_procedures (D.procedures ++ (P ∷ [])) D)

      by-body : (m : ℕ) (x : Read Formula) →
          and_then on (and_then lines (and_then (λ F. give (made m F)) x)) ≡ and_then (λ F. from_procedures refusing k (one_more D m F) is) x
      by-body m (refused n p) = refl
      by-body m (found F r) = refl

      by_number : (x : Read ℕ) →
          and_then on (and_then lines (and_then (λ m. line_formula refusing (with_parameters m D) >>= λ F. give (made m F)) x)) ≡
          and_then (λ m. from_body refusing k D is m) x
      by_number (refused n p) = refl
      by_number (found m r) = by-body m (line_formula refusing (with_parameters m D) r)

number-within : (k : Bytes) (lo hi : ℕ) (c : Class) (r : Reader) → Post (λ n r'. n ≤ hi) (number_to k lo hi c r)
number-within k lo hi c r =
    after (key k r) λ u r₁.
    bind-post (count_post lo hi r₁) λ n r₂ h.
    after (mark c r₂) λ u r₃. holds h.1

module _ (s : Bytes) (n : ℕ) (p : Progress) (w : Words) (h : (follows s p ≡ true) × Filled (left_lines p.limits) s n p w) where
  abbrev d : Limits
  d = p.limits

  abbrev x : Reached
  x = p.reached

  abbrev D : Declared
  D = h.1.declared

  abbrev here : Reader
  here = reader_at s x.at x.tokens h.1.locals

  known_more : (d.procedures < most_procedures d.edition) × (begins (bytes "p") (drop x.at s) ≡ true)
  known_more = let (a, b) = and-true _ _ h.0 in (ltb-true _ _ a, b)

  abbrev on : ℕ → Parser Sheet
  on m = from_body (refuses_in d) (pred (left_lines d)) D h.1.items m

  -- the rest of the sheet from the number on
  headed : {c : Read ℕ} → c ≡ number_to (bytes "proc=") 0 8 colon (line_at s x.at) → sheet d.strict (line_at s 0) ≡ and_then on (later_read x.tokens h.1.locals c)
  headed told =
      let e : left_lines d ≡ suc (pred (left_lines d)) = omega (arith, known_more.0) in
      h.1.rest ∙ ap (λ k. from_procedures (refuses_in d) k D h.1.items here) e ∙
      body-sheet (refuses_in d) (pred (left_lines d)) D h.1.items here known_more.1 ∙
      ap (and_then on)
      (number-alike x.tokens h.1.locals (bytes "proc=") 0 8 colon (line_at s x.at) ∙ ap (later_read x.tokens h.1.locals) (sym told))

  pub head-refused : (e : Refusal) → refused e.number e.place ≡ number_to (bytes "proc=") 0 8 colon (line_at s x.at) → Stopped d.strict s e
  head-refused e told = headed told

  pub head-found : {m from : ℕ} → found m (line_at s from) ≡ number_to (bytes "proc=") 0 8 colon (line_at s x.at) → from ≤ length s → Begun s n p m from w
  head-found {m} {from} told inside = record {
    more = known_more.0;
    filled = h.1;
    parameters = of-found (number-within (bytes "proc=") 0 8 colon (line_at s x.at)) (sym told);
    within = inside;
    rest = headed told;
  }
