-- A formula's line from its parts: the tokens and a line feed; for the sheet's formula the key before them and the sheet's end after them.
-- Assumes nothing.
use Prim.Native.Nat.{ℕ, ◌<◌, ◌≤◌}
use native.Mathlib.Omega.{arith}
use mathlib.Core.Path.{◌≡◌, sym, ap, ◌∙◌}
use mathlib.Core.List.{[], ◌++◌}
use lib.ListN.{length, drop_of_length-le, length-append}
use lib.Seq.{drop-cons, drop-drop}
use Rattle.specification.specs.Bytes.{bytes, feed}
use Rattle.specification.specs.Parser.{Reader, Read, refused, found, give, and_then, ◌>>◌, mark, key, exactly, finish}
use Rattle.specification.specs.Lines.{Declared}
use Rattle.specification.specs.Ast.{Formula}
use Rattle.specification.specs.Formula.{formula}
use Rattle.tables.specs.Layout.{max_nesting, path_at}
use Rattle.sheet.specs.Codes.{formula_tokens}
use Rattle.sheet.specs.Reader.{reader_at, line_at}
use Rattle.sheet.specs.Tables.{Words, laid_ends}
use Rattle.sheet.specs.Ends.{tokens_in}
use Rattle.sheet.specs.FormulaLine.{line_formula, formula_rest, Known, Begin, begin, at_begin, refusing_at, whole, Through, Closed, Laid}
use Rattle.sheet.proofs.Keys.{exactly-found, exactly-refused, mark-found, mark-refused}
use Rattle.sheet.proofs.Left.{left-formula, spelled-found, spelled-refused}
use Rattle.sheet.proofs.Laid.{tokens-length, ends-length}
use Rattle.sheet.proofs.Beside.{beside-ends}
use Rattle.sheet.proofs.Subtrees.{tokens-in-length, beside-tokens-behind}

-- ---- the tokens and the line feed

-- what follows the formula
abbrev closing : Formula → Reader → Read Formula
closing F = mark feed >> give F

module _ (b : Begin) (D : Declared) where
  abbrev reads : Read Formula
  reads = formula (refusing_at b) D max_nesting [] (at_begin b)

  line_read : (x : Read Formula) → reads ≡ x → line_formula (refusing_at b) D (at_begin b) ≡ and_then closing x
  unfolding line_formula
  line_read x e = ap (and_then closing) e

  pub line_refused : (k p : ℕ) → whole b D ≡ refused k p → line_formula (refusing_at b) D (at_begin b) ≡ refused k p
  line_refused k p h = line_read (refused k p) (spelled-refused reads (left-formula (refusing_at b) D (at_begin b) ∙ h))

module _ {b : Begin} {w w' : Words} {n e m : ℕ} (p : Through b w w' n e m) where
  pub through-long : length w' ≡ length w
  through-long = p.words.long ∙ tokens-length b.tokens p.tokens w

  module _ (D : Declared) (g : Known b.limits w D) where
    spelt : (F : Formula) × (reads b D ≡ found F (reader_at b.bytes e n p.locals)) × (formula_tokens F ≡ p.tokens)
    spelt = spelled-found (reads b D) (left-formula (refusing_at b) D (at_begin b) ∙ p.all D g)

    pub through-no-feed : {k q : ℕ} → refused k q ≡ mark feed (line_at b.bytes e) → line_formula (refusing_at b) D (at_begin b) ≡ refused k q
    unfolding mark
    through-no-feed h = let (q, k, p) = mark-refused b.bytes e feed h in line_read b D _ spelt.1 ∙ rw (q, k, p)

    pub through-feed : {c : ℕ} → found tt (line_at b.bytes c) ≡ mark feed (line_at b.bytes e) → c ≤ length b.bytes → Closed b D w w' n c m
    unfolding mark
    through-feed h l = let (q, a) = mark-found b.bytes e feed h in record {
      formula = spelt.0;
      locals = p.locals;
      is = line_read b D _ spelt.1 ∙ rw (q, drop-drop, sym a);
      count = rw spelt.2 p.count;
      few = p.few;
      within = l;
      set = p.set;
      words = rw spelt.2 p.words;
    }

-- ---- the sheet's formula

-- behind the key
abbrev pub keyed : Begin → ℕ → Begin
keyed b from = begin b.bytes b.limits from b.tokens b.bound

-- what follows the line feed
abbrev ending : Formula → Reader → Read Formula
ending F = finish >> give F

module _ (b : Begin) (D : Declared) where
  pub rest-no-key : {k p : ℕ} → refused k p ≡ key (bytes "formula=") (line_at b.bytes b.from) → formula_rest (refusing_at b) D (at_begin b) ≡ refused k p
  unfolding formula_rest exactly
  rest-no-key h = let (q, k, p) = exactly-refused b.bytes b.from (bytes "formula=") 3 h in rw (q, k, p)

  module _ {from : ℕ} (begun : found tt (line_at b.bytes from) ≡ key (bytes "formula=") (line_at b.bytes b.from)) where
    rest-key : (x : Read Formula) → line_formula (refusing_at b) D (at_begin (keyed b from)) ≡ x →
        formula_rest (refusing_at b) D (at_begin b) ≡ and_then ending x
    unfolding formula_rest exactly
    rest-key x h =
        let (q, a) = exactly-found b.bytes b.from (bytes "formula=") 3 begun in
        rw (q, drop-drop, sym a) (ap (and_then ending) h)

    pub rest-refused : {k p : ℕ} → line_formula (refusing_at b) D (at_begin (keyed b from)) ≡ refused k p →
        formula_rest (refusing_at b) D (at_begin b) ≡ refused k p
    rest-refused h = rest-key _ h

    module _ {w w' : Words} {n c m : ℕ} (p : Closed (keyed b from) D w w' n c m) where
      pub rest-long : length w' ≡ length w
      rest-long = p.words.long ∙ tokens-length b.tokens (formula_tokens p.formula) w

      pub rest_more : c < length b.bytes → formula_rest (refusing_at b) D (at_begin b) ≡ refused 5 c
      rest_more l = rest-key _ p.is ∙ rw (drop-cons b.bytes c 0 l)

      pub rest_end : length b.bytes ≤ c → path_at ≤ length w → (w'' : Words) → w'' ≡ laid_ends 0 (tokens_in w' 0 n) w' →
          Laid b D w w'' n
      rest_end l k w'' x =
          let ts = formula_tokens p.formula in
          let all = tokens_in w 0 b.tokens ++ ts in
          let size : length all ≡ n = length-append (tokens_in w 0 b.tokens) ts ∙ rw tokens-in-length p.count in
          let y : tokens_in w' 0 n ≡ all = beside-tokens-behind ts w w' b.tokens n p.count p.few k p.words in
          let v : w'' ≡ laid_ends 0 all w' = x ∙ ap (λ xs. laid_ends 0 xs w') y in
          record {
            formula = p.formula;
            after = reader_at b.bytes c n p.locals;
            is = rest-key _ p.is ∙ rw (drop_of_length-le b.bytes {i = c} l);
            count = p.count;
            few = p.few;
            long = ap length v ∙ ends-length 0 all w' ∙ rest-long;
            words = rw v (beside-ends all 0 (rw tokens-length (omega (arith, size, p.few))) p.words);
          }
