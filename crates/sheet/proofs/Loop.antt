-- The loop over the formula's tokens: what its variables stand for before a token and behind it, where it begins, and where it ends or goes
-- on. One turn is in Scan. Assumes nothing.
use Prim.Native.Nat.{ℕ, suc, ◌+◌, ◌≤◌}
use native.Mathlib.Nat.{add-zero}
use native.Mathlib.Omega.{arith}
use mathlib.Core.Path.{◌≡◌, refl, sym, ap, ◌∙◌}
use mathlib.Core.Bool.{true, false}
use mathlib.Core.List.{List, [], ◌∷◌}
use lib.ListN.{length, drop, set}
use lib.Seq.{drop-drop}
use Rattle.specification.specs.Bytes.{space}
use Rattle.specification.specs.Parser.{refused, found, next, mark}
use Rattle.specification.specs.Lines.{Declared}
use Rattle.specification.specs.Formula.{Locals}
use Rattle.tables.specs.Layout.{max_tokens, max_nesting, max_dues, path_at}
use Rattle.sheet.specs.declared.Token.{Token}
use Rattle.sheet.specs.declared.formula.Limits.{Limits}
use Rattle.sheet.specs.Reader.{reader_at, line_at}
use Rattle.sheet.specs.Sorts.{formula_sort}
use Rattle.sheet.specs.Dues.{Due, due_formula, left, left_here}
use Rattle.sheet.specs.Tables.{Words, laid_tokens}
use Rattle.sheet.specs.Stack.{Bits, Kept, entry, entered, Stacked, Beside}
use Rattle.sheet.specs.FormulaLine.{Small, Sized, Known, Begin, refusing_at, whole, Through}
use Rattle.sheet.proofs.Keys.{mark-found, mark-refused}
use Rattle.sheet.proofs.Left.{left-none, left-space, left-no-space}
use Rattle.sheet.proofs.Bounds.{Fits, fits-start, fits-length}
use Rattle.sheet.proofs.Bits.{bits_none}
use Rattle.sheet.proofs.Entries.{stacked-put, beside-self, beside-then, beside-put}
use Rattle.sheet.proofs.RangeDues.{Plains, Tops}
use Rattle.sheet.proofs.Beside.{beside-tokens}
use Rattle.sheet.proofs.Procs.{sized_same, known_same}

-- ---- what the variables stand for

module _ (b : Begin) (w₀ w : Words) (n count bound at word : ℕ) where
  -- before a token: the first entry of the stack is due here
  pub record Reading : Type 0 where
    pub locals : Locals
    pub due : Due
    pub dues : List Due
    pub read : List Token
    pub depth : n ≡ suc (length dues)
    pub number : b.tokens + length read ≡ count
    pub low : n ≤ max_dues
    pub few : count ≤ max_tokens
    pub within : at ≤ length b.bytes
    pub long : length w ≡ length w₀
    pub set : Bits bound locals
    pub fits : Fits (due ∷ dues)
    pub stack : Stacked w (due ∷ dues)
    pub first : Kept w count word due
    pub later : Plains dues
    pub table : Beside (laid_tokens b.tokens read w₀) w
    pub rest : (D : Declared) → Known b.limits w₀ D → whole b D ≡ left_here (refusing_at b) D due dues read (reader_at b.bytes at count locals)

  -- behind a token
  pub record Taken : Type 0 where
    pub locals : Locals
    pub dues : List Due
    pub read : List Token
    pub depth : n ≡ length dues
    pub number : b.tokens + length read ≡ count
    pub few : count ≤ max_tokens
    pub within : at ≤ length b.bytes
    pub long : length w ≡ length w₀
    pub set : Bits bound locals
    pub fits : Fits dues
    pub stack : Stacked w dues
    pub tops : Tops w count word dues
    pub table : Beside (laid_tokens b.tokens read w₀) w
    pub rest : (D : Declared) → Known b.limits w₀ D → whole b D ≡ left (refusing_at b) D dues read (reader_at b.bytes at count locals)

-- ---- the start

pub reading-start : (b : Begin) (w : Words) (m : ℕ) → Bits m b.bound → b.from ≤ length b.bytes → b.tokens ≤ max_tokens → path_at ≤ length w →
    Reading b (entered w 0 (entry formula_sort max_nesting 0)) (entered w 0 (entry formula_sort max_nesting 0)) 1 b.tokens m b.from b.from
unfolding laid_tokens Stacked Plains
reading-start b w m set h few k = record {
  locals = b.bound;
  due = due_formula max_nesting [];
  dues = [];
  read = [];
  depth = refl;
  number = add-zero b.tokens;
  low = omega arith;
  few = few;
  within = h;
  long = refl;
  set = set;
  fits = fits-start;
  stack = stacked-put w (due_formula max_nesting []) [] 0 (entry formula_sort max_nesting 0) refl (omega arith) (record { sort = refl; room = refl; scope = bits_none }) tt;
  first = tt;
  later = tt;
  table = beside-self _;
  rest = λ D g. refl;
}

-- ---- behind a token

module _ {b : Begin} {w₀ w : Words} {n count bound e word : ℕ} (i : Taken b w₀ w n count bound e word) where
  pub taken-last : n ≡ 0 → Through b w₀ w count e bound
  taken-last z = record {
    tokens = i.read;
    locals = i.locals;
    count = i.number;
    few = i.few;
    within = i.within;
    set = i.set;
    words = i.table;
    all = λ D g. i.rest D g ∙ ap (λ ds. left (refusing_at b) D ds i.read (reader_at b.bytes e count i.locals))
        (none i.dues (sym i.depth ∙ z)) ∙ left-none (refusing_at b) D i.read _;
  }
    where
      none : (ds : List Due) → length ds ≡ 0 → ds ≡ []
      none [] q = refl
      none (d ∷ ds) q = absurd (omega arith)

  module _ (h : n ≡ 0 → ⊥) where
    pub taken-stops : {k p : ℕ} → refused k p ≡ mark space (line_at b.bytes e) → (D : Declared) → Known b.limits w₀ D → whole b D ≡ refused k p
    taken-stops c D g = let m = mark-refused b.bytes e space c in i.rest D g ∙ by m.0 i.dues i.depth ∙ rw (m.1, m.2)
      where
        by : next space (drop e b.bytes) ≡ false → (ds : List Due) → n ≡ length ds → left (refusing_at b) D ds i.read (reader_at b.bytes e count i.locals) ≡ refused 5 e
        by s [] q = absurd (h q)
        by s (d ∷ ds) q = left-no-space (refusing_at b) D d ds i.read (reader_at b.bytes e count i.locals) s

    pub taken_next : {at : ℕ} → found tt (line_at b.bytes at) ≡ mark space (line_at b.bytes e) → at ≤ length b.bytes → Reading b w₀ w n count bound at word
    unfolding Tops
    taken_next {at} c l = by i.dues i.depth i.fits i.stack i.tops i.rest
      where
        yes : next space (drop e b.bytes) ≡ true
        yes = (mark-found b.bytes e space c).0

        there : at ≡ e + 1
        there = (mark-found b.bytes e space c).1

        by : (ds : List Due) → n ≡ length ds → Fits ds → Stacked w ds → Tops w count word ds →
            ((D : Declared) → Known b.limits w₀ D → whole b D ≡ left (refusing_at b) D ds i.read (reader_at b.bytes e count i.locals)) →
            Reading b w₀ w n count bound at word
        by [] q f k o r = absurd (h q)
        by (d ∷ ds) q f k o r = record {
          locals = i.locals;
          due = d;
          dues = ds;
          read = i.read;
          depth = q;
          number = i.number;
          low = omega (arith, fits-length (d ∷ ds) f);
          few = i.few;
          within = l;
          long = i.long;
          set = i.set;
          fits = f;
          stack = k;
          first = o.0;
          later = o.1;
          table = i.table;
          rest = λ D g. r D g ∙ left-space (refusing_at b) D d ds i.read (reader_at b.bytes e count i.locals)
              yes ∙ rw (there, drop-drop);
        }

-- the words before the first entry was put
pub known_start : {l : Limits} {D : Declared} (w w₀ : Words) → w₀ ≡ entered w 0 (entry formula_sort max_nesting 0) → Known l w D → Known l w₀ D
known_start w w₀ q g = known_same w w₀ (λ j a c. rw q ((beside-put w 0 (entry formula_sort max_nesting 0) (omega arith)).below j c)) g

pub sized-start : {l : Limits} (w w₀ : Words) → w₀ ≡ entered w 0 (entry formula_sort max_nesting 0) → Small l → Sized l w → Sized l w₀
sized-start w w₀ q s h = sized_same w w₀ (λ j a c. rw q ((beside-put w 0 (entry formula_sort max_nesting 0) (omega arith)).below j c)) s h

pub through-start : {b : Begin} {w₀ w w' : Words} {n e m : ℕ} → w₀ ≡ entered w 0 (entry formula_sort max_nesting 0) → path_at ≤ length w →
    Through b w₀ w' n e m → Through b w w' n e m
through-start {b} {w = w} q h p =
    let put = beside-put w 0 (entry formula_sort max_nesting 0) (omega arith) in
    record {
      tokens = p.tokens;
      locals = p.locals;
      count = p.count;
      few = p.few;
      within = p.within;
      set = p.set;
      words = beside-then (beside-tokens p.tokens b.tokens (omega (arith, p.count, p.few)) (rw q put)) p.words;
      all = λ D g. p.all D (known_start w _ q g);
    }
