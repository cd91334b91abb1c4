-- One turn of the loop over the formula's tokens: a token that is refused, or one that may stand and what it makes due. Assumes nothing.
use Prim.Native.Nat.{ℕ, zero, suc, ◌+◌, ◌-◌, ◌<◌, ◌≤◌}
use native.Mathlib.Numerals.{add-one}
use native.Mathlib.Omega.{arith}
use mathlib.Core.Path.{◌≡◌, refl, sym, ap, subst, ◌∙◌}
use Rattle.std.specs.Prelude.{Option, Some, None}
use mathlib.Core.Bool.{Bool, true, false}
use mathlib.Core.List.{List, [], ◌∷◌, ◌++◌}
use lib.ListN.{length, get_or, set, take, drop, length-set, length-append}
use lib.Seq.{drop-drop, get_or-set_same, get_or-set_other}
use Rattle.specification.specs.Bytes.{in_token, run}
use Rattle.specification.specs.Parser.{Reader, refused}
use Rattle.specification.specs.Lines.{Declared}
use Rattle.specification.proofs.Laws.Contradiction.{contradiction}
use Rattle.text.proofs.Laws.Run.{end-le, end-part}
use Rattle.tables.specs.Layout.{max_tokens, max_locals, max_dues, token_slot, dues_at, path_at, operand_at}
use Rattle.specification.specs.declared.Reason.{Reason}
use Rattle.specification.specs.declared.Reason.TheVariants as reason
use Rattle.specification.specs.Refusals.{reason_number}
use Rattle.sheet.specs.declared.Token.{Token}
use Rattle.sheet.specs.Stack.{Entry}
use Rattle.sheet.specs.Reader.{reader_at}
use Rattle.sheet.specs.Sorts.{upper_sort, procedure_sort, operands_of}
use Rattle.sheet.specs.Dues.{Due, due_formula, due_term, due_procedure, due_ex, due_range, due_bounds, due_upper}
use Rattle.sheet.specs.Turn.{room, empties, word_place, opens, binds, word_for, token_in, token_at, fault_at, behind}
use Rattle.sheet.specs.Tables.{Words, laid_tokens}
use Rattle.sheet.specs.Stack.{sort_of, Means, Kept, Coded, sorted, entry_at, Stacked, Opened}
use Rattle.sheet.proofs.SortNumbers.{sorted-means}
use Rattle.sheet.specs.FormulaLine.{fault_number, Small, Sized, Known, Spells, Refuses, Binds, Begin, refusing_at, whole}
use Rattle.sheet.proofs.Turn.{turn-refused, turn-empty, turn-taken}
use Rattle.sheet.proofs.Bounds.{weights, Fits, fits-turn, fits-length}
use Rattle.sheet.proofs.Opened.{opens-length}
use Rattle.sheet.proofs.RangeDues.{Tops, word_after, tops-turn}
use Rattle.sheet.proofs.Entries.{stacked-same, beside-then}
use Rattle.sheet.proofs.Beside.{stored, beside-stored, tokens-more}
use Rattle.sheet.proofs.Faults.{fault-counted, suits-coded, Stands, stands}
use Rattle.sheet.proofs.Laid.{tokens-length}
use Rattle.sheet.proofs.Procs.{SameProcs, sized_same, known_same, same-tokens}
use Rattle.sheet.proofs.Loop.{Reading, Taken}

-- room for three more entries where nesting may go deeper
three : (ds : List Due) → weights ds + 3 ≤ max_dues → Fits ds → length ds + 3 ≤ max_dues
unfolding Fits weights
three ds h f = let x = due_term 0 [] in omega (arith, fits-length (x ∷ x ∷ x ∷ ds) (omega arith, (omega arith, (omega arith, f))))

fits-three : (d : Due) (ds : List Due) → 1 ≤ room d → Fits (d ∷ ds) → length ds + 3 ≤ max_dues
unfolding Fits weights
fits-three (due_formula k S) ds h f = three ds (omega arith) f.1
fits-three (due_term k S) ds h f = three ds (omega arith) f.1
fits-three (due_procedure k S) ds h f = three ds (omega arith) f.1
fits-three (due_ex k S) ds h f = three ds (omega arith) f.1
fits-three (due_range k S p) ds h f = three ds (omega arith) f.1
fits-three (due_bounds k S p) ds h f = three ds (omega arith) f.1
fits-three (due_upper k S p x) ds h f = three ds (omega arith) f.1

stacked-rest : (w : Words) (d : Due) (ds : List Due) → Stacked w (d ∷ ds) → Stacked w ds
unfolding Stacked
stacked-rest w d ds s = s.1

-- where an upper bound is due after a constant, that was read, and the place of the quantifier's word is known
upper-before : (w : Words) (n word : ℕ) (d : Due) → sort_of d ≡ upper_sort → Kept w n word d → 0 < n
upper-before w n word (due_formula k S) e h = absurd (omega arith)
upper-before w n word (due_term k S) e h = absurd (omega arith)
upper-before w n word (due_procedure k S) e h = absurd (omega arith)
upper-before w n word (due_ex k S) e h = absurd (omega arith)
upper-before w n word (due_range k S p) e h = absurd (omega arith)
upper-before w n word (due_bounds k S p) e h = absurd (omega arith)
upper-before w n word (due_upper k S p x) e h = h.1

empties-place : (w : Words) (n word : ℕ) (refusing : Bool) (t : Token) (d : Due) → Kept w n word d → empties refusing d t ≡ true → word_place d ≡ word
empties-place w n word refusing t (due_formula k S) h e = contradiction cc
empties-place w n word refusing t (due_term k S) h e = contradiction cc
empties-place w n word refusing t (due_procedure k S) h e = contradiction cc
empties-place w n word refusing t (due_ex k S) h e = contradiction cc
empties-place w n word refusing t (due_range k S p) h e = contradiction cc
empties-place w n word refusing t (due_bounds k S p) h e = contradiction cc
empties-place w n word refusing t (due_upper k S p x) h e = h.0

-- a reason has a number
numbered : (r : Reason) → 0 < reason_number r
numbered reason.Memory = omega arith
numbered reason.TooLong = omega arith
numbered reason.Key = omega arith
numbered reason.Number = omega arith
numbered reason.Byte = omega arith
numbered reason.Word = omega arith
numbered reason.Undeclared = omega arith
numbered reason.Binder = omega arith
numbered reason.TooMany = omega arith
numbered reason.NotRising = omega arith
numbered reason.Procedure = omega arith
numbered reason.Parameter = omega arith
numbered reason.OutOfRange = omega arith
numbered reason.EmptyRange = omega arith
numbered reason.NarrowRange = omega arith
numbered reason.Rounding = omega arith
numbered reason.EmptyBounds = omega arith

-- of what the code says of a token: why it is refused, or that it may stand
pub faulty : {o : Option Reason} {r : Reason} → o ≡ Some r → (fault_number o ≡ reason_number r) × (fault_number o ≡ 0 → ⊥)
faulty {r = r} e = let q = ap fault_number e in (q, λ z. omega (arith, numbered r, q, z))

pub faultless : {o : Option Reason} → o ≡ None → fault_number o ≡ 0
faultless e = ap fault_number e

-- what a token shows that may stand after so many others, with n entries on the stack
pub record May (e : Entry) (t : Token) (n count : ℕ) : Type 0 where
  pub room : 0 < e.room
  pub low : n - 1 + 3 ≤ max_dues
  pub number : count < max_tokens
  pub index : procedure_sort < e.sort → t.operand < max_locals
  pub operands : e.sort ≤ procedure_sort → n - 1 + (operands_of t.code).count ≤ max_dues
  pub coded : Coded e t.code
  pub before : e.sort ≡ upper_sort → 0 < count

-- the procedures' words stay
module _ {b : Begin} {w₀ w : Words} {n count bound at word : ℕ} (i : Reading b w₀ w n count bound at word) where
  pub same-procs : SameProcs w₀ w
  same-procs = same-tokens b.tokens i.read w₀ w (omega (arith, i.number, i.few)) i.table

  pub sized-here : Small b.limits → Sized b.limits w₀ → Sized b.limits w
  sized-here s h = sized_same w₀ w same-procs s h

-- the token at a place, with k its refusal
module _ {b : Begin} {w₀ w : Words} {n count bound at word : ℕ} (i : Reading b w₀ w n count bound at word)
    (small : Small b.limits) (wide : path_at ≤ length w₀) (e : ℕ) (is : e ≡ at + length (run in_token (drop at b.bytes)))
    (en : Entry) (top : en ≡ sorted (entry_at w (n - 1))) (t : Token) (spelt : Spells (take (e - at) (drop at b.bytes)) en.sort b.limits w t)
    (k : ℕ) (judged : Refuses b.limits en bound count t k) where
  means : Means en i.due
  unfolding Stacked
  means = let q : n - 1 ≡ length i.dues = omega (arith, i.depth) in rw (top, q) (sorted-means _ _ i.stack.0)

  abbrev refusing : Bool
  refusing = refusing_at b

  abbrev here : Reader
  here = reader_at b.bytes at count i.locals

  token-here : (D : Declared) → Known b.limits w₀ D → token_at D i.due here ≡ t
  unfolding token_at
  token-here D g =
      ap (λ bs. token_in D i.due (word_for D i.due bs)) (sym (end-part in_token b.bytes at e is)) ∙
      sym (spelt D i.due (known_same w₀ w (same-procs i) g) means.sort)

  fault-here : (D : Declared) → Known b.limits w₀ D → fault_at D i.due here ≡ k
  unfolding fault_at
  fault-here D g = rw (token-here D g, fault-counted g.counts i.due i.locals t) (sym (judged i.due i.locals means i.set))

  pub turn-stops : (k ≡ 0 → ⊥) → (D : Declared) → Known b.limits w₀ D → whole b D ≡ refused k at
  turn-stops h D g = by k h (fault-here D g)
    where
      by : (k : ℕ) → (k ≡ 0 → ⊥) → fault_at D i.due here ≡ k → whole b D ≡ refused k at
      by zero h q = absurd (h refl)
      by (suc m) h q = i.rest D g ∙ turn-refused refusing D g.counts.limited i.due i.dues i.read here m q

  -- where it may stand
  module _ (z : k ≡ 0) where
    standing : Stands b.limits i.due count t
    standing = stands b.limits i.due i.locals count t (sym (judged i.due i.locals means i.set) ∙ z)

    pub may : May en t n count
    may = record {
      room = omega (arith, means.room, standing.room);
      low = omega (arith, i.depth, fits-three i.due i.dues standing.room i.fits);
      number = standing.number;
      index = λ h. omega (arith, standing.index (omega (arith, means.sort)), small.locals);
      operands = λ h. omega (
        arith,
        i.depth,
        opens-length at i.due t i.dues (omega (arith, means.sort)),
        fits-length _ (fits-turn at i.due i.dues t standing.suits standing.room i.fits),
      );
      coded = suits-coded i.due en t.code means standing.suits;
      before = λ h. upper-before w count word i.due (sym means.sort ∙ h) i.first;
    }

    -- the token makes a range empty, or not
    module _ (empty : Bool) (tells : (d : Due) (p : ℕ) → Means en d → Kept w count p d → empty ≡ empties refusing d t) where
      told : (D : Declared) → Known b.limits w₀ D → empties refusing i.due (token_at D i.due here) ≡ empty
      told D g = ap (empties refusing i.due) (token-here D g) ∙ sym (tells i.due word means i.first)

      pub turn-empties : empty ≡ true → (D : Declared) → Known b.limits w₀ D → whole b D ≡ refused 17 word
      turn-empties q D g =
          i.rest D g ∙ turn-empty refusing D g.counts.limited i.due i.dues i.read here (fault-here D g ∙ z) (told D g ∙ q) ∙
          ap (refused 17) (empties-place w count word refusing t i.due i.first (sym (tells i.due word means i.first) ∙ q))

    behind-here : (D : Declared) → Known b.limits w₀ D → behind D i.due here ≡ reader_at b.bytes e (count + 1) (binds i.due t i.locals)
    behind-here D g = rw (token-here D g, is, drop-drop, add-one)

    module _ (empty : Bool) (tells : (d : Due) (p : ℕ) → Means en d → Kept w count p d → empty ≡ empties refusing d t) (full : empty ≡ false)
        (w₁ w₂ : Words) (n' bound' word' : ℕ) (put : w₁ ≡ stored w count t) (opened : Opened w₁ w₂ (n - 1) en t n') (bounds : Binds en t bound bound')
        (words : word' ≡ word_after en.sort at word) where
      last : operand_at w₂ (count + 1 - 1) ≡ t.operand
      last =
          let q : count + 1 - 1 ≡ count = omega arith in
          rw q
          (opened.beside.below (token_slot count + 1) (omega (arith, standing.number)) ∙
          rw put (get_or-set_same (set w (token_slot count) t.code) (token_slot count + 1) t.operand 0
          (rw length-set (omega (arith, standing.number, i.long)))))

      pub turn-stands : Taken b w₀ w₂ n' (count + 1) bound' e word'
      turn-stands =
          let d = i.due in
          let ds = i.dues in
          let q : length ds ≡ n - 1 = omega (arith, i.depth) in
          let c : count < max_tokens = standing.number in
          let wide' : path_at ≤ length w = omega (arith, i.long) in
          let laid : token_slot count + 1 < length (laid_tokens b.tokens i.read w₀) = rw tokens-length (omega arith) in
          record {
            locals = binds d t i.locals;
            dues = opens at d t ++ ds;
            read = i.read ++ (t ∷ []);
            depth = opened.count at d ds means q;
            number = omega (arith, length-append i.read (t ∷ []), i.number);
            few = omega arith;
            within = end-le in_token b.bytes at e is i.within;
            long = opened.beside.long ∙ rw put (simp length-set i.long);
            set = bounds d i.locals means i.set;
            fits = fits-turn at d ds t standing.suits standing.room i.fits;
            stack = opened.stack at d ds means q (rw put
                (stacked-same w (stored w count t) ds (λ j a b. other j (omega arith)) (stacked-rest w d ds i.stack)));
            tops = subst (λ p. Tops w₂ (count + 1) p (opens at d t ++ ds)) (ap (λ s. word_after s at word) (sym means.sort) ∙ sym words)
                (tops-turn w w₂ count (count + 1) word at t (omega arith) last d ds standing.suits i.first i.later);
            table = rw (tokens-more i.read b.tokens t w₀, i.number) (beside-then (rw put (beside-stored count t laid i.table)) opened.beside);
            rest = λ D g.
                i.rest D g ∙ turn-taken refusing D g.counts.limited d ds i.read here (fault-here D g ∙ z) (told empty tells D g ∙ full) ∙
                rw (behind-here D g, token-here D g);
          }
        where
          other : (j : ℕ) → dues_at ≤ j → get_or (stored w count t) j 0 ≡ get_or w j 0
          other j a =
              get_or-set_other (set w (token_slot count) t.code) (token_slot count + 1) j t.operand 0 (λ r. omega (arith, standing.number)) ∙
              get_or-set_other w (token_slot count) j t.code 0 (λ r. omega (arith, standing.number))
