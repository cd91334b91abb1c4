-- A turn of the loop that reads the formula: the token at the reader's place is refused, or it stands, and then what is left is what it
-- makes due and what was due besides. Assumes nothing.
use Prim.Native.Nat.{ℕ, zero, suc, ◌+◌}
use mathlib.Core.Path.{◌≡◌, refl, sym, ◌∙◌, ap}
use mathlib.Core.Bool.{Bool, true, false}
use mathlib.Core.List.{List, [], ◌∷◌, ◌++◌}
use mathlib.Core.Option.{Option, none, some as just}
use lib.ListN.{length, drop}
use lib.Dec.{ltb, eqb-suc-zero}
use Rattle.specification.specs.Bytes.{pick, in_token}
use Rattle.specification.specs.Parser.{Reader, Read, refused, found, Parser, give, present, and_then, ◌>>=◌, taken}
use Rattle.specification.specs.Lines.{Declared}
use Rattle.specification.specs.Words.{Word}
use Rattle.specification.specs.Formula.{Token as WordToken, Locals, token, binder, procedure, term, formula}
use Rattle.tables.specs.Layout.{max_tokens}
use Rattle.sheet.specs.declared.Token.{Token}
use Rattle.sheet.specs.Dues.{Due, due_formula, due_term, due_procedure, due_ex, due_range, due_bounds, due_upper, parse, left, left_here}
use Rattle.sheet.specs.Turn.{Limited, fault_of, empties, word_place, opens, binds, spelling, word_for, token_in, token_at, fault_at, behind}
use Rattle.sheet.proofs.Left.{then-assoc, left-front, left-++}
use Rattle.sheet.proofs.Operands.{judged, admitted}
use Rattle.sheet.proofs.Dues.{admits, step-formula, step-term, step-procedure, step-ex, step_range, step-bounds, step-upper}

-- ---- where nothing may nest deeper

module _ (refusing : Bool) (D : Declared) (S : Locals) (r : Reader) where
  deep-formula : parse refusing D (due_formula zero S) r ≡ refused 9 r.place
  unfolding parse formula
  deep-formula = refl

  deep-term : parse refusing D (due_term zero S) r ≡ refused 9 r.place
  unfolding parse term
  deep-term = refl

  deep-procedure : parse refusing D (due_procedure zero S) r ≡ refused 9 r.place
  unfolding parse procedure
  deep-procedure = refl

  deep-ex : parse refusing D (due_ex zero S) r ≡ refused 9 r.place
  unfolding parse binder
  deep-ex = refl

  deep-range : (p : ℕ) → parse refusing D (due_range zero S p) r ≡ refused 9 r.place
  unfolding parse binder
  deep-range p = refl

  deep-bounds : (p : ℕ) → parse refusing D (due_bounds zero S p) r ≡ refused 9 r.place
  unfolding parse term
  deep-bounds p = refl

  deep-upper : (p x : ℕ) → parse refusing D (due_upper zero S p x) r ≡ refused 9 r.place
  unfolding parse term
  deep-upper p x = refl

-- ---- the token at the reader's place

module _ (refusing : Bool) (D : Declared) (d : Due) (r : Reader) where
  -- behind the token, where these locals have a binder
  abbrev passed : Locals → Reader
  passed B =
      let n = length (spelling r) in
      record { place = r.place + n; rest = drop n r.rest; tokens = suc r.tokens; bound = B }

  -- what the token makes due, unless it makes a range empty
  abbrev taking : Token → Read (List Token)
  taking t =
      pick (empties refusing d t) (refused 17 (word_place d)) (left refusing D (opens r.place d t) (t ∷ []) (passed (binds d t r.bound)))

  token-turn : (token (word_for D d) >>= admits refusing D d) r ≡
      judged (pick (ltb r.tokens max_tokens) (fault_of D d r.bound (token_at D d r)) 9) r.place (taking (token_at D d r))
  unfolding token taken admitted fault_of token_at
  token-turn = by_count (ltb r.tokens max_tokens)
    where
      counted : Reader
      counted = record { place = r.place; rest = r.rest; tokens = suc r.tokens; bound = r.bound }

      worded : ℕ → Word → Parser WordToken
      worded n w = give (record { place = r.place; number = n; word = w })

      by_word : (o : Option Word) →
          and_then (admits refusing D d) (and_then (worded r.tokens) (present 4 r.place o (passed r.bound))) ≡
          judged (fault_of D d r.bound (token_in D d o)) r.place (taking (token_in D d o))
      by_word none = refl
      by_word (just w) = refl

      by_count : (b : Bool) →
          and_then (admits refusing D d)
          (and_then (λ n. taken in_token >>= λ bs. present 4 r.place (word_for D d bs) >>= worded n)
          (pick b (found r.tokens counted) (refused 9 r.place))) ≡
          judged (pick b (fault_of D d r.bound (token_at D d r)) 9) r.place (taking (token_at D d r))
      by_count true = by_word (word_for D d (spelling r))
      by_count false = refl

module _ (refusing : Bool) (D : Declared) (small : Limited D) where
  pub parse-turn : (d : Due) (r : Reader) → let t = token_at D d r in
      parse refusing D d r ≡
      judged (fault_at D d r) r.place
      (pick (empties refusing d t) (refused 17 (word_place d)) (left refusing D (opens r.place d t) (t ∷ []) (behind D d r)))
  unfolding fault_at
  parse-turn (due_formula zero S) r = deep-formula refusing D S r
  parse-turn (due_formula (suc k) S) r = step-formula refusing D small k S r ∙ token-turn refusing D (due_formula (suc k) S) r ∙ rw eqb-suc-zero
  parse-turn (due_term zero S) r = deep-term refusing D S r
  parse-turn (due_term (suc k) S) r = step-term refusing D small k S r ∙ token-turn refusing D (due_term (suc k) S) r ∙ rw eqb-suc-zero
  parse-turn (due_procedure zero S) r = deep-procedure refusing D S r
  parse-turn (due_procedure (suc k) S) r = step-procedure refusing D small k S r ∙ token-turn refusing D (due_procedure (suc k) S) r ∙ rw eqb-suc-zero
  parse-turn (due_ex zero S) r = deep-ex refusing D S r
  parse-turn (due_ex (suc k) S) r = step-ex refusing D small k S r ∙ token-turn refusing D (due_ex (suc k) S) r ∙ rw eqb-suc-zero
  parse-turn (due_range zero S p) r = deep-range refusing D S r p
  parse-turn (due_range (suc k) S p) r = step_range refusing D small k S p r ∙ token-turn refusing D (due_range (suc k) S p) r ∙ rw eqb-suc-zero
  parse-turn (due_bounds zero S p) r = deep-bounds refusing D S r p
  parse-turn (due_bounds (suc k) S p) r = step-bounds refusing D small k S p r ∙ token-turn refusing D (due_bounds (suc k) S p) r ∙ rw eqb-suc-zero
  parse-turn (due_upper zero S p x) r = deep-upper refusing D S r p x
  parse-turn (due_upper (suc k) S p x) r = step-upper refusing D small k S p x r ∙ token-turn refusing D (due_upper (suc k) S p x) r ∙ rw eqb-suc-zero

  -- ---- the turn

  module _ (d : Due) (ds : List Due) (ts : List Token) (r : Reader) where
    pub turn-refused : (n : ℕ) → fault_at D d r ≡ suc n → left_here refusing D d ds ts r ≡ refused (suc n) r.place
    unfolding left_here
    turn-refused n e = rw (parse-turn d r, e)

    module _ (e : fault_at D d r ≡ 0) where
      pub turn-empty : empties refusing d (token_at D d r) ≡ true → left_here refusing D d ds ts r ≡ refused 17 (word_place d)
      unfolding left_here
      turn-empty f = rw (parse-turn d r, e, f)

      pub turn-taken : empties refusing d (token_at D d r) ≡ false → let t = token_at D d r in
          left_here refusing D d ds ts r ≡ left refusing D (opens r.place d t ++ ds) (ts ++ (t ∷ [])) (behind D d r)
      unfolding left_here
      turn-taken f =
          let t = token_at D d r in
          let os = opens r.place d t in
          rw (parse-turn d r, e, f)
          (sym
          (left-++ refusing D os ds (ts ++ (t ∷ [])) (behind D d r) ∙
          ap (and_then (left refusing D ds)) (left-front refusing D os ts (t ∷ []) (behind D d r)) ∙
          then-assoc (λ xs. give (ts ++ xs)) (left refusing D ds) (left refusing D os (t ∷ []) (behind D d r))))
