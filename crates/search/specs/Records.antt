-- How the work words hold the path: a record for each frame that has something to do or to take back. Meaning is given by recursion on the frames,
-- never on memory. Assumes nothing.
use Rattle.std.specs.Prelude.{ℕ, suc, ◌+◌, ◌*◌, ◌≤◌, ◌<◌, ◌≡◌, Bool, true, false, List, [], ◌∷◌, length, get_or, ℤ, pos, ◌+ℤ◌}
use Rattle.std.proofs.Math.Option.{some as just}
use Rattle.specification.specs.Lines.{Declared}
use Rattle.specification.specs.Ast.{Formula}
use Rattle.specification.specs.Place.{Place, local}
use Rattle.specification.specs.Value.{Slot, empty, full, Valuation}
use Rattle.values.specs.Word.{biased, signed}
use Rattle.tables.specs.Layout.{max_tokens, max_parameters, max_procs, token_slot}
use Rattle.tables.specs.Codes.{or_code, imp_code, not_code, some_code, all_code, call_code, procedure_code}
use Rattle.sheet.specs.Tables.{Words}
use Rattle.sheet.specs.Held.{code_at, end_at, operand_at, slot_of}
use Rattle.terms.specs.Environment.{Environment, number_of}
use Rattle.search.specs.Marks.{InTable, marks_in}
use Rattle.tables.specs.Layout.{plan_at}
use Rattle.plan.specs.Next.{Next, place_of, Plain}
use Rattle.terms.specs.Environment.{Calls, Results}
use Rattle.search.specs.Stands.{Stands, Binds, LeftAfter}
use Rattle.search.specs.Store.{Call, Store, EnvIn}
use Rattle.search.specs.Frame.{Item, Question, denying, implying, Frame, pass, other, bound, began, given, range, asks, called, top_of, site_in, store_in}
use Rattle.search.specs.Site.{Site}
use Rattle.search.specs.Pend.{Scoped, Inside, Pend}

-- in the last word of a record that keeps a slot: whether it had a value, above the slot
abbrev pub had_unit : ℕ
had_unit = 8192

abbrev pub bit : Bool → ℕ
bit true = 1
bit false = 0

-- the word i
abbrev pub at : Words → ℕ → ℕ
at w i = get_or w i 0

-- two words that hold a slot
abbrev pub Saved : ℕ → ℕ → Slot → Type 0
Saved had old empty = had ≡ 0
Saved had old (full z) = (had ≡ 1) × (old ≡ biased z)

-- two words that hold what the place p had, at a site: without a value its mark
pub record Kept (D : Declared) (had old : ℕ) (p : Place) (u : Site) (α : Valuation) : Type 0 where
  pub inside : InTable p
  pub flag : had ≤ 1
  pub saved : Saved had old (α p)
  pub mark : α p ≡ empty → old ≡ marks_in D u.marks p

-- a slot that was changed: its second word, the register, the slot with its first word
pub record SlotRecord (D : Declared) (w : Words) (a : ℕ) (p : Place) (u : Site) (α : Valuation) : Type 0 where
  pub had : ℕ
  pub kept : Kept D had (at w a) p u α
  pub inner : at w (a + 1) ≡ u.inner
  pub slot : at w (a + 2) ≡ slot_of p + had_unit * had

module _ (D : Declared) (t w : Words) (a : ℕ) (u : Site) (σ : Store) where
  -- the second part of an `or` at token h
  pub record OrRecord (E : Environment) (G : Formula) (is : List Item) (α : Valuation) : Type 0 where
    pub h : ℕ
    pub n : Next
    pub depth : at w a ≡ suc u.depth
    pub token : at w (a + 1) ≡ token_slot h
    pub code : code_at t h ≡ or_code
    pub small : h < max_tokens
    pub leads : operand_at t h ≡ token_slot (end_at t (suc h))
    pub inside : end_at t (suc h) < max_tokens
    pub stands : Stands D t E (end_at t (suc h)) G n
    pub env : EnvIn σ E
    pub scoped : Scoped stands.good.scope is
    pub rest : Pend D t σ α (number_of E) n is

  -- an `all` over the local l
  pub record AllRecord (l : ℕ) (α : Valuation) : Type 0 where
    pub h : ℕ
    pub kept : Kept D (at w a) (at w (a + 1)) (local l) u α
    pub last : at w (a + 2) ≡ σ.last l
    pub token : at w (a + 3) ≡ token_slot h
    pub code : code_at t h ≡ all_code
    pub small : suc h < max_tokens
    pub bound : operand_at t (suc h) ≡ l

  -- a `some` over the local l
  pub record SomeRecord (l : ℕ) (x : ℤ) (j n : ℕ) (E : Environment) (F : Formula) (is : List Item) (α : Valuation) : Type 0 where
    pub h : ℕ
    pub next : Next
    pub kept : Kept D (at w a) (at w (a + 1)) (local l) u α
    pub current : ℕ
    pub value : signed current ≡ x +ℤ pos j
    pub after : LeftAfter current (at w (a + 2)) n (x +ℤ pos (suc j))
    pub depth : at w (a + 3) ≡ suc u.depth
    pub token : at w (a + 4) ≡ token_slot h
    pub code : code_at t h ≡ some_code
    pub binds : Binds D t E h l F next
    pub env : EnvIn σ E
    pub scoped : Inside binds.body.good.scope l is
    pub rest : Pend D t σ α (number_of E) next is

  -- what a verdict is asked for at token h
  abbrev pub Asks : ℕ → Question → List Item → Next → Valuation → Type 0
  Asks h denying is n α = code_at t h ≡ not_code
  Asks h (implying E G) is n α =
      (code_at t h ≡ imp_code)
      × (operand_at t h ≡ token_slot (end_at t (suc h)))
      × (end_at t (suc h) < max_tokens)
      × (s : Stands D t E (end_at t (suc h)) G n)
      × EnvIn σ E
      × Scoped s.good.scope is
      × Pend D t σ α (number_of E) n is

  pub record AskRecord (tok : ℕ) (q : Question) (is : List Item) (α : Valuation) (e : Bool) : Type 0 where
    pub n : Next
    pub m : ℕ
    pub inner : at w a ≡ u.inner
    pub bad : at w (a + 1) ≡ bit e
    pub depth : at w (a + 2) ≡ suc u.depth
    pub token : at w (a + 3) ≡ token_slot tok
    pub small : tok < max_tokens
    pub next : plan_at t tok ≡ place_of n
    pub question : Asks tok q is n α
    pub rest : Pend D t σ α m n is

  -- the frame of procedure K as an earlier call of n arguments left it: the second words of its slots, which of them are no values, the place
  -- to return to, and that call's token
  pub record FrameKept (K n : ℕ) (C : Call) : Type 0 where
    pub number : C.level.number ≡ K
    pub calls : Calls D t C.token C.level C.around
    pub plain : Plain C.back
    pub count : length C.level.arguments ≡ n
    pub results : Results D C.around C.level (at w (a + n)) (λ j. at w (a + j))
    pub back : at w (a + n + 1) ≡ place_of C.back
    pub token : at w (a + n + 2) ≡ token_slot C.token

  pub record CallRecord (C : Call) (α : Valuation) : Type 0 where
    pub few : length C.level.arguments ≤ max_parameters
    pub earlier : C.level.number < max_procs
    pub kept : (B : Call) → σ.calls C.level.number ≡ just B → FrameKept C.level.number (length C.level.arguments) B
    pub token : at w (a + length C.level.arguments + 3) ≡ token_slot C.token
    pub code : code_at t C.token ≡ call_code
    pub small : suc C.token < max_tokens
    pub number : operand_at t (suc C.token) ≡ C.level.number
    pub width : code_at t (suc C.token) ≡ procedure_code + length C.level.arguments

-- the record of a frame, from the word a on
abbrev pub RecordAt : Declared → Words → Words → ℕ → Site → Store → Frame → Type 0
RecordAt D t w a u σ (pass α) = Unit {0}
RecordAt D t w a u σ (other E G is α) = OrRecord D t w a u σ E G is α
RecordAt D t w a u σ (bound l s α) = SlotRecord D w a (local l) u α
RecordAt D t w a u σ (began l v h α) = AllRecord D t w a u σ l α
RecordAt D t w a u σ (given p v α) = SlotRecord D w a p u α
RecordAt D t w a u σ (range l x j n E F is α) = SomeRecord D t w a u σ l x j n E F is α
RecordAt D t w a u σ (asks tok q is α e) = AskRecord D t w a u σ tok q is α e
RecordAt D t w a u σ (called C α) = CallRecord D t w a u σ C α

abbrev pub Stack : Declared → Words → Words → List Frame → Type 0
Stack D t w [] = Unit {0}
Stack D t w (f ∷ fr) = RecordAt D t w (top_of fr) (site_in fr) (store_in fr) f × Stack D t w fr
