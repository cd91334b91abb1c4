-- The topmost frame that has a record, by the record's last word: a slot, or a token with its code. Assumes nothing.
use Prim.Native.Nat.{ℕ, suc, ◌+◌, ◌-◌, ◌≤◌, ◌<◌}
use native.Mathlib.Omega.{arith}
use mathlib.Core.Path.{◌≡◌, refl, sym, ◌∙◌, ap}
use mathlib.Core.Bool.{Bool}
use mathlib.Core.List.{List, [], ◌∷◌}
use mathlib.Core.Logic.{◌⊎◌, inl, inr}
use lib.ListN.{length}
use lib.IntN.{ℤ}
use Rattle.specification.specs.Lines.{Declared}
use Rattle.specification.specs.Ast.{Formula}
use Rattle.specification.specs.Place.{Place, local}
use Rattle.specification.specs.Value.{Slot, Valuation}
use Rattle.tables.specs.Layout.{cells_at, token_slot, path_at, max_tokens}
use Rattle.tables.specs.Codes.{or_code, imp_code, not_code, some_code, all_code, call_code}
use Rattle.sheet.specs.Tables.{Words}
use Rattle.sheet.specs.Held.{code_at}
use Rattle.terms.specs.Environment.{Environment}
use Rattle.terms.proofs.Laws.Here.{code_here}
use Rattle.search.specs.Store.{Call}
use Rattle.search.specs.Frame.{Item, Question, denying, implying, Frame, pass, other, bound, began, given, range, asks, called, len, size_of, top_of, site_in}
use Rattle.search.specs.Records.{at, SlotRecord}
use Rattle.search.specs.Site.{Site}
use Rattle.search.specs.Path.{World, Tables, Path}
use Rattle.search.specs.Climb.{strip}
use Rattle.search.proofs.Slots.{in_table}

-- what the last word of a record says of its frame
abbrev pub Kind : Words → ℕ → Frame → Type 0
Kind w x (pass α) = ⊥
Kind w x (other E G is α) = (x < cells_at) × (at w x ≡ or_code)
Kind w x (bound l s α) = cells_at ≤ x
Kind w x (began l v h α) = (x < cells_at) × (at w x ≡ all_code)
Kind w x (given p v α) = cells_at ≤ x
Kind w x (range l y i n E F is α) = (x < cells_at) × (at w x ≡ some_code)
Kind w x (asks tok q is α e) = (x < cells_at) × ((at w x ≡ not_code) ⊎ (at w x ≡ imp_code))
Kind w x (called C α) = (x < cells_at) × (at w x ≡ call_code)

slot-kind : (D : Declared) (w : Words) (a x : ℕ) (p : Place) (u : Site) (β : Valuation) → SlotRecord D w a p u β → x ≡ at w (a + 2) → cells_at ≤ x
slot-kind D w a x p u β q e = let z = in_table p q.kept.inside in omega (arith, e ∙ q.slot, z.low)

shorter : (fr : List Frame) → len (strip fr) ≤ len fr
shorter [] = omega arith
shorter (pass α ∷ fr) = omega (arith, shorter fr)
shorter (other E G is α ∷ fr) = omega arith
shorter (bound l s α ∷ fr) = omega arith
shorter (began l v h α ∷ fr) = omega arith
shorter (given p v α ∷ fr) = omega arith
shorter (range l x i n E F is α ∷ fr) = omega arith
shorter (asks tok q is α e ∷ fr) = omega arith
shorter (called C α ∷ fr) = omega arith

pub not-stripped : (β : Valuation) (fr : List Frame) → strip fr ≡ pass β ∷ fr → ⊥
not-stripped β fr e = let n = shorter fr in let m = ap len e in omega arith

-- the code of a node that asks is none of the others
ask-apart : {x : ℕ} (n : ℕ) → x ≡ n → (x ≡ not_code) ⊎ (x ≡ imp_code) → ¬ (n ≡ not_code) → ¬ (n ≡ imp_code) → ⊥
ask-apart n e (inl z) a b = a (sym e ∙ z)
ask-apart n e (inr z) a b = b (sym e ∙ z)

module _ {c : World} {w : Words} where
  ask-code : (P : Tables c w) (x tok : ℕ) (q : Question) → x ≡ token_slot tok → tok < max_tokens → (code_at c.tables tok ≡ not_code) ⊎ (code_at c.tables tok ≡ imp_code) →
      (x < cells_at) × ((at w x ≡ not_code) ⊎ (at w x ≡ imp_code))
  ask-code P x tok q e s (inl z) = (omega arith, inl (ap (at w) e ∙ code_here c.tables w P.tokens s ∙ z))
  ask-code P x tok q e s (inr z) = (omega arith, inr (ap (at w) e ∙ code_here c.tables w P.tokens s ∙ z))

module _ {c : World} {w : Words} {top : ℕ} {α : Valuation} where
  -- a token's code
  token-kind : {f : Frame} {fr : List Frame} (P : Path c w top α (f ∷ fr)) (x h n : ℕ) → x ≡ token_slot h → h < max_tokens → code_at c.tables h ≡ n →
      (x < cells_at) × (at w x ≡ n)
  token-kind P x h n e s q = (omega arith, ap (at w) e ∙ code_here c.tables w P.tables.tokens s ∙ q)

  -- the last word
  last_word : {f : Frame} {fr : List Frame} (P : Path c w top α (f ∷ fr)) (k : ℕ) → suc k ≡ size_of f → at w (top - 1) ≡ at w (top_of fr + k)
  last_word {f} {fr} P k e = let z : top - 1 ≡ top_of fr + k = omega (arith, P.ends) in ap (at w) z

  pub last-kind : (f : Frame) (fr : List Frame) → strip (f ∷ fr) ≡ f ∷ fr → Path c w top α (f ∷ fr) → Kind w (at w (top - 1)) f
  last-kind (pass β) fr b P = not-stripped β fr b
  last-kind (other E G is β) fr b P =
      let q = P.stack.0 in
      token-kind P (at w (top - 1)) q.h or_code (last_word P 1 refl ∙ q.token) q.small q.code
  last-kind (bound l s β) fr b P =
      slot-kind c.declared w (top_of fr) (at w (top - 1)) (local l) (site_in fr) β P.stack.0 (last_word P 2 refl)
  last-kind (began l v h β) fr b P =
      let q = P.stack.0 in
      token-kind P (at w (top - 1)) q.h all_code (last_word P 3 refl ∙ q.token) (omega (arith, q.small)) q.code
  last-kind (given p v β) fr b P =
      slot-kind c.declared w (top_of fr) (at w (top - 1)) p (site_in fr) β P.stack.0 (last_word P 2 refl)
  last-kind (range l x i n E F is β) fr b P =
      let q = P.stack.0 in
      token-kind P (at w (top - 1)) q.h some_code (last_word P 4 refl ∙ q.token) (omega (arith, q.binds.near)) q.code
  last-kind (asks tok denying is β e) fr b P =
      let q = P.stack.0 in
      ask-code P.tables (at w (top - 1)) tok denying (last_word P 3 refl ∙ q.token) q.small (inl q.question)
  last-kind (asks tok (implying E G) is β e) fr b P =
      let q = P.stack.0 in
      ask-code P.tables (at w (top - 1)) tok denying (last_word P 3 refl ∙ q.token) q.small (inr q.question.0)
  last-kind (called C β) fr b P =
      let q = P.stack.0 in
      let n = length C.level.arguments in
      let z : top_of fr + (n + 3) ≡ top_of fr + n + 3 = omega arith in
      token-kind P (at w (top - 1)) C.token call_code (last_word P (n + 3) (omega arith) ∙ ap (at w) z ∙ q.token) (omega (arith, q.small)) q.code

  -- ---- the frame, by the word

  module _ (Q : List Frame → Type 0) (some : ¬ (top ≡ path_at)) where
    nothing : Path c w top α [] → Q []
    nothing P = absurd (some P.ends)

    pub top-undo : cells_at ≤ at w (top - 1) →
        ((l : ℕ) (s : Slot) (β : Valuation) (fr : List Frame) → Path c w top α (bound l s β ∷ fr) → Q (bound l s β ∷ fr)) →
        ((p : Place) (v : ℤ) (β : Valuation) (fr : List Frame) → Path c w top α (given p v β ∷ fr) → Q (given p v β ∷ fr)) →
        (fr : List Frame) → strip fr ≡ fr → Path c w top α fr → Q fr
    top-undo h k j [] b P = nothing P
    top-undo h k j (pass β ∷ fr) b P = absurd (not-stripped β fr b)
    top-undo h k j (other E G is β ∷ fr) b P = absurd (omega (arith, (last-kind (other E G is β) fr b P).0))
    top-undo h k j (bound l s β ∷ fr) b P = k l s β fr P
    top-undo h k j (began l v n β ∷ fr) b P = absurd (omega (arith, (last-kind (began l v n β) fr b P).0))
    top-undo h k j (given p v β ∷ fr) b P = j p v β fr P
    top-undo h k j (range l x i n E F is β ∷ fr) b P = absurd (omega (arith, (last-kind (range l x i n E F is β) fr b P).0))
    top-undo h k j (asks tok q is β e ∷ fr) b P = absurd (omega (arith, (last-kind (asks tok q is β e) fr b P).0))
    top-undo h k j (called C β ∷ fr) b P = absurd (omega (arith, (last-kind (called C β) fr b P).0))

    pub top-other : at w (top - 1) < cells_at → at w (at w (top - 1)) ≡ or_code →
        ((E : Environment) (G : Formula) (is : List Item) (β : Valuation) (fr : List Frame) → Path c w top α (other E G is β ∷ fr) → Q (other E G is β ∷ fr)) →
        (fr : List Frame) → strip fr ≡ fr → Path c w top α fr → Q fr
    top-other z h k [] b P = nothing P
    top-other z h k (pass β ∷ fr) b P = absurd (not-stripped β fr b)
    top-other z h k (other E G is β ∷ fr) b P = k E G is β fr P
    top-other z h k (bound l s β ∷ fr) b P = absurd (omega (arith, last-kind (bound l s β) fr b P))
    top-other z h k (began l v m β ∷ fr) b P = absurd (omega (arith, sym h ∙ (last-kind (began l v m β) fr b P).1))
    top-other z h k (given p v β ∷ fr) b P = absurd (omega (arith, last-kind (given p v β) fr b P))
    top-other z h k (range l x i n E F is β ∷ fr) b P = absurd (omega (arith, sym h ∙ (last-kind (range l x i n E F is β) fr b P).1))
    top-other z h k (asks tok q is β e ∷ fr) b P = absurd (ask-apart or_code h (last-kind (asks tok q is β e) fr b P).1 (λ e. omega arith) (λ e. omega arith))
    top-other z h k (called C β ∷ fr) b P = absurd (omega (arith, sym h ∙ (last-kind (called C β) fr b P).1))

    pub top-all : at w (top - 1) < cells_at → at w (at w (top - 1)) ≡ all_code →
        ((l : ℕ) (v : ℤ) (m : ℕ) (β : Valuation) (fr : List Frame) → Path c w top α (began l v m β ∷ fr) → Q (began l v m β ∷ fr)) →
        (fr : List Frame) → strip fr ≡ fr → Path c w top α fr → Q fr
    top-all z h k [] b P = nothing P
    top-all z h k (pass β ∷ fr) b P = absurd (not-stripped β fr b)
    top-all z h k (other E G is β ∷ fr) b P = absurd (omega (arith, sym h ∙ (last-kind (other E G is β) fr b P).1))
    top-all z h k (bound l s β ∷ fr) b P = absurd (omega (arith, last-kind (bound l s β) fr b P))
    top-all z h k (began l v m β ∷ fr) b P = k l v m β fr P
    top-all z h k (given p v β ∷ fr) b P = absurd (omega (arith, last-kind (given p v β) fr b P))
    top-all z h k (range l x i n E F is β ∷ fr) b P = absurd (omega (arith, sym h ∙ (last-kind (range l x i n E F is β) fr b P).1))
    top-all z h k (asks tok q is β e ∷ fr) b P = absurd (ask-apart all_code h (last-kind (asks tok q is β e) fr b P).1 (λ e. omega arith) (λ e. omega arith))
    top-all z h k (called C β ∷ fr) b P = absurd (omega (arith, sym h ∙ (last-kind (called C β) fr b P).1))

    pub top-some : at w (top - 1) < cells_at → at w (at w (top - 1)) ≡ some_code →
        ((l : ℕ) (x : ℤ) (i n : ℕ) (E : Environment) (F : Formula) (is : List Item) (β : Valuation) (fr : List Frame) → Path c w top α (range l x i n E F is β ∷ fr) → Q (range l x i n E F is β ∷ fr)) →
        (fr : List Frame) → strip fr ≡ fr → Path c w top α fr → Q fr
    top-some z h k [] b P = nothing P
    top-some z h k (pass β ∷ fr) b P = absurd (not-stripped β fr b)
    top-some z h k (other E G is β ∷ fr) b P = absurd (omega (arith, sym h ∙ (last-kind (other E G is β) fr b P).1))
    top-some z h k (bound l s β ∷ fr) b P = absurd (omega (arith, last-kind (bound l s β) fr b P))
    top-some z h k (began l v m β ∷ fr) b P = absurd (omega (arith, sym h ∙ (last-kind (began l v m β) fr b P).1))
    top-some z h k (given p v β ∷ fr) b P = absurd (omega (arith, last-kind (given p v β) fr b P))
    top-some z h k (range l x i n E F is β ∷ fr) b P = k l x i n E F is β fr P
    top-some z h k (asks tok q is β e ∷ fr) b P = absurd (ask-apart some_code h (last-kind (asks tok q is β e) fr b P).1 (λ e. omega arith) (λ e. omega arith))
    top-some z h k (called C β ∷ fr) b P = absurd (omega (arith, sym h ∙ (last-kind (called C β) fr b P).1))

    pub top-call : at w (top - 1) < cells_at → at w (at w (top - 1)) ≡ call_code →
        ((C : Call) (β : Valuation) (fr : List Frame) → Path c w top α (called C β ∷ fr) → Q (called C β ∷ fr)) →
        (fr : List Frame) → strip fr ≡ fr → Path c w top α fr → Q fr
    top-call z h k [] b P = nothing P
    top-call z h k (pass β ∷ fr) b P = absurd (not-stripped β fr b)
    top-call z h k (other E G is β ∷ fr) b P = absurd (omega (arith, sym h ∙ (last-kind (other E G is β) fr b P).1))
    top-call z h k (bound l s β ∷ fr) b P = absurd (omega (arith, last-kind (bound l s β) fr b P))
    top-call z h k (began l v m β ∷ fr) b P = absurd (omega (arith, sym h ∙ (last-kind (began l v m β) fr b P).1))
    top-call z h k (given p v β ∷ fr) b P = absurd (omega (arith, last-kind (given p v β) fr b P))
    top-call z h k (range l x i n E F is β ∷ fr) b P = absurd (omega (arith, sym h ∙ (last-kind (range l x i n E F is β) fr b P).1))
    top-call z h k (asks tok q is β e ∷ fr) b P = absurd (ask-apart call_code h (last-kind (asks tok q is β e) fr b P).1 (λ e. omega arith) (λ e. omega arith))
    top-call z h k (called C β ∷ fr) b P = k C β fr P

    pub top-asks : at w (top - 1) < cells_at → (at w (at w (top - 1)) ≡ not_code) ⊎ (at w (at w (top - 1)) ≡ imp_code) →
        ((tok : ℕ) (q : Question) (is : List Item) (β : Valuation) (e : Bool) (fr : List Frame) → Path c w top α (asks tok q is β e ∷ fr) → Q (asks tok q is β e ∷ fr)) →
        (fr : List Frame) → strip fr ≡ fr → Path c w top α fr → Q fr
    top-asks z h k [] b P = nothing P
    top-asks z h k (pass β ∷ fr) b P = absurd (not-stripped β fr b)
    top-asks z h k (other E G is β ∷ fr) b P = absurd (ask-apart or_code (last-kind (other E G is β) fr b P).1 h (λ e. omega arith) (λ e. omega arith))
    top-asks z h k (bound l s β ∷ fr) b P = absurd (omega (arith, last-kind (bound l s β) fr b P))
    top-asks z h k (began l v m β ∷ fr) b P = absurd (ask-apart all_code (last-kind (began l v m β) fr b P).1 h (λ e. omega arith) (λ e. omega arith))
    top-asks z h k (given p v β ∷ fr) b P = absurd (omega (arith, last-kind (given p v β) fr b P))
    top-asks z h k (range l x i n E F is β ∷ fr) b P = absurd (ask-apart some_code (last-kind (range l x i n E F is β) fr b P).1 h (λ e. omega arith) (λ e. omega arith))
    top-asks z h k (asks tok q is β e ∷ fr) b P = k tok q is β e fr P
    top-asks z h k (called C β ∷ fr) b P = absurd (ask-apart call_code (last-kind (called C β) fr b P).1 h (λ e. omega arith) (λ e. omega arith))
