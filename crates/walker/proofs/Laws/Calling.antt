-- The step into a call, as the code takes it: the frame is saved, open parameters are valued again, the arguments go into their slots, and the frame's
-- head is set. Assumes nothing.
use Prim.Native.Nat.{ℕ, suc, ◌+◌, ◌-◌, ◌*◌, ◌/◌, ◌<◌, ◌≤◌}
use native.Mathlib.Omega.{arith}
use mathlib.Core.Path.{◌≡◌, ◌∙◌, ap}
use mathlib.Core.List.{[], ◌∷◌}
use mathlib.Core.Logic.{◌⊎◌, inl, inr}
use lib.ListN.{length, get_or}
use Rattle.specification.specs.Bytes.{Bytes}
use Rattle.specification.specs.Value.{Valuation}
use Rattle.tables.specs.Layout.{token_slot, proc_slot, proc_at, path_at, dues_at, opens_at, max_tokens, max_procs, max_parameters}
use Rattle.tables.specs.Codes.{call_code, procedure_code}
use Rattle.tables.specs.Frames.{frames_at, frame_words, frame_slot, argument_slot, tags_at}
use Rattle.tables.specs.Kept.{SameTokens}
use Rattle.sheet.specs.Tables.{Words}
use Rattle.plan.proofs.Laws.Carried.{arguments-planned-same}
use Rattle.terms.specs.Environment.{Environment, number_of, pointer_of, Results, flag_of, Memory}
use Rattle.terms.specs.Calls.{Fresh, Settles, Settled, level_of, Call, Arrives, Arrived}
use Rattle.terms.proofs.Laws.Here.{token-ends, code_here, operand-kept, call-here}
use Rattle.search.specs.declared.Go.{Go}
use Rattle.search.specs.Kept.{FrameSaved, FrameSet}
use Rattle.search.specs.Store.{Store}
use Rattle.search.specs.Frame.{form, again, What, the, success, failure, error, store_in}
use Rattle.search.specs.Records.{at}
use Rattle.search.specs.Path.{World}
use Rattle.search.specs.Registers.{down_go}
use Rattle.search.specs.Sim.{In}
use Rattle.search.specs.Steps.{back_word, Entered, Stepped}
use Rattle.search.proofs.Subformulas.{Calls}
use Rattle.search.proofs.Heads.{Head, head, AtForm, at-form}
use Rattle.search.proofs.Simple.{next-job, top-low, top-room}
use Rattle.search.proofs.Called.{call-down}
use Rattle.walker.specs.Frames.{Saves, Saved, Returns}
use Rattle.walker.proofs.Laws.Memory.{memory-in}
use Rattle.terms.proofs.Laws.Environment.{memory-same, memory_kept}
use Rattle.terms.proofs.Laws.Entered.{entered-results, entered-flags}
use Rattle.walker.proofs.Laws.Headed.{Headed}

-- what is due stands before the path
place-low : {c : World} {w : Words} {σ : Store} {α : Valuation} {due : ℕ} (x : What) → Head c σ α due w x → due + 3 < path_at
place-low (the []) (inl q) = omega arith
place-low (the (form E F ∷ is)) (inl q) = omega (arith, q.place, q.inside)
place-low (the (again E l F k v ∷ is)) (inl q) = omega (arith, q.place, q.binds.near)
place-low success (inl q) = omega arith
place-low failure (inl q) = omega arith
place-low (error κ tok) (inl q) = omega (arith, q.0)
place-low x (inr q) = omega (arith, q.place, q.small)

-- ---- what the words say of the call

module _ {w : Words} {g : Go} (x : Entered w g call_code) {c : World} {b : Bytes} (i : In c b w g) where
  abbrev found : AtForm i call_code
  found = at-form i x.code (omega arith) (omega arith)

  abbrev calling : Calls c.declared c.tables found.E found.form.n found.form.stands.good.scope found.form.h found.F
  calling = found.under

  abbrev h : ℕ
  h = found.form.h

  abbrev E : Environment
  E = found.E

  tokens : SameTokens c.tables w
  tokens = i.path.tables.tokens

  near : suc h < max_tokens
  near = let z = token-ends calling.held.token in omega (arith, z.after, z.inside)

  place_is : g.due ≡ token_slot h
  place_is = found.form.place

  pub token-is : g.due / 4 ≡ h
  token-is = omega (arith, place_is)

  pub number_is : at w (g.due + 4 + 1) ≡ calling.number
  number_is =
      let e : g.due + 4 + 1 ≡ token_slot (suc h) + 1 = omega (arith, place_is) in
      ap (at w) e ∙ operand-kept c.tables w tokens calling.held.token calling.held.number

  pub code_is : at w (g.due + 4) ≡ procedure_code + length calling.terms
  code_is =
      let e : g.due + 4 ≡ token_slot (suc h) = omega (arith, place_is) in
      ap (at w) e ∙ code_here c.tables w tokens near ∙ calling.held.token.code

  pub around-is : at w (g.due + 4 + 3) ≡ pointer_of E
  around-is =
      let e : g.due + 4 + 3 ≡ token_slot (suc h) + 3 = omega (arith, place_is) in
      ap (at w) e ∙ tokens (token_slot (suc h) + 3) (omega (arith, near)) ∙ calling.around

  number_small : calling.number < max_procs
  number_small = omega (arith, calling.called.earlier, i.path.tables.procedures.few)

  pub call-near : g.due + 8 < path_at
  call-near = omega (arith, place_is, near)

  pub call_returns : Returns w g.due
  call_returns =
      let job = next-job i found calling.next in
      record {
        token = omega (arith, call-near);
        next = omega (arith, place-low (the found.is) (head c (store_in i.fr) i.α (at w (g.due + 3)) w (the found.is) job));
        size = omega (arith, top-low i, top-room i);
      }

  pub call-saves : Saves w g.top (at w (g.due + 4 + 1)) (at w (g.due + 4) - procedure_code)
  call-saves = record {
    procedure = rw number_is number_small;
    few = omega (arith, code_is, calling.arguments.few);
    low = top-low i;
    room = top-room i;
  }

  pub body-small : proc_at w (at w (g.due + 4 + 1)) < max_tokens
  body-small =
      let p = i.path.tables.procedures in
      rw number_is (omega (arith, p.same calling.number number_small, (p.bodies calling.number calling.called.earlier).held.inside))

  -- ---- after the frame is saved

  module _ {w1 : Words} {N n r : ℕ} (sv : Saved w w1 g.top N n g.due r) where
    saved-memory : Memory w1 (pointer_of E) c.declared i.α E
    saved-memory =
        let low = top-low i in
        memory-same (λ j k. sv.below j (omega arith)) (λ j k m. sv.below j (omega arith)) sv.size (memory-in i.path E found.form.env)

    pub call-settles : {p : ℕ} → p ≡ at w (g.due + 4 + 3) → Settles w1 p
    call-settles e = record {
      declared = c.declared;
      valuation = i.α;
      environment = E;
      memory = rw (e ∙ around-is) saved-memory;
    }

    -- after open parameters are valued again
    module _ {w2 : Words} (st : Settled w1 w2 (pointer_of E)) where
      settled-fresh : Fresh w2 c.declared i.α E
      settled-fresh = st.fresh c.declared i.α E saved-memory

      settled-tokens : SameTokens c.tables w2
      settled-tokens j k = let low = top-low i in st.kept j (inl (omega arith)) ∙ sv.below j (omega arith) ∙ tokens j k

      settled-call : Call w2 h calling.number (pointer_of E) c.declared i.α E calling.terms
      settled-call =
          let z = token-ends calling.held.token in
          record {
            memory = memory_kept st.kept st.size saved-memory;
            earlier = calling.earlier;
            call = call-here c.tables w2 settled-tokens calling.held;
            arguments = calling.arguments;
            planned = arguments-planned-same c.tables w2 max_tokens (λ j k. settled-tokens j (omega arith)) (number_of E) calling.terms (suc (suc h)) _
                calling.held.arguments z.inside calling.planned;
          }

    pub call-arrives : {w2 : Words} {p k : ℕ} → p ≡ at w (g.due + 4 + 3) → k ≡ at w (g.due + 4 + 1) → Settled w1 w2 p → Arrives w2 (g.due / 4) k p
    call-arrives {w2} {p} {k} ep ek st =
        let s : Settled w1 w2 (pointer_of E) = rw (ep ∙ around-is) at st in
        rw (ep ∙ around-is, ek ∙ number_is, token-is)
        (record {
          declared = c.declared;
          valuation = i.α;
          environment = E;
          arguments = calling.terms;
          call = settled-call s;
          fresh = settled-fresh s;
        })

-- ---- the whole

-- words that are none of the frame's but its first
other-head : (N j : ℕ) → (j ≤ frame_slot N) ⊎ (frame_slot N + frame_words ≤ j) → (j ≤ frame_slot N) ⊎ (frame_slot N + 4 ≤ j)
other-head N j (inl z) = inl z
other-head N j (inr z) = inr (omega arith)

other-slots : (N j : ℕ) → (j ≤ frame_slot N) ⊎ (frame_slot N + frame_words ≤ j) → (j < argument_slot N 0) ⊎ (argument_slot N max_parameters ≤ j)
other-slots N j (inl z) = inl (omega arith)
other-slots N j (inr z) = inr (omega arith)

other-opens : (j : ℕ) → (j < dues_at) ⊎ (frames_at ≤ j) → (j < dues_at) ⊎ (opens_at ≤ j)
other-opens j (inl z) = inl z
other-opens j (inr z) = inr (omega arith)

module _ {w w1 w2 w3 w4 : Words} {g : Go} (x : Entered w g call_code) {N a r p tags back : ℕ} (eN : N ≡ at w (g.due + 4 + 1)) (ea : a ≡ at w (g.due + 4))
    (ep : p ≡ at w (g.due + 4 + 3)) (eb : back ≡ back_word w g.due) (sv : Saved w w1 g.top N (a - procedure_code) g.due r) (st : Settled w1 w2 p)
    (ar : Arrived w2 w3 (g.due / 4) N p tags) (hd : Headed w3 w4 N back g.due tags) where
  abbrev n : ℕ
  n = a - procedure_code

  low : path_at ≤ g.top
  low = top-low x.at.ins

  small : N < max_procs
  small = rw eN (call-saves x x.at.ins).procedure

  after : (j : ℕ) → (j < dues_at) ⊎ (frames_at ≤ j) → (j ≤ frame_slot N) ⊎ (frame_slot N + frame_words ≤ j) → get_or w4 j 0 ≡ get_or w1 j 0
  after j y z = hd.others j (other-head N j z) ∙ ar.kept j (other-opens j y) (other-slots N j z) ∙ st.kept j y

  recorded : (j : ℕ) → g.top ≤ j → get_or w4 j 0 ≡ get_or w1 j 0
  recorded j l = after j (inr (omega (arith, low))) (inr (omega (arith, low, small)))

  frame-saved : FrameSaved w w4 g.top N n g.due
  frame-saved = record {
    words = λ j l. recorded (g.top + j) (omega arith) ∙ sv.saved.words j l;
    tags = recorded (g.top + n) (omega arith) ∙ sv.saved.tags;
    back = recorded (g.top + n + 1) (omega arith) ∙ sv.saved.back;
    token = recorded (g.top + n + 2) (omega arith) ∙ sv.saved.token;
    own = recorded (g.top + n + 3) (omega arith) ∙ sv.saved.own;
  }

  frame-set : FrameSet w w4 g.top N
  frame-set = record {
    others = λ j l y z. after j y z ∙ sv.below j l;
    size = hd.size ∙ ar.size ∙ st.size ∙ sv.size;
  }

  number_at : N ≡ at w (g.due + 5)
  number_at = let e : g.due + 4 + 1 ≡ g.due + 5 = omega arith in eN ∙ ap (at w) e

  -- the slots of the arguments
  module _ {c : World} {b : Bytes} (i : In c b w g) where
    arrived : Arrived w2 w3 (h x i) (calling x i).number (pointer_of (E x i)) tags
    arrived = rw (token-is x i, eN ∙ number_is x i, ep ∙ around-is x i) at ar

    settled : Settled w1 w2 (pointer_of (E x i))
    settled = rw (ep ∙ around-is x i) at st

    told-results : Results c.declared (E x i) (level_of c.declared i.α (E x i) (calling x i).number (calling x i).terms) (tags_at w4 N)
        (λ k. get_or w4 (argument_slot N k + 1) 0)
    told-results j l =
        let e : get_or w4 (argument_slot N j + 1) 0 ≡ get_or w3 (argument_slot N j + 1) 0 = hd.others (argument_slot N j + 1) (inr (omega arith)) in
        rw (hd.tags_is, e, eN ∙ number_is x i) (entered-results arrived (settled-call x i sv settled) (settled-fresh x i sv settled) j l)

    told-flags : (k : ℕ) → k < length (level_of c.declared i.α (E x i) (calling x i).number (calling x i).terms).terms →
        get_or w4 (argument_slot N k) 0 ≡ flag_of (tags_at w4 N) k
    told-flags j l =
        let e : get_or w4 (argument_slot N j) 0 ≡ get_or w3 (argument_slot N j) 0 = hd.others (argument_slot N j) (inr (omega arith)) in
        rw (hd.tags_is, e, eN ∙ number_is x i) (entered-flags arrived (settled-call x i sv settled) (settled-fresh x i sv settled) j l)

  pub body_same : proc_at w4 N ≡ proc_at w N
  body_same = after (proc_slot N) (inl (omega (arith, small))) (inl (omega (arith, small))) ∙ sv.below (proc_slot N) (omega (arith, low, small))

  pub call_enters : {q : Go} {m : ℕ} → m ≡ proc_at w4 N → q ≡ down_go g (4 * m) r g.inner g.bad → Stepped w w4 g q
  call_enters {q} {m} em e =
      let to : q ≡ down_go g (token_slot (proc_at w N)) (g.top + n + 4) g.inner g.bad = rw (em ∙ body_same, sv.end) at e in
      call-down x number_at (ap (λ k. k - procedure_code) ea) frame-saved frame-set hd.call_is (hd.back_is ∙ eb)
      (λ c b i. record { results = told-results i; flags = told-flags i }) to

  pub body-inside : proc_slot N < length w4
  body-inside = omega (arith, small, low, top-room x.at.ins, frame-set.size)

  pub body-fits : {m : ℕ} → m ≡ proc_at w4 N → m < max_tokens
  body-fits em = let z = body-small x x.at.ins in omega (arith, em ∙ body_same ∙ ap (proc_at w) eN)

-- the frame's head is there once the arguments are in their slots
pub head-inside : {w w1 w2 w3 : Words} {g : Go} (x : Entered w g call_code) {N n r p k tags : ℕ} → N ≡ at w (g.due + 4 + 1) → Saved w w1 g.top N n g.due r →
    Settled w1 w2 p → Arrived w2 w3 k N p tags → frame_slot N + 4 ≤ length w3
head-inside x eN sv st ar =
    let s = call-saves x x.at.ins in
    omega (arith, eN, s.procedure, s.low, s.room, sv.size, st.size, ar.size)
