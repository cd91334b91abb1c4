-- Going up after a finished son: the laws of `search`, from what the functions read. Assumes nothing.
use Prim.Native.Nat.{ℕ, suc, ◌+◌, ◌-◌, ◌/◌, ◌≤◌, ◌<◌}
use native.Mathlib.Omega.{arith}
use mathlib.Core.Path.{◌≡◌, refl, sym, ◌∙◌, ap}
use mathlib.Core.Bool.{Bool, true, false}
use mathlib.Core.List.{List, [], ◌∷◌}
use mathlib.Core.Logic.{◌⊎◌, inl, inr}
use lib.ListN.{length, set, length-set}
use lib.Seq.{get_or-set_same, get_or-set_other}
use denote.Enum.Bare.{same_true, true_same}
use Rattle.specification.specs.declared.Setting.{Setting}
use Rattle.specification.proofs.Laws.Contradiction.{contradiction}
use Rattle.specification.specs.Bytes.{Bytes}
use Rattle.specification.specs.Arithmetic.{undecided_inside}
use Rattle.specification.specs.Value.{Valuation}
use Rattle.tables.specs.Layout.{cells_at, local_slot, last_slot, path_at}
use Rattle.tables.specs.Codes.{or_code, imp_code, not_code, some_code, all_code, call_code}
use Rattle.tables.specs.Leaves.{failure_place, error_place}
use Rattle.sheet.specs.Tables.{Words}
use Rattle.search.specs.declared.Errors.TheVariants.{Unseen, Seen}
use Rattle.search.specs.declared.Go.{Go}
use Rattle.search.specs.contracts.Mode.{the_type}
use Rattle.search.specs.declared.Mode.TheVariants as modes
use Rattle.search.specs.States.{same}
use Rattle.search.specs.Frame.{Frame, pass, other, bound, began, given, range, asks, called}
use Rattle.search.specs.Kept.{Lasts}
use Rattle.search.specs.Records.{at}
use Rattle.search.specs.Path.{World, Path}
use Rattle.search.specs.Registers.{Tallied, out_go, resume_go}
use Rattle.search.specs.Sim.{Up, Sim, down, up, block, done, stopped}
use Rattle.search.specs.Climb.{around_go, strip, Set, Rises, Rose, Granted}
use Rattle.search.proofs.Tops.{last-kind}
use Rattle.search.proofs.Restored.{rose-undone}
use Rattle.search.proofs.Resumed.{rose-other, rose-over}
use Rattle.search.proofs.NextValue.{rose-next, rose-closed}
use Rattle.search.proofs.EndAll.{rose-ended}
use Rattle.search.proofs.Leave.{rose-left}
use Rattle.search.proofs.Judged.{rose-failed, rose-undecided, granted-second, granted-failure}
use Rattle.walker.specs.Climbing.{Topped, KeepsSlot, OfCode, OfAsking, Undone, Closed, Ended, RisesFrom, RisesTo, Arounds, Judges, Grants, Climbed}
use Rattle.walker.specs.Frames.{Left}
use Rattle.walker.proofs.Laws.Reach.{bare, asks-path, all-lies, rises-top, rises-code}

-- ---- the code of a topmost record's token

abbrev OneOf : ℕ → Type 0
OneOf x = (x ≡ or_code) ⊎ ((x ≡ some_code) ⊎ ((x ≡ all_code) ⊎ ((x ≡ call_code) ⊎ ((x ≡ not_code) ⊎ (x ≡ imp_code)))))

module _ {c : World} {w : Words} {top : ℕ} {α : Valuation} (some : ¬ (top ≡ path_at)) (low : at w (top - 1) < cells_at) where
  codes-of : (fr : List Frame) → strip fr ≡ fr → Path c w top α fr → OneOf (at w (at w (top - 1)))
  codes-of [] b P = absurd (some P.ends)
  codes-of (pass β ∷ fr) b P = absurd (last-kind (pass β) fr b P)
  codes-of (other E G is β ∷ fr) b P = inl (last-kind (other E G is β) fr b P).1
  codes-of (bound l s β ∷ fr) b P = absurd (omega (arith, last-kind (bound l s β) fr b P))
  codes-of (began l v m β ∷ fr) b P = inr (inr (inl (last-kind (began l v m β) fr b P).1))
  codes-of (given p v β ∷ fr) b P = absurd (omega (arith, last-kind (given p v β) fr b P))
  codes-of (range l x i n E F is β ∷ fr) b P = inr (inl (last-kind (range l x i n E F is β) fr b P).1)
  codes-of (asks tok q is β e ∷ fr) b P = inr (inr (inr (inr (last-kind (asks tok q is β e) fr b P).1)))
  codes-of (called C β ∷ fr) b P = inr (inr (inr (inl (last-kind (called C β) fr b P).1)))

pub top-codes : {w : Words} {g : Go} → Topped w g → at w (g.top - 1) < cells_at → OneOf (at w (at w (g.top - 1)))
top-codes t low = let s = bare t.path in codes-of t.some low s.fr s.bare s.path

pub only-call : {x : ℕ} → OneOf x → ¬ (x ≡ or_code) → ¬ (x ≡ some_code) → ¬ (x ≡ all_code) → ¬ (x ≡ not_code) → ¬ (x ≡ imp_code) → x ≡ call_code
only-call (inl e) a b c d f = absurd (a e)
only-call (inr (inl e)) a b c d f = absurd (b e)
only-call (inr (inr (inl e))) a b c d f = absurd (c e)
only-call (inr (inr (inr (inl e)))) a b c d f = e
only-call (inr (inr (inr (inr (inl e))))) a b c d f = absurd (d e)
only-call (inr (inr (inr (inr (inr e))))) a b c d f = absurd (f e)

only-asks : {x : ℕ} → OneOf x → ¬ (x ≡ or_code) → ¬ (x ≡ some_code) → ¬ (x ≡ all_code) → ¬ (x ≡ call_code) → (x ≡ not_code) ⊎ (x ≡ imp_code)
only-asks (inl e) a b c d = absurd (a e)
only-asks (inr (inl e)) a b c d = absurd (b e)
only-asks (inr (inr (inl e))) a b c d = absurd (c e)
only-asks (inr (inr (inr (inl e)))) a b c d = absurd (d e)
only-asks (inr (inr (inr (inr e)))) a b c d = e

-- ---- inner trees

pub asking-of : {w : Words} {g : Go} → Topped w g → at w (g.top - 1) < cells_at → (at w (at w (g.top - 1)) ≡ not_code) ⊎ (at w (at w (g.top - 1)) ≡ imp_code) → OfAsking w g
asking-of t low (inl e) = inl (record { top = t; low = low; code = e })
asking-of t low (inr e) = inr (record { top = t; low = low; code = e })

record Asked (w : Words) (g : Go) : Type 0 where
  pub some : ¬ (g.top ≡ path_at)
  pub low : at w (g.top - 1) < cells_at
  pub code : (at w (at w (g.top - 1)) ≡ not_code) ⊎ (at w (at w (g.top - 1)) ≡ imp_code)

asked : {w : Words} {g : Go} → OfAsking w g → Asked w g
asked (inl o) = record { some = o.top.some; low = o.low; code = inl o.code }
asked (inr o) = record { some = o.top.some; low = o.low; code = inr o.code }

arounds : {c : World} {w : Words} {g : Go} {α : Valuation} {fr : List Frame} {setting : Setting} → Path c w g.top α fr → Set c setting → Tallied c g → OfAsking w g →
    Arounds w g setting
arounds P st t o =
    let a = asked o in
    let r = asks-path P a.some a.low a.code in
    record {
      asks = o;
      high = r.0.reach.low;
      depth = omega (arith, r.1, st.path_is);
      visits = omega (arith, t.budget, st.budget_is);
    }

module _ {w : Words} {g : Go} {t : ℕ} {setting : Setting} (j : Judges w g t setting) where
  pub judges-arounds : Arounds w g setting
  judges-arounds = arounds j.rises.up.path j.rises.set j.rises.up.tallies j.asks

  pub judged-undecided : {w' : Words} {q : Go} → w' ≡ set (set w (error_place + 1) undecided_inside) (error_place + 2) (t / 4) → g.bad ≡ Seen →
      q ≡ around_go w g error_place setting → Rose w w' g q setting
  judged-undecided ws one rs =
      let a = asked j.asks in
      rose-undecided a.some a.low a.code (ws ∙ ap (λ k. set (set w (error_place + 1) undecided_inside) (error_place + 2) (k / 4)) j.token) one rs

  pub judged-failed : {q : Go} {n : ℕ} → n ≡ at w (t + 3) → g.bad ≡ Unseen → q ≡ around_go w g n setting → Rose w w g q setting
  judged-failed en none rs =
      let a = asked j.asks in
      rose-failed a.some a.low a.code none (rs ∙ ap (λ k. around_go w g k setting) (en ∙ ap (λ k. at w (k + 3)) j.token))

module _ {w : Words} {g : Go} {setting : Setting} (r : Grants w g setting) where
  pub grants-arounds : Arounds w g setting
  grants-arounds = arounds r.yes.path r.set r.yes.tallies r.asks

  pub grants-second : {q : Go} {t x n : ℕ} → t ≡ at w (g.top - 1) → x ≡ at w t → x ≡ imp_code → n ≡ at w (t + 1) → q ≡ around_go w g n setting → Granted w g q setting
  grants-second et ex imp en rs =
      let a = asked r.asks in
      granted-second a.some a.low (ap (at w) (sym et) ∙ sym ex ∙ imp) (rs ∙ ap (λ k. around_go w g k setting) (en ∙ ap (λ k. at w (k + 1)) et))

  pub grants-failure : {q : Go} {t x : ℕ} → t ≡ at w (g.top - 1) → x ≡ at w t → ¬ (x ≡ imp_code) → q ≡ around_go w g failure_place setting → Granted w g q setting
  grants-failure et ex off rs =
      let a = asked r.asks in
      granted-failure a.some a.low (denies a.code) rs
    where
      denies : (at w (at w (g.top - 1)) ≡ not_code) ⊎ (at w (at w (g.top - 1)) ≡ imp_code) → at w (at w (g.top - 1)) ≡ not_code
      denies (inl e) = e
      denies (inr e) = absurd (off (ex ∙ ap (at w) et ∙ e))

-- ---- by the token's code

module _ {w : Words} {g : Go} {n t : ℕ} {setting : Setting} (r : RisesTo w g n t setting) where
  abbrev f : RisesFrom w g t setting
  f = r.from

  pub other-rose : n ≡ or_code → {q : Go} {m depth : ℕ} → m ≡ at w (t + 1) → depth ≡ at w (g.top - 2) →
      q ≡ resume_go g m depth (g.top - 2) g.inner g.bad setting → Rose w w g q setting
  other-rose is {depth = depth} em ed rs =
      rose-other f.some f.low (r.code ∙ is)
      (rs ∙ ap (λ k. resume_go g k depth (g.top - 2) g.inner g.bad setting) (em ∙ ap (λ k. at w (k + 1)) f.token)
      ∙ ap (λ k. resume_go g (at w (at w (g.top - 1) + 1)) k (g.top - 2) g.inner g.bad setting) ed)

  slot-by : {l slot : ℕ} → l ≡ at w (t + 5) → slot ≡ local_slot l → slot ≡ local_slot (at w (at w (g.top - 1) + 5))
  slot-by el es = es ∙ ap local_slot (el ∙ ap (λ k. at w (k + 5)) f.token)

  pub value-rose : n ≡ some_code → {w' : Words} {q : Go} {l slot current last m depth : ℕ} → l ≡ at w (t + 5) → slot ≡ local_slot l → current ≡ at w (slot + 1) →
      last ≡ at w (g.top - 3) → current < last → m ≡ at w (t + 7) → depth ≡ at w (g.top - 2) → w' ≡ set w (slot + 1) (current + 1) →
      q ≡ resume_go g m depth g.top g.inner g.bad setting → Rose w w' g q setting
  value-rose is {slot = slot} {depth = depth} el es ec ea more em ed ws rs =
      rose-next f.some f.low (r.code ∙ is) (slot-by el es) (rw (ec, ea) at more) (ws ∙ ap (λ k. set w (slot + 1) (k + 1)) ec)
      (rs ∙ ap (λ k. resume_go g k depth g.top g.inner g.bad setting) (em ∙ ap (λ k. at w (k + 7)) f.token)
      ∙ ap (λ k. resume_go g (at w (at w (g.top - 1) + 7)) k g.top g.inner g.bad setting) ed)

  pub closed-rose : n ≡ some_code → {w' : Words} {q : Go} {l slot current last : ℕ} → l ≡ at w (t + 5) → slot ≡ local_slot l → current ≡ at w (slot + 1) →
      last ≡ at w (g.top - 3) → last ≤ current → Closed w w' g q → Rose w w' g q setting
  closed-rose is el es ec ea over k =
      let e = slot-by el es in
      let none = rw (ec, ea, e) at over in
      rose-closed f.some f.low (r.code ∙ is) refl k.words (λ h. omega (arith, none)) f.rises k.regs

module _ {w : Words} {g : Go} {t : ℕ} {setting : Setting} (f : RisesFrom w g t setting) where
  pub rises-to : {n x : ℕ} → x ≡ at w t → x ≡ n → RisesTo w g n t setting
  rises-to ex e = record { from = f; code = ap (at w) (sym f.token) ∙ sym ex ∙ e }

  pub rises-of : {n x : ℕ} → x ≡ at w t → x ≡ n → OfCode w g n
  rises-of ex e = rises-code (rises-to ex e)

  pub left-rose : {x : ℕ} {w' : Words} {q : Go} → x ≡ at w t → x ≡ call_code → Left w w' g q → Rose w w' g q setting
  left-rose ex e k = rose-left f.some f.low (rises-to ex e).code refl refl refl k.back f.rises k.regs

  pub rises-judges : {x : ℕ} → x ≡ at w t → ¬ (x ≡ or_code) → ¬ (x ≡ some_code) → ¬ (x ≡ all_code) → ¬ (x ≡ call_code) → Judges w g t setting
  rises-judges ex a b c d =
      let top = rises-top f.rises f.some in
      let same = ex ∙ ap (at w) f.token in
      record {
        rises = f.rises;
        asks = asking-of top f.low (only-asks (top-codes top f.low) (λ e. a (same ∙ e)) (λ e. b (same ∙ e)) (λ e. c (same ∙ e)) (λ e. d (same ∙ e)));
        token = f.token;
      }

-- ---- the last value of an `all`

pub lasts-set : (w : Words) (l h : ℕ) → last_slot l < length w → Lasts w (set w (last_slot l) h) l h
lasts-set w l h s = record {
  others = λ j n. get_or-set_other w (last_slot l) j h 0 (λ e. n (omega arith));
  now = get_or-set_same w (last_slot l) h 0 s;
  size = length-set w (last_slot l) h;
}

pub last-there : {w : Words} {g : Go} → OfCode w g all_code → last_slot (at w (at w (g.top - 1) + 5)) < length w
last-there o = let z = all-lies o in omega (arith, z.1, z.0.reach.low, z.0.reach.high)

pub ended-rose : {w w' : Words} {g q : Go} {t x : ℕ} {setting : Setting} → RisesFrom w g t setting → x ≡ at w t → x ≡ all_code → Ended w w' g q → Rose w w' g q setting
ended-rose {w} {g = g} f ex e k =
    rose-ended f.some f.low (rises-to f ex e).code refl refl (lasts-set w _ _ (last-there (rises-of f ex e))) k.words f.rises k.regs

-- ---- by the last word

module _ {w : Words} {g : Go} {setting : Setting} (r : Rises w g setting) where
  pub over-rose : g.top ≡ path_at → {q : Go} → q ≡ out_go g modes.Done → Rose w w g q setting
  over-rose e rs = rose-over e r rs

  pub rises-slot : ¬ (g.top ≡ path_at) → {x : ℕ} → x ≡ at w (g.top - 1) → cells_at ≤ x → KeepsSlot w g
  rises-slot n ex h = record { top = rises-top r n; slot = rw ex at h }

  pub undone-rose : {w' : Words} {q : Go} → KeepsSlot w g → Undone w w' g q → Rose w w' g q setting
  undone-rose k u = rose-undone k.top.some k.slot u.words r u.regs

  pub rises-from : ¬ (g.top ≡ path_at) → {x : ℕ} → x ≡ at w (g.top - 1) → x < cells_at → RisesFrom w g x setting
  rises-from n ex h = record { rises = r; some = n; low = rw ex at h; token = ex }

-- ---- until something is due

-- a son is still due, in the mode of going up
sim-up : {c : World} {b : Bytes} {w : Words} {q : Go} → q.mode ≡ modes.Up → Sim c b w q → Up c b w q
sim-up m (down e d) = contradiction cc
sim-up m (up e u) = u
sim-up m (block e d) = contradiction cc
sim-up m (done e d) = contradiction cc
sim-up m (stopped e d) = contradiction cc

-- some records more are gone
pub record Climbs (w₀ w : Words) (g q : Go) (setting : Setting) : Type 0 where
  pub c : World
  pub b : Bytes
  pub set : Set c setting
  pub here : Sim c b w q
  pub sim : (c : World) (b : Bytes) → Set c setting → Sim c b w₀ g → Sim c b w q
  pub nodes : q.tallies ≡ g.tallies
  pub counted : q.from ≡ q.depth

pub climbs-first : {w : Words} {g : Go} {setting : Setting} → Rises w g setting → Climbs w w g g setting
climbs-first r = record {
  c = r.c;
  b = r.b;
  set = r.set;
  here = up r.mode r.up;
  sim = λ c b st z. z;
  nodes = refl;
  counted = r.up.counted;
}

module _ {w₀ w : Words} {g q : Go} {setting : Setting} (k : Climbs w₀ w g q setting) where
  pub climbs-rises : q.mode ≡ modes.Up → Rises w q setting
  climbs-rises m = record { c = k.c; b = k.b; set = k.set; mode = m; up = sim-up m k.here }

  pub climbs-more : {w' : Words} {q' : Go} → q.mode ≡ modes.Up → Rose w w' q q' setting → Climbs w₀ w' g q' setting
  climbs-more m s = record {
    c = k.c;
    b = k.b;
    set = k.set;
    here = s.sim k.c k.b k.set (sim-up m k.here);
    sim = λ c b st z. s.sim c b st (sim-up m (k.sim c b st z));
    nodes = s.nodes ∙ k.nodes;
    counted = s.counted;
  }

  pub climbs-end : g.mode ≡ modes.Up → ¬ (q.mode ≡ modes.Up) → Climbed w₀ w g q setting
  climbs-end m n = record { sim = λ c b st u. k.sim c b st (up m u); nodes = k.nodes; counted = k.counted; stops = n }

-- what falls: one more than where the records end, while going up
abbrev pub rung : Bool → ℕ → ℕ
rung true n = suc n
rung false n = 0

unfoldable pub level : Go → ℕ
level q = rung (same q.mode modes.Up) q.top

pub climbs-less : {w w' : Words} {q q' : Go} {setting : Setting} → q.mode ≡ modes.Up → Rose w w' q q' setting → level q' < level q
unfolding level
climbs-less {q = q} {q' = q'} m s = rw (true_same the_type q.mode modes.Up m) (go (same q'.mode modes.Up) refl)
  where
    go : (t : Bool) → same q'.mode modes.Up ≡ t → rung t q'.top < rung true q.top
    go true e = omega (arith, s.falls (same_true the_type tt q'.mode modes.Up e))
    go false e = omega arith
