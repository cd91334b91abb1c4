-- Where the words of the topmost record lie, and which token and local they name, by the record's last word. Assumes nothing.
use Prim.Native.Nat.{ℕ, suc, ◌+◌, ◌-◌, ◌*◌, ◌%◌, ◌≤◌, ◌<◌}
use native.Mathlib.Omega.{arith}
use mathlib.Core.Path.{◌≡◌, refl, ◌∙◌, ap}
use mathlib.Core.List.{List, ◌∷◌}
use mathlib.Core.Logic.{◌⊎◌, inl, inr}
use lib.ListN.{length}
use Rattle.specification.specs.Place.{Place, local}
use Rattle.specification.specs.Value.{Valuation}
use Rattle.tables.specs.Layout.{cells_at, token_slot, path_at, max_locals}
use Rattle.tables.specs.Codes.{or_code, imp_code, not_code, some_code, all_code}
use Rattle.sheet.specs.Tables.{Words}
use Rattle.sheet.specs.Held.{slot_of}
use Rattle.terms.proofs.Laws.Here.{operand-here}
use Rattle.search.specs.declared.Go.{Go}
use Rattle.search.specs.Frame.{Frame, size_of, top_of, site_in}
use Rattle.search.specs.Records.{at, had_unit, SlotRecord}
use Rattle.search.specs.Path.{World, Path}
use Rattle.search.specs.Climb.{Rises}
use Rattle.search.proofs.RecordsKept.{top-low}
use Rattle.search.proofs.Sites.{site-depth}
use Rattle.search.proofs.Slots.{in_table}
use Rattle.search.proofs.Paths.{top-few}
use Rattle.search.proofs.Stripped.{Strip, stripped}
use Rattle.search.proofs.Tops.{top-undo, top-other, top-some, top-all, top-asks}
use Rattle.search.proofs.NextValue.{some-depth, some-local}
use Rattle.search.proofs.Judged.{ask-token}
use Rattle.specification.specs.declared.Setting.{Setting}
use Rattle.walker.specs.Climbing.{Topped, KeepsSlot, OfCode, OfAsking, RisesTo}

-- ---- a record of n words

pub record Reach (w : Words) (top n : ℕ) : Type 0 where
  pub low : path_at + n ≤ top
  pub high : top ≤ length w

module _ {c : World} {w : Words} {top : ℕ} {α : Valuation} where
  pub path-high : {fr : List Frame} → Path c w top α fr → (path_at ≤ top) × (top ≤ length w)
  path-high {fr} P = (
    omega (arith, P.ends, top-low fr),
    omega (arith, P.ends, P.inside, P.tables.size, top-few c.declared c.tables w fr P.stack),
  )

  pub path-reach : {f : Frame} {fr : List Frame} → Path c w top α (f ∷ fr) → Reach w top (size_of f)
  path-reach {f} {fr} P = record { low = omega (arith, P.ends, top-low fr); high = (path-high P).1 }

  -- without the frames that have no record
  pub bare : {fr : List Frame} → Path c w top α fr → Strip c w top α (λ _. Unit {0})
  bare {fr} P = stripped c w top α (λ _. Unit {0}) (λ β f q. tt) fr P tt

-- the topmost record
pub top-reach : {w : Words} {g : Go} → Topped w g → Reach w g.top 1
top-reach t = let z = path-high t.path in record { low = omega (arith, z.0, t.some); high = z.1 }

-- ---- it keeps a slot

pub record SlotLies (w : Words) (top : ℕ) : Type 0 where
  pub reach : Reach w top 3
  pub slot : at w (top - 1) % had_unit + 1 < path_at

slot-part : (x s had : ℕ) → x ≡ s + had_unit * had → s + 1 < path_at → x % had_unit + 1 < path_at
slot-part x s had e h = omega arith

module _ {c : World} {w : Words} {top : ℕ} {α : Valuation} {f : Frame} {fr : List Frame} (P : Path c w top α (f ∷ fr)) (p : Place) (three : size_of f ≡ 3)
    {β : Valuation} (q : SlotRecord c.declared w (top_of fr) p (site_in fr) β) where
  slot-record : SlotLies w top
  slot-record =
      let z : top - 1 ≡ top_of fr + 2 = omega (arith, P.ends) in
      let i = in_table p q.kept.inside in
      let r = path-reach P in
      record {
        reach = record { low = omega (arith, r.low); high = r.high };
        slot = slot-part (at w (top - 1)) (slot_of p) q.had (ap (at w) z ∙ q.slot) (omega (arith, i.high));
      }

pub slot-lies : {w : Words} {g : Go} → KeepsSlot w g → SlotLies w g.top
slot-lies {w} {g} k =
    let t = k.top in
    let s = bare t.path in
    top-undo (λ fr. SlotLies w g.top) t.some k.slot
    (λ l x β fr P. slot-record P (local l) refl P.stack.0) (λ p v β fr P. slot-record P p refl P.stack.0) s.fr s.bare s.path

-- ---- a token's

-- a record of n words, whose token's words and the m after them are there
pub record TokenLies (w : Words) (top n m : ℕ) : Type 0 where
  pub reach : Reach w top n
  pub token : at w (top - 1) + m < path_at

-- the local of its quantifier
abbrev LocalLies : Words → ℕ → Type 0
LocalLies w top = at w (at w (top - 1) + 5) < max_locals

-- the depth of its sons
abbrev DepthLies : World → Words → ℕ → Type 0
DepthLies c w top = at w (top - 2) ≤ c.setting.path

module _ {c : World} {w : Words} {top : ℕ} {α : Valuation} {fr : List Frame} (P : Path c w top α fr) (some : ¬ (top ≡ path_at)) (low : at w (top - 1) < cells_at) where
  pub or-path : at w (at w (top - 1)) ≡ or_code → TokenLies w top 2 3 × DepthLies c w top
  or-path h =
      let s = bare P in
      top-other (λ fr. TokenLies w top 2 3 × DepthLies c w top) some low h
      (λ E G is β fr P.
      let r = P.stack.0 in
      let z : top - 2 ≡ top_of fr = omega (arith, P.ends) in
      (record { reach = path-reach P; token = omega arith }, omega (arith, ap (at w) z ∙ r.depth ∙ ap suc (site-depth fr), P.inside)))
      s.fr s.bare s.path

  pub some-path : at w (at w (top - 1)) ≡ some_code → TokenLies w top 5 7 × LocalLies w top × DepthLies c w top
  some-path h =
      let s = bare P in
      top-some (λ fr. TokenLies w top 5 7 × LocalLies w top × DepthLies c w top) some low h
      (λ l x i n E F is β fr P.
      let q = P.stack.0 in
      (record { reach = path-reach P; token = omega arith }, rw (some-local P) q.binds.small, omega (arith, some-depth P, P.inside)))
      s.fr s.bare s.path

  pub all-path : at w (at w (top - 1)) ≡ all_code → TokenLies w top 4 7 × LocalLies w top
  all-path h =
      let s = bare P in
      top-all (λ fr. TokenLies w top 4 7 × LocalLies w top) some low h
      (λ l v m β fr P.
      let q = P.stack.0 in
      let z : top - 1 ≡ top_of fr + 3 = omega (arith, P.ends) in
      let t : at w (top - 1) ≡ token_slot q.h = ap (at w) z ∙ q.token in
      let e : at w (top - 1) + 5 ≡ token_slot (suc q.h) + 1 = omega arith in
      let own : at w (at w (top - 1) + 5) ≡ l = ap (at w) e ∙ operand-here c.tables w P.tables.tokens q.small ∙ q.bound in
      (record { reach = path-reach P; token = omega arith }, rw own q.kept.inside))
      s.fr s.bare s.path

  pub asks-path : (at w (at w (top - 1)) ≡ not_code) ⊎ (at w (at w (top - 1)) ≡ imp_code) → TokenLies w top 4 3 × DepthLies c w top
  asks-path h =
      let s = bare P in
      top-asks (λ fr. TokenLies w top 4 3 × DepthLies c w top) some low h
      (λ tok q is β e fr P.
      let r = P.stack.0 in
      let z : top - 2 ≡ top_of fr + 2 = omega (arith, P.ends) in
      (record { reach = path-reach P; token = omega (arith, ask-token P, r.small) }, omega (arith, ap (at w) z ∙ r.depth ∙ ap suc (site-depth fr), P.inside)))
      s.fr s.bare s.path

-- ---- by the contracts

pub some-lies : {w : Words} {g : Go} → OfCode w g some_code → TokenLies w g.top 5 7 × LocalLies w g.top
some-lies o = let r = some-path o.top.path o.top.some o.low o.code in (r.0, r.1)

pub all-lies : {w : Words} {g : Go} → OfCode w g all_code → TokenLies w g.top 4 7 × LocalLies w g.top
all-lies o = all-path o.top.path o.top.some o.low o.code

pub asks-lies : {w : Words} {g : Go} → OfAsking w g → TokenLies w g.top 4 3
asks-lies (inl o) = (asks-path o.top.path o.top.some o.low (inl o.code)).0
asks-lies (inr o) = (asks-path o.top.path o.top.some o.low (inr o.code)).0

-- the local, as read by the token
module _ {w : Words} {g : Go} where
  pub some-small : OfCode w g some_code → {t l : ℕ} → t ≡ at w (g.top - 1) → l ≡ at w (t + 5) → l < max_locals
  some-small o et el = rw (el, et) (some-lies o).1

  pub all_small : OfCode w g all_code → {t l : ℕ} → t ≡ at w (g.top - 1) → l ≡ at w (t + 5) → l < max_locals
  all_small o et el = rw (el, et) (all-lies o).1

-- a path with a record, on which a son is finished
pub rises-top : {w : Words} {g : Go} {setting : Setting} → Rises w g setting → ¬ (g.top ≡ path_at) → Topped w g
rises-top r n = record { c = r.c; α = r.up.α; fr = r.up.fr; path = r.up.path; some = n }

module _ {w : Words} {g : Go} {n t : ℕ} {setting : Setting} (r : RisesTo w g n t setting) where
  pub rises-code : OfCode w g n
  rises-code = record { top = rises-top r.from.rises r.from.some; low = r.from.low; code = r.code }

pub rises-visits : {w : Words} {g : Go} {setting : Setting} → Rises w g setting → g.tallies.nodes ≤ setting.budget
rises-visits r = omega (arith, r.up.tallies.budget, r.set.budget_is)

pub or-depth : {w : Words} {g : Go} {t : ℕ} {setting : Setting} → RisesTo w g or_code t setting → TokenLies w g.top 2 3 × (at w (g.top - 2) ≤ setting.path)
or-depth r =
    let u = r.from.rises in
    let z = or-path u.up.path r.from.some r.from.low r.code in
    (z.0, omega (arith, z.1, u.set.path_is))

pub some-depth-is : {w : Words} {g : Go} {t : ℕ} {setting : Setting} → RisesTo w g some_code t setting → at w (g.top - 2) ≤ setting.path
some-depth-is r =
    let u = r.from.rises in
    let z = some-path u.up.path r.from.some r.from.low r.code in
    omega (arith, z.2, u.set.path_is)
