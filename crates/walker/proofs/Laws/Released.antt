-- Going up after an inner tree has succeeded: the laws of `search`, from what the functions read. Assumes nothing.
use Prim.Native.Nat.{ℕ, ◌-◌, ◌≤◌, ◌<◌}
use mathlib.Core.Path.{◌≡◌, refl, sym, ◌∙◌, ap}
use mathlib.Core.Bool.{true, false}
use Rattle.specification.specs.Bytes.{Bytes}
use Rattle.tables.specs.Layout.{cells_at}
use Rattle.tables.specs.Codes.{or_code, some_code, all_code, call_code}
use Rattle.sheet.specs.Tables.{Words}
use Rattle.search.specs.declared.Go.{Go}
use Rattle.search.specs.Records.{at}
use Rattle.search.specs.Path.{World}
use Rattle.search.specs.Registers.{drop_go}
use Rattle.search.specs.Sim.{Yes}
use Rattle.search.specs.Climb.{Fell}
use Rattle.search.proofs.Restored.{fell-undone}
use Rattle.search.proofs.Resumed.{fell-other}
use Rattle.search.proofs.NextValue.{fell-closed}
use Rattle.search.proofs.EndAll.{fell-ended}
use Rattle.search.proofs.Leave.{fell-left}
use Rattle.walker.specs.Climbing.{KeepsSlot, OfCode, Undone, Closed, Ended, WinsInside, asking, Releases, WinsFrom, Unwound}
use Rattle.walker.specs.Frames.{Left}
use Rattle.walker.proofs.Laws.Inside.{wins, wins-top, wins-fell}
use Rattle.walker.proofs.Laws.AskingTest.{asking-yes, asking-no}
use Rattle.walker.proofs.Laws.Risen.{top-codes, only-call, asking-of, lasts-set, last-there}

module _ {w : Words} {g : Go} {t : ℕ} (f : WinsFrom w g t) where
  abbrev r : Releases w g t
  r = f.releases

  token-low : at w (g.top - 1) < cells_at
  token-low = rw r.word at f.low

  code_by : {n x : ℕ} → x ≡ at w t → x ≡ n → at w (at w (g.top - 1)) ≡ n
  code_by ex e = ap (at w) (sym r.word) ∙ sym ex ∙ e

  pub wins-of : {n x : ℕ} → x ≡ at w t → x ≡ n → OfCode w g n
  wins-of ex e = record { top = wins-top r.wins; low = token-low; code = code_by ex e }

  pub other-fell : {q : Go} {x : ℕ} → x ≡ at w t → x ≡ or_code → q ≡ drop_go g (g.top - 2) g.inner → Fell w w g q
  other-fell ex e rs = fell-other (wins-top r.wins).some token-low (code_by ex e) (wins r.wins) rs

  module _ {w' : Words} {q : Go} {x : ℕ} (ex : x ≡ at w t) where
    pub closed-fell : x ≡ some_code → Closed w w' g q → Fell w w' g q
    closed-fell e k = fell-closed (wins-top r.wins).some token-low (code_by ex e) refl k.words (wins r.wins) k.regs

    pub ended-fell : x ≡ all_code → Ended w w' g q → Fell w w' g q
    ended-fell e k =
        fell-ended (wins-top r.wins).some token-low (code_by ex e) refl refl (lasts-set w _ _ (last-there (wins-of ex e))) k.words (wins r.wins) k.regs

    pub left-fell : x ≡ call_code → Left w w' g q → Fell w w' g q
    left-fell e k = fell-left (wins-top r.wins).some token-low (code_by ex e) refl refl refl k.back (wins r.wins) k.regs

  -- what is neither of the others nor asks is a call
  pub wins-call : {x : ℕ} → x ≡ at w t → ¬ (x ≡ or_code) → ¬ (x ≡ some_code) → ¬ (x ≡ all_code) → x ≡ call_code
  wins-call ex a b c =
      let same = ex ∙ ap (at w) r.word in
      let off = asking-no w t r.other f.low in
      same
      ∙ only-call (top-codes (wins-top r.wins) token-low) (λ e. a (same ∙ e)) (λ e. b (same ∙ e)) (λ e. c (same ∙ e))
      (λ e. off.0 (sym ex ∙ same ∙ e)) (λ e. off.1 (sym ex ∙ same ∙ e))

module _ {w : Words} {g : Go} {x : ℕ} (r : Releases w g x) where
  pub releases-slot : cells_at ≤ x → KeepsSlot w g
  releases-slot h = record { top = wins-top r.wins; slot = rw r.word at h }

  pub undone-fell : {w' : Words} {q : Go} → KeepsSlot w g → Undone w w' g q → Fell w w' g q
  undone-fell k u = fell-undone k.top.some k.slot u.words (wins r.wins) u.regs

  pub releases-from : x < cells_at → WinsFrom w g x
  releases-from h = record { releases = r; low = h }

-- ---- up to the node that asked

-- some records are gone, and x is the last word of the topmost
pub record Unwinds (w₀ w : Words) (g q : Go) (x : ℕ) : Type 0 where
  pub wins : WinsInside w q
  pub yes : (c : World) (b : Bytes) → Yes c b w₀ g → Yes c b w q
  pub nodes : q.tallies ≡ g.tallies
  pub word : x ≡ at w (q.top - 1)

pub unwinds-first : {w : Words} {g : Go} {x : ℕ} → WinsInside w g → x ≡ at w (g.top - 1) → Unwinds w w g g x
unwinds-first u e = record { wins = u; yes = λ c b y. y; nodes = refl; word = e }

module _ {w₀ w : Words} {g q : Go} {x : ℕ} (k : Unwinds w₀ w g q x) where
  pub unwinds-releases : asking w x ≡ false → Releases w q x
  unwinds-releases e = record { wins = k.wins; word = k.word; other = e }

  pub unwinds-more : {w' : Words} {q' : Go} {y : ℕ} → Fell w w' q q' → y ≡ at w' (q'.top - 1) → Unwinds w₀ w' g q' y
  unwinds-more f e = record {
    wins = wins-fell k.wins f;
    yes = λ c b y. f.yes c b (k.yes c b y);
    nodes = f.nodes ∙ k.nodes;
    word = e;
  }

  pub unwinds-end : asking w x ≡ true → Unwound w₀ w g q
  unwinds-end e =
      let a = asking-yes w x e in
      record {
        yes = k.yes;
        nodes = k.nodes;
        asks = asking-of (wins-top k.wins) (rw k.word at a.0) (rw k.word at a.1);
      }
