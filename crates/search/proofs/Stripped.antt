-- Frames that have no record do not matter for going up: what is left to visit, the records, the site's register and marks and the store are the same
-- without them. Assumes nothing.
use Prim.Native.Nat.{ℕ}
use native.Mathlib.Omega.{arith}
use mathlib.Core.Path.{◌≡◌, refl, sym, subst}
use mathlib.Core.Bool.{Bool}
use mathlib.Core.List.{List, [], ◌∷◌}
use Rattle.specification.specs.Bytes.{Bytes}
use Rattle.specification.specs.Value.{Valuation}
use Rattle.sheet.specs.Tables.{Words}
use Rattle.search.specs.declared.Go.{Go}
use Rattle.search.specs.Frame.{Frame, pass, other, bound, began, given, range, asks, called, site_in}
use Rattle.search.specs.Path.{World, Chain, Path}
use Rattle.search.specs.Sim.{yes, no, Up, Yes}
use Rattle.search.specs.Climb.{strip}

module _ (c : World) where
  path-pass : {w : Words} {top : ℕ} {α : Valuation} (β : Valuation) (fr : List Frame) → Path c w top α (pass β ∷ fr) → Path c w top α fr
  path-pass {w} {top} {α} β fr P = record {
    tables = P.tables;
    ends = omega (arith, P.ends);
    inside = omega (arith, P.inside);
    stack = P.stack.1;
    chain = subst (λ γ. Chain c.declared γ fr) (sym P.chain.0) P.chain.2;
    holds = P.holds;
    marks = P.marks;
    stored = P.stored;
    valid = P.valid;
  }

  -- a path whose topmost frame has a record, or that has none, and what is said of the frames
  pub record Strip (w : Words) (top : ℕ) (α : Valuation) (Q : List Frame → Type 0) : Type 0 where
    pub fr : List Frame
    pub bare : strip fr ≡ fr
    pub path : Path c w top α fr
    pub said : Q fr

  pub stripped : (w : Words) (top : ℕ) (α : Valuation) (Q : List Frame → Type 0) → ((β : Valuation) (fr : List Frame) → Q (pass β ∷ fr) → Q fr) →
      (fr : List Frame) → Path c w top α fr → Q fr → Strip w top α Q
  stripped w top α Q f [] P q = record { fr = []; bare = refl; path = P; said = q }
  stripped w top α Q f (pass β ∷ fr) P q = stripped w top α Q f fr (path-pass β fr P) (f β fr q)
  stripped w top α Q f (other E G is β ∷ fr) P q = record { fr = other E G is β ∷ fr; bare = refl; path = P; said = q }
  stripped w top α Q f (bound l s β ∷ fr) P q = record { fr = bound l s β ∷ fr; bare = refl; path = P; said = q }
  stripped w top α Q f (began l v h β ∷ fr) P q = record { fr = began l v h β ∷ fr; bare = refl; path = P; said = q }
  stripped w top α Q f (given p v β ∷ fr) P q = record { fr = given p v β ∷ fr; bare = refl; path = P; said = q }
  stripped w top α Q f (range l x i n E F is β ∷ fr) P q = record { fr = range l x i n E F is β ∷ fr; bare = refl; path = P; said = q }
  stripped w top α Q f (asks tok r is β e ∷ fr) P q = record { fr = asks tok r is β e ∷ fr; bare = refl; path = P; said = q }
  stripped w top α Q f (called C β ∷ fr) P q = record { fr = called C β ∷ fr; bare = refl; path = P; said = q }

  -- what is left to visit, and the register
  abbrev pub Left : Bytes → Go → Bool → List Frame → Type 0
  Left b g e fr = (g.inner ≡ (site_in fr).inner) × (no c fr e g.tallies b ≡ c.result)

  pub up-strip : {b : Bytes} {w : Words} {g : Go} (u : Up c b w g) → Strip w g.top u.α (Left b g u.e)
  up-strip {b} {w} {g} u = stripped w g.top u.α (Left b g u.e) (λ β fr q. q) u.fr u.path (u.inner, u.result)

  pub yes-strip : {b : Bytes} {w : Words} {g : Go} (u : Yes c b w g) → Strip w g.top u.α (λ fr. yes c fr g.tallies b ≡ c.result)
  yes-strip {b} {w} {g} u = stripped w g.top u.α (λ fr. yes c fr g.tallies b ≡ c.result) (λ β fr q. q) u.fr u.path u.result
