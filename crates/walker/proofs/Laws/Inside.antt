-- An inner tree has succeeded: the node that asked for it is on the path, so a record is there until its own is reached. It is told by a world whose
-- budget is spent, in which that node's son stops the run. Assumes nothing.
use Prim.Native.Nat.{ℕ}
use native.Mathlib.Omega.{arith}
use mathlib.Core.Path.{◌≡◌, refl, sym, ◌∙◌, ap}
use mathlib.Core.Bool.{true}
use mathlib.Core.List.{List, [], ◌∷◌}
use borrow.Author.Tests.{eq-eqb}
use Rattle.specification.specs.declared.Tallies.{Tallies}
use Rattle.specification.specs.Bytes.{Bytes}
use Rattle.specification.specs.Value.{Valuation}
use Rattle.specification.specs.Run.{Conditions, setting, add_node, spent, Run, going, stopped}
use Rattle.specification.proofs.Laws.Contradiction.{contradiction}
use Rattle.tables.specs.Layout.{path_at}
use Rattle.sheet.specs.Tables.{Words}
use Rattle.search.specs.declared.Go.{Go}
use Rattle.search.specs.declared.Mode.{Mode}
use Rattle.search.specs.Walk.{Next, gated}
use Rattle.search.specs.Frame.{Frame, pass, other, bound, began, given, range, asks, called, top_of, inner_in}
use Rattle.search.specs.Path.{World, conditions_of, Path}
use Rattle.search.specs.Registers.{tallied, leaf_go}
use Rattle.search.specs.Sim.{yes, In, Yes}
use Rattle.search.specs.Climb.{strip, Wins, Fell}
use Rattle.search.specs.States.{main_tree}
use Rattle.search.proofs.RecordsKept.{top-low}
use Rattle.search.proofs.Sites.{inner-inside}
use Rattle.search.proofs.Stripped.{yes-strip}
use Rattle.search.proofs.Tops.{not-stripped}
use Rattle.walker.specs.Climbing.{Topped, WinsInside}

-- ---- a path without a record has no node that asks

module _ {w : Words} {g : Go} (u : WinsInside w g) where
  pub wins : Wins w g
  wins = record { c = u.c; b = u.b; yes = u.yes }

  wins-some : ¬ (g.top ≡ path_at)
  wins-some e = let s = yes-strip u.c u.yes in go s.fr s.bare s.path.ends s.said
    where
      go : (fr : List Frame) → strip fr ≡ fr → g.top ≡ top_of fr → yes u.c fr g.tallies u.b ≡ u.c.result → ⊥
      go [] h z q = u.more q
      go (pass β ∷ fr) h z q = not-stripped β fr h
      go (other E G is β ∷ fr) h z q = omega (arith, top-low fr)
      go (bound l s β ∷ fr) h z q = omega (arith, top-low fr)
      go (began l v m β ∷ fr) h z q = omega (arith, top-low fr)
      go (given p v β ∷ fr) h z q = omega (arith, top-low fr)
      go (range l x i n E F is β ∷ fr) h z q = omega (arith, top-low fr)
      go (asks tok x is β f ∷ fr) h z q = omega (arith, top-low fr)
      go (called C β ∷ fr) h z q = omega (arith, top-low fr)

  pub wins-top : Topped w g
  wins-top = record { c = u.c; α = u.yes.α; fr = u.yes.fr; path = u.yes.path; some = wins-some }

  -- a record is gone
  pub wins-fell : {w' : Words} {q : Go} → Fell w w' g q → WinsInside w' q
  wins-fell f = record { c = u.c; b = u.b; yes = f.yes u.c u.b u.yes; more = λ e. u.more (sym (ap (λ t. going t u.b) f.nodes) ∙ e) }

-- ---- a world whose budget is spent

module _ (c : World) (n : ℕ) (r : Run) where
  abbrev spent_world : World
  spent_world = record {
    tables = c.tables;
    declared = c.declared;
    setting = setting c.setting.path n c.setting.skip;
    size = c.size;
    result = r;
  }

  spent-path : {w : Words} {top : ℕ} {α : Valuation} {fr : List Frame} → Path c w top α fr → Path spent_world w top α fr
  spent-path P =
      let t = P.tables in
      let s = P.stored in
      record {
        tables = record {
          size = t.size;
          limit = t.limit;
          tokens = t.tokens;
          arrays = t.arrays;
          ranges = t.ranges;
          cells = t.cells;
          few = t.few;
          leaves = t.leaves;
          procedures = record {
            none = t.procedures.none;
            few = t.procedures.few;
            ok = t.procedures.ok;
            bodies = λ K h. record { held = (t.procedures.bodies K h).held; planned = (t.procedures.bodies K h).planned };
            same = t.procedures.same;
          };
        };
        ends = P.ends;
        inside = P.inside;
        stack = P.stack;
        chain = P.chain;
        holds = P.holds;
        marks = P.marks;
        stored = record {
          lasts = s.lasts;
          calls = λ K C e.
              let q = s.calls K C e in
              let f = q.2 in
              (q.0, q.1, record { calls = f.calls; plain = f.plain; back = f.back; token = f.token; results = f.results; flags = f.flags });
        };
        valid = P.valid;
      }

gate-spent : (C : Conditions) (d : ℕ) (k : Next) (t : Tallies) (b : Bytes) → t.nodes ≡ C.setting.budget → gated C d k t b ≡ stopped spent t b
unfolding gated
gate-spent C d k t b h = rw (eq-eqb t.nodes C.setting.budget h) refl

going-apart : (t : Tallies) (b : Bytes) → going t b ≡ stopped spent t b → ⊥
going-apart t b e = contradiction cc

-- the son of the node that asks stops the run
asks-stop : (c : World) (fr : List Frame) → inner_in fr ≡ true → (t : Tallies) (b : Bytes) → t.nodes ≡ c.setting.budget → yes c fr t b ≡ stopped spent t b
asks-stop c [] e t b h = contradiction cc
asks-stop c (pass β ∷ fr) e t b h = asks-stop c fr e t b h
asks-stop c (other E G is β ∷ fr) e t b h = asks-stop c fr e t b h
asks-stop c (bound l s β ∷ fr) e t b h = asks-stop c fr e t b h
asks-stop c (began l v m β ∷ fr) e t b h = asks-stop c fr e t b h
asks-stop c (given p v β ∷ fr) e t b h = asks-stop c fr e t b h
asks-stop c (range l x i n E F is β ∷ fr) e t b h = asks-stop c fr e t b h
asks-stop c (asks tok q is β f ∷ fr) e t b h = gate-spent (conditions_of c) _ _ t b h
asks-stop c (called C β ∷ fr) e t b h = asks-stop c fr e t b h

-- ---- a success leaf of an inner tree is visited

pub won-inside : {w : Words} {g : Go} {mode : Mode} (c : World) (b : Bytes) → In c b w g → ¬ (g.inner ≡ main_tree) → Yes c b w (leaf_go g mode g.bad (add_node (tallied g))) →
    WinsInside w (leaf_go g mode g.bad (add_node (tallied g)))
won-inside {w} {g} {mode} c b i n y =
    let t = add_node (tallied g) in
    let d = spent_world c t.nodes (stopped spent t b) in
    let inside = inner-inside i.fr (λ e. n (i.inner ∙ e)) in
    record {
      c = d;
      b = b;
      yes = record {
        fr = i.fr;
        α = i.α;
        path = spent-path c t.nodes (stopped spent t b) i.path;
        counted = refl;
        tallies = record { fits = omega (arith, y.tallies.fits, y.tallies.budget); budget = omega arith; leaves = y.tallies.leaves };
        result = asks-stop d i.fr inside t b refl;
      };
      more = going-apart t b;
    }
