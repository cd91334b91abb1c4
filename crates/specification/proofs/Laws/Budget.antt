-- A larger budget, all else equal (document 02, Five), over the places where runs of one sheet end: the run with the larger one ends no earlier,
-- so it lists what the other listed and maybe more, and no tally falls. A run that did not end spent is the same. Assumes nothing.
use Prim.Native.Nat.{ℕ, ◌≤◌, ◌<◌}
use native.Mathlib.Omega.{arith}
use mathlib.Core.Path.{◌≡◌, refl, sym, ◌∙◌, ap, subst}
use mathlib.Core.List.{List, [], ◌∷◌, ◌++◌}
use lib.ListN.{length, drop, length-drop}
use Rattle.specification.specs.declared.Setting.{Setting}
use Rattle.specification.specs.declared.Tallies.{Tallies}
use Rattle.specification.specs.declared.End.{End}
use Rattle.specification.specs.declared.End.TheVariants.{Done, Spent, Path, Output}
use Rattle.specification.specs.Sheet.{Sheet}
use Rattle.specification.specs.Listing.{Block}
use Rattle.specification.specs.Leaves.{is_answer, is_error, is_fail}
use Rattle.specification.specs.Visits.{Visit}
use Rattle.specification.specs.Run.{setting}
use Rattle.specification.specs.Outcome.{visits_of}
use Rattle.specification.specs.Demand2.{Next, Ends, visited, ReadLeftToRight}
use Rattle.specification.proofs.Laws.Lists.{Begins}
use Rattle.specification.proofs.Laws.Determined.{next-early, next-same}
use Rattle.specification.proofs.Laws.Places.{listed-grows, counts-grow}

-- ---- a run visits no more than its budget

module _ (s : Sheet) (S : Setting) (size : ℕ) where
  next-at : (n : ℕ) → n < length (visits_of s) → (v : Visit) × Next s n v
  next-at n l = go (drop n (visits_of s)) refl
    where
      go : (vs : List Visit) → drop n (visits_of s) ≡ vs → (v : Visit) × Next s n v
      go [] h = absurd (omega (arith, ap length h, length-drop n (visits_of s)))
      go (v ∷ later) h = (v, (later, h))

  ends-within : (e : End) (n : ℕ) → Ends s S size e n → n ≤ length (visits_of s)
  ends-within Done n h = omega arith
  ends-within Spent n h = omega (arith, next-early s S size n h.0 h.1)
  ends-within Path n h = omega (arith, next-early s S size n h.0 h.1)
  ends-within Output n h = omega (arith, next-early s S size n h.0 h.1)

  module _ {e : End} {t : Tallies} {bs : List Block} (p : ReadLeftToRight s S size e t bs) where
    pub place-within : p.place ≤ S.budget
    place-within =
        let not-past : ¬ (S.budget < p.place) = λ l.
        let (v, next) = next-at S.budget (omega (arith, l, ends-within e p.place p.ends)) in
        p.nowhere_before S.budget l Spent (v, next, refl) in
        omega (arith, not-past)

-- ---- two budgets

visited-least : (e : End) (n : ℕ) → n ≤ visited e n
visited-least Done n = omega arith
visited-least Spent n = omega arith
visited-least Path n = omega arith
visited-least Output n = omega arith

-- what one run listed begins what the other listed, and no tally falls
pub record Longer (t u : Tallies) (bs cs : List Block) : Type 0 where
  pub blocks : Begins bs cs
  pub nodes : t.nodes ≤ u.nodes
  pub answers : t.answers ≤ u.answers
  pub errors : t.errors ≤ u.errors
  pub fails : t.fails ≤ u.fails

module _ (s : Sheet) (limit skip budget budget' : ℕ) (more : budget ≤ budget') where
  abbrev S : Setting
  S = setting limit budget skip

  abbrev S' : Setting
  S' = setting limit budget' skip

  -- before the smaller budget is reached, the runs' conditions are the same
  same-below : (size size' n : ℕ) → n < budget → (e : End) → (e ≡ Output → size ≤ size') → Ends s S' size' e n → Ends s S size e n
  same-below size size' n l Done enough h = h
  same-below size size' n l Spent enough h = absurd (omega (arith, h.2, more))
  same-below size size' n l Path enough h = (h.0, h.1, omega arith, h.3)
  same-below size size' n l Output enough h = (h.0, h.1, omega arith, h.3, omega (arith, enough refl, h.4))

  -- ---- two runs

  module _ {size size' : ℕ} {e f : End} {t u : Tallies} {bs cs : List Block}
      (p : ReadLeftToRight s S size e t bs) (q : ReadLeftToRight s S' size' f u cs)
      -- where want of room ended the run with the larger budget, it had no less
      (enough : f ≡ Output → size ≤ size') where
    no-earlier : p.place ≤ q.place
    no-earlier =
        let not-before : ¬ (q.place < p.place) = λ l.
        let below : q.place < budget = omega (arith, l, place-within s S size p) in
        p.nowhere_before q.place l f (same-below size size' q.place below f enough q.ends) in
        omega (arith, not-before)

    -- a leaf whose block finds no room is among the nodes; there the other run ends so too, or goes on
    visited-more : (g : End) → Ends s S size g p.place → (h : End) → Ends s S' size' h q.place → visited g p.place ≤ visited h q.place
    visited-more Done x h y = omega (arith, no-earlier, visited-least h q.place)
    visited-more Spent x h y = omega (arith, no-earlier, visited-least h q.place)
    visited-more Path x h y = omega (arith, no-earlier, visited-least h q.place)
    visited-more Output x Done y = omega (arith, no-earlier, y, next-early s S size p.place x.0 x.1)
    visited-more Output x Spent y = omega (arith, no-earlier, x.2, y.2, place-within s S size p)
    visited-more Output x Path y =
        let apart : ¬ (p.place ≡ q.place) = λ same.
        let here = subst (λ n. Next s n y.0) (sym same) y.1 in
        omega (arith, x.3, y.3, next-same s S size p.place x.0 y.0 x.1 here) in
        omega (arith, no-earlier, apart)
    visited-more Output x Output y = omega (arith, no-earlier)

    pub longer : Longer t u bs cs
    longer =
        let (later, h) = listed-grows s p.place q.place no-earlier skip in
        let grows = counts-grow s p.place q.place no-earlier in
        record {
          blocks = (later, q.blocks ∙ h ∙ ap (◌++ later) (sym p.blocks));
          nodes = omega (arith, p.nodes, q.nodes, visited-more e p.ends f q.ends);
          answers = omega (arith, p.answers, q.answers, grows is_answer);
          errors = omega (arith, p.errors, q.errors, grows is_error);
          fails = omega (arith, p.fails, q.fails, grows is_fail);
        }

  -- ---- a run that did not end spent

  module _ {size : ℕ} {e : End} {t : Tallies} {bs : List Block} (p : ReadLeftToRight s S size e t bs) (other : ¬ (e ≡ Spent)) where
    within : p.place ≤ budget
    within = place-within s S size p

    ends-still : (g : End) → (¬ (g ≡ Spent)) → Ends s S size g p.place → Ends s S' size g p.place
    ends-still Done n h = h
    ends-still Spent n h = absurd (n refl)
    ends-still Path n h = (h.0, h.1, omega (arith, within, h.2), h.3)
    ends-still Output n h = (h.0, h.1, omega (arith, within, h.2), h.3, h.4)

    pub same-run : ReadLeftToRight s S' size e t bs
    same-run =
        record {
          place = p.place;
          blocks = p.blocks;
          ends = ends-still e other p.ends;
          nowhere_before = λ n l g h. p.nowhere_before n l g (same-below size size n (omega (arith, l, within)) g (λ full. omega arith) h);
          nodes = p.nodes;
          answers = p.answers;
          errors = p.errors;
          fails = p.fails;
        }
