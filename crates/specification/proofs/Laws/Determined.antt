-- The second demand leaves nothing open: two runs of a sheet under one setting that both meet it ended at the same place, in the same way,
-- with the same tallies and the same blocks. Assumes nothing.
use Prim.Native.Nat.{ℕ, ◌<◌}
use native.Mathlib.Omega.{arith}
use mathlib.Core.Path.{◌≡◌, refl, sym, ◌∙◌, ap, subst}
use mathlib.Core.List.{List, ◌∷◌}
use lib.ListN.{length, length-drop}
use Rattle.specification.specs.declared.Setting.{Setting}
use Rattle.specification.specs.declared.Tallies.{Tallies}
use Rattle.specification.specs.declared.End.{End}
use Rattle.specification.specs.declared.End.TheVariants.{Done, Spent, Path, Output}
use Rattle.specification.specs.Bytes.{Bytes}
use Rattle.specification.specs.Sheet.{Sheet}
use Rattle.specification.specs.Listing.{Block, listing_text}
use Rattle.specification.specs.Leaves.{is_answer, is_error, is_fail, how_many}
use Rattle.specification.specs.Visits.{Visit}
use Rattle.specification.specs.Run.{tallies, Run, going, stopped}
use Rattle.specification.specs.Outcome.{ran, end_of, result_of, visits_of, run_of}
use Rattle.specification.specs.Demand2.{leaves_before, listed_before, Next, Ends, visited, ReadLeftToRight}
use Rattle.specification.proofs.Laws.Demand2.{Holds, read-left-to-right}

module _ (s : Sheet) (S : Setting) (size : ℕ) where
  -- ---- at one place the condition of one end holds

  pub next-early : (n : ℕ) (v : Visit) → Next s n v → n < length (visits_of s)
  next-early n v (later, e) = omega (arith, length-drop n (visits_of s), ap length e)

  pub next-same : (n : ℕ) (u v : Visit) → Next s n u → Next s n v → u.depth ≡ v.depth
  next-same n u v (us, p) (vs, q) = let r : u ∷ us ≡ v ∷ vs = sym p ∙ q in let e : u ≡ v = cc in ap (λ (x : Visit). x.depth) e

  one_end : (n : ℕ) (e f : End) → Ends s S size e n → Ends s S size f n → e ≡ f
  one_end n Done Done p q = refl
  one_end n Done Spent p q = absurd (omega (arith, p, next-early n q.0 q.1))
  one_end n Done Path p q = absurd (omega (arith, p, next-early n q.0 q.1))
  one_end n Done Output p q = absurd (omega (arith, p, next-early n q.0 q.1))
  one_end n Spent Done p q = absurd (omega (arith, q, next-early n p.0 p.1))
  one_end n Spent Spent p q = refl
  one_end n Spent Path p q = absurd (q.2 p.2)
  one_end n Spent Output p q = absurd (q.2 p.2)
  one_end n Path Done p q = absurd (omega (arith, q, next-early n p.0 p.1))
  one_end n Path Spent p q = absurd (p.2 q.2)
  one_end n Path Path p q = refl
  one_end n Path Output p q = absurd (omega (arith, p.3, q.3, next-same n p.0 q.0 p.1 q.1))
  one_end n Output Done p q = absurd (omega (arith, q, next-early n p.0 p.1))
  one_end n Output Spent p q = absurd (p.2 q.2)
  one_end n Output Path p q = absurd (omega (arith, p.3, q.3, next-same n p.0 q.0 p.1 q.1))
  one_end n Output Output p q = refl

  -- ---- and it is the first place where one holds

  module _ {e f : End} {t u : Tallies} {bs cs : List Block} (p : ReadLeftToRight s S size e t bs) (q : ReadLeftToRight s S size f u cs) where
    one_place : p.place ≡ q.place
    one_place =
        let a : ¬ (p.place < q.place) = λ l. q.nowhere_before p.place l e p.ends in
        let b : ¬ (q.place < p.place) = λ l. p.nowhere_before q.place l f q.ends in
        omega (arith, a, b)

    same_end : e ≡ f
    same_end = one_end q.place e f (subst (Ends s S size e) one_place p.ends) q.ends

    same-tallies : t ≡ u
    same-tallies =
        let a : t.nodes ≡ u.nodes = p.nodes ∙ ap (visited e) one_place ∙ ap (λ x. visited x q.place) same_end ∙ sym q.nodes in
        let b : t.answers ≡ u.answers = p.answers ∙ ap (λ n. how_many is_answer (leaves_before s n)) one_place ∙ sym q.answers in
        let c : t.errors ≡ u.errors = p.errors ∙ ap (λ n. how_many is_error (leaves_before s n)) one_place ∙ sym q.errors in
        let d : t.fails ≡ u.fails = p.fails ∙ ap (λ n. how_many is_fail (leaves_before s n)) one_place ∙ sym q.fails in
        ap (λ n. tallies n t.answers t.errors t.fails) a ∙ ap (λ n. tallies u.nodes n t.errors t.fails) b ∙
        ap (λ n. tallies u.nodes u.answers n t.fails) c ∙ ap (λ n. tallies u.nodes u.answers u.errors n) d

    pub determined : (e ≡ f) × (t ≡ u) × (bs ≡ cs)
    determined = (same_end, same-tallies, p.blocks ∙ ap (listed_before s S.skip) one_place ∙ sym q.blocks)

  -- so it is the run's own
  pub run_is : {e : End} {t : Tallies} {bs : List Block} → ReadLeftToRight s S size e t bs → result_of (run_of s S size) ≡ ran e t (listing_text bs)
  run_is {e} {t} {bs} p = go (run_of s S size) (read-left-to-right s S size)
    where
      same : (f : End) (u : Tallies) (w : Bytes) → Holds s S size (ran f u w) → ran f u w ≡ ran e t (listing_text bs)
      same f u w (cs, stands, q) =
          let (a, b, c) = determined p q in
          ap (λ x. ran x u w) (sym a) ∙ ap (λ x. ran e x w) (sym b) ∙ ap (ran e t) (stands ∙ ap listing_text (sym c))

      go : (r : Run) → Holds s S size (result_of r) → result_of r ≡ ran e t (listing_text bs)
      go (going u w) h = same Done u w h
      go (stopped f u w) h = same (end_of f) u w h
