-- What a call that ran has told (the second and the third demand, that listed answers are right and no listed value is outside its range,
-- whatever ended the run), for every sheet of whatever bytes and every setting. And truth of a filling is two-valued. Assumes nothing.
use Prim.Native.Nat.{ℕ}
use mathlib.Core.Bool.{true}
use mathlib.Core.Path.{◌≡◌, refl, sym, ◌∙◌, ap, subst}
use mathlib.Core.List.{[], append-nil}
use lib.ListN.{length, take}
use Rattle.specification.specs.declared.Setting.{Setting}
use Rattle.specification.specs.declared.Tallies.{Tallies}
use Rattle.specification.specs.declared.End.{End}
use Rattle.specification.specs.declared.End.TheVariants.{Done}
use Rattle.specification.specs.Lists.{Each}
use Rattle.specification.specs.Bytes.{Bytes}
use Rattle.specification.specs.Sheet.{Sheet}
use Rattle.specification.specs.WellFormed.{WellFormed}
use Rattle.specification.specs.Listing.{Block}
use Rattle.specification.specs.Leaves.{leaves, blocks}
use Rattle.specification.specs.Outcome.{ran, root_of, visits_of, call}
use Rattle.specification.specs.Listed.{Listed}
use Rattle.specification.specs.Demand2.{leaf_count, past, leaves_before, listed_before, Ends, ReadLeftToRight}
use Rattle.specification.specs.Plain.{Filling, env, True}
use Rattle.specification.specs.Demand3.{NoPattern, Right, Agreement, Demand3}
use Rattle.specification.specs.InRanges.{InRanges}
use Rattle.specification.proofs.Laws.Past.{each-past}
use Rattle.specification.proofs.Laws.Blocks.{listing-injective}
use Rattle.specification.proofs.Laws.ReadSheet.{read-well-formed}
use Rattle.specification.proofs.Laws.Decide.{decide}
use Rattle.specification.proofs.Laws.Leaves.{leaves_in-visits, each-first-blocks}
use Rattle.specification.proofs.Laws.CallRan.{call-ran}
use Rattle.specification.proofs.Laws.Demand2.{leaves_before-is, Holds, read-left-to-right}
use Rattle.specification.proofs.Laws.Agreement.{all_blocks, right, agreement}
use Rattle.specification.proofs.Laws.InRanges.{in_ranges}
use Rattle.specification.proofs.Laws.NoPattern.{no-pattern}

-- ---- the blocks up to a place

-- the blocks of the first leaves, past the skipped ones, are among all
among : (s : Sheet) (wf : WellFormed s) (skip n : ℕ) (P : Block → Type 0) → Each P (all_blocks s wf) → Each P (listed_before s skip n)
unfolding listed_before leaves_before
among s wf skip n P h = each-past P skip _ (each-first-blocks s.declared P (leaf_count (take n (visits_of s))) (leaves (root_of s)) 0 0 h)

right-before : (s : Sheet) → WellFormed s → (skip n : ℕ) → Right s (listed_before s skip n)
right-before s wf skip n = record {
  names_given = among s wf skip n _ (right s wf).names_given;
  sound = λ φ such. among s wf skip n _ ((right s wf).sound φ such);
}

-- with nothing skipped, and all visited, they are all
all-before : (s : Sheet) (wf : WellFormed s) (skip n : ℕ) → skip ≡ 0 → n ≡ length (visits_of s) → listed_before s skip n ≡ all_blocks s wf
unfolding listed_before visits_of
all-before s wf skip n z e =
    ap (λ k. past k (blocks s.declared 0 0 (leaves_before s n))) z ∙
    ap (λ m. blocks s.declared 0 0 (leaves_before s m)) e ∙
    ap (blocks s.declared 0 0) (leaves_before-is s (visits_of s) [] (sym (append-nil (visits_of s))) ∙ leaves_in-visits (root_of s) 1)

-- ---- of a call

-- what a call that ran has told: the sheet and the blocks that stand in the bytes written, of which the second demand holds, whose answers are
-- right, which name values of the ranges only, and which agree with the plain reading where all was visited and nothing skipped; and what the tallies say of patterns
pub record Told (sheet written : Bytes) (S : Setting) (size : ℕ) (end : End) (t : Tallies) : Type 0 where
  pub listed : Listed sheet written
  pub tree : ReadLeftToRight listed.what S size end t listed.blocks
  pub right : Right listed.what listed.blocks
  pub in_ranges : InRanges listed.what.declared listed.blocks
  pub agrees : S.skip ≡ 0 → end ≡ Done → Agreement listed.what listed.blocks
  pub none : end ≡ Done → t.errors ≡ 0 → (t.answers ≡ 0 → NoPattern listed.what) × (NoPattern listed.what → t.answers ≡ 0)

pub told : (sheet : Bytes) (S : Setting) (words size : ℕ) (end : End) (t : Tallies) (w : Bytes) →
    call sheet S words size ≡ ran end t w → Told sheet w S size end t
told sheet S words size end t w h =
    let (s, r, reads, result) = call-ran sheet S words size end t w h in
    let wf = read-well-formed true sheet s r reads in
    let (bs, stands, tree) = subst (Holds s S size) result (read-left-to-right s S size) in
    record {
      listed = record {
        what = s;
        reader = r;
        reads = reads;
        blocks = bs;
        stands = stands;
        only = λ cs e. listing-injective cs bs (sym e ∙ stands);
      };
      tree = tree;
      right = rw tree.blocks (right-before s wf S.skip tree.place);
      in_ranges = rw tree.blocks (among s wf S.skip tree.place _ (in_ranges s wf));
      agrees = λ skip done.
          let all : tree.place ≡ length (visits_of s) = subst (λ e. Ends s S size e tree.place) done tree.ends in
          rw (tree.blocks, all-before s wf S.skip tree.place skip all) (agreement s wf);
      none = λ done. no-pattern s wf S size t bs (subst (λ e. ReadLeftToRight s S size e t bs) done tree);
    }

pub demand3 :
    (sheet : Bytes) (S : Setting) (words size : ℕ) (t : Tallies) (w : Bytes) →
    S.skip ≡ 0 → call sheet S words size ≡ ran Done t w → Demand3 sheet w
demand3 sheet S words size t w skip h =
    let x = told sheet S words size Done t w h in
    record { listed = x.listed; agreement = x.agrees skip refl }

-- a filling makes a sheet's formula true or it does not, so "exactly when" is two-valued
pub true-or-not : (s : Sheet) (φ : Filling) → Dec (True s φ)
unfolding True
true-or-not s φ = decide s.declared s.formula (env φ)
