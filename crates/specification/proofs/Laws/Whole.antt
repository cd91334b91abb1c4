-- What a run has written is whole blocks, and it fits the output (the first demand). Assumes nothing.
use Prim.Native.Nat.{ℕ, ◌+◌, ◌≤◌}
use native.Mathlib.Omega.{arith}
use mathlib.Core.Path.{◌≡◌, refl, sym, ◌∙◌, ap, subst}
use mathlib.Core.List.{List, [], ◌∷◌, ◌++◌, append_assoc, append-nil}
use mathlib.Core.Option.{Option, none, some}
use lib.ListN.{length, length-append}
use Rattle.specification.specs.declared.Setting.{Setting}
use Rattle.specification.specs.declared.Tallies.{Tallies}
use Rattle.specification.specs.declared.End.{End}
use Rattle.specification.specs.Bytes.{Bytes}
use Rattle.specification.specs.Visits.{Visit}
use Rattle.specification.specs.Listing.{Block, block_text, listing_text}
use Rattle.specification.specs.Run.{Conditions, conditions, going, scan}
use Rattle.specification.specs.Outcome.{ran, written, visits_of, run_of, call}
use Rattle.specification.proofs.Laws.Stops.{due_text, due_under}
use Rattle.specification.proofs.Laws.Run.{written_by, scan-induction}
use Rattle.specification.proofs.Laws.CallRan.{call-ran}

-- blocks after these bytes
abbrev Blocks : Bytes → Bytes → Type 0
Blocks w b = (bs : List Block) × (b ≡ w ++ listing_text bs)

none_more : (w : Bytes) → Blocks w w
unfolding listing_text
none_more w = ([], sym (append-nil w))

more : (w b : Bytes) (o : Option Block) → Blocks (w ++ due_text o) b → Blocks w b
unfolding listing_text
more w b none (bs, e) = (bs, e ∙ ap (◌++ listing_text bs) (append-nil w))
more w b (some x) (bs, e) = (x ∷ bs, e ∙ append_assoc w (block_text x) (listing_text bs))

pub room : (w : Bytes) (o : Option Block) (size : ℕ) → length w ≤ size → ((x : Block) → o ≡ some x → length w + length (block_text x) ≤ size) → length (w ++ due_text o) ≤ size
room w none size h k = rw (append-nil w) h
room w (some x) size h k = rw length-append (k x refl)

module _ (C : Conditions) where
  pub scan-whole : (vs : List Visit) (t : Tallies) (w : Bytes) → Blocks w (written_by (scan C (going t w) vs))
  scan-whole =
      scan-induction C (λ t w vs r. Blocks w (written_by r))
      (λ t w. none_more w) (λ v vs t w e m. none_more w) (λ v vs t w r m h. more w (written_by r) (due_under C t v.event) h)

  pub scan-fits : (vs : List Visit) (t : Tallies) (w : Bytes) → length w ≤ C.size → length (written_by (scan C (going t w) vs)) ≤ C.size
  scan-fits =
      scan-induction C (λ t w vs r. length w ≤ C.size → length (written_by r) ≤ C.size)
      (λ t w h. h) (λ v vs t w e m h. h) (λ v vs t w r m ih h. ih (room w (due_under C t v.event) C.size h m.2))

-- ---- of a call

pub whole-blocks : (sheet : Bytes) (S : Setting) (words size : ℕ) (e : End) (t : Tallies) (w : Bytes) →
    call sheet S words size ≡ ran e t w → (bs : List Block) × (w ≡ listing_text bs) × (length w ≤ size)
unfolding run_of
whole-blocks sheet S words size e t w h =
    let (s, r, reads, result) = call-ran sheet S words size e t w h in
    let q : written_by (run_of s S size) ≡ w = ap written result in
    let (bs, b) = scan-whole (conditions s.declared S size) (visits_of s) _ [] in
    (bs, sym q ∙ b, subst (λ x. length x ≤ size) q (scan-fits (conditions s.declared S size) (visits_of s) _ [] (omega arith)))
