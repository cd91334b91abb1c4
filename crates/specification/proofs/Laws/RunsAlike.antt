-- A well-formed sheet and the tidied sheet run alike: same end and same tallies, and listings that differ in their `at=` lines only, given output
-- enough for both. Trees that differ in the tokens of error leaves have visits that do, and these add blocks that do. Assumes nothing.
use Prim.Native.Nat.{ℕ, zero, suc, ◌+◌}
use native.Mathlib.Omega.{arith}
use mathlib.Core.Path.{◌≡◌, refl, sym, ◌∙◌, ap}
use mathlib.Core.Bool.{Bool, true, false}
use mathlib.Core.List.{List, [], ◌∷◌, ◌++◌, append_assoc, append-nil}
use lib.ListN.{length}
use lib.Dec.{ltb, leb, eqb}
use lib.IntN.{ℤ, pos}
use borrow.Author.Tests.{ne_eqb}
use Rattle.specification.specs.declared.Setting.{Setting}
use Rattle.specification.specs.declared.Tallies.{Tallies}
use Rattle.specification.specs.Lists.{Each}
use Rattle.specification.specs.Bytes.{Bytes, bytes, pick, begins}
use Rattle.specification.specs.Number.{printℕ, printℤ}
use Rattle.specification.specs.Lines.{scalar, element}
use Rattle.specification.specs.Sheet.{Sheet}
use Rattle.specification.specs.Value.{Valuation}
use Rattle.specification.specs.WellFormed.{WellFormed}
use Rattle.specification.specs.Tree.{Tree}
use Rattle.specification.specs.Listing.{answer_head, error_head, Named, Block, cell_names, valued, block_of, Label, answer_label, error_label, kind_label, token_label, cell_label, Line, ◌is◌, head_lines, cell_lines, block_lines, label_text, lines_text, block_text}
use Rattle.specification.specs.Leaves.{answer, error, fail}
use Rattle.specification.specs.Visits.{Event, node, leaf, Visit, at, ◌then◌, each, inside_then, inside, visits}
use Rattle.specification.specs.Run.{Conditions, conditions, add_node, add_answer, add_error, block_count, Stop, spent, path, output, Run, going, stopped, block, arrive, visit, scan}
use Rattle.specification.specs.Outcome.{result_of, visits_of, run_of}
use Rattle.specification.specs.Tidy.{tidied_procedures, tidied}
use Rattle.specification.specs.Moving.{fresh, kept, passed, without_at, RunsAlike, HadRoom}
use Rattle.specification.proofs.Laws.Lists.{each-++}
use Rattle.specification.proofs.Laws.Print.{IsDigit, Lacks, printℕ-numeral, printℤ-lacks}
use Rattle.specification.proofs.Laws.Text.{label-lacks}
use Rattle.specification.proofs.Laws.InEdition.{procedures-alike}
use Rattle.specification.proofs.Laws.Alike.{Same, successes, failures, errors, steps, forks, fans, asks, reformed, same-root}

-- ---- bytes without their `at=` lines, a line at a time; 10 is the line feed and 61 the equals sign

kept_line : (xs ys : Bytes) → Lacks 10 xs → without_at kept (xs ++ 10 ∷ ys) ≡ xs ++ 10 ∷ without_at fresh ys
unfolding without_at Each
kept_line [] ys h = refl
kept_line (x ∷ xs) ys h = rw h.0 (ap (x ∷◌) (kept_line xs ys h.1))

passed-line : (xs ys : Bytes) → Lacks 10 xs → without_at passed (xs ++ 10 ∷ ys) ≡ without_at fresh ys
unfolding without_at Each
passed-line [] ys h = refl
passed-line (x ∷ xs) ys h = ap (λ c. without_at (pick c fresh passed) (xs ++ 10 ∷ ys)) h.0 ∙ passed-line xs ys h.1

fresh-line : (xs ys : Bytes) → Lacks 10 xs →
    without_at fresh (xs ++ 10 ∷ ys) ≡ pick (begins (bytes "at=") (xs ++ 10 ∷ ys)) (without_at fresh ys) (xs ++ 10 ∷ without_at fresh ys)
unfolding without_at Each begins
fresh-line [] ys h = refl
fresh-line (x ∷ xs) ys h = rw (h.0, kept_line xs ys h.1, passed-line xs ys h.1)

-- ---- lines of a block

abbrev is_token : Label → Bool
is_token answer_label = false
is_token error_label = false
is_token kind_label = false
is_token token_label = true
is_token (cell_label n) = false

-- the letter of an array is followed by a digit
begins-digit : (xs ys zs : Bytes) → Each IsDigit xs → begins (bytes "t=") ((xs ++ 46 ∷ ys) ++ zs) ≡ false
unfolding Each begins
begins-digit [] ys zs h = refl
begins-digit (x ∷ xs) ys zs h = rw (ne_eqb 116 x (λ e. omega (arith, h.0.1)))

begins-at : (l : Label) (r : Bytes) → begins (bytes "at=") (label_text l ++ 61 ∷ r) ≡ is_token l
unfolding label_text begins
begins-at answer_label r = refl
begins-at error_label r = refl
begins-at kind_label r = refl
begins-at token_label r = refl
begins-at (cell_label (scalar n)) r = refl
begins-at (cell_label (element a e)) r = begins-digit (printℕ a) (printℕ e) (61 ∷ r) (printℕ-numeral a).all_digits

-- a line up to its feed
abbrev up_to_feed : Line → Bytes
up_to_feed l = label_text l.label ++ 61 ∷ printℤ l.value

up_to_feed-lacks : (l : Line) → Lacks 10 (up_to_feed l)
unfolding Each
up_to_feed-lacks l =
    each-++ (λ b. eqb b 10 ≡ false) (label_text l.label) (61 ∷ printℤ l.value) (label-lacks 10 tt l.label)
    (refl, printℤ-lacks 10 (λ h. omega (arith, h.0)) refl l.value)

first-line : (l : Line) (ls : List Line) (x : Bytes) → lines_text (l ∷ ls) ++ x ≡ up_to_feed l ++ 10 ∷ (lines_text ls ++ x)
unfolding lines_text
first-line l ls x = simp append_assoc

without-line : (l : Line) (ls : List Line) (x : Bytes) → let r = without_at fresh (lines_text ls ++ x) in
    without_at fresh (lines_text (l ∷ ls) ++ x) ≡ pick (is_token l.label) r (up_to_feed l ++ 10 ∷ r)
without-line l ls x =
    let r = lines_text ls ++ x in
    let whole = append_assoc (label_text l.label) (61 ∷ printℤ l.value) (10 ∷ r) in
    ap (without_at fresh) (first-line l ls x) ∙ fresh-line (up_to_feed l) r (up_to_feed-lacks l)
    ∙ ap (λ b. pick b (without_at fresh r) (up_to_feed l ++ 10 ∷ without_at fresh r))
    (ap (begins (bytes "at=")) whole ∙ begins-at l.label (printℤ l.value ++ 10 ∷ r))

-- ---- alike bytes

-- the same but for `at=` lines, and so with what follows them
record Alike (w w' : Bytes) : Type 0 where
  alike : (x x' : Bytes) → without_at fresh x ≡ without_at fresh x' → without_at fresh (w ++ x) ≡ without_at fresh (w' ++ x')

alike-none : Alike [] []
alike-none = record { alike = λ x x' e. e }

alike-++ : {w w' b b' : Bytes} → Alike w w' → Alike b b' → Alike (w ++ b) (w' ++ b')
alike-++ {w = w} {w' = w'} {b = b} {b' = b'} h k = record {
  alike = λ x x' e. rw (append_assoc w b x, append_assoc w' b' x') (h.alike (b ++ x) (b' ++ x') (k.alike x x' e));
}

alike-alone : {w w' : Bytes} → Alike w w' → without_at fresh w ≡ without_at fresh w'
alike-alone {w = w} {w' = w'} h = rw (append-nil w, append-nil w') at (h.alike [] [] refl)

module _ (ls ls' : List Line) (h : Alike (lines_text ls) (lines_text ls')) where
  line-alike : (l : Line) → Alike (lines_text (l ∷ ls)) (lines_text (l ∷ ls'))
  line-alike l = record {
    alike = λ x x' e.
        without-line l ls x ∙ ap (λ r. pick (is_token l.label) r (up_to_feed l ++ 10 ∷ r)) (h.alike x x' e) ∙ sym (without-line l ls' x');
  }

  token-alike : (y y' : ℤ) → Alike (lines_text (token_label is y ∷ ls)) (lines_text (token_label is y' ∷ ls'))
  token-alike y y' = record {
    alike = λ x x' e. without-line (token_label is y) ls x ∙ h.alike x x' e ∙ sym (without-line (token_label is y') ls' x');
  }

lines-alike : (ls : List Line) → Alike (lines_text ls) (lines_text ls)
unfolding lines_text
lines-alike [] = alike-none
lines-alike (l ∷ ls) = line-alike ls ls (lines-alike ls) l

block-alike : (b : Block) → Alike (block_text b) (block_text b)
unfolding block_text
block-alike b = lines-alike (block_lines b)

-- the blocks of an error with one token and with another
error-alike : (n kind token token' : ℕ) (cs : List Named) →
    Alike (block_text (record { head = error_head n kind token; cells = cs })) (block_text (record { head = error_head n kind token'; cells = cs }))
unfolding block_text block_lines head_lines
error-alike n kind token token' cs =
    let ls = cell_lines cs in
    let at = token-alike ls ls (lines-alike ls) (pos token) (pos token') in
    let two = line-alike _ _ at (kind_label is pos kind) in
    line-alike _ _ two (error_label is pos n)

-- ---- visits

-- the same but for the tokens of error leaves
data Told : List Visit → List Visit → Type 0 where
  no_more : Told [] []
  same : (v : Visit) {xs ys : List Visit} → Told xs ys → Told (v ∷ xs) (v ∷ ys)
  renumbered : (d kind token token' : ℕ) (β : Valuation) {xs ys : List Visit} → Told xs ys →
      Told (at d (leaf (error kind token β)) ∷ xs) (at d (leaf (error kind token' β)) ∷ ys)

told-self : (xs : List Visit) → Told xs xs
told-self [] = no_more
told-self (x ∷ xs) = same x (told-self xs)

told-then : {xs xs' ys ys' : List Visit} → Told xs xs' → Told ys ys' → Told (xs then ys) (xs' then ys')
unfolding ◌then◌
told-then no_more k = k
told-then (same v h) k = same v (told-then h k)
told-then (renumbered d kind token token' β h) k = renumbered d kind token token' β (told-then h k)

told-each : (n i : ℕ) (f f' : ℕ → List Visit) → ((j : ℕ) → Told (f j) (f' j)) → Told (each n i f) (each n i f')
unfolding each
told-each zero i f f' h = no_more
told-each (suc n) i f f' h = told-then (h i) (told-each n (suc i) f f' h)

-- an inner tree's leaves count as nodes
told-inside : {xs ys : List Visit} → Told xs ys → inside xs ≡ inside ys
unfolding inside
told-inside no_more = refl
told-inside (same v h) = ap (inside_then v.depth v.event) (told-inside h)
told-inside (renumbered d kind token token' β h) = ap (at d node ∷◌) (told-inside h)

told-visits : {T T' : Tree} → Same T T' → (d : ℕ) → Told (visits d T) (visits d T')
unfolding visits
told-visits (successes {β = β}) d = same (at d (leaf (answer β))) no_more
told-visits failures d = same (at d (leaf fail)) no_more
told-visits (errors {κ = κ} {t = t} {t' = t'} {β = β}) d = renumbered d κ t t' β no_more
told-visits (steps h) d = same (at d node) (told-visits h (suc d))
told-visits (forks h k) d = same (at d node) (told-then (told-visits h (suc d)) (told-visits k (suc d)))
told-visits (fans {n = n} f f' h) d =
    same (at d node) (told-each n 0 (λ i. visits (suc d) (f i)) (λ i. visits (suc d) (f' i)) (λ i. told-visits (h i) (suc d)))
told-visits (asks {I = I} {I' = I'} h k) d =
    rw (told-inside (told-visits h (suc d))) (same (at d node) (told-then (told-self (inside (visits (suc d) I'))) (told-visits k (suc d))))

-- ---- runs

-- alike so far, or one of them stopped for want of room
data Both : Run → Run → Type 0 where
  on : {t : Tallies} {w w' : Bytes} → Alike w w' → Both (going t w) (going t w')
  off : {e : Stop} {t : Tallies} {w w' : Bytes} → Alike w w' → Both (stopped e t w) (stopped e t w')
  one-full : {t : Tallies} {w : Bytes} {r : Run} → Both (stopped output t w) r
  other-full : {t : Tallies} {w : Bytes} {r : Run} → Both r (stopped output t w)

both-results : {r r' : Run} → Both r r' → HadRoom (result_of r) → HadRoom (result_of r') → RunsAlike (result_of r) (result_of r')
both-results (on h) a b = (refl, refl, alike-alone h)
both-results (off h) a b = (refl, refl, alike-alone h)
both-results one-full a b = absurd (a refl)
both-results other-full a b = absurd (b refl)

module _ (C : Conditions) where
  block-both : (t t' : Tallies) (w w' b b' : Bytes) → Alike w w' → Alike b b' → Both (block C t t' w b) (block C t t' w' b')
  unfolding block
  block-both t t' w w' b b' h k =
      go (ltb (block_count t) C.setting.skip) (leb (length w + length b) C.size) (leb (length w' + length b') C.size)
    where
      go : (skip room room' : Bool) → Both (pick skip (going t' w) (pick room (going t' (w ++ b)) (stopped output t w)))
          (pick skip (going t' w') (pick room' (going t' (w' ++ b')) (stopped output t w')))
      go true room room' = on h
      go false true true = on (alike-++ h k)
      go false true false = other-full
      go false false room' = one-full

  arrive-both : (e : Event) (t : Tallies) (w w' : Bytes) → Alike w w' → Both (arrive C e t w) (arrive C e t w')
  unfolding arrive
  arrive-both node t w w' h = on h
  arrive-both (leaf fail) t w w' h = on h
  arrive-both (leaf (answer β)) t w w' h =
      let b = block_of C.declared (answer_head (suc t.answers)) β in
      block-both t (add_answer t) w w' (block_text b) (block_text b) h (block-alike b)
  arrive-both (leaf (error kind token β)) t w w' h =
      let b = block_of C.declared (error_head (suc t.errors) kind token) β in
      block-both t (add_error t) w w' (block_text b) (block_text b) h (block-alike b)

  error-both : (kind token token' : ℕ) (β : Valuation) (t : Tallies) (w w' : Bytes) → Alike w w' →
      Both (arrive C (leaf (error kind token β)) t w) (arrive C (leaf (error kind token' β)) t w')
  unfolding arrive block_of
  error-both kind token token' β t w w' h =
      block-both t (add_error t) w w' _ _ h (error-alike (suc t.errors) kind token token' (valued C.declared β (cell_names C.declared)))

  visit-both : (d : ℕ) (e e' : Event) (t : Tallies) (w w' : Bytes) → Alike w w' → Both (arrive C e (add_node t) w) (arrive C e' (add_node t) w') →
      Both (visit C (at d e) t w) (visit C (at d e') t w')
  unfolding visit
  visit-both d e e' t w w' h k = go (eqb t.nodes C.setting.budget) (ltb C.setting.path d)
    where
      go : (b c : Bool) → Both (pick b (stopped spent t w) (pick c (stopped path t w) (arrive C e (add_node t) w)))
          (pick b (stopped spent t w') (pick c (stopped path t w') (arrive C e' (add_node t) w')))
      go true c = off h
      go false true = off h
      go false false = k

  scan-both : {xs ys : List Visit} → Told xs ys → {r r' : Run} → Both r r' → Both (scan C r xs) (scan C r' ys)
  unfolding scan
  scan-both no_more b = b
  scan-both (same v h) (on {t = t} {w = w} {w' = w'} a) =
      scan-both h (visit-both v.depth v.event v.event t w w' a (arrive-both v.event (add_node t) w w' a))
  scan-both (renumbered d kind token token' β h) (on {t = t} {w = w} {w' = w'} a) =
      scan-both h (visit-both d (leaf (error kind token β)) (leaf (error kind token' β)) t w w' a (error-both kind token token' β (add_node t) w w' a))
  scan-both (same v h) (off a) = off a
  scan-both (renumbered d kind token token' β h) (off a) = off a
  scan-both (same v h) one-full = one-full
  scan-both (renumbered d kind token token' β h) one-full = one-full
  scan-both (same v h) other-full = other-full
  scan-both (renumbered d kind token token' β h) other-full = other-full

-- ---- a sheet and the tidied sheet

module _ (s : Sheet) (well : WellFormed s) (S : Setting) (size : ℕ) where
  both_run : Both (run_of s S size) (run_of (reformed s) S size)
  unfolding run_of visits_of
  both_run = scan-both (conditions s.declared S size) (told-visits (same-root s well) 1) (on alike-none)

  pub tidied-runs : HadRoom (result_of (run_of s S size)) → HadRoom (result_of (run_of (tidied s) S size)) →
      RunsAlike (result_of (run_of s S size)) (result_of (run_of (tidied s) S size))
  unfolding tidied
  tidied-runs = rw (procedures-alike (tidied_procedures [] s.declared.procedures) (reformed s) S size) (both-results both_run)
