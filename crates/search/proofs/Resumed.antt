-- Going up: the topmost record's node has another son. Assumes nothing.
use Prim.Native.Nat.{ℕ, suc, ◌+◌, ◌-◌, ◌≤◌, ◌<◌}
use native.Mathlib.Omega.{arith}
use mathlib.Core.Path.{◌≡◌, refl, ◌∙◌, ap, subst}
use mathlib.Core.Bool.{Bool}
use mathlib.Core.List.{List, [], ◌∷◌}
use Rattle.specification.specs.declared.Setting.{Setting}
use Rattle.specification.specs.Bytes.{Bytes}
use Rattle.specification.specs.Run.{tallies}
use Rattle.specification.proofs.Laws.Contradiction.{contradiction}
use Rattle.tables.specs.Layout.{cells_at, token_slot, path_at}
use Rattle.tables.specs.Codes.{or_code}
use Rattle.sheet.specs.Tables.{Words}
use Rattle.sheet.specs.Held.{Holds, end_at}
use Rattle.terms.specs.Environment.{number_of}
use Rattle.terms.proofs.Laws.Here.{operand-here}
use Rattle.search.specs.Marks.{marks_in, Marks}
use Rattle.search.specs.declared.Errors.{Errors}
use Rattle.search.specs.declared.Go.{Go}
use Rattle.search.specs.States.{errors_of}
use Rattle.search.specs.declared.Mode.TheVariants as modes
use Rattle.plan.specs.Next.{token}
use Rattle.search.specs.Walk.{walk}
use Rattle.search.specs.Frame.{form, What, the, Frame, pass, other, bound, began, given, range, asks, called, below, len, top_of, inner_in, site_in, store_in}
use Rattle.search.specs.Records.{at}
use Rattle.search.specs.Path.{World, conditions_of, Job, Path}
use Rattle.search.specs.Sim.{yes, no, tree, Down, Up, Yes, Over, down, done}
use Rattle.search.specs.Registers.{tallied, Tallied, Gauge, out_go, drop_go, resume_go}
use Rattle.search.specs.Climb.{strip, Set, Rises, Rose, Wins, Fell}
use Rattle.search.proofs.RecordsKept.{top-low}
use Rattle.search.proofs.Restored.{yes-again, fell}
use Rattle.search.proofs.Sites.{site-depth}
use Rattle.search.proofs.Changes.{kept_refl}
use Rattle.search.proofs.Paths.{path-top, path-pop}
use Rattle.search.proofs.Stripped.{Left, up-strip, yes-strip}
use Rattle.search.proofs.Tops.{not-stripped, top-other}

-- ---- a son is due, all visits counted

module _ (g : Go) (due depth top inner : ℕ) (bad : Errors) (setting : Setting) where
  resume-gauge : {c : World} → Set c setting → Tallied c g → depth ≤ setting.path → Gauge c (resume_go g due depth top inner bad setting)
  resume-gauge st q h = record {
    tallies = record { fits = q.fits; budget = q.budget; leaves = q.leaves };
    begun = omega arith;
    below = omega arith;
    stop = rw (st.path_is, st.budget_is) refl;
  }

  resume-tallied : tallied (resume_go g due depth top inner bad setting) ≡ g.tallies
  resume-tallied =
      let same : g.tallies.nodes + (depth - depth) ≡ g.tallies.nodes = omega arith in
      ap (λ n. tallies n g.tallies.answers g.tallies.errors g.tallies.fails) same

-- the frame f on top
pub resumed : {c : World} {b : Bytes} {w : Words} {g : Go} {setting : Setting} → Set c setting → Tallied c g → (f : Frame) (fr : List Frame)
    {due depth top inner : ℕ} {bad : Errors} → Path c w top (below f) (f ∷ fr) → depth ≡ suc (len fr) → (x : What) (e : Bool) → inner ≡ (site_in (f ∷ fr)).inner → bad ≡ errors_of e →
    Job c w (store_in (f ∷ fr)) (below f) due x →
    walk (conditions_of c) (inner_in (f ∷ fr)) (suc (suc (len fr))) (tree c (f ∷ fr) x (below f)) (yes c (f ∷ fr)) (no c (f ∷ fr)) e g.tallies b ≡ c.result →
    Down c b w (resume_go g due depth top inner bad setting)
resumed {g = g} {setting = setting} st q f fr {due} {depth} {top} {inner} {bad} P deep x e n m j r = record {
  x = x;
  fr = f ∷ fr;
  α = below f;
  e = e;
  path = P;
  deep = deep;
  inner = n;
  bad = m;
  job = j;
  gauge = resume-gauge g due depth top inner bad setting st q (omega (arith, P.inside, st.path_is));
  result = rw (resume-tallied g due depth top inner bad setting, deep) r;
}

-- a step up to a visit
pub rose-down : {w w' : Words} {g q : Go} {due depth top inner : ℕ} {bad : Errors} {setting : Setting} → q ≡ resume_go g due depth top inner bad setting →
    ((c : World) (b : Bytes) → Set c setting → Up c b w g → Down c b w' (resume_go g due depth top inner bad setting)) → Rose w w' g q setting
rose-down e f = rw e (record {
  sim = λ c b s u. down refl (f c b s u);
  nodes = refl;
  counted = refl;
  falls = λ m. contradiction cc;
})

-- ---- the second son of an `or`

module _ {w : Words} {g : Go} (some : ¬ (g.top ≡ path_at)) (low : at w (g.top - 1) < cells_at) (code : at w (at w (g.top - 1)) ≡ or_code) where
  pub rose-other : {setting : Setting} {q : Go} → q ≡ resume_go g (at w (at w (g.top - 1) + 1)) (at w (g.top - 2)) (g.top - 2) g.inner g.bad setting →
      Rose w w g q setting
  rose-other {setting} e = rose-down e (λ c b st u.
      let s = up-strip c u in
      top-other (λ fr. Left c b g u.e fr → Down c b w (resume_go g (at w (at w (g.top - 1) + 1)) (at w (g.top - 2)) (g.top - 2) g.inner g.bad setting))
      some low code
      (λ E G is β fr P left.
      let r = P.stack.0 in
      let z1 : g.top - 1 ≡ top_of fr + 1 = omega (arith, P.ends) in
      let z2 : g.top - 2 ≡ top_of fr = omega (arith, P.ends) in
      let tok : at w (g.top - 1) ≡ token_slot r.h = ap (at w) z1 ∙ r.token in
      let deep : at w (g.top - 2) ≡ suc (len fr) = ap (at w) z2 ∙ r.depth ∙ ap suc (site-depth fr) in
      let due : at w (at w (g.top - 1) + 1) ≡ token_slot (end_at c.tables (suc r.h)) =
      ap (λ k. at w (k + 1)) tok ∙ operand-here c.tables w P.tables.tokens r.small ∙ r.leads in
      resumed st u.tallies (pass β) fr
      (path-top P (kept_refl (top_of fr) w) (pass β) (omega (arith, P.ends)) refl tt (subst (Holds w) P.chain.0 P.holds)
      (subst (λ γ. Marks w γ (marks_in c.declared (site_in fr).marks)) P.chain.0 P.marks) P.stored P.chain.1)
      deep (the (form E G ∷ is)) u.e left.0 u.bad
      (record {
        m = number_of E;
        next = token (end_at c.tables (suc r.h));
        place = due;
        rest = record {
          i = end_at c.tables (suc r.h);
          n = r.n;
          leads = refl;
          from = tt;
          inside = r.inside;
          stands = r.stands;
          env = r.env;
          later = omega arith;
          scoped = r.scoped;
          rest = r.rest;
        };
      })
      left.1)
      s.fr s.bare s.path s.said)

  -- it is not visited after a success
  other-yes : (c : World) (b : Bytes) → Yes c b w g → Yes c b w (drop_go g (g.top - 2) g.inner)
  other-yes c b u =
      let s = yes-strip c u in
      top-other (λ fr. yes c fr g.tallies b ≡ c.result → Yes c b w (drop_go g (g.top - 2) g.inner)) some low code
      (λ E G is β fr P r.
      let z : g.top - 2 ≡ top_of fr = omega (arith, P.ends) in
      yes-again u {β = β} {fr = fr}
      (rw z
      (path-pop P (kept_refl (top_of fr) w) (subst (Holds w) P.chain.0 P.holds)
      (subst (λ γ. Marks w γ (marks_in c.declared (site_in fr).marks)) P.chain.0 P.marks) P.stored)) r)
      s.fr s.bare s.path s.said

  pub fell-other : {q : Go} → Wins w g → q ≡ drop_go g (g.top - 2) g.inner → Fell w w g q
  fell-other u e = fell e (let z = u.yes.path.ends in omega (arith, top-low u.yes.fr)) other-yes

-- ---- no record is left

module _ {w : Words} {g : Go} (none : g.top ≡ path_at) where
  all-over : (c : World) (b : Bytes) → Up c b w g → Over c b (out_go g modes.Done)
  all-over c b u = let s = up-strip c u in go s.fr s.bare s.path.ends s.said
    where
      go : (fr : List Frame) → strip fr ≡ fr → g.top ≡ top_of fr → Left c b g u.e fr → Over c b (out_go g modes.Done)
      go [] h z q = record {
        counted = u.counted;
        tallies = record { fits = u.tallies.fits; budget = u.tallies.budget; leaves = u.tallies.leaves };
        result = q.1;
      }
      go (pass β ∷ fr) h z q = absurd (not-stripped β fr h)
      go (other E G is β ∷ fr) h z q = absurd (omega (arith, top-low fr))
      go (bound l s β ∷ fr) h z q = absurd (omega (arith, top-low fr))
      go (began l v m β ∷ fr) h z q = absurd (omega (arith, top-low fr))
      go (given p v β ∷ fr) h z q = absurd (omega (arith, top-low fr))
      go (range l x i n E F is β ∷ fr) h z q = absurd (omega (arith, top-low fr))
      go (asks tok x is β e ∷ fr) h z q = absurd (omega (arith, top-low fr))
      go (called C β ∷ fr) h z q = absurd (omega (arith, top-low fr))

  pub rose-over : {setting : Setting} {q : Go} → Rises w g setting → q ≡ out_go g modes.Done → Rose w w g q setting
  rose-over r e = rw e (record {
    sim = λ c b s u. done refl (all-over c b u);
    nodes = refl;
    counted = r.up.counted;
    falls = λ m. contradiction cc;
  })
