-- All lines over cleared words, and what was due cleared again. Assumes nothing.
use mathlib.Core.Path.{ap, ◌∙◌}
use Prim.Native.Nat.{ℕ}
use lib.ListN.{length, replicate}
use Rattle.sheet.proofs.AllLines.{tabled-long}
use Rattle.sheet.proofs.Cleared.{refused-whole, found-whole}
use Rattle.sheet.proofs.read_sheet.Goals as goal

pub returns-in-Err : goal.returns-in-Err
returns-in-Err c =
    let a = c.args in
    refused-whole a.strict a.s.now (length a.w.now) c.all_lines.new.w _ _ c.in-Err.ensures
    (c.clear-in-Err.ensures ∙ ap (λ (n : ℕ). replicate n 0) (c.all_lines.auto.w ∙ c.clear.auto.w))

pub returns-in-Ok : goal.returns-in-Ok
returns-in-Ok c =
    let a = c.args in
    found-whole a.strict a.s.now (length a.w.now) _ _ _
    (c.in-Ok.ensures.0, tabled-long (c.all_lines.auto.w ∙ c.clear.auto.w) c.in-Ok.ensures.1) c.requires c.zero.ensures
