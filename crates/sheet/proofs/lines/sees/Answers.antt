-- By the class at the place. Assumes nothing.
use mathlib.Core.Path.{◌∙◌, sym}
use Rattle.text.proofs.Laws.Class.{eq-yes, eq-no}
use Rattle.sheet.proofs.Keys.{class-tells}
use Rattle.sheet.proofs.lines.sees.Goals as goal

pub returns : goal.returns
returns c = class-tells _ _ _ _ (λ q. eq-yes _ _ _ c.class_at.ensures _ (sym c.eq.ensures ∙ q)) (λ q. eq-no _ _ _ c.class_at.ensures _ (sym c.eq.ensures ∙ q))
