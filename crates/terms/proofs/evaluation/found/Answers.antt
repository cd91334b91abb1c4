-- `evaluation::found` meets its contract. Assumes nothing.
use mathlib.Core.Path.{◌∙◌, ap}
use Prim.Native.Nat.{ℕ}
use Rattle.terms.specs.Results.{error_of}
use Rattle.terms.proofs.Laws.Results.{packs-fault}
use Rattle.terms.proofs.evaluation.found.Goals as goal

pub returns-in-Err : goal.returns-in-Err
returns-in-Err c =
    let a = c.args in
    packs-fault a.computed a.at _ (c.error.ensures ∙ ap (λ (κ : ℕ). error_of κ a.at) c.into.ensures) c.in-Err.is
