-- `marked` meets its contract, a case for each way. Assumes nothing.
use mathlib.Core.Path.{sym, ap, ◌∙◌}
use Rattle.effects.specs.Effects.{marked_by}
use Rattle.effects.proofs.marked.Goals as goal

pub returns-in-Adding : goal.returns-in-Adding
unfolding marked_by
returns-in-Adding c =
    c.union.ensures ∙ ap (λ h. marked_by h c.args.m) (sym c.in-Adding.is)

pub returns-in-Removing : goal.returns-in-Removing
unfolding marked_by
returns-in-Removing c =
    c.without.ensures ∙ ap (λ h. marked_by h c.args.m) (sym c.in-Removing.is)
