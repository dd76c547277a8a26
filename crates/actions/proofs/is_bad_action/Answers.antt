-- `is_bad_action` meets its contract. Assumes nothing.
use Rattle.rules.specs.Refusals.{over_last, bad_action}
use Rattle.actions.proofs.is_bad_action.Goals as goal

pub returns : goal.returns
unfolding bad_action over_last
returns c = rw c.is_unstorable.ensures
