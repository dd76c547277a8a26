-- `stored_of` meets its contract. Assumes nothing.
use Rattle.rules.specs.Actions.{stored}
use Rattle.actions.proofs.stored_of.Goals as goal

pub returns : goal.returns
unfolding stored
returns c = rw c.maskable.ensures
