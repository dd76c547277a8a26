-- `first_slot` meets its contract. Assumes nothing.
use mathlib.Core.Path.{refl}
use Rattle.hints.specs.Hints.{first_slot}
use Rattle.hints.proofs.Laws.{first_below}
use Rattle.hints.proofs.first_slot.Goals as goal

pub returns : goal.returns
unfolding first_slot
returns c = (refl, first_below c.args.id)
