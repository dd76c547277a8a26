-- `second_slot` meets its contract. Assumes nothing.
use mathlib.Core.Path.{refl}
use Rattle.hints.specs.Hints.{second_slot}
use Rattle.hints.proofs.Laws.{second_below}
use Rattle.hints.proofs.second_slot.Goals as goal

pub returns : goal.returns
unfolding second_slot
returns c = (refl, second_below c.args.id)
