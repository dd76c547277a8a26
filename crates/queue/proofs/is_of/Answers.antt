-- `is_of` meets its contract. Assumes nothing.
use mathlib.Core.Path.{refl}
use Rattle.rules.specs.View.{same_queue}
use Rattle.queue.proofs.is_of.Goals as goal

pub returns : goal.returns
unfolding same_queue
returns c = refl
