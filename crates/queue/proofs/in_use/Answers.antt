-- `in_use` meets its contract. Assumes nothing.
use mathlib.Core.Path.{refl}
use Rattle.rules.specs.Store.{in_use}
use Rattle.queue.proofs.in_use.Goals as goal

pub returns : goal.returns
unfolding in_use
returns c = refl
